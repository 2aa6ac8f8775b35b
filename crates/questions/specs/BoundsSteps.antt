-- The steps of the call `bounds`: the loops over the two lists, and its answer. Assumes nothing.
use Rattle.std.specs.Prelude.{◌≡◌, refl, Bool, not, List, ℕ, ◌+◌, ◌≤◌, ◌<◌, min, leb, eqb, length, get_or, take, drop}
use Rattle.std.proofs.Math.Path.{sym, ap, ap₂}
use Rattle.std.proofs.Common.{subst, ◌∙◌, arith, length-take-le, get_or-take, ext_get_or, le-leb, eqb-true, ne_eqb}
use Rattle.std.proofs.Math.Bool.{true, false}
use Rattle.std.proofs.lemmas.Bool.{false≢true, lt-leb, not-false}
use Rattle.std.proofs.Math.Decide.{dec_lt}
use Rattle.std.proofs.lemmas.List.{length-map}
use Rattle.common.specs.Lists.{every, zip_with}
use Rattle.checks.specs.declared.Refusal.{Refusal}
use Rattle.sheet.specs.declared.Reading.{Reading}
use Rattle.checks.specs.Limits.{max_slots, max_blowers}
use Rattle.checks.specs.Refusals.{bad_list}
use Rattle.checks.specs.Sheet.{Sheet}
use Rattle.checks.specs.Checks.{fault, first_refusal}
use Rattle.common.specs.Buffers.{padded}
use Rattle.sheet.specs.OwnChecks.{ReadFrom}
use Rattle.sheet.proofs.OwnCheckLaws.{refused_before, accepted_before}
use Rattle.common.specs.Tests.{or_false, false_of_not_true}
use Rattle.common.specs.BufferLaws.{length_padded}
use Rattle.schedules.specs.Schedules.{Demand, Windows, at_most, feasible}
use Rattle.schedules.specs.Demands.{demands_of}
use Rattle.questions.specs.Calls.{bounds_fault, bounds_refusal, cut_highs, sheet_feasible, bounds_for}
use Rattle.placing.specs.Rations.{demands_from}
use Rattle.placing.specs.Words.{WindowWords, VolumeBytes}
use Rattle.placing.specs.WordLaws.{windows_of_day, volumes_of_day}
use Rattle.placing.specs.FeasibilityParts.{CanAsk, WordsAnswered}
use Rattle.placing.specs.FeasibilitySteps.{demand_words, ration_words}
use Rattle.questions.specs.BoundsParts.{SmallLows}
use Rattle.schedules.specs.Tabulate.{get_d_map_below, length_zip_with, get_d_zip_with, at_most_at, at_at_most}
use Rattle.schedules.proofs.FeasibleLaws.{feasible_sound}
use Rattle.schedules.proofs.DemandLaws.{windows_demands_of}
use Rattle.placing.specs.ReadLaws.{SheetRead, sheet_read_lem}
use Rattle.marks.proofs.EveryLaws.{every_miss, every_hit, every_end}
use Rattle.common.specs.FillLaws.{FilledTo, filled_end, get_d_padded, padded_past, take_padded}

-- The highs, cut ------------------------------------------------------------------

pub length_cut_highs : (m : ℕ) (highs : List ℕ) → length (cut_highs m highs) ≡ length highs
unfolding cut_highs
length_cut_highs m highs = length-map highs (min m)

pub cut_highs_at : (m : ℕ) (highs : List ℕ) (t : ℕ) → t < length highs → min m (get_or highs t 0) ≡ get_or (cut_highs m highs) t 0
unfolding cut_highs
cut_highs_at m highs t l = sym (get_d_map_below (min m) highs t 0 0 l)

-- the high of slot t, cut
abbrev pub cut_at : ℕ → List ℕ → ℕ → ℕ
cut_at m highs t = min m (get_or highs t 0)

pub cut_end : (m : ℕ) (highs : List ℕ) → length highs ≤ max_slots → (t : ℕ) → t ≡ length highs → (xs : List ℕ)
    → FilledTo max_slots (cut_at m highs) t xs → xs ≡ padded max_slots (cut_highs m highs)
cut_end m highs l t e xs h =
    let c = length_cut_highs m highs in
    filled_end max_slots (cut_highs m highs) (cut_at m highs) t (e ∙ sym c) (omega arith) (λ k p. cut_highs_at m highs k (rw c at p)) xs h

-- where none is above m, none is cut
cut_highs_small : (m : ℕ) (xs : List ℕ) → ((t : ℕ) → t < length xs → get_or xs t 0 ≤ m) → cut_highs m xs ≡ xs
cut_highs_small m xs h =
    ext_get_or 0 (cut_highs m xs) xs (length_cut_highs m xs) (λ t l.
    let k : t < length xs = omega (arith, length_cut_highs m xs) in
    sym (cut_highs_at m xs t k) ∙ min_is m (get_or xs t 0) (h t k))
  where
    min_is : (m x : ℕ) → x ≤ m → min m x ≡ x
    min_is m x l = omega arith

-- The lows ------------------------------------------------------------------------

abbrev pub low_at : List ℕ → ℕ → ℕ
low_at lows t = get_or lows t 0

pub low_end : (lows : List ℕ) → length lows ≤ max_slots → (t : ℕ) → t ≡ length lows → (xs : List ℕ) → FilledTo max_slots (low_at lows) t xs
    → xs ≡ padded max_slots lows
low_end lows l t e xs h = filled_end max_slots lows (low_at lows) t e l (λ k p. refl) xs h

-- low ≤ high, slot by slot ----------------------------------------------------------

module _ (lows H : List ℕ) (h : length lows ≤ length H) where
  abbrev tests : List Bool
  tests = zip_with leb lows (take (length lows) H)

  length_tests : length tests ≡ length lows
  length_tests = length_zip_with leb lows (take (length lows) H) refl (length-take-le (length lows) H h)

  tests_at : (t : ℕ) → t < length lows → get_or tests t false ≡ leb (get_or lows t 0) (get_or H t 0)
  tests_at t l =
      get_d_zip_with leb lows (take (length lows) H) 0 0 false t l (rw (length-take-le (length lows) H h) l)
      ∙ ap (leb (get_or lows t 0)) (get_or-take (length lows) H t 0 l)

  module _ (t : ℕ) where
    pub order_hit : t < length lows → get_or H t 0 < get_or lows t 0 → false ≡ every (drop t (zip_with leb lows (take (length lows) H)))
    order_hit l m = every_hit tests t (rw length_tests l) (tests_at t l ∙ lt-leb (get_or lows t 0) (get_or H t 0) m)

    pub order_miss : t < length lows → get_or lows t 0 ≤ get_or H t 0
        → every (drop t (zip_with leb lows (take (length lows) H))) ≡ every (drop (t + 1) (zip_with leb lows (take (length lows) H)))
    order_miss l m = every_miss tests t (rw length_tests l) (tests_at t l ∙ le-leb (get_or lows t 0) (get_or H t 0) m)

    pub order_end : t ≡ length lows → true ≡ every (drop t (zip_with leb lows (take (length lows) H)))
    order_end e = every_end tests t (e ∙ sym length_tests)

-- a low above its high leaves no sound placing
pub disordered_infeasible : {slots : ℕ} {ds : List Demand} → Windows slots ds → (low high : List ℕ) → length low ≡ slots → length high ≡ slots
    → at_most low high ≡ false → feasible slots ds low high ≡ false
disordered_infeasible {slots} {ds} w low high l h e =
    false_of_not_true (feasible slots ds low high) (λ y.
    let s = (feasible_sound w l h y).1 in
    false≢true (sym e ∙ at_at_most low high l h (λ t m. omega (arith, s.bounded t m))))

-- The answer ------------------------------------------------------------------------

answer_refused : (own : List Refusal) (s : Sheet) (lows highs : List ℕ) (r : Refusal)
    → bounds_refusal own s lows highs ≡ r → (r.number ≡ 0 → ⊥)
    → record { number = r.number; line = r.line; yes = false } ≡ bounds_for own s lows highs
unfolding bounds_for
answer_refused own s lows highs r e n = rw (e, ne_eqb r.number 0 n)

module _ {own : List Refusal} {s : Sheet} {r : Reading} (e : ReadFrom own s r) (lows highs : List ℕ) where
  pub bounds_refused : (r.number ≡ 0 → ⊥)
      → record { number = r.number; line = r.line; yes = false } ≡ bounds_for own s lows highs
  unfolding bounds_refusal
  bounds_refused n =
      answer_refused own s lows highs (record { number = r.number; line = r.line })
      (refused_before e n (fault bad_list 0 (bounds_fault s.slots lows highs))) n

  module _ (z : r.number ≡ 0) where
    a : SheetRead s r
    a = sheet_read_lem e z

    refusal : (t : Bool) → t ≡ bounds_fault r.slots lows highs
        → bounds_refusal own s lows highs ≡ first_refusal (fault bad_list 0 t)
    unfolding bounds_refusal
    refusal t f =
        accepted_before e z (fault bad_list 0 (bounds_fault s.slots lows highs))
        ∙ ap (λ x. first_refusal (fault bad_list 0 x)) (ap (λ d. bounds_fault d lows highs) (sym a.slots) ∙ sym f)

    pub bounds_unequal : true ≡ bounds_fault r.slots lows highs
        → record { number = bad_list; line = 0; yes = false } ≡ bounds_for own s lows highs
    unfolding first_refusal
    bounds_unequal f = answer_refused own s lows highs (record { number = bad_list; line = 0 }) (refusal true f)
        (λ i. omega (arith, i))

    module _ (f : false ≡ bounds_fault r.slots lows highs) where
      parts : (not (eqb (length lows) r.slots) ≡ false) × (not (eqb (length highs) r.slots) ≡ false)
      unfolding bounds_fault
      parts = or_false (not (eqb (length lows) r.slots)) (not (eqb (length highs) r.slots)) (sym f)

      pub lows_long : length lows ≡ r.slots
      lows_long = eqb-true (length lows) r.slots (not-false _ parts.0)

      pub highs_long : length highs ≡ r.slots
      highs_long = eqb-true (length highs) r.slots (not-false _ parts.1)

      pub lows_short : length lows ≤ max_slots
      lows_short = omega (arith, lows_long, a.rations.short)

      pub highs_short : length highs ≤ max_slots
      highs_short = omega (arith, highs_long, a.rations.short)

      -- what the sheet answers
      answer : (y : Bool) → y ≡ feasible r.slots (demands_of s) lows (cut_highs r.blowers highs)
          → record { number = 0; line = 0; yes = y } ≡ bounds_for own s lows highs
      unfolding bounds_for first_refusal sheet_feasible
      answer y g =
          rw (refusal false f)
          (λ i. record {
            number = 0;
            line = 0;
            yes = (g
                ∙ ap₂ (λ d m. feasible d (demands_of s) lows (cut_highs m highs)) a.slots a.blowers) i;
          })

      module _ (H : List ℕ) (g : H ≡ padded max_slots (cut_highs r.blowers highs)) where
        cuts : length (cut_highs r.blowers highs) ≡ r.slots
        cuts = length_cut_highs r.blowers highs ∙ highs_long

        pub high_long : length H ≡ max_slots
        high_long = ap length g ∙ length_padded max_slots (cut_highs r.blowers highs) (omega (arith, cuts, a.rations.short))

        high_cut : (k : ℕ) → k ≡ r.slots → take k H ≡ cut_highs r.blowers highs
        high_cut k p = ap (take k) g ∙ take_padded max_slots (cut_highs r.blowers highs) k (cuts ∙ sym p)

        high_small : (t : ℕ) → get_or H t 0 ≤ max_blowers
        high_small t = at (dec_lt t (length highs))
          where
            at : Dec (t < length highs) → get_or H t 0 ≤ max_blowers
            at (yes l) =
                omega (
                  arith,
                  ap (λ x. get_or x t 0) g,
                  get_d_padded max_slots (cut_highs r.blowers highs) t (rw (length_cut_highs r.blowers highs) l),
                  cut_highs_at r.blowers highs t l,
                  a.blown,
                )
            at (no l) =
                omega (
                  arith,
                  ap (λ x. get_or x t 0) g,
                  padded_past max_slots (cut_highs r.blowers highs) t (omega (arith, length_cut_highs r.blowers highs)),
                )

        pub bounds_disordered : false ≡ at_most lows (take (length lows) H)
            → record { number = 0; line = 0; yes = false } ≡ bounds_for own s lows highs
        bounds_disordered o =
            answer false (sym (subst (λ d. feasible d (demands_of s) lows (cut_highs r.blowers highs) ≡ false)
            (sym a.slots)
            (disordered_infeasible (windows_demands_of s) lows (cut_highs r.blowers highs) (lows_long ∙ a.slots)
            (cuts ∙ a.slots)
            (ap (at_most lows) (sym (high_cut (length lows) lows_long)) ∙ sym o))))

        module _ (o : true ≡ at_most lows (take (length lows) H)) where
          low_high : (t : ℕ) → t < length lows → get_or lows t 0 ≤ get_or H t 0
          low_high t l =
              omega (
                arith,
                at_most_at lows (take (length lows) H) refl (length-take-le (length lows) H (omega (arith, high_long, lows_short))) (sym o) t l,
                get_or-take (length lows) H t 0 l,
              )

          pub lows_small : SmallLows lows
          lows_small = record { short = lows_short; small = λ t l. omega (arith, low_high t l, high_small t) }

          -- which none of them is cut by
          pub lows_cut : padded max_slots (cut_highs max_blowers lows) ≡ padded max_slots lows
          lows_cut = ap (padded max_slots) (cut_highs_small max_blowers lows lows_small.small)

          module _ (L : List ℕ) (q : L ≡ padded max_slots lows) where
            module _ {W N : List ℕ} (w : WindowWords max_slots (demands_from max_slots r.rations r.numbers) W)
                (v : VolumeBytes (demands_from max_slots r.rations r.numbers) N) where
              pub bounds_can : CanAsk r.slots W N L H
              bounds_can =
                  record {
                    day = ration_words a.rations (windows_of_day a.rations w) (volumes_of_day a.rations v);
                    lows = ap length q ∙ length_padded max_slots lows lows_short;
                    highs = high_long;
                  }

              pub bounds_answer : (y : Bool) → WordsAnswered y r.slots W N L H
                  → record { number = 0; line = 0; yes = y } ≡ bounds_for own s lows highs
              bounds_answer y p =
                  answer y (p (demands_from r.slots r.rations r.numbers)
                  (demand_words a.rations (windows_of_day a.rations w) (volumes_of_day a.rations v))
                  ∙ ap (λ ds. feasible r.slots ds (take r.slots L) (take r.slots H)) a.demands
                  ∙ ap₂ (feasible r.slots (demands_of s))
                  (ap (take r.slots) q ∙ take_padded max_slots lows r.slots lows_long) (high_cut r.slots refl))
