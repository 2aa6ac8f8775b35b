-- What the searches say of a cause, said of the demands: the answers of `idle_or_cause` and `busy_or_cause`. Assumes
-- nothing.
use Rattle.std.specs.Prelude.{◌≡◌, refl, ◌≢◌, Bool, true, false, cond, List, ℕ, suc, ◌+◌, ◌-◌, ◌^◌, ◌≤◌, ◌<◌, min, max, eqb, ltb, length, get_or, take, drop, set, Ok, Err}
use Rattle.std.proofs.Math.Path.{sym}
use Rattle.std.proofs.Common.{ap, ◌∙◌, subst, add-one, zero-add, arith, length-set, length-drop, length-take-le, get_or-take, get_or-drop, get_or-set_same, get_or-set_other, eq-eqb, ne_eqb, ltb-true, ltb-false, lt-ltb, le-ltb, below_more}
use Rattle.std.proofs.lemmas.Bool.{false≢true}
use Rattle.std.proofs.Math.Decide.{ℕ_discrete}
use Rattle.common.specs.Bits.{bit, bit_le, bit_none, add_same, add_other}
use Rattle.theory.specs.SumsOver.{pick}
use Rattle.theory.proofs.Critical.{critical_highs}
use Rattle.theory.proofs.Excess.{excess_lows}
use Rattle.grid.specs.Grid.{at}
use Rattle.loads.specs.Relief.{width, Lowered, Raised, ExcessMarked}
use Rattle.loads.specs.Meaning.{State, seen_at, put, bit_at}
use Rattle.loads.specs.StateLaws.{state_placing, state_within}
use Rattle.loads.specs.ExchangeLaws.{raised_narrow}
use Rattle.loads.specs.MarkLaws.{marked_held, over_kept, over_critical, marked_kept, marked_excess}
use Rattle.schedules.specs.Schedules.{Demand, AtMost, volume_of, feasible}
use Rattle.schedules.specs.Shortfall.{critical_set}
use Rattle.schedules.specs.Causes.{obstacle, excess_set}
use Rattle.schedules.specs.Tabulate.{tab}
use Rattle.schedules.specs.AsFunctions.{free, bound}
use Rattle.schedules.proofs.CriticalLaws.{critical_as}
use Rattle.schedules.proofs.CauseLaws.{tab_cong, excess_as, obstacle_crossed, crossed_lowest, shortfall_obstacle, excess_obstacle, feasible_ordered}
use Rattle.schedules.specs.Certificates.{load_of}
use Rattle.schedules.proofs.Certificates.{places_feasible}
use Rattle.placing.specs.declared.Cause.{Cause}
use Rattle.placing.specs.declared.Cause.TheVariants.{LowAboveHigh, Shortfall, Excess}
use Rattle.placing.specs.CauseCalls.{in_words, in_cause, obstacle_of, MarkWord, OfMarks, BusyCaused, IdleAnswered, BusyAnswered}
use Rattle.placing.specs.Represents.{Represents, Ready, lowered, raised, Idled, Busied, marks_of}
use Rattle.placing.specs.StepLaws.{put_set, low_width, represents_feasible, idled_low, idled_high, idled_search, busied_high, busied_low, busied_search}

-- Marks as words --------------------------------------------------------------

-- the first j of them are in the word
pub record MarksIn (w : ℕ) (S : List ℕ) (j : ℕ) : Type 0 where
  pub fits : w < 2 ^ j
  pub marks : (i : ℕ) → i < j → eqb (bit w i) 1 ≡ marks_of S i

pub no_bit : (w j : ℕ) → w < 2 ^ j → bit w j ≡ 0
no_bit w j l = bit_none w j (λ e. omega (arith, bit_le w j e))

-- one mark
pub mark_none : (w mark x : ℕ) → mark ≡ 0 → w ≡ w + pick (ltb 0 mark) x
mark_none w mark x e = let q : mark ≤ 0 = omega arith in omega (arith, ap (λ b. pick b x) (le-ltb 0 mark q))

pub mark_some : (w mark x r : ℕ) → (mark ≡ 0 → ⊥) → r ≡ w + x → r ≡ w + pick (ltb 0 mark) x
mark_some w mark x r n e = let q : 0 < mark = omega arith in omega (arith, ap (λ b. pick b x) (lt-ltb 0 mark q))

pub marks_begin : {S : List ℕ} → MarksIn 0 S 0
marks_begin = record { fits = omega arith; marks = λ i l. absurd (omega arith) }

pub marks_next : {S : List ℕ} {w r j : ℕ} → MarksIn w S j → r ≡ w + pick (ltb 0 (get_or S j 0)) (2 ^ j) → MarksIn r S (j + 1)
marks_next {S} {w} {r} {j} m e = go (ltb 0 (get_or S j 0)) refl
  where
    double : 2 ^ (j + 1) ≡ 2 ^ j + 2 ^ j
    double = rw (add-one j) (omega arith)

    go : (x : Bool) → ltb 0 (get_or S j 0) ≡ x → MarksIn r S (j + 1)
    go false q =
        let i : r ≡ w = e ∙ ap (λ b. w + pick b (2 ^ j)) q ∙ omega arith in
        record {
          fits = omega (arith, m.fits, double);
          marks =
              below_more (λ (i : ℕ). eqb (bit r i) 1 ≡ marks_of S i) j
              (λ u l. ap (λ x. eqb (bit x u) 1) i ∙ m.marks u l)
              (ap (λ x. eqb (bit x j) 1) i ∙ ne_eqb (bit w j) 1 (λ f. omega (arith, no_bit w j m.fits)) ∙ sym q);
        }
    go true q =
        let i : r ≡ w + 2 ^ j = e ∙ ap (λ b. w + pick b (2 ^ j)) q in
        let z = no_bit w j m.fits in
        record {
          fits = omega (arith, m.fits, double);
          marks =
              below_more (λ (i : ℕ). eqb (bit r i) 1 ≡ marks_of S i) j
              (λ u l. ap (λ x. eqb (bit x u) 1) i ∙ ap (λ x. eqb x 1) (add_other w j u z (λ f. omega arith)) ∙ m.marks u l)
              (ap (λ x. eqb (bit x j) 1) i ∙ eq-eqb (bit (w + 2 ^ j) j) 1 (add_same w j z) ∙ sym q);
        }

pub marks_end : {S : List ℕ} {w j : ℕ} → length S ≤ j → MarksIn w S j → MarkWord w S 0 (length S)
marks_end {S} l m = record { marks = λ i k. m.marks i (omega arith) ∙ ap (marks_of S) (sym (zero-add i)) }

-- the word of some of them, T, is that of their places among all
part_marks : {S T : List ℕ} {w from n : ℕ} → ((i : ℕ) → i < n → get_or T i 0 ≡ get_or S (from + i) 0) → n ≤ length T
    → MarkWord w T 0 (length T) → MarkWord w S from n
part_marks {T} same l m =
    record { marks = λ i k. m.marks i (omega arith) ∙ ap (marks_of T) (zero-add i) ∙ ap (ltb 0) (same i k) }

module _ {S : List ℕ} {w : ℕ} (l : length S ≡ 96) where
  pub front_marks : MarkWord w (take 64 S) 0 (length (take 64 S)) → MarkWord w S 0 64
  front_marks m =
      part_marks (λ i k. get_or-take 64 S i 0 k ∙ ap (λ j. get_or S j 0) (sym (zero-add i)))
      (omega (arith, length-take-le 64 S (omega (arith, l)))) m

  pub back_marks : MarkWord w (take 32 (drop 64 S)) 0 (length (take 32 (drop 64 S))) → MarkWord w S 64 32
  back_marks m =
      part_marks (λ i k. get_or-take 32 (drop 64 S) i 0 k ∙ get_or-drop 64 S i 0)
      (omega (arith, length-take-le 32 (drop 64 S) (omega (arith, l, length-drop 64 S)))) m

-- two words of 64 and 32 marks
words_marks : {S : List ℕ} {a b : ℕ} → MarkWord a S 0 64 → MarkWord b S 64 32 → (t : ℕ) → t < 96 → in_words a b t ≡ marks_of S t
words_marks {S} {a} {b} p q t l = go (ltb t 64) refl
  where
    zero_plus : 0 + t ≡ t
    zero_plus = omega arith

    go : (x : Bool) → ltb t 64 ≡ x → eqb (cond x (bit a t) (bit b (t - 64))) 1 ≡ marks_of S t
    go true e = p.marks t (ltb-true t 64 e) ∙ ap (marks_of S) zero_plus
    go false e = let k = ltb-false t 64 e in q.marks (t - 64) (omega arith) ∙ ap (marks_of S) (let s : 64 + (t - 64) ≡ t = omega arith in s)

pub shortfall_marks : {S : List ℕ} {a b : ℕ} → MarkWord a S 0 64 → MarkWord b S 64 32 → OfMarks (Shortfall a b) 1 S
shortfall_marks p q = record { is = refl; slots = words_marks p q }

pub excess_marks : {S : List ℕ} {a b : ℕ} → MarkWord a S 0 64 → MarkWord b S 64 32 → OfMarks (Excess a b) 2 S
excess_marks p q = record { is = refl; slots = words_marks p q }

-- what such a cause is, on a day of so many slots
marks_obstacle : {slots n : ℕ} {c : Cause} {S : List ℕ} → slots ≤ 96 → OfMarks c n S → obstacle_of slots c ≡ record { number = n; set = tab slots (marks_of S) }
marks_obstacle {slots} {c = c} {S} l o =
    λ i. record { number = o.is i; set = tab_cong slots (in_cause c) (marks_of S) (λ u n. o.slots u (omega arith)) i }

-- a slot as the code counts it
slot_of : (t u : ℕ) → eqb u t ≡ eqb (suc u) (t + 1)
slot_of t u = go (ℕ_discrete u t)
  where
    go : Dec (u ≡ t) → eqb u t ≡ eqb (suc u) (t + 1)
    go (yes e) = eq-eqb u t e ∙ sym (eq-eqb (suc u) (t + 1) (omega arith))
    go (no n) = ne_eqb u t n ∙ sym (ne_eqb (suc u) (t + 1) (λ e. n (omega arith)))

-- A low above a high ----------------------------------------------------------

module _ {slots : ℕ} (ds : List Demand) (low high : List ℕ) (l : length low ≡ slots) (h : length high ≡ slots) (t : ℕ) (m : t < slots)
    (above : bound high t < bound low t) (others : (u : ℕ) → u < slots → u ≢ t → bound low u ≤ bound high u) where
  above_obstacle : obstacle_of slots (LowAboveHigh (t + 1)) ≡ obstacle slots ds low high
  above_obstacle =
      let c = crossed_lowest low high l h t m above (λ u n. others u (omega arith) (λ e. omega arith)) in
      ap (λ s. record { number = 3; set = s }) (tab_cong slots (λ u. eqb (suc u) (t + 1)) (λ u. eqb u t) (λ u k. sym (slot_of t u)) ∙ sym c.1)
      ∙ sym (obstacle_crossed slots ds low high c.0)

-- `idle_or_cause` -------------------------------------------------------------

module _ {F R H C : List ℕ} {t k : ℕ} (p : 1 ≤ k) where
  -- the low is k or more
  pub idle_low_cause : at C t + k ≤ width F R t → IdleAnswered (Err (LowAboveHigh (t + 1))) F R H C F R H t k
  idle_low_cause g =
      record {
        idled = idled_low p g;
        why = λ slots ds low high s m e.
            above_obstacle ds low (lowered high t k) s.lows (length-set high t _ ∙ s.highs) t m
            (omega (arith, low_width s t m, get_or-set_same high t (min (k - 1) (bound high t)) 0 (rw s.highs m)))
            (λ u n x.
            omega (
              arith,
              get_or-set_other high t u (min (k - 1) (bound high t)) 0 x,
              feasible_ordered s.windows low high s.lows s.highs (represents_feasible s) u n,
            ));
      }

  -- the high is below k already
  pub idle_high_yes : at H t < k → IdleAnswered (Ok tt) F R H C F R H t k
  idle_high_yes h = record { idled = idled_high p h; why = tt }

  module _ (g : width F R t < at C t + k) (hi : k ≤ at H t) {r : Bool} {F' R' H' S' : List ℕ} (v : Lowered r F R H F' R' H' S' t (k - 1)) where
    -- the high is set
    pub idle_search_yes : r ≡ true → IdleAnswered (Ok tt) F R H C F' R' H' t k
    idle_search_yes x = record { idled = subst (λ y. Idled y F R H C F' R' H' t k) x (idled_search p g hi v); why = tt }

    -- it can't be
    module _ (x : r ≡ false) where
      module _ {slots : ℕ} {ds : List Demand} {low high : List ℕ} (s : Represents slots ds low high F R H C) (m : t < slots)
          (e : feasible slots ds low (lowered high t k) ≡ false) where
        long : length (lowered high t k) ≡ slots
        long = length-set high t _ ∙ s.highs

        as_list : (u : ℕ) → put (bound high) t (k - 1) u ≡ bound (lowered high t k) u
        as_list u =
            let new : k - 1 ≡ min (k - 1) (bound high t) = omega (arith, s.state.high_at t m) in
            put_set high t (k - 1) (rw s.highs m) u ∙ ap (λ x. bound (set high t x) u) new

        kept : State (length ds) slots (free ds) (volume_of ds) (bound low) (bound high) F' R' H' C
        kept = over_kept s.state m (marked_held v x) (omega (arith, low_width s t m)) (omega (arith, s.state.high_at t m))

        fails : ((u : ℕ) → u < slots → load_of ds (bit_at F') u ≤ put (bound high) t (k - 1) u) → ⊥
        fails f =
            false≢true (sym e
            ∙ places_feasible s.windows (state_placing kept) low (lowered high t k) s.lows long
            (λ u n. ((state_within kept u n).0, omega (arith, f u n, as_list u))))

        ordered : AtMost slots low (lowered high t k)
        ordered u n = go (ℕ_discrete u t)
          where
            go : Dec (u ≡ t) → bound low u ≤ bound (lowered high t k) u
            go (yes x) = rw x (omega (arith, low_width s t m, get_or-set_same high t (min (k - 1) (bound high t)) 0 (rw s.highs m), s.state.high_at t m))
            go (no x) =
                omega (
                  arith,
                  get_or-set_other high t u (min (k - 1) (bound high t)) 0 x,
                  feasible_ordered s.windows low high s.lows s.highs (represents_feasible s) u n,
                )

        -- the marks are the set contained in every set of greatest shortfall
        idle_marks : tab slots (marks_of S') ≡ critical_set slots ds (lowered high t k)
        unfolding seen_at
        idle_marks =
            sym (critical_as s.windows (lowered high t k) long
            (critical_highs (λ u n. as_list u) (over_critical s.state m (marked_held v x) fails)))

      pub idle_search_no : {c : Cause} → OfMarks c 1 S' → IdleAnswered (Err c) F R H C F' R' H' t k
      idle_search_no o =
          record {
            idled = subst (λ y. Idled y F R H C F' R' H' t k) x (idled_search p g hi v);
            why = λ slots ds low high s m e.
                marks_obstacle s.state.places.day.short o ∙ ap (λ q. record { number = 1; set = q }) (idle_marks s m e)
                ∙ sym (shortfall_obstacle s.windows low high s.lows s.highs (represents_feasible s) (lowered high t k) (long s m e) e (ordered s m e));
          }

-- `busy_or_cause` -------------------------------------------------------------

module _ {F R H C : List ℕ} {t k : ℕ} where
  -- the high is below k
  pub busy_high_cause : at H t < k → BusyAnswered (Err (LowAboveHigh (t + 1))) F R H C F R C t k
  busy_high_cause g =
      record {
        busied = busied_high g;
        why = λ slots ds low high s m e.
            above_obstacle ds (raised low t k) high (length-set low t _ ∙ s.lows) s.highs t m
            (omega (arith, s.state.high_at t m, get_or-set_same low t (max k (bound low t)) 0 (rw s.lows m)))
            (λ u n x.
            omega (
              arith,
              get_or-set_other low t u (max k (bound low t)) 0 x,
              feasible_ordered s.windows low high s.lows s.highs (represents_feasible s) u n,
            ));
      }

  -- the low is k or more already
  pub busy_low_yes : at C t + k ≤ width F R t → BusyAnswered (Ok tt) F R H C F R C t k
  busy_low_yes h = record { busied = busied_low h; why = tt }

  module _ (hi : k ≤ at H t) (lo : width F R t < at C t + k) where
    module _ {F' R' C' S' : List ℕ} (w : ExcessMarked F R C F' R' C' S' t k) where
      module _ {slots : ℕ} {ds : List Demand} {low high : List ℕ} (s : Represents slots ds low high F R H C) (m : t < slots)
          (e : feasible slots ds (raised low t k) high ≡ false) where
        long_b : length (raised low t k) ≡ slots
        long_b = length-set low t _ ∙ s.lows

        as_list_b : (u : ℕ) → put (bound low) t k u ≡ bound (raised low t k) u
        as_list_b u =
            let new : k ≡ max k (bound low t) = omega (arith, low_width s t m) in
            put_set low t k (rw s.lows m) u ∙ ap (λ x. bound (set low t x) u) new

        low_le : bound low t ≤ k
        low_le = omega (arith, low_width s t m)

        le_high : k ≤ bound high t
        le_high = omega (arith, s.state.high_at t m)

        kept_b : State (length ds) slots (free ds) (volume_of ds) (bound low) (bound high) F' R' H C'
        kept_b = marked_kept s.state m low_le le_high w

        fails_b : ((u : ℕ) → u < slots → put (bound low) t k u ≤ load_of ds (bit_at F') u) → ⊥
        fails_b f =
            false≢true (sym e
            ∙ places_feasible s.windows (state_placing kept_b) (raised low t k) high long_b s.highs
            (λ u n. (omega (arith, f u n, as_list_b u), (state_within kept_b u n).1)))

        ordered_b : AtMost slots (raised low t k) high
        ordered_b u n = go (ℕ_discrete u t)
          where
            go : Dec (u ≡ t) → bound (raised low t k) u ≤ bound high u
            go (yes x) = rw x (omega (arith, s.state.high_at t m, get_or-set_same low t (max k (bound low t)) 0 (rw s.lows m), low_le))
            go (no x) =
                omega (
                  arith,
                  get_or-set_other low t u (max k (bound low t)) 0 x,
                  feasible_ordered s.windows low high s.lows s.highs (represents_feasible s) u n,
                )

        -- the marks are the set contained in every set of greatest excess
        busy_marks : tab slots (marks_of S') ≡ excess_set slots ds (raised low t k)
        unfolding seen_at
        busy_marks =
            sym (excess_as s.windows (raised low t k) long_b (excess_lows (λ u n. as_list_b u) (marked_excess s.state m low_le le_high w fails_b)))

      pub marked_cause : {c : Cause} → OfMarks c 2 S' → BusyCaused c F R H C t k
      marked_cause o slots ds low high s m e =
          marks_obstacle s.state.places.day.short o ∙ ap (λ q. record { number = 2; set = q }) (busy_marks s m e)
          ∙ sym (excess_obstacle s.windows low high s.lows s.highs (represents_feasible s) (raised low t k) (long_b s m e) e (ordered_b s m e))

      -- fewer than k rations have the slot in their windows
      pub busied_narrow : Ready F R H C t → width F R t < k → Busied false F R H C F' R' C' t k
      busied_narrow ready n =
          let a = busied_search hi lo (raised_narrow ready.rest {S = S'} n) in
          record {
            answer = a.answer;
            yes = λ f. absurd (false≢true f);
            no = λ f slots ds low high s m.
                record { windows = s.windows; lows = s.lows; highs = s.highs; state = kept_b s m (sym (a.answer slots ds low high s m)) };
          }

    module _ {r : Bool} {F' R' C' S' : List ℕ} (v : Raised r F R C F' R' C' S' t k) where
      -- the marks where the low can't be set
      pub busy_search_cause : r ≡ false → k ≤ width F R t → {c : Cause} → OfMarks c 2 S' → BusyCaused c F R H C t k
      busy_search_cause x wide o = marked_cause (marked_held (v.wide wide) x) o

-- What `busy_or_cause` says by `raise_or_mark`
pub busied_yes : {r : Bool} {F R H C F' R' C' : List ℕ} {t k : ℕ} → Busied r F R H C F' R' C' t k → r ≡ true
    → BusyAnswered (Ok tt) F R H C F' R' C' t k
busied_yes {F} {R} {H} {C} {F'} {R'} {C'} {t} {k} b x = record { busied = subst (λ y. Busied y F R H C F' R' C' t k) x b; why = tt }

pub busied_no : {r : Bool} {F R H C F' R' C' : List ℕ} {t k : ℕ} {c : Cause} → Busied r F R H C F' R' C' t k → r ≡ false
    → BusyCaused c F R H C t k → BusyAnswered (Err c) F R H C F' R' C' t k
busied_no {F} {R} {H} {C} {F'} {R'} {C'} {t} {k} b x why = record { busied = subst (λ y. Busied y F R H C F' R' C' t k) x b; why = why }

module _ {F R H C : List ℕ} {t k : ℕ} (hi : k ≤ at H t) (lo : width F R t < at C t + k) where
  -- fewer than k rations have the slot in their windows
  pub busy_narrow_no : {F' R' C' S' : List ℕ} → ExcessMarked F R C F' R' C' S' t k → Ready F R H C t → width F R t < k → {c : Cause} → OfMarks c 2 S'
      → BusyAnswered (Err c) F R H C F' R' C' t k
  busy_narrow_no w ready n o = busied_no (busied_narrow hi lo w ready n) refl (marked_cause hi lo w o)

  module _ {r : Bool} {F' R' C' S' : List ℕ} (v : Raised r F R C F' R' C' S' t k) where
    -- the low is set
    pub busy_search_yes : r ≡ true → BusyAnswered (Ok tt) F R H C F' R' C' t k
    busy_search_yes x = busied_yes (busied_search hi lo v) x

    -- it can't be
    pub busy_search_no : r ≡ false → k ≤ width F R t → {c : Cause} → OfMarks c 2 S' → BusyAnswered (Err c) F R H C F' R' C' t k
    busy_search_no x wide o = busied_no (busied_search hi lo v) x (busy_search_cause hi lo v x wide o)
