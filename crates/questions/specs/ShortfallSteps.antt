-- The steps of the call `shortfall`: the sum over the rations, and its answer. Assumes nothing.
use Rattle.std.specs.Prelude.{◌≡◌, Bool, List, [], ◌∷◌, ℕ, ◌+◌, ◌-◌, ◌*◌, ◌≤◌, ℤ, pos, length, get_or, replicate}
use Rattle.std.proofs.Math.Path.{sym, ap, ap₂}
use Rattle.std.proofs.Common.{subst, ◌∙◌, mul-le-mul, mul_comm, suc-mul, arith, ne_eqb}
use Rattle.std.proofs.Math.Bool.{true, false}
use Rattle.std.proofs.Math.IntN.{sub_ℕ}
use Rattle.common.specs.ListLaws.{count_le_length}
use Rattle.common.specs.Lists.{count}
use Rattle.checks.specs.declared.Refusal.{Refusal}
use Rattle.sheet.specs.declared.Reading.{Reading}
use Rattle.checks.specs.Limits.{max_slots, max_blowers, max_rations}
use Rattle.checks.specs.Refusals.{bad_list}
use Rattle.checks.specs.Sheet.{Sheet}
use Rattle.checks.specs.Checks.{fault, first_refusal}
use Rattle.sheet.specs.OwnChecks.{ReadFrom}
use Rattle.sheet.proofs.OwnCheckLaws.{refused_before, accepted_before}
use Rattle.theory.specs.Sums.{sum, sum_next, sum_cong, sum_le_mul}
use Rattle.schedules.specs.Slots.{Slots, outside, sum_over}
use Rattle.schedules.specs.Schedules.{no_demand, window_of, volume_of}
use Rattle.schedules.specs.Shortfall.{forced, shortfall}
use Rattle.schedules.specs.Demands.{demands_of, full_high}
use Rattle.marks.specs.Marks.{marked, marks_fault}
use Rattle.questions.specs.Calls.{marks_refusal, sheet_shortfall, shortfall_for}
use Rattle.placing.specs.Rations.{release_at, deadline_at, volume_at, demands_from, Rations}
use Rattle.marks.specs.Counts.{counts_before}
use Rattle.questions.specs.ShortfallParts.{forced_at, forced_by, CanForce}
use Rattle.schedules.specs.Tabulate.{sum_map}
use Rattle.placing.specs.ReadLaws.{SheetRead, sheet_read_lem}
use Rattle.placing.specs.RationLaws.{volume_small, length_demands_from, demands_from_at}
use Rattle.marks.proofs.CountLaws.{accepted_long, length_marked, length_counts_before, counts_before_all, counts_window, window_parts, outside_unmarked_in}

-- forced(Q) -----------------------------------------------------------------------

module _ (before : List ℕ) (n : ℕ) (numbers : List ℕ) (h : CanForce before n numbers) where
  -- the sum of the first rations fits
  pub forced_fits : (j : ℕ) → j ≤ n → sum j (forced_at before numbers) ≤ max_rations * max_slots
  forced_fits j l =
      omega (
        arith,
        sum_le_mul j max_slots (forced_at before numbers) (λ i p. omega (arith, h.small i (omega arith))),
        mul_comm j max_slots,
        h.few,
      )

  pub forced_by_fits : forced_by before n numbers ≤ max_rations * max_slots
  unfolding forced_by
  forced_by_fits = forced_fits n (omega arith)

pub forced_end : (before : List ℕ) (n : ℕ) (numbers : List ℕ) (j : ℕ) → j ≡ n → sum j (forced_at before numbers) ≡ forced_by before n numbers
unfolding forced_by
forced_end before n numbers j e = ap (λ i. sum i (forced_at before numbers)) e

pub forced_next : (f : ℕ → ℕ) (j s r : ℕ) → s ≡ sum j f → r ≡ f j → s + r ≡ sum (j + 1) f
forced_next f j s r p q = omega (arith, sum_next j f)

module _ (marks : List ℕ) (n : ℕ) (numbers : List ℕ) (h : Rations (length marks) n numbers) where
  -- the counts of a day's marks serve its rations
  pub counts_can : CanForce (counts_before marks) n numbers
  counts_can =
      record {
        few = h.few;
        long = h.long;
        small = volume_small h;
        windows = λ j l.
            let r = h.each j l in
            let w = counts_window marks (release_at numbers j) (deadline_at numbers j) r.release r.window r.deadline in
            let p = window_parts marks (release_at numbers j) (deadline_at numbers j) r.release r.window r.deadline in
            record {
              first = r.release;
              order = r.window;
              last = omega (arith, r.deadline, h.short);
              long = length_counts_before marks h.short;
              rising = omega arith;
              within = omega arith;
            };
      }

  -- and what they say is forced is what is
  pub forced_by_counts : forced_by (counts_before marks) n numbers ≡ forced (demands_from (length marks) n numbers) (marked marks)
  unfolding forced forced_by
  forced_by_counts =
      let ds = demands_from (length marks) n numbers in
      sym (sum_map (λ d. d.volume - outside d.window (marked marks)) no_demand ds
      ∙ ap (λ i. sum i (λ j. volume_of ds j - outside (window_of ds j) (marked marks))) (length_demands_from (length marks) n numbers)
      ∙ sum_cong (λ j l.
      let r = h.each j l in
      ap (λ d. d.volume - outside d.window (marked marks)) (demands_from_at (length marks) n numbers j l)
      ∙ ap (λ x. volume_at numbers j - x)
      (outside_unmarked_in marks (release_at numbers j) (deadline_at numbers j) r.release r.window r.deadline)))

-- Capacity ------------------------------------------------------------------------

-- where high is m in every slot, the capacity of a set is |Q| × m
pub capacity_full : (q : Slots) (m : ℕ) → sum_over (replicate (length q) m) q ≡ count q * m
unfolding sum_over
capacity_full [] m = omega arith
capacity_full (true ∷ q) m = omega (arith, capacity_full q m, suc-mul (count q) m)
capacity_full (false ∷ q) m = omega (arith, capacity_full q m)

-- The answer ------------------------------------------------------------------------

answer_refused : (own : List Refusal) (s : Sheet) (marks : List ℕ) (r : Refusal) → marks_refusal own s marks ≡ r
    → (r.number ≡ 0 → ⊥)
    → record { number = r.number; line = r.line; shortfall = pos 0 } ≡ shortfall_for own s marks
unfolding shortfall_for
answer_refused own s marks r e n = rw (e, ne_eqb r.number 0 n)

module _ {own : List Refusal} {s : Sheet} {r : Reading} (e : ReadFrom own s r) (marks : List ℕ) where
  pub shortfall_refused : (r.number ≡ 0 → ⊥)
      → record { number = r.number; line = r.line; shortfall = pos 0 } ≡ shortfall_for own s marks
  unfolding marks_refusal
  shortfall_refused n =
      answer_refused own s marks (record { number = r.number; line = r.line })
      (refused_before e n (fault bad_list 0 (marks_fault s.slots marks))) n

  module _ (z : r.number ≡ 0) where
    a : SheetRead s r
    a = sheet_read_lem e z

    pub slots_few : r.slots ≤ max_slots
    slots_few = a.rations.short

    refusal : (t : Bool) → t ≡ marks_fault r.slots marks → marks_refusal own s marks ≡ first_refusal (fault bad_list 0 t)
    unfolding marks_refusal
    refusal t f =
        accepted_before e z (fault bad_list 0 (marks_fault s.slots marks))
        ∙ ap (λ x. first_refusal (fault bad_list 0 x)) (ap (λ d. marks_fault d marks) (sym a.slots) ∙ sym f)

    pub shortfall_unmarked : true ≡ marks_fault r.slots marks
        → record { number = bad_list; line = 0; shortfall = pos 0 } ≡ shortfall_for own s marks
    unfolding first_refusal
    shortfall_unmarked f = answer_refused own s marks (record { number = bad_list; line = 0 }) (refusal true f)
        (λ i. omega (arith, i))

    module _ (f : false ≡ marks_fault r.slots marks) where
      pub marks_long : length marks ≡ r.slots
      marks_long = accepted_long r.slots marks (sym f)

      pub shortfall_rations : Rations (length marks) r.rations r.numbers
      shortfall_rations = subst (λ d. Rations d r.rations r.numbers) (sym marks_long) a.rations

      pub marks_few : length marks ≤ max_slots
      marks_few = omega (arith, marks_long, slots_few)

      module _ (B : List ℕ) (g : B ≡ counts_before marks) where
        pub counts_force : CanForce B r.rations r.numbers
        counts_force = rw g (counts_can marks r.rations r.numbers shortfall_rations)

        -- |Q|
        last_count : get_or B r.slots 0 ≡ count (marked marks)
        last_count = ap (λ l. get_or l r.slots 0) g ∙ counts_before_all marks r.slots (sym marks_long)

        pub forced_most : forced_by B r.rations r.numbers ≤ max_rations * max_slots
        forced_most = forced_by_fits B r.rations r.numbers counts_force

        pub capacity_most : get_or B r.slots 0 * r.blowers ≤ max_slots * max_blowers
        capacity_most =
            let l : get_or B r.slots 0 ≤ max_slots = omega (arith, last_count, count_le_length (marked marks), length_marked marks, marks_few) in
            mul-le-mul l a.blown

        pub shortfall_accepted : (x : ℤ) → x ≡ sub_ℕ (forced_by B r.rations r.numbers) (get_or B r.slots 0 * r.blowers)
            → record { number = 0; line = 0; shortfall = x } ≡ shortfall_for own s marks
        unfolding shortfall_for first_refusal sheet_shortfall shortfall full_high
        shortfall_accepted x e =
            rw (refusal false f)
            (λ i. record {
              number = 0;
              line = 0;
              shortfall = (e
                  ∙ ap₂ (λ k c. sub_ℕ k (c * r.blowers))
                  (ap (λ l. forced_by l r.rations r.numbers) g ∙ forced_by_counts marks r.rations r.numbers shortfall_rations) last_count
                  ∙ ap (λ ds. sub_ℕ (forced ds (marked marks)) (count (marked marks) * r.blowers))
                  (ap (λ d. demands_from d r.rations r.numbers) marks_long ∙ a.demands)
                  ∙ ap (λ c. sub_ℕ (forced (demands_of s) (marked marks)) c)
                  (sym (capacity_full (marked marks) r.blowers)
                  ∙ ap (λ d. sum_over (replicate d r.blowers) (marked marks)) (length_marked marks ∙ marks_long ∙ a.slots)
                  ∙ ap (λ m. sum_over (replicate s.slots m) (marked marks)) a.blowers)) i;
            })
