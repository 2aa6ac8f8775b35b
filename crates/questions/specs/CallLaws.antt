-- The range of a shortfall that is answered, and what one above zero means. Assumes nothing.
use Rattle.std.specs.Prelude.{◌≡◌, Bool, List, [], ℕ, T, negsuc, replicate, ◌≤ℤ◌}
use Rattle.std.proofs.Math.Path.{refl}
use Rattle.std.proofs.Common.{sym, subst, ◌∙◌, arith, eqb-true}
use Rattle.std.proofs.Math.Bool.{true, false, cond}
use Rattle.std.proofs.lemmas.Bool.{false≢true}
use Rattle.std.proofs.Math.Dec.{eqb}
use Rattle.std.proofs.Math.IntN.{pos}
use Rattle.std.proofs.Math.ListN.{length, length-replicate, get_or-replicate}
use Rattle.std.specs.Int.Signed.{lt_z, le_z_yes, lt_z_yes, clash_ℤ}
use Rattle.common.specs.Tests.{false_of_not_true}
use Rattle.checks.specs.declared.Refusal.{Refusal}
use Rattle.checks.specs.Refusals.{bad_list}
use Rattle.checks.specs.Sheet.{Sheet}
use Rattle.checks.specs.Checks.{fault}
use Rattle.checks.specs.FaultLaws.{numbered_append, numbered_fault, append_nil_parts, false_fault}
use Rattle.sheet.specs.OwnChecks.{OwnChecks}
use Rattle.sheet.proofs.OwnCheckLaws.{bytes_checked}
use Rattle.schedules.specs.Schedules.{feasible}
use Rattle.schedules.specs.Demands.{demands_of, no_low, full_high}
use Rattle.questions.specs.Calls.{marks_refusal, sheet_shortfall, shortfall_for, shortfall_of}
use Rattle.marks.specs.Marks.{marked, marks_fault}
use Rattle.schedules.proofs.Theorems.{shortfall_of_day}
use Rattle.schedules.proofs.DemandLaws.{windows_demands_of, demands_of_in_range}
use Rattle.schedules.proofs.FeasibleLaws.{feasible_sound, sound_no_obstacle}
use Rattle.marks.proofs.CountLaws.{accepted_long, length_marked}

module _ {own : List Refusal} {s : Sheet} (checks : OwnChecks own s) (marks : List ℕ) where
  -- number 0 stands for a sheet without a fault and one mark for each slot
  unrefused : (marks_refusal own s marks).number ≡ 0 → (own ≡ []) × (length marks ≡ s.slots)
  unfolding marks_refusal
  unrefused z =
      let m = marks_fault s.slots marks in
      let h = append_nil_parts own (fault bad_list 0 m)
      (numbered_append own (fault bad_list 0 m) checks.numbered (numbered_fault bad_list 0 m (omega arith)) z) in
      (h.0, accepted_long s.slots marks (false_fault bad_list 0 m h.1))

  sheet_shortfall_range : own ≡ [] → length marks ≡ s.slots → (negsuc 767 ≤ℤ sheet_shortfall s marks)
      × (sheet_shortfall s marks ≤ℤ pos 6144)
  unfolding sheet_shortfall full_high
  sheet_shortfall_range e l =
      let v = checks.values e in
      let r = demands_of_in_range s v in
      shortfall_of_day r.windows (full_high s) (length-replicate s.slots s.blowers) r.few r.small
      r.short
      (λ t m. omega (arith, get_or-replicate s.slots t s.blowers 0 m, v.head.blowers.le))
      (marked marks) (length_marked marks ∙ l)

  -- whatever is lent, the shortfall answered is from −768 to 6,144
  pub shortfall_for_range : (negsuc 767 ≤ℤ (shortfall_for own s marks).shortfall)
      × ((shortfall_for own s marks).shortfall ≤ℤ pos 6144)
  unfolding shortfall_for
  shortfall_for_range = go (eqb (marks_refusal own s marks).number 0) refl
    where
      go : (t : Bool) → eqb (marks_refusal own s marks).number 0 ≡ t
          → (negsuc 767 ≤ℤ cond t (sheet_shortfall s marks) (pos 0))
          × (cond t (sheet_shortfall s marks) (pos 0) ≤ℤ pos 6144)
      go true e = let h = unrefused (eqb-true (marks_refusal own s marks).number 0 e) in sheet_shortfall_range h.0
          h.1
      go false e = (le_z_yes tt, le_z_yes tt)

  -- where it is above zero, the rations have no sound placing
  pub deficient_infeasible : lt_z (pos 0) (shortfall_for own s marks).shortfall ≡ true → feasible s.slots (demands_of s) (no_low s) (full_high s) ≡ false
  unfolding shortfall_for sheet_shortfall no_low full_high
  deficient_infeasible above = false_of_not_true _ (λ p. go (eqb (marks_refusal own s marks).number 0) refl above p)
    where
      low : length (replicate {A = ℕ} s.slots 0) ≡ s.slots
      low = length-replicate s.slots 0

      high : length (replicate s.slots s.blowers) ≡ s.slots
      high = length-replicate s.slots s.blowers

      go : (t : Bool) → eqb (marks_refusal own s marks).number 0 ≡ t → lt_z (pos 0) (cond t (sheet_shortfall s marks) (pos 0)) ≡ true
          → feasible s.slots (demands_of s) (replicate s.slots 0) (replicate s.slots s.blowers) ≡ true → ⊥
      go true e x p =
          let l = (unrefused (eqb-true (marks_refusal own s marks).number 0 e)).1 in
          let w = windows_demands_of s in
          clash_ℤ (lt_z_yes (subst T (sym x) tt)) ((sound_no_obstacle w low high (feasible_sound w low high p).1).no_shortfall (marked marks) (length_marked marks ∙ l))
      go false e x p = false≢true x

-- of a sheet's bytes
pub shortfall_of_range : (b marks : List ℕ) → (negsuc 767 ≤ℤ (shortfall_of b marks).shortfall) × ((shortfall_of b marks).shortfall ≤ℤ pos 6144)
unfolding shortfall_of
shortfall_of_range b marks = shortfall_for_range (bytes_checked b) marks
