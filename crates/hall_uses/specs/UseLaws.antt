-- The highs of a hall, slot by slot; and what is filled in slot after slot is these highs, or the sums of two lists.
-- Assumes nothing.
use Rattle.std.specs.Prelude.{◌≡◌, List, length}
use Rattle.std.proofs.Common.{sym, ◌∙◌, arith, ext_get_or}
use Prim.Native.Nat.{ℕ, ◌+◌, ◌-◌, ◌≤◌, ◌<◌, min}
use Rattle.std.proofs.Math.ListN.{get_or}
use Rattle.common.specs.Lists.{zip_with}
use Rattle.common.specs.Buffers.{padded}
use Rattle.common.specs.FillLaws.{FilledTo, filled_end}
use Rattle.checks.specs.Limits.{max_slots}
use Rattle.schedules.specs.Tabulate.{length_tab, get_d_tab, length_zip_with, get_d_zip_with}
use Rattle.hall_uses.specs.Uses.{hall_high}

module _ (limit : ℕ) (used : List ℕ) (slots blowers : ℕ) where
  pub length_hall_high : length (hall_high limit used slots blowers) ≡ slots
  unfolding hall_high
  length_hall_high = length_tab slots _

  pub hall_high_at : (t : ℕ) → t < slots → get_or (hall_high limit used slots blowers) t 0 ≡ min blowers (limit - get_or used t 0)
  unfolding hall_high
  hall_high_at t l = get_d_tab slots (λ t. min blowers (limit - get_or used t 0)) 0 t l

  pub hall_high_below : (t : ℕ) → t < slots → get_or (hall_high limit used slots blowers) t 0 ≤ blowers
  hall_high_below t l = omega (arith, hall_high_at t l)

  -- filled up to its last slot, and 0 past it
  pub highs_end : (t : ℕ) → slots ≤ max_slots → t ≡ slots → (xs : List ℕ) → FilledTo max_slots (λ k. min blowers (limit - get_or used k 0)) t xs
      → xs ≡ padded max_slots (hall_high limit used slots blowers)
  highs_end t l e xs h =
      filled_end max_slots (hall_high limit used slots blowers) (λ k. min blowers (limit - get_or used k 0)) t (e ∙ sym length_hall_high)
      (omega (arith, length_hall_high)) (λ k m. sym (hall_high_at k (rw length_hall_high at m))) xs h

-- the sums of two lists of 96 numbers
pub sums_end : (used counts : List ℕ) → length used ≡ max_slots → length counts ≡ max_slots → (t : ℕ) → t ≡ max_slots → (xs : List ℕ)
    → FilledTo max_slots (λ k. get_or used k 0 + get_or counts k 0) t xs → xs ≡ zip_with ◌+◌ used counts
sums_end used counts l m t e xs h =
    ext_get_or 0 xs (zip_with ◌+◌ used counts) (h.long ∙ sym (length_zip_with ◌+◌ used counts l m))
    (λ k p. h.filled k (omega (arith, h.long)) ∙ sym (get_d_zip_with ◌+◌ used counts 0 0 0 k (omega (arith, h.long)) (omega (arith, h.long))))
