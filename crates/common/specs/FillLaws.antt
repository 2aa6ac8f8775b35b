-- A list of fixed length that is filled from the front, 0 past what is filled: the steps of the loop that fills it, and what it is in the end.
-- Assumes nothing.
use Rattle.std.specs.Prelude.{◌≡◌, refl, List, ◌++◌, ℕ, zero, suc, ◌+◌, ◌-◌, ◌≤◌, ◌<◌, set, take}
use Rattle.std.proofs.Common.{sym, ◌∙◌, length-set, get_or-set_same, get_or-set_other, ext_get_or}
use Rattle.std.proofs.Math.Path.{ap}
use Rattle.std.proofs.Math.Decide.{ℕ_discrete, dec_lt}
use native.Mathlib.Omega.{arith}
use Rattle.std.proofs.Math.ListN.{length, get_or, replicate, get_or-append}
use Rattle.std.proofs.lemmas.List.{length-replicate}
use Rattle.std.proofs.Math.Seq.{get_or-append-add, take_at}
use Rattle.common.specs.Buffers.{padded}
use Rattle.common.specs.BufferLaws.{length_padded}

pub get_d_zeros : (n t : ℕ) → ◌≡◌ {A = ℕ} (get_or (replicate n 0) t 0) 0
get_d_zeros zero t = refl
get_d_zeros (suc n) zero = refl
get_d_zeros (suc n) (suc t) = get_d_zeros n t

-- the numbers of f below j, and 0
pub record FilledTo (n : ℕ) (f : ℕ → ℕ) (j : ℕ) (xs : List ℕ) : Type 0 where
  pub long : length xs ≡ n
  pub filled : (k : ℕ) → k < j → get_or xs k 0 ≡ f k
  pub past : (k : ℕ) → j ≤ k → get_or xs k 0 ≡ 0

module _ (n : ℕ) (f : ℕ → ℕ) where
  pub filled_begin : FilledTo n f 0 (replicate n 0)
  filled_begin =
      record { long = length-replicate {A = ℕ} n 0; filled = λ k l. absurd (omega arith); past = λ k l. get_d_zeros n k }

  module _ (j : ℕ) (xs : List ℕ) (h : FilledTo n f j xs) where
    pub filled_next : j < n → (x : ℕ) → x ≡ f j → FilledTo n f (j + 1) (set xs j x)
    filled_next l x e =
        record {
          long = length-set xs j x ∙ h.long;
          filled = λ k p. at k (ℕ_discrete k j) p;
          past = λ k p. get_or-set_other xs j k x 0 (λ i. omega arith) ∙ h.past k (omega arith);
        }
      where
        at : (k : ℕ) → Dec (k ≡ j) → k < j + 1 → get_or (set xs j x) k 0 ≡ f k
        at k (yes i) p = rw i (get_or-set_same xs j x 0 (omega (arith, h.long)) ∙ e)
        at k (no i) p = get_or-set_other xs j k x 0 i ∙ h.filled k (omega arith)

-- Numbers padded with 0 -----------------------------------------------------------

module _ (n : ℕ) (ys : List ℕ) where
  pub get_d_padded : (k : ℕ) → k < length ys → get_or (padded n ys) k 0 ≡ get_or ys k 0
  unfolding padded
  get_d_padded k l = get_or-append ys (replicate (n - length ys) 0) 0 k l

  pub padded_past : (k : ℕ) → length ys ≤ k → get_or (padded n ys) k 0 ≡ 0
  unfolding padded
  padded_past k l =
      let e : k ≡ length ys + (k - length ys) = omega arith in
      ap (λ i. get_or (ys ++ replicate (n - length ys) 0) i 0) e
      ∙ get_or-append-add ys (replicate (n - length ys) 0) (k - length ys) 0
      ∙ get_d_zeros (n - length ys) (k - length ys)

  pub take_padded : (k : ℕ) → length ys ≡ k → take k (padded n ys) ≡ ys
  unfolding padded
  take_padded k e = take_at ys (replicate (n - length ys) 0) k e

  pub filled_end : (f : ℕ → ℕ) (j : ℕ) → j ≡ length ys → length ys ≤ n → ((k : ℕ) → k < length ys → f k ≡ get_or ys k 0) → (xs : List ℕ)
      → FilledTo n f j xs → xs ≡ padded n ys
  filled_end f j e l g xs h =
      ext_get_or 0 xs (padded n ys) (h.long ∙ sym (length_padded n ys l)) (λ k p. at k (dec_lt k (length ys)))
    where
      at : (k : ℕ) → Dec (k < length ys) → get_or xs k 0 ≡ get_or (padded n ys) k 0
      at k (yes m) = h.filled k (omega arith) ∙ g k m ∙ sym (get_d_padded k m)
      at k (no m) = h.past k (omega arith) ∙ sym (padded_past k (omega arith))
