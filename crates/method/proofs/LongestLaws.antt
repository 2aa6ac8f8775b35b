-- The longest run: it is the greatest length that passes, and where a longer run that passes has shorter ones that pass, one slot more at a
-- time finds it. Assumes nothing.
use Rattle.std.specs.Prelude.{◌≡◌, ◌⊎◌, Bool, true, false, ℕ, zero, suc, ◌≤◌}
use Rattle.std.proofs.Math.Path.{refl}
use Rattle.std.proofs.Common.{sym, ◌∙◌, ap, inl, inr, eq-or-lt_of_le, arith}
use Rattle.std.proofs.lemmas.Bool.{false≢true}
use Rattle.method.specs.Method.{longest}

module _ (test : ℕ → Bool) where
  longest_step_true : (n : ℕ) → test (suc n) ≡ true → longest test (suc n) ≡ suc n
  unfolding longest
  longest_step_true n e = rw (e, longest)

  longest_step_false : (n : ℕ) → test (suc n) ≡ false → longest test (suc n) ≡ longest test n
  unfolding longest
  longest_step_false n e = rw (e, longest)

  pub longest_zero : longest test 0 ≡ 0
  unfolding longest
  longest_zero = refl

  -- it is at most the length asked for
  pub longest_le : (n : ℕ) → longest test n ≤ n
  longest_le zero = omega (arith, longest_zero)
  longest_le (suc n) = go (test (suc n)) refl (longest_le n)
    where
      go : (x : Bool) → test (suc n) ≡ x → longest test n ≤ n → longest test (suc n) ≤ suc n
      go true e ih = omega (arith, longest_step_true n e)
      go false e ih = omega (arith, longest_step_false n e)

  -- it passes, where the empty run does
  pub longest_passes : test 0 ≡ true → (n : ℕ) → test (longest test n) ≡ true
  longest_passes z zero = ap test longest_zero ∙ z
  longest_passes z (suc n) = go (test (suc n)) refl (longest_passes z n)
    where
      go : (x : Bool) → test (suc n) ≡ x → test (longest test n) ≡ true → test (longest test (suc n)) ≡ true
      go true e ih = ap test (longest_step_true n e) ∙ e
      go false e ih = ap test (longest_step_false n e) ∙ ih

  -- every length that passes is at most it
  pub le_longest : (n i : ℕ) → i ≤ n → test i ≡ true → i ≤ longest test n
  le_longest zero i l e = omega arith
  le_longest (suc n) i l e = go (test (suc n)) refl (eq-or-lt_of_le l) (λ k. le_longest n i k e)
    where
      go : (x : Bool) → test (suc n) ≡ x → (i ≡ suc n) ⊎ (suc i ≤ suc n) → (i ≤ n → i ≤ longest test n) → i ≤ longest test (suc n)
      go true q c ih = omega (arith, longest_step_true n q)
      go false q (inl c) ih = absurd (false≢true (sym q ∙ ap test (sym c) ∙ e))
      go false q (inr c) ih = omega (arith, ih (omega arith), longest_step_false n q)

  -- no run where no length above 0 passes
  pub longest_none : ((i : ℕ) → test (suc i) ≡ false) → (n : ℕ) → longest test n ≡ 0
  longest_none h zero = longest_zero
  longest_none h (suc n) = longest_step_false n (h n) ∙ longest_none h n

-- one slot, and then the longest run after it
pub longest_suc : (test : ℕ → Bool) → test 1 ≡ true → (n : ℕ) → longest test (suc n) ≡ suc (longest (λ i. test (suc i)) n)
longest_suc test o zero = longest_step_true test 0 o ∙ ap suc (sym (longest_zero (λ i. test (suc i))))
longest_suc test o (suc n) = go (test (suc (suc n))) refl (longest_suc test o n)
  where
    next : ℕ → Bool
    next i = test (suc i)

    go : (x : Bool) → test (suc (suc n)) ≡ x → longest test (suc n) ≡ suc (longest next n) → longest test (suc (suc n)) ≡ suc (longest next (suc n))
    go true e ih = longest_step_true test (suc n) e ∙ ap suc (sym (longest_step_true next n e))
    go false e ih = longest_step_false test (suc n) e ∙ ih ∙ ap suc (sym (longest_step_false next n e))
