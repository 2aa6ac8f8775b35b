-- The steps of the product: one binary digit of a factor after another. Assumes nothing.
use Rattle.std.specs.Prelude.{◌≡◌, ℕ, ◌+◌, ◌*◌, ◌/◌, ◌%◌, ◌^◌, ◌<◌, ◌⊎◌, ◌≢◌}
use Rattle.std.proofs.Common.{sym, ap, ◌∙◌, inl, inr, mul_assoc, add-mul, mul-add, mod-eq_of_lt, mod-lt, div-add-mod', arith}
use Rattle.std.proofs.Math.Nat.{mod-add-mod, mul-add-mod_self_right}

-- what is summed so far and what is still to be summed make up the product
pub record Product (x y sum left doubled : ℕ) : Type 0 where
  pub fits : sum < 2 ^ 32
  pub same : (sum + left * doubled) % 2 ^ 32 ≡ (x * y) % 2 ^ 32

pub product_begin : (x y : ℕ) → Product x y 0 x y
product_begin x y = record { fits = omega arith; same = ap (λ z. z % 2 ^ 32) (zero_plus (x * y)) }
  where
    zero_plus : (z : ℕ) → 0 + z ≡ z
    zero_plus z = omega arith

-- a factor may be cut to 32 bits
cut_factor : (s k d : ℕ) → (s + k * (d % 2 ^ 32)) % 2 ^ 32 ≡ (s + k * d) % 2 ^ 32
cut_factor s k d =
    sym (mul-add-mod_self_right (k * (d / 2 ^ 32)) (2 ^ 32) (s + k * (d % 2 ^ 32)))
    ∙ ap (λ z. z % 2 ^ 32) whole
  where
    whole : k * (d / 2 ^ 32) * 2 ^ 32 + (s + k * (d % 2 ^ 32)) ≡ s + k * d
    whole = omega (arith, mul_assoc k (d / 2 ^ 32) (2 ^ 32), mul-add k (d / 2 ^ 32 * 2 ^ 32) (d % 2 ^ 32), ap (λ z. k * z) (div-add-mod' d (2 ^ 32)))

module _ (x y sum left doubled : ℕ) (h : Product x y sum left doubled) where
  -- the next digit is 0, ..
  product_even : left % 2 ≡ 0 → Product x y sum (left / 2) ((doubled + doubled) % 2 ^ 32)
  product_even e =
      record {
        fits = h.fits;
        same = cut_factor sum (left / 2) (doubled + doubled) ∙ ap (λ z. z % 2 ^ 32) whole ∙ h.same;
      }
    where
      half : left ≡ left / 2 + left / 2
      half = omega (arith, e)

      whole : sum + left / 2 * (doubled + doubled) ≡ sum + left * doubled
      whole =
          ap (λ z. sum + z)
          (mul-add (left / 2) doubled doubled ∙ sym (add-mul (left / 2) (left / 2) doubled) ∙ ap (λ z. z * doubled) (sym half))

  -- .. or 1
  product_odd : left % 2 ≡ 1 → Product x y ((sum + doubled) % 2 ^ 32) (left / 2) ((doubled + doubled) % 2 ^ 32)
  product_odd e =
      record {
        fits = mod-lt (sum + doubled) (omega arith);
        same =
            cut_factor ((sum + doubled) % 2 ^ 32) (left / 2) (doubled + doubled)
            ∙ mod-add-mod (sum + doubled) (2 ^ 32) (left / 2 * (doubled + doubled))
            ∙ ap (λ z. z % 2 ^ 32) whole ∙ h.same;
      }
    where
      half : left ≡ left / 2 + left / 2 + 1
      half = omega (arith, e)

      split : left * doubled ≡ left / 2 * (doubled + doubled) + doubled
      split =
          ap (λ z. z * doubled) half ∙ add-mul (left / 2 + left / 2) 1 doubled
          ∙ omega (arith, add-mul (left / 2) (left / 2) doubled, mul-add (left / 2) doubled doubled)

      whole : sum + doubled + left / 2 * (doubled + doubled) ≡ sum + left * doubled
      whole = omega (arith, split)

  -- one digit more
  pub product_next : (next twice : ℕ)
      → ((left % 2 ≡ 1) × (next ≡ (sum + doubled) % 2 ^ 32)) ⊎ ((left % 2 ≢ 1) × (next ≡ sum))
      → twice ≡ (doubled + doubled) % 2 ^ 32 → Product x y next (left / 2) twice
  product_next next twice (inl (e, f)) g = rw (f, g) (product_odd e)
  product_next next twice (inr (e, f)) g = rw (f, g) (product_even (omega (arith, e)))

  -- no digit is left
  pub product_end : left ≡ 0 → sum ≡ (x * y) % 2 ^ 32
  product_end e = sym (mod-eq_of_lt h.fits) ∙ ap (λ z. z % 2 ^ 32) none ∙ h.same
    where
      none : sum ≡ sum + left * doubled
      none = omega (arith, ap (λ z. z * doubled) e)
