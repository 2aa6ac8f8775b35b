-- The difference of two numbers as an `i32`: it fits where both are small, and it is the signed difference. Assumes nothing.
use Rattle.std.specs.Prelude.{◌≡◌, refl, Bool, true, false, cond, ℕ, zero, suc, ◌-◌, ◌^◌, ◌<◌, ltb, pos, negsuc, ◌-ℤ◌}
use Rattle.std.proofs.Common.{sym, ap, subst, ◌∙◌, arith, le-ltb, ltb-true, SFits, to_z, of_z}
use Rattle.std.proofs.Math.IntN.{sub_ℕ}
use Rattle.std.specs.Int.Signed.{mag}
use Rattle.std.specs.Int.{w32}
use Rattle.std.proofs.lemmas.Int.{to_z_pos, to_z-of_z}

pos_sub : (a b : ℕ) → pos a -ℤ pos b ≡ sub_ℕ a b
pos_sub a zero = rw (le-ltb a 0 (omega arith)) (ap pos (omega arith))
pos_sub a (suc b) = refl

mag_sub : (a b k : ℕ) → a < k → b < k → mag (sub_ℕ a b) < k
mag_sub a b k p q = go (ltb a b) refl
  where
    go : (t : Bool) → ltb a b ≡ t → mag (cond t (negsuc (b - suc a)) (pos (a - b))) < k
    go true e = omega (arith, ltb-true a b e)
    go false e = omega arith

module _ (a b : ℕ) (p : a < 2 ^ 31) (q : b < 2 ^ 31) where
  minus : to_z w32 a -ℤ to_z w32 b ≡ sub_ℕ a b
  minus = rw (to_z_pos w32 a p, to_z_pos w32 b q) (pos_sub a b)

  pub difference_fits : SFits w32 (to_z w32 a -ℤ to_z w32 b)
  difference_fits = subst (SFits w32) (sym minus) (record { sfits = mag_sub a b (2 ^ 31) p q })

  pub difference_is : to_z w32 (of_z w32 (to_z w32 a -ℤ to_z w32 b)) ≡ sub_ℕ a b
  difference_is = to_z-of_z w32 (to_z w32 a -ℤ to_z w32 b) difference_fits ∙ minus
