-- The order of signed differences, said of natural numbers. Assumes nothing.
use Rattle.std.specs.Prelude.{◌≡◌, refl, ◌↔◌, Bool, true, false, cond, ℕ, suc, ◌+◌, ◌-◌, ◌≤◌, ◌<◌, T, ltb, ℤ, pos, negsuc, ◌≤ℤ◌, ◌<ℤ◌}
use Rattle.std.proofs.Common.{sym, ap, subst, arith, leb-true, le-leb, ltb-true, ltb-false, lt-ltb, le-ltb}
use Rattle.std.proofs.lemmas.Bool.{false≢true}
use Rattle.std.proofs.Math.IntN.{sub_ℕ}
use Rattle.std.specs.Int.Signed.{le_z, lt_z}

T_true : {b : Bool} → T b → b ≡ true
T_true {b = true} h = refl
T_true {b = false} h = absurd h

true_T : {b : Bool} → b ≡ true → T b
true_T e = subst T (sym e) tt

pub le_of_le_z : {a b : ℤ} → le_z a b ≡ true → a ≤ℤ b
le_of_le_z e = record { le = true_T e }

-- a − b ≤ c − d
pub le_z_sub : (a b c d : ℕ) → (le_z (sub_ℕ a b) (sub_ℕ c d) ≡ true) ↔ (a + d ≤ c + b)
le_z_sub a b c d = go (ltb a b) (ltb c d) refl refl
  where
    go : (x y : Bool) → ltb a b ≡ x → ltb c d ≡ y
        → (le_z (cond x (negsuc (b - suc a)) (pos (a - b))) (cond y (negsuc (d - suc c)) (pos (c - d))) ≡ true) ↔ (a + d ≤ c + b)
    go true true p q =
        let p' = ltb-true a b p in
        let q' = ltb-true c d q in
        (λ e. omega (arith, leb-true (d - suc c) (b - suc a) e), λ h. le-leb (d - suc c) (b - suc a) (omega arith))
    go true false p q = (λ e. omega (arith, ltb-true a b p, ltb-false c d q), λ h. refl)
    go false true p q = (λ e. absurd (false≢true e), λ h. absurd (omega (arith, ltb-false a b p, ltb-true c d q)))
    go false false p q =
        let p' = ltb-false a b p in
        let q' = ltb-false c d q in
        (λ e. omega (arith, leb-true (a - b) (c - d) e), λ h. le-leb (a - b) (c - d) (omega arith))

pub sub_le : (a b c d : ℕ) → (sub_ℕ a b ≤ℤ sub_ℕ c d) ↔ (a + d ≤ c + b)
sub_le a b c d = (λ h. (le_z_sub a b c d).0 (T_true h.le), λ h. record { le = true_T ((le_z_sub a b c d).1 h) })

-- a − b ≤ 0, and 0 < a − b
pub sub_le_zero : (a b : ℕ) → (sub_ℕ a b ≤ℤ pos 0) ↔ (a ≤ b)
sub_le_zero a b = let e = sub_le a b 0 0 in (λ h. omega (arith, e.0 h), λ h. e.1 (omega arith))

pub zero_lt_sub : (a b : ℕ) → b < a → pos 0 <ℤ sub_ℕ a b
zero_lt_sub a b h = record { lt = go (ltb a b) refl }
  where
    go : (x : Bool) → ltb a b ≡ x → T (lt_z (pos 0) (cond x (negsuc (b - suc a)) (pos (a - b))))
    go true e = absurd (omega (arith, ltb-true a b e))
    go false e = true_T (lt-ltb 0 (a - b) (omega arith))

sub_zero : (a : ℕ) → sub_ℕ a 0 ≡ pos a
sub_zero a = rw (le-ltb a 0 (omega arith)) (ap pos (omega arith))

-- between −b and a, where the two numbers are at most b and a
pub sub_range : (x y a b : ℕ) → x ≤ a → y ≤ b → (sub_ℕ 0 b ≤ℤ sub_ℕ x y) × (sub_ℕ x y ≤ℤ pos a)
sub_range x y a b p q = ((sub_le 0 b x y).1 (omega arith), rw (sub_zero a) at ((sub_le x y a 0).1 (omega arith)))
