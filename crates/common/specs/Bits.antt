-- Bits of a number: `bit w j` is 1 where w has the bit j, and else 0. Assumes nothing.
use Rattle.std.specs.Prelude.{◌≡◌, refl, ◌≢◌, ℕ, zero, suc, ◌+◌, ◌-◌, ◌*◌, ◌/◌, ◌%◌, ◌^◌, ◌≤◌, ◌<◌, min, max}
use Rattle.std.proofs.Common.{sym, ap, ◌∙◌, ⊎_elim, div-one, not-suc-le-zero, le_of_suc-le-suc, eq-zero-or-pos, one-mul, mod-eq_of_lt, arith}
use Rattle.std.proofs.Math.Nat.{pow-succ', div-div-eq-div-mul, zero-div}
use Rattle.std.specs.Int.Bits.{bit_and, bit_or, and_step, or_step}
use Rattle.std.proofs.lemmas.Nat.{and_shr, or_shr}
use Rattle.std.proofs.Math.Pow.{pow-lt}
use Rattle.std.proofs.Math.Arith.{bin_ind}
use Rattle.std.specs.Int.Count.{ones, ones_step, count_trailing_zeros, under}

unfoldable pub bit : ℕ → ℕ → ℕ
bit w j = w / 2 ^ j % 2

pub bit_zero : (w : ℕ) → bit w zero ≡ w % 2
unfolding bit
bit_zero w = ap (λ (n : ℕ). n % 2) (div-one w)

pub bit_suc : (w j : ℕ) → bit w (suc j) ≡ bit (w / 2) j
unfolding bit
bit_suc w j = ap (λ (n : ℕ). n % 2) (ap (λ (n : ℕ). w / n) (pow-succ' 2 j) ∙ sym (div-div-eq-div-mul w 2 (2 ^ j)))

pub bit_lt : (w j : ℕ) → bit w j < 2
unfolding bit
bit_lt w j = omega arith

pub bit_of_zero : (j : ℕ) → bit 0 j ≡ 0
unfolding bit
bit_of_zero j = rw zero-div

-- the bits of a & b
pub bit_and_lem : (a b j : ℕ) → bit (bit_and a b) j ≡ min (bit a j) (bit b j)
unfolding bit
bit_and_lem a b j =
    rw (and_shr a b j, and_step (a / 2 ^ j) (b / 2 ^ j)) (omega arith)

-- a bit that both have shows that a & b is not 0
pub and_of_both : (a b j : ℕ) → bit a j ≡ 1 → bit b j ≡ 1 → bit_and a b ≢ 0
and_of_both a b j p q e =
    let z : bit (bit_and a b) j ≡ 0 = rw e (bit_of_zero j) in
    omega (arith, bit_and_lem a b j)

pub both_of_and : (a b j : ℕ) → bit (bit_and a b) j ≡ 1 → (bit a j ≡ 1) × (bit b j ≡ 1)
both_of_and a b j e = omega (arith, bit_and_lem a b j, bit_lt a j, bit_lt b j)

-- a & b is 0 where no bit is in both
pub and_none : (a b : ℕ) → ((j : ℕ) → bit a j + bit b j ≤ 1) → bit_and a b ≡ 0
and_none a b =
    bin_ind (λ (a : ℕ). (b : ℕ) → ((j : ℕ) → bit a j + bit b j ≤ 1) → bit_and a b ≡ 0) (λ b h. refl)
    (λ a ih b h.
    let e : bit_and (a / 2) (b / 2) ≡ 0 = ih (b / 2) (λ j. rw (← bit_suc a j, ← bit_suc b j) (h (suc j))) in
    omega (arith, and_step a b, bit_zero a, bit_zero b, h zero))
    a b

-- the lowest bit of a number that is not 0
pub lowest_bit : (k w : ℕ) → w < 2 ^ k → w ≢ 0 → (count_trailing_zeros k w < k) × (bit w (count_trailing_zeros k w) ≡ 1)
unfolding count_trailing_zeros
lowest_bit zero w h n = absurd (n (omega arith))
lowest_bit (suc k) w h n = go (lowest_bit k (w / 2) (omega (arith, pow-succ' 2 k))) (w % 2) refl
  where
    go : ((w / 2 ≢ 0) → (count_trailing_zeros k (w / 2) < k) × (bit (w / 2) (count_trailing_zeros k (w / 2)) ≡ 1))
        → (r : ℕ) → w % 2 ≡ r → (under r (count_trailing_zeros k (w / 2)) < suc k) × (bit w (under r (count_trailing_zeros k (w / 2))) ≡ 1)
    go ih zero e =
        let p = ih (omega arith) in
        (omega arith, bit_suc w (count_trailing_zeros k (w / 2)) ∙ p.1)
    go ih (suc r) e = (omega arith, omega (arith, bit_zero w))

pub some_bit : (w : ℕ) → w ≢ 0 → (j : ℕ) × (bit w j ≡ 1)
some_bit =
    bin_ind (λ (w : ℕ). w ≢ 0 → (j : ℕ) × (bit w j ≡ 1)) (λ n. absurd (n refl))
    (λ w ih n.
    ⊎_elim (λ e. let p = ih (omega arith) in (suc p.0, bit_suc w p.0 ∙ p.1)) (λ l. (zero, omega (arith, bit_zero w)))
    (eq-zero-or-pos (w % 2)))

-- what `1 << j` is, of so many bits
pub one_shl : {width : ℕ} (j : ℕ) → j < width → (1 * 2 ^ j) % 2 ^ width ≡ 2 ^ j
one_shl j h = rw one-mul (mod-eq_of_lt (pow-lt h))

-- set a bit that is 0
half_add : (w j : ℕ) → (w + 2 ^ suc j) / 2 ≡ w / 2 + 2 ^ j
half_add w j = rw (pow-succ' 2 j) (omega arith)

pub add_same : (w j : ℕ) → bit w j ≡ 0 → bit (w + 2 ^ j) j ≡ 1
add_same w zero e = omega (arith, bit_zero w, bit_zero (w + 1))
add_same w (suc j) e =
    bit_suc (w + 2 ^ suc j) j ∙ rw half_add (add_same (w / 2) j (sym (bit_suc w j) ∙ e))

pub add_other : (w j k : ℕ) → bit w j ≡ 0 → k ≢ j → bit (w + 2 ^ j) k ≡ bit w k
add_other w zero zero e n = absurd (n refl)
add_other w zero (suc k) e n =
    let h : (w + 1) / 2 ≡ w / 2 = omega (arith, bit_zero w) in
    bit_suc (w + 1) k ∙ rw h (sym (bit_suc w k))
add_other w (suc j) zero e n = omega (arith, bit_zero w, bit_zero (w + 2 ^ suc j), pow-succ' 2 j)
add_other w (suc j) (suc k) e n =
    bit_suc (w + 2 ^ suc j) k
    ∙ rw half_add (add_other (w / 2) j k (sym (bit_suc w j) ∙ e) (λ q. n (ap suc q)) ∙ sym (bit_suc w k))

-- a number that has the bit j is at least 2 ^ j
pub bit_le : (w j : ℕ) → bit w j ≡ 1 → 2 ^ j ≤ w
bit_le w zero e = omega (arith, bit_zero w)
bit_le w (suc j) e = omega (arith, bit_le (w / 2) j (sym (bit_suc w j) ∙ e), pow-succ' 2 j)

-- set, the number still fits
pub add_fits : (n w j : ℕ) → w < 2 ^ n → j < n → bit w j ≡ 0 → w + 2 ^ j < 2 ^ n
add_fits zero w j h l e = absurd (not-suc-le-zero l)
add_fits (suc n) w zero h l e = omega (arith, bit_zero w, pow-succ' 2 n)
add_fits (suc n) w (suc j) h l e =
    omega (arith, add_fits n (w / 2) j (omega (arith, pow-succ' 2 n)) (le_of_suc-le-suc l) (sym (bit_suc w j) ∙ e), pow-succ' 2 n, pow-succ' 2 j)

-- clear a bit that is 1
pub sub_same : (w j : ℕ) → bit w j ≡ 1 → bit (w - 2 ^ j) j ≡ 0
sub_same w zero e = omega (arith, bit_zero w, bit_zero (w - 1))
sub_same w (suc j) e =
    let e' : bit (w / 2) j ≡ 1 = sym (bit_suc w j) ∙ e in
    let h : (w - 2 ^ suc j) / 2 ≡ w / 2 - 2 ^ j = omega (arith, bit_le (w / 2) j e', pow-succ' 2 j) in
    bit_suc (w - 2 ^ suc j) j ∙ rw h (sub_same (w / 2) j e')

pub sub_other : (w j k : ℕ) → bit w j ≡ 1 → k ≢ j → bit (w - 2 ^ j) k ≡ bit w k
sub_other w j k e n =
    let b : w - 2 ^ j + 2 ^ j ≡ w = omega (arith, bit_le w j e) in
    sym (add_other (w - 2 ^ j) j k (sub_same w j e) n) ∙ ap (λ (v : ℕ). bit v k) b

-- how many bits are 1
pub ones_add : (w j : ℕ) → bit w j ≡ 0 → ones (w + 2 ^ j) ≡ ones w + 1
ones_add w zero e =
    let h : (w + 1) / 2 ≡ w / 2 = omega (arith, bit_zero w) in
    omega (arith, ones_step (w + 1), ones_step w, ap ones h, bit_zero w)
ones_add w (suc j) e =
    omega (arith, ones_step (w + 2 ^ suc j), ones_step w, ap ones (half_add w j), ones_add (w / 2) j (sym (bit_suc w j) ∙ e), pow-succ' 2 j)

pub ones_sub : (w j : ℕ) → bit w j ≡ 1 → ones w ≡ ones (w - 2 ^ j) + 1
ones_sub w j e =
    let b : w - 2 ^ j + 2 ^ j ≡ w = omega (arith, bit_le w j e) in
    sym (ap ones b) ∙ ones_add (w - 2 ^ j) j (sub_same w j e)

pub bit_none : (w j : ℕ) → bit w j ≢ 1 → bit w j ≡ 0
bit_none w j n = omega (arith, bit_lt w j)

-- a number below 2 ^ j does not have the bit j
pub bit_below : (w j : ℕ) → w < 2 ^ j → bit w j ≡ 0
bit_below w j h = bit_none w j (λ e. omega (arith, bit_le w j e))

-- the bits of a | b
pub bit_or_lem : (a b j : ℕ) → bit (bit_or a b) j ≡ max (bit a j) (bit b j)
unfolding bit
bit_or_lem a b j = rw (or_shr a b j, or_step (a / 2 ^ j) (b / 2 ^ j)) (omega arith)

-- a number is known by its bits
pub same_bits : (v w : ℕ) → ((j : ℕ) → bit v j ≡ bit w j) → v ≡ w
same_bits =
    bin_ind (λ (v : ℕ). (w : ℕ) → ((j : ℕ) → bit v j ≡ bit w j) → v ≡ w)
    (λ w h.
    ⊎_elim (λ e. sym e)
    (λ l. let p = some_bit w (λ e. omega arith) in absurd (omega (arith, p.1, h p.0, bit_of_zero p.0)))
    (eq-zero-or-pos w))
    (λ v ih w h.
    let e : v / 2 ≡ w / 2 = ih (w / 2) (λ j. sym (bit_suc v j) ∙ h (suc j) ∙ bit_suc w j) in
    omega (arith, h zero, bit_zero v, bit_zero w))
