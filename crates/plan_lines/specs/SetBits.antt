-- The bits of a word that are 1, lowest first: found one after another by taking the lowest away. Assumes nothing.
use Rattle.std.specs.Prelude.{◌≡◌, refl, ◌≢◌, Bool, true, false, cond, List, [], ◌∷◌, ◌++◌, ℕ, zero, suc, ◌+◌, ◌-◌, ◌/◌, ◌%◌, ◌^◌, ◌≤◌, ◌<◌, eqb, length}
use Rattle.std.proofs.Common.{sym, ap, ap₂, ◌∙◌, pow-suc, div-one, le_of_suc-le-suc, arith}
use Rattle.std.proofs.Math.Nat.{pow-succ', div-div-eq-div-mul}
use Rattle.std.specs.Int.Count.{count_trailing_zeros, under}
use Rattle.common.specs.Lists.{range, keep}
use Rattle.common.specs.Bits.{bit, bit_le, lowest_bit}

-- which of the n lowest bits of w are 1, the lowest counted as bit j
unfoldable pub set_bits : (j n w : ℕ) → List ℕ
set_bits j zero w = []
set_bits j (suc n) w = cond (eqb (w % 2) 1) (j ∷ []) [] ++ set_bits (suc j) n (w / 2)

-- they are those whose bit is 1
keep_set_bits : (w j n : ℕ) → keep (λ i. eqb (bit w i) 1) (range j n) ≡ set_bits j n (w / 2 ^ j)
unfolding set_bits bit
keep_set_bits w j zero = refl
keep_set_bits w j (suc n) = ap (λ l. cond (eqb (w / 2 ^ j % 2) 1) (j ∷ []) [] ++ l) (keep_set_bits w (suc j) n ∙ ap (set_bits (suc j) n) half)
  where
    half : w / 2 ^ suc j ≡ w / 2 ^ j / 2
    half = ap (λ k. w / k) (pow-suc 2 j) ∙ sym (div-div-eq-div-mul w (2 ^ j) 2)

pub set_bits_keep : (w n : ℕ) → keep (λ i. eqb (bit w i) 1) (range 0 n) ≡ set_bits 0 n w
set_bits_keep w n = keep_set_bits w 0 n ∙ ap (set_bits 0 n) (div-one w)

pub set_bits_zero : (j n : ℕ) → set_bits j n 0 ≡ []
unfolding set_bits
set_bits_zero j zero = refl
set_bits_zero j (suc n) = set_bits_zero (suc j) n

pub length_set_bits : (j n w : ℕ) → length (set_bits j n w) ≤ n
unfolding set_bits
length_set_bits j zero w = omega arith
length_set_bits j (suc n) w = go (eqb (w % 2) 1) (length_set_bits (suc j) n (w / 2))
  where
    go : (b : Bool) → length (set_bits (suc j) n (w / 2)) ≤ n → length (cond b (j ∷ []) [] ++ set_bits (suc j) n (w / 2)) ≤ suc n
    go true h = omega arith
    go false h = omega arith

-- bits past those that a word has
pub set_bits_past : (j n m w : ℕ) → w < 2 ^ n → n ≤ m → set_bits j m w ≡ set_bits j n w
unfolding set_bits
set_bits_past j zero m w h l = ap (set_bits j m) z ∙ set_bits_zero j m
  where
    z : w ≡ 0
    z = omega arith
set_bits_past j (suc n) zero w h l = absurd (omega arith)
set_bits_past j (suc n) (suc m) w h l =
    ap (λ r. cond (eqb (w % 2) 1) (j ∷ []) [] ++ r) (set_bits_past (suc j) n m (w / 2) (omega (arith, pow-succ' 2 n)) (le_of_suc-le-suc l))

-- the lowest of them, and the others
pub set_bits_lowest : (k j w : ℕ) → w < 2 ^ k → w ≢ 0 → set_bits j k w ≡ (j + count_trailing_zeros k w) ∷ set_bits j k (w - 2 ^ count_trailing_zeros k w)
unfolding set_bits count_trailing_zeros
set_bits_lowest zero j w h n = absurd (n (omega arith))
set_bits_lowest (suc k) j w h n = go (set_bits_lowest k (suc j) (w / 2) (omega (arith, pow-succ' 2 k))) (w % 2) refl
  where
    none : (r : ℕ) → r ≡ 0 → cond (eqb r 1) (j ∷ []) [] ≡ []
    none r e = rw e

    some : (r : ℕ) → r ≡ 1 → cond (eqb r 1) (j ∷ []) [] ≡ j ∷ []
    some r e = rw e

    go : ((w / 2 ≢ 0) → set_bits (suc j) k (w / 2) ≡ (suc j + count_trailing_zeros k (w / 2)) ∷ set_bits (suc j) k (w / 2 - 2 ^ count_trailing_zeros k (w / 2)))
        → (r : ℕ) → w % 2 ≡ r
        → set_bits j (suc k) w ≡ (j + under r (count_trailing_zeros k (w / 2))) ∷ set_bits j (suc k) (w - 2 ^ under r (count_trailing_zeros k (w / 2)))
    go ih zero e =
        let z : ℕ = count_trailing_zeros k (w / 2) in
        let b : 2 ^ z ≤ w / 2 = bit_le (w / 2) z (lowest_bit k (w / 2) (omega (arith, pow-succ' 2 k)) (omega arith)).1 in
        let h₂ : (w - 2 ^ suc z) / 2 ≡ w / 2 - 2 ^ z = omega (arith, pow-succ' 2 z) in
        let m₂ : (w - 2 ^ suc z) % 2 ≡ 0 = omega (arith, pow-succ' 2 z) in
        ap (λ l. l ++ set_bits (suc j) k (w / 2)) (none (w % 2) e)
        ∙ ih (omega arith)
        ∙ ap₂ (λ (a : ℕ) (l : List ℕ). a ∷ l) (omega arith) (sym (ap₂ (λ (l m : List ℕ). l ++ m) (none ((w - 2 ^ suc z) % 2) m₂) (ap (set_bits (suc j) k) h₂)))
    go ih (suc r) e =
        let h₂ : (w - 1) / 2 ≡ w / 2 = omega arith in
        ap (λ l. l ++ set_bits (suc j) k (w / 2)) (some (w % 2) (omega arith))
        ∙ ap₂ (λ (a : ℕ) (l : List ℕ). a ∷ l) (omega arith) (sym (ap₂ (λ (l m : List ℕ). l ++ m) (none ((w - 1) % 2) (omega arith)) (ap (set_bits (suc j) k) h₂)))
