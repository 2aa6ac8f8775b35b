-- How reading a field goes on by one byte. Assumes nothing.
use Rattle.std.specs.Prelude.{◌≡◌, refl, Bool, true, false, not, cond, List, [], ◌∷◌, ℕ, suc, ◌+◌, ◌-◌, ◌*◌, ◌^◌, ◌≤◌, ◌<◌, eqb, length, get_or, take, drop, Some, None}
use Rattle.std.specs.Bool.{then_some}
use Rattle.std.specs.List.{position, position_from}
use Rattle.std.proofs.Common.{sym, ap, ◌∙◌, add-one, take_all, length-drop, drop-cons, drop_of_length-le, mul-le-mul_right, mul_assoc, le_trans, mul-le-mul_left, mul-one}
use Rattle.std.proofs.Math.Nat.{pow-succ', one-le-pow, pow-le-pow_right}
use Rattle.std.proofs.lemmas.Iterator.Adapters.{position_from-zero}
use native.Mathlib.Omega.{arith}
use borrow.Author.Tests.{eq-eqb, ne_eqb, le-leb, lt-leb}
use Rattle.line.specs.Layout.{width, blank}
use Rattle.line.specs.Field.{is_digit, digits, zero_alone, decimal, parse}
use Rattle.line.specs.Parts.{is_other}
use Rattle.line.specs.ColumnLaws.{none≢some}

-- ---- digits

module _ (l : List ℕ) (i : ℕ) (h : i < length l) where
  pub digits_next : (v : ℕ) → is_digit (get_or l i 0) ≡ true
      → digits v (drop i l) ≡ digits (v * 10 + (get_or l i 0 - 48)) (drop (i + 1) l)
  unfolding digits
  digits_next v e =
      rw (drop-cons l i 0 h, e)
      (ap (λ n. digits n (drop (suc i) l)) (swap (get_or l i 0 - 48)) ∙ ap (λ k. digits (v * 10 + (get_or l i 0 - 48)) (drop k l)) (sym (add-one i)))
    where
      swap : (d : ℕ) → 10 * v + d ≡ v * 10 + d
      swap d = omega arith

  pub digits_other : (v : ℕ) → is_digit (get_or l i 0) ≡ false → None ≡ digits v (drop i l)
  unfolding digits
  digits_other v e = rw (drop-cons l i 0 h, e)

pub digits_end : (l : List ℕ) (i v : ℕ) → length l ≤ i → Some v ≡ digits v (drop i l)
unfolding digits
digits_end l i v h = rw (drop_of_length-le l h)

-- ---- a number's first byte

pub decimal_zero : (b : ℕ) (bs : List ℕ) → b ≡ 48 → then_some (eqb (length bs) 0) 0 ≡ decimal b bs
unfolding decimal zero_alone
decimal_zero b [] e = rw (eq-eqb b 48 e)
decimal_zero b (c ∷ bs) e = rw (eq-eqb b 48 e, ne_eqb (length (c ∷ bs)) 0 (omega arith))

pub decimal_digit : (b : ℕ) (bs : List ℕ) → 49 ≤ b → b ≤ 57 → digits (b - 48) bs ≡ decimal b bs
unfolding decimal is_digit
decimal_digit b bs h k = rw (ne_eqb b 48 (omega arith), le-leb 48 b (omega arith), le-leb b 57 k)

pub decimal_below : (b : ℕ) (bs : List ℕ) → b < 48 → None ≡ decimal b bs
unfolding decimal is_digit
decimal_below b bs h = rw (ne_eqb b 48 (omega arith), lt-leb 48 b h)

pub decimal_above : (b : ℕ) (bs : List ℕ) → 57 < b → None ≡ decimal b bs
unfolding decimal is_digit
decimal_above b bs h = rw (ne_eqb b 48 (omega arith), le-leb 48 b (omega arith), lt-leb b 57 h)

-- ---- the number stays below 10 to the power of the width

pub room_next : (v d end i n : ℕ) → d ≤ 9 → i < end → (v + 1) * 10 ^ (end - i) ≤ n → (v * 10 + d + 1) * 10 ^ (end - (i + 1)) ≤ n
room_next v d end i n h l r =
    le_trans (mul-le-mul_right (10 ^ (end - (i + 1))) (bound d h))
    (rw (pow-succ' 10 (end - (i + 1)), ← mul_assoc (v + 1) 10 (10 ^ (end - (i + 1)))) at (rw one_less at r))
  where
    bound : (d : ℕ) → d ≤ 9 → v * 10 + d + 1 ≤ (v + 1) * 10
    bound d h = omega arith

    one_less : end - i ≡ suc (end - (i + 1))
    one_less = omega arith

pub room_value : (v k n : ℕ) → (v + 1) * 10 ^ k ≤ n → v + 1 ≤ n
room_value v k n r = le_trans (rw mul-one at (mul-le-mul_left (v + 1) (one-le-pow k 10 (omega arith)))) r

-- after a first digit, of bytes fewer than the width
pub room_first : (d k : ℕ) → d ≤ 9 → k < width → (d + 1) * 10 ^ k ≤ 10 ^ width
room_first d k h l =
    le_trans (mul-le-mul_right (10 ^ k) (bound d h)) (rw (← pow-succ' 10 k) (pow-le-pow_right (omega arith) l))
  where
    bound : (d : ℕ) → d ≤ 9 → d + 1 ≤ 10
    bound d h = omega arith

-- ---- blanks

drop_suc : (b : ℕ) (l : List ℕ) (j : ℕ) → drop (suc j + 1) (b ∷ l) ≡ drop (j + 1) l
drop_suc b l j = rw (add-one j, add-one (suc j)) refl

-- the first byte that is no blank, counted from k, and the bytes after it are the number
parse_other : (l : List ℕ) (k i : ℕ) → position_from is_other k l ≡ Some i
    → (j : ℕ) × (i ≡ k + j) × (decimal (get_or l j 0) (drop (j + 1) l) ≡ parse l)
unfolding parse
parse_other [] k i e = absurd (none≢some e)
parse_other (b ∷ l) k i e = go (eqb b blank) e (parse_other l (k + 1) i)
  where
    go : (t : Bool) → cond (not t) (Some k) (position_from is_other (k + 1) l) ≡ Some i
        → (position_from is_other (k + 1) l ≡ Some i → (j : ℕ) × (i ≡ k + 1 + j) × (decimal (get_or l j 0) (drop (j + 1) l) ≡ parse l))
        → (j : ℕ) × (i ≡ k + j) × (decimal (get_or (b ∷ l) j 0) (drop (j + 1) (b ∷ l)) ≡ cond t (parse l) (decimal b l))
    go true q f =
        let r = f q in
        (suc r.0, omega (arith, r.1), ap (decimal (get_or l r.0 0)) (drop_suc b l r.0) ∙ r.2)
    go false q f = let n : k ≡ i = cc in (0, omega (arith, n), refl)

-- every byte is a blank
parse_blank : (l : List ℕ) (k : ℕ) → position_from is_other k l ≡ None → None ≡ parse l
unfolding parse
parse_blank [] k e = refl
parse_blank (b ∷ l) k e = go (eqb b blank) e (parse_blank l (k + 1))
  where
    go : (t : Bool) → cond (not t) (Some k) (position_from is_other (k + 1) l) ≡ None
        → (position_from is_other (k + 1) l ≡ None → None ≡ parse l) → None ≡ cond t (parse l) (decimal b l)
    go true q f = f q
    go false q f = absurd (none≢some (sym q))

pub parse_at : (l : List ℕ) (i : ℕ) → position is_other l ≡ Some i
    → decimal (get_or l i 0) (take (length l - (i + 1)) (drop (i + 1) l)) ≡ parse l
parse_at l i e =
    let r = parse_other l 0 i (sym (position_from-zero is_other l) ∙ e) in
    let n : i ≡ r.0 = omega (arith, r.1) in
    ap (decimal (get_or l i 0)) (take_all (length l - (i + 1)) (drop (i + 1) l) (omega (arith, length-drop (i + 1) l)))
    ∙ ap (λ k. decimal (get_or l k 0) (drop (k + 1) l)) n ∙ r.2

pub parse_none : (l : List ℕ) → position is_other l ≡ None → None ≡ parse l
parse_none l e = parse_blank l 0 (sym (position_from-zero is_other l) ∙ e)

-- a field is cut out of a list that has it
pub field_cut : (s : List ℕ) (at : ℕ) → parse (take (at + width - at) (drop at s)) ≡ parse (take width (drop at s))
field_cut s at = ap (λ n. parse (take n (drop at s))) (size at)
  where
    size : (at : ℕ) → at + width - at ≡ width
    size at = omega arith
