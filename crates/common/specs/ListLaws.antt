-- Laws of the lists that the layers share. Assumes nothing.
use Rattle.std.specs.Prelude.{◌≡◌, refl, Bool, true, false, List, [], ◌∷◌, ◌++◌, map, ℕ, zero, suc, ◌+◌, ◌-◌, ◌<◌, ◌≤◌, length, get_or, take, drop, replicate}
use Rattle.std.proofs.Common.{sym, ap, ◌∙◌, append_assoc, add-one, arith, drop-cons}
use Rattle.common.specs.Lists.{part, range, count, flat_map}

module _ {A : Type 0} where
  -- a part that is not empty has its first element and the part after it
  pub part_cons : (s : List A) (from end : ℕ) (z : A) → from < end → end ≤ length s → part from end s ≡ get_or s from z ∷ part (from + 1) end s
  part_cons s from end z h k =
      ap (λ n. take n (drop from s)) e ∙ ap (take (suc (end - (from + 1)))) (drop-cons s from z (omega arith))
      ∙ ap (λ n. get_or s from z ∷ take (end - (from + 1)) (drop n s)) (sym (add-one from))
    where
      e : end - from ≡ suc (end - (from + 1))
      e = omega arith

  pub part_none : (s : List A) (end : ℕ) → part end end s ≡ []
  part_none s end = ap (λ n. take n (drop end s)) (zero_of end)
    where
      zero_of : (n : ℕ) → n - n ≡ zero
      zero_of n = omega arith

  pub part_front : (s : List A) (end : ℕ) → take end s ≡ part 0 end s
  part_front s end = ap (λ n. take n s) (all end)
    where
      all : (n : ℕ) → n ≡ n - 0
      all n = omega arith

-- ---- ranges, and lists made along them

pub range_snoc : (a n : ℕ) → range a (suc n) ≡ range a n ++ ((a + n) ∷ [])
range_snoc a zero = ap (λ k. k ∷ []) (plus_zero a)
  where
    plus_zero : (a : ℕ) → a ≡ a + 0
    plus_zero a = omega arith
range_snoc a (suc n) = ap (λ l. a ∷ l) (range_snoc (suc a) n ∙ ap (λ k. range (suc a) n ++ (k ∷ [])) (next a n))
  where
    next : (a n : ℕ) → suc a + n ≡ a + suc n
    next a n = omega arith

module _ {A : Type 0} (f : ℕ → A) where
  pub length_from : (a n : ℕ) → length (map f (range a n)) ≡ n
  length_from a zero = refl
  length_from a (suc n) = ap suc (length_from (suc a) n)

  pub length_map_range : (n : ℕ) → length (map f (range 0 n)) ≡ n
  length_map_range n = length_from 0 n

  get_d_from : (z : A) (a n j : ℕ) → j < n → get_or (map f (range a n)) j z ≡ f (a + j)
  get_d_from z a zero j l = absurd (omega arith)
  get_d_from z a (suc n) zero l = ap f (omega arith)
  get_d_from z a (suc n) (suc j) l = get_d_from z (suc a) n j (omega arith) ∙ ap f (omega arith)

  pub get_d_map_range : (z : A) (n j : ℕ) → j < n → get_or (map f (range 0 n)) j z ≡ f j
  get_d_map_range z n j l = get_d_from z 0 n j l ∙ ap f (omega arith)

module _ {A B : Type 0} where
  pub flat_map_append : (f : A → List B) (xs ys : List A) → flat_map f (xs ++ ys) ≡ flat_map f xs ++ flat_map f ys
  flat_map_append f [] ys = refl
  flat_map_append f (x ∷ xs) ys = ap (λ l. f x ++ l) (flat_map_append f xs ys) ∙ sym (append_assoc (f x) (flat_map f xs) (flat_map f ys))

pub drop_replicate : {A : Type 0} (k n : ℕ) (a : A) → drop k (replicate n a) ≡ replicate (n - k) a
drop_replicate zero n a = ap (λ m. replicate m a) (all n)
  where
    all : (n : ℕ) → n ≡ n - 0
    all n = omega arith
drop_replicate (suc k) zero a = ap (λ m. replicate m a) (none k)
  where
    none : (k : ℕ) → 0 ≡ 0 - suc k
    none k = omega arith
drop_replicate (suc k) (suc n) a = drop_replicate k n a ∙ ap (λ m. replicate m a) (less n k)
  where
    less : (n k : ℕ) → n - k ≡ suc n - suc k
    less n k = omega arith

-- ---- counts

-- at most every test passes
pub count_le_length : (bs : List Bool) → count bs ≤ length bs
count_le_length [] = omega arith
count_le_length (true ∷ bs) = omega (arith, count_le_length bs)
count_le_length (false ∷ bs) = omega (arith, count_le_length bs)
