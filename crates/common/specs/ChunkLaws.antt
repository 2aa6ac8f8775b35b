-- A list in chunks of k elements each: a line's fields, a sheet's lines. Assumes nothing.
use Rattle.std.specs.Prelude.{◌≡◌, List, ◌++◌, ℕ, zero, suc, ◌+◌, ◌*◌, ◌≤◌, length, get_or, take, drop}
use Rattle.std.proofs.Common.{sym, ap, ◌∙◌, append_assoc, append-nil, mul-zero, add-zero, arith, length-drop, take-append-drop, drop_of_length-le, take_at, drop-drop, length-take-le, get_or-append-add}
use Rattle.std.proofs.Math.Seq.{drop-append-add}
use Rattle.common.specs.Lists.{range, flat_map}

module _ {A : Type 0} where
  -- chunk i of the list, from 0
  abbrev pub chunk : ℕ → List A → ℕ → List A
  chunk k l i = take k (drop (k * i) l)

  pub chunk_zero : (k : ℕ) (xs ys : List A) → length xs ≡ k → chunk k (xs ++ ys) 0 ≡ xs
  chunk_zero k xs ys e = rw mul-zero (take_at xs ys k e)

  pub chunk_suc : (k : ℕ) (xs ys : List A) (i : ℕ) → length xs ≡ k → chunk k (xs ++ ys) (suc i) ≡ chunk k ys i
  chunk_suc k xs ys i e =
      let n : k * suc i ≡ length xs + k * i = omega arith in
      ap (λ (m : ℕ). take k (drop m (xs ++ ys))) n ∙ ap (take k) (drop-append-add xs ys (k * i))

  pub get_d_append_past : (k : ℕ) (xs ys : List A) (n : ℕ) (d : A) → length xs ≡ k → get_or (xs ++ ys) (k + n) d ≡ get_or ys n d
  get_d_append_past k xs ys n d e = rw (← e) (get_or-append-add xs ys n d)

  pub length_chunk : (k : ℕ) (l : List A) (i : ℕ) → k * suc i ≤ length l → length (chunk k l i) ≡ k
  length_chunk k l i h = length-take-le k (drop (k * i) l) (omega (arith, length-drop (k * i) l))

  -- what is left from chunk i on is chunk i, and what is left after it
  pub drop_chunk : (k : ℕ) (l : List A) (i : ℕ) → drop (k * i) l ≡ chunk k l i ++ drop (k * suc i) l
  drop_chunk k l i =
      let n : k * i + k ≡ k * suc i = omega arith in
      sym (take-append-drop k (drop (k * i) l)) ∙ ap (λ (r : List A). chunk k l i ++ r) (drop-drop k (k * i) l ∙ ap (λ (m : ℕ). drop m l) n)

  drop_chunks : (k : ℕ) (l : List A) (i n : ℕ) → drop (k * i) l ≡ flat_map (chunk k l) (range i n) ++ drop (k * (i + n)) l
  drop_chunks k l i zero = rw add-zero
  drop_chunks k l i (suc n) =
      let m : suc i + n ≡ i + suc n = omega arith in
      drop_chunk k l i
      ∙ ap (λ (r : List A). chunk k l i ++ r) (drop_chunks k l (suc i) n ∙ ap (λ (j : ℕ). flat_map (chunk k l) (range (suc i) n) ++ drop (k * j) l) m)
      ∙ sym (append_assoc (chunk k l i) (flat_map (chunk k l) (range (suc i) n)) (drop (k * (i + suc n)) l))

  -- a list of n chunks is all of them, one after the other
  pub flat_map_chunk : (k : ℕ) (l : List A) (n : ℕ) → length l ≡ k * n → flat_map (chunk k l) (range 0 n) ≡ l
  flat_map_chunk k l n e =
      let z : k * (0 + n) ≡ k * n = omega arith in
      sym
      (ap (λ (m : ℕ). drop m l) (sym (mul-zero k))
      ∙ drop_chunks k l 0 n
      ∙ ap (λ (r : List A). flat_map (chunk k l) (range 0 n) ++ r) (drop_of_length-le l {i = k * (0 + n)} (omega arith))
      ∙ append-nil (flat_map (chunk k l) (range 0 n)))
