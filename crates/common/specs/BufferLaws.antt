-- Laws of `over`, `put_at` and `padded`: lengths, what is put side by side, one element, and four. Assumes nothing.
use Rattle.std.specs.Prelude.{◌≡◌, refl, List, [], ◌∷◌, ◌++◌, ℕ, ◌+◌, ◌-◌, ◌≤◌, ◌<◌, length, take, drop, set, replicate}
use Rattle.std.proofs.Common.{sym, ap, ◌∙◌, append_assoc, add-one, add_assoc, arith, length-append, length-take, length-drop, take_at, drop-drop}
use Rattle.std.proofs.lemmas.List.{length-replicate, set_split}
use Rattle.std.proofs.Math.Seq.{drop-append-add, take-append_seam}
use Rattle.common.specs.Buffers.{over, put_at, padded}
use Rattle.common.specs.ListLaws.{drop_replicate}

-- over -------------------------------------------------------------------------------

-- new bytes at the front of a buffer that can hold them: the front, and the length
pub take_over : (new old : List ℕ) → take (length new) (over new old) ≡ new
unfolding over
take_over new old = take-append_seam new (drop (length new) old)

pub length_over : (new old : List ℕ) → length new ≤ length old → length (over new old) ≡ length old
unfolding over
length_over new old h = omega (arith, length-append new (drop (length new) old), length-drop (length new) old)

-- put_at ------------------------------------------------------------------------------

pub length_put_at : (at : ℕ) (new old : List ℕ) → at + length new ≤ length old → length (put_at at new old) ≡ length old
unfolding put_at
length_put_at at new old h = simp (length-append, length-take, length-drop) (omega arith)

-- what is put behind what was put
pub put_at_append : (at n : ℕ) (a b old : List ℕ) → length a ≡ n → at + n ≤ length old → put_at (at + n) b (put_at at a old) ≡ put_at at (a ++ b) old
unfolding put_at
put_at_append at n a b old e h =
    ap (λ l. take (at + n) l ++ (b ++ drop ((at + n) + length b) (take at old ++ (a ++ drop (at + length a) old)))) (sym (append_assoc (take at old) a (drop (at + length a) old)))
    ∙ ap (λ l. l ++ (b ++ drop ((at + n) + length b) (take at old ++ (a ++ drop (at + length a) old)))) (take_at (take at old ++ a) (drop (at + length a) old) (at + n) front)
    ∙ ap (λ l. (take at old ++ a) ++ (b ++ drop ((at + n) + length b) l)) (sym (append_assoc (take at old) a (drop (at + length a) old)))
    ∙ ap (λ l. (take at old ++ a) ++ (b ++ l)) behind
    ∙ append_assoc (take at old) a (b ++ drop (at + length (a ++ b)) old)
    ∙ ap (λ l. take at old ++ l) (sym (append_assoc a b (drop (at + length (a ++ b)) old)))
  where
    front : length (take at old ++ a) ≡ at + n
    front = simp (length-append, length-take) (omega arith)

    behind : drop ((at + n) + length b) ((take at old ++ a) ++ drop (at + length a) old) ≡ drop (at + length (a ++ b)) old
    behind =
        ap (λ m. drop (m + length b) ((take at old ++ a) ++ drop (at + length a) old)) (sym front)
        ∙ drop-append-add (take at old ++ a) (drop (at + length a) old) (length b)
        ∙ drop-drop (length b) (at + length a) old
        ∙ ap (λ m. drop m old) sum
      where
        sum : (at + length a) + length b ≡ at + length (a ++ b)
        sum = simp length-append (add_assoc at (length a) (length b))

-- one byte
pub set_put_at : (i b : ℕ) (old : List ℕ) → i < length old → set old i b ≡ put_at i (b ∷ []) old
unfolding put_at
set_put_at i b old h = set_split old i b h ∙ ap (λ n. take i old ++ (b ∷ drop n old)) (sym (add-one i))

-- four elements, one after another
pub set_four : (at a b c d : ℕ) (old : List ℕ) → at + 4 ≤ length old
    → set (set (set (set old at a) (at + 1) b) (at + 2) c) (at + 3) d ≡ put_at at (a ∷ b ∷ c ∷ d ∷ []) old
set_four at a b c d old h =
    ap (λ l. set (set (set l (at + 1) b) (at + 2) c) (at + 3) d) (set_put_at at a old (omega arith))
    ∙ ap (λ l. set (set l (at + 2) c) (at + 3) d) (more 1 b (a ∷ []) refl (omega arith))
    ∙ ap (λ l. set l (at + 3) d) (more 2 c (a ∷ b ∷ []) refl (omega arith))
    ∙ more 3 d (a ∷ b ∷ c ∷ []) refl (omega arith)
  where
    more : (k x : ℕ) (xs : List ℕ) → length xs ≡ k → at + k < length old
        → set (put_at at xs old) (at + k) x ≡ put_at at (xs ++ (x ∷ [])) old
    more k x xs e l =
        set_put_at (at + k) x (put_at at xs old) (omega (arith, length_put_at at xs old (omega (arith, e))))
        ∙ put_at_append at k xs (x ∷ []) old e (omega arith)

-- padded -----------------------------------------------------------------------------

pub length_padded : (n : ℕ) (xs : List ℕ) → length xs ≤ n → length (padded n xs) ≡ n
unfolding padded
length_padded n xs h = simp (length-append, length-replicate) (omega arith)

-- what is put just behind the numbers lengthens them
pub put_at_padded : (n : ℕ) (xs vs : List ℕ) → put_at (length xs) vs (padded n xs) ≡ padded n (xs ++ vs)
unfolding put_at padded
put_at_padded n xs vs =
    ap (λ l. l ++ (vs ++ drop (length xs + length vs) (xs ++ zeros))) (take-append_seam xs zeros)
    ∙ ap (λ l. xs ++ (vs ++ l)) behind
    ∙ sym (append_assoc xs vs (replicate (n - length (xs ++ vs)) 0))
  where
    zeros : List ℕ
    zeros = replicate (n - length xs) 0

    left : n - length xs - length vs ≡ n - length (xs ++ vs)
    left = omega (arith, length-append xs vs)

    behind : drop (length xs + length vs) (xs ++ zeros) ≡ replicate (n - length (xs ++ vs)) 0
    behind =
        drop-append-add xs zeros (length vs)
        ∙ drop_replicate (length vs) (n - length xs) 0
        ∙ ap (λ k. replicate k 0) left
