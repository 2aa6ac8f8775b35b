-- A bound changed on a run of slots: its length, its entries, and the run taken one slot at a time, as a store into a list. Assumes nothing.
use Rattle.std.specs.Prelude.{◌≡◌, refl, ◌⊎◌, ◌≢◌, Bool, true, false, ◌&&◌, cond, List, [], ◌∷◌, ℕ, zero, suc, ◌+◌, ◌≤◌, ◌<◌, leb, ltb, length, get_or, set}
use Rattle.std.proofs.Common.{sym, ◌∙◌, ap, inl, inr, arith, length-set, ext_get_or, get_or-set_same, get_or-set_other, lt-length-set, le-leb, lt-ltb, le-ltb}
use Rattle.std.proofs.lemmas.Bool.{lt-leb}
use Rattle.common.specs.Lists.{range, zip_with}
use Rattle.method.specs.Method.{on_run}
use Rattle.method.proofs.Cases.{le_or_lt, lt_or_eq_or_gt}

-- a list beside the numbers a, a + 1, ..
module _ (g : ℕ → ℕ → ℕ) where
  length_numbered : (a : ℕ) (xs : List ℕ) → length (zip_with g (range a (length xs)) xs) ≡ length xs
  length_numbered a [] = refl
  length_numbered a (x ∷ xs) = ap suc (length_numbered (suc a) xs)

  get_d_numbered : (a : ℕ) (xs : List ℕ) (s : ℕ) → s < length xs → get_or (zip_with g (range a (length xs)) xs) s 0 ≡ g (a + s) (get_or xs s 0)
  get_d_numbered a [] s l = absurd (omega arith)
  get_d_numbered a (x ∷ xs) zero l = let e : a ≡ a + 0 = omega arith in ap (λ i. g i x) e
  get_d_numbered a (x ∷ xs) (suc s) l =
      let e : suc a + s ≡ a + suc s = omega arith in get_d_numbered (suc a) xs s (omega arith) ∙ ap (λ i. g i (get_or xs s 0)) e

module _ (t n : ℕ) (f : ℕ → ℕ) (xs : List ℕ) where
  pub length_on_run : length (on_run t n f xs) ≡ length xs
  unfolding on_run
  length_on_run = length_numbered _ 1 xs

  entry : (s : ℕ) → s < length xs
      → get_or (on_run t n f xs) s 0 ≡ cond (leb t (1 + s) && ltb (1 + s) (t + n)) (f (get_or xs s 0)) (get_or xs s 0)
  unfolding on_run
  entry s l = get_d_numbered _ 1 xs s l

  -- a slot of the run
  pub on_run_inside : (s : ℕ) → s < length xs → t ≤ suc s → suc s < t + n → get_or (on_run t n f xs) s 0 ≡ f (get_or xs s 0)
  on_run_inside s l a b = entry s l ∙ rw (le-leb t (1 + s) (omega arith), lt-ltb (1 + s) (t + n) (omega arith))

  -- a slot before it, and a slot after it
  pub on_run_before : (s : ℕ) → s < length xs → suc s < t → get_or (on_run t n f xs) s 0 ≡ get_or xs s 0
  on_run_before s l a = entry s l ∙ rw (lt-leb t (1 + s) (omega arith))

  pub on_run_after : (s : ℕ) → s < length xs → t + n ≤ suc s → get_or (on_run t n f xs) s 0 ≡ get_or xs s 0
  on_run_after s l a = entry s l ∙ second (leb t (1 + s)) (ltb (1 + s) (t + n)) (le-ltb (1 + s) (t + n) (omega arith))
    where
      second : (a b : Bool) → b ≡ false → cond (a && b) (f (get_or xs s 0)) (get_or xs s 0) ≡ get_or xs s 0
      second true b e = rw e
      second false b e = refl

-- no slot
pub on_run_none : (t : ℕ) (f : ℕ → ℕ) (xs : List ℕ) → on_run t 0 f xs ≡ xs
on_run_none t f xs = ext_get_or 0 (on_run t 0 f xs) xs (length_on_run t 0 f xs) (λ s l. at s (rw (length_on_run t 0 f xs) at l) (le_or_lt t (suc s)))
  where
    at : (s : ℕ) → s < length xs → (t ≤ suc s) ⊎ (suc s < t) → get_or (on_run t 0 f xs) s 0 ≡ get_or xs s 0
    at s l (inl a) = on_run_after t 0 f xs s l (omega arith)
    at s l (inr a) = on_run_before t 0 f xs s l a

-- one slot more: slot t + 1 first, then the rest of the run
pub on_run_suc : (t n : ℕ) (f : ℕ → ℕ) (xs : List ℕ) → on_run (suc t) (suc n) f xs ≡ on_run (suc (suc t)) n f (set xs t (f (get_or xs t 0)))
on_run_suc t n f xs =
    ext_get_or 0 (on_run (suc t) (suc n) f xs) (on_run (suc (suc t)) n f ys) (whole ∙ sym (rest ∙ length-set xs t (f (get_or xs t 0))))
    (λ s l. at s (rw whole at l) (lt_or_eq_or_gt s t) (le_or_lt s (t + n)))
  where
    ys : List ℕ
    ys = set xs t (f (get_or xs t 0))

    whole : length (on_run (suc t) (suc n) f xs) ≡ length xs
    whole = length_on_run (suc t) (suc n) f xs

    rest : length (on_run (suc (suc t)) n f ys) ≡ length ys
    rest = length_on_run (suc (suc t)) n f ys

    other : (s : ℕ) → s ≢ t → get_or ys s 0 ≡ get_or xs s 0
    other s q = get_or-set_other xs t s (f (get_or xs t 0)) 0 q

    stays : (s : ℕ) → s < length xs → s < length ys
    stays s l = lt-length-set xs t (f (get_or xs t 0)) l

    at : (s : ℕ) → s < length xs → (s < t) ⊎ (s ≡ t) ⊎ (t < s) → (s ≤ t + n) ⊎ (t + n < s)
        → get_or (on_run (suc t) (suc n) f xs) s 0 ≡ get_or (on_run (suc (suc t)) n f ys) s 0
    at s l (inl a) b =
        on_run_before (suc t) (suc n) f xs s l (omega arith)
        ∙ sym (on_run_before (suc (suc t)) n f ys s (stays s l) (omega arith) ∙ other s (omega arith))
    at s l (inr (inl a)) b =
        on_run_inside (suc t) (suc n) f xs s l (omega arith) (omega arith)
        ∙ sym (on_run_before (suc (suc t)) n f ys s (stays s l) (omega arith) ∙ ap (λ i. get_or ys i 0) a ∙ get_or-set_same xs t (f (get_or xs t 0)) 0 (rw a at l)
        ∙ ap (λ i. f (get_or xs i 0)) (sym a))
    at s l (inr (inr a)) (inl b) =
        on_run_inside (suc t) (suc n) f xs s l (omega arith) (omega arith)
        ∙ sym (on_run_inside (suc (suc t)) n f ys s (stays s l) (omega arith) (omega arith) ∙ ap f (other s (omega arith)))
    at s l (inr (inr a)) (inr b) =
        on_run_after (suc t) (suc n) f xs s l (omega arith)
        ∙ sym (on_run_after (suc (suc t)) n f ys s (stays s l) (omega arith) ∙ other s (omega arith))

-- a single slot is a store
pub on_run_one : (t : ℕ) (f : ℕ → ℕ) (xs : List ℕ) → on_run (suc t) 1 f xs ≡ set xs t (f (get_or xs t 0))
on_run_one t f xs = on_run_suc t 0 f xs ∙ on_run_none (suc (suc t)) f (set xs t (f (get_or xs t 0)))
