-- The order of the cells: what lies before the next cell and the next slot, and where a cell stands in the list of all. Assumes nothing.
use Rattle.std.specs.Prelude.{◌≡◌, refl, ◌⊎◌, Bool, true, false, ◌&&◌, ◌||◌, cond, ℕ, zero, suc, ◌+◌, ◌≤◌, ◌<◌, ltb, eqb}
use Rattle.std.proofs.Common.{sym, ◌∙◌, ap, subst, inl, inr, ⊎_elim, eq-or-lt_of_le, arith, ltb-true, lt-ltb, le-ltb, eqb-true, eq-eqb}
use mathlib.Core.List.Memᴰ
use mathlib.Core.List.{List, [], ◌∷◌, ◌++◌, map, append_assoc, Memᴰ}
use Rattle.std.proofs.lemmas.Bool.{eqb-false}
use Rattle.common.specs.Lists.{range, flat_map}
use Rattle.common.specs.Tests.{bool_ext, or_true, and_true, or_right}
use Rattle.theory.specs.Move.{upd}
use Rattle.schedules.proofs.ListLaws.{in_flat_map}
use Rattle.method.specs.Feedings.{cells, before}

-- Before a cell ---------------------------------------------------------------

-- nothing is before the first
pub before_first : (i u : ℕ) → before 0 0 i u ≡ false
before_first i u = rw (le-ltb u 0 (omega arith), le-ltb i 0 (omega arith)) (go (eqb u 0))
  where
    go : (b : Bool) → (b && false) ≡ false
    go true = refl
    go false = refl

-- no cell is before itself
pub before_self : (t j : ℕ) → before t j j t ≡ false
before_self t j = rw (le-ltb t t (omega arith), eq-eqb t t refl, le-ltb j j (omega arith))

-- an earlier ration in the slot
pub before_ration : (t j i : ℕ) → i < j → before t j i t ≡ true
before_ration t j i l = rw (eq-eqb t t refl, lt-ltb i j l) (or_right (ltb t t) refl)

-- a cell of an earlier slot
pub before_slot : (t j i u : ℕ) → u < t → before t j i u ≡ true
before_slot t j i u l = rw (lt-ltb u t l)

-- and there is no other
pub before_cases : (t j i u : ℕ) → before t j i u ≡ true → (u < t) ⊎ ((u ≡ t) × (i < j))
before_cases t j i u e = go (or_true (ltb u t) (eqb u t && ltb i j) e)
  where
    go : (ltb u t ≡ true) ⊎ ((eqb u t && ltb i j) ≡ true) → (u < t) ⊎ ((u ≡ t) × (i < j))
    go (inl l) = inl (ltb-true u t l)
    go (inr k) = let r = and_true (eqb u t) (ltb i j) k in inr (eqb-true u t r.0, ltb-true i j r.1)

-- before the next ration's cell: the cell itself too
pub before_next : (t j i u : ℕ) → before t (suc j) i u ≡ upd (before t j) j t true i u
before_next t j i u = go (eqb i j) (eqb u t) refl refl
  where
    go : (x y : Bool) → eqb i j ≡ x → eqb u t ≡ y → (ltb u t || (y && ltb i (suc j))) ≡ cond (x && y) true (ltb u t || (y && ltb i j))
    go true true p q = rw (lt-ltb i (suc j) (omega (arith, eqb-true i j p))) (or_right (ltb u t) refl)
    go true false p q = refl
    go false true p q =
        ap (λ b. ltb u t || b)
        (bool_ext (ltb i (suc j)) (ltb i j)
        (λ e. lt-ltb i j (⊎_elim (λ k. absurd (eqb-false i j p k)) (λ k. k) (eq-or-lt_of_le {m = j} (omega (arith, ltb-true i (suc j) e)))))
        (λ e. lt-ltb i (suc j) (omega (arith, ltb-true i j e))))
    go false false p q = refl

-- before the next slot's first cell: all cells of the slot too
pub before_next_slot : (n t i u : ℕ) → i < n → before (suc t) 0 i u ≡ before t n i u
before_next_slot n t i u l = bool_ext (before (suc t) 0 i u) (before t n i u) (λ e. to (before_cases (suc t) 0 i u e)) (λ e. from (before_cases t n i u e))
  where
    to : (u < suc t) ⊎ ((u ≡ suc t) × (i < 0)) → before t n i u ≡ true
    to (inl k) = ⊎_elim (λ e. rw e (before_ration t n i l)) (before_slot t n i u) (eq-or-lt_of_le {m = t} (omega arith))
    to (inr k) = absurd (omega arith)

    from : (u < t) ⊎ ((u ≡ t) × (i < n)) → before (suc t) 0 i u ≡ true
    from (inl k) = before_slot (suc t) 0 i u (omega arith)
    from (inr k) = before_slot (suc t) 0 i u (omega arith)

-- Where a cell stands in the list of all --------------------------------------

-- in xs, what stands before b has P
abbrev pub Split : {A : Type 0} → (A → Type 0) → A → List A → Type 0
Split {A} P b xs = (front : List A) × (back : List A) × (xs ≡ front ++ b ∷ back) × ((a : A) → Memᴰ a front → P a)

range_split : (a n b : ℕ) → a ≤ b → b < a + n → Split (λ x. x < b) b (range a n)
range_split a zero b l h = absurd (omega arith)
range_split a (suc n) b l h = go (eq-or-lt_of_le l) (λ k. range_split (suc a) n b k (omega arith))
  where
    go : (a ≡ b) ⊎ (a < b) → (a < b → Split (λ x. x < b) b (range (suc a) n)) → Split (λ x. x < b) b (a ∷ range (suc a) n)
    go (inl e) ih = ([], range (suc a) n, ap (λ x. x ∷ range (suc a) n) e, λ x i. absurd (Memᴰ.not-nil i))
    go (inr k) ih =
        let r = ih k in (
          a ∷ r.0,
          r.1,
          ap (λ l. a ∷ l) r.2,
          λ x i. ⊎_elim (λ e. rw e k) (r.3 x) (Memᴰ.cases_cons i),
        )

in_range : (a n x : ℕ) → Memᴰ x (range a n) → x < a + n
in_range a zero x i = absurd (Memᴰ.not-nil i)
in_range a (suc n) x i = ⊎_elim (λ e. omega arith) (λ k. omega (arith, in_range (suc a) n x k)) (Memᴰ.cases_cons i)

flat_map_append : {A B : Type 0} (f : A → List B) (xs ys : List A) → flat_map f (xs ++ ys) ≡ flat_map f xs ++ flat_map f ys
flat_map_append f [] ys = refl
flat_map_append f (x ∷ xs) ys = ap (λ l. f x ++ l) (flat_map_append f xs ys) ∙ sym (append_assoc (f x) (flat_map f xs) (flat_map f ys))

map_append : {A B : Type 0} (f : A → B) (xs ys : List A) → map f (xs ++ ys) ≡ map f xs ++ map f ys
map_append f [] ys = refl
map_append f (x ∷ xs) ys = ap (λ l. f x ∷ l) (map_append f xs ys)

-- the cells that the list has before (t, j) are before it
pub cells_split : (slots n t j : ℕ) → t < slots → j < n
    → Split (λ c. (c.0 < slots) × (c.1 < n) × (before t j c.1 c.0 ≡ true)) (t, j) (cells slots n)
unfolding cells
cells_split slots n t j l k =
    let r = range_split 0 slots t (omega arith) (omega arith) in
    let s = range_split 0 n j (omega arith) (omega arith) in (
      flat_map row r.0 ++ map (cell t) s.0,
      map (cell t) s.1 ++ flat_map row r.1,
      ap (flat_map row) r.2 ∙ flat_map_append row r.0 (t ∷ r.1)
          ∙ ap (λ c. flat_map row r.0 ++ (c ++ flat_map row r.1)) (ap (map (cell t)) s.2 ∙ map_append (cell t) s.0 (j ∷ s.1))
          ∙ simp append_assoc,
      λ c i. ⊎_elim (λ m. earlier r.0 r.3 c (in_flat_map row r.0 m)) (λ m. same_slot s.0 s.3 c (Memᴰ.of_map (cell t) s.0 m))
          (Memᴰ.append_cases (flat_map row r.0) i),
    )
  where
    cell : ℕ → ℕ → ℕ × ℕ
    cell t j = (t, j)

    row : ℕ → List (ℕ × ℕ)
    row t = map (cell t) (range 0 n)

    Earlier : ℕ × ℕ → Type 0
    Earlier c = (c.0 < slots) × (c.1 < n) × (before t j c.1 c.0 ≡ true)

    earlier : (us : List ℕ) → ((u : ℕ) → Memᴰ u us → u < t) → (c : ℕ × ℕ) → (u : ℕ) × Memᴰ u us × Memᴰ c (row u) → Earlier c
    earlier us h c w =
        let v = Memᴰ.of_map (cell w.0) (range 0 n) w.2 in
        subst Earlier v.2
        (omega (arith, h w.0 w.1), omega (arith, in_range 0 n v.0 v.1), before_slot t j v.0 w.0 (h w.0 w.1))

    same_slot : (js : List ℕ) → ((i : ℕ) → Memᴰ i js → i < j) → (c : ℕ × ℕ) → (i : ℕ) × Memᴰ i js × (cell t i ≡ c) → Earlier c
    same_slot js h c w = subst Earlier w.2 (l, omega (arith, h w.0 w.1), before_ration t j w.0 (h w.0 w.1))
