-- Laws of the shared lists that the lines of a listing are made with: `range`, `keep`, `flat_map`, `zip_with`. Assumes nothing.
use Rattle.std.specs.Prelude.{◌≡◌, refl, ◌⊎◌, Bool, true, false, cond, ℕ, zero, suc, ◌+◌, ◌≤◌, ◌<◌, eqb, length, get_or}
use Rattle.std.proofs.Common.{sym, ap, ap₂, ◌∙◌, inl, inr, arith, eqb-true}
use mathlib.Core.List.Memᴰ
use mathlib.Core.List.{List, [], ◌∷◌, ◌++◌, map, append_assoc, append-nil, Memᴰ}
use Rattle.std.proofs.lemmas.Bool.{eqb-false}
use Rattle.common.specs.Lists.{range, keep, flat_map, zip_with}

-- Ranges --------------------------------------------------------------------------

pub in_range : (a n : ℕ) {k : ℕ} → Memᴰ k (range a n) → (a ≤ k) × (k < a + n)
in_range a zero m = absurd (Memᴰ.not-nil m)
in_range a (suc n) {k} m = go (Memᴰ.cases_cons m) (in_range (suc a) n)
  where
    go : (k ≡ a) ⊎ Memᴰ k (range (suc a) n) → (Memᴰ k (range (suc a) n) → (suc a ≤ k) × (k < suc a + n)) → (a ≤ k) × (k < a + suc n)
    go (inl e) ih = (omega arith, omega arith)
    go (inr i) ih = let r = ih i in (omega arith, omega arith)

module _ {A : Type 0} where
  pub map_range_cong : {f g : ℕ → A} (a n : ℕ) → ((k : ℕ) → a ≤ k → k < a + n → f k ≡ g k) → map f (range a n) ≡ map g (range a n)
  map_range_cong a zero h = refl
  map_range_cong {f} {g} a (suc n) h =
      ap₂ (λ (x : A) (xs : List A). x ∷ xs) (h a (omega arith) (omega arith)) (map_range_cong (suc a) n (λ k p q. h k (omega arith) (omega arith)))

  pub flat_map_range_cong : {f g : ℕ → List A} (a n : ℕ) → ((k : ℕ) → a ≤ k → k < a + n → f k ≡ g k) → flat_map f (range a n) ≡ flat_map g (range a n)
  flat_map_range_cong a zero h = refl
  flat_map_range_cong {f} {g} a (suc n) h =
      ap₂ (λ (x y : List A). x ++ y) (h a (omega arith) (omega arith)) (flat_map_range_cong (suc a) n (λ k p q. h k (omega arith) (omega arith)))

  pub flat_map_range_suc : (f : ℕ → List A) (a n : ℕ) → flat_map f (range (suc a) n) ≡ flat_map (λ k. f (suc k)) (range a n)
  flat_map_range_suc f a zero = refl
  flat_map_range_suc f a (suc n) = ap (λ l. f (suc a) ++ l) (flat_map_range_suc f (suc a) n)

  -- nothing from any number, and something from one number alone
  pub flat_map_range_none : (f : ℕ → List A) (a n : ℕ) → ((k : ℕ) → a ≤ k → k < a + n → f k ≡ []) → flat_map f (range a n) ≡ []
  flat_map_range_none f a zero h = refl
  flat_map_range_none f a (suc n) h =
      ap₂ (λ (x y : List A). x ++ y) (h a (omega arith) (omega arith)) (flat_map_range_none f (suc a) n (λ k p q. h k (omega arith) (omega arith)))

  pub flat_map_range_one : (f : ℕ → List A) (k : ℕ) → ((j : ℕ) → (j ≡ k → ⊥) → f j ≡ []) → (a n : ℕ) → a ≤ k → k < a + n → flat_map f (range a n) ≡ f k
  flat_map_range_one f k h a zero p q = absurd (omega arith)
  flat_map_range_one f k h a (suc n) p q = go (eqb a k) refl (flat_map_range_one f k h (suc a) n)
    where
      go : (b : Bool) → eqb a k ≡ b → (suc a ≤ k → k < suc a + n → flat_map f (range (suc a) n) ≡ f k) → f a ++ flat_map f (range (suc a) n) ≡ f k
      go true e ih =
          let s : a ≡ k = eqb-true a k e in
          ap₂ (λ (x y : List A). x ++ y) (ap f s) (flat_map_range_none f (suc a) n (λ j l r. h j (λ i. omega arith))) ∙ append-nil (f k)
      go false e ih = let s : a ≡ k → ⊥ = eqb-false a k e in ap₂ (λ (x y : List A). x ++ y) (h a s) (ih (omega arith) (omega arith))

-- Kept elements -----------------------------------------------------------------

module _ {A : Type 0} (f : A → Bool) where
  pub keep_append : (xs ys : List A) → keep f (xs ++ ys) ≡ keep f xs ++ keep f ys
  keep_append [] ys = refl
  keep_append (x ∷ xs) ys = ap (λ l. kept ++ l) (keep_append xs ys) ∙ sym (append_assoc kept (keep f xs) (keep f ys))
    where
      kept : List A
      kept = cond (f x) (x ∷ []) []

  pub keep_all : (xs : List A) → ((x : A) → Memᴰ x xs → f x ≡ true) → keep f xs ≡ xs
  keep_all [] h = refl
  keep_all (x ∷ xs) h = rw (h x (Memᴰ.head refl)) (ap (λ l. x ∷ l) (keep_all xs (λ y m. h y (Memᴰ.tail m))))

  pub keep_none : (xs : List A) → ((x : A) → Memᴰ x xs → f x ≡ false) → keep f xs ≡ []
  keep_none [] h = refl
  keep_none (x ∷ xs) h = rw (h x (Memᴰ.head refl)) (keep_none xs (λ y m. h y (Memᴰ.tail m)))

-- Of lists made along a list ----------------------------------------------------

module _ {A B : Type 0} (f : A → List B) where
  pub keep_flat_map : (test : B → Bool) (xs : List A) → keep test (flat_map f xs) ≡ flat_map (λ x. keep test (f x)) xs
  keep_flat_map test [] = refl
  keep_flat_map test (x ∷ xs) = keep_append test (f x) (flat_map f xs) ∙ ap (λ l. keep test (f x) ++ l) (keep_flat_map test xs)

map_append : {B C : Type 0} (g : B → C) (xs ys : List B) → map g (xs ++ ys) ≡ map g xs ++ map g ys
map_append g [] ys = refl
map_append g (x ∷ xs) ys = ap (λ l. g x ∷ l) (map_append g xs ys)

module _ {A B C : Type 0} (f : A → List B) (g : B → C) where
  pub map_flat_map : (xs : List A) → map g (flat_map f xs) ≡ flat_map (λ x. map g (f x)) xs
  map_flat_map [] = refl
  map_flat_map (x ∷ xs) = map_append g (f x) (flat_map f xs) ∙ ap (λ l. map g (f x) ++ l) (map_flat_map xs)

-- Pairs of elements ---------------------------------------------------------------

module _ {A B C : Type 0} (f : A → B → C) where
  pub in_zip_with : {c : C} (xs : List A) (ys : List B) → Memᴰ c (zip_with f xs ys)
      → (a : A) × (b : B) × Memᴰ a xs × Memᴰ b ys × (c ≡ f a b)
  in_zip_with [] ys m = absurd (Memᴰ.not-nil m)
  in_zip_with (x ∷ xs) [] m = absurd (Memᴰ.not-nil m)
  in_zip_with {c} (x ∷ xs) (y ∷ ys) m = go (Memᴰ.cases_cons m) (in_zip_with xs ys)
    where
      go : (c ≡ f x y) ⊎ Memᴰ c (zip_with f xs ys)
          → (Memᴰ c (zip_with f xs ys) → (a : A) × (b : B) × Memᴰ a xs × Memᴰ b ys × (c ≡ f a b))
          → (a : A) × (b : B) × Memᴰ a (x ∷ xs) × Memᴰ b (y ∷ ys) × (c ≡ f a b)
      go (inl e) ih = (x, y, Memᴰ.head refl, Memᴰ.head refl, e)
      go (inr i) ih = let r = ih i in (r.0, r.1, Memᴰ.tail r.2, Memᴰ.tail r.3, r.4)

  -- the same by place
  pub at_zip_with : {c : C} (a : A) (b : B) (xs : List A) (ys : List B) → Memᴰ c (zip_with f xs ys)
      → (i : ℕ) × (i < length xs) × (i < length ys) × (c ≡ f (get_or xs i a) (get_or ys i b))
  at_zip_with a b [] ys m = absurd (Memᴰ.not-nil m)
  at_zip_with a b (x ∷ xs) [] m = absurd (Memᴰ.not-nil m)
  at_zip_with {c} a b (x ∷ xs) (y ∷ ys) m = go (Memᴰ.cases_cons m) (at_zip_with a b xs ys)
    where
      go : (c ≡ f x y) ⊎ Memᴰ c (zip_with f xs ys)
          → (Memᴰ c (zip_with f xs ys) → (i : ℕ) × (i < length xs) × (i < length ys) × (c ≡ f (get_or xs i a) (get_or ys i b)))
          → (i : ℕ) × (i < length (x ∷ xs)) × (i < length (y ∷ ys)) × (c ≡ f (get_or (x ∷ xs) i a) (get_or (y ∷ ys) i b))
      go (inl e) ih = (zero, omega arith, omega arith, e)
      go (inr i) ih = let r = ih i in (suc r.0, omega (arith, r.1), omega (arith, r.2), r.3)
