-- Members of the lists that the enumerations make: `flat_map`, `keep`, and the tests `any` and `every`. Assumes nothing.
use Rattle.std.specs.Prelude.{◌≡◌, refl, ◌⊎◌, Bool, true, false, ◌||◌, cond}
use Rattle.std.proofs.Common.{◌∙◌, ap, subst, inl, inr}
use Rattle.std.proofs.lemmas.Bool.{false≢true}
use mathlib.Core.List.Memᴰ
use mathlib.Core.List.{List, [], ◌∷◌, ◌++◌, map, Memᴰ}
use Rattle.common.specs.Lists.{every, any, keep, flat_map}
use Rattle.common.specs.Tests.{and_true, or_right}

module _ {A B : Type 0} where
  pub in_flat_map : (f : A → List B) {b : B} (l : List A) → Memᴰ b (flat_map f l) → (a : A) × Memᴰ a l × Memᴰ b (f a)
  in_flat_map f [] m = absurd (Memᴰ.not-nil m)
  in_flat_map f {b} (x ∷ xs) m = step (in_flat_map f xs) (Memᴰ.append_cases (f x) m)
    where
      step : (Memᴰ b (flat_map f xs) → (a : A) × Memᴰ a xs × Memᴰ b (f a)) → Memᴰ b (f x) ⊎ Memᴰ b (flat_map f xs)
          → (a : A) × Memᴰ a (x ∷ xs) × Memᴰ b (f a)
      step g (inl n) = (x, Memᴰ.head refl, n)
      step g (inr n) = let r = g n in (r.0, Memᴰ.tail r.1, r.2)

  pub to_flat_map : (f : A → List B) {a : A} {b : B} {l : List A} → Memᴰ a l → Memᴰ b (f a) → Memᴰ b (flat_map f l)
  to_flat_map f {b} (Memᴰ.head {xs} e) n = Memᴰ.append_left (flat_map f xs) (subst (λ y. Memᴰ b (f y)) e n)
  to_flat_map f (Memᴰ.tail {x} i) n = Memᴰ.append_right (f x) (to_flat_map f i n)

module _ {A : Type 0} where
  -- a test that some member passes
  pub in_any : (f : A → Bool) (l : List A) → any f l ≡ true → (a : A) × Memᴰ a l × (f a ≡ true)
  in_any f [] e = absurd (false≢true e)
  in_any f (x ∷ xs) e = go (f x) refl e (in_any f xs)
    where
      go : (b : Bool) → f x ≡ b → (b || any f xs) ≡ true → (any f xs ≡ true → (a : A) × Memᴰ a xs × (f a ≡ true))
          → (a : A) × Memᴰ a (x ∷ xs) × (f a ≡ true)
      go true b e ih = (x, Memᴰ.head refl, b)
      go false b e ih = let w = ih e in (w.0, Memᴰ.tail w.1, w.2)

  pub to_any : (f : A → Bool) {a : A} {l : List A} → Memᴰ a l → f a ≡ true → any f l ≡ true
  to_any f (Memᴰ.head e) h = rw (← e, h)
  to_any f (Memᴰ.tail {x} i) h = or_right (f x) (to_any f i h)

  -- a test that every member passes
  pub in_every : (f : A → Bool) {a : A} {l : List A} → every (map f l) ≡ true → Memᴰ a l → f a ≡ true
  in_every f {a} e (Memᴰ.head {x} {xs} q) = ap f q ∙ (and_true (f x) (every (map f xs)) e).0
  in_every f e (Memᴰ.tail {x} {xs} i) = in_every f (and_true (f x) (every (map f xs)) e).1 i

  pub to_every : (f : A → Bool) (l : List A) → ((a : A) → Memᴰ a l → f a ≡ true) → every (map f l) ≡ true
  to_every f [] h = refl
  to_every f (x ∷ xs) h = rw (h x (Memᴰ.head refl), to_every f xs (λ a i. h a (Memᴰ.tail i)))

  -- the members that pass a test
  pub in_keep : (f : A → Bool) {a : A} (l : List A) → Memᴰ a (keep f l) → Memᴰ a l × (f a ≡ true)
  in_keep f [] m = absurd (Memᴰ.not-nil m)
  in_keep f {a} (x ∷ xs) m = go (f x) refl m (in_keep f xs)
    where
      rest : (Memᴰ a (keep f xs) → Memᴰ a xs × (f a ≡ true)) → Memᴰ a (keep f xs) → Memᴰ a (x ∷ xs) × (f a ≡ true)
      rest ih i = let w = ih i in (Memᴰ.tail w.0, w.1)

      go : (b : Bool) → f x ≡ b → Memᴰ a (cond b (x ∷ []) [] ++ keep f xs) → (Memᴰ a (keep f xs) → Memᴰ a xs × (f a ≡ true))
          → Memᴰ a (x ∷ xs) × (f a ≡ true)
      go true e i ih = first (Memᴰ.cases_cons i)
        where
          first : (a ≡ x) ⊎ Memᴰ a (keep f xs) → Memᴰ a (x ∷ xs) × (f a ≡ true)
          first (inl q) = (Memᴰ.head q, ap f q ∙ e)
          first (inr i) = rest ih i
      go false e i ih = rest ih i

  pub to_keep : (f : A → Bool) {a : A} {l : List A} → Memᴰ a l → f a ≡ true → Memᴰ a (keep f l)
  to_keep f {a} (Memᴰ.head {x} {xs} q) h = rw (← q, h) (Memᴰ.head refl)
  to_keep f (Memᴰ.tail {x} {xs} i) h = Memᴰ.append_right (cond (f x) (x ∷ []) []) (to_keep f i h)
