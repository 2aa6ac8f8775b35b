-- Lists as functions of their places, and back: lengths, elements, and sums by place. Assumes nothing.
use Rattle.std.specs.Prelude.{◌≡◌, refl, Bool, true, false, List, [], ◌∷◌, map, ℕ, zero, suc, ◌≤◌, ◌<◌, leb, length, get_or}
use Rattle.std.proofs.Common.{sym, ◌∙◌, ap, arith, ext_get_or, leb-true, le-leb}
use Rattle.std.proofs.lemmas.Bool.{false≢true}
use Rattle.std.proofs.Math.Nat.{suc_inj}
use Rattle.common.specs.Lists as L
use Rattle.common.specs.Lists.{count, every, zip_with}
use Rattle.common.specs.Tests.{and_true}
use Rattle.theory.specs.Sums.{sum, sum_head, sum_cong}
use Rattle.theory.specs.SumsOver.{one}
use Rattle.theory.specs.Placing.{size}
use Rattle.schedules.specs.Slots.{Slots, has}
use Rattle.schedules.specs.Schedules.{at_most}

-- A function below d as a list ------------------------------------------------

module _ {A : Type 0} where
  abbrev pub tab : ℕ → (ℕ → A) → List A
  tab zero g = []
  tab (suc d) g = g zero ∷ tab d (λ t. g (suc t))

  pub length_tab : (d : ℕ) (g : ℕ → A) → length (tab d g) ≡ d
  length_tab zero g = refl
  length_tab (suc d) g = ap suc (length_tab d (λ t. g (suc t)))

  pub get_d_tab : (d : ℕ) (g : ℕ → A) (z : A) (t : ℕ) → t < d → get_or (tab d g) t z ≡ g t
  get_d_tab zero g z t l = absurd (omega arith)
  get_d_tab (suc d) g z zero l = refl
  get_d_tab (suc d) g z (suc t) l = get_d_tab d (λ t. g (suc t)) z t (omega arith)

  -- a list whose elements are those of a function
  pub tab_unique : (z : A) (xs : List A) (d : ℕ) (g : ℕ → A) → length xs ≡ d → ((t : ℕ) → t < d → get_or xs t z ≡ g t) → xs ≡ tab d g
  tab_unique z xs d g e h =
      ext_get_or z xs (tab d g) (e ∙ sym (length_tab d g)) (λ t l. h t (rw e at l) ∙ sym (get_d_tab d g z t (rw e at l)))

module _ {A B : Type 0} where
  pub get_d_map_below : (f : A → B) (l : List A) (j : ℕ) (z : B) (a : A) → j < length l → get_or (map f l) j z ≡ f (get_or l j a)
  get_d_map_below f [] j z a k = absurd (omega arith)
  get_d_map_below f (x ∷ l) zero z a k = refl
  get_d_map_below f (x ∷ l) (suc j) z a k = get_d_map_below f l j z a (omega arith)

module _ {A B C : Type 0} (f : A → B → C) where
  pub length_zip_with : (xs : List A) (ys : List B) {d : ℕ} → length xs ≡ d → length ys ≡ d → length (zip_with f xs ys) ≡ d
  length_zip_with [] ys p q = p
  length_zip_with (x ∷ xs) [] p q = q
  length_zip_with (x ∷ xs) (y ∷ ys) {d = zero} p q = absurd (omega arith)
  length_zip_with (x ∷ xs) (y ∷ ys) {d = suc d} p q = ap suc (length_zip_with xs ys (suc_inj p) (suc_inj q))

  pub get_d_zip_with : (xs : List A) (ys : List B) (a : A) (b : B) (c : C) (t : ℕ) → t < length xs → t < length ys
      → get_or (zip_with f xs ys) t c ≡ f (get_or xs t a) (get_or ys t b)
  get_d_zip_with [] ys a b c t p q = absurd (omega arith)
  get_d_zip_with (x ∷ xs) [] a b c t p q = absurd (omega arith)
  get_d_zip_with (x ∷ xs) (y ∷ ys) a b c zero p q = refl
  get_d_zip_with (x ∷ xs) (y ∷ ys) a b c (suc t) p q = get_d_zip_with xs ys a b c t (omega arith) (omega arith)

-- Sums and counts by place ----------------------------------------------------

pub sum_get_d : (xs : List ℕ) → L.sum xs ≡ sum (length xs) (λ t. get_or xs t 0)
unfolding sum
sum_get_d [] = refl
sum_get_d (x ∷ xs) = omega (arith, sum_get_d xs, sum_head (length xs) (λ t. get_or (x ∷ xs) t 0))

pub sum_map : {A : Type 0} (f : A → ℕ) (a : A) (xs : List A) → L.sum (map f xs) ≡ sum (length xs) (λ j. f (get_or xs j a))
unfolding sum
sum_map f a [] = refl
sum_map f a (x ∷ xs) = omega (arith, sum_map f a xs, sum_head (length xs) (λ j. f (get_or (x ∷ xs) j a)))

pub count_size : (c : Slots) → count c ≡ size (length c) (has c)
unfolding size sum
count_size [] = refl
count_size (true ∷ c) = omega (arith, count_size c, sum_head (length c) (λ t. one (has (true ∷ c) t)))
count_size (false ∷ c) = omega (arith, count_size c, sum_head (length c) (λ t. one (has (false ∷ c) t)))

pub count_tab : (d : ℕ) (s : ℕ → Bool) → count (tab d s) ≡ size d s
unfolding size
count_tab d s =
    count_size (tab d s) ∙ ap (λ k. size k (has (tab d s))) (length_tab d s) ∙ sum_cong (λ t l. ap one (get_d_tab d s false t l))

-- a slot that is in a set is one of the day
pub has_below : (c : Slots) (t : ℕ) → has c t ≡ true → t < length c
has_below [] t e = absurd (false≢true e)
has_below (b ∷ c) zero e = omega arith
has_below (b ∷ c) (suc t) e = omega (arith, has_below c t e)

-- Order by place --------------------------------------------------------------

pub at_most_at : (xs ys : List ℕ) {d : ℕ} → length xs ≡ d → length ys ≡ d → at_most xs ys ≡ true → (t : ℕ) → t < d → get_or xs t 0 ≤ get_or ys t 0
unfolding at_most
at_most_at [] ys p q e t l = omega arith
at_most_at (x ∷ xs) [] p q e t l = absurd (omega arith)
at_most_at (x ∷ xs) (y ∷ ys) p q e zero l = leb-true x y (and_true (leb x y) (every (zip_with leb xs ys)) e).0
at_most_at (x ∷ xs) (y ∷ ys) {d = zero} p q e (suc t) l = absurd (omega arith)
at_most_at (x ∷ xs) (y ∷ ys) {d = suc d} p q e (suc t) l =
    at_most_at xs ys (suc_inj p) (suc_inj q) (and_true (leb x y) (every (zip_with leb xs ys)) e).1 t (omega arith)

pub at_at_most : (xs ys : List ℕ) {d : ℕ} → length xs ≡ d → length ys ≡ d → ((t : ℕ) → t < d → get_or xs t 0 ≤ get_or ys t 0) → at_most xs ys ≡ true
unfolding at_most
at_at_most [] ys p q h = refl
at_at_most (x ∷ xs) [] p q h = refl
at_at_most (x ∷ xs) (y ∷ ys) {d = zero} p q h = absurd (omega arith)
at_at_most (x ∷ xs) (y ∷ ys) {d = suc d} p q h =
    rw (le-leb x y (h zero (omega arith)), at_at_most xs ys (suc_inj p) (suc_inj q) (λ t l. h (suc t) (omega arith)))
