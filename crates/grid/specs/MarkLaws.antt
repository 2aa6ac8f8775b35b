-- Marks of slots: a slot is marked or not, one more mark, how many slots are not marked. Assumes nothing.
use Rattle.std.specs.Prelude.{◌≡◌, refl, ◌≢◌, true, false, List, [], ◌∷◌, ℕ, zero, suc, ◌+◌, ◌≤◌, ◌<◌, length, set, replicate}
use Rattle.std.proofs.Common.{sym, ap, subst, subst₂, ⊎_elim, eq-zero-or-pos, not-suc-le-zero, le_of_suc-le-suc, arith, get_or-set_same, get_or-set_other}
use Rattle.std.proofs.lemmas.Bool.{false≢true}
use Rattle.std.proofs.Math.Decide.{ℕ_discrete}
use Rattle.grid.specs.Grid.{slots, at, Seen}
use Rattle.grid.specs.Search.{Same, unmarked}

pub clash {ℓ} : {A : Type ℓ} → true ≡ false → A
clash e = absurd (false≢true (sym e))

pub clash' {ℓ} : {A : Type ℓ} → false ≡ true → A
clash' e = absurd (false≢true e)

pub at_replicate : (n t : ℕ) → at (replicate n 0) t ≡ 0
at_replicate zero t = refl
at_replicate (suc n) zero = refl
at_replicate (suc n) (suc t) = at_replicate n t

-- a slot is marked, or not
pub seen_or_new : {A : Type 0} (S : List ℕ) (t : ℕ) → (Seen S t → A) → (at S t ≡ 0 → A) → A
seen_or_new S t f g = ⊎_elim g f (eq-zero-or-pos (at S t))

pub seen_apart : (S : List ℕ) {t y : ℕ} → Seen S t → at S y ≡ 0 → t ≢ y
seen_apart S q n i = omega (arith, ap (at S) i)

-- what holds of the one word that is stored, and of every other, holds of all: of two lists with a store at the same slot
pub set_cases :
    (K L : List ℕ) (y v w : ℕ) →
    length K ≡ slots →
    length L ≡ slots →
    y < slots →
    (P : ℕ → ℕ → ℕ → Type 0) →
    P y v w →
    ((t : ℕ) → t ≢ y → P t (at K t) (at L t)) →
    (t : ℕ) →
    P t (at (set K y v) t) (at (set L y w) t)
set_cases K L y v w k l h P p q t = go (ℕ_discrete t y)
  where
    go : Dec (t ≡ y) → P t (at (set K y v) t) (at (set L y w) t)
    go (yes i) =
        subst (λ (t : ℕ). P t (at (set K y v) t) (at (set L y w) t)) (sym i)
        (rw (get_or-set_same K y v 0 (omega arith), get_or-set_same L y w 0 (omega arith)) p)
    go (no n) = rw (get_or-set_other K y t v 0 n, get_or-set_other L y t w 0 n) (q t n)

-- ---- nothing changed: what holds of the one grid holds of the other

pub same_along : {F R F' R' : List ℕ} (P : List ℕ → List ℕ → Type 0) → Same F R F' R' → P F R → P F' R'
same_along P s p = subst₂ P (sym s.fed) (sym s.rest) p

pub same_refl : {F R : List ℕ} → Same F R F R
same_refl = record { fed = refl; rest = refl }

-- ---- how many slots are not marked

pub unmarked_le : (S : List ℕ) → unmarked S ≤ length S
unfolding unmarked
unmarked_le [] = omega arith
unmarked_le (zero ∷ S) = omega (arith, unmarked_le S)
unmarked_le (suc n ∷ S) = omega (arith, unmarked_le S)

pub unmarked_set : (S : List ℕ) (x : ℕ) → x < length S → at S x ≡ 0 → unmarked (set S x 1) + 1 ≡ unmarked S
unfolding unmarked
unmarked_set [] x h e = absurd (not-suc-le-zero h)
unmarked_set (zero ∷ S) zero h e = omega arith
unmarked_set (suc n ∷ S) zero h e = omega arith
unmarked_set (zero ∷ S) (suc x) h e = omega (arith, unmarked_set S x (le_of_suc-le-suc h) e)
unmarked_set (suc n ∷ S) (suc x) h e = unmarked_set S x (le_of_suc-le-suc h) e
