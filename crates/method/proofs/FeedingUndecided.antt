-- Decided cells as functions: the placings that have the choices of S in the cells D are S there joined with the placings of the other cells
-- that have the volumes and loads of S there; and one cell more. Assumes nothing.
use Rattle.std.specs.Prelude.{◌≡◌, refl, ◌≢◌, Bool, true, false, ◌&&◌, not, cond, ℕ, ◌+◌, ◌-◌, ◌≤◌, ◌<◌, eqb}
use Rattle.std.proofs.Common.{sym, ◌∙◌, ap, subst, ⊎_elim, arith, eq-eqb, ne_eqb}
use Rattle.std.proofs.lemmas.Bool.{false≢true}
use Rattle.std.proofs.Math.Decide.{ℕ_discrete}
use Rattle.common.specs.Tests.{and_true, false_of_not_true}
use Rattle.theory.specs.Sums.{sum_cong}
use Rattle.theory.specs.SumsOver.{one}
use Rattle.theory.specs.Placing.{size, inside, count}
use Rattle.theory.proofs.Row.{size_split, inside_is, outside_is}
use Rattle.theory.specs.Bounds.{Bounded}
use Rattle.theory.specs.Move.{upd}
use Rattle.theory.proofs.Move.{upd_same, upd_true, size_upd, size_upd_other, count_upd, count_upd_other}
use Rattle.method.specs.Feedings.{Cells}
use Rattle.method.specs.FeedingResidual.{undecided, joined}
use Rattle.method.specs.FeedingUndecided.{Same, less}

-- Rows ------------------------------------------------------------------------

pub size_cong : {d : ℕ} {s r : ℕ → Bool} → ((u : ℕ) → u < d → s u ≡ r u) → size d s ≡ size d r
unfolding size
size_cong h = sum_cong (λ u l. ap one (h u l))

pub count_cong : (n : ℕ) (S T : Cells) (t : ℕ) → ((i : ℕ) → i < n → S i t ≡ T i t) → count n S t ≡ count n T t
unfolding count
count_cong n S T t h = sum_cong (λ i l. ap one (h i l))

and_false : (b : Bool) → (b && false) ≡ false
and_false true = refl
and_false false = refl

-- what two rows that are the same in Q have outside of it differs as their sizes do
size_outside : (d : ℕ) (s r Q : ℕ → Bool) → ((u : ℕ) → u < d → Q u ≡ true → s u ≡ r u)
    → size d s + size d (λ u. r u && not (Q u)) ≡ size d r + size d (λ u. s u && not (Q u))
unfolding size
size_outside d s r Q h =
    omega (
      arith,
      size_split d s Q,
      size_split d r Q,
      inside_is d s Q,
      inside_is d r Q,
      outside_is d s Q,
      outside_is d r Q,
      sum_cong {n = d} {f = λ u. one (s u && Q u)} {g = λ u. one (r u && Q u)} (λ u l. ap one (go u l (Q u) refl)),
    )
  where
    go : (u : ℕ) → u < d → (b : Bool) → Q u ≡ b → (s u && b) ≡ (r u && b)
    go u l true e = ap (λ x. x && true) (h u l e)
    go u l false e = and_false (s u) ∙ sym (and_false (r u))

count_outside : (n : ℕ) (S P D : Cells) (t : ℕ) → ((i : ℕ) → i < n → D i t ≡ true → S i t ≡ P i t)
    → count n S t + count n (undecided D P) t ≡ count n P t + count n (undecided D S) t
unfolding count size
count_outside n S P D t h = size_outside n (λ i. S i t) (λ i. P i t) (λ i. D i t) h

-- Decided cells ---------------------------------------------------------------

module _ (n d : ℕ) (free : Cells) (v c : ℕ → ℕ) where
  -- a placing with the loads c
  abbrev pub Exact : Cells → Type 0
  Exact = Bounded n d free v c c

pub exact_cong : {n d : ℕ} {f g : Cells} {v w c e : ℕ → ℕ} {S : Cells} → ((i u : ℕ) → i < n → u < d → f i u ≡ g i u)
    → ((i : ℕ) → i < n → v i ≡ w i) → ((u : ℕ) → u < d → c u ≡ e u) → Exact n d f v c S → Exact n d g w e S
exact_cong same_free same_volumes same_loads s = (
  record {
    within = λ i l u k e. sym (same_free i u l k) ∙ s.0.within i l u k e;
    volume = λ i l. s.0.volume i l ∙ same_volumes i l;
  },
  λ u k. omega (arith, s.1 u k, same_loads u k),
)

module _ {n d : ℕ} {free : Cells} {v c : ℕ → ℕ} (D : Cells) {S : Cells} (s : Exact n d free v c S) where
  -- a placing with the choices of S in D leaves a placing of the other cells
  pub exact_undecided : {P : Cells} → Exact n d free v c P → Same n d D P S
      → Exact n d (undecided D free) (λ i. size d (undecided D S i)) (count n (undecided D S)) (undecided D P)
  exact_undecided {P} p h = (
    record {
      within = λ i l u k e. let r = and_true (P i u) (not (D i u)) e in rw (p.0.within i l u k r.0, r.1);
      volume = λ i l. omega (arith, size_outside d (P i) (S i) (D i) (λ u k. h i u l k), p.0.volume i l, s.0.volume i l);
    },
    λ u k. omega (arith, count_outside n P S D u (λ i l. h i u l k), p.1 u k, s.1 u k),
  )

  -- and a placing of the other cells makes one with the choices of S in D
  pub exact_joined : {T : Cells} → Exact n d (undecided D free) (λ i. size d (undecided D S i)) (count n (undecided D S)) T → Exact n d free v c (joined D S T)
  exact_joined {T} t = (
    record {
      within = λ i l u k e. inside i u l k (D i u) refl e;
      volume = λ i l.
          omega (arith, size_outside d (joined D S T i) (S i) (D i) (λ u k e. rw e), s.0.volume i l, t.0.volume i l, size_cong {d = d} (rest i l));
    },
    λ u k. omega (arith, count_outside n (joined D S T) S D u (λ i l e. rw e), s.1 u k, t.1 u k, count_cong n (undecided D (joined D S T)) T u (λ i l. rest i l u k)),
  )
    where
      inside : (i u : ℕ) → i < n → u < d → (b : Bool) → D i u ≡ b → cond b (S i u) (T i u) ≡ true → free i u ≡ true
      inside i u l k true q e = s.0.within i l u k e
      inside i u l k false q e = (and_true (free i u) (not (D i u)) (t.0.within i l u k e)).0

      rest : (i : ℕ) → i < n → (u : ℕ) → u < d → (cond (D i u) (S i u) (T i u) && not (D i u)) ≡ T i u
      rest i l u k = go (D i u) (T i u) (λ e. (and_true (free i u) (not (D i u)) (t.0.within i l u k e)).1)
        where
          go : (b x : Bool) → (x ≡ true → not b ≡ true) → (cond b (S i u) x && not b) ≡ x
          go true true h = absurd (false≢true (h refl))
          go true false h = and_false (S i u)
          go false true h = refl
          go false false h = refl

-- One cell more ---------------------------------------------------------------

pub less_same : (x : ℕ → ℕ) (j : ℕ) (b : Bool) → less x j b j ≡ x j - one b
less_same x j b = rw (eq-eqb j j refl)

pub less_other : (x : ℕ → ℕ) (j : ℕ) (b : Bool) (i : ℕ) → i ≢ j → less x j b i ≡ x i
less_other x j b i h = rw (ne_eqb i j h)

-- what is true of j and of every other number
pub by_cases : (P : ℕ → Type 0) (j : ℕ) → P j → ((i : ℕ) → i ≢ j → P i) → (i : ℕ) → P i
by_cases P j a b i = go (ℕ_discrete i j)
  where
    go : Dec (i ≡ j) → P i
    go (yes e) = subst P (sym e) a
    go (no h) = b i h

pub undecided_out : (D S : Cells) (i u : ℕ) → D i u ≡ false → undecided D S i u ≡ S i u
undecided_out D S i u e = rw e (go (S i u))
  where
    go : (b : Bool) → (b && true) ≡ b
    go true = refl
    go false = refl

pub undecided_upd : (D S : Cells) (j t i u : ℕ) → undecided (upd D j t true) S i u ≡ upd (undecided D S) j t false i u
undecided_upd D S j t i u = go (eqb i j && eqb u t)
  where
    go : (b : Bool) → (S i u && not (cond b true (D i u))) ≡ cond b false (S i u && not (D i u))
    go true = and_false (S i u)
    go false = refl

module _ (n d : ℕ) (D S : Cells) (j t : ℕ) (l : j < n) (k : t < d) (e : D j t ≡ false) where
  -- the volumes and the loads outside of D and the cell (t, j)
  pub size_undecided : (i : ℕ) → size d (undecided (upd D j t true) S i) ≡ less (λ i. size d (undecided D S i)) j (S j t) i
  size_undecided i =
      size_cong (λ u m. undecided_upd D S j t i u)
      ∙ by_cases (λ i. size d (upd (undecided D S) j t false i) ≡ less (λ i. size d (undecided D S i)) j (S j t) i) j
      (rw (less_same (λ i. size d (undecided D S i)) j (S j t)) (omega (arith, size_upd (undecided D S) j t false d k, ap one (undecided_out D S j t e))))
      (λ i h. rw (less_other (λ i. size d (undecided D S i)) j (S j t) i h) (size_upd_other (undecided D S) j t false d i h))
      i

  pub count_undecided : (u : ℕ) → count n (undecided (upd D j t true) S) u ≡ less (count n (undecided D S)) t (S j t) u
  count_undecided u =
      count_cong n (undecided (upd D j t true) S) (upd (undecided D S) j t false) u (λ i m. undecided_upd D S j t i u)
      ∙ by_cases (λ u. count n (upd (undecided D S) j t false) u ≡ less (count n (undecided D S)) t (S j t) u) t
      (rw (less_same (count n (undecided D S)) t (S j t)) (omega (arith, count_upd (undecided D S) j t false n l, ap one (undecided_out D S j t e))))
      (λ u h. rw (less_other (count n (undecided D S)) t (S j t) u h) (count_upd_other (undecided D S) j t false n u h))
      u

module _ {n d : ℕ} {free : Cells} {v c : ℕ → ℕ} {j t : ℕ} (l : j < n) (k : t < d) {T : Cells} where
  -- a placing of what is left when the cell is fed, with the cell: a placing of what was left before
  pub exact_fed : free j t ≡ true → 0 < v j → 0 < c t → Exact n d (upd free j t false) (less v j true) (less c t true) T → Exact n d free v c (upd T j t true)
  exact_fed f a b s = (
    record {
      within = λ i m u q e. ⊎_elim (λ r. rw (r.0, r.1) f) (λ h. freed i u (s.0.within i m u q h)) (upd_true T j t true i u e);
      volume = by_cases (λ i. i < n → size d (upd T j t true i) ≡ v i) j
          (λ m. omega (arith, size_upd T j t true d k, ap one not_here, s.0.volume j l, less_same v j true))
          (λ i h m. size_upd_other T j t true d i h ∙ s.0.volume i m ∙ less_other v j true i h);
    },
    by_cases (λ u. u < d → (c u ≤ count n (upd T j t true) u) × (count n (upd T j t true) u ≤ c u)) t
        (λ m. omega (arith, count_upd T j t true n l, ap one not_here, s.1 t m, less_same c t true))
        (λ u h m. omega (arith, count_upd_other T j t true n u h, s.1 u m, less_other c t true u h)),
  )
    where
      freed : (i u : ℕ) → upd free j t false i u ≡ true → free i u ≡ true
      freed i u e = ⊎_elim (λ r. absurd (false≢true r.2)) (λ h. h) (upd_true free j t false i u e)

      not_here : T j t ≡ false
      not_here = false_of_not_true (T j t) (λ e. false≢true (sym (upd_same free j t false) ∙ s.0.within j l t k e))

  -- a placing without the cell: a placing of what is left when the cell is decided as in it
  pub exact_fixed : Exact n d free v c T → Exact n d (upd free j t false) (less v j (T j t)) (less c t (T j t)) (upd T j t false)
  exact_fixed s = (
    record {
      within = λ i m u q e. let r = kept i u e in upd_else free i u r.0 ∙ s.0.within i m u q r.1;
      volume = by_cases (λ i. i < n → size d (upd T j t false i) ≡ less v j (T j t) i) j
          (λ m. omega (arith, size_upd T j t false d k, s.0.volume j l, less_same v j (T j t)))
          (λ i h m. size_upd_other T j t false d i h ∙ s.0.volume i m ∙ sym (less_other v j (T j t) i h));
    },
    by_cases (λ u. u < d → (less c t (T j t) u ≤ count n (upd T j t false) u) × (count n (upd T j t false) u ≤ less c t (T j t) u)) t
        (λ m. omega (arith, count_upd T j t false n l, s.1 t m, less_same c t (T j t)))
        (λ u h m. omega (arith, count_upd_other T j t false n u h, s.1 u m, less_other c t (T j t) u h)),
  )
    where
      kept : (i u : ℕ) → upd T j t false i u ≡ true → ((eqb i j && eqb u t) ≡ false) × (T i u ≡ true)
      kept i u = go (eqb i j && eqb u t)
        where
          go : (b : Bool) → cond b false (T i u) ≡ true → (b ≡ false) × (T i u ≡ true)
          go true e = absurd (false≢true e)
          go false e = (refl, e)

      upd_else : (S : Cells) (i u : ℕ) → (eqb i j && eqb u t) ≡ false → upd S j t false i u ≡ S i u
      upd_else S i u e = rw e
