-- The volumes and loads that a placing has outside of decided cells, as cells are decided; and totals: a placing within counts that add up to
-- the volumes has exactly these counts. Assumes nothing.
use Rattle.std.specs.Prelude.{◌≡◌, true, false, ◌&&◌, not, cond, ℕ, ◌+◌, ◌-◌, ◌≤◌, ◌<◌, eqb}
use Rattle.std.proofs.Common.{sym, ◌∙◌, ap₂, arith}
use Rattle.std.proofs.Math.Path.{ap}
use Rattle.theory.specs.Sums.{sum, sum_cong, sum_swap, sum_change, sum_term, sum_tight}
use Rattle.theory.specs.SumsOver.{one}
use Rattle.theory.specs.Placing.{size, count, Placing}
use Rattle.theory.specs.Move.{upd}
use Rattle.method.specs.Feedings.{Cells}
use Rattle.method.specs.FeedingResidual.{undecided, Amounts}
use Rattle.method.specs.FeedingUndecided.{less}
use Rattle.method.proofs.FeedingUndecided.{Exact, less_same, less_other, size_cong, count_cong, size_undecided, count_undecided, undecided_out}

-- Volumes and loads outside of decided cells -----------------------------------

module _ {n d : ℕ} {S : Cells} {v c : ℕ → ℕ} where
  pub amounts_none : {free D : Cells} → Exact n d free v c S → ((i u : ℕ) → D i u ≡ false) → Amounts n d D S v c
  amounts_none {D} s h = record {
    volumes = λ i l. sym (size_cong (λ u k. undecided_out D S i u (h i u)) ∙ s.0.volume i l);
    loads = λ u k. omega (arith, s.1 u k, count_cong n (undecided D S) S u (λ i l. undecided_out D S i u (h i u)));
  }

  pub amounts_cong : {D E : Cells} → ((i u : ℕ) → i < n → u < d → D i u ≡ E i u) → Amounts n d D S v c → Amounts n d E S v c
  amounts_cong {D} {E} h a = record {
    volumes = λ i l. a.volumes i l ∙ size_cong (λ u k. ap (λ b. S i u && not b) (h i u l k));
    loads = λ u k. a.loads u k ∙ count_cong n (undecided D S) (undecided E S) u (λ i l. ap (λ b. S i u && not b) (h i u l k));
  }

  -- one cell more
  pub amounts_fix : {D : Cells} → Amounts n d D S v c → (t j : ℕ) → t < d → j < n → D j t ≡ false
      → Amounts n d (upd D j t true) S (less v j (S j t)) (less c t (S j t))
  amounts_fix {D} a t j k l e = record {
    volumes = λ i m.
        ap₂ (λ x y. cond (eqb i j) (x - one (S j t)) y) (a.volumes j l) (a.volumes i m) ∙ sym (size_undecided n d D S j t l k e i);
    loads = λ u m.
        ap₂ (λ x y. cond (eqb u t) (x - one (S j t)) y) (a.loads t k) (a.loads u m) ∙ sym (count_undecided n d D S j t l k e u);
  }

  -- a cell outside of D that S feeds has some of them
  pub amounts_fed : {D : Cells} → Amounts n d D S v c → (t j : ℕ) → t < d → j < n → D j t ≡ false → S j t ≡ true → (0 < v j) × (0 < c t)
  unfolding size count
  amounts_fed {D} a t j k l e f =
      let h : one (undecided D S j t) ≡ 1 = ap one (undecided_out D S j t e ∙ f) in (
        omega (arith, a.volumes j l, sum_term d (λ u. one (undecided D S j u)) t k),
        omega (arith, a.loads t k, sum_term n (λ i. one (undecided D S i t)) j l),
      )

-- Totals ----------------------------------------------------------------------

-- what all rations are fed is what all slots hold
pub sum_loads : (n d : ℕ) (S : Cells) → sum d (count n S) ≡ sum n (λ i. size d (S i))
unfolding count size
sum_loads n d S = sym (sum_swap n d (λ i u. one (S i u)))

pub sum_less : (n : ℕ) (x : ℕ → ℕ) (j : ℕ) → j < n → 0 < x j → sum n (less x j true) + 1 ≡ sum n x
sum_less n x j l p = omega (arith, sum_change n (less x j true) x j l (λ i m h. less_other x j true i h), less_same x j true)

-- a placing within highs that add up to the volumes holds exactly as much in each slot
pub within_exact : {n d : ℕ} {free : Cells} {v c : ℕ → ℕ} {S : Cells} → Placing n d free v S → ((u : ℕ) → u < d → count n S u ≤ c u)
    → sum n v ≡ sum d c → Exact n d free v c S
within_exact {n} {d} {v} {c} {S} s h e = (
  s,
  λ u k. omega (
    arith,
    sum_tight d (count n S) c h (omega (arith, sum_loads n d S, sum_cong {n = n} {f = λ i. size d (S i)} {g = v} s.volume)) u k,
  ),
)
