-- Moves of one job as edges between slots: a set that no edge leaves is closed, and what edges reach from some slots is in every closed set
-- around them. This is what a search along edges has to show of the slots that it marked. Assumes nothing.
use Rattle.std.specs.Prelude.{ℕ, ◌<◌, ◌≡◌, refl, Bool, true, false, not, ◌&&◌}
use Rattle.std.proofs.Common.{sym, ◌∙◌}
use Rattle.std.proofs.lemmas.Bool.{false≢true, not-true}
use Rattle.common.specs.Tests.{and_true, some, some_in, in_some}
use Rattle.theory.specs.Placing.{Closed}

-- job j is processed in slot a, and may go to slot u
pub record Edge (n : ℕ) (free S : ℕ → ℕ → Bool) (j a u : ℕ) : Type 0 where
  pub below : j < n
  pub here : S j a ≡ true
  pub may : free j u ≡ true
  pub gap : S j u ≡ false

-- The test for an edge --------------------------------------------------------

-- some job may go from a to u
unfoldable pub edge : ℕ → (free S : ℕ → ℕ → Bool) → ℕ → ℕ → Bool
edge n free S a u = some n (λ j. S j a && (free j u && not (S j u)))

pub in_edge : {n : ℕ} {free S : ℕ → ℕ → Bool} {j a u : ℕ} → Edge n free S j a u → edge n free S a u ≡ true
unfolding edge
in_edge {n} {free} {S} {j} {a} {u} e = in_some n (λ j. S j a && (free j u && not (S j u))) j e.below (rw (e.here, e.may, e.gap))

pub edge_in : (n : ℕ) (free S : ℕ → ℕ → Bool) (a u : ℕ) → edge n free S a u ≡ true → (j : ℕ) × Edge n free S j a u
unfolding edge
edge_in n free S a u e =
    let w = some_in n (λ j. S j a && (free j u && not (S j u))) e in
    let x = and_true (S w.0 a) (free w.0 u && not (S w.0 u)) w.2 in
    let y = and_true (free w.0 u) (not (S w.0 u)) x.1 in
    (w.0, record { below = w.1; here = x.0; may = y.0; gap = not-true (S w.0 u) y.1 })

-- Closed sets -----------------------------------------------------------------

-- no job can go from a slot of R to one outside
abbrev pub NoEdgeLeaves : (n d : ℕ) (free S : ℕ → ℕ → Bool) (R : ℕ → Bool) → Type 0
NoEdgeLeaves n d free S R = (j a u : ℕ) → a < d → u < d → R a ≡ true → Edge n free S j a u → R u ≡ true

module _ {n d : ℕ} {free S : ℕ → ℕ → Bool} where
  pub no_edge_closed : (R : ℕ → Bool) → NoEdgeLeaves n d free S R → Closed n d free S R
  no_edge_closed R h j lj t u lt lu rt st fu ru = go (S j u) refl
    where
      go : (b : Bool) → S j u ≡ b → b ≡ true
      go true e = refl
      go false e = absurd (false≢true (sym ru ∙ h j t u lt lu rt (record { below = lj; here = st; may = fu; gap = e })))

  pub closed_no_edge : (R : ℕ → Bool) → Closed n d free S R → NoEdgeLeaves n d free S R
  closed_no_edge R c j a u la lu ra e = go (R u) refl
    where
      go : (b : Bool) → R u ≡ b → b ≡ true
      go true z = refl
      go false z = absurd (false≢true (sym e.gap ∙ c j e.below a u la lu ra e.here e.may z))

-- What edges reach ------------------------------------------------------------

-- the slots below d that edges lead to from the slots in From
pub data Reach (n d : ℕ) (free S : ℕ → ℕ → Bool) (From : ℕ → Type 0) : ℕ → Type 0 where
  from : {t : ℕ} → From t → Reach n d free S From t
  step : {j a u : ℕ} → Reach n d free S From a → a < d → Edge n free S j a u → Reach n d free S From u

module _ {n d : ℕ} {free S : ℕ → ℕ → Bool} {From : ℕ → Type 0} where
  pub reach_closed : (Q : ℕ → Bool) → Closed n d free S Q → ((t : ℕ) → t < d → From t → Q t ≡ true)
      → {t : ℕ} → Reach n d free S From t → t < d → Q t ≡ true
  reach_closed Q c o (from {t} f) l = o t l f
  reach_closed Q c o (step {j} {a} {u} r la e) l = closed_no_edge Q c j a u la l (reach_closed Q c o r la) e

-- Grids that agree on every job and slot --------------------------------------

abbrev pub Agree : (n d : ℕ) (S T : ℕ → ℕ → Bool) → Type 0
Agree n d S T = (j : ℕ) → j < n → (t : ℕ) → t < d → S j t ≡ T j t

pub closed_agree : {n d : ℕ} {free S T : ℕ → ℕ → Bool} {R : ℕ → Bool} → Agree n d S T → Closed n d free S R → Closed n d free T R
closed_agree e c j l t u lt lu rt tt fu ru = sym (e j l u lu) ∙ c j l t u lt lu rt (e j l t lt ∙ tt) fu ru
