-- The slots that the overfull ones reach by moves of one job, in layers: some layer does not grow, and it is the least closed set around the
-- overfull slots. Assumes nothing.
use Prim.Native.Nat.{ℕ, zero, suc, ◌+◌, ◌≤◌, ◌<◌}
use Rattle.std.specs.Prelude.{◌≡◌, ◌⊎◌, Bool, ◌&&◌, ◌||◌, ltb}
use Rattle.std.proofs.Math.Path.{refl}
use Rattle.std.proofs.Math.Logic.{inl, inr}
use Rattle.std.proofs.Math.Bool.{true, false, not}
use Rattle.std.proofs.Common.{eq-or-lt_of_le}
use native.Mathlib.Omega.{arith}
use borrow.Author.Tests.{ltb-true, not-true}
use Rattle.common.specs.Tests.{true_or_false, and_true, or_true, or_left, or_right, some, some_in, in_some, none_in}
use Rattle.theory.specs.Sums.{sum_lt}
use Rattle.theory.specs.SumsOver.{one, one_le}
use Rattle.theory.specs.Placing.{size, count, Closed}
use Rattle.theory.proofs.Row.{size_le}
use Rattle.theory.proofs.Edges.{Edge, edge, in_edge, edge_in, no_edge_closed, closed_no_edge}

module _ (n d : ℕ) (free : ℕ → ℕ → Bool) (high : ℕ → ℕ) where
  -- the slots that the overfull ones reach in at most k moves
  unfoldable pub layer : (ℕ → ℕ → Bool) → ℕ → ℕ → Bool
  layer S zero u = ltb (high u) (count n S u)
  layer S (suc k) u = layer S k u || some d (λ a. layer S k a && edge n free S a u)

-- Layers ----------------------------------------------------------------------

module _ (n d : ℕ) (free : ℕ → ℕ → Bool) (high : ℕ → ℕ) (S : ℕ → ℕ → Bool) where
  abbrev reached : ℕ → ℕ → Bool
  reached = layer n d free high S

  pub in_layer : (k : ℕ) {j a u : ℕ} → a < d → reached k a ≡ true → Edge n free S j a u → reached (suc k) u ≡ true
  unfolding layer
  in_layer k {a} {u} l h e = or_right (reached k u) (in_some d (λ a. reached k a && edge n free S a u) a l (rw (h, in_edge e)))

  -- u is one move away from a slot of layer k
  abbrev pub Step : ℕ → ℕ → Type 0
  Step k u = (a : ℕ) × (j : ℕ) × (a < d) × (reached k a ≡ true) × Edge n free S j a u

  pub layer_in : (k u : ℕ) → reached (suc k) u ≡ true → (reached k u ≡ true) ⊎ Step k u
  unfolding layer
  layer_in k u e = go (or_true (reached k u) (some d (λ a. reached k a && edge n free S a u)) e)
    where
      go : (reached k u ≡ true) ⊎ (some d (λ a. reached k a && edge n free S a u) ≡ true) → (reached k u ≡ true) ⊎ Step k u
      go (inl h) = inl h
      go (inr h) =
          let w = some_in d (λ a. reached k a && edge n free S a u) h in
          let x = and_true (reached k w.0) (edge n free S w.0 u) w.2 in
          let y = edge_in n free S w.0 u x.1 in inr (w.0, y.0, w.1, x.0, y.1)

  pub layer_more : (k u : ℕ) → reached k u ≡ true → reached (suc k) u ≡ true
  unfolding layer
  layer_more k u e = or_left (some d (λ a. reached k a && edge n free S a u)) e

  pub layer_mono : (i k u : ℕ) → i ≤ k → reached i u ≡ true → reached k u ≡ true
  layer_mono i zero u l e = let q : i ≡ zero = omega arith in rw q at e
  layer_mono i (suc k) u l e = go (eq-or-lt_of_le l) (λ m. layer_mono i k u m e)
    where
      go : (i ≡ suc k) ⊎ (i < suc k) → (i ≤ k → reached k u ≡ true) → reached (suc k) u ≡ true
      go (inl q) ih = rw q at e
      go (inr q) ih = layer_more k u (ih (omega arith))

  -- a slot of a layer is in every closed set around the overfull slots
  pub layer_least : (Q : ℕ → Bool) → Closed n d free S Q → ((t : ℕ) → t < d → high t < count n S t → Q t ≡ true)
      → (k t : ℕ) → t < d → reached k t ≡ true → Q t ≡ true
  unfolding layer
  layer_least Q c o zero t l e = o t l (ltb-true (high t) (count n S t) e)
  layer_least Q c o (suc k) t l e = go (layer_in k t e) (λ u. layer_least Q c o k u)
    where
      go : (reached k t ≡ true) ⊎ Step k t → ((u : ℕ) → u < d → reached k u ≡ true → Q u ≡ true) → Q t ≡ true
      go (inl h) ih = ih t l h
      go (inr (a, j, b, h, x)) ih = closed_no_edge Q c j a t b l (ih a b h) x

  -- A layer that does not grow ------------------------------------------------

  abbrev pub Stable : ℕ → Type 0
  Stable k = (u : ℕ) → u < d → reached (suc k) u ≡ true → reached k u ≡ true

  pub stable_closed : (k : ℕ) → Stable k → Closed n d free S (reached k)
  stable_closed k h = no_edge_closed (reached k) (λ j a u la lu ra e. h u lu (in_layer k la ra e))

  -- each layer that grows has one slot more, and there are d slots
  stable_from : (fuel k : ℕ) → d < size d (reached k) + fuel → (k : ℕ) × Stable k
  unfolding size
  stable_from zero k h = absurd (omega (arith, size_le d (reached k)))
  stable_from (suc fuel) k h = go (true_or_false (some d (λ u. reached (suc k) u && not (reached k u)))) (stable_from fuel (suc k))
    where
      go : (some d (λ u. reached (suc k) u && not (reached k u)) ≡ true) ⊎ (some d (λ u. reached (suc k) u && not (reached k u)) ≡ false)
          → (d < size d (reached (suc k)) + fuel → (k : ℕ) × Stable k) → (k : ℕ) × Stable k
      go (inl e) ih =
          let w = some_in d (λ u. reached (suc k) u && not (reached k u)) e in
          let x = and_true (reached (suc k) w.0) (not (reached k w.0)) w.2 in
          ih (omega (
            arith,
            sum_lt d (λ u. one (reached k u)) (λ u. one (reached (suc k) u)) (λ u l. one_le (layer_more k u)) w.0 w.1
                (rw (x.0, not-true (reached k w.0) x.1) (omega arith)),
          ))
      go (inr e) ih = (k, λ u l h. at u l h (reached k u) refl)
        where
          at : (u : ℕ) → u < d → reached (suc k) u ≡ true → (b : Bool) → reached k u ≡ b → b ≡ true
          at u l h true z = refl
          at u l h false z = absurd (none_in d (λ u. reached (suc k) u && not (reached k u)) e u l (rw (h, z)))

  pub stable : (k : ℕ) × Stable k
  stable = stable_from (suc d) 0 (omega arith)
