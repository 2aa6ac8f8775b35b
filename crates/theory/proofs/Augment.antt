-- A reached slot that is not full lets one feeding go from an overfull slot to it, along a chain of moves; the overflow falls. Assumes nothing.
use Prim.Native.Nat.{ℕ, zero, suc, ◌-◌, ◌≤◌, ◌<◌, min, max}
use Rattle.std.specs.Prelude.{◌≡◌, refl, ◌⊎◌, ◌≢◌, Bool, ◌&&◌, cond, eqb, ltb}
use Rattle.std.proofs.Common.{sym, ◌∙◌, ap, inl, inr, arith}
use Rattle.std.proofs.Math.Bool.{true, false, false≢true}
use Rattle.std.proofs.Math.Decide.{ℕ_discrete}
use borrow.Author.Tests.{ltb-true, ltb-false, lt-ltb}
use Rattle.common.specs.Tests.{true_or_false}
use Rattle.theory.specs.Sums.{sum, sum_change}
use Rattle.theory.specs.Placing.{count, Placing}
use Rattle.theory.specs.Move.{upd, move, Shift}
use Rattle.theory.proofs.Move.{upd_col, shift_trans, move_shift, move_placing}
use Rattle.theory.specs.Optimum.{Between}
use Rattle.theory.proofs.Edges.{Edge}
use Rattle.theory.proofs.Layers.{layer, Step, in_layer, layer_in, layer_more, layer_mono}

upd_keep : (S : ℕ → ℕ → Bool) (j t : ℕ) (b : Bool) (k u : ℕ) → S k u ≡ b → upd S j t b k u ≡ b
upd_keep S j t b k u e = go (eqb k j && eqb u t)
  where
    go : (x : Bool) → cond x b (S k u) ≡ b
    go true = refl
    go false = e

module _ (n d : ℕ) (free : ℕ → ℕ → Bool) (high : ℕ → ℕ) where
  abbrev reached : (ℕ → ℕ → Bool) → ℕ → ℕ → Bool
  reached = layer n d free high

  -- One move along an edge whose end is not full ------------------------------

  module _ {v : ℕ → ℕ} {S : ℕ → ℕ → Bool} (s : Placing n d free v S) {j a u : ℕ} (e : Edge n free S j a u) (la : a < d) (lu : u < d)
      (room : count n S u < high u) where
    shifted : Shift n S (move S j a u) a u
    shifted = move_shift s e.below la lu e.here e.gap e.may

    moved : Placing n d free v (move S j a u)
    moved = move_placing s e.below la lu e.here e.gap e.may

    -- the layers up to one that u is not in stay
    layer_keep : count n S a ≤ high a → (k : ℕ) → reached S k u ≡ false
        → (i : ℕ) → i ≤ k → (w : ℕ) → w < d → reached S i w ≡ true → reached (move S j a u) i w ≡ true
    unfolding layer
    layer_keep full k out zero l w lw h =
        let o : high w < count n S w = ltb-true (high w) (count n S w) h in
        let na : w ≢ a = λ q. (let x : high a < count n S a = rw q at o in omega arith) in
        let nu : w ≢ u = λ q. (let x : high u < count n S u = rw q at o in omega arith) in
        lt-ltb (high w) (count n (move S j a u) w) (rw (shifted.others w na nu) o)
    layer_keep full k out (suc i) l w lw h = go (layer_in n d free high S i w h) (layer_keep full k out i (omega arith))
      where
        go : (reached S i w ≡ true) ⊎ Step n d free high S i w
            → ((w : ℕ) → w < d → reached S i w ≡ true → reached (move S j a u) i w ≡ true) → reached (move S j a u) (suc i) w ≡ true
        go (inl x) ih = layer_more n d free high (move S j a u) i w (ih w lw x)
        go (inr (b, m, lb, x, y)) ih =
            let nb : b ≢ a = λ q. false≢true (sym out ∙ layer_mono n d free high S (suc i) k u l (in_layer n d free high S i la (rw q at x) e)) in
            let nw : w ≢ u = λ q. false≢true (sym out ∙ layer_mono n d free high S (suc i) k u l (rw q at h)) in
            in_layer n d free high (move S j a u) i lb (ih b lb x) (record {
              below = y.below;
              here = upd_keep (upd S j a false) j u true m b (upd_col S j a false m b nb ∙ y.here);
              may = y.may;
              gap = upd_col (upd S j a false) j u true m w nw ∙ upd_keep S j a false m w y.gap;
            })

  -- A shift from an overfull slot to one that is not full ---------------------

  -- how much the loads are over the highs, in all
  unfoldable pub overflow : (ℕ → ℕ → Bool) → ℕ
  overflow S = sum d (λ t. count n S t - high t)

  module _ {S T : ℕ → ℕ → Bool} {z u : ℕ} (p : Shift n S T z u) (lz : z < d) (full : high z < count n S z) (room : count n S u < high u) where
    pub shift_overflow : overflow T < overflow S
    unfolding overflow
    shift_overflow =
        omega (arith, p.from, sum_change d (λ t. count n T t - high t) (λ t. count n S t - high t) z lz (λ w l h. go w h (ℕ_discrete w u)))
      where
        go : (w : ℕ) → w ≢ z → Dec (w ≡ u) → count n T w - high w ≡ count n S w - high w
        go w h (yes q) = rw q (omega (arith, p.to))
        go w h (no q) = rw (p.others w h q)

    pub shift_between : Between n d free high S T
    shift_between t l = go (ℕ_discrete t z) (ℕ_discrete t u)
      where
        go : Dec (t ≡ z) → Dec (t ≡ u) → (min (count n S t) (high t) ≤ count n T t) × (count n T t ≤ max (count n S t) (high t))
        go (yes q) x = rw q (omega (arith, p.from))
        go (no h) (yes q) = rw q (omega (arith, p.to))
        go (no h) (no k) = omega (arith, p.others t h k)

  -- A chain of moves ----------------------------------------------------------

  module _ (v : ℕ → ℕ) where
    -- a placing that has one feeding more in u and one less in an overfull slot
    abbrev pub Augmented : (S : ℕ → ℕ → Bool) (u : ℕ) → Type 0
    Augmented S u = (T : ℕ → ℕ → Bool) × Placing n d free v T × ((z : ℕ) × (z < d) × (high z < count n S z) × Shift n S T z u)

    pub augment : (k : ℕ) (S : ℕ → ℕ → Bool) → Placing n d free v S → (u : ℕ) → u < d → reached S k u ≡ true → count n S u < high u → Augmented S u
    unfolding layer
    augment zero S s u lu h room = absurd (let x = ltb-true (high u) (count n S u) h in omega arith)
    augment (suc k) S s u lu h room = go (true_or_false (reached S k u)) (augment k)
      where
        Ih : Type 0
        Ih = (S : ℕ → ℕ → Bool) → Placing n d free v S → (u : ℕ) → u < d → reached S k u ≡ true → count n S u < high u → Augmented S u

        by_step : reached S k u ≡ false → Ih → (reached S k u ≡ true) ⊎ Step n d free high S k u → Augmented S u
        by_step out ih (inl x) = ih S s u lu x room
        by_step out ih (inr (a, j, la, x, e)) = at (true_or_false (ltb (high a) (count n S a)))
          where
            p : Shift n S (move S j a u) a u
            p = shifted s e la lu room

            at : (ltb (high a) (count n S a) ≡ true) ⊎ (ltb (high a) (count n S a) ≡ false) → Augmented S u
            at (inl o) = (move S j a u, moved s e la lu room, (a, la, ltb-true (high a) (count n S a) o, p))
            at (inr o) =
                let q = ltb-false (high a) (count n S a) o in
                let (T, t, (z, lz, f, r)) =
                ih (move S j a u) (moved s e la lu room) a la (layer_keep s e la lu room q k out k (omega arith) a la x) (omega (arith, p.from)) in
                let za : z ≢ a = λ i. (let y : high a < count n (move S j a u) a = rw i at f in omega (arith, p.from)) in
                let zu : z ≢ u = λ i. (let y : high u < count n (move S j a u) u = rw i at f in omega (arith, p.to)) in
                let ua : u ≢ a = λ i. false≢true (sym e.gap ∙ ap (S j) i ∙ e.here) in
                (T, t, (z, lz, omega (arith, p.others z za zu), shift_trans p r za zu ua))

        go : (reached S k u ≡ true) ⊎ (reached S k u ≡ false) → Ih → Augmented S u
        go (inl x) ih = ih S s u lu x room
        go (inr x) ih = by_step x ih (layer_in n d free high S k u h)
