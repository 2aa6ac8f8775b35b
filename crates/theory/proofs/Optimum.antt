-- From any placing one comes to one with a least closed set of full slots around its overfull slots, so where no set of slots is forced
-- over its capacity some placing keeps all highs. Assumes nothing.
use Prim.Native.Nat.{ℕ, zero, suc, ◌≤◌, ◌<◌}
use Rattle.std.specs.Prelude.{◌≡◌, ◌⊎◌, Bool, true, false, ◌&&◌, ltb}
use Rattle.std.proofs.Common.{inl, inr, arith, ltb-true, lt-ltb}
use Rattle.std.proofs.Math.Logic.{⊎_elim}
use Rattle.common.specs.Tests.{true_or_false, and_true, some, some_in, none_in}
use Rattle.theory.specs.SumsOver.{sum_on}
use Rattle.theory.specs.Placing.{count, Placing, Closed, forced}
use Rattle.theory.proofs.Closed.{certificate}
use Rattle.theory.proofs.Layers.{layer, Stable, stable, stable_closed, layer_mono, layer_least}
use Rattle.theory.specs.Optimum.{Between, Optimum}
use Rattle.theory.proofs.Augment.{overflow, shift_overflow, shift_between, Augmented, augment}

module _ (n d : ℕ) (free : ℕ → ℕ → Bool) (high v : ℕ → ℕ) where
  -- a placing with less overflow
  Better : (ℕ → ℕ → Bool) → Type 0
  Better S = (T : ℕ → ℕ → Bool) × Placing n d free v T × (overflow n d free high T < overflow n d free high S) × Between n d free high S T

  -- a slot that is reached and not full
  open_slot : (S : ℕ → ℕ → Bool) (k : ℕ) → ℕ → Bool
  open_slot S k u = layer n d free high S k u && ltb (count n S u) (high u)

  improve : (S : ℕ → ℕ → Bool) → Placing n d free v S → Better S ⊎ Optimum n d free high v S
  unfolding layer Better open_slot
  improve S s = go (stable n d free high S)
    where
      better : (u : ℕ) → count n S u < high u → Augmented n d free high v S u → Better S
      better u room (T, t, (z, lz, f, p)) = (T, t, shift_overflow n d free high p lz f room, shift_between n d free high p lz f room)

      done : (k : ℕ) → Stable n d free high S k → some d (open_slot S k) ≡ false → Optimum n d free high v S
      done k h f = record {
        plan = S;
        set = layer n d free high S k;
        placing = s;
        between = λ t l. omega arith;
        closed = stable_closed n d free high S k h;
        loaded = λ t l e. let x : ¬ (count n S t < high t) = λ q. none_in d (open_slot S k) f t l (rw (e, lt-ltb (count n S t) (high t) q)) in omega arith;
        over = λ t l q. layer_mono n d free high S 0 k t (omega arith) (lt-ltb (high t) (count n S t) q);
        least = λ Q c o. layer_least n d free high S Q c o k;
      }

      go : (k : ℕ) × Stable n d free high S k → Better S ⊎ Optimum n d free high v S
      go (k, h) = at (true_or_false (some d (open_slot S k)))
        where
          at : (some d (open_slot S k) ≡ true) ⊎ (some d (open_slot S k) ≡ false) → Better S ⊎ Optimum n d free high v S
          at (inl e) =
              let w = some_in d (open_slot S k) e in
              let x = and_true (layer n d free high S k w.0) (ltb (count n S w.0) (high w.0)) w.2 in
              let r = ltb-true (count n S w.0) (high w.0) x.1 in
              inl (better w.0 r (augment n d free high v k S s w.0 w.1 x.0 r))
          at (inr e) = inr (done k h e)

  -- what is best from T is best from S
  from_better : {S T : ℕ → ℕ → Bool} → Between n d free high S T → Optimum n d free high v T → Optimum n d free high v S
  from_better b o = record {
    plan = o.plan;
    set = o.set;
    placing = o.placing;
    between = λ t l. let x = b t l in let y = o.between t l in omega arith;
    closed = o.closed;
    loaded = o.loaded;
    over = o.over;
    least = o.least;
  }

  optimum_from : (fuel : ℕ) (S : ℕ → ℕ → Bool) → Placing n d free v S → overflow n d free high S ≤ fuel → Optimum n d free high v S
  unfolding Better
  optimum_from zero S s h = ⊎_elim (λ b. absurd (omega arith)) (λ o. o) (improve S s)
  optimum_from (suc fuel) S s h = ⊎_elim (λ b. from_better b.3 (optimum_from fuel b.0 b.1 (omega arith))) (λ o. o) (improve S s)

  pub optimum : (S : ℕ → ℕ → Bool) → Placing n d free v S → Optimum n d free high v S
  optimum S s = optimum_from (overflow n d free high S) S s (omega arith)

  -- where no set is forced over its capacity, some placing keeps all highs
  pub hall : (S : ℕ → ℕ → Bool) → Placing n d free v S → ((Q : ℕ → Bool) → forced n d free v Q ≤ sum_on d Q high)
      → (T : ℕ → ℕ → Bool) × Placing n d free v T × ((t : ℕ) → t < d → count n T t ≤ high t) × Between n d free high S T
  hall S s h = let o = optimum S s in (o.plan, o.placing, within o, o.between)
    where
      within : (o : Optimum n d free high v S) (t : ℕ) → t < d → count n o.plan t ≤ high t
      within o t l =
          let k : ¬ (high t < count n o.plan t) = λ q. (
          let c = certificate o.placing o.closed o.loaded t l (o.over t l q) q in omega (arith, h o.set)) in
          omega arith
