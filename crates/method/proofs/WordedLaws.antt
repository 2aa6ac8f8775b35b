-- The method as worded in document 01 (Worded.antt) settles the same as that of Method.antt: no high is below k where
-- blower k has not come yet. Assumes nothing.
use Rattle.std.specs.Prelude.{◌≡◌, ◌⊎◌, Bool, leb}
use Rattle.std.proofs.Math.Path.{refl, ap}
use Rattle.std.proofs.Common.{sym, ◌∙◌, inl, inr, arith, ext_get_or, leb-true}
use Rattle.std.proofs.Math.Bool.{true, false}
use mathlib.Core.List.{List, ◌++◌}
use Prim.Native.Nat.{ℕ, zero, suc, ◌+◌, ◌-◌, min, ◌≤◌, ◌<◌}
use Rattle.std.proofs.Math.ListN.{length, get_or}
use Rattle.std.proofs.lemmas.List.{length-replicate, get_or-replicate}
use Rattle.schedules.specs.Schedules.{Demand}
use Rattle.method.specs.Method.{Bounds, day_bounds, on_run, idle_for, busy_for, longest, feasible_under, idle_run, busy_run, settle, settle_all}
use Rattle.method.specs.Intervals.{Interval}
use Rattle.method.specs.SettledRuns.{stretch_of, settled_runs, bounds_at_turn}
use Rattle.method.specs.Worded.{idle_set, idle_set_run, settle_worded, settle_all_worded, runs_worded, bounds_worded}
use Rattle.method.proofs.RunLaws.{length_on_run, on_run_inside, on_run_before, on_run_after}
use Rattle.method.proofs.Cases.{le_or_lt}

-- One step -------------------------------------------------------------------------

-- no entry from slot t on is below c
abbrev AtLeast : ℕ → ℕ → List ℕ → Type 0
AtLeast c t xs = (s : ℕ) → s < length xs → t ≤ suc s → c ≤ get_or xs s 0

set_is_min : (k t n : ℕ) (xs : List ℕ) → AtLeast (k - 1) t xs → on_run t n (λ x. k - 1) xs ≡ on_run t n (min (k - 1)) xs
set_is_min k t n xs h =
    ext_get_or 0 (on_run t n (λ x. k - 1) xs) (on_run t n (min (k - 1)) xs) (length_on_run t n (λ x. k - 1) xs ∙ sym (length_on_run t n (min (k - 1)) xs))
    (λ s l. at s (rw (length_on_run t n (λ x. k - 1) xs) at l) (le_or_lt t (suc s)) (le_or_lt (t + n) (suc s)))
  where
    at : (s : ℕ) → s < length xs → (t ≤ suc s) ⊎ (suc s < t) → (t + n ≤ suc s) ⊎ (suc s < t + n)
        → get_or (on_run t n (λ x. k - 1) xs) s 0 ≡ get_or (on_run t n (min (k - 1)) xs) s 0
    at s l (inr a) c = on_run_before t n (λ x. k - 1) xs s l a ∙ sym (on_run_before t n (min (k - 1)) xs s l a)
    at s l (inl a) (inl c) = on_run_after t n (λ x. k - 1) xs s l c ∙ sym (on_run_after t n (min (k - 1)) xs s l c)
    at s l (inl a) (inr c) =
        on_run_inside t n (λ x. k - 1) xs s l a c
        ∙ (let e : k - 1 ≡ min (k - 1) (get_or xs s 0) = omega (arith, h s l a) in e)
        ∙ sym (on_run_inside t n (min (k - 1)) xs s l a c)

idle_same : (k t n : ℕ) (b : Bounds) → AtLeast (k - 1) t b.high → idle_set k t b n ≡ idle_for k t b n
unfolding idle_set idle_for
idle_same k t n b h = λ i. record { low = b.low; high = set_is_min k t n b.high h i }

module _ (slots : ℕ) (ds : List Demand) where
  run_same : (k t : ℕ) (b : Bounds) → AtLeast (k - 1) t b.high → idle_set_run slots ds k t b ≡ idle_run slots ds k t b
  unfolding idle_set_run idle_run
  run_same k t b h = λ i. longest (λ n. feasible_under slots ds (idle_same k t n b h i)) (suc slots - t)

  -- what an idle step leaves after its run is as it was
  after_idle : (k t n m : ℕ) (b : Bounds) (c : ℕ) → AtLeast c t b.high → AtLeast c (t + n + m) (idle_for k t b n).high
  unfolding idle_for
  after_idle k t n m b c h s l a =
      let o : s < length b.high = rw (length_on_run t n (min (k - 1)) b.high) at l in
      omega (arith, h s o (omega (arith, a)), on_run_after t n (min (k - 1)) b.high s o (omega (arith, a)))

  settle_same : (k turns t : ℕ) (b : Bounds) → AtLeast (k - 1) t b.high → settle_worded slots ds k turns t b ≡ settle slots ds k turns t b
  unfolding settle_worded settle busy_for
  settle_same k zero t b h = refl
  settle_same k (suc turns) t b h =
      ap (λ i. next i (idle_set k t b i)) (run_same k t b h)
      ∙ ap (next (idle_run slots ds k t b)) (idle_same k t (idle_run slots ds k t b) b h)
      ∙ (let i : ℕ = idle_run slots ds k t b in
      let c : Bounds = idle_for k t b i in
      let n : ℕ = busy_run slots ds k (t + i) c in
      settle_same k turns (t + i + n) (busy_for k (t + i) c n) (after_idle k t i n b (k - 1) h))
    where
      next : ℕ → Bounds → Bounds
      next i c = let n : ℕ = busy_run slots ds k (t + i) c in settle_worded slots ds k turns (t + i + n) (busy_for k (t + i) c n)

  -- all highs ---------------------------------------------------------------------

  idle_least : (k t n : ℕ) (b : Bounds) → AtLeast (k - 1) 0 b.high → AtLeast (k - 1) 0 (idle_for k t b n).high
  unfolding idle_for
  idle_least k t n b h s l z = at (rw (length_on_run t n (min (k - 1)) b.high) at l) (le_or_lt t (suc s)) (le_or_lt (t + n) (suc s))
    where
      at : s < length b.high → (t ≤ suc s) ⊎ (suc s < t) → (t + n ≤ suc s) ⊎ (suc s < t + n) → k - 1 ≤ get_or (idle_for k t b n).high s 0
      at m (inr a) c = omega (arith, h s m z, on_run_before t n (min (k - 1)) b.high s m a)
      at m (inl a) (inl c) = omega (arith, h s m z, on_run_after t n (min (k - 1)) b.high s m c)
      at m (inl a) (inr c) = omega (arith, h s m z, on_run_inside t n (min (k - 1)) b.high s m a c)

  settle_least : (k turns t : ℕ) (b : Bounds) → AtLeast (k - 1) 0 b.high → AtLeast (k - 1) 0 (settle slots ds k turns t b).high
  unfolding settle busy_for
  settle_least k zero t b h = h
  settle_least k (suc turns) t b h =
      let i : ℕ = idle_run slots ds k t b in
      let c : Bounds = idle_for k t b i in
      let n : ℕ = busy_run slots ds k (t + i) c in
      settle_least k turns (t + i + n) (busy_for k (t + i) c n) (idle_least k t i b h)

  pub settle_all_worded_lem : (m : ℕ) (b : Bounds) → AtLeast m 0 b.high → settle_all_worded slots ds m b ≡ settle_all slots ds m b
  unfolding settle_all_worded settle_all
  settle_all_worded_lem zero b h = refl
  settle_all_worded_lem (suc m) b h =
      let l : AtLeast (suc m - 1) 0 b.high = λ s o z. omega (arith, h s o z) in
      let c : Bounds = settle slots ds (suc m) slots 1 b in
      ap (settle_all_worded slots ds m) (settle_same (suc m) slots 1 b (λ s o z. l s o (omega arith)))
      ∙ settle_all_worded_lem m c (λ s o z. omega (arith, settle_least (suc m) slots 1 b l s o z))

  pub day_least : (m : ℕ) → AtLeast m 0 (day_bounds slots m).high
  day_least m s l z = omega (arith, get_or-replicate slots s m 0 (rw (length-replicate slots m) at l))

  -- the runs ----------------------------------------------------------------------

  runs_same : (k turns t : ℕ) (b : Bounds) → AtLeast (k - 1) t b.high → runs_worded slots ds k turns t b ≡ settled_runs slots ds k turns t b
  unfolding runs_worded settled_runs busy_for
  runs_same k zero t b h = refl
  runs_same k (suc turns) t b h =
      ap (λ i. next i (idle_set k t b i)) (run_same k t b h)
      ∙ ap (next (idle_run slots ds k t b)) (idle_same k t (idle_run slots ds k t b) b h)
      ∙ (let i : ℕ = idle_run slots ds k t b in
      let c : Bounds = idle_for k t b i in
      let n : ℕ = busy_run slots ds k (t + i) c in
      ap (λ vs. stretch_of t i false ++ (stretch_of (t + i) n true ++ vs)) (runs_same k turns (t + i + n) (busy_for k (t + i) c n) (after_idle k t i n b (k - 1) h)))
    where
      next : ℕ → Bounds → List Interval
      next i c =
          let n : ℕ = busy_run slots ds k (t + i) c in
          stretch_of t i false ++ (stretch_of (t + i) n true ++ runs_worded slots ds k turns (t + i + n) (busy_for k (t + i) c n))

  -- the bounds at a turn, and that no high there is below k
  turn_same : (m k : ℕ) (b : Bounds) → k ≤ m → AtLeast m 0 b.high
      → (bounds_worded slots ds m k b ≡ bounds_at_turn slots ds m k b) × AtLeast k 0 (bounds_at_turn slots ds m k b).high
  unfolding bounds_worded bounds_at_turn
  turn_same zero k b l h = (refl, λ s o z. omega (arith, h s o z))
  turn_same (suc m) k b l h = go (leb k m) refl (turn_same m k (settle slots ds (suc m) slots 1 b))
    where
      c : Bounds
      c = settle slots ds (suc m) slots 1 b

      least : AtLeast (suc m - 1) 0 b.high
      least s o z = omega (arith, h s o z)

      worded : Bool → Bounds
      worded true = bounds_worded slots ds m k (settle_worded slots ds (suc m) slots 1 b)
      worded false = b

      plain : Bool → Bounds
      plain true = bounds_at_turn slots ds m k c
      plain false = b

      go : (x : Bool) → leb k m ≡ x
          → (k ≤ m → AtLeast m 0 c.high → (bounds_worded slots ds m k c ≡ bounds_at_turn slots ds m k c) × AtLeast k 0 (bounds_at_turn slots ds m k c).high)
          → (worded x ≡ plain x) × AtLeast k 0 (plain x).high
      go true e again =
          let r = again (leb-true k m e) (λ s o z. omega (arith, settle_least (suc m) slots 1 b least s o z)) in
          (ap (bounds_worded slots ds m k) (settle_same (suc m) slots 1 b (λ s o z. least s o (omega arith))) ∙ r.0, r.1)
      go false e again = (refl, λ s o z. omega (arith, h s o z, l))

  pub runs_worded_lem : (m k : ℕ) → k ≤ m → let b = day_bounds slots m in
      runs_worded slots ds k slots 1 (bounds_worded slots ds m k b) ≡ settled_runs slots ds k slots 1 (bounds_at_turn slots ds m k b)
  runs_worded_lem m k l =
      let r = turn_same m k (day_bounds slots m) l (day_least m) in
      ap (runs_worded slots ds k slots 1) r.0 ∙ runs_same k slots 1 _ (λ s o z. omega (arith, r.1 s o (omega arith)))
