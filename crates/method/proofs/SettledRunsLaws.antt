-- The stretches read off the counts are those that the method settled. Assumes nothing.
use Rattle.std.specs.Prelude.{◌≡◌, Bool, not, cond, leb}
use Rattle.std.proofs.Math.Path.{refl, sym, ap, ap₂}
use Rattle.std.proofs.Common.{◌∙◌, subst, leb-true, leb-false}
use Rattle.std.proofs.Math.Bool.{true, false}
use Rattle.std.specs.Bool.{beq}
use mathlib.Core.List.{List, [], ◌∷◌, ◌++◌, map}
use Prim.Native.Nat.{ℕ, zero, suc, ◌+◌, ◌-◌, ◌≤◌, ◌<◌}
use native.Mathlib.Omega.{arith}
use Rattle.schedules.specs.Schedules.{Demand, Windows}
use Rattle.method.specs.Method.{Bounds, FeasibleDay, idle_for, busy_for, keep_for, idle_run, busy_run, feasible_under, settle, settle_all, loads}
use Rattle.method.specs.Intervals.{Interval, join, runs, intervals}
use Rattle.method.specs.Slotwise.{keep_at, busy_from}
use Rattle.method.specs.SettledRuns.{stretch_of, settled_runs, bounds_at_turn}
use Rattle.method.proofs.StepLaws.{keep_at_sized, other_possible, busy_at_stays, busy_at_changes}
use Rattle.method.proofs.KeepForLaws.{keep_for_none}
use Rattle.method.proofs.SlotwiseLaws.{keep_for_suc, run, run_stays, run_changes, run_past, double, double_is, settle_slotwise}
use Rattle.method.proofs.SettleLaws.{settle_from_possible, settle_all_slotwise, counts_busy_from}

-- A slot joined to what follows -----------------------------------------------

-- the first stretch is of the other kind, if there is one
abbrev Differs : (busy : Bool) → List Interval → Type 0
Differs busy [] = Unit {0}
Differs busy (v ∷ vs) = v.busy ≡ not busy

module _ (t : ℕ) where
  join_other : (busy : Bool) (vs : List Interval) → Differs busy vs → join t busy vs ≡ record { first = t; last = t; busy = busy } ∷ vs
  unfolding join
  join_other busy [] d = refl
  join_other true (v ∷ vs) d = rw d
  join_other false (v ∷ vs) d = rw d

  join_same : (busy : Bool) (n : ℕ) (vs : List Interval) → join t busy (stretch_of (suc t) (suc n) busy ++ vs) ≡ stretch_of t (suc (suc n)) busy ++ vs
  unfolding join
  join_same true n vs = let e : suc t + n ≡ t + suc n = omega arith in rw e
  join_same false n vs = let e : suc t + n ≡ t + suc n = omega arith in rw e

  join_differs : (busy : Bool) (vs : List Interval) → Differs busy (join t (not busy) vs)
  unfolding join
  join_differs busy [] = refl
  join_differs true (v ∷ vs) = go v.busy
    where
      go : (x : Bool) → Differs true (cond (beq false x) (record { first = t; last = v.last; busy = false } ∷ vs) (record { first = t; last = t; busy = false } ∷ v ∷ vs))
      go true = refl
      go false = refl
  join_differs false (v ∷ vs) = go v.busy
    where
      go : (x : Bool) → Differs false (cond (beq true x) (record { first = t; last = v.last; busy = true } ∷ vs) (record { first = t; last = t; busy = true } ∷ v ∷ vs))
      go true = refl
      go false = refl

  -- a slot before a run of its kind and what follows it
  join_run : (busy : Bool) (n : ℕ) (vs : List Interval) → (n ≡ 0 → Differs busy vs)
      → join t busy (stretch_of (suc t) n busy ++ vs) ≡ stretch_of t (suc n) busy ++ vs
  join_run busy zero vs d = let e : t ≡ t + 0 = omega arith in join_other busy vs (d refl) ∙ ap (λ i. record { first = t; last = i; busy = busy } ∷ vs) e
  join_run busy (suc n) vs d = join_same busy n vs

-- One run at a time, as in SlotwiseLaws ---------------------------------------

module _ (slots : ℕ) (ds : List Demand) (k : ℕ) where
  alternate_runs : (busy : Bool) (turns t : ℕ) → Bounds → List Interval
  alternate_runs busy zero t b = []
  alternate_runs busy (suc turns) t b =
      stretch_of t (run slots ds k busy t b) busy ++ alternate_runs (not busy) turns (t + run slots ds k busy t b) (keep_for k busy t b (run slots ds k busy t b))

  settled_runs_alternate : (turns t : ℕ) (b : Bounds) → settled_runs slots ds k turns t b ≡ alternate_runs false (double turns) t b
  unfolding settled_runs idle_run busy_run run alternate_runs double
  settled_runs_alternate zero t b = refl
  settled_runs_alternate (suc turns) t b =
      let i : ℕ = idle_run slots ds k t b in
      let c : Bounds = idle_for k t b i in
      let n : ℕ = busy_run slots ds k (t + i) c in
      ap (λ vs. stretch_of t i false ++ (stretch_of (t + i) n true ++ vs)) (settled_runs_alternate turns (t + i + n) (busy_for k (t + i) c n))

module _ {slots : ℕ} {ds : List Demand} (w : Windows slots ds) (k : ℕ) where
  module _ (busy : Bool) (turns t : ℕ) (b : Bounds) where
    -- a slot more is possible: it is joined to the run after it
    alternate_runs_stays : t < slots → feasible_under slots ds (keep_at k busy t b) ≡ true
        → alternate_runs slots ds k busy (suc turns) (suc t) b
        ≡ stretch_of (suc t) (suc (run slots ds k busy (suc (suc t)) (keep_at k busy t b))) busy
        ++ alternate_runs slots ds k (not busy) turns (suc (suc t) + run slots ds k busy (suc (suc t)) (keep_at k busy t b))
        (keep_for k busy (suc (suc t)) (keep_at k busy t b) (run slots ds k busy (suc (suc t)) (keep_at k busy t b)))
    unfolding alternate_runs
    alternate_runs_stays l e =
        ap (λ n. stretch_of (suc t) n busy ++ alternate_runs slots ds k (not busy) turns (suc t + n) (keep_for k busy (suc t) b n)) (run_stays w k busy t b l e)
        ∙ ap (λ vs. stretch_of (suc t) (suc r) busy ++ vs) (ap₂ (alternate_runs slots ds k (not busy) turns) later (keep_for_suc k busy t b r))
      where
        r : ℕ
        r = run slots ds k busy (suc (suc t)) (keep_at k busy t b)

        later : suc t + suc r ≡ suc (suc t) + r
        later = omega arith

  -- an empty run leaves the next one where it is
  alternate_runs_none : (busy : Bool) (turns t : ℕ) (b : Bounds) → run slots ds k busy t b ≡ 0
      → alternate_runs slots ds k busy (suc turns) t b ≡ alternate_runs slots ds k (not busy) turns t b
  unfolding alternate_runs
  alternate_runs_none busy turns t b e =
      let here : t + 0 ≡ t = omega arith in
      ap (λ n. stretch_of t n busy ++ alternate_runs slots ds k (not busy) turns (t + n) (keep_for k busy t b n)) e
      ∙ ap₂ (alternate_runs slots ds k (not busy) turns) here (keep_for_none k busy t b)

  alternate_runs_past : (busy : Bool) (turns : ℕ) (b : Bounds) → alternate_runs slots ds k busy turns (suc slots) b ≡ []
  unfolding alternate_runs
  alternate_runs_past busy zero b = refl
  alternate_runs_past busy (suc turns) b = alternate_runs_none busy turns (suc slots) b (run_past w k busy b) ∙ alternate_runs_past (not busy) turns b

  -- the choices in the slots after a run that is empty begin with the other kind
  busy_from_differ : (busy : Bool) (n t : ℕ) {b : Bounds} → FeasibleDay slots ds b → t + n ≡ slots → run slots ds k busy (suc t) b ≡ 0
      → Differs busy (runs (suc t) (busy_from slots ds k busy n t b))
  unfolding runs busy_from
  busy_from_differ busy zero t h e z = tt
  busy_from_differ busy (suc n) t {b} h e z = go (feasible_under slots ds (keep_at k busy t b)) refl
    where
      go : (x : Bool) → feasible_under slots ds (keep_at k busy t b) ≡ x → Differs busy (runs (suc t) (busy_from slots ds k busy (suc n) t b))
      go true q = absurd (omega (arith, run_stays w k busy t b (omega arith) q))
      go false q = rw (busy_at_changes slots ds k busy t b q) (join_differs (suc t) busy _)

  -- the runs from a slot on that is kept are that slot joined to the runs after it
  alternate_runs_join : (busy : Bool) (n turns t : ℕ) (b : Bounds) → FeasibleDay slots ds (keep_at k busy t b) → t + suc n ≡ slots
      → feasible_under slots ds (keep_at k busy t b) ≡ true
      → alternate_runs slots ds k busy (suc turns) (suc (suc t)) (keep_at k busy t b) ≡ runs (suc (suc t)) (busy_from slots ds k busy n (suc t) (keep_at k busy t b))
      → alternate_runs slots ds k busy (suc turns) (suc t) b ≡ join (suc t) busy (runs (suc (suc t)) (busy_from slots ds k busy n (suc t) (keep_at k busy t b)))
  unfolding alternate_runs
  alternate_runs_join busy n turns t b h e q ih =
      alternate_runs_stays busy turns t b (omega arith) q ∙ sym (join_run (suc t) busy r rest differs) ∙ ap (join (suc t) busy) ih
    where
      c : Bounds
      c = keep_at k busy t b

      r : ℕ
      r = run slots ds k busy (suc (suc t)) c

      rest : List Interval
      rest = alternate_runs slots ds k (not busy) turns (suc (suc t) + r) (keep_for k busy (suc (suc t)) c r)

      differs : r ≡ 0 → Differs busy rest
      differs z =
          subst (Differs busy) (sym ih ∙ ap (λ i. stretch_of (suc (suc t)) i busy ++ rest) z) (busy_from_differ busy n (suc t) h (omega arith) z)

  alternate_runs_busy_from : (busy : Bool) (n turns t : ℕ) {b : Bounds} → FeasibleDay slots ds b → t + n ≡ slots → n ≤ turns - 1
      → alternate_runs slots ds k busy turns (suc t) b ≡ runs (suc t) (busy_from slots ds k busy n t b)
  unfolding runs busy_from
  alternate_runs_busy_from busy zero turns t {b} h e m =
      let q : t ≡ slots = omega arith in ap (λ i. alternate_runs slots ds k busy turns (suc i) b) q ∙ alternate_runs_past busy turns b
  alternate_runs_busy_from busy (suc n) zero t h e m = absurd (omega arith)
  alternate_runs_busy_from busy (suc n) (suc zero) t h e m = absurd (omega arith)
  alternate_runs_busy_from busy (suc n) (suc (suc turns)) t {b} h e m =
      go (feasible_under slots ds (keep_at k busy t b)) refl (λ x r f. alternate_runs_busy_from x n (suc r) (suc t) {b = keep_at k x t b} f (omega arith))
    where
      l : t < slots
      l = omega arith

      keeps : (x : Bool) → feasible_under slots ds (keep_at k x t b) ≡ true → FeasibleDay slots ds (keep_at k x t b)
      keeps x q = record { sized = keep_at_sized k x t h.sized; possible = q }

      go : (x : Bool) → feasible_under slots ds (keep_at k busy t b) ≡ x
          → ((x : Bool) (r : ℕ) → FeasibleDay slots ds (keep_at k x t b) → n ≤ suc r - 1
          → alternate_runs slots ds k x (suc r) (suc (suc t)) (keep_at k x t b) ≡ runs (suc (suc t)) (busy_from slots ds k x n (suc t) (keep_at k x t b)))
          → alternate_runs slots ds k busy (suc (suc turns)) (suc t) b ≡ runs (suc t) (busy_from slots ds k busy (suc n) t b)
      go true q ih = rw (busy_at_stays slots ds k busy t b q) (alternate_runs_join busy n (suc turns) t b (keeps busy q) e q (ih busy (suc turns) (keeps busy q) (omega arith)))
      go false q ih =
          let o = other_possible w k busy t h l q in
          alternate_runs_none busy (suc turns) (suc t) b (run_changes w k busy t b h.sized q)
          ∙ rw (busy_at_changes slots ds k busy t b q) (alternate_runs_join (not busy) n turns t b (keeps (not busy) o) e o (ih (not busy) turns (keeps (not busy) o) (omega arith)))

  pub settled_runs_busy_from : {b : Bounds} → FeasibleDay slots ds b → settled_runs slots ds k slots 1 b ≡ runs 1 (busy_from slots ds k false slots 0 b)
  settled_runs_busy_from {b} h =
      settled_runs_alternate slots ds k slots 1 b
      ∙ alternate_runs_busy_from false slots (double slots) 0 h (omega arith) (omega (arith, double_is slots))

-- All blowers -----------------------------------------------------------------

module _ {slots : ℕ} {ds : List Demand} (w : Windows slots ds) where
  pub intervals_settled : (m : ℕ) {b : Bounds} → FeasibleDay slots ds b → (k : ℕ) → 1 ≤ k → k ≤ m
      → intervals (loads slots ds m b) k ≡ settled_runs slots ds k slots 1 (bounds_at_turn slots ds m k b)
  unfolding loads settle_all bounds_at_turn intervals
  intervals_settled zero h k o l = absurd (omega arith)
  intervals_settled (suc m) {b} h k o l = go (leb k m) refl (intervals_settled m next k o)
    where
      next : FeasibleDay slots ds (settle slots ds (suc m) slots 1 b)
      next = rw (settle_slotwise w (suc m) h) (settle_from_possible w (suc m) false slots 0 h (omega arith))

      go : (x : Bool) → leb k m ≡ x
          → (k ≤ m → runs 1 (map (leb k) (settle_all slots ds m (settle slots ds (suc m) slots 1 b)).low)
          ≡ settled_runs slots ds k slots 1 (bounds_at_turn slots ds m k (settle slots ds (suc m) slots 1 b)))
          → runs 1 (map (leb k) (settle_all slots ds (suc m) b).low) ≡ settled_runs slots ds k slots 1 (bounds_at_turn slots ds (suc m) k b)
      go true q ih = rw (q, bounds_at_turn) (ih (leb-true k m q))
      go false q ih =
          let e : k ≡ suc m = omega (arith, leb-false k m q) in
          rw (q, bounds_at_turn)
          (rw e (ap (λ (c : Bounds). runs 1 (map (leb (suc m)) c.low)) (settle_all_slotwise w (suc m) h) ∙ ap (runs 1) (counts_busy_from w m h)
          ∙ sym (settled_runs_busy_from w (suc m) h)))
