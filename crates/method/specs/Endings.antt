-- Why each stretch of a day ends where it does (request 105): the stretches that end before the day's last slot, in
-- settling order, each with its cause. Definitions only. Assumes nothing.
use Rattle.std.specs.Prelude.{◌≡◌, ◌⊎◌, Bool, true, false, cond, List, [], ◌∷◌, ◌++◌, map, ℕ, zero, suc, ◌<◌, ltb, length}
use Rattle.schedules.specs.Schedules.{Demand, Schedule, Sound}
use Rattle.schedules.specs.Causes.{Obstacle, obstacle, IsCause}
use Rattle.method.specs.Method.{Bounds, keep_for, settle}
use Rattle.method.specs.Intervals.{Interval, size}
use Rattle.method.specs.Keeping.{with_no_slots}
use Rattle.method.specs.SettledRuns.{settled_runs}

-- A stretch that ends before the day's last slot: its blower, its ends and whether it is busy or idle, the bounds in
-- force when it was settled with the stretch one slot longer, and its cause.
pub record EndedStretch : Type 0 where
  pub blower : ℕ
  pub stretch : Interval
  pub longer : Bounds
  pub cause : Obstacle

-- the stretches of blowers k, k − 1, .., 1 in settling order: by blower, then by slot rising
unfoldable pub in_order : (stretches : ℕ → List Interval) → (k : ℕ) → List (ℕ × Interval)
in_order stretches zero = []
in_order stretches (suc k) = map (λ v. (suc k, v)) (stretches (suc k)) ++ in_order stretches k

-- the bounds that stretch v of blower k leaves, and those with the stretch one slot longer
abbrev pub kept_stretch : (k : ℕ) → Interval → Bounds → Bounds
kept_stretch k v b = keep_for k v.busy v.first b (size v)

abbrev pub longer_stretch : (k : ℕ) → Interval → Bounds → Bounds
longer_stretch k v b = keep_for k v.busy v.first b (suc (size v))

-- an idle stretch has cause 1 or 3, a busy one 2 or 3
abbrev pub CauseOfKind : (busy : Bool) (number : ℕ) → Type 0
CauseOfKind false n = (n ≡ 1) ⊎ (n ≡ 3)
CauseOfKind true n = (n ≡ 2) ⊎ (n ≡ 3)

module _ (slots : ℕ) (ds : List Demand) where
  -- The stretch ends before the day's last slot, no placing is sound with it one slot longer, and its cause is the true
  -- one.
  pub record Explained (e : EndedStretch) : Type 0 where
    pub before_end : e.stretch.last < slots
    pub none_sound : (p : Schedule) → ¬ Sound slots ds e.longer.low e.longer.high p
    pub true_cause : IsCause slots ds e.longer.low e.longer.high e.cause
    pub of_day : length e.cause.set ≡ slots
    pub of_kind : CauseOfKind e.stretch.busy e.cause.number

  -- of stretches in settling order, those that end before slot D, each with its cause: what stands in the way of a
  -- sound placing with the stretch one slot longer, all bounds set before it kept. b has the bounds set before the
  -- first
  unfoldable pub endings : (b : Bounds) → List (ℕ × Interval) → List EndedStretch
  endings b [] = []
  endings b (r ∷ rs) =
      let k : ℕ = r.0 in
      let v : Interval = r.1 in
      let c : Bounds = longer_stretch k v b in
      cond (ltb v.last slots) (record { blower = k; stretch = v; longer = c; cause = obstacle slots ds c.low c.high } ∷ []) []
      ++ endings (kept_stretch k v b) rs

  -- those of blowers k, k − 1, .., 1 as the method settles them, run by run: b has the bounds when the turn comes to
  -- blower k. A blower busy from slot 1 has the idle stretch, without slots, that ends at slot 0.
  unfoldable pub settled_endings : (k : ℕ) → Bounds → List EndedStretch
  settled_endings zero b = []
  settled_endings (suc k) b =
      endings b (map (λ v. (suc k, v)) (with_no_slots (settled_runs slots ds (suc k) slots 1 b))) ++ settled_endings k (settle slots ds (suc k) slots 1 b)
