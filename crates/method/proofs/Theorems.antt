-- The main facts of this layer, (a) to (f), for every day whose windows and bounds have an entry for each slot and that
-- has a sound placing. Here are the statements; the law files have the proofs. Assumes nothing.
use Rattle.std.specs.Prelude.{◌≡◌, ◌↔◌, Bool, not, ℕ, suc, ◌-◌, ◌≤◌, ◌<◌, length, get_or, replicate}
use Rattle.std.proofs.Common.{◌∙◌, ap, arith}
use Rattle.std.proofs.Math.Bool.{true, false}
use mathlib.Core.List.{List, Memᴰ}
use Rattle.std.proofs.lemmas.List.{length-replicate, get_or-replicate}
use Rattle.schedules.specs.Schedules.{Demand, Schedule, Sound, Windows, load, feasible}
use Rattle.method.specs.Method.{Bounds, day_bounds, FeasibleDay, idle_for, busy_for, feasible_under, idle_run, busy_run, settle, settle_all, loads}
use Rattle.method.specs.Intervals.{Interval, intervals, busy_in, LongestRun}
use Rattle.method.specs.Keeping.{Keeps, stretches, StretchesStop}
use Rattle.method.specs.SettledRuns.{settled_runs, bounds_at_turn}
use Rattle.method.specs.Endings.{EndedStretch, in_order, endings, Explained}
use Rattle.method.specs.Slotwise.{keep_at, settle_from, settle_each}
use Rattle.method.specs.Worded.{settle_all_worded, runs_worded, bounds_worded}
use Rattle.method.proofs.WordedLaws.{settle_all_worded_lem, runs_worded_lem, day_least}
use Rattle.method.proofs.LongestLaws.{longest_passes, le_longest}
use Rattle.method.proofs.StepLaws.{possible_sound, tighter_sound, other_possible}
use Rattle.method.proofs.KeepForLaws.{keep_for_none}
use Rattle.method.proofs.SlotwiseLaws.{settle_slotwise}
use Rattle.method.proofs.SettleLaws as Settle
use Rattle.method.proofs.SettledRunsLaws as Runs
use Rattle.method.proofs.KeepingLaws as Keep
use Rattle.method.proofs.EndingLaws as Ends
use Rattle.method.proofs.IntervalLaws.{interval_longest}

-- A day that is not held can be planned: its bounds, low 0 and high m, are such as the theorems ask for.
pub day_possible : (slots m : ℕ) (ds : List Demand) → feasible slots ds (replicate slots 0) (replicate slots m) ≡ true → FeasibleDay slots ds (day_bounds slots m)
day_possible slots m ds e = record {
  sized = record { each_low = length-replicate slots 0; each_high = length-replicate slots m };
  possible = e;
}

pub day_high : (slots m t : ℕ) → t < slots → get_or (day_bounds slots m).high t 0 ≤ m
day_high slots m t l = omega (arith, get_or-replicate slots t m 0 l)

-- The method with its idle step worded as in document 01, high set to k − 1, is this method on the bounds that a day
-- begins with.
pub settled_as_worded : (slots m : ℕ) (ds : List Demand) → settle_all_worded slots ds m (day_bounds slots m) ≡ settle_all slots ds m (day_bounds slots m)
settled_as_worded slots m ds = settle_all_worded_lem slots ds m (day_bounds slots m) (day_least slots ds m)

-- The runs that it takes when it comes to a blower are the same, too.
pub runs_as_worded : (slots m : ℕ) (ds : List Demand) (k : ℕ) → k ≤ m → let b = day_bounds slots m in
    runs_worded slots ds k slots 1 (bounds_worded slots ds m k b) ≡ settled_runs slots ds k slots 1 (bounds_at_turn slots ds m k b)
runs_as_worded slots m ds k l = runs_worded_lem slots ds m k l

module _ {slots : ℕ} {ds : List Demand} (w : Windows slots ds) {b : Bounds} (h : FeasibleDay slots ds b) where
  -- (a) A run that the method takes is possible, and it is the longest.
  module _ (k t : ℕ) where
    pub idle_run_possible : feasible_under slots ds (idle_for k t b (idle_run slots ds k t b)) ≡ true
    unfolding idle_run
    idle_run_possible =
        longest_passes (λ n. feasible_under slots ds (idle_for k t b n)) (ap (feasible_under slots ds) (keep_for_none k false t b) ∙ h.possible) (suc slots - t)

    pub idle_run_longest : (n : ℕ) → n ≤ suc slots - t → feasible_under slots ds (idle_for k t b n) ≡ true → n ≤ idle_run slots ds k t b
    unfolding idle_run
    idle_run_longest = le_longest (λ n. feasible_under slots ds (idle_for k t b n)) (suc slots - t)

    pub busy_run_possible : feasible_under slots ds (busy_for k t b (busy_run slots ds k t b)) ≡ true
    unfolding busy_run
    busy_run_possible =
        longest_passes (λ n. feasible_under slots ds (busy_for k t b n)) (ap (feasible_under slots ds) (keep_for_none k true t b) ∙ h.possible) (suc slots - t)

    pub busy_run_longest : (n : ℕ) → n ≤ suc slots - t → feasible_under slots ds (busy_for k t b n) ≡ true → n ≤ busy_run slots ds k t b
    unfolding busy_run
    busy_run_longest = le_longest (λ n. feasible_under slots ds (busy_for k t b n)) (suc slots - t)

  -- (b) One slot more at a time settles the same: where a blower cannot stay as it is, idle or busy, it can change
  -- over. (A step of the slotwise form, by the answer for one slot: `settle_from_stays` and `settle_from_changes` of
  -- StepLaws.antt.)
  pub can_change : (k : ℕ) (busy : Bool) (t : ℕ) → t < slots → feasible_under slots ds (keep_at k busy t b) ≡ false
      → feasible_under slots ds (keep_at k (not busy) t b) ≡ true
  can_change k busy t l = other_possible w k busy t h l

  pub settle_is_slotwise : (k : ℕ) → settle slots ds k slots 1 b ≡ settle_from slots ds k false slots 0 b
  settle_is_slotwise k = settle_slotwise w k h

  pub settle_all_is_slotwise : (m : ℕ) → settle_all slots ds m b ≡ settle_each slots ds m b
  settle_all_is_slotwise m = Settle.settle_all_slotwise w m h

  module _ (m : ℕ) where
    -- (c) Settling keeps a sound placing.
    pub settle_all_possible : FeasibleDay slots ds (settle_all slots ds m b)
    settle_all_possible = rw (settle_all_is_slotwise m) (Settle.settle_each_possible w m h)

    pub length_loads : length (loads slots ds m b) ≡ slots
    unfolding loads
    length_loads = settle_all_possible.sized.each_low

    module _ (below : (t : ℕ) → t < slots → get_or b.high t 0 ≤ m) where
      -- At the end low equals high in each slot, where no high began above the number of blowers.
      pub low_is_high : (settle_all slots ds m b).low ≡ (settle_all slots ds m b).high
      low_is_high = rw (settle_all_is_slotwise m) (Settle.settled_low_high w m h below)

      -- The counts are the loads of a sound placing: one that is sound under the settled bounds, and every such placing
      -- has these loads.
      pub settled_loads : (p : Schedule) → Sound slots ds (settle_all slots ds m b).low (settle_all slots ds m b).high p → load slots p ≡ loads slots ds m b
      unfolding loads
      settled_loads p s = Settle.sound_load w {c = settle_all slots ds m b} settle_all_possible.sized low_is_high s

      pub loads_sound : (p : Schedule) × Sound slots ds b.low b.high p × (load slots p ≡ loads slots ds m b)
      loads_sound =
          let r = possible_sound w settle_all_possible in
          (r.0, tighter_sound (rw (settle_all_is_slotwise m) (Settle.settle_each_tighter w m b)) r.1, settled_loads r.0 r.1)

      pub loads_between : (t : ℕ) → t < slots → (get_or b.low t 0 ≤ get_or (loads slots ds m b) t 0) × (get_or (loads slots ds m b) t 0 ≤ get_or b.high t 0)
      loads_between t l = rw loads_sound.2 at (loads_sound.1.bounded t l)

      pub loads_feasible : feasible slots ds (loads slots ds m b) (loads slots ds m b) ≡ true
      unfolding loads
      loads_feasible = rw (← low_is_high) at settle_all_possible.possible

    -- (d) The stretches read off the counts are the runs that the method took when it came to that blower. (By
    -- `interval_is_longest_run` below they are the longest runs of slots in which the blower is busy, or idle,
    -- throughout.)
    pub intervals_are_settled : (k : ℕ) → 1 ≤ k → k ≤ m
        → intervals (loads slots ds m b) k ≡ settled_runs slots ds k slots 1 (bounds_at_turn slots ds m k b)
    intervals_are_settled = Runs.intervals_settled w m h

    -- (e) Demand 3: no stretch that stops could have gone on.
    pub stretches_stop : StretchesStop slots m ds b.low b.high (loads slots ds m b)
    stretches_stop = rw loads_are (λ k v o l i e p q c s. Keep.stretch_stops w m h s k o l v i e q c)
      where
        loads_are : loads slots ds m b ≡ (settle_each slots ds m b).low
        loads_are = Settle.loads_slotwise w m h

    -- (f) Every stretch that ends before the last slot has its cause, and it is the true one.
    pub stretches_explained : (e : EndedStretch) → Memᴰ e (endings slots ds b (in_order (stretches (loads slots ds m b)) m)) → Explained slots ds e
    stretches_explained = Ends.endings_explained w m h

-- Stretches as they are read off any counts -----------------------------------

-- The stretches of blower k are exactly the longest runs of slots in which it is busy or idle throughout.
pub interval_is_longest_run : (counts : List ℕ) (k : ℕ) (v : Interval)
    → Memᴰ v (intervals counts k) ↔ LongestRun (busy_in counts k) (length counts) 0 v
interval_is_longest_run = interval_longest

-- Placings with the counts keep every stretch.
pub counts_keep : (slots : ℕ) (counts : List ℕ) (p : Schedule) → load slots p ≡ counts → (k : ℕ) (v : Interval) → Memᴰ v (stretches counts k)
    → Keeps (load slots p) k v
counts_keep slots counts p e k v m = rw e (Keep.stretch_kept counts k v m)
