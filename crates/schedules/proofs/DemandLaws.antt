-- The demands of a sheet: their windows are of the day, and where the sheet is accepted they are few and their volumes fit. Assumes nothing.
use Rattle.std.specs.Prelude.{◌≡◌, true, List, [], ◌∷◌, ℕ, zero, suc, ◌<◌, length, get_or}
use Rattle.std.proofs.Math.Path.{ap}
use Rattle.std.proofs.Common.{◌∙◌, arith}
use Rattle.std.proofs.lemmas.List.{length-map}
use Rattle.common.specs.Lists.{count}
use Rattle.checks.specs.Sheet.{Job, Sheet}
use Rattle.checks.specs.RangeLaws.{JobInRange, JobsInRange, ValuesInRange}
use Rattle.schedules.specs.Slots.{window}
use Rattle.schedules.specs.Schedules.{Windows, no_demand, window_of, volume_of}
use Rattle.schedules.specs.Demands.{demand_of, demands_of}
use Rattle.schedules.specs.Tabulate.{get_d_map_below}
use Rattle.schedules.proofs.WindowLaws.{length_window, count_window}
use Rattle.schedules.specs.DemandLaws.{no_job, DemandsInRange}

pub length_demands_of : (s : Sheet) → length (demands_of s) ≡ length s.jobs
unfolding demands_of
length_demands_of s = length-map s.jobs (demand_of s.slots)

module _ (s : Sheet) (j : ℕ) (l : j < length s.jobs) where
  pub demands_of_at : get_or (demands_of s) j no_demand ≡ demand_of s.slots (get_or s.jobs j no_job)
  unfolding demands_of
  demands_of_at = get_d_map_below (demand_of s.slots) s.jobs j no_demand no_job l

  pub window_of_demands_of : window_of (demands_of s) j ≡ window s.slots (get_or s.jobs j no_job).release (get_or s.jobs j no_job).deadline
  unfolding demand_of
  window_of_demands_of = ap (λ d. d.window) demands_of_at

  pub volume_of_demands_of : volume_of (demands_of s) j ≡ (get_or s.jobs j no_job).volume
  unfolding demand_of
  volume_of_demands_of = ap (λ d. d.volume) demands_of_at

-- each window says of each of the day's slots whether it is in it
pub windows_demands_of : (s : Sheet) → Windows s.slots (demands_of s)
windows_demands_of s =
    record {
      all_day = λ j l.
          ap length (window_of_demands_of s j (rw (length_demands_of s) at l))
          ∙ length_window s.slots (get_or s.jobs j no_job).release (get_or s.jobs j no_job).deadline;
    }

-- rations in range, by place
pub jobs_in_range_at : (least slots before until : ℕ) (js : List Job) → JobsInRange least slots before until js → (j : ℕ) → j < length js
    → (tank : ℕ) × (last : ℕ) × JobInRange least slots tank last (get_or js j no_job)
jobs_in_range_at least slots before until [] h j l = absurd (omega arith)
jobs_in_range_at least slots before until (x ∷ js) h zero l = (before, until, h.0)
jobs_in_range_at least slots before until (x ∷ js) h (suc j) l = jobs_in_range_at least slots x.tank x.deadline js h.1 j (omega arith)

pub demands_of_in_range : {least : ℕ} (s : Sheet) → ValuesInRange least s (length s.jobs) true → DemandsInRange s.slots (demands_of s)
demands_of_in_range {least} s v =
    record {
      short = v.head.slots.le;
      few = omega (arith, length_demands_of s, v.head.rations);
      windows = windows_demands_of s;
      fits = λ j l.
          let k = rw (length_demands_of s) at l in
          let r = (jobs_in_range_at least s.slots 0 0 s.jobs v.jobs j k).2 in
          omega (
            arith,
            volume_of_demands_of s j k,
            ap count (window_of_demands_of s j k),
            count_window s.slots (get_or s.jobs j no_job).release (get_or s.jobs j no_job).deadline r.release r.deadline,
            r.volume.le,
          );
      small = λ j l.
          let k = rw (length_demands_of s) at l in
          let r = (jobs_in_range_at least s.slots 0 0 s.jobs v.jobs j k).2 in
          omega (arith, volume_of_demands_of s j k, r.volume.le, r.deadline, r.release, v.head.slots.le);
    }
