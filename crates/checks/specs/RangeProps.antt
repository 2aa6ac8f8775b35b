-- That the values of a sheet are in range can be shown in one way only, so that a type may keep the fact. Assumes
-- nothing.
use Rattle.std.specs.Prelude.{List, [], ◌∷◌, ℕ}
use Rattle.std.specs.Coded.{×_prop, Unit-prop}
use Rattle.std.proofs.Props.{props}
use Rattle.checks.specs.Sheet.{Job}
use Rattle.checks.specs.RangeLaws.{JobInRange, JobsInRange}

job_in_range_prop : (least slots before until : ℕ) (j : Job) → IsProp (JobInRange least slots before until j)
job_in_range_prop least slots before until j = hlevel props

pub jobs_in_range_prop : (least slots before until : ℕ) (js : List Job) → IsProp (JobsInRange least slots before until js)
jobs_in_range_prop least slots before until [] = Unit-prop
jobs_in_range_prop least slots before until (j ∷ js) =
    ×_prop (job_in_range_prop least slots before until j) (jobs_in_range_prop least slots j.tank j.deadline js)
