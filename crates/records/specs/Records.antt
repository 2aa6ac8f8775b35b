-- The sheet that a list of records makes. Definitions only. Assumes nothing.
use Rattle.std.specs.Prelude.{true, List, map, ℕ, length}
use Rattle.checks.specs.declared.Refusal.{Refusal}
use Rattle.checks.specs.Sheet.{Job, Sheet}
use Rattle.checks.specs.Checks.{value_faults}
use Rattle.records.specs.declared.Ration.{Ration}

-- the job that a record stands for
unfoldable pub job_of : Ration → Job
job_of r = record { tank = r.tank; release = r.first; deadline = r.last; volume = r.volume }

-- the sheet of head numbers and records: a ration for each record, in their order
unfoldable pub record_sheet : ℕ → ℕ → ℕ → List Ration → Sheet
record_sheet slots blowers wake rations = record { slots = slots; blowers = blowers; wake = wake; jobs = map job_of rations }

-- 3 to 9 and 13: n is the number of records, and so never differs from it
unfoldable pub record_faults : Sheet → List Refusal
record_faults s = value_faults s (length s.jobs) true

-- how many records are looked at: one more than a sheet may have, which is enough for a refusal by 6
abbrev pub taken_most : ℕ
taken_most = 65
