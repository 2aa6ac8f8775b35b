-- The numbers that the functions within the crate are given, as a sheet and as a job. Definitions only.
use Rattle.std.specs.Prelude.{[], ℕ}
use Rattle.checks.specs.Sheet.{Job, Sheet}

-- the head line's numbers alone
abbrev pub head : ℕ → ℕ → ℕ → Sheet
head slots blowers wake = record { slots = slots; blowers = blowers; wake = wake; jobs = [] }

abbrev pub job : ℕ → ℕ → ℕ → ℕ → Job
job tank release deadline volume = record { tank = tank; release = release; deadline = deadline; volume = volume }
