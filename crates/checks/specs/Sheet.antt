-- The sheet: its lines, its rations, and its text. Definitions only.
use Rattle.std.specs.Prelude.{List, [], ◌∷◌, ◌++◌, map, ℕ, ◌-◌, ◌*◌, ◌/◌, length, take, drop}
use Rattle.common.specs.Lists.{range, flat_map}
use Rattle.line.specs.Layout.{line_bytes}
use Rattle.line.specs.Line.{value_at, write_line}

-- A job: a ration of the sheet.
pub record Job : Type 0 where
  pub tank : ℕ
  pub release : ℕ  -- first slot of the window
  pub deadline : ℕ  -- last slot of the window
  pub volume : ℕ  -- slots to be fed in

-- The numbers of a sheet.
pub record Sheet : Type 0 where
  pub slots : ℕ  -- D
  pub blowers : ℕ  -- m
  pub wake : ℕ  -- q, the wake cost
  pub jobs : List Job  -- the rations, in sheet order

-- Reading --------------------------------------------------------------------

unfoldable pub line_count : List ℕ → ℕ
line_count b = length b / line_bytes

-- line i of the sheet, from 0: the head line
unfoldable pub line_at : List ℕ → ℕ → List ℕ
line_at b i = take line_bytes (drop (line_bytes * i) b)

-- the ration on line i
unfoldable pub job_at : List ℕ → ℕ → Job
job_at b i =
    record {
      tank = value_at (line_at b i) 0;
      release = value_at (line_at b i) 1;
      deadline = value_at (line_at b i) 2;
      volume = value_at (line_at b i) 3;
    }

-- the sheet's numbers: the head line's, and a ration for each line after it
unfoldable pub sheet_of : List ℕ → Sheet
sheet_of b =
    record {
      slots = value_at (line_at b 0) 0;
      blowers = value_at (line_at b 0) 1;
      wake = value_at (line_at b 0) 2;
      jobs = map (job_at b) (range 1 (line_count b - 1));
    }

-- Writing --------------------------------------------------------------------

unfoldable pub write_job : Job → List ℕ
write_job j = write_line j.tank j.release j.deadline j.volume

-- the sheet's text
unfoldable pub write_sheet : Sheet → List ℕ
write_sheet s = write_line s.slots s.blowers s.wake (length s.jobs) ++ flat_map write_job s.jobs

-- Rations as flat numbers, four for each --------------------------------------

abbrev pub job_numbers : Job → List ℕ
job_numbers j = j.tank ∷ j.release ∷ j.deadline ∷ j.volume ∷ []

unfoldable pub numbers_of : List Job → List ℕ
numbers_of = flat_map job_numbers

-- .. of the first n of rations that are given by their places, from 1
abbrev pub numbers_to : (ℕ → Job) → ℕ → List ℕ
numbers_to job n = numbers_of (map job (range 1 n))

-- the rations that flat numbers stand for; what is left of fewer than four stands for none
unfoldable pub jobs_of : List ℕ → List Job
jobs_of [] = []
jobs_of (a ∷ []) = []
jobs_of (a ∷ b ∷ []) = []
jobs_of (a ∷ b ∷ c ∷ []) = []
jobs_of (a ∷ b ∷ c ∷ d ∷ xs) = record { tank = a; release = b; deadline = c; volume = d } ∷ jobs_of xs

-- the sheet of head numbers and flat rations
unfoldable pub sheet_from : ℕ → ℕ → ℕ → List ℕ → Sheet
sheet_from slots blowers wake numbers = record { slots = slots; blowers = blowers; wake = wake; jobs = jobs_of numbers }
