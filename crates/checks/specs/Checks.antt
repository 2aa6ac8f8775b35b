-- The checks 1 to 9 of "Sheets held" and 13 of request 102, in their order. Each gives its refusal where its fault is there, and the first refusal is the answer.
-- Definitions only.
use Rattle.std.specs.Prelude.{Bool, true, false, ◌&&◌, ◌||◌, not, cond, List, [], ◌∷◌, ◌++◌, ℕ, zero, suc, ◌-◌, ◌*◌, ◌%◌, leb, ltb, eqb, length}
use Rattle.line.specs.Layout.{line_bytes, fields}
use Rattle.line.specs.Line.{value_at, faulty_line}
use Rattle.checks.specs.declared.Refusal.{Refusal}
use Rattle.checks.specs.Limits.{max_bytes, max_slots, max_blowers, max_wake, max_rations, max_tank}
use Rattle.checks.specs.Refusals.{bad_length, bad_form, bad_slots, bad_blowers, bad_wake, bad_rations, bad_tank, bad_window, bad_volume, bad_meal}
use Rattle.checks.specs.Sheet.{Job, Sheet, line_count, line_at, sheet_of}

-- the refusal with this number and this line, where the fault is there
abbrev pub fault : ℕ → ℕ → Bool → List Refusal
fault number line true = record { number = number; line = line } ∷ []
fault number line false = []

-- the first refusal; number 0, line 0 where there is none
unfoldable pub first_refusal : List Refusal → Refusal
first_refusal [] = record { number = 0; line = 0 }
first_refusal (r ∷ rs) = r

unfoldable pub outside : ℕ → ℕ → ℕ → Bool
outside a b x = ltb x a || ltb b x

-- 1: the length
unfoldable pub length_faults : List ℕ → List Refusal
length_faults b = fault bad_length 0 (outside line_bytes max_bytes (length b) || not (eqb (length b % line_bytes) 0))

-- the first faulty line among n lines from line i (from 0) on, by its number from 1; 0 where there is none
unfoldable pub first_faulty : List ℕ → ℕ → ℕ → ℕ
first_faulty b i zero = 0
first_faulty b i (suc n) = cond (faulty_line (line_at b i)) (suc i) (first_faulty b (suc i) n)

-- 2: the first line that holds a faulty field
unfoldable pub form_faults : List ℕ → List Refusal
form_faults b = fault bad_form (first_faulty b 0 (line_count b)) (ltb 0 (first_faulty b 0 (line_count b)))

-- 3 to 6: the head line's numbers, with n rations announced on it, which agrees with the ration lines or not
unfoldable pub head_faults : Sheet → ℕ → Bool → List Refusal
head_faults s n agrees =
    fault bad_slots 1 (outside 1 max_slots s.slots)
    ++ (fault bad_blowers 1 (outside 1 max_blowers s.blowers)
    ++ (fault bad_wake 1 (ltb max_wake s.wake)
    ++ fault bad_rations 1 (ltb max_rations n || not agrees)))

-- 7: a tank outside 1 to 250,000, or below the tank before it (0 before the first)
unfoldable pub tank_fault : ℕ → ℕ → Bool
tank_fault before tank = outside 1 max_tank tank || ltb tank before

-- 8: a window that breaks 1 ≤ first ≤ last ≤ D
unfoldable pub window_fault : ℕ → ℕ → ℕ → Bool
window_fault slots release deadline = not (leb 1 release && (leb release deadline && leb deadline slots))

-- 9: a volume that is 0 or above the window's length
unfoldable pub volume_fault : ℕ → ℕ → ℕ → Bool
volume_fault release deadline volume = eqb volume 0 || ltb (suc deadline - release) volume

-- 13: the tank of the line before again, with a window that begins at or before the last slot of the window there, `until`
unfoldable pub meal_fault : ℕ → ℕ → ℕ → ℕ → Bool
meal_fault before until tank release = eqb tank before && leb release until

-- 7 to 9, then 13, of the ration on this line, after the tank and the last slot of the one before it
unfoldable pub job_faults : ℕ → ℕ → ℕ → ℕ → Job → List Refusal
job_faults slots line before until j =
    fault bad_tank line (tank_fault before j.tank)
    ++ (fault bad_window line (window_fault slots j.release j.deadline)
    ++ (fault bad_volume line (volume_fault j.release j.deadline j.volume)
    ++ fault bad_meal line (meal_fault before until j.tank j.release)))

-- line by line
unfoldable pub jobs_faults : ℕ → ℕ → ℕ → ℕ → List Job → List Refusal
jobs_faults slots line before until [] = []
jobs_faults slots line before until (j ∷ js) = job_faults slots line before until j ++ jobs_faults slots (suc line) j.tank j.deadline js

-- 3 to 9 and 13: the head line is line 1, and the first ration's is line 2, with no tank before it
unfoldable pub value_faults : Sheet → ℕ → Bool → List Refusal
value_faults s n agrees = head_faults s n agrees ++ jobs_faults s.slots 2 0 0 s.jobs

-- .. of flat numbers, which are those of n rations or disagree with it
abbrev pub flat_faults : Sheet → ℕ → List ℕ → List Refusal
flat_faults s n numbers = value_faults s n (eqb (fields * n) (length numbers))

-- 1 to 9 and 13, of a sheet's bytes
unfoldable pub faults : List ℕ → List Refusal
faults b =
    let n : ℕ = value_at (line_at b 0) 3 in
    length_faults b ++ (form_faults b ++ value_faults (sheet_of b) n (eqb n (line_count b - 1)))
