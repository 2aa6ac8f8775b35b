-- Lists of refusals: where one is empty, and that number 0 stands for the empty one alone. Assumes nothing.
use Rattle.std.specs.Prelude.{◌≡◌, refl, Bool, true, false, ◌||◌, not, ℕ, suc, ◌-◌, ◌%◌, ◌<◌, ltb, eqb, length}
use Rattle.std.proofs.Common.{ap, ap₂, arith}
use mathlib.Core.List.{List, [], ◌∷◌, ◌++◌, cons≢nil}
use Rattle.line.specs.Layout.{line_bytes}
use Rattle.line.specs.Line.{value_at}
use Rattle.checks.specs.declared.Refusal.{Refusal}
use Rattle.checks.specs.Limits.{max_bytes, max_slots, max_blowers, max_wake, max_rations}
use Rattle.checks.specs.Refusals.{bad_length, bad_form, bad_slots, bad_blowers, bad_wake, bad_rations, bad_tank, bad_window, bad_volume, bad_meal}
use Rattle.checks.specs.Sheet.{Job, Sheet, line_count, line_at, sheet_of}
use Rattle.checks.specs.Checks.{fault, first_refusal, outside, length_faults, first_faulty, form_faults, head_faults, tank_fault, window_fault, volume_fault, meal_fault, job_faults, jobs_faults, value_faults, faults}

pub fault_false : (number line : ℕ) {t : Bool} → t ≡ false → fault number line t ≡ []
fault_false number line e = ap (fault number line) e

pub false_fault : (number line : ℕ) (t : Bool) → fault number line t ≡ [] → t ≡ false
false_fault number line true e = absurd (cons≢nil e)
false_fault number line false e = refl

pub append_nil_nil : {xs ys : List Refusal} → xs ≡ [] → ys ≡ [] → xs ++ ys ≡ []
append_nil_nil e f = ap₂ (λ (xs ys : List Refusal). xs ++ ys) e f

pub append_nil_parts : (xs ys : List Refusal) → xs ++ ys ≡ [] → (xs ≡ []) × (ys ≡ [])
append_nil_parts [] ys e = (refl, e)
append_nil_parts (x ∷ xs) ys e = absurd (cons≢nil e)

-- Number 0 ---------------------------------------------------------------------------

-- no refusal has number 0, which stands for none
abbrev pub Numbered : List Refusal → Type 0
Numbered rs = (first_refusal rs).number ≡ 0 → rs ≡ []

pub numbered_append : (xs ys : List Refusal) → Numbered xs → Numbered ys → Numbered (xs ++ ys)
unfolding first_refusal
numbered_append [] ys h k e = k e
numbered_append (x ∷ xs) ys h k e = absurd (cons≢nil (h e))

pub numbered_fault : (number line : ℕ) (t : Bool) → 0 < number → Numbered (fault number line t)
unfolding first_refusal
numbered_fault number line true h e = absurd (omega arith)
numbered_fault number line false h e = refl

-- a refusal before others
pub numbered_before : (number line : ℕ) (t : Bool) {rs : List Refusal} → 0 < number → Numbered rs → Numbered (fault number line t ++ rs)
numbered_before number line t {rs} h k = numbered_append (fault number line t) rs (numbered_fault number line t h) k

pub numbered_head_faults : (s : Sheet) (n : ℕ) (agrees : Bool) → Numbered (head_faults s n agrees)
unfolding head_faults
numbered_head_faults s n agrees =
    numbered_before bad_slots 1 (outside 1 max_slots s.slots) (omega arith)
    (numbered_before bad_blowers 1 (outside 1 max_blowers s.blowers) (omega arith)
    (numbered_before bad_wake 1 (ltb max_wake s.wake) (omega arith) (numbered_fault bad_rations 1 (ltb max_rations n || not agrees) (omega arith))))

pub numbered_job_faults : (slots line before until : ℕ) (j : Job) → Numbered (job_faults slots line before until j)
unfolding job_faults
numbered_job_faults slots line before until j =
    numbered_before bad_tank line (tank_fault before j.tank) (omega arith)
    (numbered_before bad_window line (window_fault slots j.release j.deadline) (omega arith)
    (numbered_before bad_volume line (volume_fault j.release j.deadline j.volume) (omega arith)
    (numbered_fault bad_meal line (meal_fault before until j.tank j.release) (omega arith))))

pub numbered_jobs_faults : (slots line before until : ℕ) (js : List Job) → Numbered (jobs_faults slots line before until js)
unfolding jobs_faults
numbered_jobs_faults slots line before until [] = λ e. refl
numbered_jobs_faults slots line before until (j ∷ js) =
    numbered_append (job_faults slots line before until j) _ (numbered_job_faults slots line before until j) (numbered_jobs_faults slots (suc line) j.tank j.deadline js)

pub numbered_value_faults : (s : Sheet) (n : ℕ) (agrees : Bool) → Numbered (value_faults s n agrees)
unfolding value_faults
numbered_value_faults s n agrees = numbered_append (head_faults s n agrees) _ (numbered_head_faults s n agrees) (numbered_jobs_faults s.slots 2 0 0 s.jobs)

pub numbered_faults : (b : List ℕ) → Numbered (faults b)
unfolding faults length_faults form_faults
numbered_faults b =
    numbered_before bad_length 0 (outside line_bytes max_bytes (length b) || not (eqb (length b % line_bytes) 0)) (omega arith)
    (numbered_before bad_form (first_faulty b 0 (line_count b)) (ltb 0 (first_faulty b 0 (line_count b))) (omega arith)
    (numbered_value_faults (sheet_of b) (value_at (line_at b 0) 3) (eqb (value_at (line_at b 0) 3) (line_count b - 1))))
