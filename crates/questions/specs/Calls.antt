-- The calls for outsiders: what each answers to a sheet under whatever checks are made of it alone, and to a sheet's
-- bytes. Definitions only. Assumes nothing.
use Rattle.std.specs.Prelude.{Bool, ◌&&◌, ◌||◌, not, cond, List, map, ℕ, min, eqb, length, ℤ, pos}
use Rattle.checks.specs.declared.Refusal.{Refusal}
use Rattle.checks.specs.Sheet.{Sheet, sheet_of}
use Rattle.checks.specs.Checks.{first_refusal, faults}
use Rattle.checks.specs.CallChecks.{question_checks}
use Rattle.marks.specs.Marks.{marked, marks_fault}
use Rattle.questions.specs.declared.ShortfallAnswer.{ShortfallAnswer}
use Rattle.questions.specs.declared.BoundsAnswer.{BoundsAnswer}
use Rattle.schedules.specs.Schedules.{feasible}
use Rattle.schedules.specs.Shortfall.{shortfall}
use Rattle.schedules.specs.Demands.{demands_of, full_high}

-- shortfall -------------------------------------------------------------------

-- the checks of the sheet alone, then 11
unfoldable pub marks_refusal : List Refusal → Sheet → List ℕ → Refusal
marks_refusal own s marks = first_refusal (question_checks own (marks_fault s.slots marks))

-- the shortfall of the marked slots of a sheet, under the bounds without further word
unfoldable pub sheet_shortfall : Sheet → List ℕ → ℤ
sheet_shortfall s marks = shortfall (demands_of s) (full_high s) (marked marks)

-- number, line, and the shortfall; 0 on any refusal
unfoldable pub shortfall_for : List Refusal → Sheet → List ℕ → ShortfallAnswer
shortfall_for own s marks =
    let r : Refusal = marks_refusal own s marks in
    record {
      number = r.number;
      line = r.line;
      shortfall = cond (eqb r.number 0) (sheet_shortfall s marks) (pos 0);
    }

-- of a sheet's bytes: 1 to 9 and 13, then 11
unfoldable pub shortfall_of : List ℕ → List ℕ → ShortfallAnswer
shortfall_of b marks = shortfall_for (faults b) (sheet_of b) marks

-- bounds ----------------------------------------------------------------------

-- 11: a list is not D long
unfoldable pub bounds_fault : ℕ → List ℕ → List ℕ → Bool
bounds_fault slots lows highs = not (eqb (length lows) slots) || not (eqb (length highs) slots)

-- the checks of the sheet alone, then 11
unfoldable pub bounds_refusal : List Refusal → Sheet → List ℕ → List ℕ → Refusal
bounds_refusal own s lows highs = first_refusal (question_checks own (bounds_fault s.slots lows highs))

-- a high above m is read as m
unfoldable pub cut_highs : ℕ → List ℕ → List ℕ
cut_highs blowers = map (min blowers)

-- a sound placing of a sheet's rations exists under these lows and highs
unfoldable pub sheet_feasible : Sheet → List ℕ → List ℕ → Bool
sheet_feasible s lows highs = feasible s.slots (demands_of s) lows (cut_highs s.blowers highs)

-- number, line, and yes or no; no on any refusal
unfoldable pub bounds_for : List Refusal → Sheet → List ℕ → List ℕ → BoundsAnswer
bounds_for own s lows highs =
    let r : Refusal = bounds_refusal own s lows highs in
    record { number = r.number; line = r.line; yes = eqb r.number 0 && sheet_feasible s lows highs }

-- of a sheet's bytes: 1 to 9 and 13, then 11
unfoldable pub bounds_of : List ℕ → List ℕ → List ℕ → BoundsAnswer
bounds_of b lows highs = bounds_for (faults b) (sheet_of b) lows highs
