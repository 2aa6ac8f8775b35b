-- What the functions under the call `shortfall` require and ensure. Definitions only. Assumes nothing.
use Rattle.std.specs.Prelude.{◌≡◌, Result, Ok, Err, ℤ, pos, List, ℕ, ◌-◌, ◌*◌, ◌≤◌, ◌<◌, length}
use Rattle.line.specs.Layout.{fields}
use Rattle.checks.specs.Limits.{max_slots, max_rations}
use Rattle.placing.specs.Rations.{release_at, deadline_at, volume_at}
use Rattle.checks.specs.declared.Refusal.{Refusal}
use Rattle.sheet.specs.declared.Reading.{Reading}
use Rattle.checks.specs.Sheet.{Sheet}
use Rattle.sheet.specs.OwnChecks.{ReadFrom}
use Rattle.questions.specs.declared.ShortfallAnswer.{ShortfallAnswer}
use Rattle.questions.specs.Calls.{shortfall_for}
use Rattle.marks.specs.Counts.{unmarked_in}
use Rattle.marks.specs.Parts.{CanCount}
use Rattle.theory.specs.Sums.{sum}

-- what ration j, from 0, is forced to feed in the marked slots
abbrev pub forced_at : (before numbers : List ℕ) → ℕ → ℕ
forced_at before numbers j = volume_at numbers j - unmarked_in before (release_at numbers j) (deadline_at numbers j)

-- what n rations are forced to feed there
unfoldable pub forced_by : (before : List ℕ) (n : ℕ) (numbers : List ℕ) → ℕ
forced_by before n numbers = sum n (forced_at before numbers)

-- n rations with windows whose marks the counts give
pub record CanForce (before : List ℕ) (n : ℕ) (numbers : List ℕ) : Type 0 where
  pub few : n ≤ max_rations
  pub long : length numbers ≡ fields * max_rations
  pub small : (j : ℕ) → j < n → volume_at numbers j ≤ max_slots
  pub windows : (j : ℕ) → j < n → CanCount before (release_at numbers j) (deadline_at numbers j)

-- a shortfall, or the refusal, as an answer
abbrev pub as_shortfall : Result ℤ Refusal → ShortfallAnswer
as_shortfall (Ok x) = record { number = 0; line = 0; shortfall = x }
as_shortfall (Err r) = record { number = r.number; line = r.line; shortfall = pos 0 }

-- the answer is that of whatever sheet was read
abbrev pub ReadShortfall : Reading → List ℕ → ShortfallAnswer → Type 0
ReadShortfall r marks a = (own : List Refusal) (s : Sheet) → ReadFrom own s r → a ≡ shortfall_for own s marks
