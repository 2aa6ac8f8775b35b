-- What the functions under the call `bounds` require and ensure. Definitions only. Assumes nothing.
use Rattle.std.specs.Prelude.{◌≡◌, Bool, false, Result, Ok, Err, List, ℕ, ◌≤◌, ◌<◌, length, get_or}
use Rattle.checks.specs.declared.Refusal.{Refusal}
use Rattle.sheet.specs.declared.Reading.{Reading}
use Rattle.checks.specs.Limits.{max_slots, max_blowers}
use Rattle.checks.specs.Sheet.{Sheet}
use Rattle.sheet.specs.OwnChecks.{ReadFrom}
use Rattle.questions.specs.declared.BoundsAnswer.{BoundsAnswer}
use Rattle.questions.specs.Calls.{bounds_for}

-- lows that a byte can hold
pub record SmallLows (lows : List ℕ) : Type 0 where
  pub short : length lows ≤ max_slots
  pub small : (t : ℕ) → t < length lows → get_or lows t 0 ≤ max_blowers

-- a yes or no, or the refusal, as an answer
abbrev pub as_bounds : Result Bool Refusal → BoundsAnswer
as_bounds (Ok possible) = record { number = 0; line = 0; yes = possible }
as_bounds (Err r) = record { number = r.number; line = r.line; yes = false }

-- the answer is that of whatever sheet was read
abbrev pub ReadBounds : Reading → (lows highs : List ℕ) → BoundsAnswer → Type 0
ReadBounds r lows highs a = (own : List Refusal) (s : Sheet) → ReadFrom own s r → a ≡ bounds_for own s lows highs
