-- What the numbers of an accepted sheet are. Definitions only. Assumes nothing.
use Rattle.std.specs.Prelude.{◌≡◌, true, List, ℕ, ◌*◌, take}
use Rattle.std.proofs.Props.{props}
use Rattle.common.specs.Buffers.{padded}
use Rattle.line.specs.Layout.{fields}
use Rattle.checks.specs.Limits.{max_rations}
use Rattle.checks.specs.Sheet.{Sheet, sheet_from}
use Rattle.checks.specs.RangeLaws.{ValuesInRange}
use Rattle.checks.specs.RangeProps.{jobs_in_range_prop}

-- the sheet of these numbers, without the zeros past its rations
abbrev pub sheet_with : (slots blowers wake rations : ℕ) (numbers : List ℕ) → Sheet
sheet_with slots blowers wake rations numbers = sheet_from slots blowers wake (take (fields * rations) numbers)

-- they are in range, and zeros follow those of the rations. A volume may be 0: those of a sheet as it is lent are not,
-- but one that is cut may be.
pub record IsAccepted (slots blowers wake rations : ℕ) (numbers : List ℕ) : Type 0 where
  pub values : ValuesInRange 0 (sheet_with slots blowers wake rations numbers) rations true
  pub padding : numbers ≡ padded (fields * max_rations) (take (fields * rations) numbers)

pub is_accepted_prop : (slots blowers wake rations : ℕ) (numbers : List ℕ) → IsProp (IsAccepted slots blowers wake rations numbers)
is_accepted_prop slots blowers wake rations numbers = hlevel (props, jobs_in_range_prop)
