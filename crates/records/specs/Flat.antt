-- Records as flat numbers, and the sheet that these make. Definitions only. Assumes nothing.
use Rattle.std.specs.Prelude.{◌≡◌, List, map, ℕ, zero, suc, ◌+◌, ◌*◌, ◌≤◌, length, get_or, take, set, replicate}
use Rattle.line.specs.Layout.{fields}
use Rattle.checks.specs.Sheet.{Sheet, numbers_of, sheet_from}
use Rattle.common.specs.Buffers.{padded}
use Rattle.records.specs.declared.Ration.{Ration}
use Rattle.records.specs.declared.Flat.{Flat}
use Rattle.records.specs.Records.{job_of, taken_most}

-- the first records of a list, and zeros past them
unfoldable pub flat_of : List Ration → Flat
flat_of rs = record { count = length (take taken_most rs); numbers = padded (fields * taken_most) (numbers_of (map job_of (take taken_most rs))) }

-- the sheet of the numbers of so many rations
unfoldable pub flat_sheet : ℕ → ℕ → ℕ → Flat → Sheet
flat_sheet slots blowers wake f = sheet_from slots blowers wake (take (fields * f.count) f.numbers)

-- what a function over flat numbers asks of them
pub record IsFlat (f : Flat) : Type 0 where
  pub few : f.count ≤ taken_most
  pub long : length f.numbers ≡ fields * taken_most

-- One record after another -----------------------------------------------------

unfoldable pub empty_flat : Flat
empty_flat = record { count = 0; numbers = replicate (fields * taken_most) 0 }

-- four numbers stored after those of the records before
unfoldable pub added : Flat → Ration → Flat
added f r =
    let at : ℕ = fields * f.count in
    record {
      count = f.count + 1;
      numbers = set (set (set (set f.numbers at r.tank) (at + 1) r.first) (at + 2) r.last) (at + 3) r.volume;
    }

-- what stands for an element past a list's end
abbrev pub no_ration : Ration
no_ration = record { tank = 0; first = 0; last = 0; volume = 0 }

unfoldable pub taken_to : ℕ → List Ration → Flat
taken_to zero rs = empty_flat
taken_to (suc i) rs = added (taken_to i rs) (get_or rs i no_ration)
