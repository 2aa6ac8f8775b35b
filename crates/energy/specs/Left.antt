-- The stretches of a blower that are left. Definitions only. Assumes nothing.
use Rattle.std.specs.Prelude.{List, map, ℕ, length}
use Rattle.method.specs.FrontRunLaws.{stretches_from}
use Rattle.energy.specs.Listed.{ListedStretch}
use Rattle.energy.specs.Energy.{listed}
use Rattle.energy.specs.declared.iterating.Stretches.{Stretches}

-- those that begin after slot `from`
abbrev pub left : Stretches → List ListedStretch
left s =
    let slots : ℕ = length s.day.counts.now in
    map (listed slots s.day.wake s.blower) (stretches_from s.day.counts.now slots s.blower s.from)
