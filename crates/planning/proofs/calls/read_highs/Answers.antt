-- `planning::calls::read_highs` meets its contract. Assumes nothing.
use mathlib.Core.Path.{refl}
use Rattle.common.specs.Buffers.{padded}
use Rattle.sheet.specs.Calls.{refused}
use Rattle.planning.proofs.calls.read_highs.Goals as goal

pub returns-in-Err : goal.returns-in-Err
unfolding refused padded
returns-in-Err c = rw c.in-Err.is refl
