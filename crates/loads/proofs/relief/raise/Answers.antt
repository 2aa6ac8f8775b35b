-- `loads::relief::raise` meets its contract: `lower` on the exchanged words. Assumes nothing.
use Rattle.std.proofs.Common.{arith}
use Rattle.loads.specs.ExchangeLaws.{raised_wide}
use Rattle.loads.proofs.relief.raise.Goals as goal

pub returns : goal.returns
returns c = let w = c.width.ensures in let s = c.in-Some.ensures in
    raised_wide c.requires (omega (arith, w.0, s.0)) (rw (s.1, w.0) at c.lower.ensures)
