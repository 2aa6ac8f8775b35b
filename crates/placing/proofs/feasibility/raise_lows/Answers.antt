-- `placing::feasibility::raise_lows` meets its contract. The words hold a sound placing under the lows passed. Assumes nothing.
use Rattle.std.proofs.Common.{◌≡◌, arith}
use Rattle.placing.specs.FeasibilitySteps.{raised_next, raised_not, raised_all}
use Rattle.placing.proofs.feasibility.raise_lows.Goals as goal

pub returns-then-not-busy : goal.returns-then-not-busy
returns-then-not-busy c = raised_not c.args.low.now c.requires.1 (omega arith) c.loop-t.invariant c.busy.ensures (c.if-not-busy.true)

pub loop-t-preserved : goal.loop-t-preserved
loop-t-preserved c = raised_next c.args.low.now c.requires.1 (omega arith) c.loop-t.invariant c.busy.ensures (c.if-not-busy.false)

pub returns : goal.returns
returns c = let e : c.loop-t.t ≡ c.args.slots = omega arith in raised_all c.args.low.now c.requires.1 e c.loop-t.invariant
