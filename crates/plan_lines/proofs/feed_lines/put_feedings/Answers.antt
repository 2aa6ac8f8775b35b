-- `plan_lines::feed_lines::put_feedings` meets its contract. The lines put, with those of the slots that are left, are
-- all. Assumes nothing.
use Rattle.std.proofs.Common.{arith}
use Rattle.plan_lines.proofs.FeedSteps.{feedings_begin, feedings_can_add, feedings_can_slot, feedings_more, feedings_end}
use Rattle.plan_lines.proofs.feed_lines.put_feedings.Goals as goal

pub loop-t-init : goal.loop-t-init
loop-t-init c = feedings_begin c.requires

pub add_parts-requires : goal.add_parts-requires
add_parts-requires c = feedings_can_add c.requires c.loop-t.invariant

pub overflow_mul-n : goal.overflow_mul-n
overflow_mul-n c = omega (arith, (feedings_can_slot c.requires c.loop-t.invariant c.loop-t-test.true c.add_parts.ensures).room)

pub overflow_add-at : goal.overflow_add-at
overflow_add-at c = omega (arith, (feedings_can_slot c.requires c.loop-t.invariant c.loop-t-test.true c.add_parts.ensures).room)

pub overflow_cast-t : goal.overflow_cast-t
overflow_cast-t c = omega (arith, c.requires.day, c.loop-t-test.true)

pub overflow_add-t : goal.overflow_add-t
overflow_add-t c = omega (arith, c.requires.day, c.loop-t-test.true)

pub put_slot-n-requires : goal.put_slot-n-requires
put_slot-n-requires c = feedings_can_slot c.requires c.loop-t.invariant c.loop-t-test.true c.add_parts.ensures

pub overflow_add-n : goal.overflow_add-n
overflow_add-n c = omega (arith, (feedings_more c.requires c.loop-t.invariant c.loop-t-test.true c.add_parts.ensures c.put_slot-n.ensures).putting.number, c.requires.room)

pub loop-t-preserved : goal.loop-t-preserved
loop-t-preserved c = feedings_more c.requires c.loop-t.invariant c.loop-t-test.true c.add_parts.ensures c.put_slot-n.ensures

pub shape_of-out : goal.shape_of-out
shape_of-out c = c.loop-t.invariant.putting.same_length

pub returns : goal.returns
returns c = feedings_end c.requires c.loop-t.invariant c.loop-t-test.false
