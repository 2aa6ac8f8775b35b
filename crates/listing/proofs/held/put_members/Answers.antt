-- `listing::held::put_members` meets its contract. The lines put, with those of the slots that are left, are all. Assumes nothing.
use Rattle.std.proofs.Common.{arith}
use Rattle.listing.specs.HeldSteps.{members_begin, members_room, members_more, members_end}
use Rattle.listing.proofs.held.put_members.Goals as goal

pub loop-t-init : goal.loop-t-init
loop-t-init c = members_begin c.requires

pub overflow_mul-n : goal.overflow_mul-n
overflow_mul-n c = omega (arith, members_room c.requires c.loop-t.invariant c.loop-t-test.true)

pub overflow_add-at : goal.overflow_add-at
overflow_add-at c = omega (arith, members_room c.requires c.loop-t.invariant c.loop-t-test.true)

pub overflow_cast-t : goal.overflow_cast-t
overflow_cast-t c = omega (arith, c.requires.day, c.loop-t-test.true)

pub overflow_add-t : goal.overflow_add-t
overflow_add-t c = omega (arith, c.requires.day, c.loop-t-test.true)

pub put_member-n-requires : goal.put_member-n-requires
put_member-n-requires c = members_room c.requires c.loop-t.invariant c.loop-t-test.true

pub overflow_add-n : goal.overflow_add-n
overflow_add-n c = omega (arith, (members_more c.requires c.loop-t.invariant c.loop-t-test.true c.put_member-n.ensures).putting.number, c.requires.room)

pub loop-t-preserved : goal.loop-t-preserved
loop-t-preserved c = members_more c.requires c.loop-t.invariant c.loop-t-test.true c.put_member-n.ensures

pub shape_of-out : goal.shape_of-out
shape_of-out c = c.loop-t.invariant.putting.same_length

pub returns : goal.returns
returns c = members_end c.requires c.loop-t.invariant c.loop-t-test.false
