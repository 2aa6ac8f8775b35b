-- `listing::held::put_held` meets its contract. Assumes nothing.
use native.Mathlib.Omega.{arith}
use Rattle.listing.specs.HeldSteps.{members_put, held_can, held_few, held_room, held_written}
use Rattle.listing.proofs.held.put_held.Goals as goal

pub put_members-n-requires : goal.put_members-n-requires
put_members-n-requires c = held_can c.requires c.put_word.ensures

pub overflow_cast-n : goal.overflow_cast-n
overflow_cast-n c = omega (
  arith,
  held_few
      c.requires
      c.put_word.ensures
      (members_put c.requires c.put_members-n.ensures),
)

pub put_line-requires : goal.put_line-requires
put_line-requires c = held_room
    c.requires
    c.put_word.ensures
    (members_put c.requires c.put_members-n.ensures)

pub overflow_add-result : goal.overflow_add-result
overflow_add-result c = omega (
  arith,
  held_few
      c.requires
      c.put_word.ensures
      (members_put c.requires c.put_members-n.ensures),
)

pub overflow_mul-result : goal.overflow_mul-result
overflow_mul-result c = omega (
  arith,
  held_few
      c.requires
      c.put_word.ensures
      (members_put c.requires c.put_members-n.ensures),
)

pub overflow_add-result-2 : goal.overflow_add-result-2
overflow_add-result-2 c = omega (
  arith,
  held_few
      c.requires
      c.put_word.ensures
      (members_put c.requires c.put_members-n.ensures),
)

pub returns : goal.returns
returns c = held_written c.requires c.put_word.ensures (members_put c.requires c.put_members-n.ensures) _ _ _ c.put_line.ensures
