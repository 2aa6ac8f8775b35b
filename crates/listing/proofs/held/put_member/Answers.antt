-- `listing::held::put_member` meets its contract. Assumes nothing.
use Rattle.listing.specs.HeldSteps.{member_none, member_room, member_put}
use Rattle.listing.proofs.held.put_member.Goals as goal

pub returns-then-mark-eq0 : goal.returns-then-mark-eq0
returns-then-mark-eq0 c = member_none _ _ _ _ c.if-mark-eq0.true

pub put_line-requires : goal.put_line-requires
put_line-requires c = member_room _ _ _ _ c.if-mark-eq0.false c.requires

pub returns : goal.returns
returns c = member_put _ _ _ _ c.if-mark-eq0.false c.put_line.ensures
