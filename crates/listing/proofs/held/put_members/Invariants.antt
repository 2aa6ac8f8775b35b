-- `listing::held::put_members` meets its contract. The lines put, with those of the slots that are left, are all. Assumes nothing.
use Rattle.std.proofs.Common.{length}
use Rattle.listing.specs.HeldSteps.{MembersPut}
use Rattle.listing.proofs.held.put_members.Given as goal

abbrev pub invariant-loop-t : goal.invariant-loop-t
invariant-loop-t l = MembersPut l.marks (length l.marks) l.t l.at l.initial.out l.out l.n
