-- `cases::buffers::digest_after` meets its contract: the elements that are left take the digest on to the whole one.
-- Assumes nothing.
use Rattle.std.proofs.Common.{◌≡◌, ◌≤◌, length, drop}
use Rattle.cases.specs.Buffers.{digest_after}
use Rattle.cases.proofs.buffers.digest_after.Given as goal

abbrev pub invariant-loop-element : goal.invariant-loop-element
invariant-loop-element g l =
    let remainder = g.E.Element.remainder_of in
    (l.element-index ≤ length l.elements)
    × (digest_after remainder l.digest (drop l.element-index l.elements) ≡ digest_after remainder l.fn.h l.elements)
