-- `cases::buffers::fill` meets its contract: the elements that are filled, and those that follow from the value, are
-- the filled buffer. Assumes nothing.
use Rattle.std.proofs.Common.{◌≡◌, ◌≤◌, ◌-◌, length, take, ◌++◌}
use Rattle.cases.specs.Buffers.{filled}
use Rattle.cases.proofs.buffers.fill.Given as goal

abbrev pub invariant-loop-element : goal.invariant-loop-element
invariant-loop-element g l =
    let e = g.E.Element in
    let n = length l.element-items in
    (n ≡ length l.initial.element-items) × (l.element-index ≤ n)
    × (take l.element-index l.element-items ++ filled l.value e.next_element (n - l.element-index) ≡ filled e.FIRST e.next_element n)
