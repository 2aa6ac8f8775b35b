-- `grid::search::look` meets its contract: it skips slot y, marks it, or finds it. Assumes nothing.
use Rattle.std.proofs.Common.{arith, sym, ◌∙◌}
use borrow.Author.Tests.{ltb-true, ltb-false}
use Rattle.grid.specs.Search.{skip, mark, find}
use Rattle.grid.proofs.search.look.Goals as goal
use Rattle.grid.proofs.search.look.Goals.{then-seen-y-ne0-via-then-seen-y-ne0, then-seen-y-ne0-via-else-seen-y-ne0+then-front-rest-eq0}

pub returns-then-seen-y-ne0 : goal.returns-then-seen-y-ne0
returns-then-seen-y-ne0 c = elim c.then-seen-y-ne0.branch [
  | then-seen-y-ne0-via-then-seen-y-ne0 w ↦ skip (λ e. absurd (omega (arith, w.if-seen-y-ne0.true e)))
  | then-seen-y-ne0-via-else-seen-y-ne0+then-front-rest-eq0 w ↦ skip (λ e. w.if-front-rest-eq0.true)
]

pub returns-then-has_room : goal.returns-then-has_room
returns-then-has_room c = (
  c.requires.slot,
  find (record { slot = c.requires.slot; new = c.if-seen-y-ne0.false; edge = c.if-front-rest-eq0.false })
      (ltb-true _ _ (sym c.has_room.ensures ∙ c.if-has_room.true)),
)

pub returns : goal.returns
returns c = mark (record { slot = c.requires.slot; new = c.if-seen-y-ne0.false; edge = c.if-front-rest-eq0.false })
    (ltb-false _ _ (sym c.has_room.ensures ∙ c.if-has_room.false))
