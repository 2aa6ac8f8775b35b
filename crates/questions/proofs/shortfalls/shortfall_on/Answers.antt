-- `questions::shortfalls::shortfall_on` meets its contract: the marks are refused, or the answer is the difference.
-- Assumes nothing.
use mathlib.Core.Path.{refl, sym, ap, ◌∙◌}
use Prim.Native.Nat.{◌*◌}
use lib.IntN.{sub_ℕ}
use lib.ListN.{get_or}
use mir.Syntax.{w32}
use mir.ValLaws.{to_z-of_z}
use native.Mathlib.Omega.{arith}
use Rattle.sheet.proofs.FeedSheetLaws.{feed_read}
use Rattle.questions.specs.ShortfallSteps.{shortfall_unmarked, slots_few, marks_few, counts_force, forced_most, capacity_most, shortfall_accepted}
use Rattle.questions.proofs.shortfalls.shortfall_on.Goals as goal

pub returns-then-is_faulty : goal.returns-then-is_faulty
returns-then-is_faulty c = λ own s h. rw c.on.ensures (shortfall_unmarked h _ refl (sym c.if-is_faulty.true ∙ c.is_faulty.ensures))

pub counts_before-before-requires : goal.counts_before-before-requires
counts_before-before-requires c = marks_few (feed_read c.args.sheet.now) _ refl (sym c.if-is_faulty.false ∙ c.is_faulty.ensures)

pub forced-forced-requires : goal.forced-forced-requires
forced-forced-requires c = counts_force (feed_read c.args.sheet.now) _ refl (sym c.if-is_faulty.false ∙ c.is_faulty.ensures) _ c.counts_before-before.ensures

pub bounds-before-slots : goal.bounds-before-slots
bounds-before-slots c = omega (arith, slots_few (feed_read c.args.sheet.now) c.args.marks.now refl)

pub overflow_mul-capacity : goal.overflow_mul-capacity
overflow_mul-capacity c = omega (
  arith,
  capacity_most (feed_read c.args.sheet.now) _ refl (sym c.if-is_faulty.false ∙ c.is_faulty.ensures) _ c.counts_before-before.ensures,
)

pub difference-requires : goal.difference-requires
difference-requires c = omega (
  arith,
  forced_most (feed_read c.args.sheet.now) _ refl (sym c.if-is_faulty.false ∙ c.is_faulty.ensures) _ c.counts_before-before.ensures,
  c.forced-forced.ensures,
  capacity_most (feed_read c.args.sheet.now) _ refl (sym c.if-is_faulty.false ∙ c.is_faulty.ensures) _ c.counts_before-before.ensures,
)

pub returns : goal.returns
returns c = λ own s h.
    let r = c.args.sheet.now in
    let before = c.counts_before-before.result in
    shortfall_accepted h _ refl (sym c.if-is_faulty.false ∙ c.is_faulty.ensures) _ c.counts_before-before.ensures
    _ (to_z-of_z w32 c.difference.result (record { sfits = c.difference.type_inv }) ∙ c.difference.ensures
    ∙ ap (λ k. sub_ℕ k (get_or before r.slots 0 * r.blowers)) c.forced-forced.ensures)
