-- `checks::values::Ration::refusal` meets its contract: the first of the four faults that is there. Assumes nothing.
use mathlib.Core.Path.{sym, ◌∙◌, ap}
use Rattle.checks.specs.Verdicts.{verdict}
use Rattle.checks.specs.CheckSteps.{window_order, refusal_7, refusal_8, refusal_9, refusal_13, refusal_none}
use Rattle.checks.proofs.values.Ration.refusal.Goals as goal

pub returns-then-tank_fault : goal.returns-then-tank_fault
returns-then-tank_fault c = rw c.on.ensures (ap verdict (refusal_7 _ _ _ _ _ _ _ _ (sym c.if-tank_fault.true ∙ c.tank_fault.ensures)))

pub returns-then-window_fault : goal.returns-then-window_fault
returns-then-window_fault c = rw c.on-then-window_fault.ensures (ap verdict (refusal_8 _ _ _ _ _ _ _ _ (sym c.if-tank_fault.false ∙ c.tank_fault.ensures) (sym c.if-window_fault.true ∙ c.window_fault.ensures)))

pub volume_fault-requires : goal.volume_fault-requires
volume_fault-requires c = window_order c.args.slots c.args.self.release c.args.self.deadline (sym c.window_fault.ensures ∙ c.if-window_fault.false)

pub returns-then-volume_fault : goal.returns-then-volume_fault
returns-then-volume_fault c = rw c.on-then-volume_fault.ensures (ap verdict (refusal_9 _ _ _ _ _ _ _ _ (sym c.if-tank_fault.false ∙ c.tank_fault.ensures) (sym c.if-window_fault.false ∙ c.window_fault.ensures) (sym c.if-volume_fault.true ∙ c.volume_fault.ensures)))

pub returns-then-meal_fault : goal.returns-then-meal_fault
returns-then-meal_fault c = rw c.on-then-meal_fault.ensures (ap verdict (refusal_13 _ _ _ _ _ _ _ _ (sym c.if-tank_fault.false ∙ c.tank_fault.ensures) (sym c.if-window_fault.false ∙ c.window_fault.ensures) (sym c.if-volume_fault.false ∙ c.volume_fault.ensures) (sym c.if-meal_fault.true ∙ c.meal_fault.ensures)))

pub returns : goal.returns
returns c = ap verdict (refusal_none _ _ _ _ _ _ _ _ (sym c.if-tank_fault.false ∙ c.tank_fault.ensures) (sym c.if-window_fault.false ∙ c.window_fault.ensures) (sym c.if-volume_fault.false ∙ c.volume_fault.ensures) (sym c.if-meal_fault.false ∙ c.meal_fault.ensures))
