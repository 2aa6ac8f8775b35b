-- `lookup::finder::find` meets its contract. Assumes nothing.
use Rattle.lookup.proofs.FindSteps.{placed_within, placed_begins}
use native.Mathlib.Omega.{arith}
use Rattle.lookup.proofs.finder.find.Goals as goal

pub overflow_add-end : goal.overflow_add-end
overflow_add-end c = let h = placed_within c.args.b.now c.args.tank _ c.place-p.ensures.value in omega arith

pub slice_bounds-result-count : goal.slice_bounds-result-count
slice_bounds-result-count c = omega arith

pub slice_bounds-result-end : goal.slice_bounds-result-end
slice_bounds-result-end c = placed_within c.args.b.now c.args.tank _ c.place-p.ensures.value

pub returns : goal.returns
returns c = record { result_value = c.place-p.ensures.b_value; ref_ptr_value = placed_begins _ _ _ c.args.b.ref_ptr c.place-p.ensures.value }
