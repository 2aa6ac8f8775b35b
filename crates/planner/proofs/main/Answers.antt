-- `planner::main` meets its contract: it writes no more bytes than the answer has. Assumes nothing.
use Rattle.program.specs.OutputLaws.{output_within}
use Rattle.planner.proofs.main.Goals as goal

pub slice_bounds-write_all-end : goal.slice_bounds-write_all-end
slice_bounds-write_all-end c = output_within _ _ c.answer-output.ensures
