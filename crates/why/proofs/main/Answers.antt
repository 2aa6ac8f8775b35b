-- `why::main` meets its contract: it writes no more bytes than the output has. Assumes nothing.
use Rattle.program.specs.ExplanationLaws.{explanation_within}
use Rattle.why.proofs.main.Goals as goal

pub slice_bounds-write_all-end : goal.slice_bounds-write_all-end
slice_bounds-write_all-end c = explanation_within _ _ c.explain-output.ensures
