-- `questions::shortfalls::forced` meets its contract: after j rations it has the sum of what they are forced to feed. Assumes nothing.
use mathlib.Core.Path.{◌≡◌}
use Rattle.theory.specs.Sums as S
use Rattle.questions.specs.ShortfallParts.{forced_at}
use Rattle.questions.proofs.shortfalls.forced.Given as goal

abbrev pub invariant-loop-j : goal.invariant-loop-j
invariant-loop-j l = l.sum ≡ S.sum l.j (forced_at l.before l.numbers)
