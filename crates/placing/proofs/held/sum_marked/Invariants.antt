-- `placing::held::sum_marked` meets its contract. Assumes nothing.
use Rattle.std.specs.Prelude.{◌≡◌, ℕ, ◌<◌, ◌≤◌, ◌*◌}
use Rattle.theory.specs.SumsOver.{sum_on}
use Rattle.loads.specs.Meaning.{seen_at}
use Rattle.placing.proofs.held.sum_marked.Given as goal

abbrev pub invariant-loop-t : goal.invariant-loop-t
invariant-loop-t g l =
    record {
      small : l.sum ≤ 255 * l.t;
      so_far : (f : ℕ → ℕ) → ((t n : ℕ) → t < l.slots → goal.F-post g l.number t n → n ≡ f t) → l.sum ≡ sum_on l.t (seen_at l.seen) f;
    }
