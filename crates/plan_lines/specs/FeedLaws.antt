-- The feed lines of a slot, from the word of its feedings and the parts of the rations. Assumes nothing.
use Rattle.std.specs.Prelude.{Bool, cond, List, length, get_or}
use Prim.Native.Nat.{ℕ}
use Rattle.common.specs.Lists.{range, zip_with}
use Rattle.plan_lines.specs.Lines.{Line, line}
use Rattle.plan_lines.specs.Inputs.{tank_at}

abbrev pub one : Bool → ℕ
one b = cond b 1 0

-- the feedings of the rations js in a slot, by blowers from k on
unfoldable pub word_lines : (slot : ℕ) → (numbers parts : List ℕ) → (k : ℕ) → List ℕ → List Line
word_lines slot numbers parts k js = zip_with (λ k j. line slot k (tank_at numbers j) (get_or parts j 0)) (range k (length js)) js
