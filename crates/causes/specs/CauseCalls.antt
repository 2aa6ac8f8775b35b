-- The call that lists the causes of a day's stretches: what it answers, and what it leaves in the buffer lent to it.
-- Definitions only. Assumes nothing.
use Rattle.std.specs.Prelude.{◌≡◌, Bool, false, ◌&&◌, cond, Result, Ok, Err, List, ℕ, ltb, eqb, length}
use Rattle.common.specs.Buffers.{over}
use Rattle.checks.specs.declared.Refusal.{Refusal}
use Rattle.method.specs.Method.{bounds_under}
use Rattle.method.specs.Keeping.{stretches}
use Rattle.method.specs.Endings.{EndedStretch, in_order, endings}
use Rattle.plan_lines.specs.Sizes.{causes_bytes}
use Rattle.cause_lines.specs.declared.Extent.{Extent}
use Rattle.cause_lines.specs.Entries.{causes_text, is_cut}
use Rattle.planning.specs.Problem.{Problem, left, room, counts_of}
use Rattle.causes.specs.declared.CausesAnswer.{CausesAnswer}

-- the stretches of a problem's plan that end before slot D, in settling order, each with its cause
unfoldable pub endings_of : Problem → List EndedStretch
endings_of p =
    endings p.sheet.slots (left p) (bounds_under p.sheet.slots (room p)) (in_order (stretches (counts_of p)) p.sheet.blowers)

-- 10: the buffer is under 65,536 bytes
unfoldable pub short_causes : List ℕ → Bool
short_causes out = ltb (length out) causes_bytes

-- on 0 the length of the listing, and whether it was cut; on every other number, 12 too, 0 and no
unfoldable pub causes_answer : Refusal → List EndedStretch → CausesAnswer
causes_answer r es =
    record {
      number = r.number;
      line = r.line;
      length = cond (eqb r.number 0) (length (causes_text es)) 0;
      cut = eqb r.number 0 && is_cut es;
    }

-- the buffer afterwards: on 0 the listing is at its front, and bytes after it keep their values; on every other number
-- all do
unfoldable pub causes_after : Refusal → List EndedStretch → (old : List ℕ) → List ℕ
causes_after r es old = cond (eqb r.number 0) (over (causes_text es) old) old

-- the answer, and the buffer afterwards
abbrev pub Answered : Refusal → List EndedStretch → (old new : List ℕ) → CausesAnswer → Type 0
Answered f es old new a = (a ≡ causes_answer f es) × (new ≡ causes_after f es old)

-- a listing's length and whether it was cut, or a refusal, as an answer
abbrev pub as_causes : Result Extent Refusal → CausesAnswer
as_causes (Ok x) = record { number = 0; line = 0; length = x.length; cut = x.cut }
as_causes (Err f) = record { number = f.number; line = f.line; length = 0; cut = false }
