-- How a step follows from the questions about one slot. Assumes nothing.
use Rattle.std.specs.Prelude.{refl, Bool, true, false, not, ℕ, Result, Ok, Err}
use Rattle.std.proofs.Common.{sym, ◌∙◌}
use Rattle.placing.specs.declared.Cause.{Cause}
use Rattle.placing.specs.declared.Words.{Words}
use Rattle.placing.specs.WordCalls.{IdleAnsweredIn, BusyAnsweredIn}
use Rattle.method.proofs.StepLaws.{other_possible}
use Rattle.stretches.specs.Settling.{SomeSlot, Kept}
use Rattle.stretches.proofs.SettlingLaws.{under_possible, kept_idle, kept_busy, cannot_stay, slot_again}
use Rattle.endings.specs.Steps.{KeptOrCause, StepTaken}

module _ {t k : ℕ} {w : Words} where
  pub answered_idle : (r : Result (Unit {0}) Cause) {w' : Words} → IdleAnsweredIn r w w' t k → KeptOrCause r k false t w w'
  answered_idle (Ok _) i =
      record { kept = kept_idle (record { idled = i.answered.idled; spares = i.spares }); why = λ slots ds b u l e. tt }
  answered_idle (Err c) i =
      record {
        kept = kept_idle (record { idled = i.answered.idled; spares = i.spares });
        why = λ slots ds b u l e. i.answered.why slots ds b.low b.high u.represents l e;
      }

  pub answered_busy : (r : Result (Unit {0}) Cause) {w' : Words} → BusyAnsweredIn r w w' t k → KeptOrCause r k true t w w'
  answered_busy (Ok _) i =
      record { kept = kept_busy (record { busied = i.answered.busied; highs = i.highs }); why = λ slots ds b u l e. tt }
  answered_busy (Err c) i =
      record {
        kept = kept_busy (record { busied = i.answered.busied; highs = i.highs });
        why = λ slots ds b u l e. i.answered.why slots ds b.low b.high u.represents l e;
      }

  -- the blower goes on
  pub step_stays : {busy : Bool} {w' : Words} → KeptOrCause (Ok tt) k busy t w w' → StepTaken (Ok tt) k busy t w w'
  step_stays a slots ds b u l = (sym (a.kept.answer slots ds b u l), a.kept.yes refl slots ds b u l)

  module _ {busy : Bool} {c : Cause} {w₁ : Words} (a : KeptOrCause (Err c) k busy t w w₁) where
    pub slot_after : SomeSlot t w → SomeSlot t w₁
    slot_after s = slot_again a.kept refl s

    -- its stretch ends, and it changes over
    pub step_ends : {q : Bool} {w' : Words} → Kept q k (not busy) t w₁ w' → StepTaken (Err c) k busy t w w'
    step_ends o slots ds b u l =
        let e = cannot_stay a.kept refl slots ds b u l in
        let v = a.kept.no refl slots ds b u l in (
          e,
          a.why slots ds b u l e,
          o.yes (o.answer slots ds b v l ∙ other_possible u.represents.windows k busy t (under_possible u) l e) slots ds b v l,
        )
