-- How the answer of the call that lists causes follows from what it read, found and wrote. Assumes nothing.
use Rattle.std.specs.Prelude.{◌≡◌, refl, Bool, true, false, not, Option, Some, None, ok_or, List, ℕ, ◌≤◌, ◌<◌, length, replicate}
use Rattle.std.proofs.Common.{sym, ap, subst, arith, lt-ltb, le-ltb, ne_eqb}
use Rattle.checks.specs.declared.Refusal.{Refusal}
use Rattle.sheet.specs.declared.Reading.{Reading}
use Rattle.checks.specs.Refusals.{short_buffer, no_placing}
use Rattle.checks.specs.Sheet.{Sheet}
use Rattle.sheet.specs.OwnChecks.{ReadFrom}
use Rattle.sheet.proofs.OwnCheckLaws.{read_values}
use Rattle.schedules.specs.Demands.{no_low}
use Rattle.placing.specs.Rations.{demands_from}
use Rattle.method.specs.Endings.{EndedStretch}
use Rattle.plan_lines.specs.Sizes.{causes_bytes}
use Rattle.cause_lines.specs.declared.Extent.{Extent}
use Rattle.cause_lines.specs.EntryCalls.{Listing}
use Rattle.endings.specs.DayCauses.{DayCauses}
use Rattle.planning.specs.Problem.{alone, left, room, can_be_planned}
use Rattle.planning.specs.Planning.{plan_refusal_for}
use Rattle.planning.specs.Clauses.{NumberOf}
use Rattle.planning.proofs.AloneLaws.{alone_in_range}
use Rattle.planning.proofs.DayLaws.{read_alone}
use Rattle.planning.proofs.CallAnswers.{by_read, by_short, by_outcome}
use Rattle.causes.specs.declared.CausesAnswer.{CausesAnswer}
use Rattle.causes.specs.CauseCalls.{endings_of, short_causes, causes_answer, causes_after, Answered, as_causes}
use Rattle.causes.specs.EndingLaws.{endings_whole}

pub short_causes_lem : (out : List ℕ) → length out < causes_bytes → short_causes out ≡ true
unfolding short_causes
short_causes_lem out l = lt-ltb (length out) causes_bytes l

pub room_causes : (out : List ℕ) → causes_bytes ≤ length out → short_causes out ≡ false
unfolding short_causes
room_causes out l = le-ltb (length out) causes_bytes l

-- a refusal
refused : {f q : Refusal} → q ≡ f → (q.number ≡ 0 → ⊥) → (es : List EndedStretch) (old : List ℕ)
    → Answered f es old old (record { number = q.number; line = q.line; length = 0; cut = false })
unfolding causes_answer causes_after
refused {q = q} e n es old =
    subst (λ x. Answered x es old old (record { number = q.number; line = q.line; length = 0; cut = false })) e
    (rw (ne_eqb q.number 0 n), rw (ne_eqb q.number 0 n))

-- a listing
listed : {f : Refusal} → record { number = 0; line = 0 } ≡ f → {es : List EndedStretch} {old new : List ℕ} {n : ℕ} {c : Bool}
    → Listing es old new (record { length = n; cut = c }) → Answered f es old new (record { number = 0; line = 0; length = n; cut = c })
unfolding causes_answer causes_after
listed e {es} {old} {new} {n} {c} l =
    subst (λ x. Answered x es old new (record { number = 0; line = 0; length = n; cut = c })) e
    ((λ i. record { number = 0; line = 0; length = l.size i; cut = l.cut_is i }), l.bytes)

-- The answers -------------------------------------------------------------------

module _ {own : List Refusal} {s : Sheet} {r : Reading} (h : ReadFrom own s r) (short : Bool) where
  abbrev es : List EndedStretch
  es = endings_of (alone s)

  pub causes_read : (r.number ≡ 0 → ⊥) → (old : List ℕ) → Answered (plan_refusal_for own s short) es old old (record { number = r.number; line = r.line; length = 0; cut = false })
  causes_read n old = refused (by_read h (alone s) short n) n es old

  module _ (z : r.number ≡ 0) where
    pub causes_short : short ≡ true → (old : List ℕ) → Answered (plan_refusal_for own s short) es old old (record { number = short_buffer; line = 0; length = 0; cut = false })
    causes_short l old = refused (by_short h (alone s) short z l) (λ i. omega arith) es old

    outcome : short ≡ false → (x : Bool) → can_be_planned (alone s) ≡ x → record { number = NumberOf (not x); line = 0 } ≡ plan_refusal_for own s short
    outcome l x e = by_outcome h (alone s) short z l (not x) (sym (ap not e))

    module _ (l : short ≡ false) (old new : List ℕ) where
      day : (d : Option Extent) → DayCauses d r.slots r.blowers (demands_from r.slots r.rations r.numbers) (replicate r.slots r.blowers) old new
          → DayCauses d s.slots s.blowers (left (alone s)) (room (alone s)) old new
      day d = read_alone h z (λ slots m ds high. DayCauses d slots m ds high old new)

      causes_held : DayCauses None r.slots r.blowers (demands_from r.slots r.rations r.numbers) (replicate r.slots r.blowers) old new
          → Answered (plan_refusal_for own s short) es old new (record { number = no_placing; line = 0; length = 0; cut = false })
      unfolding can_be_planned no_low
      causes_held k =
          let d = day None k in
          subst (λ x. Answered (plan_refusal_for own s short) es old x (record { number = no_placing; line = 0; length = 0; cut = false })) (sym d.1)
          (refused (outcome l false d.0) (λ i. omega arith) es old)

      causes_day : (x : Extent) → DayCauses (Some x) r.slots r.blowers (demands_from r.slots r.rations r.numbers) (replicate r.slots r.blowers) old new
          → Answered (plan_refusal_for own s short) es old new (record { number = 0; line = 0; length = x.length; cut = x.cut })
      unfolding can_be_planned no_low
      causes_day x k =
          let d = day (Some x) k in
          listed (outcome l true d.0)
          (subst (λ vs. Listing vs old new x) (sym (endings_whole (alone s) (alone_in_range s (read_values h z)) refl d.0)) d.1)

      -- of whatever the day gave
      pub causes_found : (d : Option Extent) → DayCauses d r.slots r.blowers (demands_from r.slots r.rations r.numbers) (replicate r.slots r.blowers) old new
          → Answered (plan_refusal_for own s short) es old new (as_causes (ok_or d (record { number = no_placing; line = 0 })))
      causes_found None k = causes_held k
      causes_found (Some x) k = causes_day x k
