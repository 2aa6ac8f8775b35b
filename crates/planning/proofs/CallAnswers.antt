-- How a planning call's answer and its lent buffers follow from what it read, found and wrote, whatever checks its
-- sheet passed, whatever problem was planned and whatever buffers it was lent. Assumes nothing.
use Rattle.std.specs.Prelude.{◌≡◌, ◌⊎◌, Bool, true, false, not, ◌||◌, cond, Result, is_err, ℕ, ◌≤◌, ◌<◌}
use Rattle.std.proofs.Math.Path.{refl, sym, ap, subst}
use Rattle.std.proofs.Common.{◌∙◌, inl, inr, arith, lt-ltb, le-ltb, ltb-false, ne_eqb}
use mathlib.Core.List.{List, [], ◌∷◌, ◌++◌, cons≢nil}
use Rattle.std.proofs.Math.ListN.{length, replicate}
use Rattle.checks.specs.declared.Refusal.{Refusal}
use Rattle.sheet.specs.declared.Reading.{Reading}
use Rattle.checks.specs.Refusals.{short_buffer, no_placing}
use Rattle.checks.specs.Sheet.{Sheet}
use Rattle.checks.specs.Checks.{fault, first_refusal}
use Rattle.common.specs.Tests.{or_left, or_right}
use Rattle.common.specs.Buffers.{over, padded}
use Rattle.checks.specs.Limits.{max_slots}
use Rattle.checks.specs.FaultLaws.{Numbered}
use Rattle.sheet.specs.OwnChecks.{OfSheet, ReadFrom}
use Rattle.sheet.proofs.OwnCheckLaws.{refused_before, accepted_before, not_held}
use Rattle.stretches.specs.declared.DayPlan.{DayPlan}
use Rattle.stretches.specs.declared.HeldDay.{HeldDay}
use Rattle.stretches.specs.Days.{busy_counts}
use Rattle.plan_lines.specs.Sizes.{plan_bytes, placing_words}
use Rattle.listing.specs.Opening.{Written}
use Rattle.planning.specs.Problem.{Problem, can_be_planned, counts_of, listing_of, words_for}
use Rattle.planning.specs.Planning.{held_faults, plan_checks, short_plan, short_placing, writes, listed_answer, unlisted_answer, listing_after, placing_after, busy_after}
use Rattle.planning.specs.Clauses.{DayOf, NumberOf, Listed}
use Rattle.planning.proofs.DayLaws.{held_is, day_counts}

-- ---- the buffers' lengths

pub short_plan_lem : (out : List ℕ) → length out < plan_bytes → short_plan out ≡ true
unfolding short_plan
short_plan_lem out l = lt-ltb (length out) plan_bytes l

pub room_plan : (out : List ℕ) → plan_bytes ≤ length out → short_plan out ≡ false
unfolding short_plan
room_plan out l = le-ltb (length out) plan_bytes l

pub long_plan : (out : List ℕ) → short_plan out ≡ false → plan_bytes ≤ length out
unfolding short_plan
long_plan out e = ltb-false (length out) plan_bytes e

pub short_placing_lem : (out : List ℕ) → length out < placing_words → short_placing out ≡ true
unfolding short_placing
short_placing_lem out l = lt-ltb (length out) placing_words l

pub long_placing : (out : List ℕ) → short_placing out ≡ false → placing_words ≤ length out
unfolding short_placing
long_placing out e = ltb-false (length out) placing_words e

pub room_placing : (out : List ℕ) → placing_words ≤ length out → short_placing out ≡ false
unfolding short_placing
room_placing out l = le-ltb (length out) placing_words l

pub neither : (x y : Bool) → x ≡ false → y ≡ false → (x || y) ≡ false
neither x y e f = rw (e, f)

-- a buffer is too short: the plan's, or the placing's
pub either_short : (listing placing : List ℕ) → (length listing < plan_bytes) ⊎ ((plan_bytes ≤ length listing) × (length placing < placing_words))
    → (short_plan listing || short_placing placing) ≡ true
either_short listing placing (inl l) = or_left (short_placing placing) (short_plan_lem listing l)
either_short listing placing (inr l) = or_right (short_plan listing) (short_placing_lem placing l.1)

-- ---- what number 0, and what number 12, says of a call that plans: its sheet is well-formed, no buffer is too short,
-- and the sheet is planned or held
pub passed_planned : (own : List Refusal) → Numbered own → (short c : Bool) → (first_refusal (own ++ (fault short_buffer 0 short ++ fault no_placing 0 (not c)))).number ≡ 0
    → (own ≡ []) × (short ≡ false) × (c ≡ true)
unfolding first_refusal
passed_planned [] n true c e = absurd (omega arith)
passed_planned [] n false true e = (refl, refl, refl)
passed_planned [] n false false e = absurd (omega arith)
passed_planned (x ∷ xs) n short c e = absurd (cons≢nil (n e))

pub passed_held : (own : List Refusal) → OfSheet own → (short c : Bool) → (first_refusal (own ++ (fault short_buffer 0 short ++ fault no_placing 0 (not c)))).number ≡ no_placing
    → (own ≡ []) × (short ≡ false) × (c ≡ false)
unfolding first_refusal
passed_held [] h true c e = absurd (omega arith)
passed_held [] h false true e = absurd (omega arith)
passed_held [] h false false e = (refl, refl, refl)
passed_held (x ∷ xs) h short c e = absurd (h.not_held e)

-- ---- numbers that write nothing, and numbers that write

pub writes_nothing : (n : ℕ) → (n ≡ 0 → ⊥) → (n ≡ no_placing → ⊥) → writes n ≡ false
unfolding writes
writes_nothing n k l = rw (ne_eqb n 0 k, ne_eqb n no_placing l)

writes_day : (x : Bool) → writes (NumberOf x) ≡ true
unfolding writes
writes_day true = refl
writes_day false = refl

-- an answer of no length, and a buffer as it was
module _ (f : Refusal) (silent : writes f.number ≡ false) where
  pub listed_nothing : (listing old : List ℕ) → Listed f listing old old (record { number = f.number; line = f.line; length = 0 })
  unfolding listed_answer listing_after
  listed_nothing listing old = (rw silent, rw silent)

  pub placed_nothing : (words old : List ℕ) → old ≡ placing_after f words old
  unfolding placing_after
  placed_nothing words old = rw silent

-- a listing written, and a placing
module _ (f : Refusal) (loud : writes f.number ≡ true) where
  listed_text : (listing : List ℕ) {old new : List ℕ} {n : ℕ} → Written listing old new n → Listed f listing old new (record { number = f.number; line = f.line; length = n })
  unfolding listed_answer listing_after
  listed_text listing w = (rw loud (λ i. record { number = f.number; line = f.line; length = w.size i }), rw loud w.bytes)

  placed_words : (words old new : List ℕ) → new ≡ over words old → new ≡ placing_after f words old
  unfolding placing_after
  placed_words words old new w = rw loud w

unlisted : (f : Refusal) → record { number = f.number; line = f.line; length = 0 } ≡ unlisted_answer f
unfolding unlisted_answer
unlisted f = refl

-- 12 for a held day, none for a planned one
day_refusal : (p : Problem) (x : Bool) → x ≡ not (can_be_planned p) → first_refusal (held_faults p) ≡ record { number = NumberOf x; line = 0 }
unfolding first_refusal
day_refusal p true f = ap (λ y. first_refusal (fault no_placing 0 y)) (sym f)
day_refusal p false f = ap (λ y. first_refusal (fault no_placing 0 y)) (sym f)

-- the busy blowers of a held day, and of a planned one
busy_outcome : (x : Bool) (p : Problem) → cond x (replicate max_slots 0) (padded max_slots (counts_of p)) ≡ busy_after (record { number = NumberOf x; line = 0 }) p
unfolding busy_after
busy_outcome true p = refl
busy_outcome false p = refl

-- ---- the answers

module _ {own : List Refusal} {s : Sheet} {r : Reading} (h : ReadFrom own s r) (p : Problem) (short : Bool) where
  abbrev refusal : Refusal
  refusal = first_refusal (plan_checks own short p)

  -- refused by a check of the sheet alone
  module _ (n : r.number ≡ 0 → ⊥) where
    abbrev read : Refusal
    read = record { number = r.number; line = r.line }

    pub by_read : read ≡ refusal
    by_read = sym (refused_before h n (fault short_buffer 0 short ++ held_faults p))

    silent : writes r.number ≡ false
    silent = writes_nothing r.number n (not_held h n)

    pub listed_read : (listing old : List ℕ) → Listed refusal listing old old (record { number = r.number; line = r.line; length = 0 })
    listed_read listing old = subst (λ f. Listed f listing old old (record { number = r.number; line = r.line; length = 0 })) by_read (listed_nothing read silent listing old)

    pub placed_read : (words old : List ℕ) → old ≡ placing_after refusal words old
    placed_read words old = subst (λ f. old ≡ placing_after f words old) by_read (placed_nothing read silent words old)

    pub busy_read : replicate max_slots 0 ≡ busy_after refusal p
    unfolding busy_after
    busy_read = subst (λ f. replicate max_slots 0 ≡ busy_after f p) by_read (rw (ne_eqb r.number 0 n))

    pub unlisted_read : record { number = r.number; line = r.line; length = 0 } ≡ unlisted_answer refusal
    unlisted_read = unlisted read ∙ ap unlisted_answer by_read

  module _ (z : r.number ≡ 0) where
    after_read : refusal ≡ first_refusal (fault short_buffer 0 short ++ held_faults p)
    after_read = accepted_before h z (fault short_buffer 0 short ++ held_faults p)

    -- refused by 10
    module _ (l : short ≡ true) where
      abbrev too_short : Refusal
      too_short = record { number = short_buffer; line = 0 }

      pub by_short : too_short ≡ refusal
      unfolding first_refusal
      by_short = sym (after_read ∙ ap (λ x. first_refusal (fault short_buffer 0 x ++ held_faults p)) l)

      pub listed_short : (listing old : List ℕ) → Listed refusal listing old old (record { number = short_buffer; line = 0; length = 0 })
      unfolding writes
      listed_short listing old = subst (λ f. Listed f listing old old (record { number = short_buffer; line = 0; length = 0 })) by_short (listed_nothing too_short refl listing old)

      pub placed_short : (words old : List ℕ) → old ≡ placing_after refusal words old
      unfolding writes
      placed_short words old = subst (λ f. old ≡ placing_after f words old) by_short (placed_nothing too_short refl words old)

      pub busy_short : replicate max_slots 0 ≡ busy_after refusal p
      unfolding busy_after
      busy_short = subst (λ f. replicate max_slots 0 ≡ busy_after f p) by_short refl

      pub unlisted_short : record { number = short_buffer; line = 0; length = 0 } ≡ unlisted_answer refusal
      unlisted_short = unlisted too_short ∙ ap unlisted_answer by_short

    -- planned, or held: x says which
    pub by_outcome : short ≡ false → (x : Bool) → x ≡ not (can_be_planned p) → record { number = NumberOf x; line = 0 } ≡ refusal
    by_outcome l x k = sym (after_read ∙ ap (λ y. first_refusal (fault short_buffer 0 y ++ held_faults p)) l ∙ day_refusal p x k)

    module _ (l : short ≡ false) {d : Result DayPlan HeldDay} (k : DayOf p r d) where
      abbrev outcome : Refusal
      outcome = record { number = NumberOf (is_err d); line = 0 }

      by_day : outcome ≡ refusal
      by_day = by_outcome l (is_err d) (held_is d k)

      pub listed_day : {old new : List ℕ} {n : ℕ} → Written (listing_of p) old new n → Listed refusal (listing_of p) old new (record { number = NumberOf (is_err d); line = 0; length = n })
      listed_day {old} {new} {n} w =
          subst (λ f. Listed f (listing_of p) old new (record { number = NumberOf (is_err d); line = 0; length = n })) by_day
          (listed_text outcome (writes_day (is_err d)) (listing_of p) w)

      pub placed_day : (old new : List ℕ) → new ≡ over (words_for p) old → new ≡ placing_after refusal (words_for p) old
      placed_day old new w = subst (λ f. new ≡ placing_after f (words_for p) old) by_day (placed_words outcome (writes_day (is_err d)) (words_for p) old new w)

      pub busy_day : busy_counts d ≡ busy_after refusal p
      busy_day = day_counts d k ∙ subst (λ f. cond (is_err d) (replicate max_slots 0) (padded max_slots (counts_of p)) ≡ busy_after f p) by_day (busy_outcome (is_err d) p)

      pub unlisted_day : record { number = NumberOf (is_err d); line = 0; length = 0 } ≡ unlisted_answer refusal
      unlisted_day = unlisted outcome ∙ ap unlisted_answer by_day
