-- Why the calls' answers are those of Answers.antt, whatever list of checks a call makes on its sheet alone. Assumes
-- nothing.
use Rattle.std.specs.Prelude.{◌≡◌, refl, Bool, true, false, ◌&&◌, ◌||◌, not, cond, ℕ, suc, ◌*◌, ◌≤◌, ◌<◌, eqb, ltb, ℤ, pos, length, drop, replicate}
use Rattle.std.proofs.Common.{sym, ◌∙◌, subst, arith, eq-eqb, ne_eqb, eqb-true, ltb-false}
use Rattle.std.proofs.Math.Path.{ap}
use mathlib.Core.List.{List, [], ◌++◌, cons≢nil}
use Rattle.std.proofs.Math.ListN.{take}
use Rattle.std.proofs.lemmas.List.{length-replicate}
use Rattle.std.proofs.Math.Seq.{take-append_seam, drop-append_seam}
use Rattle.std.proofs.lemmas.Bool.{not-false}
use Rattle.common.specs.Tests.{or_false}
use Rattle.checks.specs.declared.Refusal.{Refusal}
use Rattle.checks.specs.Refusals.{short_buffer, bad_list, no_placing}
use Rattle.line.specs.Layout.{line_bytes}
use Rattle.checks.specs.Sheet.{Sheet, sheet_of, write_sheet, sheet_from}
use Rattle.checks.specs.Checks.{fault, first_refusal, faults}
use Rattle.sheet.specs.Calls.{accepted, refused, reading_from, reading_of, write_refusal, written_of, buffer_after}
use Rattle.common.specs.Buffers.{over}
use Rattle.common.specs.BufferLaws.{length_over}
use Rattle.sheet.proofs.CallLaws.{written_of_refused, buffer_after_refused}
use Rattle.checks.specs.FaultLaws.{false_fault, append_nil_parts, Numbered, numbered_append, numbered_fault, numbered_faults}
use Rattle.checks.specs.RangeLaws.{ValuesInRange}
use Rattle.sheet.specs.OwnChecks.{OwnChecks}
use Rattle.sheet.proofs.OwnCheckLaws.{bytes_checked, values_checked}
use Rattle.checks.specs.SheetLaws.{length_write_sheet}
use Rattle.checks.specs.NumbersLaws.{length_jobs_of}
use Rattle.sheet.proofs.WriteSteps.{write_accepted}
use Rattle.schedules.proofs.DemandLaws.{windows_demands_of}
use Rattle.schedules.proofs.Theorems.{feasible_iff_sound}
use Rattle.questions.specs.Calls.{sheet_shortfall, bounds_fault, cut_highs, sheet_feasible}
use Rattle.questions.specs.BoundsSteps.{length_cut_highs}
use Rattle.plan_lines.specs.Sizes.{plan_bytes, placing_words}
use Rattle.plan_lines.specs.PlacingForms.{words_of, grid_bytes, grid_of, SameFeedings}
use Rattle.plan_lines.proofs.PlacingFormLaws.{length_words_of, no_words, same_feedings, no_feedings_lem}
use Rattle.planning.specs.Problem.{Problem, alone, ProblemInRange, can_be_planned, feedings_of, plan_listing, held_listing, listing_of, words_for}
use Rattle.planning.specs.Planning.{held_faults, plan_checks, plan_refusal, short_plan, short_placing, writes, listed_answer, listing_after, placing_after}
use Rattle.planning.proofs.PlacingLaws.{placing_rows, length_placing}
use Rattle.planning.proofs.WrittenLaws.{writes_planned, writes_held}
use Rattle.planning.proofs.ProblemLaws.{feedings_sound, listing_plan, listing_held, words_plan, words_held, length_listing}
use Rattle.planning.proofs.AloneLaws.{left_alone, room_alone, may_alone, alone_in_range}
use Rattle.planning.proofs.CallAnswers.{passed_planned, passed_held, long_plan, long_placing, writes_nothing, listed_nothing, placed_nothing}
use Rattle.program.specs.Program.{output}
use Rattle.records.specs.Records.{record_faults}
use Rattle.demands.specs.Outcome.{AloneIs}
use Rattle.demands.specs.Answers.{FirstOf, NotZero, RefusedNotHeld, ShortfallOf, YesFor, Front, PlanBuffer, PlacingBuffer, SheetBuffer, ProgramText}

-- The first check that applies -----------------------------------------------------------

pub first_of : (rs : List Refusal) → Numbered rs → FirstOf rs (first_refusal rs).number (first_refusal rs).line
unfolding first_refusal
first_of rs numbered =
    record {
      first = λ r rest e. (ap (λ x. (first_refusal x).number) e, ap (λ x. (first_refusal x).line) e);
      accepted = λ e. (ap (λ x. (first_refusal x).number) e, ap (λ x. (first_refusal x).line) e);
      no_other = numbered;
    }

pub numbered_held : (p : Problem) → Numbered (held_faults p)
numbered_held p = numbered_fault no_placing 0 (not (can_be_planned p)) (omega arith)

pub numbered_plan : (own : List Refusal) → Numbered own → (short : Bool) (p : Problem) → Numbered (plan_checks own short p)
numbered_plan own numbered short p =
    numbered_append own (fault short_buffer 0 short ++ held_faults p) numbered
    (numbered_append (fault short_buffer 0 short) (held_faults p) (numbered_fault short_buffer 0 short (omega arith)) (numbered_held p))

-- one check more, of a list or a buffer
pub numbered_one : (own : List Refusal) → Numbered own → (number : ℕ) (t : Bool) → 0 < number → Numbered (own ++ fault number 0 t)
numbered_one own h number t l = numbered_append own (fault number 0 t) h (numbered_fault number 0 t l)

-- A lent buffer ------------------------------------------------------------------------------

pub front_over : (text old : List ℕ) → length text ≤ length old → Front text old (over text old)
unfolding over
front_over text old l =
    record {
      same_length = length_over text old l;
      text_is = take-append_seam text (drop (length text) old);
      kept = drop-append_seam text (drop (length text) old);
    }

-- Calls that plan ------------------------------------------------------------------------------

-- a problem over the sheet that passed the checks, in range where none of them applied
module _ {own : List Refusal} {s : Sheet} (checks : OwnChecks own s) (p : Problem) (in_range : ValuesInRange 0 s (length s.jobs) true → ProblemInRange p) (short : Bool) where
  abbrev r : Refusal
  r = first_refusal (plan_checks own short p)

  number_zero : r.number ≡ 0 → (own ≡ []) × (short ≡ false) × (can_be_planned p ≡ true)
  number_zero e = passed_planned own checks.numbered short (can_be_planned p) e

  number_twelve : r.number ≡ no_placing → (own ≡ []) × (short ≡ false) × (can_be_planned p ≡ false)
  number_twelve e = passed_held own checks.of_sheet short (can_be_planned p) e

  silent : RefusedNotHeld r.number → writes r.number ≡ false
  silent h = writes_nothing r.number h.0 h.1

  range : own ≡ [] → ProblemInRange p
  range e = in_range (checks.values e)

  module _ (old : List ℕ) where
    listed : (text : List ℕ) → writes r.number ≡ true → listing_of p ≡ text → length text ≤ length old
        → ((listed_answer r (listing_of p)).length ≡ length text) × Front text old (listing_after r (listing_of p) old)
    unfolding listed_answer listing_after
    listed text w e l = (rw (w, e), rw (w, e) (front_over text old l))

    pub plan_buffer_lem : (short ≡ false → plan_bytes ≤ length old)
        → PlanBuffer p r.number (listed_answer r (listing_of p)).length old (listing_after r (listing_of p) old)
    plan_buffer_lem room =
        record {
          refused = λ h. let w = listed_nothing r (silent h) (listing_of p) old in (sym (ap (λ x. x.length) w.0), sym w.1);
          planned = λ e.
              let z = number_zero e in
              let t = listing_plan p z.2 in
              listed (plan_listing p) (writes_planned r.number e) t (omega (arith, ap length t, length_listing p (range z.0), room z.1));
          held = λ e.
              let z = number_twelve e in
              let t = listing_held p z.2 in
              listed (held_listing p) (writes_held r.number e) t (omega (arith, ap length t, length_listing p (range z.0), room z.1));
        }

    marked : (words : List ℕ) → writes r.number ≡ true → words_for p ≡ words → length words ≡ placing_words → placing_words ≤ length old
        → Front words old (placing_after r (words_for p) old) × (take placing_words (placing_after r (words_for p) old) ≡ words)
    unfolding placing_after
    marked words w e n l =
        let f = front_over words old (omega (arith, n)) in
        (rw (w, e) f, ap (λ k. take k (placing_after r (words_for p) old)) (sym n) ∙ rw (w, e) f.text_is)

    -- the words of the feedings, where number 0 is given
    planned_words : r.number ≡ 0 → placing_words ≤ length old
        → Front (words_of (feedings_of p)) old (placing_after r (words_for p) old) × (take placing_words (placing_after r (words_for p) old) ≡ words_of (feedings_of p))
    planned_words e = marked (words_of (feedings_of p)) (writes_planned r.number e) (words_plan p (number_zero e).2) (length_words_of (feedings_of p))

    -- and where 12 is
    held_words : r.number ≡ no_placing → placing_words ≤ length old
        → Front (replicate placing_words 0) old (placing_after r (words_for p) old) × (take placing_words (placing_after r (words_for p) old) ≡ replicate placing_words 0)
    held_words e =
        marked (replicate placing_words 0) (writes_held r.number e) (words_held p (number_twelve e).2 ∙ sym no_words) (length-replicate {A = ℕ} placing_words 0)

    pub placing_buffer_lem : (short ≡ false → placing_words ≤ length old) → PlacingBuffer p r.number old (placing_after r (words_for p) old)
    placing_buffer_lem room =
        record {
          refused = λ h. sym (placed_nothing r (silent h) (words_for p) old);
          planned = λ e. (length_words_of (feedings_of p), (planned_words e (room (number_zero e).1)).0);
          held = λ e. (held_words e (room (number_twelve e).1)).0;
          as_grid = λ e.
              let z = number_zero e in
              let g = range z.0 in
              let can = feedings_sound p g z.2 in
              subst (λ words. SameFeedings words (grid_of (feedings_of p))) (sym (planned_words e (room z.1)).1)
              (same_feedings (feedings_of p) (λ j l. omega (arith, placing_rows p.sheet (feedings_of p) can j l, g.values.head.slots.le))
              (omega (arith, length_placing p.sheet (feedings_of p) can, g.values.head.rations)));
          held_as_grid = λ e. subst (λ words. SameFeedings words (replicate grid_bytes 0)) (sym (held_words e (room (number_twelve e).1)).1) no_feedings_lem;
        }

-- with both buffers lent
module _ {own : List Refusal} {s : Sheet} (checks : OwnChecks own s) (p : Problem) (in_range : ValuesInRange 0 s (length s.jobs) true → ProblemInRange p) where
  pub both_planned : (listing placing : List ℕ) → let r = first_refusal (plan_checks own (short_plan listing || short_placing placing) p) in
      PlanBuffer p r.number (listed_answer r (listing_of p)).length listing (listing_after r (listing_of p) listing)
      × PlacingBuffer p r.number placing (placing_after r (words_for p) placing)
  both_planned listing placing =
      let short = short_plan listing || short_placing placing in (
        plan_buffer_lem checks p in_range short listing (λ e. long_plan listing (or_false (short_plan listing) (short_placing placing) e).0),
        placing_buffer_lem checks p in_range short placing (λ e. long_placing placing (or_false (short_plan listing) (short_placing placing) e).1),
      )

-- whatever the checks of its sheet alone are, the answer is the first check that applies
module _ {own : List Refusal} {s : Sheet} (checks : OwnChecks own s) where
  pub first_planned : (p : Problem) (short : Bool) → let r = first_refusal (plan_checks own short p) in FirstOf (plan_checks own short p) r.number r.line
  first_planned p short = first_of (plan_checks own short p) (numbered_plan own checks.numbered short p)

  -- of a question too, with the check of its lists
  pub first_asked : (t : Bool) → let r = first_refusal (own ++ fault bad_list 0 t) in FirstOf (own ++ fault bad_list 0 t) r.number r.line
  first_asked t = first_of (own ++ fault bad_list 0 t) (numbered_one own checks.numbered bad_list t (omega arith))

-- a sheet planned alone
module _ {own : List Refusal} {s : Sheet} (checks : OwnChecks own s) where
  abbrev p : Problem
  p = alone s

  pub first_alone : (short : Bool) → let r = first_refusal (plan_checks own short p) in FirstOf (plan_checks own short p) r.number r.line
  first_alone = first_planned checks p

  pub buffer_alone : (listing : List ℕ) → let r = first_refusal (plan_checks own (short_plan listing) p) in
      PlanBuffer p r.number (listed_answer r (listing_of p)).length listing (listing_after r (listing_of p) listing)
  buffer_alone listing = plan_buffer_lem checks p (alone_in_range s) (short_plan listing) listing (long_plan listing)

  pub placing_alone : (placing : List ℕ) → let r = first_refusal (plan_checks own (short_placing placing) p) in
      PlacingBuffer p r.number placing (placing_after r (words_for p) placing)
  placing_alone placing = placing_buffer_lem checks p (alone_in_range s) (short_placing placing) placing (long_placing placing)

  pub both_alone : (listing placing : List ℕ) → let r = first_refusal (plan_checks own (short_plan listing || short_placing placing) p) in
      PlanBuffer p r.number (listed_answer r (listing_of p)).length listing (listing_after r (listing_of p) listing)
      × PlacingBuffer p r.number placing (placing_after r (words_for p) placing)
  both_alone = both_planned checks p (alone_in_range s)

-- where none of the checks of the sheet alone applies, it is a problem in range
pub bytes_in_range : (b : List ℕ) → faults b ≡ [] → ProblemInRange (alone (sheet_of b))
bytes_in_range b e = alone_in_range (sheet_of b) ((bytes_checked b).values e)

pub records_in_range : (s : Sheet) → record_faults s ≡ [] → ProblemInRange (alone s)
unfolding record_faults
records_in_range s e = alone_in_range s ((values_checked s).values e)

pub alone_is : (s : Sheet) → AloneIs s
alone_is s = record { left_is = left_alone s; room_is = room_alone s; may_is = may_alone s }

-- a question that is refused
pub zero_unless : (n : ℕ) (x : ℤ) → NotZero n → cond (eqb n 0) x (pos 0) ≡ pos 0
zero_unless n x h = rw (ne_eqb n 0 h)

pub no_unless : (n : ℕ) (x : Bool) → NotZero n → (eqb n 0 && x) ≡ false
no_unless n x h = rw (ne_eqb n 0 h)

-- .. and one that is not
pub shortfall_is : (s : Sheet) (marks : List ℕ) (n : ℕ) → n ≡ 0 → ShortfallOf s marks (cond (eqb n 0) (sheet_shortfall s marks) (pos 0))
unfolding sheet_shortfall
shortfall_is s marks n e = rw (eq-eqb n 0 e)

pub yes_for : {own : List Refusal} {s : Sheet} → OwnChecks own s → (lows highs : List ℕ) → let n = (first_refusal (own ++ fault bad_list 0 (bounds_fault s.slots lows highs))).number in
    n ≡ 0 → YesFor s lows highs (eqb n 0 && sheet_feasible s lows highs)
unfolding bounds_fault sheet_feasible
yes_for {own} {s} checks lows highs e =
    let t = bounds_fault s.slots lows highs in
    let p = append_nil_parts own (fault bad_list 0 t) (numbered_one own checks.numbered bad_list t (omega arith) e) in
    let o = or_false (not (eqb (length lows) s.slots)) (not (eqb (length highs) s.slots)) (false_fault bad_list 0 t p.1) in
    let l = eqb-true (length lows) s.slots (not-false _ o.0) in
    let h = eqb-true (length highs) s.slots (not-false _ o.1) in
    rw (eq-eqb (first_refusal (own ++ fault bad_list 0 t)).number 0 e)
    (feasible_iff_sound (windows_demands_of s) lows (cut_highs s.blowers highs) l (length_cut_highs s.blowers highs ∙ h))

pub numbered_compared : (a b : List ℕ) (p q : Problem) → Numbered (faults a ++ (held_faults p ++ (faults b ++ held_faults q)))
numbered_compared a b p q =
    numbered_append (faults a) _ (numbered_faults a)
    (numbered_append (held_faults p) _ (numbered_held p) (numbered_append (faults b) (held_faults q) (numbered_faults b) (numbered_held q)))

-- Calls that write a sheet -----------------------------------------------------------------------

pub sheet_buffer : (r : Refusal) (s : Sheet) (old : List ℕ) → (r.number ≡ 0 → length (write_sheet s) ≤ length old)
    → SheetBuffer s (written_of r s).number (written_of r s).length old (buffer_after r s old)
unfolding written_of buffer_after
sheet_buffer r s old room =
    record {
      refused = λ n. (written_of_refused r s n, buffer_after_refused r s old n);
      written = λ e. rw (eq-eqb r.number 0 e) (refl, length_write_sheet s, front_over (write_sheet s) old (room e));
    }

-- Calls that read a sheet --------------------------------------------------------------------------

-- a reading gives the first refusal, and no values where there is one
pub read_first : (b : List ℕ) → FirstOf (faults b) (reading_of b).number (reading_of b).line
unfolding reading_of reading_from accepted refused
read_first b = go (eqb (first_refusal (faults b)).number 0) refl (first_of (faults b) (numbered_faults b))
  where
    go : (t : Bool) → eqb (first_refusal (faults b)).number 0 ≡ t → FirstOf (faults b) (first_refusal (faults b)).number (first_refusal (faults b)).line
        → let r = cond t (accepted (sheet_of b)) (refused (first_refusal (faults b))) in FirstOf (faults b) r.number r.line
    go true q f =
        let z = numbered_faults b (eqb-true (first_refusal (faults b)).number 0 q) in
        record { first = λ r rest e. absurd (cons≢nil (sym e ∙ z)); accepted = λ e. (refl, refl); no_other = λ e. z }
    go false q f = f

pub read_nothing : (b : List ℕ) → NotZero (reading_of b).number → reading_of b ≡ refused (first_refusal (faults b))
unfolding reading_of reading_from accepted refused
read_nothing b n = go (eqb (first_refusal (faults b)).number 0) n
  where
    go : (t : Bool) → NotZero (cond t (accepted (sheet_of b)) (refused (first_refusal (faults b)))).number
        → cond t (accepted (sheet_of b)) (refused (first_refusal (faults b))) ≡ refused (first_refusal (faults b))
    go true n = absurd (n refl)
    go false n = refl

-- the checks of a sheet that records make
pub records_checked : (s : Sheet) → OwnChecks (record_faults s) s
unfolding record_faults
records_checked s = values_checked s

-- where no check of the values and of the buffer applies, the buffer is long enough
pub write_room : (own : List Refusal) → Numbered own → (size need : ℕ) → (first_refusal (own ++ fault short_buffer 0 (ltb size need))).number ≡ 0 → need ≤ size
write_room own h size need e =
    let p = append_nil_parts own (fault short_buffer 0 (ltb size need)) (numbered_one own h short_buffer (ltb size need) (omega arith) e) in
    ltb-false size need (false_fault short_buffer 0 (ltb size need) p.1)

-- .. and what is written has a line for each of the n rations
pub room_sheet : (slots blowers wake n : ℕ) (numbers : List ℕ) (size : ℕ) → let s = sheet_from slots blowers wake numbers in
    (write_refusal s n numbers size).number ≡ 0 → length (write_sheet s) ≤ size
unfolding sheet_from
room_sheet slots blowers wake n numbers size e =
    let s = sheet_from slots blowers wake numbers in
    let a = write_accepted s n numbers size e in
    omega (arith, length_write_sheet s ∙ ap (λ k. line_bytes * suc k) (length_jobs_of n numbers (sym a.agrees)), a.room)

-- The program ----------------------------------------------------------------------------------------

pub program_text_lem : (b : List ℕ) → ProgramText (alone (sheet_of b)) (plan_refusal b false).number (plan_refusal b false).line (output b)
unfolding plan_refusal output
program_text_lem b =
    record {
      refused = λ h. rw (silent checks p (alone_in_range s) false h);
      planned = λ e. rw (writes_planned r.number e) (listing_plan p (number_zero checks p (alone_in_range s) false e).2);
      held = λ e. rw (writes_held r.number e) (listing_held p (number_twelve checks p (alone_in_range s) false e).2);
    }
  where
    s : Sheet
    s = sheet_of b

    p : Problem
    p = alone s

    checks : OwnChecks (faults b) s
    checks = bytes_checked b

    r : Refusal
    r = first_refusal (plan_checks (faults b) false p)
