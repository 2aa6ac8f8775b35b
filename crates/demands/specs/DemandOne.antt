-- Demand 1: no input breaks a call. Whatever bytes, lists and buffers are lent, the call returns and takes no undefined
-- step; it gives the number and the line of its first fault, as section 12 of docs/specification.md lists them, and
-- each lent byte and word is then what section 13 says.
--
-- That a call comes to its end, and takes no undefined step on the way, is not a statement about its answer: it is what
-- the prover shows of every function before it accepts a crate, and no call for outsiders asks anything of its caller.
-- The rest is the theorem `demand_one`: of each call, over all bytes, lists and buffers, that the number and the line
-- are those of the first of its checks that applies, and what is then in each lent buffer. A field is named by its call
-- and speaks of what the call's contract says that it answers and leaves; Answers.antt has the sentences of document
-- 01. A list that a call only reads can't change, and is not spoken of. Assumes nothing.
use Rattle.std.specs.Prelude.{◌≡◌, ◌⊎◌, false, ◌||◌, not, List, [], ◌∷◌, ◌++◌, ℕ, suc, ◌*◌, ◌≤◌, ◌<◌, ltb, eqb, pos, length, take, replicate}
use Rattle.common.specs.Lists.{count}
use Rattle.lookup.specs.declared.Part.{Part}
use Rattle.line.specs.Layout.{line_bytes, fields}
use Rattle.checks.specs.Limits.{max_rations}
use Rattle.checks.specs.Refusals.{bad_length, bad_form, no_placing}
use Rattle.checks.specs.Sheet.{Sheet, sheet_of, sheet_from, write_sheet}
use Rattle.checks.specs.Checks.{outside, value_faults, faults}
use Rattle.checks.specs.CallChecks.{buffer_checks, question_checks, comparison_checks, halls_checks}
use Rattle.sheet.specs.Calls.{reading_of, write_refusal, written_of, buffer_after, write_refusal_for}
use Rattle.lookup.specs.LookUp.{look_up, place_of}
use Rattle.practice.specs.Practice.{practice_sheet, practice_refusal, seed_input}
use Rattle.schedules.specs.Shortfall.{forced}
use Rattle.schedules.specs.Demands.{demands_of}
use Rattle.questions.specs.Calls.{shortfall_for, shortfall_of, bounds_fault, bounds_for, bounds_of}
use Rattle.marks.specs.Marks.{marks_fault}
use Rattle.plan_lines.specs.Text.{held_text, refusal_text}
use Rattle.planning.specs.Problem.{alone, can_be_planned, shown_set, held_listing, listing_of, words_for}
use Rattle.planning.specs.Planning.{plan_checks, plan_refusal, short_plan, short_placing, listed_answer, unlisted_answer, listing_after, placing_after, plan_refusal_for}
use Rattle.plan_order.specs.declared.Order.TheVariants.{No}
use Rattle.plan_order.specs.Order.{order_number}
use Rattle.comparison.specs.Comparison.{compared_of}
use Rattle.causes.specs.CauseCalls.{endings_of, short_causes, causes_answer, causes_after}
use Rattle.halls.specs.Halls.{Hall, four, halls_faults, nothing, outcome_of, halls_answer}
use Rattle.shares.specs.Shares.{share_problem, share_refusal, share_answer}
use Rattle.program.specs.Program.{explanation_of}
use Rattle.records.specs.declared.Ration.{Ration}
use Rattle.records.specs.Records.{record_sheet, record_faults}
use Rattle.demands.specs.Answers.{FirstOf, NotZero, ShortfallOf, YesFor, NoLineOf, PlanBuffer, PlacingBuffer, CausesListed, CausesBuffer, SheetBuffer, program_text, why_text, practice_text, ProgramText}
use Rattle.demands.specs.Outcome.{AloneIs}
use Rattle.demands.specs.Halls.{hall_in, answer_in, problem_in, HallIs, HallAnswer}
use Rattle.demands.specs.Shares.{CutIs, problem_at}

pub record DemandOne : Type 0 where
  -- Sheets: the checks 1 to 9 and 13 of bytes, 3 to 9 and 13 of values, 10 where a sheet is written --------

  -- of a refused sheet all values are 0
  pub read : (b : List ℕ) → let r = reading_of b in
      FirstOf (faults b) r.number r.line
      × (NotZero r.number → (r.slots ≡ 0) × (r.blowers ≡ 0) × (r.wake ≡ 0) × (r.rations ≡ 0) × (r.numbers ≡ replicate (fields * max_rations) 0))
  -- 6 also where the list is not four numbers for each of n rations
  pub write : (slots blowers wake n : ℕ) (numbers out : List ℕ) → let s = sheet_from slots blowers wake numbers in
      let r = write_refusal s n numbers (length out) in let a = written_of r s in
      FirstOf (buffer_checks (value_faults s n (eqb (fields * n) (length numbers))) (ltb (length out) (line_bytes * suc n))) a.number a.line
      × SheetBuffer s a.number a.length out (buffer_after r s out)
  -- of a practice sheet 10 alone, where the buffer is too short for it
  pub practice : (seed : ℕ) (out : List ℕ) → let s = practice_sheet seed in
      let r = practice_refusal seed (length out) in let a = written_of r s in
      FirstOf (buffer_checks [] (ltb (length out) (line_bytes * suc (length s.jobs)))) a.number a.line
      × SheetBuffer s a.number a.length out (buffer_after r s out)
  -- a look-up is empty where the sheet is refused, and where it lacks the tank
  pub find : (b : List ℕ) (tank : ℕ) → ((faults b ≡ [] → ⊥) → look_up b tank ≡ []) × (NoLineOf b tank → look_up b tank ≡ [])
  -- the same by where the lines are, as C has it
  pub place : (b : List ℕ) (tank : ℕ) → let nowhere : Part = record { start = 0; length = 0 } in
      ((faults b ≡ [] → ⊥) → place_of b tank ≡ nowhere) × (NoLineOf b tank → place_of b tank ≡ nowhere)
  -- Questions: 11 after the checks of the sheet; on any refusal 0 or no, otherwise the right answer -----------

  pub shortfall : (b marks : List ℕ) → let r = shortfall_of b marks in
      FirstOf (question_checks (faults b) (marks_fault (sheet_of b).slots marks)) r.number r.line
      × (NotZero r.number → r.shortfall ≡ pos 0) × (r.number ≡ 0 → ShortfallOf (sheet_of b) marks r.shortfall)
  pub bounds : (b lows highs : List ℕ) → let r = bounds_of b lows highs in
      FirstOf (question_checks (faults b) (bounds_fault (sheet_of b).slots lows highs)) r.number r.line
      × (NotZero r.number → r.yes ≡ false) × (r.number ≡ 0 → YesFor (sheet_of b) lows highs r.yes)
  -- Planning: 10, then 12, after the checks of the sheet ------------------------------------------

  -- 10 where the plan buffer is too short
  pub plan : (b listing : List ℕ) → let p = alone (sheet_of b) in let short = short_plan listing in
      let r = plan_refusal b short in let a = listed_answer r (listing_of p) in
      FirstOf (plan_checks (faults b) short p) a.number a.line
      × PlanBuffer p a.number a.length listing (listing_after r (listing_of p) listing)
  -- without a plan buffer the length is 0, whatever the number, and on 12 the placing buffer alone changes
  pub plan_placing : (b placing : List ℕ) → let p = alone (sheet_of b) in let short = short_placing placing in
      let r = plan_refusal b short in let a = unlisted_answer r in
      FirstOf (plan_checks (faults b) short p) a.number a.line
      × (a.length ≡ 0) × PlacingBuffer p a.number placing (placing_after r (words_for p) placing)
  -- a buffer that is too short, whichever it is, leaves both unchanged
  pub plan_both : (b listing placing : List ℕ) → let p = alone (sheet_of b) in let short = short_plan listing || short_placing placing in
      let r = plan_refusal b short in let a = listed_answer r (listing_of p) in
      FirstOf (plan_checks (faults b) short p) a.number a.line
      × PlanBuffer p a.number a.length listing (listing_after r (listing_of p) listing) × PlacingBuffer p a.number placing (placing_after r (words_for p) placing)
  pub plan_number : (b : List ℕ) → let a = unlisted_answer (plan_refusal b false) in
      FirstOf (plan_checks (faults b) false (alone (sheet_of b))) a.number a.line × (a.length ≡ 0)
  -- the first sheet is checked to the end, 12 too, before the second; the answer is no where one of them is refused
  pub compare : (a b : List ℕ) → let r = compared_of a b in
      FirstOf (comparison_checks (faults a) (not (can_be_planned (alone (sheet_of a)))) (faults b) (not (can_be_planned (alone (sheet_of b))))) r.number r.line
      × (NotZero r.number → r.order ≡ order_number No)
  -- Short rations: 10 after the checks of the sheet; 12 is not among them, and on any refusal the share is 0 ----------

  -- what is planned is the sheet cut to the share answered, as `cut_is` says; `plan_share` of demand 3 says that it is
  -- the greatest
  pub plan_share : (b listing placing : List ℕ) → let short = short_plan listing || short_placing placing in
      let r = share_refusal b short in let p = share_problem (sheet_of b) in let a = share_answer r (sheet_of b) in
      FirstOf (buffer_checks (faults b) short) a.number a.line
      × ¬ (a.number ≡ no_placing) × (NotZero a.number → a.share ≡ 0)
      × PlanBuffer (problem_at b a) a.number a.length listing (listing_after r (listing_of p) listing)
      × PlacingBuffer (problem_at b a) a.number placing (placing_after r (words_for p) placing)
  -- where `plan_both` gives 0 the share is 100, and all else is as `plan_both` has it
  pub share_whole : (b listing placing : List ℕ) → let short = short_plan listing || short_placing placing in
      let r = plan_refusal b short in let p = alone (sheet_of b) in let a = listed_answer r (listing_of p) in
      let q = share_refusal b short in let c = share_problem (sheet_of b) in r.number ≡ 0 →
      (share_answer q (sheet_of b) ≡ record { number = a.number; line = a.line; length = a.length; share = 100 })
      × (listing_after q (listing_of c) listing ≡ listing_after r (listing_of p) listing)
      × (placing_after q (words_for c) placing ≡ placing_after r (words_for p) placing)
      × (listing_after q (listing_of c) listing ≡ listing_after (plan_refusal b (short_plan listing)) (listing_of p) listing)
  -- where it gives 12 the share is smaller
  pub share_held : (b listing placing : List ℕ) → let short = short_plan listing || short_placing placing in
      (plan_refusal b short).number ≡ no_placing → (share_answer (share_refusal b short) (sheet_of b)).share < 100
  -- Halls: 14 before all sheets; then each hall has the checks of a planning call, under its own highs ------------

  -- 32 and 4 are the paper's numbers. With 14, and for a hall that is not there: zeros, and buffers as they were. A
  -- hall's problem is as `hall_is` says, and `halls_used` of demand 3 says what the halls before it use
  pub plan_halls : (limit halls : ℕ) (a b c d : Hall) → let hs = four a b c d in let r = halls_answer limit halls hs in
      FirstOf (halls_checks (outside 1 32 limit) (outside 1 4 halls)) r.number r.line
      × ((i : ℕ) → i < 4 → (NotZero r.number ⊎ (halls ≤ i)) → (answer_in r i ≡ nothing) × ((outcome_of limit halls hs i).buffers ≡ (hall_in hs i).buffers))
      × (r.number ≡ 0 → (i : ℕ) → i < halls → HallAnswer (problem_in limit hs i) (hall_in hs i) (answer_in r i) (outcome_of limit halls hs i).buffers)
  -- what is answered for a hall, and left in its buffers, depends on it and the halls before it alone
  pub halls_earlier : (limit halls : ℕ) (hs ks : List Hall) (i : ℕ) → i < 4 → take (suc i) hs ≡ take (suc i) ks
      → (answer_in (halls_answer limit halls hs) i ≡ answer_in (halls_answer limit halls ks) i)
      × ((outcome_of limit halls hs i).buffers ≡ (outcome_of limit halls ks i).buffers)
  -- a hall h that is refused, by whatever number, leaves the halls after it as if it were not there: as in a call for
  -- one hall less, to which some hall z is lent last
  pub halls_without : (limit n : ℕ) → halls_faults limit n ≡ [] → halls_faults limit (suc n) ≡ [] → (xs : List Hall) (h : Hall) (ys : List Hall) (z : Hall)
      → length (xs ++ ys) ≡ 3 → length xs ≤ n
      → NotZero (answer_in (halls_answer limit (suc n) (xs ++ (h ∷ ys))) (length xs)).number → (j : ℕ) → length xs ≤ j → j < n
      → (answer_in (halls_answer limit (suc n) (xs ++ (h ∷ ys))) (suc j) ≡ answer_in (halls_answer limit n (xs ++ (ys ++ (z ∷ [])))) j)
      × ((outcome_of limit (suc n) (xs ++ (h ∷ ys)) (suc j)).buffers ≡ (outcome_of limit n (xs ++ (ys ++ (z ∷ []))) j).buffers)
  -- the first hall, or the only one, has the answer and buffers of `plan_both` under a limit of at least its blowers
  pub hall_alone : (limit halls : ℕ) → halls_faults limit halls ≡ [] → (h : Hall) (hs : List Hall) → (sheet_of h.bytes).blowers ≤ limit
      → let p = alone (sheet_of h.bytes) in let r = plan_refusal h.bytes (short_plan h.buffers.listing || short_placing h.buffers.placing) in
      (answer_in (halls_answer limit halls (h ∷ hs)) 0 ≡ listed_answer r (listing_of p))
      × ((outcome_of limit halls (h ∷ hs) 0).buffers.listing ≡ listing_after r (listing_of p) h.buffers.listing)
      × ((outcome_of limit halls (h ∷ hs) 0).buffers.placing ≡ placing_after r (words_for p) h.buffers.placing)
  -- Causes: the checks of a planning call, with 10 for a buffer under 65,536 bytes; on 12 the buffer is as it was
  pub causes : (b out : List ℕ) → let p = alone (sheet_of b) in let short = short_causes out in
      let r = plan_refusal b short in let a = causes_answer r (endings_of p) in
      FirstOf (plan_checks (faults b) short p) a.number a.line
      × CausesBuffer p a.number a.length a.cut out (causes_after r (endings_of p) out)
  -- Rations lent as records: the sheet that they make, with the checks 3 to 9 and 13 --------------

  pub write_rations : (slots blowers wake : ℕ) (rations : List Ration) (out : List ℕ) → let s = record_sheet slots blowers wake rations in
      let r = write_refusal_for (record_faults s) s (length out) in let a = written_of r s in
      FirstOf (buffer_checks (record_faults s) (ltb (length out) (line_bytes * suc (length s.jobs)))) a.number a.line
      × SheetBuffer s a.number a.length out (buffer_after r s out)
  pub shortfall_rations : (slots blowers wake : ℕ) (rations : List Ration) (marks : List ℕ) → let s = record_sheet slots blowers wake rations in
      let r = shortfall_for (record_faults s) s marks in
      FirstOf (question_checks (record_faults s) (marks_fault s.slots marks)) r.number r.line
      × (NotZero r.number → r.shortfall ≡ pos 0) × (r.number ≡ 0 → ShortfallOf s marks r.shortfall)
  pub bounds_rations : (slots blowers wake : ℕ) (rations : List Ration) (lows highs : List ℕ) → let s = record_sheet slots blowers wake rations in
      let r = bounds_for (record_faults s) s lows highs in
      FirstOf (question_checks (record_faults s) (bounds_fault s.slots lows highs)) r.number r.line
      × (NotZero r.number → r.yes ≡ false) × (r.number ≡ 0 → YesFor s lows highs r.yes)
  pub plan_rations : (slots blowers wake : ℕ) (rations : List Ration) (listing : List ℕ) → let s = record_sheet slots blowers wake rations in
      let p = alone s in let short = short_plan listing in let r = plan_refusal_for (record_faults s) s short in let a = listed_answer r (listing_of p) in
      FirstOf (plan_checks (record_faults s) short p) a.number a.line
      × PlanBuffer p a.number a.length listing (listing_after r (listing_of p) listing)
  pub plan_rations_both : (slots blowers wake : ℕ) (rations : List Ration) (listing placing : List ℕ) → let s = record_sheet slots blowers wake rations in
      let p = alone s in let short = short_plan listing || short_placing placing in let r = plan_refusal_for (record_faults s) s short in let a = listed_answer r (listing_of p) in
      FirstOf (plan_checks (record_faults s) short p) a.number a.line
      × PlanBuffer p a.number a.length listing (listing_after r (listing_of p) listing) × PlacingBuffer p a.number placing (placing_after r (words_for p) placing)
  -- The program: what it writes for its input -----------------------------------------------------

  pub program : (b : List ℕ) → let r = plan_refusal b false in let p = alone (sheet_of b) in
      FirstOf (plan_checks (faults b) false p) r.number r.line × ProgramText p r.number r.line (program_text b)
  -- an input of more than 65,520 bytes is refused whatever it holds: no more than 65,521 need be read
  pub program_too_long : (b : List ℕ) → 65520 < length b → program_text b ≡ refusal_text bad_length 0
  -- the program `why`: the causes' listing where its input is planned, and on every refusal, 12 too, what the planner
  -- writes
  pub why : (b : List ℕ) → let n = (plan_refusal b false).number in let p = alone (sheet_of b) in
      (n ≡ 0 → CausesListed p (explanation_of b).cut (why_text b))
      × (NotZero n → (why_text b ≡ program_text b) × ((explanation_of b).cut ≡ false))
  -- the program of practice sheets: a seed from 0 to 99,999 as one field closed by byte 10, and number 2, line 1, for
  -- any other input
  pub practice_program : ((seed : ℕ) → seed ≤ 99999 → practice_text (seed_input seed) ≡ write_sheet (practice_sheet seed))
      × ((b : List ℕ) → ((seed : ℕ) → seed ≤ 99999 → b ≡ seed_input seed → ⊥) → practice_text b ≡ refusal_text bad_form 1)
  -- A sheet planned alone -------------------------------------------------------------------------

  -- its rations, and m blowers in every slot; any sound placing may be taken
  pub alone_is : (s : Sheet) → AloneIs s
  -- where it is held, the listing has Q, what its rations force into Q, and |Q| × m
  pub held_is : (s : Sheet) → let q = shown_set (alone s) in held_listing (alone s) ≡ held_text q (forced (demands_of s) q) (count q * s.blowers)
  -- a hall: its rations, and in each slot the smaller of its own blowers and the limit less what earlier halls use
  pub hall_is : (limit : ℕ) (used : List ℕ) (h : Hall) → HallIs limit used h
  -- a sheet cut to a share: the rations in their places, with volume × share / 100, rounded down
  pub cut_is : (share : ℕ) (s : Sheet) → CutIs share s
