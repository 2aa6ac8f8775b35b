-- Demand 2: a plan is the method's. For a well-formed sheet that has a sound placing, and buffers that are long enough,
-- the counts of the slots, the feedings, the stretches and the energy are those of Parallel Left-to-Right, sections 5
-- to 7 of docs/specification.md. A sheet that is written and read loses no value, and an accepted sheet that is read
-- and written loses no byte.
--
-- The theorem `demand_two` says it of each call that plans, over the lines of the listing that it wrote or the placing
-- that it marked, and of reading and writing. A field is named by its call; ByMethod.antt says what is asked of a plan.
-- A sheet is well-formed where none of the checks of the sheet alone applies: 1 to 9 and 13, and of records 3 to 9 and
-- 13. Assumes nothing.
use Rattle.std.specs.Prelude.{◌≡◌, ◌↔◌, false, ◌||◌, List, [], ℕ, suc, ◌*◌, ◌≤◌, ◌<◌, length, take}
use Rattle.line.specs.Layout.{fields, line_bytes}
use Rattle.checks.specs.Sheet.{Sheet, sheet_of, numbers_of, sheet_from}
use Rattle.checks.specs.Checks.{faults}
use Rattle.sheet.specs.Calls.{reading_of, write_refusal, write_refusal_for, written_of, buffer_after}
use Rattle.common.specs.Buffers.{over}
use Rattle.practice.specs.Practice.{practice_sheet, practice_refusal, seed_input}
use Rattle.schedules.specs.Demands.{demands_of}
use Rattle.method.specs.Method.{day_bounds}
use Rattle.method.specs.Worded.{settle_all_worded, runs_worded, bounds_worded}
use Rattle.plan_lines.specs.Sizes.{plan_bytes, placing_words, causes_bytes}
use Rattle.planning.specs.Problem.{alone, listing_of, words_for}
use Rattle.planning.specs.Planning.{plan_refusal_for, plan_refusal, short_plan, short_placing, listed_answer, unlisted_answer, listing_after, placing_after}
use Rattle.planning.specs.ReadListing.{written, lines_of}
use Rattle.plan_order.specs.declared.Order.TheVariants.{Same, Before, After}
use Rattle.plan_order.specs.Order.{order_number}
use Rattle.plan_order.specs.TotalOrder.{TotalOrder}
use Rattle.comparison.specs.Comparison.{compared_of}
use Rattle.comparison.specs.OnListings.{slots_and_tanks, order_of_listings}
use Rattle.causes.specs.CauseCalls.{endings_of, short_causes, causes_answer, causes_after}
use Rattle.causes.specs.ReadCauses.{entries_in, written_causes}
use Rattle.halls.specs.Halls.{Hall, four, outcome_of, halls_answer}
use Rattle.cuts.specs.Cuts.{cut_sheet}
use Rattle.shares.specs.Shares.{share_problem, share_refusal, share_answer}
use Rattle.program.specs.Program.{explanation_of}
use Rattle.records.specs.declared.Ration.{Ration}
use Rattle.records.specs.Records.{record_sheet, record_faults}
use Rattle.demands.specs.Answers.{program_text, why_text, practice_text, ValuesRead}
use Rattle.demands.specs.Outcome.{AloneIs, placing_in}
use Rattle.demands.specs.ByMethod.{HasPlacing, settled, runs_of, ChosenByMethod, ByMethod}
use Rattle.demands.specs.Comparison.{PlannedSheet, Answered, lines_planned}
use Rattle.demands.specs.Causes.{CausesByMethod}
use Rattle.demands.specs.Halls.{hall_in, answer_in, problem_in, HallIs}
use Rattle.demands.specs.Shares.{CutIs, problem_at, written_share}

pub record DemandTwo : Type 0 where
  -- Planning a sheet's bytes ----------------------------------------------------------------------

  pub plan : (b listing : List ℕ) → let p = alone (sheet_of b) in faults b ≡ [] → HasPlacing p → plan_bytes ≤ length listing →
      let r = plan_refusal b (short_plan listing) in let a = listed_answer r (listing_of p) in
      (a.number ≡ 0) × ByMethod p (lines_of (written a (listing_after r (listing_of p) listing)))
  pub plan_both : (b listing placing : List ℕ) → let p = alone (sheet_of b) in faults b ≡ [] → HasPlacing p → plan_bytes ≤ length listing → placing_words ≤ length placing →
      let r = plan_refusal b (short_plan listing || short_placing placing) in let a = listed_answer r (listing_of p) in
      (a.number ≡ 0) × ByMethod p (lines_of (written a (listing_after r (listing_of p) listing)))
      × ChosenByMethod p (placing_in (sheet_of b) (placing_after r (words_for p) placing))
  pub plan_placing : (b placing : List ℕ) → let p = alone (sheet_of b) in faults b ≡ [] → HasPlacing p → placing_words ≤ length placing →
      let r = plan_refusal b (short_placing placing) in
      ((unlisted_answer r).number ≡ 0) × ChosenByMethod p (placing_in (sheet_of b) (placing_after r (words_for p) placing))
  pub plan_number : (b : List ℕ) → faults b ≡ [] → HasPlacing (alone (sheet_of b)) → (unlisted_answer (plan_refusal b false)).number ≡ 0
  -- a comparison says which plan comes first, by D and the feed lines that `plan` writes for the two sheets; it says
  -- same exactly where D agrees, and slot and tank of every feed line
  pub compare : (a b : PlannedSheet) → let s = sheet_of a.bytes in let t = sheet_of b.bytes in let r = compared_of a.bytes b.bytes in
      (r.number ≡ 0)
      × ((listing other : List ℕ) → plan_bytes ≤ length listing → plan_bytes ≤ length other →
      let ls = lines_planned a.bytes listing in let ks = lines_planned b.bytes other in
      (r.order ≡ order_number (order_of_listings s.slots ls t.slots ks))
      × ((r.order ≡ order_number Same) ↔ ((s.slots ≡ t.slots) × (slots_and_tanks ls ≡ slots_and_tanks ks))))
  -- what it says is a total order on the sheets that are planned
  pub compare_order : TotalOrder PlannedSheet (Answered Before) (Answered Same) (Answered After)
  -- where it says same, the method gives each slot the same count
  pub compare_counts : (a b : PlannedSheet) → let p = alone (sheet_of a.bytes) in let q = alone (sheet_of b.bytes) in
      Answered Same a b → (p.sheet.slots ≡ q.sheet.slots) × ((settled p).low ≡ (settled q).low)
  -- the causes listed are those of the stretches that the method ends, in its order, under the bounds that it has then
  pub causes : (b out : List ℕ) → let p = alone (sheet_of b) in faults b ≡ [] → HasPlacing p → causes_bytes ≤ length out →
      let r = plan_refusal b (short_causes out) in let a = causes_answer r (endings_of p) in
      (a.number ≡ 0) × CausesByMethod p a.cut (entries_in (written_causes a (causes_after r (endings_of p) out)))
  -- a hall that is there: by the method under the highs that the halls before it leave, as `hall_is` says; what these
  -- use is in `halls_used` of demand 3
  pub plan_halls : (limit halls : ℕ) (a b c d : Hall) → let hs = four a b c d in let r = halls_answer limit halls hs in
      r.number ≡ 0 → (i : ℕ) → i < halls → let h = hall_in hs i in let p = problem_in limit hs i in let x = answer_in r i in let o = (outcome_of limit halls hs i).buffers in
      faults h.bytes ≡ [] → HasPlacing p → plan_bytes ≤ length h.buffers.listing → placing_words ≤ length h.buffers.placing →
      (x.number ≡ 0) × ByMethod p (lines_of (written x o.listing)) × ChosenByMethod p (placing_in (sheet_of h.bytes) o.placing)
  pub hall_is : (limit : ℕ) (used : List ℕ) (h : Hall) → HallIs limit used h
  -- Short rations: the sheet cut to the share answered, which always has a placing ------------------

  -- by the method; `plan_share` of demand 3 says that the share is the greatest
  pub plan_share : (b listing placing : List ℕ) → faults b ≡ [] → plan_bytes ≤ length listing → placing_words ≤ length placing →
      let r = share_refusal b (short_plan listing || short_placing placing) in let p = share_problem (sheet_of b) in let a = share_answer r (sheet_of b) in
      (a.number ≡ 0) × ByMethod (problem_at b a) (lines_of (written_share a (listing_after r (listing_of p) listing)))
      × ChosenByMethod (problem_at b a) (placing_in (cut_sheet a.share (sheet_of b)) (placing_after r (words_for p) placing))
  pub cut_is : (share : ℕ) (s : Sheet) → CutIs share s
  -- Planning rations lent as records --------------------------------------------------------------

  pub plan_rations : (slots blowers wake : ℕ) (rations : List Ration) (listing : List ℕ) → let s = record_sheet slots blowers wake rations in let p = alone s in
      record_faults s ≡ [] → HasPlacing p → plan_bytes ≤ length listing → let r = plan_refusal_for (record_faults s) s (short_plan listing) in let a = listed_answer r (listing_of p) in
      (a.number ≡ 0) × ByMethod p (lines_of (written a (listing_after r (listing_of p) listing)))
  pub plan_rations_both : (slots blowers wake : ℕ) (rations : List Ration) (listing placing : List ℕ) → let s = record_sheet slots blowers wake rations in let p = alone s in
      record_faults s ≡ [] → HasPlacing p → plan_bytes ≤ length listing → placing_words ≤ length placing →
      let r = plan_refusal_for (record_faults s) s (short_plan listing || short_placing placing) in let a = listed_answer r (listing_of p) in
      (a.number ≡ 0) × ByMethod p (lines_of (written a (listing_after r (listing_of p) listing))) × ChosenByMethod p (placing_in s (placing_after r (words_for p) placing))
  -- The program: what it writes -------------------------------------------------------------------

  pub program : (b : List ℕ) → let p = alone (sheet_of b) in faults b ≡ [] → HasPlacing p → ByMethod p (lines_of (program_text b))
  pub why : (b : List ℕ) → let p = alone (sheet_of b) in faults b ≡ [] → HasPlacing p → CausesByMethod p (explanation_of b).cut (entries_in (why_text b))
  -- what the program of practice sheets writes for a seed
  pub practice_program : (seed : ℕ) → seed ≤ 99999 → let p = alone (practice_sheet seed) in let b = practice_text (seed_input seed) in
      (faults b ≡ []) × ValuesRead (practice_sheet seed) (reading_of b) × (HasPlacing p → ByMethod p (lines_of (program_text b)))
  -- A sheet planned alone: the method as document 01 words it -----------------------------------------

  -- its rations, and m blowers in every slot; any sound placing will do
  pub alone_is : (s : Sheet) → AloneIs s
  -- the idle step sets high to k − 1, whatever it was; the bounds settled and the runs taken are the same
  pub worded : (s : Sheet) → (settled (alone s) ≡ settle_all_worded s.slots (demands_of s) s.blowers (day_bounds s.slots s.blowers))
      × ((k : ℕ) → k ≤ s.blowers → runs_of (alone s) k ≡ runs_worded s.slots (demands_of s) k s.slots 1 (bounds_worded s.slots (demands_of s) s.blowers k (day_bounds s.slots s.blowers)))
  -- Sheets written and read again -----------------------------------------------------------------

  -- an accepted sheet, read and written again into a buffer that can hold it, has its own bytes
  pub read_write : (b out : List ℕ) → faults b ≡ [] → length b ≤ length out → let v = reading_of b in let numbers = take (fields * v.rations) v.numbers in
      let s = sheet_from v.slots v.blowers v.wake numbers in let r = write_refusal s v.rations numbers (length out) in
      ((written_of r s).number ≡ 0) × ((written_of r s).length ≡ length b) × (buffer_after r s out ≡ over b out)
  -- values that were written, read again from the bytes written, are the same values
  pub write_read : (slots blowers wake n : ℕ) (numbers out : List ℕ) → let s = sheet_from slots blowers wake numbers in
      let r = write_refusal s n numbers (length out) in let v = reading_of (take (written_of r s).length (buffer_after r s out)) in
      (written_of r s).number ≡ 0
      → (v.number ≡ 0) × (v.slots ≡ slots) × (v.blowers ≡ blowers) × (v.wake ≡ wake) × (v.rations ≡ n) × (take (fields * n) v.numbers ≡ numbers)
  -- the same where the rations are written from records
  pub read_write_rations : (b out : List ℕ) (rations : List Ration) → faults b ≡ [] → length b ≤ length out → let v = reading_of b in
      let s = record_sheet v.slots v.blowers v.wake rations in let r = write_refusal_for (record_faults s) s (length out) in
      numbers_of s.jobs ≡ take (fields * v.rations) v.numbers
      → ((written_of r s).number ≡ 0) × ((written_of r s).length ≡ length b) × (buffer_after r s out ≡ over b out)
  pub write_rations_read : (slots blowers wake : ℕ) (rations : List Ration) (out : List ℕ) → let s = record_sheet slots blowers wake rations in
      let r = write_refusal_for (record_faults s) s (length out) in let v = reading_of (take (written_of r s).length (buffer_after r s out)) in
      (written_of r s).number ≡ 0
      → (v.number ≡ 0) × (v.slots ≡ slots) × (v.blowers ≡ blowers) × (v.wake ≡ wake) × (v.rations ≡ length rations)
      × (take (fields * length rations) v.numbers ≡ numbers_of s.jobs)
  -- a practice sheet passes the checks 1 to 9 and 13, and is read again to the values drawn; so a plan of it is the
  -- method's for these values
  pub practice : (seed : ℕ) (out : List ℕ) → let s = practice_sheet seed in line_bytes * suc (length s.jobs) ≤ length out →
      let w = practice_refusal seed (length out) in let b = take (written_of w s).length (buffer_after w s out) in
      ((written_of w s).number ≡ 0) × (faults b ≡ []) × ValuesRead s (reading_of b)
  pub practice_plan : (seed : ℕ) (out listing : List ℕ) → let s = practice_sheet seed in let p = alone s in
      line_bytes * suc (length s.jobs) ≤ length out → HasPlacing p → plan_bytes ≤ length listing →
      let w = practice_refusal seed (length out) in let b = take (written_of w s).length (buffer_after w s out) in
      let r = plan_refusal b (short_plan listing) in let text = listing_of (alone (sheet_of b)) in let a = listed_answer r text in
      (a.number ≡ 0) × ByMethod p (lines_of (written a (listing_after r text listing)))
