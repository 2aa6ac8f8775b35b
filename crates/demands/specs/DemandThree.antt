-- Demand 3: number 12 means that no plan exists, and no stretch stops early. Of a well-formed sheet, with buffers that
-- are long enough, planning gives 12 if and only if the sheet has no sound placing; the listing then shows slots into
-- which more is forced than the blowers can feed in them, with both numbers. No set of slots has a greater shortfall
-- than the set shown, and it is contained in each that has as great a one. A plan's feedings are a sound placing that
-- keeps every stretch of the plan; and for a stretch that ends before slot D, no sound placing keeps those settled
-- earlier and carries it a slot further.
--
-- The theorem `demand_three` says it of each call that plans, over what the call wrote. A field is named by its call;
-- Outcome.antt says what is asked of a number and a listing, and explains the demand's words. A sheet is well-formed
-- where none of the checks of the sheet alone applies: 1 to 9 and 13, and of records 3 to 9 and 13. Assumes nothing.
use Rattle.std.specs.Prelude.{◌≡◌, ◌⊎◌, ◌↔◌, false, ◌||◌, List, [], ℕ, suc, ◌*◌, ◌≤◌, ◌<◌, length, get_or, take}
use Rattle.line.specs.Layout.{line_bytes}
use Rattle.checks.specs.Refusals.{no_placing}
use Rattle.checks.specs.Sheet.{Sheet, sheet_of}
use Rattle.checks.specs.Checks.{faults}
use Rattle.sheet.specs.Calls.{written_of, buffer_after}
use Rattle.theory.specs.Sums.{sum}
use Rattle.practice.specs.Practice.{practice_sheet, practice_refusal, seed_input}
use Rattle.plan_lines.specs.Sizes.{plan_bytes, placing_words, causes_bytes}
use Rattle.planning.specs.Problem.{alone, MayPlace, listing_of, words_for}
use Rattle.planning.specs.Planning.{plan_refusal_for, plan_refusal, short_plan, short_placing, listed_answer, unlisted_answer, listing_after, placing_after}
use Rattle.planning.specs.ReadListing.{written, lines_of, head_line, stretch_part}
use Rattle.comparison.specs.Comparison.{compared_of}
use Rattle.causes.specs.CauseCalls.{endings_of, short_causes, causes_answer, causes_after}
use Rattle.causes.specs.ReadCauses.{entries_in, written_causes}
use Rattle.halls.specs.Halls.{Hall, four, used_before, outcome_of, halls_answer}
use Rattle.cuts.specs.Cuts.{cut_sheet}
use Rattle.shares.specs.Shares.{share_problem, share_refusal, share_answer}
use Rattle.program.specs.Program.{explanation_of}
use Rattle.records.specs.declared.Ration.{Ration}
use Rattle.records.specs.Records.{record_sheet, record_faults}
use Rattle.demands.specs.Answers.{program_text, why_text, practice_text}
use Rattle.demands.specs.Outcome.{AloneIs, NoneSound, PlannedOrHeld, Outcome, placing_in, SamePlacing}
use Rattle.demands.specs.Causes.{CausesShown}
use Rattle.demands.specs.Halls.{hall_in, answer_in, problem_in, HallIs, busy_in}
use Rattle.demands.specs.Shares.{CutIs, problem_at, written_share, IsGreatestShare}

pub record DemandThree : Type 0 where
  -- A sheet's bytes -------------------------------------------------------------------------------

  pub plan : (b listing : List ℕ) → let p = alone (sheet_of b) in faults b ≡ [] → plan_bytes ≤ length listing →
      let r = plan_refusal b (short_plan listing) in let a = listed_answer r (listing_of p) in
      Outcome p a.number (written a (listing_after r (listing_of p) listing))
  -- the feedings marked in the placing buffer are those on the lines
  pub plan_both : (b listing placing : List ℕ) → let s = sheet_of b in let p = alone s in faults b ≡ [] → plan_bytes ≤ length listing → placing_words ≤ length placing →
      let r = plan_refusal b (short_plan listing || short_placing placing) in let a = listed_answer r (listing_of p) in
      Outcome p a.number (written a (listing_after r (listing_of p) listing))
      × (a.number ≡ 0 → SamePlacing s (written a (listing_after r (listing_of p) listing)) (placing_after r (words_for p) placing))
  -- a call that is lent a placing buffer alone marks a sound placing, that which `plan` lists for the same sheet
  pub plan_placing : (b placing : List ℕ) → let s = sheet_of b in let p = alone s in faults b ≡ [] → placing_words ≤ length placing →
      let r = plan_refusal b (short_placing placing) in let a = unlisted_answer r in
      PlannedOrHeld p a.number
      × (a.number ≡ 0 → MayPlace p (placing_in s (placing_after r (words_for p) placing)))
      × (a.number ≡ 0 → (listing : List ℕ) → plan_bytes ≤ length listing → let q = plan_refusal b (short_plan listing) in
      SamePlacing s (written (listed_answer q (listing_of p)) (listing_after q (listing_of p) listing)) (placing_after r (words_for p) placing))
  pub plan_number : (b : List ℕ) → faults b ≡ [] → PlannedOrHeld (alone (sheet_of b)) (unlisted_answer (plan_refusal b false)).number
  -- the causes' call is held where planning is; it lists the stretches on the lines of the plan that `plan` gives for
  -- the same sheet, those that end before slot D, in settling order, and each cause is the true one
  pub causes : (b out : List ℕ) → let p = alone (sheet_of b) in faults b ≡ [] → causes_bytes ≤ length out →
      let r = plan_refusal b (short_causes out) in let a = causes_answer r (endings_of p) in
      PlannedOrHeld p a.number
      × (a.number ≡ 0 → (listing : List ℕ) → plan_bytes ≤ length listing → let q = plan_refusal b (short_plan listing) in
      CausesShown p (stretch_part (lines_of (written (listed_answer q (listing_of p)) (listing_after q (listing_of p) listing)))) a.cut
      (entries_in (written_causes a (causes_after r (endings_of p) out))))
  -- a practice sheet is planned for the values drawn: it is held exactly where these have no sound placing
  pub practice : (seed : ℕ) (out listing : List ℕ) → let s = practice_sheet seed in let p = alone s in
      line_bytes * suc (length s.jobs) ≤ length out → plan_bytes ≤ length listing →
      let w = practice_refusal seed (length out) in let b = take (written_of w s).length (buffer_after w s out) in
      let r = plan_refusal b (short_plan listing) in let text = listing_of (alone (sheet_of b)) in let a = listed_answer r text in
      Outcome p a.number (written a (listing_after r text listing))
  -- a comparison is held exactly where its first sheet is well-formed and has no sound placing, or the first can be
  -- planned and that holds of the second
  pub compare : (a b : List ℕ) → let p = alone (sheet_of a) in let q = alone (sheet_of b) in
      ((compared_of a b).number ≡ no_placing) ↔ ((faults a ≡ []) × (NoneSound p ⊎ ((¬ NoneSound p) × (faults b ≡ []) × NoneSound q)))
  -- Halls -----------------------------------------------------------------------------------------

  -- a hall that is there is held exactly where no placing is sound under the highs that the halls before it leave; the
  -- sum of high that it prints is over these
  pub plan_halls : (limit halls : ℕ) (a b c d : Hall) → let hs = four a b c d in let r = halls_answer limit halls hs in
      r.number ≡ 0 → (i : ℕ) → i < halls → let h = hall_in hs i in let p = problem_in limit hs i in let x = answer_in r i in let o = (outcome_of limit halls hs i).buffers in
      faults h.bytes ≡ [] → plan_bytes ≤ length h.buffers.listing → placing_words ≤ length h.buffers.placing →
      Outcome p x.number (written x o.listing) × (x.number ≡ 0 → SamePlacing (sheet_of h.bytes) (written x o.listing) o.placing)
  pub hall_is : (limit : ℕ) (used : List ℕ) (h : Hall) → HallIs limit used h
  -- what the halls before one use in a slot is what their listings show there: nothing past a hall's own last slot, and
  -- over all halls at most the limit
  pub halls_used : (limit halls : ℕ) (a b c d : Hall) → let hs = four a b c d in let r = halls_answer limit halls hs in r.number ≡ 0 → (t : ℕ) → t < 96 →
      let shown : ℕ → ℕ = λ j. busy_in (hall_in hs j) (answer_in r j) (outcome_of limit halls hs j).buffers.listing t in
      ((i : ℕ) → i ≤ halls → get_or (used_before limit hs i) t 0 ≡ sum i shown)
      × ((j : ℕ) → j < halls → (sheet_of (hall_in hs j).bytes).slots ≤ t → shown j ≡ 0) × (sum halls shown ≤ limit)
  -- Short rations ---------------------------------------------------------------------------------

  -- the plan is of the sheet cut to the share answered, and this is the greatest that has a sound placing
  pub plan_share : (b listing placing : List ℕ) → faults b ≡ [] → plan_bytes ≤ length listing → placing_words ≤ length placing →
      let r = share_refusal b (short_plan listing || short_placing placing) in let p = share_problem (sheet_of b) in let a = share_answer r (sheet_of b) in
      Outcome (problem_at b a) a.number (written_share a (listing_after r (listing_of p) listing))
      × SamePlacing (cut_sheet a.share (sheet_of b)) (written_share a (listing_after r (listing_of p) listing)) (placing_after r (words_for p) placing)
      × IsGreatestShare (sheet_of b) a.share
  pub cut_is : (share : ℕ) (s : Sheet) → CutIs share s
  -- Rations lent as records -----------------------------------------------------------------------

  pub plan_rations : (slots blowers wake : ℕ) (rations : List Ration) (listing : List ℕ) → let s = record_sheet slots blowers wake rations in let p = alone s in
      record_faults s ≡ [] → plan_bytes ≤ length listing → let r = plan_refusal_for (record_faults s) s (short_plan listing) in let a = listed_answer r (listing_of p) in
      Outcome p a.number (written a (listing_after r (listing_of p) listing))
  pub plan_rations_both : (slots blowers wake : ℕ) (rations : List Ration) (listing placing : List ℕ) → let s = record_sheet slots blowers wake rations in let p = alone s in
      record_faults s ≡ [] → plan_bytes ≤ length listing → placing_words ≤ length placing →
      let r = plan_refusal_for (record_faults s) s (short_plan listing || short_placing placing) in let a = listed_answer r (listing_of p) in
      Outcome p a.number (written a (listing_after r (listing_of p) listing))
      × (a.number ≡ 0 → SamePlacing s (written a (listing_after r (listing_of p) listing)) (placing_after r (words_for p) placing))
  -- The program -----------------------------------------------------------------------------------

  -- its whole output is the listing
  pub program : (b : List ℕ) → faults b ≡ [] → Outcome (alone (sheet_of b)) (plan_refusal b false).number (program_text b)
  -- that of `why` has the causes of the stretches that the planner lists; of a held sheet it is what the planner writes
  pub why : (b : List ℕ) → let p = alone (sheet_of b) in faults b ≡ [] →
      ((plan_refusal b false).number ≡ 0 → CausesShown p (stretch_part (lines_of (program_text b))) (explanation_of b).cut (entries_in (why_text b)))
      × ((plan_refusal b false).number ≡ no_placing → Outcome p (plan_refusal b false).number (why_text b))
  -- what the program of practice sheets writes for a seed, planned by the planner
  pub practice_program : (seed : ℕ) → seed ≤ 99999 → let b = practice_text (seed_input seed) in
      Outcome (alone (practice_sheet seed)) (plan_refusal b false).number (program_text b)
  -- A sheet planned alone -------------------------------------------------------------------------

  -- its rations, and m blowers in every slot; any sound placing may be taken
  pub alone_is : (s : Sheet) → AloneIs s
  -- the sum of high over the slots shown is |Q| × m
  pub high_is : (s : Sheet) (number : ℕ) (listing : List ℕ) → Outcome (alone s) number listing → number ≡ no_placing
      → (head_line (lines_of listing)).d ≡ (head_line (lines_of listing)).b * s.blowers
