-- Why a plan's feedings and lines are those of the method, from the law files of the layers below. Assumes nothing.
use Rattle.std.specs.Prelude.{◌≡◌, Bool, true, false, List, [], ℕ, ◌≤◌}
use Rattle.std.proofs.Math.Path.{refl, sym, ap, ap₂, subst}
use Rattle.std.proofs.Common.{◌∙◌}
use Rattle.checks.specs.declared.Refusal.{Refusal}
use Rattle.checks.specs.Sheet.{Sheet}
use Rattle.checks.specs.Checks.{first_refusal}
use Rattle.schedules.specs.Schedules.{Schedule, load}
use Rattle.schedules.specs.Demands.{demands_of, full_high}
use Rattle.method.specs.Method.{day_bounds, bounds_under, settle_all, loads}
use Rattle.method.specs.SettledRuns.{settled_runs, bounds_at_turn}
use Rattle.method.specs.Worded.{settle_all_worded, runs_worded, bounds_worded}
use Rattle.method.specs.Feedings.{Greedy, chosen}
use Rattle.method.proofs.FeedingLaws.{chosen_greedy}
use Rattle.method.proofs.Theorems.{settled_as_worded, runs_as_worded, intervals_are_settled, loads_feasible}
use Rattle.energy.specs.Energy.{starts, energy}
use Rattle.plan_lines.specs.Lines.{stretch_lines, feed_lines, plan_lines}
use Rattle.planning.specs.Problem.{Problem, alone, left, ProblemInRange, can_be_planned, settled_counts, feedings_of, counts_of, plan_for, listing_of, words_for}
use Rattle.planning.specs.Planning.{plan_checks, listed_answer, listing_after, placing_after}
use Rattle.planning.specs.ReadListing.{written, tanks, lines_of, stretches_on}
use Rattle.planning.proofs.StretchLineLaws.{stretches_on_lines}
use Rattle.planning.proofs.WrittenLaws.{number_planned, placing_written, writes_planned, stretch_part_plan, feed_part_plan, head_plan, placing_on_lem}
use Rattle.planning.proofs.ProblemLaws.{windows_left, room_below, may_planned, possible, settled_low_is_high, length_settled_counts, rest_load, feedings_whole, counts_whole}
use Rattle.planning.proofs.AloneLaws.{left_alone, room_alone}
use Rattle.demands.specs.Outcome.{placing_in}
use Rattle.demands.proofs.OutcomeLaws.{feedings_are, lines_are, marked_feedings, written_listing}
use Rattle.demands.specs.ByMethod.{HasPlacing, settled, runs_of, ChosenByMethod, ByMethod}

-- A sheet planned alone: as document 01 words the method ------------------------------------------------

module _ (s : Sheet) where
  pub as_worded : settled (alone s) ≡ settle_all_worded s.slots (demands_of s) s.blowers (day_bounds s.slots s.blowers)
  unfolding full_high
  as_worded =
      ap₂ (λ ds h. settle_all s.slots ds s.blowers (bounds_under s.slots h)) (left_alone s) (room_alone s)
      ∙ sym (settled_as_worded s.slots s.blowers (demands_of s))

  pub runs_worded_lem : (k : ℕ) → k ≤ s.blowers
      → runs_of (alone s) k ≡ runs_worded s.slots (demands_of s) k s.slots 1 (bounds_worded s.slots (demands_of s) s.blowers k (day_bounds s.slots s.blowers))
  unfolding full_high
  runs_worded_lem k l =
      ap₂ (λ ds h. settled_runs s.slots ds k s.slots 1 (bounds_at_turn s.slots ds s.blowers k (bounds_under s.slots h))) (left_alone s) (room_alone s)
      ∙ sym (runs_as_worded s.slots s.blowers (demands_of s) k l)

-- A problem that can be planned -------------------------------------------------------------------------

module _ (p : Problem) (g : ProblemInRange p) (can : can_be_planned p ≡ true) where
  -- the counts, as the calls' definitions have them
  pub settled_counts_lem : (settled p).low ≡ settled_counts p
  unfolding settled_counts loads
  settled_counts_lem = refl

  greedy : Greedy p.sheet.slots (left p) (settled_counts p) (chosen p.sheet.slots (left p) (settled_counts p))
  unfolding settled_counts
  greedy = chosen_greedy (windows_left p g) (length_settled_counts p g can) (loads_feasible (windows_left p g) (possible p g can) p.sheet.blowers (room_below p g))

  pub feedings_chosen : (q : Schedule) → q ≡ feedings_of p → ChosenByMethod p q
  unfolding feedings_of counts_of
  feedings_chosen q e =
      subst (ChosenByMethod p) (sym e)
      (record {
        rest = chosen p.sheet.slots (left p) (settled_counts p);
        with_kept = refl;
        low_is_high = settled_low_is_high p g can;
        counts = rest_load p g can ∙ sym settled_counts_lem;
        chosen = subst (λ c. Greedy p.sheet.slots (left p) c (chosen p.sheet.slots (left p) (settled_counts p))) (sym settled_counts_lem) greedy;
        whole = λ z. (feedings_whole p g can z, counts_whole p g can z ∙ sym settled_counts_lem);
      })

  runs_settled : p.cut ≡ 0 → (k : ℕ) → 1 ≤ k → k ≤ p.sheet.blowers → stretches_on (stretch_lines p.sheet.blowers p.sheet.wake (counts_of p)) k ≡ runs_of p k
  unfolding settled_counts
  runs_settled z k o l =
      ap (λ c. stretches_on (stretch_lines p.sheet.blowers p.sheet.wake c) k) (counts_whole p g can z)
      ∙ stretches_on_lines p.sheet.wake (settled_counts p) p.sheet.blowers k o l ∙ intervals_are_settled (windows_left p g) (possible p g can) p.sheet.blowers k o l

  plan_by_method : ByMethod p (plan_lines (plan_for p))
  unfolding counts_of
  plan_by_method =
      let s = p.sheet in
      let q = feedings_of p in
      let on = placing_on_lem s g.values q (feedings_are p g can) in
      let c = ap (load s.slots) (sym on) in
      record {
        feedings = feedings_chosen _ on;
        feed_lines_lem = feed_part_plan s q ∙ ap (feed_lines s.slots (tanks s)) (sym on);
        stretch_lines_lem = stretch_part_plan s q ∙ ap (stretch_lines s.blowers s.wake) c;
        runs = λ z k o l. ap (λ x. stretches_on x k) (stretch_part_plan s q) ∙ runs_settled z k o l;
        energy_is = (head_plan s q).0 ∙ ap (energy s.blowers s.wake) c;
        starts_are = (head_plan s q).1 ∙ ap (starts s.blowers s.wake) c;
      }

  -- the listing of a plan
  pub by_method : (text : List ℕ) → text ≡ listing_of p → ByMethod p (lines_of text)
  by_method text e = subst (ByMethod p) (sym (lines_are p g can text e)) plan_by_method

-- Calls that plan, lent buffers that are long enough, a problem with a placing ----------------------------------------

module _ {own : List Refusal} (formed : own ≡ []) (p : Problem) (g : ProblemInRange p) (has : HasPlacing p) (short : Bool) (enough : short ≡ false) where
  abbrev r : Refusal
  r = first_refusal (plan_checks own short p)

  can : can_be_planned p ≡ true
  can = may_planned p g has.0 has.1

  pub number_is : r.number ≡ 0
  number_is = number_planned p formed short enough can

  pub listed_by_method : (listing : List ℕ) → ByMethod p (lines_of (written (listed_answer r (listing_of p)) (listing_after r (listing_of p) listing)))
  listed_by_method listing = by_method p g can _ (written_listing formed p g short enough listing)

  pub marked_by_method : (placing : List ℕ) → ChosenByMethod p (placing_in p.sheet (placing_after r (words_for p) placing))
  marked_by_method placing =
      feedings_chosen p g can _ (marked_feedings p g can (placing_after r (words_for p) placing) placing (placing_written r (words_for p) placing (writes_planned r.number number_is)))
