-- Why a plan's listing and a held problem's meet what demand 3 asks, from the law files of the layers below. Assumes
-- nothing.
use Rattle.std.specs.Prelude.{◌≡◌, Bool, true, false, ◌&&◌, List, [], map, ℕ, suc, ◌*◌, ◌≤◌, ◌<◌, eqb, leb, length, get_or, take}
use Rattle.std.proofs.Math.Path.{refl, ap, subst}
use Rattle.std.proofs.Common.{sym, ap₂, ◌∙◌, subst₂, eqb-true, leb-true}
use Rattle.std.proofs.Math.Logic.{inl, inr}
use Rattle.std.proofs.Math.Bool.{false≢true}
use native.Mathlib.Omega.{arith}
use Rattle.std.proofs.Math.Seq.{take_at}
use Rattle.common.specs.Lists.{range}
use Rattle.common.specs.Tests.{and_true}
use Rattle.checks.specs.declared.Refusal.{Refusal}
use Rattle.checks.specs.Refusals.{no_placing}
use Rattle.checks.specs.Sheet.{Sheet}
use Rattle.checks.specs.Checks.{first_refusal}
use Rattle.common.specs.Buffers.{over}
use Rattle.checks.specs.RangeLaws.{ValuesInRange}
use Rattle.schedules.specs.Slots.{Slots}
use Rattle.schedules.specs.Schedules.{Schedule, load}
use Rattle.schedules.specs.Demands.{no_low}
use Rattle.schedules.proofs.Theorems as Placing
use Rattle.schedules.specs.Tabulate.{has_below}
use Rattle.schedules.specs.DemandLaws.{no_job}
use Rattle.method.specs.Intervals.{Interval}
use Rattle.method.specs.Keeping.{Before}
use Rattle.method.proofs.Theorems.{counts_keep}
use Rattle.plan_lines.specs.Sizes.{word_bytes}
use Rattle.plan_lines.specs.Lines.{Line, stretch_lines, bill_line, plan_lines, members_from, held_lines}
use Rattle.plan_lines.specs.Text.{write_lines, held_word, held_text}
use Rattle.plan_lines.specs.Inputs.{placing_of}
use Rattle.planning.proofs.AloneLaws.{room_alone_at}
use Rattle.planning.specs.Problem.{Problem, SoundPlacing, alone, ProblemInRange, can_be_planned, feedings_of, counts_of, shown_set, plan_with, plan_for, listing_of, words_for}
use Rattle.planning.specs.Planning.{plan_checks, listed_answer, listing_after, placing_after}
use Rattle.planning.specs.ReadListing.{written, tanks, lines_of, head_line, slots_shown, slot_set, stretch_part, feed_part, charge_on, stretches_on, in_slot, is_of, of_meal, placing_on}
use Rattle.planning.proofs.ReadLaws.{lines_of_written}
use Rattle.planning.proofs.SlotSetLaws.{length_slot_set, slot_set_members, slots_member_lines}
use Rattle.planning.proofs.StretchLineLaws.{stretches_on_lines, charge_on_lines, on_lines, listed_counts, counts_listed}
use Rattle.planning.proofs.FeedLineLaws as Feed
use Rattle.planning.proofs.InputLaws.{placing_of_words}
use Rattle.planning.proofs.PlacingLaws.{placing_rows, length_placing, tanks_placing, placing_volume, own_lines}
use Rattle.planning.proofs.FitLaws.{sum_same}
use Rattle.planning.proofs.WrittenLaws.{number_planned, number_held, listing_written, placing_written, writes_planned, writes_held, word_plan, lines_plan, whole_plan, head_plan, stretch_part_plan, feed_part_plan, bill_plan, placing_on_lem}
use Rattle.planning.proofs.ProblemLaws.{held_lines_of, windows_left, length_room, planned_may, may_planned, feedings_may, feedings_sound, counts_stop, length_shown_set, shown_late, fit_held, listing_plan, listing_held, words_plan}
use Rattle.demands.specs.Outcome.{Shortage, SoundPlan, LinesOf, Outcome, placing_in, SamePlacing}

-- The lines of a plan with any sound placing ------------------------------------------------------------

module _ (s : Sheet) (v : ValuesInRange 0 s (length s.jobs) true) (q : Schedule) (can : SoundPlacing s q) where
  pub lines_of_lem : LinesOf s (plan_lines (plan_with s q)) q
  lines_of_lem =
      record {
        whole = whole_plan s q;
        energy_is = (head_plan s q).0;
        starts_are = (head_plan s q).1;
        bill_is = bill_plan s q ∙ ap bill_line (sym (ap (charge_on s.blowers s.wake) (stretch_part_plan s q) ∙ charge_on_lines s.wake (load s.slots q) s.blowers));
        runs = λ k o l. ap (λ ls. stretches_on ls k) (stretch_part_plan s q) ∙ stretches_on_lines s.wake (load s.slots q) s.blowers k o l;
        blowers = λ k u i. on_lines s.wake (load s.slots q) s.blowers k u (rw (stretch_part_plan s q) at i);
        in_slot_lem = λ t l. ap (λ ls. map (λ x. x.b) (in_slot (suc t) ls)) (feed_part_plan s q) ∙ Feed.blowers_in_slot s.slots (tanks s) q long rows t l;
        of_ration = λ i l.
            ap (λ ls. map (λ x. x.a) (of_meal (get_or s.jobs i no_job) ls)) (feed_part_plan s q)
            ∙ Feed.slots_of_meal s.slots (tanks s) q long rows s.jobs (own_lines s q can v) i (place i l);
        parts = λ i l.
            ap (λ ls. map (λ x. x.d) (of_meal (get_or s.jobs i no_job) ls)) (feed_part_plan s q)
            ∙ Feed.parts_of_meal s.slots (tanks s) q long rows s.jobs (own_lines s q can v) i (place i l) ∙ ap (range 1) (placing_volume s q can i l);
        one_blower = λ t tank l. rw (feed_part_plan s q) (Feed.one_in_slot s.slots (tanks s) q long rows s.jobs (own_lines s q can v) t tank l);
        of_meal_lem = λ l i. meal_of l (Feed.of_some_meal s.slots (tanks s) q long rows s.jobs (own_lines s q can v) l (rw (feed_part_plan s q) at i));
      }
    where
      long : length (tanks s) ≡ length q
      long = tanks_placing s q can

      rows : (j : ℕ) → j < length q → length (get_or q j []) ≡ s.slots
      rows = placing_rows s q can

      place : (i : ℕ) → i < length s.jobs → i < length q
      place i l = omega (arith, length_placing s q can)

      meal_of : (l : Line) → (i : ℕ) × (i < length q) × (is_of (get_or s.jobs i no_job) l.a l.c ≡ true)
          → (i : ℕ) × (i < length s.jobs) × (l.c ≡ (get_or s.jobs i no_job).tank) × ((get_or s.jobs i no_job).release ≤ l.a) × (l.a ≤ (get_or s.jobs i no_job).deadline)
      meal_of l m =
          let j = get_or s.jobs m.0 no_job in
          let t = and_true (eqb l.c j.tank) (leb j.release l.a && leb l.a j.deadline) m.2 in
          let w = and_true (leb j.release l.a) (leb l.a j.deadline) t.1 in
          (m.0, omega (arith, m.1, length_placing s q can), eqb-true l.c j.tank t.0, leb-true j.release l.a w.0, leb-true l.a j.deadline w.1)

-- A problem --------------------------------------------------------------------------------------------

module _ (p : Problem) (g : ProblemInRange p) where
  abbrev s : Sheet
  s = p.sheet

  abbrev v : ValuesInRange 0 p.sheet (length p.sheet.jobs) true
  v = g.values

  module _ (held : can_be_planned p ≡ false) where
    shortage_of : (ls : List Line) → ls ≡ held_lines_of p → Shortage p (head_line ls) (slots_shown ls) (slot_set s.slots (slots_shown ls))
    unfolding head_line held_lines slots_shown shown_set can_be_planned no_low
    shortage_of ls e =
        subst (λ ls. Shortage p (head_line ls) (slots_shown ls) (slot_set s.slots (slots_shown ls))) (sym e)
        (subst (λ ts. Shortage p (head_line (held_lines_of p)) ts (slot_set s.slots ts)) (sym (slots_member_lines 1 q))
        (subst (Shortage p (head_line (held_lines_of p)) (members_from 1 q)) (sym (slot_set_members s.slots q (length_shown_set p g)))
        (record {
          each_once = refl;
          from_cut = shown_late p g;
          number = refl;
          size = refl;
          forced_into = refl;
          high_over = refl;
          high_is = λ m same. sum_same _ q m (omega (arith, length_shown_set p g, length_room p g)) same;
          more = Placing.infeasible_critical (windows_left p g) _ (length_room p g) held;
          at_most = Placing.critical_is_greatest (windows_left p g) _ (length_room p g);
          holds_all = Placing.critical_is_contained (windows_left p g) _ (length_room p g);
        })))
      where
        q : Slots
        q = shown_set p

    pub outcome_held : (number : ℕ) (listing : List ℕ) → number ≡ no_placing → listing ≡ listing_of p → Outcome p number listing
    unfolding held_text
    outcome_held number listing n e =
        record {
          planned_or_held = record { either = inr n; held_iff = (λ z q h. false≢true (sym held ∙ may_planned p g q h), λ h. n) };
          held_word_lem = λ z. ap (take word_bytes) (e ∙ listing_held p held) ∙ take_at held_word (write_lines (held_lines_of p)) word_bytes refl;
          held = λ z. shortage_of (lines_of listing) (ap lines_of (e ∙ listing_held p held) ∙ lines_of_written held_word (held_lines_of p) refl (fit_held p g));
          plan_word_lem = λ z. absurd (omega arith);
          plan = λ z. absurd (omega arith);
          plan_lines_lem = λ z. absurd (omega arith);
        }

  module _ (can : can_be_planned p ≡ true) where
    pub feedings_are : SoundPlacing s (feedings_of p)
    feedings_are = feedings_sound p g can

    sound_plan : SoundPlan p (stretch_lines s.blowers s.wake (counts_of p)) (feedings_of p)
    unfolding counts_of
    sound_plan =
        record {
          sound = feedings_may p g can;
          keeps = λ k u i. counts_keep s.slots (counts_of p) (feedings_of p) refl k u (listed_counts s.wake (counts_of p) s.blowers k u i).2;
          stops = λ k u i b l o before carries.
              let c = listed_counts s.wake (counts_of p) s.blowers k u i in
              counts_stop p g can k u c.0 c.1 c.2 b l o (λ j w m n x. before j w (counts_listed s.wake (counts_of p) s.blowers j w (from_one k j w u c.0 x) m n) x) carries;
        }
      where
        from_one : (k j : ℕ) (u v : Interval) → 1 ≤ k → Before j u k v → 1 ≤ j
        from_one k j u v o (inl b) = omega arith
        from_one k j u v o (inr b) = omega (arith, b.0)

    module _ (listing : List ℕ) (e : listing ≡ listing_of p) where
      pub lines_are : lines_of listing ≡ plan_lines (plan_for p)
      lines_are = ap lines_of (e ∙ listing_plan p can) ∙ lines_plan s v (feedings_of p) feedings_are

      -- the placing on the lines is that of the method
      pub placing_listed : placing_on s.slots s.jobs (feed_part (lines_of listing)) ≡ feedings_of p
      placing_listed = ap (λ ls. placing_on s.slots s.jobs (feed_part ls)) lines_are ∙ placing_on_lem s v (feedings_of p) feedings_are

      -- the number and the listing of a plan
      pub outcome_planned : (number : ℕ) → number ≡ 0 → Outcome p number listing
      unfolding counts_of
      outcome_planned number n =
          let on = placing_on_lem s v (feedings_of p) feedings_are in
          record {
            planned_or_held =
                record { either = inl n; held_iff = (λ z. absurd (omega arith), λ h. absurd (let r = planned_may p g can in h r.0 r.1)) };
            held_word_lem = λ z. absurd (omega arith);
            held = λ z. absurd (omega arith);
            plan_word_lem = λ z. ap (take word_bytes) (e ∙ listing_plan p can) ∙ word_plan s v (feedings_of p) feedings_are;
            plan = λ z.
                subst (λ ls. SoundPlan p (stretch_part ls) (placing_on s.slots s.jobs (feed_part ls))) (sym lines_are)
                (subst₂ (SoundPlan p) (sym (stretch_part_plan s (feedings_of p))) (sym on) sound_plan);
            plan_lines_lem = λ z.
                subst (λ ls. LinesOf s ls (placing_on s.slots s.jobs (feed_part ls))) (sym lines_are)
                (subst (LinesOf s (plan_lines (plan_for p))) (sym on) (lines_of_lem s v (feedings_of p) feedings_are));
          }

    -- the placing marked in a placing buffer is that of the method too
    pub marked_feedings : (words old : List ℕ) → words ≡ over (words_for p) old → placing_in s words ≡ feedings_of p
    marked_feedings words old h =
        ap₂ (placing_of s.slots) (sym (length_placing s (feedings_of p) feedings_are)) (h ∙ ap (λ x. over x old) (words_plan p can))
        ∙ placing_of_words s.slots v.head.slots.le (feedings_of p) (placing_rows s (feedings_of p) feedings_are) old

-- Calls that plan, lent buffers that are long enough ------------------------------------------------

-- a call whose sheet is well-formed and whose buffers are long enough, whatever the checks of its sheet alone are
module _ {own : List Refusal} (formed : own ≡ []) (p : Problem) (g : ProblemInRange p) (short : Bool) (enough : short ≡ false) where
  abbrev r : Refusal
  r = first_refusal (plan_checks own short p)

  -- what it wrote is the listing
  pub written_listing : (listing : List ℕ) → written (listed_answer r (listing_of p)) (listing_after r (listing_of p) listing) ≡ listing_of p
  written_listing listing = go (can_be_planned p) refl
    where
      go : (c : Bool) → can_be_planned p ≡ c → written (listed_answer r (listing_of p)) (listing_after r (listing_of p) listing) ≡ listing_of p
      go true e = listing_written r (listing_of p) listing (writes_planned r.number (number_planned p formed short enough e))
      go false e = listing_written r (listing_of p) listing (writes_held r.number (number_held p formed short enough e))

  pub outcome_of_lem : (text : List ℕ) → text ≡ listing_of p → Outcome p r.number text
  outcome_of_lem text w = go (can_be_planned p) refl
    where
      go : (c : Bool) → can_be_planned p ≡ c → Outcome p r.number text
      go true e = outcome_planned p g e text w r.number (number_planned p formed short enough e)
      go false e = outcome_held p g e r.number text (number_held p formed short enough e) w

  pub marks_of_lem : (text placing : List ℕ) → text ≡ listing_of p → r.number ≡ 0 → SamePlacing p.sheet text (placing_after r (words_for p) placing)
  marks_of_lem text placing w n = go (can_be_planned p) refl
    where
      go : (c : Bool) → can_be_planned p ≡ c → SamePlacing p.sheet text (placing_after r (words_for p) placing)
      go true e = marked_feedings p g e (placing_after r (words_for p) placing) placing (placing_written r (words_for p) placing (writes_planned r.number n)) ∙ sym (placing_listed p g e text w)
      go false e = absurd (omega (arith, n, number_held p formed short enough e))

-- A sheet planned alone ------------------------------------------------------------------------------

pub high_alone : (s : Sheet) (number : ℕ) (listing : List ℕ) → Outcome (alone s) number listing → number ≡ no_placing
    → (head_line (lines_of listing)).d ≡ (head_line (lines_of listing)).b * s.blowers
unfolding slot_set
high_alone s number listing o n =
    (o.held n).high_is s.blowers (λ t e. room_alone_at s t (omega (arith, has_below (slot_set s.slots (slots_shown (lines_of listing))) t e, length_slot_set s.slots (slots_shown (lines_of listing)))))
