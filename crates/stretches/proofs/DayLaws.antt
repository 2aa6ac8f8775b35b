-- What the questions of a day say together: the answers of `choose_day`, `plan_words` and `plan_day`. Assumes nothing.
use Rattle.std.specs.Prelude.{◌≡◌, refl, Bool, true, false, Result, Ok, Err, List, ℕ, ◌≤◌, ◌<◌, length, get_or, take, replicate}
use Rattle.std.proofs.Common.{sym, ◌∙◌, subst, arith}
use Rattle.std.proofs.Math.Path.{ap}
use Rattle.checks.specs.Limits.{max_slots}
use Rattle.schedules.specs.Schedules.{Demand}
use Rattle.schedules.specs.Shortfall.{critical_set}
use Rattle.placing.specs.declared.Words.{Words}
use Rattle.placing.specs.Represents.{CanBegin, marked_loads, marked_highs}
use Rattle.placing.specs.WordCalls.{HeldIn, BegunIn}
use Rattle.placing.specs.WordCallLaws.{begun_held}
use Rattle.placing.specs.Rations.{Rations, demands_from}
use Rattle.placing.specs.Words.{WindowWords, VolumeBytes}
use Rattle.placing.specs.RationLaws.{length_demands_from}
use Rattle.placing.specs.FeasibilitySteps.{demand_words, ration_words, some_short, can_begin, high_words}
use Rattle.common.specs.BufferLaws.{length_padded}
use Rattle.common.specs.FillLaws.{get_d_padded, padded_past}
use Rattle.placing.specs.HeldSteps.{highs_capacity}
use Rattle.feedings.specs.CellChoice.{Feedable}
use Rattle.feedings.specs.ExactlyLaws.{represents_feedable}
use Rattle.stretches.specs.declared.DayPlan.{DayPlan}
use Rattle.stretches.specs.declared.HeldDay.{HeldDay}
use Rattle.method.specs.Method.{Bounds, bounds_under, FeasibleDay, settle_all, loads}
use Rattle.method.specs.Slotwise.{settle_each}
use Rattle.stretches.specs.Settling.{Under, SomeDay, AllSettled}
use Rattle.stretches.proofs.SettlingLaws.{under_possible}
use Rattle.feedings.specs.FeedingCalls.{CanChoose, Chose}
use Rattle.method.proofs.Theorems.{settle_all_is_slotwise, low_is_high}
use Rattle.stretches.specs.Days.{CanChooseDay, DayChosen, DayPlanned, CanPlan, WordsPlanned, HighsOf}

-- ---- `choose_day`

module _ (slots m : ℕ) {w w₁ : Words} (a : AllSettled slots m w w₁) where
  -- the bounds that are settled have one count for each slot
  module _ (ds : List Demand) (b : Bounds) (u : Under slots ds b w) (below : (t : ℕ) → t < slots → get_or b.high t 0 ≤ m) where
    possible : FeasibleDay slots ds b
    possible = under_possible u

    settled : settle_all slots ds m b ≡ settle_each slots ds m b
    settled = settle_all_is_slotwise u.represents.windows possible m

    counts_are : loads slots ds m b ≡ (settle_each slots ds m b).low
    unfolding loads
    counts_are = ap (λ c. c.low) settled

    highs_are : loads slots ds m b ≡ (settle_each slots ds m b).high
    unfolding loads
    highs_are = low_is_high u.represents.windows possible m below ∙ ap (λ c. c.high) settled

    exact : HeldIn slots ds (loads slots ds m b) (loads slots ds m b) w₁
    exact =
        subst (λ l. HeldIn slots ds l (loads slots ds m b) w₁) (sym counts_are)
        (subst (λ h. HeldIn slots ds (settle_each slots ds m b).low h w₁) (sym highs_are)
        (a.settled ds b u))

    count_at : (t : ℕ) → t < slots → get_or w₁.high t 0 ≡ get_or (loads slots ds m b) t 0
    count_at t l = exact.represents.state.high_at t l

  pub settled_feedable : SomeDay slots w → Feedable w₁.fed w₁.rest w₁.high
  settled_feedable s = represents_feedable (a.settled s.demands s.bounds s.under).represents

  pub can_choose : {rations : ℕ} → CanChooseDay slots rations w
      → CanChoose w₁.fed w₁.rest w₁.high (replicate max_slots 0) slots rations
  can_choose s = record { words = settled_feedable s.day; blank = refl; short = s.short; few = s.few }

  pub day_chosen : {rations : ℕ} {W : List ℕ} → CanChooseDay slots rations w
      → Chose w₁.fed w₁.rest w₁.high W slots rations → DayChosen slots m rations w (record { counts = w₁.high; fed = W })
  day_chosen s c =
      record {
        long = (settled_feedable s.day).counts;
        past = a.past;
        counted = λ ds b u below. count_at ds b u below;
        fed = λ ds b e u below. c.holds ds (loads slots ds m b) w₁.spare e (exact ds b u below).represents;
      }

-- ---- `plan_words`

module _ {slots rations : ℕ} (m : ℕ) {W N H : List ℕ} (p : CanPlan slots rations W N H) where
  pub can_begin_words : {C : List ℕ} → length C ≡ max_slots → CanBegin W N H C
  can_begin_words c = can_begin p.day p.highs c

  module _ {q : Bool} {x : Words} (b : BegunIn q W N H x) where
    pub can_choose_words : q ≡ true → CanChooseDay slots rations x
    can_choose_words e =
        record {
          day =
              record {
                demands = p.day.demands;
                bounds = bounds_under slots (take slots H);
                under =
                    begun_held b e p.day.words (high_words (some_short p.day) p.highs);
              };
          short = some_short p.day;
          few = p.few;
        }

    pub words_planned : q ≡ true → {d : DayPlan} → DayChosen slots m rations x d → WordsPlanned (Ok d) slots m rations W N H
    words_planned e c ds high d g n below =
        let u = begun_held b e d g in
        record {
          can = sym (b.begun.answer slots ds high d g) ∙ e;
          counts_long = c.long;
          counted = c.counted ds (bounds_under slots high) u below;
          counts_past = λ t l. c.past t l ∙ ap (λ h. get_or h t 0) b.highs ∙ p.past t l;
          fed = c.fed ds (bounds_under slots high) n u below;
        }

    pub words_held : q ≡ false → {forced capacity : ℕ} → forced ≡ marked_loads slots x.fed x.seen → capacity ≡ marked_highs slots x.high x.seen
        → WordsPlanned (Err (record { marks = x.seen; forced = forced; capacity = capacity })) slots m rations W N H
    words_held e u v ds high d g n below =
        record {
          cannot = sym (b.begun.answer slots ds high d g) ∙ e;
          marks_long = b.begun.marks_long e;
          shown = b.begun.marked e slots ds high d g;
          marks_past = b.begun.marks_past e slots ds d;
          forced_in = u ∙ sym (b.begun.counted e slots ds high d g);
          high_over = v ∙ ap (λ h. marked_highs slots h x.seen) b.highs
              ∙ highs_capacity x.seen (critical_set slots ds high) g (b.begun.marked e slots ds high d g);
        }

-- ---- `plan_day`

module _ {slots rations : ℕ} (m : ℕ) {numbers W N H : List ℕ} (r : Rations slots rations numbers)
    (w : WindowWords slots (demands_from slots rations numbers) W) (v : VolumeBytes (demands_from slots rations numbers) N)
    {high : List ℕ} (h : HighsOf slots m high H) where
  pub can_plan_day : CanPlan slots rations W N H
  can_plan_day =
      record {
        day = ration_words r w v;
        few = r.few;
        highs = ap length h.bytes ∙ length_padded max_slots high (omega (arith, h.each, r.short));
        past = λ t l. ap (λ x. get_or x t 0) h.bytes ∙ padded_past max_slots high t (omega (arith, h.each));
      }

  pub day_planned : (d : Result DayPlan HeldDay) → WordsPlanned d slots m rations W N H
      → DayPlanned d slots m (demands_from slots rations numbers) high
  day_planned d p =
      p (demands_from slots rations numbers) high (demand_words r w v)
      (record {
        long = h.each;
        same = λ t l. ap (λ x. get_or x t 0) h.bytes ∙ get_d_padded max_slots high t (omega (arith, h.each));
      })
      (length_demands_from slots rations numbers) h.below
