-- The day of a problem (`DayOf`): where it is that of a whole day, and what may be written for it. Assumes nothing.
use Rattle.std.specs.Prelude.{◌≡◌, refl, true, not, cond, Result, Ok, Err, is_err, ℕ, ◌*◌, ◌≤◌, ◌<◌, get_or, take, replicate}
use Rattle.std.proofs.Math.Path.{sym, ap, subst}
use Rattle.std.proofs.Common.{ap₂, ◌∙◌, ext_get_or, get_or-take, length-take-le}
use mathlib.Core.List.{List, map}
use native.Mathlib.Omega.{arith}
use Rattle.std.proofs.Math.ListN.{length}
use Rattle.std.proofs.lemmas.List.{length-replicate}
use Rattle.std.proofs.Math.Pow.{pow_mono}
use Rattle.sheet.specs.declared.Reading.{Reading}
use Rattle.checks.specs.Limits.{max_slots, max_rations}
use Rattle.line.specs.Layout.{fields}
use Rattle.checks.specs.Sheet.{Sheet, numbers_of}
use Rattle.sheet.specs.Calls.{accepted}
use Rattle.common.specs.Buffers.{over, padded}
use Rattle.checks.specs.NumbersLaws.{length_numbers_of}
use Rattle.common.specs.BufferLaws.{length_padded}
use Rattle.common.specs.FillLaws.{filled_end}
use Rattle.checks.specs.declared.Refusal.{Refusal}
use Rattle.checks.specs.RangeLaws.{ValuesInRange}
use Rattle.sheet.specs.OwnChecks.{ReadFrom}
use Rattle.sheet.proofs.OwnCheckLaws.{read_is, read_values}
use Rattle.schedules.specs.Schedules.{Demand}
use Rattle.schedules.specs.Shortfall.{forced}
use Rattle.schedules.specs.Demands.{no_low, full_high}
use Rattle.placing.specs.Rations.{demands_from}
use Rattle.schedules.proofs.DemandLaws.{length_demands_of}
use Rattle.placing.specs.ReadLaws.{SheetRead, sheet_read_lem}
use Rattle.feedings.specs.CellChoice.{ScheduleWords}
use Rattle.feedings.specs.ScheduleWordLaws.{words_load}
use Rattle.method.proofs.Theorems.{day_high}
use Rattle.stretches.specs.declared.DayPlan.{DayPlan}
use Rattle.stretches.specs.declared.HeldDay.{HeldDay}
use Rattle.stretches.specs.Days.{DayPlanned, HighsOf, DayUnder, busy_counts, fed_words}
use Rattle.plan_lines.specs.Sizes.{plan_bytes, placing_words}
use Rattle.plan_lines.specs.Text.{plan_text, held_text}
use Rattle.plan_lines.specs.PlacingForms.{words_of}
use Rattle.plan_lines.proofs.PlacingFormLaws.{get_d_words_of, no_words}
use Rattle.plan_lines.specs.Inputs.{set_of}
use Rattle.listing.specs.Opening.{Written}
use Rattle.listing.specs.PlanSteps.{CanPutPlan}
use Rattle.listing.specs.PlanSteps as Put
use Rattle.listing.specs.HeldSteps.{CanPutHeld}
use Rattle.planning.specs.Problem.{Problem, SoundPlacing, whole_day, alone, left, room, ProblemInRange, can_be_planned, settled_counts, feedings_of, counts_of, shown_set, plan_with, listing_of, words_for}
use Rattle.planning.specs.Clauses.{PlanFor, HoldFor, DayOf}
use Rattle.planning.proofs.InputLaws.{Holds, plan_text_holds, set_of_tab, words_of_lem, words_hold}
use Rattle.planning.proofs.PlacingLaws.{placing_rows, counts_le, length_placing}
use Rattle.planning.proofs.AloneLaws.{left_whole, room_whole, whole_in_range}
use Rattle.planning.proofs.ProblemLaws.{listing_plan, listing_held, words_plan, words_held, length_words_for, length_left, feedings_sound, feedings_whole, counts_whole, length_counts_of}

-- the day that was planned of what is left of a whole day, in the room left
pub day_of_whole : (p : Problem) → ProblemInRange p → p.cut ≡ 0 → {r : Reading} → r ≡ accepted p.sheet → (d : Result DayPlan HeldDay)
    → DayPlanned d p.sheet.slots p.sheet.blowers (left p) (room p) → DayOf p r d
unfolding can_be_planned no_low shown_set settled_counts
day_of_whole p g z e (Ok d) h =
    record {
      in_range = g;
      read = e;
      found =
          record {
            can = h.can;
            counts_long = h.counts_long;
            counted = λ t l. h.counted t l ∙ counts t;
            fed = fed;
            counts_past = h.counts_past;
          };
    }
  where
    counts : (t : ℕ) → get_or (settled_counts p) t 0 ≡ get_or (counts_of p) t 0
    counts t = ap (λ xs. get_or xs t 0) (sym (counts_whole p g h.can z))

    fed : ScheduleWords (length p.sheet.jobs) p.sheet.slots (feedings_of p) d.fed
    fed =
        subst (λ n. ScheduleWords n p.sheet.slots (feedings_of p) d.fed) (length_left p g ∙ length_demands_of p.sheet)
        (subst (λ q. ScheduleWords (length (left p)) p.sheet.slots q d.fed) (sym (feedings_whole p g h.can z)) h.fed)
day_of_whole p g z e (Err d) h =
    record {
      in_range = g;
      read = e;
      found =
          record {
            cannot = h.cannot;
            marks_long = h.marks_long;
            shown = h.shown;
            forced_in = h.forced_in;
            high_over = h.high_over;
          };
    }

-- a day is held where its problem can't be planned
pub held_is : {p : Problem} {r : Reading} (d : Result DayPlan HeldDay) → DayOf p r d → is_err d ≡ not (can_be_planned p)
held_is (Ok d) h = sym (ap not h.found.can)
held_is (Err d) h = sym (ap not h.found.cannot)

module _ {p : Problem} {r : Reading} {o : Result DayPlan HeldDay} (h : DayOf p r o) where
  pub day_slots : r.slots ≤ max_slots
  unfolding accepted
  day_slots = subst (λ x. x.slots ≤ max_slots) (sym h.read) h.in_range.values.head.slots.le

-- of a plan
module _ {p : Problem} {r : Reading} {d : DayPlan} (h : DayOf p r (Ok d)) where
  abbrev s : Sheet
  s = p.sheet

  values : ValuesInRange 0 s (length s.jobs) true
  values = h.in_range.values

  f : PlanFor p d
  f = h.found

  sound : SoundPlacing s (feedings_of p)
  sound = feedings_sound p h.in_range f.can

  fed_is : d.fed ≡ words_of (feedings_of p)
  fed_is = words_of_lem f.fed (length_placing s (feedings_of p) sound) (placing_rows s (feedings_of p) sound)

  -- its words hold the feedings
  pub holds : Holds s.slots (length s.jobs) d.fed (feedings_of p)
  holds =
      subst (λ n. Holds s.slots n d.fed (feedings_of p)) (length_placing s (feedings_of p) sound)
      (words_hold s.slots (feedings_of p) (placing_rows s (feedings_of p) sound) d.fed
      (λ t l. ap (λ xs. get_or xs t 0) fed_is ∙ get_d_words_of (feedings_of p) t (omega (arith, values.head.slots.le))))

  counts_are : take s.slots d.counts ≡ counts_of p
  counts_are =
      ext_get_or 0 (take s.slots d.counts) (counts_of p) (size ∙ sym (length_counts_of p h.in_range f.can))
      (λ t l. let m : t < s.slots = omega (arith, size) in get_or-take s.slots d.counts t 0 m ∙ f.counted t m)
    where
      size : length (take s.slots d.counts) ≡ s.slots
      size = length-take-le s.slots d.counts (omega (arith, f.counts_long, values.head.slots.le))

  pub plan_can : (out : List ℕ) → plan_bytes ≤ length out → CanPutPlan out r.slots r.blowers r.wake d.counts r.numbers d.fed
  unfolding accepted
  plan_can out room =
      subst (λ x. CanPutPlan out x.slots x.blowers x.wake d.counts x.numbers d.fed) (sym h.read)
      (record {
        counted = record { long = f.counts_long; day = values.head.slots.le };
        few = values.head.blowers.le;
        wake_most = values.head.wake;
        tanks = length_padded (fields * max_rations) (numbers_of s.jobs) (omega (arith, length_numbers_of s.jobs, values.head.rations));
        long = f.fed.long;
        words_fit = λ t l. omega (arith, holds.few t l, pow_mono {i = length s.jobs} {j = max_rations} values.head.rations);
        loads = λ t l.
            omega (
              arith,
              words_load f.fed holds.rations holds.rows t l,
              counts_le s (feedings_of p) sound t l,
              values.head.blowers.le,
            );
        room = room;
      })

  plan_text_lem : plan_text (Put.plan_of r.slots r.blowers r.wake d.counts r.numbers d.fed) ≡ plan_text (plan_with s (feedings_of p))
  unfolding accepted plan_with counts_of
  plan_text_lem =
      ap (λ x. plan_text (Put.plan_of x.slots x.blowers x.wake d.counts x.numbers d.fed)) h.read
      ∙ plan_text_holds s.slots s.blowers s.wake d.counts d.fed s.jobs (feedings_of p) (omega (arith, f.fed.long, values.head.slots.le))
      values.head.rations holds
      ∙ ap (λ x. plan_text (record { slots = s.slots; blowers = s.blowers; wake = s.wake; tanks = map (λ j. j.tank) s.jobs; counts = x; placing = feedings_of p })) counts_are

  pub plan_written : {old new : List ℕ} {n : ℕ} → Written (plan_text (Put.plan_of r.slots r.blowers r.wake d.counts r.numbers d.fed)) old new n
      → Written (listing_of p) old new n
  plan_written {old} {new} {n} w = subst (λ x. Written x old new n) (plan_text_lem ∙ sym (listing_plan p f.can)) w

  plan_words : d.fed ≡ words_for p
  plan_words = fed_is ∙ sym (words_plan p f.can)

  pub plan_fed_long : length d.fed ≡ placing_words
  plan_fed_long = ap length plan_words ∙ length_words_for p

  plan_counts : d.counts ≡ padded max_slots (counts_of p)
  plan_counts =
      let size = length_counts_of p h.in_range f.can in
      let short : length (counts_of p) ≤ max_slots = omega (arith, size, values.head.slots.le) in
      filled_end max_slots (counts_of p) (λ t. get_or (counts_of p) t 0) (length (counts_of p)) refl short (λ t l. refl) d.counts
      (record {
        long = f.counts_long;
        filled = λ t l. f.counted t (omega (arith, size));
        past = λ t l. f.counts_past t (omega (arith, size));
      })

-- of a held day
module _ {p : Problem} {r : Reading} {d : HeldDay} (h : DayOf p r (Err d)) where
  slots_fit : p.sheet.slots ≤ max_slots
  slots_fit = h.in_range.values.head.slots.le

  g : HoldFor p d
  g = h.found

  shown : set_of p.sheet.slots d.marks ≡ shown_set p
  shown = set_of_tab p.sheet.slots d.marks (omega (arith, g.marks_long, slots_fit)) ∙ sym g.shown

  pub held_can : (out : List ℕ) → plan_bytes ≤ length out → CanPutHeld out r.slots d.marks
  unfolding accepted
  held_can out room =
      subst (λ x. CanPutHeld out x.slots d.marks) (sym h.read) (record { day = slots_fit; long = g.marks_long; room = room })

  pub held_written : {old new : List ℕ} {n : ℕ} → Written (held_text (set_of r.slots d.marks) d.forced d.capacity) old new n → Written (listing_of p) old new n
  unfolding accepted
  held_written {old} {new} {n} w =
      subst (λ y. Written y old new n)
      (ap (λ y. held_text (set_of y.slots d.marks) d.forced d.capacity) h.read
      ∙ ap (λ q. held_text q d.forced d.capacity) shown
      ∙ ap (λ y. held_text (shown_set p) y d.capacity) g.forced_in
      ∙ ap (held_text (shown_set p) (forced (left p) (shown_set p))) g.high_over
      ∙ sym (listing_held p g.cannot)) w

-- the words of a day, planned or held, are those of the placing buffer
pub day_words : {p : Problem} {r : Reading} (d : Result DayPlan HeldDay) → DayOf p r d → fed_words d ≡ words_for p
day_words (Ok d) h = plan_words h
day_words {p} (Err d) h = no_words ∙ sym (words_held p h.found.cannot)

pub fed_long : {p : Problem} {r : Reading} {d : Result DayPlan HeldDay} → DayOf p r d → {fed : List ℕ} → fed ≡ fed_words d → length fed ≡ placing_words
fed_long {p} {d = d} h e = ap length (e ∙ day_words d h) ∙ length_words_for p

pub words_written : {p : Problem} {r : Reading} {d : Result DayPlan HeldDay} → DayOf p r d → {fed : List ℕ} → fed ≡ fed_words d → (old : List ℕ) {new : List ℕ} → new ≡ over fed old → new ≡ over (words_for p) old
words_written {d = d} h e old w = w ∙ ap (λ x. over x old) (e ∙ day_words d h)

-- the busy blowers of a day, planned or held
pub day_counts : {p : Problem} {r : Reading} (d : Result DayPlan HeldDay) → DayOf p r d → busy_counts d ≡ cond (is_err d) (replicate max_slots 0) (padded max_slots (counts_of p))
day_counts (Ok d) h = plan_counts h
day_counts (Err d) h = refl

-- The day of a sheet that was read ----------------------------------------------------------

-- what holds of the day that was read holds of the sheet's whole day under the same highs
pub read_whole : {own : List Refusal} {s : Sheet} {r : Reading} → ReadFrom own s r → r.number ≡ 0 → (high : List ℕ) → length high ≡ r.slots
    → (P : (slots m : ℕ) → List Demand → (high : List ℕ) → Type 0)
    → P r.slots r.blowers (demands_from r.slots r.rations r.numbers) high
    → P s.slots s.blowers (left (whole_day s high)) (room (whole_day s high))
read_whole {own} {s} {r} h z high each P p =
    subst (λ ds. P s.slots s.blowers ds (room (whole_day s high))) (a.demands ∙ sym (left_whole s high size))
    (subst (λ x. P s.slots s.blowers (demands_from r.slots r.rations r.numbers) x) (sym (room_whole s high size))
    (subst (λ m. P s.slots m (demands_from r.slots r.rations r.numbers) high) a.blowers
    (subst (λ n. P n r.blowers (demands_from r.slots r.rations r.numbers) high) a.slots p)))
  where
    a : SheetRead s r
    a = sheet_read_lem h z

    size : length high ≡ s.slots
    size = each ∙ a.slots

-- its day under highs
pub day_under : {own : List Refusal} {s : Sheet} {r : Reading} → ReadFrom own s r → r.number ≡ 0 → {high H : List ℕ} → HighsOf r.slots r.blowers high H
    → {d : Result DayPlan HeldDay} → DayUnder d r.slots r.blowers (demands_from r.slots r.rations r.numbers) H → DayOf (whole_day s high) r d
day_under {s = s} {r = r} h z {high} k {d} p =
    let a = sheet_read_lem h z in
    day_of_whole (whole_day s high)
    (whole_in_range s high (k.each ∙ a.slots) (read_values h z) (λ t l. omega (arith, k.below t (omega (arith, a.slots)), a.blowers)))
    refl (read_is h z) d (read_whole h z high k.each (DayPlanned d) (p high k))

-- Planned alone: the highs are all blowers in each slot --------------------------------------

-- the highs of a reading are those of its sheet
full_read : {own : List Refusal} {s : Sheet} {r : Reading} → ReadFrom own s r → r.number ≡ 0 → replicate r.slots r.blowers ≡ full_high s
unfolding full_high
full_read h z = let a = sheet_read_lem h z in ap₂ replicate a.slots a.blowers

pub highs_full : {slots m : ℕ} {H : List ℕ} → H ≡ padded max_slots (replicate slots m) → HighsOf slots m (replicate slots m) H
highs_full {slots} {m} e = record { each = length-replicate slots m; below = day_high slots m; bytes = e }

pub highs_alone : {own : List Refusal} {s : Sheet} {r : Reading} → ReadFrom own s r → r.number ≡ 0 → {H : List ℕ} → H ≡ padded max_slots (replicate r.slots r.blowers)
    → HighsOf r.slots r.blowers (full_high s) H
highs_alone {r = r} h z {H} e = subst (λ x. HighsOf r.slots r.blowers x H) (full_read h z) (highs_full e)

pub read_alone : {own : List Refusal} {s : Sheet} {r : Reading} → ReadFrom own s r → r.number ≡ 0
    → (P : (slots m : ℕ) → List Demand → (high : List ℕ) → Type 0)
    → P r.slots r.blowers (demands_from r.slots r.rations r.numbers) (replicate r.slots r.blowers)
    → P s.slots s.blowers (left (alone s)) (room (alone s))
read_alone {s = s} {r = r} h z P p =
    read_whole h z (full_high s) (ap length (sym (full_read h z)) ∙ length-replicate r.slots r.blowers) P
    (subst (P r.slots r.blowers (demands_from r.slots r.rations r.numbers)) (full_read h z) p)
