-- A problem whose numbers are in range: it can be planned exactly where a placing may be taken, its feedings are such a
-- placing, no stretch of their counts stops early, and its listing fits. One proof for whole days, halls, cut rations
-- and the rest of a day. Assumes nothing.
use Rattle.std.specs.Prelude.{◌≡◌, refl, ◌&&◌, ◌||◌, not}
use Rattle.std.proofs.Math.Path.{sym, ap, subst}
use Rattle.std.proofs.Common.{◌∙◌, mul-le-mul, mul-le-mul_right, arith}
use Rattle.std.proofs.Math.Bool.{Bool, true, false, cond}
use mathlib.Core.List.{List, []}
use Prim.Native.Nat.{ℕ, suc, ◌-◌, ◌*◌, ◌≤◌, ◌<◌}
use Rattle.std.proofs.Math.Dec.{leb}
use Rattle.std.proofs.Math.ListN.{length, get_or, length-replicate, get_or-replicate}
use borrow.Author.Tests.{lt-leb, leb-true}
use Rattle.common.specs.Lists.{count}
use Rattle.common.specs.Tests.{and_true, false_of_not_true}
use Rattle.checks.specs.Limits.{max_slots, max_blowers, max_rations}
use Rattle.checks.specs.Sheet.{Sheet}
use Rattle.theory.specs.Sums.{sum_cong}
use Rattle.theory.specs.SumsOver.{one, pick, sum_on, on_le_mul}
use Rattle.theory.proofs.Volumes.{forced_le_mul}
use Rattle.theory.specs.Placing as F
use Rattle.schedules.specs.Slots.{Slots, has}
use Rattle.schedules.specs.Schedules.{Schedule, Sound, Windows, window_of, volume_of, load}
use Rattle.schedules.specs.Shortfall.{forced, capacity, shortfall}
use Rattle.schedules.specs.Demands.{demands_of, no_low, full_high}
use Rattle.schedules.specs.Rest.{rest_high, SameBefore, together}
use Rattle.schedules.proofs.Theorems as Placing
use Rattle.schedules.specs.AsFunctions.{Rows, fed, free, bound, listed}
use Rattle.schedules.proofs.AsFunctions.{load_as, forced_as, sum_over_as, forced_tab, sum_over_tab}
use Rattle.schedules.proofs.FeasibleLaws.{feasible_sound, sound_feasible, sound_looser}
use Rattle.schedules.proofs.CriticalLaws.{length_critical_set}
use Rattle.schedules.proofs.Differences.{sub_le}
use Rattle.schedules.specs.Tabulate.{tab, length_tab, get_d_tab, has_below}
use Rattle.schedules.specs.DemandLaws.{DemandsInRange}
use Rattle.schedules.proofs.DemandLaws.{length_demands_of, windows_demands_of, demands_of_in_range}
use Rattle.schedules.proofs.RestLaws.{window_of_rest, volume_of_rest, length_rest_high, length_rest_demands, windows_rest, together_sound, together_same, together_none, rest_iff}
use Rattle.method.specs.Method.{bounds_under, FeasibleDay, settle_all, loads}
use Rattle.method.specs.Feedings.{chosen}
use Rattle.method.specs.StopsAt.{StretchesStopFrom}
use Rattle.method.proofs.Theorems.{length_loads, low_is_high, settled_loads, loads_between, loads_feasible, stretches_stop}
use Rattle.method.proofs.FeedingLaws.{chosen_sound}
use Rattle.method.proofs.RestDayLaws.{whole_stops}
use Rattle.plan_lines.specs.Sizes.{plan_bytes, placing_words}
use Rattle.plan_lines.specs.Lines.{Line, held_lines}
use Rattle.plan_lines.specs.PlacingForms.{words_of}
use Rattle.plan_lines.proofs.PlacingFormLaws.{length_words_of}
use Rattle.planning.specs.Problem.{Problem, SoundPlacing, left, room, MayPlace, ProblemInRange, can_be_planned, settled_counts, feedings_of, counts_of, shown_set, plan_listing, held_listing, listing_of, words_for}
use Rattle.planning.specs.ReadLaws.{FitLines}
use Rattle.planning.proofs.PlacingLaws.{length_counts}
use Rattle.planning.proofs.FitLaws.{fit_held_lines, length_plan_text, length_held_text}

-- the lines of a problem that is held
abbrev pub held_lines_of : Problem → List Line
held_lines_of p = held_lines (shown_set p) (forced (left p) (shown_set p)) (capacity (room p) (shown_set p))

-- the listing, and the placing buffer's words
module _ (p : Problem) where
  pub listing_plan : can_be_planned p ≡ true → listing_of p ≡ plan_listing p
  unfolding listing_of
  listing_plan can = rw (can, listing_of)

  pub listing_held : can_be_planned p ≡ false → listing_of p ≡ held_listing p
  unfolding listing_of
  listing_held held = rw (held, listing_of)

  pub words_plan : can_be_planned p ≡ true → words_for p ≡ words_of (feedings_of p)
  unfolding words_for
  words_plan can = rw (can, words_for)

  pub words_held : can_be_planned p ≡ false → words_for p ≡ words_of []
  unfolding words_for
  words_held held = rw (held, words_for)

pub length_words_for : (p : Problem) → length (words_for p) ≡ placing_words
length_words_for p = go (can_be_planned p) refl
  where
    go : (b : Bool) → can_be_planned p ≡ b → length (words_for p) ≡ placing_words
    go true e = ap length (words_plan p e) ∙ length_words_of (feedings_of p)
    go false e = ap length (words_held p e) ∙ length_words_of []

module _ (p : Problem) (g : ProblemInRange p) where
  abbrev s : Sheet
  s = p.sheet

  abbrev d : ℕ
  d = p.sheet.slots

  abbrev m : ℕ
  m = p.sheet.blowers

  abbrev n : ℕ
  n = length p.sheet.jobs

  pub windows_left : Windows d (left p)
  unfolding left
  windows_left = windows_rest d p.cut (demands_of s) p.kept

  pub length_left : length (left p) ≡ length (demands_of s)
  unfolding left
  length_left = length_rest_demands d p.cut (demands_of s) p.kept

  volume_left : (j : ℕ) → j < length (demands_of s) → volume_of (left p) j ≡ volume_of (demands_of s) j - count (get_or p.kept j [])
  unfolding left
  volume_left j l = volume_of_rest d p.cut (demands_of s) p.kept j l

  pub length_room : length (room p) ≡ d
  unfolding room
  length_room = length_rest_high d p.cut p.high

  zeros_long : length (no_low s) ≡ d
  unfolding no_low
  zeros_long = length-replicate d 0

  room_at : (t : ℕ) → t < d → get_or (room p) t 0 ≡ cond (leb p.cut (suc t)) (get_or p.high t 0) 0
  unfolding room rest_high
  room_at t l = get_d_tab d (λ t. cond (leb p.cut (suc t)) (get_or p.high t 0) 0) 0 t l

  pub room_below : (t : ℕ) → t < d → get_or (room p) t 0 ≤ m
  room_below t l = go (leb p.cut (suc t)) refl
    where
      go : (x : Bool) → leb p.cut (suc t) ≡ x → get_or (room p) t 0 ≤ m
      go true e = omega (arith, room_at t l ∙ ap (λ x. cond x (get_or p.high t 0) 0) e, g.below t l)
      go false e = omega (arith, room_at t l ∙ ap (λ x. cond x (get_or p.high t 0) 0) e)

  -- Held or not -------------------------------------------------------------------------

  -- kept feedings of so many rations are those of so many jobs
  abbrev jobs_are : length (demands_of s) ≡ n
  jobs_are = length_demands_of s

  pub planned_may : can_be_planned p ≡ true → (q : Schedule) × MayPlace p q
  unfolding can_be_planned left room no_low
  planned_may e =
      let r = feasible_sound windows_left zeros_long length_room e in
      let q = (rest_iff (windows_demands_of s) g.keeps).1 r in
      (q.0, (q.1, subst (λ i. SameBefore d p.cut i p.kept q.0) jobs_are q.2))

  pub may_planned : (q : Schedule) → MayPlace p q → can_be_planned p ≡ true
  unfolding can_be_planned left room no_low
  may_planned q h =
      let r = (rest_iff (windows_demands_of s) g.keeps).0 (q, h.0, subst (λ i. SameBefore d p.cut i p.kept q) (sym jobs_are) h.1) in
      sound_feasible windows_left zeros_long length_room r.1

  -- A plan ------------------------------------------------------------------------------

  module _ (can : can_be_planned p ≡ true) where
    pub possible : FeasibleDay d (left p) (bounds_under d (room p))
    unfolding can_be_planned no_low
    possible = record { sized = record { each_low = length-replicate d 0; each_high = length_room }; possible = can }

    -- at the end low equals high in each slot
    pub settled_low_is_high : (settle_all d (left p) m (bounds_under d (room p))).low ≡ (settle_all d (left p) m (bounds_under d (room p))).high
    settled_low_is_high = low_is_high windows_left possible m room_below

    -- what the method chooses of what is left
    abbrev pub rest : Schedule
    rest = chosen d (left p) (settled_counts p)

    pub length_settled_counts : length (settled_counts p) ≡ d
    unfolding settled_counts
    length_settled_counts = length_loads windows_left possible m

    between : (t : ℕ) → t < d → (get_or (no_low s) t 0 ≤ get_or (settled_counts p) t 0) × (get_or (settled_counts p) t 0 ≤ get_or (room p) t 0)
    unfolding settled_counts no_low
    between = loads_between windows_left possible m room_below

    exact : Sound d (left p) (settled_counts p) (settled_counts p) rest
    unfolding settled_counts
    exact = chosen_sound windows_left (settled_counts p) length_settled_counts (loads_feasible windows_left possible m room_below)

    rest_sound : Sound d (left p) (no_low s) (room p) rest
    rest_sound = sound_looser windows_left (λ t l. (between t l).0) (λ t l. (between t l).1) exact

    rest_rows : Rows d rest
    rest_rows j k = let i : j < length (left p) = rw rest_sound.for_each at k in (rest_sound.served j i).same_day ∙ windows_left.all_day j i

    pub rest_load : load d rest ≡ settled_counts p
    unfolding settled_counts loads
    rest_load = settled_loads windows_left possible m room_below rest (subst (λ h. Sound d (left p) (settled_counts p) h rest) settled_low_is_high exact)

    -- the feedings are a placing that may be taken
    pub feedings_may : MayPlace p (feedings_of p)
    unfolding feedings_of left room no_low
    feedings_may =
        subst (λ i. MayPlace p (together d i p.kept rest)) jobs_are (
          together_sound (windows_demands_of s) g.keeps rest rest_sound,
          subst (λ i. SameBefore d p.cut i p.kept (together d (length (demands_of s)) p.kept rest)) jobs_are
              (together_same (windows_demands_of s) g.keeps rest rest_sound),
        )

    -- and one that is sound with every blower in every slot
    pub feedings_sound : SoundPlacing s (feedings_of p)
    unfolding full_high
    feedings_sound =
        sound_looser (windows_demands_of s) (λ t l. omega arith) (λ t l. omega (arith, g.below t l, get_or-replicate d t m 0 l)) feedings_may.0

    -- Its counts: none of the rest before the cut, and those of the rest from it on
    early : (t : ℕ) → t < d → suc t < p.cut → get_or (settled_counts p) t 0 ≡ 0
    early t l b = omega (arith, (between t l).1, room_at t l ∙ ap (λ x. cond x (get_or p.high t 0) 0) (lt-leb p.cut (suc t) b))

    pub late : (t : ℕ) → t < d → p.cut ≤ suc t → get_or (counts_of p) t 0 ≡ get_or (settled_counts p) t 0
    unfolding counts_of feedings_of together F.count
    late t l b =
        load_as (listed n d S) (λ j k. ap length (get_d_tab n (λ j. tab d (S j)) [] j (rw (length_tab n (λ j. tab d (S j))) at k)) ∙ length_tab d (S j)) t l
        ∙ ap (λ i. F.count i (fed (listed n d S)) t) (length_tab n (λ j. tab d (S j)))
        ∙ sum_cong (λ j k. ap one (same j k))
        ∙ sym (load_as rest rest_rows t l ∙ ap (λ i. F.count i (fed rest) t) (rest_sound.for_each ∙ length_left ∙ jobs_are))
        ∙ ap (λ xs. get_or xs t 0) rest_load
      where
        S : ℕ → ℕ → Bool
        S j t = fed p.kept j t || fed rest j t

        none : (j : ℕ) → fed p.kept j t ≡ false
        none j = false_of_not_true (fed p.kept j t) (λ e. omega (arith, g.keeps.before j t e))

        same : (j : ℕ) → j < n → fed (listed n d S) j t ≡ fed rest j t
        same j k =
            ap (λ (x : Slots). has x t) (get_d_tab n (λ j. tab d (S j)) [] j k) ∙ get_d_tab d (S j) false t l ∙ ap (λ x. x || fed rest j t) (none j)

    pub length_counts_of : length (counts_of p) ≡ d
    unfolding counts_of
    length_counts_of = length_counts s (feedings_of p) feedings_sound

    -- of a whole day: the feedings and the counts are those of the method
    pub feedings_whole : p.cut ≡ 0 → feedings_of p ≡ rest
    unfolding feedings_of
    feedings_whole z =
        together_none p.kept rest (λ j t. false_of_not_true (fed p.kept j t) (λ e. omega (arith, g.keeps.before j t e))) size
        (λ j l. rest_rows j (omega (arith, size)))
      where
        size : length rest ≡ n
        size = rest_sound.for_each ∙ length_left ∙ jobs_are

    pub counts_whole : p.cut ≡ 0 → counts_of p ≡ settled_counts p
    unfolding counts_of
    counts_whole z = ap (load d) (feedings_whole z) ∙ rest_load

    -- no stretch that stops from the cut on could have gone on
    pub counts_stop : StretchesStopFrom d m p.cut (MayPlace p) (counts_of p)
    unfolding settled_counts left room no_low
    counts_stop =
        subst (λ i. StretchesStopFrom d m p.cut (λ q. Sound d (demands_of s) (no_low s) p.high q × SameBefore d p.cut i p.kept q) (counts_of p)) jobs_are
        (whole_stops (windows_demands_of s) g.keeps (settled_counts p) (counts_of p) length_settled_counts length_counts_of early late m
        (stretches_stop windows_left possible m))

  -- A problem that is held ----------------------------------------------------------------

  pub length_shown_set : length (shown_set p) ≡ d
  unfolding shown_set
  length_shown_set = length_critical_set windows_left (room p) length_room

  shown_day : length (shown_set p) ≤ max_slots
  shown_day = omega (arith, length_shown_set, g.values.head.slots.le)

  -- every slot shown is planned: those before the cut have no room and are in no window, so that the set without them
  -- has as great a shortfall
  module _ where
    late_set : ℕ → Bool
    late_set t = leb p.cut (suc t) && has (shown_set p) t

    pick_none : (a b : Bool) → pick a 0 ≡ pick b 0
    pick_none true true = refl
    pick_none true false = refl
    pick_none false true = refl
    pick_none false false = refl

    not_free : (j t : ℕ) → j < length (demands_of s) → t < d → leb p.cut (suc t) ≡ false → free (left p) j t ≡ false
    unfolding left
    not_free j t l k e =
        ap (λ (x : Slots). has x t) (window_of_rest d p.cut (demands_of s) p.kept j l)
        ∙ get_d_tab d (λ t. leb p.cut (suc t) && has (window_of (demands_of s) j) t) false t k ∙ ap (λ x. x && has (window_of (demands_of s) j) t) e

    same_forced : F.forced (length (left p)) d (free (left p)) (volume_of (left p)) late_set ≡ F.forced (length (left p)) d (free (left p)) (volume_of (left p)) (has (shown_set p))
    unfolding F.forced F.outside sum_on late_set
    same_forced = sum_cong (λ j l. ap (λ x. volume_of (left p) j - x) (sum_cong (λ t k. term j t (rw length_left at l) k (leb p.cut (suc t)) refl)))
      where
        term : (j t : ℕ) → j < length (demands_of s) → t < d → (x : Bool) → leb p.cut (suc t) ≡ x
            → pick (not (leb p.cut (suc t) && has (shown_set p) t)) (one (free (left p) j t)) ≡ pick (not (has (shown_set p) t)) (one (free (left p) j t))
        term j t l k true e = ap (λ y. pick (not (y && has (shown_set p) t)) (one (free (left p) j t))) e
        term j t l k false e =
            let z = ap one (not_free j t l k e) in
            ap (pick (not (leb p.cut (suc t) && has (shown_set p) t))) z ∙ pick_none (not (leb p.cut (suc t) && has (shown_set p) t)) (not (has (shown_set p) t))
            ∙ sym (ap (pick (not (has (shown_set p) t))) z)

    same_capacity : sum_on d late_set (bound (room p)) ≡ sum_on d (has (shown_set p)) (bound (room p))
    unfolding sum_on late_set
    same_capacity = sum_cong (λ t k. term t k (leb p.cut (suc t)) refl)
      where
        term : (t : ℕ) → t < d → (x : Bool) → leb p.cut (suc t) ≡ x
            → pick (leb p.cut (suc t) && has (shown_set p) t) (get_or (room p) t 0) ≡ pick (has (shown_set p) t) (get_or (room p) t 0)
        term t k true e = ap (λ y. pick (y && has (shown_set p) t) (get_or (room p) t 0)) e
        term t k false e =
            let z = room_at t k ∙ ap (λ x. cond x (get_or p.high t 0) 0) e in
            ap (pick (leb p.cut (suc t) && has (shown_set p) t)) z ∙ pick_none (leb p.cut (suc t) && has (shown_set p) t) (has (shown_set p) t)
            ∙ sym (ap (pick (has (shown_set p) t)) z)

    pub shown_late : (t : ℕ) → has (shown_set p) t ≡ true → p.cut ≤ suc t
    unfolding shown_set shortfall late_set
    shown_late t e =
        let q : Slots = shown_set p in
        let x : Slots = tab d late_set in
        let as_great = (sub_le (forced (left p) q) (capacity (room p) q) (forced (left p) x) (capacity (room p) x)).1
        (omega (arith, same_forced, same_capacity, forced_tab windows_left late_set, sum_over_tab (room p) length_room late_set, forced_as windows_left q length_shown_set, sum_over_as (room p) q length_room length_shown_set)) in
        let inside = Placing.critical_is_contained windows_left (room p) length_room x (length_tab d late_set) as_great t e in
        let l : t < d = omega (arith, has_below q t e, length_shown_set) in
        leb-true p.cut (suc t) (and_true (leb p.cut (suc t)) (has (shown_set p) t) (sym (get_d_tab d late_set false t l) ∙ inside)).0

  -- the two counts of a held listing, also where what is left of a volume is more than what is left of its window
  forced_most : forced (left p) (shown_set p) ≤ max_rations * max_slots
  forced_most =
      omega (
        arith,
        forced_as windows_left (shown_set p) length_shown_set,
        forced_le_mul (length (left p)) d (free (left p)) (volume_of (left p)) max_slots small (has (shown_set p)),
        mul-le-mul_right max_slots (few length_left in_range.few),
      )
    where
      in_range : DemandsInRange d (demands_of s)
      in_range = demands_of_in_range s g.values

      small : (j : ℕ) → j < length (left p) → volume_of (left p) j ≤ max_slots
      small j k = let i : j < length (demands_of s) = rw length_left at k in omega (arith, volume_left j i, in_range.small j i)

      few : length (left p) ≡ length (demands_of s) → length (demands_of s) ≤ max_rations → length (left p) ≤ max_rations
      few a b = omega arith

  capacity_most : capacity (room p) (shown_set p) ≤ max_slots * max_blowers
  capacity_most =
      omega (
        arith,
        sum_over_as (room p) (shown_set p) length_room length_shown_set,
        on_le_mul d m (has (shown_set p)) (bound (room p)) room_below,
        mul-le-mul g.values.head.slots.le g.values.head.blowers.le,
      )

  pub fit_held : FitLines (held_lines_of p)
  fit_held = fit_held_lines (shown_set p) shown_day _ _ forced_most capacity_most

  -- Sizes ----------------------------------------------------------------------------------

  -- no listing is longer than the plan buffer must be
  pub length_listing : length (listing_of p) ≤ plan_bytes
  length_listing = go (can_be_planned p) refl
    where
      go : (c : Bool) → can_be_planned p ≡ c → length (listing_of p) ≤ plan_bytes
      go true e = rw (listing_plan p e) (length_plan_text s g.values (feedings_of p) (feedings_sound e))
      go false e = rw (listing_held p e) (length_held_text (shown_set p) shown_day _ _ forced_most capacity_most)
