-- Every number of a listing fits its field, and every listing fits the plan buffer. Assumes nothing.
use Rattle.std.specs.Prelude.{◌≡◌, refl, ◌⊎◌, Bool, true, false, ◌||◌, cond, ℕ, suc, ◌+◌, ◌*◌, ◌^◌, ◌≤◌, ◌<◌, leb, length, get_or}
use Rattle.std.proofs.Common.{sym, ap, inl, inr, mul-le-mul, suc-mul}
use Rattle.std.proofs.Math.Path.{subst}
use mathlib.Core.List.Memᴰ
use mathlib.Core.List.{List, [], ◌∷◌, ◌++◌, Memᴰ}
use native.Mathlib.Omega.{arith}
use Rattle.std.proofs.Math.ListN.{length-append, length-map}
use Rattle.common.specs.Lists.{count}
use Rattle.common.specs.ListLaws.{count_le_length}
use Rattle.line.specs.Layout.{width}
use Rattle.checks.specs.Limits.{max_slots, max_blowers, max_rations, max_tank}
use Rattle.checks.specs.Refusals.{no_placing}
use Rattle.checks.specs.Sheet.{Job, Sheet}
use Rattle.checks.specs.RangeLaws.{JobsInRange, ValuesInRange}
use Rattle.schedules.specs.Slots.{Slots, has, sum_over}
use Rattle.schedules.specs.Schedules.{Schedule, load}
use Rattle.method.specs.Intervals.{Interval, size}
use Rattle.energy.specs.Energy.{at_end, state, starts, energy}
use Rattle.energy.specs.EnergyLaws.{starts_most, energy_most}
use Rattle.bill.specs.Bill.{charge}
use Rattle.bill.proofs.Theorems.{amount_fits}
use Rattle.plan_lines.specs.Sizes.{plan_bytes}
use Rattle.plan_lines.specs.Lines.{Line, line, stretch_line, stretch_lines, feed_line, feed_lines, bill_line, plan_lines, members_from, member_lines, held_lines}
use Rattle.plan_lines.specs.Text.{write_lines, plan_word, held_word, plan_text, held_text}
use Rattle.plan_lines.specs.Putting.{length_write_lines}
use Rattle.plan_lines.proofs.LengthLaws.{length_stretch_lines}
use Rattle.planning.specs.Problem.{SoundPlacing, plan_with}
use Rattle.planning.specs.ReadListing.{tanks}
use Rattle.planning.specs.ReadLaws.{FitsLine, FitLines}
use Rattle.planning.proofs.SlotSetLaws.{length_members_from}
use Rattle.planning.proofs.StretchLineLaws.{in_stretch_lines}
use Rattle.planning.proofs.FeedLineLaws.{part_at_le, length_feed_lines, in_feed_lines}
use Rattle.planning.proofs.PlacingLaws.{placing_rows, length_counts, counts_le, tanks_placing}

-- Stretch lines -----------------------------------------------------------------------

state_le : (d q : ℕ) (v : Interval) → state d q v ≤ 2
unfolding state
state_le d q v = go v.busy (at_end d v || leb q (size v))
  where
    go : (b c : Bool) → cond b 2 (cond c 0 1) ≤ 2
    go true c = omega arith
    go false true = omega arith
    go false false = omega arith

pub fit_stretch_lines : (m q : ℕ) (counts : List ℕ) → m ≤ max_blowers → length counts ≤ max_slots → FitLines (stretch_lines m q counts)
unfolding stretch_line
fit_stretch_lines m q counts few day l i =
    let r = in_stretch_lines q counts m l i in
    subst FitsLine (sym r.6) (record { a = omega arith; b = omega arith; c = omega arith; d = omega (arith, state_le (length counts) q r.1) })

-- Feed lines --------------------------------------------------------------------------

tank_le : (s : Sheet) → ValuesInRange 0 s (length s.jobs) true → (tank : ℕ) → Memᴰ tank (tanks s) → tank ≤ max_tank
tank_le s v tank i = let r = Memᴰ.of_map (λ (j : Job). j.tank) s.jobs i in omega (arith, r.2, go 0 0 s.jobs v.jobs r.0 r.1)
  where
    go : (before until : ℕ) (js : List Job) → JobsInRange 0 s.slots before until js → (j : Job) → Memᴰ j js → j.tank ≤ max_tank
    go before until [] h j m = absurd (Memᴰ.not-nil m)
    go before until (x ∷ js) h j m = step (Memᴰ.cases_cons m) (go x.tank x.deadline js h.1 j)
      where
        step : (j ≡ x) ⊎ Memᴰ j js → (Memᴰ j js → j.tank ≤ max_tank) → j.tank ≤ max_tank
        step (inl e) ih = omega (arith, ap (λ (y : Job). y.tank) e, h.0.tank.le)
        step (inr k) ih = ih k

module _ (s : Sheet) (v : ValuesInRange 0 s (length s.jobs) true) (p : Schedule) (can : SoundPlacing s p) where
  fit_feed_lines : FitLines (feed_lines s.slots (tanks s) p)
  unfolding feed_line
  fit_feed_lines l i =
      let r = in_feed_lines s.slots (tanks s) p (tanks_placing s p can) (placing_rows s p can) l i in
      let d : s.slots ≤ max_slots = v.head.slots.le in
      let m : s.blowers ≤ max_blowers = v.head.blowers.le in
      let k : r.1 ≤ s.blowers = omega (arith, r.5, counts_le s p can r.0 r.3) in
      let o : r.0 < s.slots = r.3 in
      subst FitsLine (sym r.7)
      (record {
        a = omega arith;
        b = omega arith;
        c = omega (arith, tank_le s v r.2.0 r.6);
        d = omega (arith, part_at_le r.2.1 r.0);
      })

  -- Lengths ---------------------------------------------------------------------------

  stretches_most : length (stretch_lines s.blowers s.wake (load s.slots p)) ≤ max_slots * max_blowers
  stretches_most =
      omega (
        arith,
        length_stretch_lines s.blowers s.wake (load s.slots p),
        length_counts s p can,
        mul-le-mul v.head.blowers.le (day (length_counts s p can)),
      )
    where
      day : length (load s.slots p) ≡ s.slots → length (load s.slots p) ≤ max_slots
      day e = omega (arith, v.head.slots.le)

  feedings_most : length (feed_lines s.slots (tanks s) p) ≤ max_slots * max_blowers
  feedings_most =
      omega (
        arith,
        length_feed_lines s.slots (tanks s) p (tanks_placing s p can) (placing_rows s p can) s.blowers (λ t l. omega (arith, counts_le s p can t l)),
        mul-le-mul v.head.slots.le v.head.blowers.le,
      )

  -- A plan ----------------------------------------------------------------------------

  pub day_le : length (load s.slots p) ≤ max_slots
  day_le = omega (arith, length_counts s p can, v.head.slots.le)

  energy_fits : energy s.blowers s.wake (load s.slots p) < 10 ^ width
  energy_fits = omega (arith, energy_most s.blowers s.wake (load s.slots p) v.head.blowers.le v.head.wake day_le)

  starts_fit : starts s.blowers s.wake (load s.slots p) < 10 ^ width
  starts_fit = omega (arith, starts_most s.blowers s.wake (load s.slots p) v.head.blowers.le v.head.wake day_le)

  bill_fits : FitsLine (bill_line (charge s.blowers s.wake (load s.slots p)))
  unfolding bill_line
  bill_fits =
      let h = amount_fits s.blowers s.wake (load s.slots p) v.head.blowers.le v.head.wake day_le in
      record { a = omega (arith, h.0); b = omega (arith, h.1); c = omega arith; d = omega arith }

  pub fit_plan_lines : FitLines (plan_lines (plan_with s p))
  unfolding plan_lines plan_with
  fit_plan_lines l i = go (Memᴰ.cases_cons i)
    where
      stretch_ls : List Line
      stretch_ls = stretch_lines s.blowers s.wake (load s.slots p)

      feed_ls : List Line
      feed_ls = feed_lines s.slots (tanks s) p

      head : Line
      head = line (energy s.blowers s.wake (load s.slots p)) (starts s.blowers s.wake (load s.slots p)) (length stretch_ls) (length feed_ls)

      bill : Line
      bill = bill_line (charge s.blowers s.wake (load s.slots p))

      last : (l ≡ bill) ⊎ Memᴰ l [] → FitsLine l
      last (inl e) = subst FitsLine (sym e) bill_fits
      last (inr k) = absurd (Memᴰ.not-nil k)

      more : Memᴰ l feed_ls ⊎ Memᴰ l (bill ∷ []) → FitsLine l
      more (inl k) = fit_feed_lines l k
      more (inr k) = last (Memᴰ.cases_cons k)

      rest : Memᴰ l stretch_ls ⊎ Memᴰ l (feed_ls ++ (bill ∷ [])) → FitsLine l
      rest (inl k) = fit_stretch_lines s.blowers s.wake (load s.slots p) v.head.blowers.le day_le l k
      rest (inr k) = more (Memᴰ.append_cases feed_ls k)

      go : (l ≡ head) ⊎ Memᴰ l (stretch_ls ++ (feed_ls ++ (bill ∷ []))) → FitsLine l
      go (inl e) =
          subst FitsLine (sym e)
          (record { a = energy_fits; b = starts_fit; c = omega (arith, stretches_most); d = omega (arith, feedings_most) })
      go (inr k) = rest (Memᴰ.append_cases stretch_ls k)

  pub length_plan_text : length (plan_text (plan_with s p)) ≤ plan_bytes
  unfolding plan_text plan_lines plan_with
  length_plan_text =
      omega (
        arith,
        length-append plan_word (write_lines (plan_lines (plan_with s p))),
        length_write_lines (plan_lines (plan_with s p)),
        length-append (stretch_lines s.blowers s.wake (load s.slots p)) (feed_lines s.slots (tanks s) p ++ (bill_line (charge s.blowers s.wake (load s.slots p)) ∷ [])),
        length-append (feed_lines s.slots (tanks s) p) (bill_line (charge s.blowers s.wake (load s.slots p)) ∷ []),
        stretches_most,
        feedings_most,
      )

-- A held listing ----------------------------------------------------------------------

-- where every slot of a set has the same bound, the sum over it is that many times the number of its slots
pub sum_same : (xs : List ℕ) (q : Slots) (m : ℕ) → length q ≤ length xs → ((t : ℕ) → has q t ≡ true → get_or xs t 0 ≡ m) → sum_over xs q ≡ count q * m
unfolding sum_over
sum_same [] [] m l h = omega arith
sum_same [] (b ∷ q) m l h = absurd (omega arith)
sum_same (x ∷ xs) [] m l h = omega arith
sum_same (x ∷ xs) (true ∷ q) m l h = omega (arith, h 0 refl, sum_same xs q m (omega arith) (λ t e. h (suc t) e), suc-mul (count q) m)
sum_same (x ∷ xs) (false ∷ q) m l h = omega (arith, sum_same xs q m (omega arith) (λ t e. h (suc t) e))

-- each slot listed is from the first to the last
member_le : (t : ℕ) (q : Slots) (u : ℕ) → Memᴰ u (members_from t q) → u < t + length q
unfolding members_from
member_le t [] u i = absurd (Memᴰ.not-nil i)
member_le t (b ∷ q) u i = go b i (member_le (suc t) q u)
  where
    first : (u ≡ t) ⊎ Memᴰ u (members_from (suc t) q) → (Memᴰ u (members_from (suc t) q) → u < suc t + length q) → u < t + suc (length q)
    first (inl e) ih = omega arith
    first (inr k) ih = omega (arith, ih k)

    go : (b : Bool) → Memᴰ u (cond b (t ∷ []) [] ++ members_from (suc t) q) → (Memᴰ u (members_from (suc t) q) → u < suc t + length q)
        → u < t + suc (length q)
    go true i ih = first (Memᴰ.cases_cons i) ih
    go false i ih = omega (arith, ih i)

fit_member_lines : (t : ℕ) (q : Slots) → t + length q ≤ suc max_slots → FitLines (member_lines t q)
unfolding member_lines members_from
fit_member_lines t q l x i =
    let w = Memᴰ.of_map (λ u. line u 0 0 0) (members_from t q) i in
    let b = member_le t q w.0 w.1 in
    subst FitsLine w.2 (record { a = omega arith; b = omega arith; c = omega arith; d = omega arith })

-- a set of the day's slots, and two counts that a day can have
module _ (q : Slots) (day : length q ≤ max_slots) (f c : ℕ) (forced_most : f ≤ max_rations * max_slots) (capacity_most : c ≤ max_slots * max_blowers) where
  shown_le : count q ≤ max_slots
  shown_le = omega (arith, count_le_length q)

  pub fit_held_lines : FitLines (held_lines q f c)
  unfolding held_lines
  fit_held_lines l i = go (Memᴰ.cases_cons i)
    where
      go : (l ≡ line no_placing (count q) f c) ⊎ Memᴰ l (member_lines 1 q) → FitsLine l
      go (inl e) =
          subst FitsLine (sym e)
          (record { a = omega arith; b = omega (arith, shown_le); c = omega (arith, forced_most); d = omega (arith, capacity_most) })
      go (inr k) = fit_member_lines 1 q (omega arith) l k

  pub length_held_text : length (held_text q f c) ≤ plan_bytes
  unfolding held_text held_lines member_lines
  length_held_text =
      omega (
        arith,
        length-append held_word (write_lines (held_lines q f c)),
        length_write_lines (held_lines q f c),
        length-map (members_from 1 q) (λ u. line u 0 0 0),
        length_members_from 1 q,
        shown_le,
      )
