-- A sound placing of a sheet's rations, however it was found: its sets, its loads, and that each of its feed lines is a
-- line of one meal alone. Assumes nothing.
use Rattle.std.specs.Prelude.{◌≡◌, refl, Bool, true, false, ◌&&◌, [], ℕ, suc, ◌≤◌, ◌<◌, length, get_or, leb, ltb, eqb}
use Rattle.std.proofs.Common.{sym, ap, ◌∙◌, arith, eq-eqb, eqb-true, leb-true, ltb-true, ltb-false}
use Rattle.std.proofs.lemmas.List.{length-map}
use Rattle.std.proofs.Math.ListN.{get_or-replicate}
use Rattle.std.proofs.lemmas.Bool.{lt-leb}
use Rattle.common.specs.Lists.{count}
use Rattle.common.specs.Tests.{and_true}
use Rattle.checks.specs.Sheet.{Job, Sheet}
use Rattle.checks.specs.RangeLaws.{ValuesInRange, meals_follow}
use Rattle.schedules.specs.Slots.{Slots, has}
use Rattle.schedules.specs.Schedules.{Schedule, volume_of, load}
use Rattle.schedules.specs.Demands.{demands_of, full_high}
use Rattle.schedules.specs.AsFunctions.{Rows}
use Rattle.schedules.proofs.AsFunctions.{length_load}
use Rattle.schedules.specs.DemandLaws.{no_job}
use Rattle.schedules.proofs.DemandLaws.{length_demands_of, window_of_demands_of, windows_demands_of}
use Rattle.schedules.proofs.WindowLaws.{has_window}
use Rattle.schedules.specs.Tabulate.{get_d_map_below, has_below}
use Rattle.planning.specs.Problem.{SoundPlacing}
use Rattle.planning.specs.ReadListing.{tanks, is_of}
use Rattle.planning.proofs.FeedLineLaws.{OwnLines}

module _ (s : Sheet) (p : Schedule) (can : SoundPlacing s p) where
  pub placing_rows : Rows s.slots p
  placing_rows j l =
      let k : j < length (demands_of s) = omega (arith, can.for_each) in
      (can.served j k).same_day ∙ (windows_demands_of s).all_day j k

  pub length_counts : length (load s.slots p) ≡ s.slots
  length_counts = length_load p placing_rows

  pub counts_le : (t : ℕ) → t < s.slots → get_or (load s.slots p) t 0 ≤ s.blowers
  unfolding full_high
  counts_le t l = omega (arith, (can.bounded t l).1, get_or-replicate s.slots t s.blowers 0 l)

  pub length_placing : length p ≡ length s.jobs
  length_placing = can.for_each ∙ length_demands_of s

  pub tanks_placing : length (tanks s) ≡ length p
  tanks_placing = length-map s.jobs (λ j. j.tank) ∙ sym length_placing

  pub placing_volume : (i : ℕ) → i < length s.jobs → count (get_or p i []) ≡ volume_of (demands_of s) i
  placing_volume i l = (can.served i (omega (arith, length_demands_of s))).exactly

  -- a feeding's line is a line of its own meal alone, because the windows of one tank's meals have no slot in common
  pub own_lines : ValuesInRange 0 s (length s.jobs) true → OwnLines s.jobs (tanks s) p
  own_lines v = record { own = own; others = others }
    where
      job : ℕ → Job
      job i = get_or s.jobs i no_job

      in_jobs : (i : ℕ) → i < length p → i < length s.jobs
      in_jobs i l = omega (arith, length_placing)

      tank_at_lem : (i : ℕ) → i < length p → get_or (tanks s) i 0 ≡ (job i).tank
      tank_at_lem i l = get_d_map_below (λ (j : Job). j.tank) s.jobs i 0 no_job (in_jobs i l)

      -- what is fed is fed in the window
      in_window : (i t : ℕ) → i < length p → has (get_or p i []) t ≡ true → (leb (job i).release (suc t) && leb (suc t) (job i).deadline) ≡ true
      in_window i t l h =
          let k = in_jobs i l in
          let w = sym (ap (λ (q : Slots). has q t) (window_of_demands_of s i k)) ∙ (can.served i (omega (arith, length_demands_of s))).in_window t h in
          sym (has_window s.slots (job i).release (job i).deadline t (omega (arith, has_below (get_or p i []) t h, placing_rows i l))) ∙ w

      own : (i t : ℕ) → i < length p → has (get_or p i []) t ≡ true → is_of (job i) (suc t) (get_or (tanks s) i 0) ≡ true
      own i t l h = rw (eq-eqb (get_or (tanks s) i 0) (job i).tank (tank_at_lem i l)) (in_window i t l h)

      apart : (i o t : ℕ) → i < length p → o < length p → (o ≡ i → ⊥) → (job o).tank ≡ (job i).tank
          → (leb (job o).release (suc t) && leb (suc t) (job o).deadline) ≡ true → (leb (job i).release (suc t) && leb (suc t) (job i).deadline) ≡ false
      apart i o t l m n e h = go (ltb o i) refl
        where
          w : (leb (job o).release (suc t) ≡ true) × (leb (suc t) (job o).deadline ≡ true)
          w = and_true (leb (job o).release (suc t)) (leb (suc t) (job o).deadline) h

          after : (job o).release ≤ suc t
          after = leb-true (job o).release (suc t) w.0

          before : suc t ≤ (job o).deadline
          before = leb-true (suc t) (job o).deadline w.1

          never : (x : Bool) → (x && false) ≡ false
          never true = refl
          never false = refl

          go : (x : Bool) → ltb o i ≡ x → (leb (job i).release (suc t) && leb (suc t) (job i).deadline) ≡ false
          go true z =
              let f = meals_follow 0 s.slots 0 0 s.jobs v.jobs o i (ltb-true o i z) (in_jobs i l) no_job e in
              rw (lt-leb (job i).release (suc t) (omega (arith, f, before)))
          go false z =
              let f = meals_follow 0 s.slots 0 0 s.jobs v.jobs i o (omega (arith, ltb-false o i z, n)) (in_jobs o m) no_job (sym e) in
              rw (lt-leb (suc t) (job i).deadline (omega (arith, f, after))) (never (leb (job i).release (suc t)))

      others : (i o t : ℕ) → i < length p → o < length p → (o ≡ i → ⊥) → has (get_or p o []) t ≡ true
          → is_of (job i) (suc t) (get_or (tanks s) o 0) ≡ false
      others i o t l m n h = go (eqb (get_or (tanks s) o 0) (job i).tank) refl
        where
          go : (x : Bool) → eqb (get_or (tanks s) o 0) (job i).tank ≡ x → (x && (leb (job i).release (suc t) && leb (suc t) (job i).deadline)) ≡ false
          go true z = apart i o t l m n (sym (tank_at_lem o m) ∙ eqb-true (get_or (tanks s) o 0) (job i).tank z) (in_window o t m h)
          go false z = refl
