-- Whole days as problems: nothing is kept, so that what is left is what the sheet asks and the room left is the highs,
-- and any sound placing may be taken. Assumes nothing.
use Rattle.std.specs.Prelude.{◌≡◌, ◌↔◌, true, List, ℕ, ◌*◌, ◌≤◌, ◌<◌, get_or}
use Rattle.std.proofs.Common.{sym, ap₂, ◌∙◌, subst, arith}
use Rattle.std.proofs.Math.Path.{ap}
use Rattle.std.proofs.Math.ListN.{length, length-replicate, get_or-replicate}
use Rattle.common.specs.Lists.{count}
use Rattle.checks.specs.Sheet.{Sheet}
use Rattle.checks.specs.RangeLaws.{ValuesInRange, values_looser}
use Rattle.schedules.specs.Slots.{Slots}
use Rattle.schedules.specs.Schedules.{Schedule, Sound, Windows}
use Rattle.schedules.specs.Shortfall.{forced, capacity}
use Rattle.schedules.specs.Demands.{demands_of, no_low, full_high}
use Rattle.schedules.specs.Rest.{rest_demands, KeptBefore, no_feedings}
use Rattle.schedules.specs.Tabulate.{has_below}
use Rattle.schedules.proofs.DemandLaws.{length_demands_of, windows_demands_of}
use Rattle.schedules.proofs.CriticalLaws.{length_critical_set}
use Rattle.schedules.proofs.RestLaws.{none_kept, rest_whole, rest_high_whole}
use Rattle.plan_lines.specs.Text.{held_text}
use Rattle.planning.specs.Problem.{SoundPlacing, whole_day, alone, left, room, MayPlace, ProblemInRange, shown_set, held_listing}
use Rattle.planning.proofs.FitLaws.{sum_same}

module _ (s : Sheet) where
  pub length_full_high : length (full_high s) ≡ s.slots
  unfolding full_high
  length_full_high = length-replicate s.slots s.blowers

  pub full_high_at : (t : ℕ) → t < s.slots → get_or (full_high s) t 0 ≡ s.blowers
  unfolding full_high
  full_high_at t l = get_or-replicate s.slots t s.blowers 0 l

module _ (s : Sheet) (high : List ℕ) (h : length high ≡ s.slots) where
  pub left_whole : left (whole_day s high) ≡ demands_of s
  unfolding left
  left_whole =
      ap (λ n. rest_demands s.slots 0 (demands_of s) (no_feedings s.slots n)) (sym (length_demands_of s)) ∙ rest_whole (windows_demands_of s)

  pub room_whole : room (whole_day s high) ≡ high
  unfolding room
  room_whole = rest_high_whole high h

  -- any sound placing may be taken
  pub may_whole : (q : Schedule) → MayPlace (whole_day s high) q ↔ Sound s.slots (demands_of s) (no_low s) high q
  may_whole q = (λ m. m.0, λ a. (a, λ j t l k e. absurd (omega arith)))

  pub whole_in_range : {least : ℕ} → ValuesInRange least s (length s.jobs) true → ((t : ℕ) → t < s.slots → get_or high t 0 ≤ s.blowers) → ProblemInRange (whole_day s high)
  whole_in_range v b =
      record {
        values = values_looser v;
        highs = h;
        below = b;
        keeps = subst (λ n. KeptBefore s.slots 0 (demands_of s) high (no_feedings s.slots n)) (length_demands_of s) (none_kept (windows_demands_of s) high);
      }

-- A sheet planned alone -----------------------------------------------------------------------------

module _ (s : Sheet) where
  pub left_alone : left (alone s) ≡ demands_of s
  left_alone = left_whole s (full_high s) (length_full_high s)

  pub room_alone : room (alone s) ≡ full_high s
  room_alone = room_whole s (full_high s) (length_full_high s)

  pub may_alone : (q : Schedule) → MayPlace (alone s) q ↔ SoundPlacing s q
  may_alone = may_whole s (full_high s) (length_full_high s)

  pub alone_in_range : {least : ℕ} → ValuesInRange least s (length s.jobs) true → ProblemInRange (alone s)
  alone_in_range v = whole_in_range s (full_high s) (length_full_high s) v (λ t l. omega (arith, full_high_at s t l))

  pub room_alone_at : (t : ℕ) → t < s.slots → get_or (room (alone s)) t 0 ≡ s.blowers
  room_alone_at t l = ap (λ h. get_or h t 0) room_alone ∙ full_high_at s t l

  -- the capacity of a set of its slots is |Q| × m
  pub capacity_alone : (q : Slots) → length q ≡ s.slots → capacity (room (alone s)) q ≡ count q * s.blowers
  capacity_alone q day =
      sum_same (room (alone s)) q s.blowers (omega (arith, ap length room_alone, length_full_high s)) (λ t e. room_alone_at t (omega (arith, has_below q t e)))

  length_shown : length (shown_set (alone s)) ≡ s.slots
  unfolding shown_set
  length_shown =
      length_critical_set (subst (Windows s.slots) (sym left_alone) (windows_demands_of s)) (room (alone s)) (ap length room_alone ∙ length_full_high s)

  -- where it is held: Q, what its rations force into Q, and |Q| × m
  pub held_alone : let q = shown_set (alone s) in held_listing (alone s) ≡ held_text q (forced (demands_of s) q) (count q * s.blowers)
  held_alone =
      let q : Slots = shown_set (alone s) in
      ap₂ (held_text q) (ap (λ ds. forced ds q) left_alone) (capacity_alone q length_shown)
