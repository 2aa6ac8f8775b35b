-- What holds of shares (request 111): of the cut volumes, and of the greatest share for which a sound placing exists.
-- Assumes nothing.
use Rattle.std.specs.Prelude.{◌≡◌, ◌↔◌, Bool, true, ℕ, ◌+◌, ◌*◌, ◌≤◌, ◌<◌, length, get_or}
use Rattle.std.proofs.Common.{sym, ◌∙◌, arith}
use Rattle.std.proofs.Math.Path.{ap}
use Rattle.std.proofs.lemmas.List.{length-map}
use Rattle.std.proofs.Math.ListN.{length-replicate}
use Rattle.checks.specs.Sheet.{Job, Sheet}
use Rattle.checks.specs.RangeLaws.{ValuesInRange}
use Rattle.schedules.specs.Schedules.{Schedule, Sound}
use Rattle.schedules.specs.Demands.{demands_of, no_low, full_high}
use Rattle.schedules.proofs.DemandLaws.{windows_demands_of}
use Rattle.schedules.proofs.FeasibleLaws.{feasible_sound, sound_feasible}
use Rattle.schedules.specs.Tabulate.{get_d_map_below}
use Rattle.method.proofs.LongestLaws.{longest_le, longest_passes, le_longest}
use Rattle.cuts.specs.Cuts.{max_share, cut_volume, cut_job, cut_sheet, feasible_sheet, greatest_share}
use Rattle.cuts.proofs.ShareLaws.{cut_whole_sheet, smaller_share, share_zero, share_one}

-- The cut sheet ---------------------------------------------------------------------

-- the cut volume is the greatest number whose hundredfold is at most volume × share
pub rounded_down : (share volume : ℕ) → (100 * cut_volume share volume ≤ volume * share) × (volume * share < 100 * cut_volume share volume + 100)
unfolding cut_volume
rounded_down share volume = (omega arith, omega arith)

-- each ration is cut in its place, and none is left out
pub rations_cut : (share : ℕ) (s : Sheet) → (length (cut_sheet share s).jobs ≡ length s.jobs)
    × ((i : ℕ) (none : Job) → i < length s.jobs → get_or (cut_sheet share s).jobs i none ≡ cut_job share (get_or s.jobs i none))
unfolding cut_sheet
rations_cut share s = (length-map s.jobs (cut_job share), λ i none l. get_d_map_below (cut_job share) s.jobs i none none l)

-- The greatest share ----------------------------------------------------------------

-- a sound placing of the sheet cut to a share
abbrev pub SoundAt : Sheet → (share : ℕ) → Schedule → Type 0
SoundAt s share q = let c = cut_sheet share s in Sound c.slots (demands_of c) (no_low c) (full_high c) q

module _ (s : Sheet) where
  -- the test is right
  has_placing_iff : (share : ℕ) → (feasible_sheet (cut_sheet share s) ≡ true) ↔ ((q : Schedule) × SoundAt s share q)
  unfolding feasible_sheet no_low full_high
  has_placing_iff share =
      let c = cut_sheet share s in
      let low = length-replicate {A = ℕ} c.slots 0 in
      let high = length-replicate c.slots c.blowers in
      (feasible_sound (windows_demands_of c) low high, λ p. sound_feasible (windows_demands_of c) low high p.1)

  abbrev test : ℕ → Bool
  test share = feasible_sheet (cut_sheet share s)

  pub share_most : greatest_share s ≤ max_share
  unfolding greatest_share
  share_most = longest_le test max_share

  pub greatest_possible : feasible_sheet (cut_sheet (greatest_share s) s) ≡ true
  unfolding greatest_share
  greatest_possible = longest_passes test (share_zero s) max_share

  -- the greatest share and every smaller one have a sound placing, share 0 always ..
  pub share_has : (share : ℕ) → share ≤ greatest_share s → (q : Schedule) × SoundAt s share q
  share_has share l = (has_placing_iff share).0 (smaller_share s share (greatest_share s) l greatest_possible)

  -- .. and no greater one up to 100 has
  pub no_greater : (share : ℕ) → greatest_share s < share → share ≤ max_share → (q : Schedule) → SoundAt s share q → ⊥
  unfolding greatest_share
  no_greater share l k q p = omega (arith, le_longest test max_share share k ((has_placing_iff share).1 (q, p)))

  -- it is 100 exactly where the sheet has a sound placing as it is
  pub whole_iff : (greatest_share s ≡ max_share) ↔ (feasible_sheet s ≡ true)
  unfolding greatest_share
  whole_iff = (
    λ e. ap feasible_sheet (sym (cut_whole_sheet s)) ∙ ap test (sym e) ∙ greatest_possible,
    λ e. omega (arith, share_most, le_longest test max_share max_share (omega arith) (ap feasible_sheet (cut_whole_sheet s) ∙ e)),
  )

  -- it is at least 1: no volume of a sheet is above 96, and a hundredth of that is 0, rounded down
  pub share_least : {least : ℕ} → ValuesInRange least s (length s.jobs) true → 1 ≤ greatest_share s
  unfolding greatest_share
  share_least v = le_longest test max_share 1 (omega arith) (share_one s v)
