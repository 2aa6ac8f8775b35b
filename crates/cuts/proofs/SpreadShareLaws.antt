-- A share for which evenly spread rations need no more blowers than there are has a sound placing. Assumes nothing.
use Rattle.std.specs.Prelude.{◌≡◌, true, List}
use Rattle.std.proofs.Common.{sym, ◌∙◌, mul_comm, mul_assoc, mul-le-mul_right}
use Rattle.std.proofs.Math.Path.{ap}
use Prim.Native.Nat.{ℕ, suc, ◌-◌, ◌*◌, ◌≤◌, ◌<◌}
use Rattle.std.proofs.Math.Nat.{mul-le-mul_left}
use native.Mathlib.Omega.{arith}
use Rattle.std.proofs.Math.ListN.{length, get_or-replicate}
use Rattle.std.proofs.lemmas.List.{length-replicate}
use Rattle.common.specs.Lists.{count}
use Rattle.checks.specs.declared.Refusal.{Refusal}
use Rattle.checks.specs.Sheet.{Sheet}
use Rattle.sheet.specs.declared.Reading.{Reading}
use Rattle.sheet.specs.OwnChecks.{ReadFrom}
use Rattle.sheet.proofs.OwnCheckLaws.{read_values}
use Rattle.theory.specs.Sums.{sum, sum_cong, mul_sum}
use Rattle.theory.specs.SumsOver.{pick, pick_mul}
use Rattle.theory.specs.Placing as F
use Rattle.schedules.specs.Slots.{has, window}
use Rattle.schedules.specs.Schedules.{Demand, window_of, volume_of}
use Rattle.schedules.specs.Demands.{demands_of, no_low, full_high}
use Rattle.schedules.specs.DemandLaws.{DemandsInRange}
use Rattle.schedules.proofs.DemandLaws.{demands_of_in_range}
use Rattle.schedules.specs.Tabulate.{count_size}
use Rattle.schedules.proofs.WindowLaws.{has_window, count_window}
use Rattle.schedules.specs.AsFunctions.{free, bound}
use Rattle.schedules.proofs.AsFunctions.{forced_as, sum_over_as}
use Rattle.schedules.proofs.CriticalLaws.{within_capacity}
use Rattle.placing.specs.Rations.{release_at, deadline_at, volume_at}
use Rattle.placing.specs.Words.{in_window}
use Rattle.placing.specs.RationLaws.{length_demands_from, window_of_demands_from, volume_of_demands_from}
use Rattle.placing.specs.ReadLaws.{SheetRead, sheet_read_lem}
use Rattle.densities.specs.Densities.{scale, density_of, density_at, DensityMost}
use Rattle.densities.proofs.DensityLaws.{density_covers}
use Rattle.densities.proofs.SpreadLaws.{forced_within}
use Rattle.cuts.specs.Cuts.{max_share, cut_volume, cut_sheet, feasible_sheet}
use Rattle.cuts.proofs.ShareLaws.{cut_in_range}
use Rattle.cuts.proofs.CutDemandLaws.{windows_cut, length_cut, volumes_cut}

-- 100 × 4,096 parts of a cut volume are at most those of its density, times the share, in its window's slots
cut_covers : (share v x l : ℕ) → scale * v ≤ x * l → max_share * scale * cut_volume share v ≤ share * x * l
unfolding cut_volume
cut_covers share v x l h =
    let m : scale * v * share ≤ x * l * share = mul-le-mul_right share h in
    omega (arith, m, mul_assoc scale v share, mul_comm (x * l) share, mul_assoc share x l)

module _ {own : List Refusal} {s : Sheet} {r : Reading} (h : ReadFrom own s r) (z : r.number ≡ 0) {most : ℕ}
    (dense : DensityMost r.rations r.numbers most) (share : ℕ) (l : share ≤ max_share) (few : share * most ≤ max_share * (scale * r.blowers)) where
  a : SheetRead s r
  a = sheet_read_lem h z

  abbrev ds : List Demand
  ds = demands_of (cut_sheet share s)

  range : DemandsInRange s.slots ds
  unfolding cut_sheet
  range = demands_of_in_range (cut_sheet share s) (cut_in_range share l s (read_values h z))

  same_length : length ds ≡ r.rations
  same_length = length_cut share s ∙ ap length (sym a.demands) ∙ length_demands_from r.slots r.rations r.numbers

  -- ration j
  module _ (j : ℕ) (k : j < length ds) where
    on_sheet : j < length (demands_of s)
    on_sheet = rw (length_cut share s) at k

    below : j < r.rations
    below = rw same_length at k

    abbrev size : ℕ
    size = suc (deadline_at r.numbers j) - release_at r.numbers j

    window_is : window_of ds j ≡ window r.slots (release_at r.numbers j) (deadline_at r.numbers j)
    window_is =
        windows_cut share s j on_sheet ∙ ap (λ es. window_of es j) (sym a.demands) ∙ window_of_demands_from r.slots r.rations r.numbers j below

    volume_is : volume_of ds j ≡ cut_volume share (volume_at r.numbers j)
    volume_is =
        volumes_cut share s j on_sheet
        ∙ ap (λ es. cut_volume share (volume_of es j)) (sym a.demands) ∙ ap (cut_volume share) (volume_of_demands_from r.slots r.rations r.numbers j below)

    counted : count (window_of ds j) ≡ F.size s.slots (free ds j)
    counted = count_size (window_of ds j) ∙ ap (λ d. F.size d (free ds j)) (range.windows.all_day j k)

    size_is : F.size s.slots (free ds j) ≡ size
    size_is =
        let q = a.rations.each j below in
        sym counted ∙ ap count window_is ∙ count_window r.slots (release_at r.numbers j) (deadline_at r.numbers j) q.release q.deadline

    fits : volume_of ds j ≤ F.size s.slots (free ds j)
    fits = omega (arith, range.fits j k, counted)

    covers : max_share * scale * volume_of ds j ≤ share * density_of r.numbers j * F.size s.slots (free ds j)
    covers =
        rw (volume_is, size_is)
        (cut_covers share (volume_at r.numbers j) (density_of r.numbers j) size
        (density_covers (volume_at r.numbers j) size (omega (arith, (a.rations.each j below).window))))

    -- its share of slot t
    part_is : (t : ℕ) → t < s.slots → pick (free ds j t) (share * density_of r.numbers j)
        ≡ share * pick (in_window (release_at r.numbers j) (deadline_at r.numbers j) t) (density_of r.numbers j)
    part_is t m =
        ap (λ b. pick b (share * density_of r.numbers j))
        (ap (λ w. has w t) window_is ∙ has_window r.slots (release_at r.numbers j) (deadline_at r.numbers j) t (rw a.slots m))
        ∙ sym (pick_mul (in_window (release_at r.numbers j) (deadline_at r.numbers j) t) share (density_of r.numbers j))

  -- no slot has more than its blowers
  room : (t : ℕ) → t < s.slots → sum (length ds) (λ j. pick (free ds j t) (share * density_of r.numbers j)) ≤ max_share * scale * bound (full_high s) t
  unfolding density_at full_high
  room t m =
      let part : ℕ → ℕ = λ j. pick (in_window (release_at r.numbers j) (deadline_at r.numbers j) t) (density_of r.numbers j) in
      omega (
        arith,
        sum_cong {n = length ds} {f = λ j. pick (free ds j t) (share * density_of r.numbers j)} {g = λ j. share * part j} (λ j k. part_is j k t m),
        mul_sum share (length ds) part,
        ap (λ n. share * sum n part) same_length,
        mul-le-mul_left share (dense.each t (omega (arith, a.rations.short, a.slots))),
        few,
        a.blowers,
        get_or-replicate s.slots t s.blowers 0 m,
      )

  pub spread_placing : feasible_sheet (cut_sheet share s) ≡ true
  unfolding feasible_sheet no_low full_high cut_sheet
  spread_placing =
      within_capacity range.windows (full_high s) (length-replicate s.slots s.blowers)
      (λ q e.
      rw (forced_as range.windows q e, sum_over_as (full_high s) q (length-replicate s.slots s.blowers) e)
      (forced_within (length ds) s.slots (free ds) (volume_of ds) (λ j. share * density_of r.numbers j) (max_share * scale) fits covers (has q) (omega arith)
      (bound (full_high s)) room))
