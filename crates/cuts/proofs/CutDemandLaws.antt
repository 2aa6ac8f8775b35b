-- What a cut sheet asks of a day: the windows of the sheet, and the cut volumes. Assumes nothing.
use Rattle.std.specs.Prelude.{◌≡◌, ℕ, ◌<◌, length}
use Rattle.std.proofs.Common.{sym, ap, ap₂, ◌∙◌}
use Rattle.std.proofs.lemmas.List.{length-map}
use Rattle.checks.specs.Sheet.{Sheet}
use Rattle.schedules.specs.Slots.{window}
use Rattle.schedules.specs.Schedules.{window_of, volume_of}
use Rattle.schedules.specs.Demands.{demands_of}
use Rattle.schedules.specs.Tabulate.{get_d_map_below}
use Rattle.schedules.specs.DemandLaws.{no_job}
use Rattle.schedules.proofs.DemandLaws.{length_demands_of, window_of_demands_of, volume_of_demands_of}
use Rattle.cuts.specs.Cuts.{cut_volume, cut_job, cut_sheet}

-- the windows of a cut sheet are those of the sheet
pub windows_cut : (share : ℕ) (s : Sheet) (j : ℕ) → j < length (demands_of s) → window_of (demands_of (cut_sheet share s)) j ≡ window_of (demands_of s) j
unfolding cut_sheet cut_job
windows_cut share s j l =
    let k : j < length s.jobs = rw (length_demands_of s) at l in
    let e = get_d_map_below (cut_job share) s.jobs j no_job no_job k in
    window_of_demands_of (cut_sheet share s) j (rw (length-map s.jobs (cut_job share)) k)
    ∙ ap₂ (window s.slots) (ap (λ x. x.release) e) (ap (λ x. x.deadline) e)
    ∙ sym (window_of_demands_of s j k)

pub length_cut : (share : ℕ) (s : Sheet) → length (demands_of (cut_sheet share s)) ≡ length (demands_of s)
unfolding cut_sheet
length_cut share s = length_demands_of (cut_sheet share s) ∙ length-map s.jobs (cut_job share) ∙ sym (length_demands_of s)

pub volumes_cut : (share : ℕ) (s : Sheet) (j : ℕ) → j < length (demands_of s)
    → volume_of (demands_of (cut_sheet share s)) j ≡ cut_volume share (volume_of (demands_of s) j)
unfolding cut_sheet cut_job
volumes_cut share s j l =
    let k : j < length s.jobs = rw (length_demands_of s) at l in
    volume_of_demands_of (cut_sheet share s) j (rw (length-map s.jobs (cut_job share)) k)
    ∙ ap (λ x. x.volume) (get_d_map_below (cut_job share) s.jobs j no_job no_job k)
    ∙ ap (cut_volume share) (sym (volume_of_demands_of s j k))
