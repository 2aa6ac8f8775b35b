-- What a reading gives this layer: the first refusal, or rations in range that ask what the sheet's rations ask.
-- Assumes nothing.
use Rattle.std.specs.Prelude.{◌≡◌, refl, true, List, ℕ, ◌-◌, ◌*◌, ◌≤◌, length, get_or, replicate}
use Rattle.std.proofs.Common.{sym, subst, ◌∙◌, arith}
use Rattle.checks.specs.declared.Refusal.{Refusal}
use Rattle.sheet.specs.declared.Reading.{Reading}
use Rattle.line.specs.Layout.{fields}
use Rattle.checks.specs.Limits.{max_blowers, max_rations}
use Rattle.checks.specs.Sheet.{Sheet, numbers_of}
use Rattle.common.specs.Buffers.{padded}
use Rattle.sheet.specs.Calls.{accepted}
use Rattle.checks.specs.RangeLaws.{ValuesInRange}
use Rattle.checks.specs.NumbersLaws.{length_numbers_of, numbers_of_at}
use Rattle.sheet.specs.OwnChecks.{ReadFrom}
use Rattle.sheet.proofs.OwnCheckLaws.{read_is, read_values}
use Rattle.common.specs.BufferLaws.{length_padded}
use Rattle.schedules.specs.Schedules.{no_demand}
use Rattle.schedules.specs.Demands.{demand_of, demands_of}
use Rattle.placing.specs.Rations.{demand_at, demands_from, Rations}
use Rattle.schedules.specs.Tabulate.{tab_unique}
use Rattle.schedules.specs.DemandLaws.{no_job}
use Rattle.schedules.proofs.DemandLaws.{length_demands_of, demands_of_at, jobs_in_range_at}

-- Accepted --------------------------------------------------------------------

-- the flat numbers of a sheet ask what its rations ask
demands_from_sheet : (s : Sheet) → demands_from s.slots (length s.jobs) (padded (fields * max_rations) (numbers_of s.jobs)) ≡ demands_of s
unfolding demands_from demand_of padded
demands_from_sheet s =
    let numbers = padded (fields * max_rations) (numbers_of s.jobs) in
    let zs : List ℕ = replicate (fields * max_rations - length (numbers_of s.jobs)) 0 in
    sym (tab_unique no_demand (demands_of s) (length s.jobs) (demand_at s.slots numbers) (length_demands_of s)
    (λ j l. demands_of_at s j l ∙ (λ i. demand_of s.slots (record {
      tank = (get_or s.jobs j no_job).tank;
      release = sym (numbers_of_at no_job s.jobs zs j 1 l (omega arith)) i;
      deadline = sym (numbers_of_at no_job s.jobs zs j 2 l (omega arith)) i;
      volume = sym (numbers_of_at no_job s.jobs zs j 3 l (omega arith)) i;
    }))))

rations_sheet : {least : ℕ} (s : Sheet) → ValuesInRange least s (length s.jobs) true → Rations s.slots (length s.jobs) (padded (fields * max_rations) (numbers_of s.jobs))
unfolding padded
rations_sheet {least} s v =
    record {
      short = v.head.slots.le;
      few = v.head.rations;
      long = length_padded (fields * max_rations) (numbers_of s.jobs) (omega (arith, length_numbers_of s.jobs, v.head.rations));
      each = λ j l.
          let r = (jobs_in_range_at least s.slots 0 0 s.jobs v.jobs j l).2 in
          let zs : List ℕ = replicate (fields * max_rations - length (numbers_of s.jobs)) 0 in
          let a = numbers_of_at no_job s.jobs zs j 1 l (omega arith) in
          let d = numbers_of_at no_job s.jobs zs j 2 l (omega arith) in
          let x = numbers_of_at no_job s.jobs zs j 3 l (omega arith) in
          record {
            release = omega (arith, r.release);
            window = omega (arith, r.window);
            deadline = omega (arith, r.deadline);
            volume = omega (arith, r.volume.le);
          };
    }

-- What a call knows of an accepted reading.
pub record SheetRead (s : Sheet) (r : Reading) : Type 0 where
  pub slots : r.slots ≡ s.slots
  pub blowers : r.blowers ≡ s.blowers
  pub blown : r.blowers ≤ max_blowers
  pub some : 1 ≤ r.slots
  pub rations : Rations r.slots r.rations r.numbers
  pub demands : demands_from r.slots r.rations r.numbers ≡ demands_of s

accepted_read : {least : ℕ} (s : Sheet) → ValuesInRange least s (length s.jobs) true → SheetRead s (accepted s)
unfolding accepted
accepted_read s v =
    record {
      slots = refl;
      blowers = refl;
      blown = v.head.blowers.le;
      some = v.head.slots.ge;
      rations = rations_sheet s v;
      demands = demands_from_sheet s;
    }

pub sheet_read_lem : {own : List Refusal} {s : Sheet} {r : Reading} → ReadFrom own s r → r.number ≡ 0 → SheetRead s r
sheet_read_lem {own} {s} {r} h z = subst (SheetRead s) (sym (read_is h z)) (accepted_read s (read_values h z))
