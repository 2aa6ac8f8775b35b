-- The demands of rations as flat numbers: by place, their range, and the same rations in a longer day. Assumes nothing.
use Rattle.std.specs.Prelude.{◌≡◌, List, ℕ, ◌≤◌, ◌<◌, length, get_or}
use Rattle.std.proofs.Common.{ap, ◌∙◌, arith}
use Rattle.common.specs.Lists.{count}
use Rattle.checks.specs.Limits.{max_slots}
use Rattle.schedules.specs.Slots.{window}
use Rattle.schedules.specs.Schedules.{no_demand, window_of, volume_of}
use Rattle.placing.specs.Rations.{release_at, deadline_at, volume_at, demand_at, demands_from, Rations}
use Rattle.schedules.specs.Tabulate.{length_tab, get_d_tab}
use Rattle.schedules.proofs.WindowLaws.{length_window, count_window}
use Rattle.schedules.specs.DemandLaws.{DemandsInRange}

pub length_demands_from : (slots n : ℕ) (numbers : List ℕ) → length (demands_from slots n numbers) ≡ n
unfolding demands_from
length_demands_from slots n numbers = length_tab n (demand_at slots numbers)

module _ (slots n : ℕ) (numbers : List ℕ) (j : ℕ) (l : j < n) where
  pub demands_from_at : get_or (demands_from slots n numbers) j no_demand ≡ demand_at slots numbers j
  unfolding demands_from
  demands_from_at = get_d_tab n (demand_at slots numbers) no_demand j l

  pub window_of_demands_from : window_of (demands_from slots n numbers) j ≡ window slots (release_at numbers j) (deadline_at numbers j)
  window_of_demands_from = ap (λ d. d.window) demands_from_at

  pub volume_of_demands_from : volume_of (demands_from slots n numbers) j ≡ volume_at numbers j
  volume_of_demands_from = ap (λ d. d.volume) demands_from_at

module _ {slots n : ℕ} {numbers : List ℕ} (h : Rations slots n numbers) where
  pub volume_small : (j : ℕ) → j < n → volume_at numbers j ≤ max_slots
  volume_small j l = let r = h.each j l in omega (arith, r.volume, r.deadline, r.release, h.short)

  pub rations_in_range : DemandsInRange slots (demands_from slots n numbers)
  rations_in_range =
      let c = length_demands_from slots n numbers in
      record {
        short = h.short;
        few = omega (arith, h.few);
        windows =
            record {
              all_day = λ j l.
                  ap length (window_of_demands_from slots n numbers j (rw c at l)) ∙ length_window slots (release_at numbers j) (deadline_at numbers j);
            };
        fits = λ j l.
            let k = rw c at l in
            let r = h.each j k in
            omega (
              arith,
              volume_of_demands_from slots n numbers j k,
              ap count (window_of_demands_from slots n numbers j k),
              count_window slots (release_at numbers j) (deadline_at numbers j) r.release r.deadline,
              r.volume,
            );
        small = λ j l. let k = rw c at l in omega (arith, volume_of_demands_from slots n numbers j k, volume_small j k);
      }

  -- in the longest day they are in range too
  pub rations_longest : Rations max_slots n numbers
  rations_longest =
      record {
        short = omega arith;
        few = h.few;
        long = h.long;
        each = λ j l.
            let r = h.each j l in
            record { release = r.release; window = r.window; deadline = omega (arith, r.deadline, h.short); volume = r.volume };
      }
