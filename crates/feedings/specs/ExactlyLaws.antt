-- Words that hold a placing with exactly some loads: where they come from, and what they show. Assumes nothing.
use Rattle.std.specs.Prelude.{◌≡◌, Bool, List, ℕ, ◌<◌, length}
use Rattle.std.proofs.Common.{sym, ap, ◌∙◌, arith}
use Rattle.theory.specs.SumsOver.{one}
use Rattle.theory.specs.Placing.{count, Placing}
use Rattle.loads.specs.Meaning.{bit_at}
use Rattle.loads.specs.MeaningLaws.{count_load, places_placing}
use Rattle.loads.specs.StateLaws.{low_load, load_high}
use Rattle.schedules.specs.Schedules.{Demand, volume_of}
use Rattle.schedules.specs.AsFunctions.{free, bound}
use Rattle.placing.specs.Represents.{Represents}
use Rattle.feedings.specs.CellChoice.{Exactly, Feedable}

-- windows matter only within the day
pub exactly_windows : {n d : ℕ} {f g : ℕ → ℕ → Bool} {v c : ℕ → ℕ} {F R H : List ℕ} → ((j t : ℕ) → j < n → t < d → f j t ≡ g j t)
    → Exactly n d f v c F R H → Exactly n d g v c F R H
exactly_windows e x =
    record {
      places = record {
        day = record {
          grid = x.places.day.grid;
          short = x.places.day.short;
          few = x.places.day.few;
          past = x.places.day.past;
          windows = λ j t a b. ap one (sym (e j t a b)) ∙ x.places.day.windows j t a b;
        };
        volumes = x.places.volumes;
      };
      loads = x.loads;
      counts = x.counts;
    }

-- there is such a placing
pub exactly_some : {n d : ℕ} {free : ℕ → ℕ → Bool} {v c : ℕ → ℕ} {F R H : List ℕ} → Exactly n d free v c F R H
    → (T : ℕ → ℕ → Bool) × Placing n d free v T × ((t : ℕ) → t < d → count n T t ≡ c t)
exactly_some {F} x = (bit_at F, places_placing x.places, λ t l. count_load x.places.day t ∙ x.loads t l)

-- a sound placing with these counts
pub represents_feedable : {day : ℕ} {ds : List Demand} {low high F R H C : List ℕ} → Represents day ds low high F R H C → Feedable F R H
represents_feedable s = record { grid = s.state.places.day.grid; counts = s.state.highs; within = s.state.fed_within }

pub represents_exactly : {day : ℕ} {ds : List Demand} {counts F R H C : List ℕ} → Represents day ds counts counts F R H C
    → Exactly (length ds) day (free ds) (volume_of ds) (bound counts) F R H
represents_exactly s =
    record {
      places = s.state.places;
      loads = λ t l. omega (arith, low_load s.state t l, load_high s.state t l);
      counts = s.state.high_at;
    }
