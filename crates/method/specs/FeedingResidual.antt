-- What is left of a day when some cells are decided: again demands and a count for each slot. Definitions only. Assumes nothing.
use Rattle.std.specs.Prelude.{◌≡◌, Bool, true, false, ◌&&◌, not, cond, List, ℕ, zero, suc, ◌-◌, ◌<◌, ltb, length, get_or, set}
use Rattle.theory.specs.SumsOver.{one}
use Rattle.theory.specs.Placing.{size, count}
use Rattle.schedules.specs.Slots.{has}
use Rattle.schedules.specs.Schedules.{Demand, Schedule, Sound, Windows, no_demand, window_of, volume_of, feasible}
use Rattle.schedules.specs.AsFunctions.{free, fed, bound, listed}
use Rattle.method.specs.Feedings.{Cells, before, chosen}

-- The residual problem: windows hold the cells that are not decided, volumes and counts what is not fed yet.
pub record Residual : Type 0 where
  pub demands : List Demand
  pub counts : List ℕ

-- each window and the counts say something of each of the day's slots
pub record OfDay (slots : ℕ) (r : Residual) : Type 0 where
  pub each_window : Windows slots r.demands
  pub each_slot : length r.counts ≡ slots

-- a placing of what is left
abbrev pub Completes : (slots : ℕ) → Residual → Schedule → Type 0
Completes slots r p = Sound slots r.demands r.counts r.counts p

-- whether there is one
abbrev pub completable : (slots : ℕ) → Residual → Bool
completable slots r = feasible slots r.demands r.counts r.counts

-- One cell --------------------------------------------------------------------

-- slot t leaves the window; if it is fed, the volume falls by one
abbrev pub fix_demand : (t : ℕ) → Bool → Demand → Demand
fix_demand t b d = record { window = set d.window t false; volume = d.volume - one b }

-- cell (t, j) decided: fed or not
unfoldable pub fix : (t j : ℕ) → Bool → Residual → Residual
fix t j b r = record {
  demands = set r.demands j (fix_demand t b (get_or r.demands j no_demand));
  counts = set r.counts t (get_or r.counts t 0 - one b);
}

-- cell (t, j) may still be fed: slot t is in the window, the volume is not used up and the slot is not full. Any other cell is decided without a question.
unfoldable pub may_feed : (t j : ℕ) → Residual → Bool
may_feed t j r = has (window_of r.demands j) t && (ltb 0 (volume_of r.demands j) && ltb 0 (get_or r.counts t 0))

-- the choice at cell (t, j): some placing of what is left feeds it
unfoldable pub choice : (slots t j : ℕ) → Residual → Bool
choice slots t j r = may_feed t j r && completable slots (fix t j true r)

-- Cell after cell -------------------------------------------------------------

module _ (slots rations : ℕ) where
  -- in slot t, after j rations
  unfoldable pub in_slot : (t j : ℕ) → Residual → Residual
  in_slot t zero r = r
  in_slot t (suc j) r = let s : Residual = in_slot t j r in fix t j (choice slots t j s) s

  -- after t slots
  unfoldable pub after_slots : (t : ℕ) → Residual → Residual
  after_slots zero r = r
  after_slots (suc t) r = in_slot t rations (after_slots t r)

  -- before cell (t, j)
  abbrev pub residual_at : (t j : ℕ) → Residual → Residual
  residual_at t j r = in_slot t j (after_slots t r)

-- the placing that the choices make
unfoldable pub choose : (slots : ℕ) → List Demand → (counts : List ℕ) → Schedule
choose slots ds counts =
    let r : Residual = record { demands = ds; counts = counts } in
    listed (length ds) slots (λ j t. choice slots t j (residual_at slots (length ds) t j r))

-- Any cells -------------------------------------------------------------------

-- S in the cells that are not in D
abbrev pub undecided : Cells → Cells → Cells
undecided D S i u = S i u && not (D i u)

-- S in the cells of D and T in the others
abbrev pub joined : Cells → Cells → Cells → Cells
joined D S T i u = cond (D i u) (S i u) (T i u)

-- v are the volumes and c the loads of S, of n rations in d slots, in the cells that are not in D
pub record Amounts (n d : ℕ) (D S : Cells) (v c : ℕ → ℕ) : Type 0 where
  pub volumes : (i : ℕ) → i < n → v i ≡ size d (undecided D S i)
  pub loads : (u : ℕ) → u < d → c u ≡ count n (undecided D S) u

-- r is what is left of the demands and the counts of p when the cells D are decided as in p
pub record LeftOf (slots : ℕ) (ds : List Demand) (D : Cells) (p : Schedule) (r : Residual) : Type 0 where
  pub same_demands : length r.demands ≡ length ds
  pub of_day : OfDay slots r
  pub windows : (i u : ℕ) → i < length ds → u < slots → free r.demands i u ≡ undecided D (free ds) i u
  pub amounts : Amounts (length ds) slots D (fed p) (volume_of r.demands) (bound r.counts)

-- the state of the loop before cell (t, j): what is left when the cells before it are decided as in the chosen placing
abbrev pub LeftBefore : (slots : ℕ) → List Demand → (counts : List ℕ) → (t j : ℕ) → Residual → Type 0
LeftBefore slots ds counts t j = LeftOf slots ds (before t j) (chosen slots ds counts)
