-- What a search must know of the grid that it leaves, a placing S as a function of demand and slot, to have decided the question: loads
-- within the bounds, or a closed set of full slots. Demands and slots are counted from 0. Assumes nothing.
use Rattle.std.specs.Prelude.{◌≡◌, Bool, true, false, List, ℕ, ◌≤◌, ◌<◌, length}
use Rattle.std.proofs.Common.{sym, ◌∙◌, arith}
use Rattle.common.specs.Tests.{false_of_not_true}
use Rattle.theory.specs.SumsOver.{sum_on}
use Rattle.theory.specs.Placing.{Closed, opposite}
use Rattle.theory.proofs.Volumes.{forced_le_capacity, low_le_possible}
use Rattle.theory.proofs.Closed.{closed_tight, certificate}
use Rattle.theory.proofs.Edges.{NoEdgeLeaves, no_edge_closed, Reach, reach_closed}
use Rattle.theory.proofs.Complement.{certificate_rest}
use Rattle.theory.proofs.Critical.{closed_critical}
use Rattle.schedules.specs.Schedules.{Demand, Windows, Sound, feasible}
use Rattle.schedules.specs.Shortfall.{forced, critical_set}
use Rattle.schedules.specs.Tabulate.{tab}
use Rattle.schedules.specs.AsFunctions.{free, bound, listed}
use Rattle.schedules.proofs.AsFunctions.{forced_tab, sound_bounded, bounded_sound}
use Rattle.schedules.proofs.FeasibleLaws.{feasible_sound, sound_feasible}
use Rattle.schedules.proofs.CriticalLaws.{critical_as}
use Rattle.schedules.specs.Certificates.{Places, load_of}

module _ {slots : ℕ} {ds : List Demand} (w : Windows slots ds) {S : ℕ → ℕ → Bool} (s : Places slots ds S) where
  -- loads within the bounds: S is a sound placing, and the answer is yes
  pub places_sound : {low high : List ℕ} → ((t : ℕ) → t < slots → (bound low t ≤ load_of ds S t) × (load_of ds S t ≤ bound high t))
      → Sound slots ds low high (listed (length ds) slots S)
  places_sound b = bounded_sound w S (s, b)

  pub places_feasible : (low high : List ℕ) → length low ≡ slots → length high ≡ slots
      → ((t : ℕ) → t < slots → (bound low t ≤ load_of ds S t) × (load_of ds S t ≤ bound high t)) → feasible slots ds low high ≡ true
  places_feasible low high l h b = sound_feasible w l h (places_sound b)

  -- a closed set of slots that are at their highs, one of them above: the answer is no, whatever the lows
  pub closed_infeasible : (low high : List ℕ) → length low ≡ slots → length high ≡ slots → (R : ℕ → Bool) → Closed (length ds) slots (free ds) S R
      → ((t : ℕ) → t < slots → R t ≡ true → bound high t ≤ load_of ds S t)
      → (t : ℕ) → t < slots → R t ≡ true → bound high t < load_of ds S t → feasible slots ds low high ≡ false
  closed_infeasible low high l h R c full t m r over =
      false_of_not_true (feasible slots ds low high) (λ e.
      let p = sound_bounded w (feasible_sound w l h e).1 in
      omega (arith, certificate s c full t m r over, forced_le_capacity p.0 R {high = bound high} (λ t m. (p.1 t m).1)))

  -- on the exchanged grid, a closed set of slots that are at their lows, one of them below: the answer is no, whatever the highs
  pub closed_infeasible_low : (low high : List ℕ) → length low ≡ slots → length high ≡ slots → (R : ℕ → Bool)
      → Closed (length ds) slots (free ds) (opposite (free ds) S) R
      → ((t : ℕ) → t < slots → R t ≡ true → load_of ds S t ≤ bound low t)
      → (t : ℕ) → t < slots → R t ≡ true → load_of ds S t < bound low t → feasible slots ds low high ≡ false
  closed_infeasible_low low high l h R c full t m r under =
      false_of_not_true (feasible slots ds low high) (λ e.
      let p = sound_bounded w (feasible_sound w l h e).1 in
      omega (arith, certificate_rest s c full t m r under, low_le_possible p.0 R {low = bound low} (λ t m. (p.1 t m).0)))

  -- the least closed set of full slots around the overfull ones is the minimal critical set
  pub closed_critical_set : (high : List ℕ) → length high ≡ slots → (R : ℕ → Bool) → Closed (length ds) slots (free ds) S R
      → ((t : ℕ) → t < slots → R t ≡ true → bound high t ≤ load_of ds S t)
      → ((t : ℕ) → t < slots → bound high t < load_of ds S t → R t ≡ true)
      → ((Q : ℕ → Bool) → Closed (length ds) slots (free ds) S Q → ((t : ℕ) → t < slots → bound high t < load_of ds S t → Q t ≡ true)
      → (t : ℕ) → t < slots → R t ≡ true → Q t ≡ true)
      → critical_set slots ds high ≡ tab slots R
  closed_critical_set high h R c full over least = critical_as w high h (closed_critical s c full over least)

  -- the same of the slots that a search marked: no edge leaves them, and edges lead to each of them from an overfull slot
  pub reached_critical_set : (high : List ℕ) → length high ≡ slots → (R : ℕ → Bool) → NoEdgeLeaves (length ds) slots (free ds) S R
      → ((t : ℕ) → t < slots → R t ≡ true → bound high t ≤ load_of ds S t)
      → ((t : ℕ) → t < slots → bound high t < load_of ds S t → R t ≡ true)
      → ((t : ℕ) → t < slots → R t ≡ true → Reach (length ds) slots (free ds) S (λ t. bound high t < load_of ds S t) t)
      → critical_set slots ds high ≡ tab slots R
  reached_critical_set high h R c full over reached =
      closed_critical_set high h R (no_edge_closed R c) full over (λ Q q o t l r. reach_closed Q q o (reached t l r) l)

  -- into a closed set exactly its feedings are forced
  pub closed_forced : (R : ℕ → Bool) → Closed (length ds) slots (free ds) S R → forced ds (tab slots R) ≡ sum_on slots R (load_of ds S)
  closed_forced R c = forced_tab w R ∙ sym (closed_tight s c)
