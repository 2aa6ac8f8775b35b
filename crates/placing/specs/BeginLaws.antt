-- What the first placing and its relief say of the demands: the answers of `begin`. Assumes nothing.
use Rattle.std.specs.Prelude.{◌≡◌, refl, Bool, true, false, List, ℕ, ◌+◌, ◌≤◌, ◌<◌, length, get_or, replicate}
use Rattle.std.proofs.Common.{sym, ◌∙◌, arith}
use Rattle.std.proofs.Math.Path.{ap}
use Rattle.std.proofs.Math.Decide.{dec_lt}
use Rattle.std.specs.Int.Bits.{bit_and, and_zero_r}
use Rattle.std.specs.Int.Count.{ones}
use Rattle.std.proofs.lemmas.Nat.{ones-le}
use Rattle.std.proofs.lemmas.List.{length-replicate, get_or-replicate}
use Rattle.grid.specs.Grid.{at, load, Reach, here, step}
use Rattle.loads.specs.Relief.{Relieved, Widths}
use Rattle.loads.specs.First.{Started, PlacedAgain}
use Rattle.loads.specs.Meaning.{Places, seen_at}
use Rattle.loads.specs.MeaningLaws.{count_load, places_placing, places_moved}
use Rattle.loads.specs.HeldLaws.{words_closed}
use Rattle.loads.specs.ExchangeLaws.{some_widths}
use Rattle.loads.specs.FirstLaws.{started_none, started_moved, started_again}
use Rattle.loads.specs.StartLaws.{relieved_state, relieved_critical, relieved_none, started_places}
use Rattle.common.specs.Tests.{false_of_not_true}
use Rattle.checks.specs.Limits.{max_slots, max_rations}
use Rattle.theory.specs.SumsOver.{on_cong}
use Rattle.theory.proofs.Critical.{critical_highs}
use Rattle.schedules.specs.Schedules.{Demand, volume_of, feasible}
use Rattle.schedules.specs.Shortfall.{forced, critical_set}
use Rattle.schedules.proofs.FeasibleLaws.{feasible_sound}
use Rattle.schedules.proofs.CriticalLaws.{critical_as}
use Rattle.schedules.specs.Tabulate.{tab}
use Rattle.schedules.specs.AsFunctions.{free}
use Rattle.schedules.proofs.AsFunctions.{sound_bounded}
use Rattle.schedules.proofs.Certificates.{closed_forced}
use Rattle.placing.specs.Represents.{Represents, DemandWords, HighWords, Begun, Holds, BegunAgain, marks_of, marked_loads}
use Rattle.placing.specs.StepLaws.{state_bounds, represents_feasible}

-- only from itself does one come to a slot in which nothing rests
reach_rest : {F R : List ℕ} {s t : ℕ} → Reach F R s t → at R t ≡ 0 → s ≡ t
reach_rest here z = refl
reach_rest {F} {R} (step {x} {y} e p) z =
    absurd (e (ap (λ w. bit_and (at F x) w) (ap (at R) (reach_rest p z) ∙ z) ∙ and_zero_r (at F x)))

module _ {W N F R H F' R' C' S' : List ℕ} {r : Bool} (h : length H ≡ 96) (s : Started W N F R) (w : Relieved r F R H F' R' S') (c : Widths F' R' C') where
  -- past the day nothing is fed and nothing rests: no search begins or ends there
  unmarked : r ≡ false → (slots : ℕ) (ds : List Demand) → DemandWords slots ds W N → (t : ℕ) → slots ≤ t
      → get_or S' t 0 ≡ 0
  unmarked e slots ds d t l = go (dec_lt 0 (get_or S' t 0))
    where
      none : at F' t + at R' t ≡ 0
      none = (places_moved (started_places d.given s) w.moved).day.past t l

      go : Dec (0 < get_or S' t 0) → get_or S' t 0 ≡ 0
      go (no m) = omega arith
      go (yes m) =
          let q = (w.held e).stuck.source t m in
          let f : at F' t ≡ 0 = omega (arith, none) in
          let z : at R' t ≡ 0 = omega (arith, none) in
          absurd (omega (arith, q.2, ap (load F') (reach_rest q.3 z), ap ones f, ones-le 0 0 (omega arith)))

  module _ (slots : ℕ) (ds : List Demand) (high : List ℕ) (d : DemandWords slots ds W N) (g : HighWords slots high H) where
    places : Places (length ds) slots (free ds) (volume_of ds) F R
    places = started_places d.given s

    begins : r ≡ true → Represents slots ds (replicate slots 0) high F' R' H C'
    begins e =
        record {
          windows = d.windows;
          lows = length-replicate slots 0;
          highs = g.long;
          state = state_bounds (relieved_state places w h e c) (λ u l. sym (get_or-replicate slots u 0 0 l)) g.same;
        }

    none_sound : r ≡ false → feasible slots ds (replicate slots 0) high ≡ false
    none_sound e =
        false_of_not_true (feasible slots ds (replicate slots 0) high) (λ f.
        let q = sound_bounded d.windows (feasible_sound d.windows (length-replicate slots 0) g.long f).1 in
        relieved_none places w e q.0 (λ u l. omega (arith, q.1 u l, g.same u l)))

    marked : r ≡ false → critical_set slots ds high ≡ tab slots (marks_of S')
    unfolding seen_at
    marked e = critical_as d.windows high g.long (critical_highs g.same (relieved_critical places w e))

    counted : r ≡ false → forced ds (critical_set slots ds high) ≡ marked_loads slots F' S'
    unfolding marked_loads seen_at
    counted e =
        let q = places_moved places w.moved in
        ap (forced ds) (marked e)
        ∙ closed_forced d.windows (places_placing q) (seen_at S') (words_closed q.day S' (w.held e).stuck.closed)
        ∙ on_cong (λ t l. refl) (λ t l. count_load q.day t)

    answer : (b : Bool) → r ≡ b → r ≡ feasible slots ds (replicate slots 0) high
    answer true e = e ∙ sym (represents_feasible (begins e))
    answer false e = e ∙ sym (none_sound e)

  pub begun : Begun r W N H F' R' C' S'
  begun =
      record {
        fed_long = w.moved.grid.fed;
        marks_long = λ e. (w.held e).stuck.marks;
        marks_past = unmarked;
        answer = λ slots ds high d g. answer slots ds high d g r refl;
        yes = λ e slots ds high d g. begins slots ds high d g e;
        marked = λ e slots ds high d g. marked slots ds high d g e;
        counted = λ e slots ds high d g. counted slots ds high d g e;
      }

-- with other volumes
pub begun_again : {N N' H F R F₁ R₁ F' R' S' : List ℕ} {r : Bool} → length H ≡ 96 → PlacedAgain N' F R F₁ R₁ → Relieved r F₁ R₁ H F' R' S'
    → BegunAgain r N N' H F R F' R' S'
begun_again h p w =
    let c = some_widths w.moved.grid in
    record {
      holds = λ W s. started_moved (started_again s p) w.moved;
      answer = λ W s. (begun h (started_again s p) w c.1).answer;
      marks_long = λ e. (w.held e).stuck.marks;
    }

-- words in which nothing is fed hold the windows with no volume
pub holds_none : {W : List ℕ} → length W ≡ max_slots → Holds W (replicate max_rations 0) (replicate max_slots 0) W
holds_none = started_none
