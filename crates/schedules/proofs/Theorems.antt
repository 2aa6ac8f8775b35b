-- The main facts of this layer, (a) to (e), for every day: its windows and both its bounds have an entry for each slot.
-- Nothing is assumed of volumes, which may be 0 or too large for their windows. Here are the statements; the law files
-- have the proofs. Assumes nothing.
use Rattle.std.specs.Prelude.{◌≡◌, refl, ◌↔◌, Bool, true, false, ◌&&◌, List, [], ◌∷◌, ℕ, zero, suc, ◌*◌, ◌≤◌, ◌<◌, length, get_or, replicate, pos, negsuc, ◌≤ℤ◌}
use Rattle.std.proofs.Common.{sym, ◌∙◌, arith, mul-le-mul_right}
use Rattle.std.proofs.lemmas.Bool.{false≢true}
use Rattle.std.proofs.Math.IntN.{sub_ℕ}
use Rattle.std.specs.Int.Signed.{le_z}
use Rattle.common.specs.Lists.{count}
use Rattle.common.specs.Tests.{and_true, false_of_not_true}
use Rattle.theory.specs.SumsOver.{on_le_mul}
use Rattle.theory.proofs.Volumes.{forced_le_mul}
use Rattle.schedules.specs.Slots.{Slots, has, window}
use Rattle.schedules.specs.Schedules.{Demand, Schedule, Sound, Windows, AtMost, window_of, volume_of, feasible}
use Rattle.schedules.specs.Shortfall.{forced, capacity, shortfall, excess, NoObstacle, critical_set}
use Rattle.schedules.specs.Causes.{IsCause, obstacle}
use Rattle.schedules.specs.Meanings.{meanings}
use Rattle.schedules.proofs.ListLaws.{in_every}
use Rattle.schedules.proofs.Differences.{le_of_le_z, sub_range}
use Rattle.schedules.proofs.EnumerationLaws.{subsets_mem}
use Rattle.schedules.specs.AsFunctions.{free, bound}
use Rattle.schedules.proofs.AsFunctions.{forced_as, sum_over_as}
use Rattle.schedules.proofs.FeasibleLaws.{feasible_sound, sound_feasible, sound_no_obstacle, no_obstacle_sound, sound_looser}
use Rattle.schedules.proofs.CriticalLaws as Laws
use Rattle.schedules.proofs.CauseLaws.{is_cause, no_cause}

module _ {slots : ℕ} {ds : List Demand} (w : Windows slots ds) where
  module _ (low high : List ℕ) (l : length low ≡ slots) (h : length high ≡ slots) where
    -- (a) the Bool is true exactly where a sound placing exists
    pub feasible_iff_sound : (feasible slots ds low high ≡ true) ↔ ((p : Schedule) × Sound slots ds low high p)
    feasible_iff_sound = (feasible_sound w l h, λ s. sound_feasible w l h s.1)

    -- (b) a sound placing exists exactly when low ≤ high in every slot and no set of slots has shortfall or excess
    -- above zero (document 000, lemma 12, leaves the first condition unsaid: `order_is_needed` below)
    pub sound_iff_no_obstacle : ((p : Schedule) × Sound slots ds low high p) ↔ NoObstacle slots ds low high
    sound_iff_no_obstacle = (λ s. sound_no_obstacle w l h s.1, no_obstacle_sound w l h)

    -- (e) where there is none, one of the three causes applies, and `obstacle` is the first that does, with its slots
    pub cause_applies : feasible slots ds low high ≡ false → IsCause slots ds low high (obstacle slots ds low high)
    cause_applies = is_cause w low high l h

    -- where there is one, none applies
    pub no_cause_applies : feasible slots ds low high ≡ true → (obstacle slots ds low high).number ≡ 0
    no_cause_applies = no_cause w low high l h

  module _ (high : List ℕ) (h : length high ≡ slots) where
    -- (c) the set contained in every set of greatest shortfall is itself of greatest shortfall
    pub critical_is_greatest : (q : Slots) → length q ≡ slots → shortfall ds high q ≤ℤ shortfall ds high (critical_set slots ds high)
    critical_is_greatest = Laws.shortfall_le_critical w high h

    -- every set of as great a shortfall contains it
    pub critical_is_contained : (q : Slots) → length q ≡ slots → shortfall ds high (critical_set slots ds high) ≤ℤ shortfall ds high q
        → (t : ℕ) → has (critical_set slots ds high) t ≡ true → has q t ≡ true
    critical_is_contained = Laws.critical_within w high h

    -- it is empty exactly where no set has a greater shortfall than the empty set
    pub critical_empty_iff : (critical_set slots ds high ≡ replicate slots false)
        ↔ ((q : Slots) → length q ≡ slots → shortfall ds high q ≤ℤ shortfall ds high (replicate slots false))
    critical_empty_iff = Laws.critical_empty_iff w high h

    -- and so, where each volume fits in its window, exactly where no set has shortfall above zero
    pub critical_empty_iff_no_shortfall : ((j : ℕ) → j < length ds → volume_of ds j ≤ count (window_of ds j))
        → (critical_set slots ds high ≡ replicate slots false) ↔ ((q : Slots) → length q ≡ slots → shortfall ds high q ≤ℤ pos 0)
    critical_empty_iff_no_shortfall fits = rw (Laws.shortfall_none w high h fits) at critical_empty_iff

    -- where no placing keeps the highs, more is forced into it than its capacity
    pub infeasible_critical : feasible slots ds (replicate slots 0) high ≡ false
        → capacity high (critical_set slots ds high) < forced ds (critical_set slots ds high)
    infeasible_critical = Laws.infeasible_critical w high h

  -- (d) setting a high lower or a low higher never makes a sound placing appear
  module _ (low high low' high' : List ℕ) (l : length low ≡ slots) (h : length high ≡ slots) (l' : length low' ≡ slots) (h' : length high' ≡ slots)
      (lower : AtMost slots low low') (higher : AtMost slots high' high) where
    pub infeasible_tighter : feasible slots ds low high ≡ false → feasible slots ds low' high' ≡ false
    infeasible_tighter e =
        false_of_not_true (feasible slots ds low' high')
        (λ k. let s = feasible_sound w l' h' k in false≢true (sym e ∙ sound_feasible w l h (sound_looser w lower higher s.1)))

    pub feasible_looser : feasible slots ds low' high' ≡ true → feasible slots ds low high ≡ true
    feasible_looser k = let s = feasible_sound w l' h' k in sound_feasible w l h (sound_looser w lower higher s.1)

-- The day of (b) --------------------------------------------------------------

-- One ration with the window 1 to 3 and volume 1, lows 0, 1, 0 and highs 0, 0, 1: no set has shortfall or excess above
-- zero, and yet there is no sound placing, since slot 2 has a low above its high.
abbrev pub one_ration : List Demand
one_ration = record { window = window 3 1 3; volume = 1 } ∷ []

abbrev pub lows : List ℕ
lows = 0 ∷ 1 ∷ 0 ∷ []

abbrev pub highs : List ℕ
highs = 0 ∷ 0 ∷ 1 ∷ []

pub order_is_needed : ((q : Slots) → length q ≡ 3 → (shortfall one_ration highs q ≤ℤ pos 0) × (excess one_ration lows q ≤ℤ pos 0))
    × ((p : Schedule) → Sound 3 one_ration lows highs p → ⊥)
unfolding meanings
order_is_needed = (
  λ q e.
      let b = and_true (le_z (shortfall one_ration highs q) (pos 0)) (le_z (excess one_ration lows q) (pos 0)) (in_every fine refl ((subsets_mem 3 q).1 e)) in
      (le_of_le_z b.0, le_of_le_z b.1),
  λ p s. false≢true (sound_feasible windows refl refl s),
)
  where
    fine : Slots → Bool
    fine q = le_z (shortfall one_ration highs q) (pos 0) && le_z (excess one_ration lows q) (pos 0)

    windows : Windows 3 one_ration
    windows = record { all_day = go }
      where
        go : (j : ℕ) → j < 1 → length (window_of one_ration j) ≡ 3
        go zero l = refl
        go (suc j) l = absurd (omega arith)

-- The range of a shortfall ----------------------------------------------------

-- at most n demands of volume at most v, at most d slots with highs of at most m: from −(d × m) to n × v
pub shortfall_range : {slots : ℕ} {ds : List Demand} → Windows slots ds → (high : List ℕ) → length high ≡ slots → (n v d m : ℕ)
    → length ds ≤ n → ((j : ℕ) → j < length ds → volume_of ds j ≤ v) → slots ≤ d → ((t : ℕ) → t < slots → get_or high t 0 ≤ m)
    → (q : Slots) → length q ≡ slots → (sub_ℕ 0 (d * m) ≤ℤ shortfall ds high q) × (shortfall ds high q ≤ℤ pos (n * v))
unfolding shortfall
shortfall_range {slots} {ds} w high h n v d m a b c e q l =
    sub_range (forced ds q) (capacity high q) (n * v) (d * m)
    (omega (arith, forced_as w q l, forced_le_mul (length ds) slots (free ds) (volume_of ds) v b (has q), mul-le-mul_right v a))
    (omega (arith, sum_over_as high q h l, on_le_mul slots m (has q) (bound high) e, mul-le-mul_right m c))

-- and so on a day of document 01: from −768 to 6,144
pub shortfall_of_day : {slots : ℕ} {ds : List Demand} → Windows slots ds → (high : List ℕ) → length high ≡ slots
    → length ds ≤ 64 → ((j : ℕ) → j < length ds → volume_of ds j ≤ 96) → slots ≤ 96 → ((t : ℕ) → t < slots → get_or high t 0 ≤ 8)
    → (q : Slots) → length q ≡ slots → (negsuc 767 ≤ℤ shortfall ds high q) × (shortfall ds high q ≤ℤ pos 6144)
shortfall_of_day w high h = shortfall_range w high h 64 96 96 8
