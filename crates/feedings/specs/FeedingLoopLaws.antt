-- The loops that choose the feedings: what they keep, ration after ration in a slot and slot after slot. Assumes nothing.
use Rattle.std.specs.Prelude.{◌≡◌, List, ℕ, suc, ◌+◌, ◌^◌, ◌≤◌, ◌<◌, length, set, get_or, replicate}
use Rattle.std.proofs.Common.{sym, ap, ◌∙◌, subst, not-suc-le-zero, add-one, arith, length-set, get_or-set_same, get_or-set_other}
use Rattle.std.proofs.Math.Decide.{ℕ_discrete}
use Rattle.std.proofs.lemmas.List.{length-replicate}
use Rattle.schedules.specs.Schedules.{Demand}
use Rattle.schedules.specs.AsFunctions.{fed}
use Rattle.placing.specs.Represents.{Represents}
use Rattle.feedings.specs.CellChoice.{Feedable, MayFeed, FedMarked, CanFeedBit, FedBit, RowWord}
use Rattle.feedings.specs.CellWordLaws.{at_zeros}
use Rattle.feedings.specs.CellMayLaws.{may_start}
use Rattle.method.specs.Feedings.{chosen}
use Rattle.feedings.specs.FeedingState.{Choosing, choosing_first, choosing_next_row, choosing_answer, choosing_next}
use Rattle.feedings.specs.FeedingCalls.{CanChooseSlot, ChoseSlot, CanChoose, Chose}

-- `choose_slot` ---------------------------------------------------------------

-- after j rations of slot t, from the words F₀, R₀, H₀; m has the rations that may still be fed in it
pub record InSlot (F₀ R₀ H₀ F R H : List ℕ) (t rations w m j : ℕ) : Type 0 where
  pub within : j ≤ rations
  pub words : Feedable F R H
  pub may : MayFeed m t F R
  pub few : w < 2 ^ j
  pub row : (slots : ℕ) (ds : List Demand) (counts : List ℕ) → length ds ≡ rations → t < slots → Choosing slots ds counts t 0 F₀ R₀ H₀
      → RowWord j w (λ i. fed (chosen slots ds counts) i t)
  pub state : (slots : ℕ) (ds : List Demand) (counts : List ℕ) → length ds ≡ rations → t < slots → Choosing slots ds counts t 0 F₀ R₀ H₀
      → Choosing slots ds counts t j F R H

module _ {F₀ R₀ H₀ : List ℕ} {t rations : ℕ} (p : CanChooseSlot F₀ R₀ H₀ t rations) where
  pub in_slot_start : {m : ℕ} → FedMarked m F₀ (replicate 96 1) → InSlot F₀ R₀ H₀ F₀ R₀ H₀ t rations 0 m 0
  in_slot_start a =
      record {
        within = omega arith;
        words = p.words;
        may = may_start p.words.grid p.slot a;
        few = omega arith;
        row = λ slots ds counts e l s. record { few = omega arith; bits = λ i k. absurd (not-suc-le-zero k) };
        state = λ slots ds counts e l s. s;
      }

  module _ {F R H : List ℕ} {w m j : ℕ} (a : InSlot F₀ R₀ H₀ F R H t rations w m j) where
    pub in_slot_feed : j < rations → CanFeedBit w m F R H t j
    in_slot_feed k = record { feed = record { words = a.words; slot = p.slot; ration = omega (arith, p.few) }; new = a.few; may = a.may }

    pub in_slot_next : {r m' : ℕ} {F' R' H' : List ℕ} → j < rations → FedBit w r m' F R H F' R' H' t j → InSlot F₀ R₀ H₀ F' R' H' t rations r m' (j + 1)
    in_slot_next k b =
        rw add-one (record {
          within = k;
          words = b.decided.words;
          may = b.may;
          few = b.few;
          row = λ slots ds counts e l s.
              b.row (λ i. fed (chosen slots ds counts) i t)
              (choosing_answer (a.state slots ds counts e l s) l (omega arith) b.decided) (a.row slots ds counts e l s);
          state = λ slots ds counts e l s. choosing_next (a.state slots ds counts e l s) l (omega arith) b.decided;
        })

    pub chose_slot : rations ≤ j → ChoseSlot w F₀ R₀ H₀ F R H t rations
    chose_slot k =
        let i : j ≡ rations = omega (arith, a.within) in
        record {
          words = a.words;
          row = λ slots ds counts e l s. subst (λ (n : ℕ). RowWord n w (λ i. fed (chosen slots ds counts) i t)) i (a.row slots ds counts e l s);
          next = λ slots ds counts e l s.
              choosing_next_row (subst (λ (n : ℕ). Choosing slots ds counts t n F R H) (i ∙ sym e) (a.state slots ds counts e l s));
        }

-- `choose` --------------------------------------------------------------------

-- after t slots
pub record InDay (F₀ R₀ H₀ F R H W : List ℕ) (slots rations t : ℕ) : Type 0 where
  pub within : t ≤ slots
  pub words : Feedable F R H
  pub long : length W ≡ 96
  pub ahead : (u : ℕ) → t ≤ u → get_or W u 0 ≡ 0
  pub rows : (ds : List Demand) (counts C : List ℕ) → length ds ≡ rations → Represents slots ds counts counts F₀ R₀ H₀ C
      → (u : ℕ) → u < t → RowWord rations (get_or W u 0) (λ j. fed (chosen slots ds counts) j u)
  pub state : (ds : List Demand) (counts C : List ℕ) → length ds ≡ rations → Represents slots ds counts counts F₀ R₀ H₀ C
      → Choosing slots ds counts t 0 F R H

module _ {F₀ R₀ H₀ W₀ : List ℕ} {slots rations : ℕ} (p : CanChoose F₀ R₀ H₀ W₀ slots rations) where
  pub in_day_start : InDay F₀ R₀ H₀ F₀ R₀ H₀ W₀ slots rations 0
  in_day_start =
      record {
        within = omega arith;
        words = p.words;
        long = ap length p.blank ∙ length-replicate {A = ℕ} 96 0;
        ahead = λ u l. ap (λ w. get_or w u 0) p.blank ∙ at_zeros 96 u;
        rows = λ ds counts C e s u l. absurd (not-suc-le-zero l);
        state = λ ds counts C e s. choosing_first s;
      }

  module _ {F R H W : List ℕ} {t : ℕ} (a : InDay F₀ R₀ H₀ F R H W slots rations t) where
    pub in_day_slot : t < slots → CanChooseSlot F R H t rations
    in_day_slot l = record { words = a.words; slot = omega (arith, p.short); few = p.few }

    pub in_day_next : {r : ℕ} {F' R' H' : List ℕ} → t < slots → ChoseSlot r F R H F' R' H' t rations → InDay F₀ R₀ H₀ F' R' H' (set W t r) slots rations (t + 1)
    in_day_next {r} l b =
        rw add-one (record {
          within = l;
          words = b.words;
          long = length-set W t r ∙ a.long;
          ahead = λ u k. get_or-set_other W t u r 0 (λ e. omega arith) ∙ a.ahead u (omega arith);
          rows = λ ds counts C e s u k. row ds counts C e s u k (ℕ_discrete u t);
          state = λ ds counts C e s. b.next slots ds counts e l (a.state ds counts C e s);
        })
      where
        row : (ds : List Demand) (counts C : List ℕ) → length ds ≡ rations → Represents slots ds counts counts F₀ R₀ H₀ C
            → (u : ℕ) → u < suc t → Dec (u ≡ t) → RowWord rations (get_or (set W t r) u 0) (λ j. fed (chosen slots ds counts) j u)
        row ds counts C e s u k (yes i) =
            subst (λ (u : ℕ). RowWord rations (get_or (set W t r) u 0) (λ j. fed (chosen slots ds counts) j u)) (sym i)
            (rw (get_or-set_same W t r 0 (omega (arith, a.long, p.short))) (b.row slots ds counts e l (a.state ds counts C e s)))
        row ds counts C e s u k (no h) = rw (get_or-set_other W t u r 0 h) (a.rows ds counts C e s u (omega arith))

    pub chose : slots ≤ t → Chose F₀ R₀ H₀ W slots rations
    chose k =
        record {
          holds = λ ds counts C e s. record {
            long = a.long;
            rows = λ u l. rw e (a.rows ds counts C e s u (omega arith));
            past = λ u l. a.ahead u (omega (arith, a.within));
          };
        }
