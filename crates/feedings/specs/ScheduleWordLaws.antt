-- Words that hold choices: a row takes one ration more, and what a whole grid of them says. Assumes nothing.
use Rattle.std.specs.Prelude.{◌≡◌, Bool, true, false, List, [], ℕ, suc, ◌+◌, ◌^◌, ◌≤◌, ◌<◌, length, get_or}
use Rattle.std.proofs.Common.{sym, ap, ◌∙◌, ⊎_elim, eq-or-lt_of_le, arith}
use Rattle.std.proofs.Math.Nat.{pow-succ'}
use Rattle.std.specs.Int.Count.{ones}
use Rattle.theory.specs.Sums.{sum, sum_cong}
use Rattle.theory.specs.SumsOver.{one, one_inj}
use Rattle.theory.specs.Placing.{count}
use Rattle.common.specs.Bits.{bit, bit_below, add_same, add_other}
use Rattle.loads.specs.Meaning.{bit_at}
use Rattle.loads.specs.MeaningLaws.{one_bit_at, ones_sum}
use Rattle.schedules.specs.Schedules.{Demand, Schedule, Windows, Sound}
use Rattle.schedules.specs.Schedules.{load as load_of}
use Rattle.schedules.specs.AsFunctions.{fed, listed, Rows}
use Rattle.schedules.proofs.AsFunctions.{load_as}
use Rattle.schedules.specs.Tabulate.{tab_unique}
use Rattle.feedings.specs.CellChoice.{RowWord, ScheduleWords, Decided, MayFeed, FedBit}

-- a bit below j, or j
below_cases : (P : ℕ → Type 0) (j : ℕ) → P j → ((i : ℕ) → i < j → P i) → (i : ℕ) → i < suc j → P i
below_cases P j p q i l = let h : i ≤ j = omega arith in ⊎_elim (λ e. rw e p) (λ k. q i k) (eq-or-lt_of_le h)

module _ {j w : ℕ} {s : ℕ → Bool} (r : RowWord j w s) where
  row_fed : s j ≡ true → RowWord (suc j) (w + 2 ^ j) s
  row_fed e =
      let z = bit_below w j r.few in
      record {
        few = omega (arith, r.few, pow-succ' 2 j);
        bits =
            below_cases (λ i. bit (w + 2 ^ j) i ≡ one (s i)) j (add_same w j z ∙ sym (ap one e))
            (λ i l. add_other w j i z (λ q. omega arith) ∙ r.bits i l);
      }

  row_not_fed : s j ≡ false → RowWord (suc j) w s
  row_not_fed e =
      record {
        few = omega (arith, r.few, pow-succ' 2 j);
        bits = below_cases (λ i. bit w i ≡ one (s i)) j (bit_below w j r.few ∙ sym (ap one e)) r.bits;
      }

-- `feed_bit` ------------------------------------------------------------------

module _ {r : Bool} {F R H F' R' H' : List ℕ} {t j m : ℕ} (d : Decided r F R H F' R' H' t j × MayFeed m t F' R') (w : ℕ) (new : w < 2 ^ j) where
  pub fed_bit_yes : r ≡ true → {x : ℕ} → x ≡ w + 2 ^ j → FedBit w x m F R H F' R' H' t j
  fed_bit_yes e i =
      record { answer = r; may = d.1; decided = d.0; few = omega (arith, pow-succ' 2 j); row = λ s q k. rw i (row_fed k (q ∙ e)) }

  pub fed_bit_no : r ≡ false → FedBit w w m F R H F' R' H' t j
  fed_bit_no e = record { answer = r; may = d.1; decided = d.0; few = omega (arith, pow-succ' 2 j); row = λ s q k. row_not_fed k (q ∙ e) }

-- The whole grid ---------------------------------------------------------------

-- the words' bits, as lists, are the placing they hold
pub words_listed : {day : ℕ} {ds : List Demand} {low high W : List ℕ} {p : Schedule} → Windows day ds → Sound day ds low high p
    → ScheduleWords (length ds) day p W → listed (length ds) day (bit_at W) ≡ p
words_listed {day} {ds} {W} {p} w s h =
    sym (tab_unique [] p (length ds) _ s.for_each
    (λ j m. tab_unique false (get_or p j []) day (bit_at W j) ((s.served j m).same_day ∙ w.all_day j m)
    (λ t l. one_inj (sym ((h.rows t l).bits j m) ∙ sym (one_bit_at W j t)))))

-- the ones of a slot's word are the slot's load
pub words_load : {n d : ℕ} {p : Schedule} {W : List ℕ} → ScheduleWords n d p W → length p ≡ n → Rows d p → (t : ℕ) → t < d → ones (get_or W t 0) ≡ get_or (load_of d p) t 0
unfolding count
words_load {n} {d} {p} {W} h e rows t l =
    ones_sum n (get_or W t 0) (h.rows t l).few ∙ sum_cong (λ j m. (h.rows t l).bits j m) ∙ ap (λ k. sum k (λ j. one (fed p j t))) (sym e)
    ∙ sym (load_as p rows t l)
