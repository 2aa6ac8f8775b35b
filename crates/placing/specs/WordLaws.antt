-- The words and bytes of rations in the longest day are those of the same rations in their own day. Assumes nothing.
use Rattle.std.specs.Prelude.{◌≡◌, refl, Bool, true, false, ◌&&◌, List, ℕ, suc, ◌^◌, ◌≤◌, ◌<◌, leb, length, get_or}
use Rattle.std.proofs.Common.{sym, ap, ◌∙◌, arith, pow_mono}
use Rattle.std.proofs.Math.Decide.{ℕ_discrete, dec_lt}
use Rattle.std.proofs.lemmas.Bool.{lt-leb}
use Rattle.common.specs.Bits.{bit, bit_le, some_bit}
use Rattle.checks.specs.Limits.{max_slots}
use Rattle.theory.specs.SumsOver.{one}
use Rattle.schedules.specs.Slots.{has}
use Rattle.schedules.specs.Schedules.{Demand, window_of}
use Rattle.placing.specs.Rations.{release_at, deadline_at, demands_from, Rations}
use Rattle.placing.specs.Words.{WindowWords, VolumeBytes, in_window}
use Rattle.schedules.proofs.WindowLaws.{has_window}
use Rattle.placing.specs.RationLaws.{length_demands_from, window_of_demands_from, volume_of_demands_from}

-- a word below 2 ^ n without a bit below n is 0
zero_of_bits : (n w : ℕ) → w < 2 ^ n → ((k : ℕ) → k < n → bit w k ≡ 0) → w ≡ 0
zero_of_bits n w h z = go (ℕ_discrete w 0)
  where
    below : (k : ℕ) → bit w k ≡ 1 → Dec (k < n) → k < n
    below k e (yes l) = l
    below k e (no l) = absurd (omega (arith, bit_le w k e, pow_mono {i = n} {j = k} (omega arith)))

    go : Dec (w ≡ 0) → w ≡ 0
    go (yes e) = e
    go (no n') = let b = some_bit w n' in absurd (omega (arith, b.1, z b.0 (below b.0 b.1 (dec_lt b.0 n))))

has_demands_from : (slots n : ℕ) (numbers : List ℕ) (j t : ℕ) → j < n → t < slots
    → has (window_of (demands_from slots n numbers) j) t ≡ in_window (release_at numbers j) (deadline_at numbers j) t
has_demands_from slots n numbers j t l m =
    ap (λ w. has w t) (window_of_demands_from slots n numbers j l) ∙ has_window slots (release_at numbers j) (deadline_at numbers j) t m

after_deadline : (release deadline t : ℕ) → deadline ≤ t → in_window release deadline t ≡ false
after_deadline release deadline t l = go (leb release (suc t))
  where
    go : (b : Bool) → (b && leb (suc t) deadline) ≡ false
    go true = lt-leb (suc t) deadline (omega arith)
    go false = refl

module _ {slots n : ℕ} {numbers : List ℕ} (h : Rations slots n numbers) where
  pub windows_of_day : {W : List ℕ} → WindowWords max_slots (demands_from max_slots n numbers) W → WindowWords slots (demands_from slots n numbers) W
  windows_of_day {W} w =
      record {
        long = w.long;
        few = λ t. omega (arith, w.few t, ap (λ k. 2 ^ k) (length_demands_from max_slots n numbers ∙ sym (length_demands_from slots n numbers)));
        past = λ t l. past t l (dec_lt t max_slots);
        window = λ j t l m.
            let k : j < n = rw (length_demands_from slots n numbers) at l in
            let m' : t < max_slots = omega (arith, h.short) in
            ap one (has_demands_from slots n numbers j t k m ∙ sym (has_demands_from max_slots n numbers j t k m'))
            ∙ w.window j t (rw (length_demands_from max_slots n numbers) k) m';
      }
    where
      past : (t : ℕ) → slots ≤ t → Dec (t < max_slots) → get_or W t 0 ≡ 0
      past t l (yes m) =
          zero_of_bits n (get_or W t 0) (omega (arith, w.few t, ap (λ k. 2 ^ k) (length_demands_from max_slots n numbers)))
          (λ j k.
          sym (w.window j t (rw (length_demands_from max_slots n numbers) k) m)
          ∙ ap one (has_demands_from max_slots n numbers j t k m ∙ after_deadline (release_at numbers j) (deadline_at numbers j) t (omega (arith, (h.each j k).deadline))))
      past t l (no m) = w.past t (omega arith)

  pub volumes_of_day : {N : List ℕ} → VolumeBytes (demands_from max_slots n numbers) N → VolumeBytes (demands_from slots n numbers) N
  volumes_of_day v =
      let c = length_demands_from slots n numbers in
      let d = length_demands_from max_slots n numbers in
      record {
        long = v.long;
        volume = λ j l.
            let k : j < n = rw c at l in
            v.volume j (rw d k) ∙ volume_of_demands_from max_slots n numbers j k ∙ sym (volume_of_demands_from slots n numbers j k);
        past = λ j l. v.past j (omega arith);
      }

-- they depend on the windows alone, whatever the volumes are
pub windows_same : {slots : ℕ} {ds es : List Demand} → length es ≡ length ds
    → ((j : ℕ) → j < length ds → window_of es j ≡ window_of ds j) → {W : List ℕ} → WindowWords slots ds W → WindowWords slots es W
windows_same e same w =
    record {
      long = w.long;
      few = λ t. omega (arith, w.few t, ap (λ k. 2 ^ k) e);
      past = w.past;
      window = λ j t l m. let k = rw e at l in ap (λ x. one (has x t)) (same j k) ∙ w.window j t k m;
    }
