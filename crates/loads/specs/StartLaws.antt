-- The first placing and its relief: from windows and volumes to a placing within the highs, or the proof that there is none with the least
-- set of greatest shortfall. Assumes nothing.
use Rattle.std.specs.Prelude.{◌≡◌, refl, Bool, true, false, List, ℕ, ◌≤◌, ◌<◌, length}
use Rattle.std.proofs.Math.Path.{sym, ap}
use Rattle.std.proofs.Common.{◌∙◌, arith, pow_mono}
use Rattle.std.proofs.Math.Decide.{dec_lt}
use Rattle.loads.specs.Theory.{sum_cong, size, count, Placing, Critical}
use Rattle.common.specs.Bits.{bit, bit_of_zero}
use Rattle.grid.specs.Grid.{slots, at, volume}
use Rattle.loads.specs.Relief.{Relieved, Widths}
use Rattle.loads.specs.First.{rations, CanStart, Started}
use Rattle.loads.specs.Meaning.{seen_at, Places, State, Given}
use Rattle.loads.specs.MeaningLaws.{sum_past, count_width, places_moved}
use Rattle.loads.specs.HeldLaws.{held_critical, held_none}

-- ---- `relieve`

module _ {n d : ℕ} {free : ℕ → ℕ → Bool} {v : ℕ → ℕ} {F R H F' R' S' : List ℕ} {r : Bool} (p : Places n d free v F R) (w : Relieved r F R H F' R' S') where
  -- a placing within the highs, with no low above 0
  pub relieved_state : {C : List ℕ} → length H ≡ slots → r ≡ true → Widths F' R' C → State n d free v (λ t. 0) (at H) F' R' H C
  relieved_state h e c =
      let q = places_moved p w.moved in
      record {
        places = q;
        highs = h;
        high_at = λ t l. refl;
        fed_within = w.done e;
        spares = c.long;
        spare_at = λ t l. omega (arith, c.is t, count_width q.day t l);
        rest_within = λ t. omega (arith, c.is t);
      }

  -- or the marked slots are the least set of greatest shortfall, and no placing of these rations keeps within the highs
  pub relieved_critical : r ≡ false → Critical n d free v (at H) (seen_at S')
  relieved_critical e = held_critical (places_moved p w.moved) (w.held e)

  pub relieved_none : r ≡ false → {P : ℕ → ℕ → Bool} → Placing n d free v P → ((t : ℕ) → t < d → count n P t ≤ at H t) → ⊥
  relieved_none e = held_none (places_moved p w.moved) (w.held e)

-- ---- `place_first`

module _ {n d : ℕ} {free : ℕ → ℕ → Bool} {v : ℕ → ℕ} {W N : List ℕ} (g : Given n d free v W N) where
  window_size : (j : ℕ) → j < n → volume W j ≡ size d (free j)
  unfolding volume size
  window_size j l =
      sum_past d slots (λ t. bit (at W t) j) g.short (λ t k. ap (λ (w : ℕ). bit w j) (g.past t k) ∙ bit_of_zero j)
      ∙ sum_cong (λ t k. sym (g.window j t l k))

  -- every volume is at most the window's length
  pub given_start : {H : List ℕ} → length H ≡ slots → ((j : ℕ) → j < n → v j ≤ size d (free j)) → CanStart W N H
  given_start h f =
      record {
        windows = g.long;
        highs = h;
        few = λ t. omega (arith, g.few t, pow_mono {i = n} {j = rations} g.most);
        fits = λ j l. go j l (dec_lt j n);
      }
    where
      go : (j : ℕ) → j < rations → Dec (j < n) → at N j ≤ volume W j
      go j l (yes k) = omega (arith, g.volume_at_lem j k, window_size j k, f j k)
      go j l (no k) = omega (arith, g.no_volume j (omega arith) l)

  pub started_places : {F R : List ℕ} → Started W N F R → Places n d free v F R
  started_places s =
      record {
        day =
            record {
              grid = s.grid;
              short = g.short;
              few = λ t. omega (arith, s.words t, g.few t);
              past = λ t l. omega (arith, s.words t, g.past t l);
              windows = λ j t l k. g.window j t l k ∙ sym (s.bits j t);
            };
        volumes = λ j l. s.volumes j (omega (arith, g.most)) ∙ g.volume_at_lem j l;
      }
