-- One cell taken out of the words, or moved from the fed to the resting: what becomes of windows, volumes and loads. Assumes nothing.
use Rattle.std.specs.Prelude.{◌≡◌, refl, ◌≢◌, Bool, false, List, ℕ, zero, suc, ◌+◌, ◌-◌, ◌^◌, ◌≤◌, ◌<◌, length, set, replicate}
use Rattle.std.proofs.Common.{sym, ap, ◌∙◌, subst, arith, length-set, get_or-set_same, get_or-set_other}
use Rattle.std.proofs.Math.Decide.{ℕ_discrete}
use Rattle.std.specs.Int.Count.{ones}
use Rattle.theory.specs.SumsOver.{one}
use Rattle.theory.specs.Move.{upd}
use Rattle.theory.proofs.Move.{upd_same, upd_row, upd_col}
use Rattle.common.specs.Bits.{bit, ones_sub}
use Rattle.grid.specs.Grid.{slots, at, load, volume, Grid, ind}
use Rattle.loads.specs.First.{rations, Fed}
use Rattle.loads.specs.FirstLaws.{fed_one}
use Rattle.grid.specs.MoveLaws.{ind_same, ind_other, volume_set, sub_bits}
use Rattle.loads.specs.ExchangeLaws.{grid_exchange}
use Rattle.loads.specs.Meaning.{Day, Places}
use Rattle.loads.specs.MeaningLaws.{day_exchange}
use Rattle.loads.specs.StateLaws.{put_same, put_other, at_or_other}
use Rattle.feedings.specs.CellChoice.{one_less}

-- words that are all 0
pub at_zeros : (n t : ℕ) → at (replicate n 0) t ≡ 0
at_zeros zero t = refl
at_zeros (suc n) zero = refl
at_zeros (suc n) (suc t) = at_zeros n t

-- what is true of cell (t, j), of the other cells of the slot, and of those of other slots
pub cell_cases : (P : ℕ → ℕ → Type 0) (j t : ℕ) → P j t → ((k : ℕ) → k ≢ j → P k t) → ((k u : ℕ) → u ≢ t → P k u) → (k u : ℕ) → P k u
cell_cases P j t p q r k u = go (ℕ_discrete u t) (ℕ_discrete k j)
  where
    go : Dec (u ≡ t) → Dec (k ≡ j) → P k u
    go (no h) y = r k u h
    go (yes e) (yes i) = subst (P k) (sym e) (subst (λ (k : ℕ). P k t) (sym i) p)
    go (yes e) (no h) = subst (P k) (sym e) (q k h)

-- g is one less than f at i, and else the same
pub less_below : (m : ℕ) (f g : ℕ → ℕ) (i : ℕ) → ((k : ℕ) → k < m → g k + ind k i ≡ f k) → (k : ℕ) → k < m → g k ≡ one_less f i k
less_below m f g i h =
    at_or_other (λ (k : ℕ). k < m → g k ≡ one_less f i k) i (λ l. omega (arith, h i l, ind_same i, put_same f i (f i - 1)))
    (λ k n l. omega (arith, h k l, ind_other k i n, put_other f i (f i - 1) k n))

-- A bit taken out of a word ---------------------------------------------------

module _ (L : List ℕ) (t j w : ℕ) (long : length L ≡ slots) (l : t < slots) (has : bit (at L t) j ≡ 1) (e : w ≡ at L t - 2 ^ j) where
  here : at (set L t w) t ≡ at L t - 2 ^ j
  here = get_or-set_same L t w 0 (omega arith) ∙ e

  there : (u : ℕ) → u ≢ t → at (set L t w) u ≡ at L u
  there u h = get_or-set_other L t u w 0 h

  pub out_le : (u : ℕ) → at (set L t w) u ≤ at L u
  out_le = at_or_other (λ (u : ℕ). at (set L t w) u ≤ at L u) t (omega (arith, here)) (λ u h. omega (arith, there u h))

  out_row : (k : ℕ) → bit (at (set L t w) t) k + ind k j ≡ bit (at L t) k
  out_row k = rw here (sub_bits (at L t) j k has)

  pub out_bit_le : (k u : ℕ) → bit (at (set L t w) u) k ≤ bit (at L u) k
  out_bit_le k =
      at_or_other (λ (u : ℕ). bit (at (set L t w) u) k ≤ bit (at L u) k) t (omega (arith, out_row k))
      (λ u h. omega (arith, ap (λ (x : ℕ). bit x k) (there u h)))

  pub out_volume : (k : ℕ) → volume (set L t w) k + ind k j ≡ volume L k
  out_volume k = omega (arith, volume_set L t w k long l, out_row k, ap (λ (x : ℕ). bit x k) (here ∙ sym e))

  pub out_load : (u : ℕ) → load (set L t w) u + ind u t ≡ load L u
  out_load =
      at_or_other (λ (u : ℕ). load (set L t w) u + ind u t ≡ load L u) t
      (omega (arith, ap ones here, ones_sub (at L t) j has, ind_same t))
      (λ u h. omega (arith, ap ones (there u h), ind_other u t h))

  pub out_grid : {F : List ℕ} → Grid F L → Grid F (set L t w)
  out_grid g = record { fed = g.fed; rest = length-set L t w ∙ long; disjoint = λ u k. omega (arith, out_bit_le k u, g.disjoint u k) }

  -- the cell is in no window any more
  pub out_day : {n d : ℕ} {free : ℕ → ℕ → Bool} {F : List ℕ} → Day n d free F L → Day n d (upd free j t false) F (set L t w)
  out_day {n} {d} {free} {F} y =
      record {
        grid = out_grid y.grid;
        short = y.short;
        few = λ u. omega (arith, out_le u, y.few u);
        past = λ u h. omega (arith, out_le u, y.past u h);
        windows =
            cell_cases (λ k u. k < n → u < d → one (upd free j t false k u) ≡ bit (at F u) k + bit (at (set L t w) u) k) j t
            (λ a b. omega (arith, ap one (upd_same free j t false), y.grid.disjoint t j, out_row j, ind_same j))
            (λ k h a b. omega (arith, ap one (upd_row free j t false k t h), y.windows k t a b, out_row k, ind_other k j h))
            (λ k u h a b. omega (arith, ap one (upd_col free j t false k u h), y.windows k u a b, ap (λ (x : ℕ). bit x k) (there u h)));
      }

-- A ration that rests leaves the slot ------------------------------------------

pub out_rest : {n d : ℕ} {free : ℕ → ℕ → Bool} {v : ℕ → ℕ} {F R : List ℕ} (t j w : ℕ) → t < slots → bit (at R t) j ≡ 1 → w ≡ at R t - 2 ^ j
    → Places n d free v F R → Places n d (upd free j t false) v F (set R t w)
out_rest {R} t j w l has e p = record { day = out_day R t j w p.day.grid.rest l has e p.day; volumes = p.volumes }

-- A ration that is fed leaves the slot ----------------------------------------

pub out_fed : {n d : ℕ} {free : ℕ → ℕ → Bool} {v : ℕ → ℕ} {F R : List ℕ} (t j w : ℕ) → t < slots → bit (at F t) j ≡ 1 → w ≡ at F t - 2 ^ j
    → Places n d free v F R → Places n d (upd free j t false) (one_less v j) (set F t w) R
out_fed {n} {v} {F} t j w l has e p =
    record {
      day = day_exchange (out_day F t j w p.day.grid.fed l has e (day_exchange p.day));
      volumes = less_below n v (volume (set F t w)) j (λ k a. out_volume F t j w p.day.grid.fed l has e k ∙ p.volumes k a);
    }

-- A ration that is fed rests in the slot instead ------------------------------

module _ {F R : List ℕ} (z j a b : ℕ) (g : Grid F R) (l : z < slots) (m : j < rations) (has : bit (at F z) j ≡ 1) (ea : a ≡ at F z - 2 ^ j)
    (eb : b ≡ at R z + 2 ^ j) where
  -- on the exchanged words, a feeding more
  fed_back : Fed j 1 R F (set R z b) (set F z a)
  fed_back = fed_one (record { grid = grid_exchange g; ration = m; slot = l }) has b a eb ea

  pub back_grid : Grid (set F z a) (set R z b)
  back_grid = grid_exchange fed_back.grid

  pub back_load : (u : ℕ) → load (set F z a) u + ind u z ≡ load F u
  back_load = out_load F z j a g.fed l has ea

  pub back_volume : (k : ℕ) → volume (set F z a) k + ind k j ≡ volume F k
  back_volume = out_volume F z j a g.fed l has ea

  pub back_places : {n d : ℕ} {free : ℕ → ℕ → Bool} {v : ℕ → ℕ} → Places n d free v F R → Places n d free (one_less v j) (set F z a) (set R z b)
  back_places {n} {v} p =
      record {
        day = record {
          grid = back_grid;
          short = p.day.short;
          few = λ u. omega (arith, fed_back.words u, p.day.few u);
          past = λ u h. omega (arith, fed_back.words u, p.day.past u h);
          windows = λ k u x y. omega (arith, fed_back.bits k u, p.day.windows k u x y);
        };
        volumes = less_below n v (volume (set F z a)) j (λ k o. back_volume k ∙ p.volumes k o);
      }
