-- The answers of `feed`: each of its returns decides the cell as `Decided` says. Assumes nothing.
use Rattle.std.specs.Prelude.{◌≡◌, refl, ◌≢◌, Bool, true, false, Option, None, Some, MatchOption, List, ℕ, ◌+◌, ◌-◌, ◌^◌, ◌≤◌, ◌<◌, eqb, length, set, position}
use Rattle.std.specs.List.{position_or_len}
use Rattle.std.proofs.lemmas.List.Quantifiers.{position-Some}
use Rattle.std.proofs.lemmas.List.Sums.{fails_before_first}
use Rattle.std.proofs.lemmas.Grind.{common_steps}
use borrow.Author.Tests.{eqb-true, eqb-false}
use Rattle.std.proofs.Common.{sym, ap, ◌∙◌, true≢false, arith, length-set, get_or-set_same, get_or-set_other}
use Rattle.std.proofs.lemmas.Bool.{false≢true}
use Rattle.common.specs.Tests.{false_of_not_true}
use Rattle.theory.specs.Sums.{sum_cong, sum_zero}
use Rattle.theory.specs.SumsOver.{one}
use Rattle.theory.specs.Placing.{size, count, Placing}
use Rattle.theory.specs.Move.{upd}
use Rattle.theory.proofs.Move.{upd_same, upd_row, upd_col, size_upd, size_upd_other, count_upd, count_upd_other}
use Rattle.common.specs.Bits.{bit, bit_none}
use Rattle.grid.specs.Grid.{slots, at, load, volume, ind}
use Rattle.grid.specs.MoveLaws.{ind_same, ind_other}
use Rattle.loads.specs.ExchangeLaws.{grid_exchange}
use Rattle.loads.specs.MeaningLaws.{one_true}
use Rattle.loads.specs.StateLaws.{put_same, put_other, at_or_other}
use Rattle.feedings.specs.CellChoice.{one_less, Exactly, CanFeed, Decided, FirstFed, CanAsk, Partner, CanReplace, Answered}
use Rattle.feedings.specs.ExactlyLaws.{exactly_windows}
use Rattle.feedings.specs.CellWordLaws.{cell_cases, less_below, out_grid, out_load, out_volume, out_rest, out_fed}

-- A placing without one cell --------------------------------------------------

module _ {n d : ℕ} {free : ℕ → ℕ → Bool} {v : ℕ → ℕ} {j t : ℕ} {T : ℕ → ℕ → Bool} (m : j < n) (l : t < d) (p : Placing n d free v T) (f : T j t ≡ true) where
  size_out : (k : ℕ) → k < n → size d (upd T j t false k) + ind k j ≡ v k
  size_out =
      at_or_other (λ (k : ℕ). k < n → size d (upd T j t false k) + ind k j ≡ v k) j
      (λ a. omega (arith, size_upd T j t false d l, ap one f, ind_same j, p.volume j a))
      (λ k h a. omega (arith, size_upd_other T j t false d k h, ind_other k j h, p.volume k a))

  pub out_placing : Placing n d (upd free j t false) (one_less v j) (upd T j t false)
  out_placing =
      record {
        within = λ k a u b. inside k u a b;
        volume = less_below n v (λ k. size d (upd T j t false k)) j size_out;
      }
    where
      inside : (k u : ℕ) → k < n → u < d → upd T j t false k u ≡ true → upd free j t false k u ≡ true
      inside =
          cell_cases (λ k u. k < n → u < d → upd T j t false k u ≡ true → upd free j t false k u ≡ true) j t
          (λ a b e. absurd (false≢true (sym (upd_same T j t false) ∙ e)))
          (λ k h a b e. upd_row free j t false k t h ∙ p.within k a t b (sym (upd_row T j t false k t h) ∙ e))
          (λ k u h a b e. upd_col free j t false k u h ∙ p.within k a u b (sym (upd_col T j t false k u h) ∙ e))

  pub out_count : {c : ℕ → ℕ} → ((u : ℕ) → u < d → count n T u ≤ c u) → (u : ℕ) → u < d → count n (upd T j t false) u ≤ one_less c t u
  out_count {c} h =
      at_or_other (λ (u : ℕ). u < d → count n (upd T j t false) u ≤ one_less c t u) t
      (λ a. omega (arith, count_upd T j t false n m, ap one f, h t a, put_same c t (c t - 1)))
      (λ u o a. omega (arith, count_upd_other T j t false n u o, h u a, put_other c t (c t - 1) u o))

  pub some_volume : 0 < v j
  some_volume = omega (arith, size_out j m, ind_same j)

  pub some_count : {c : ℕ → ℕ} → ((u : ℕ) → u < d → count n T u ≤ c u) → 0 < c t
  some_count h = omega (arith, count_upd T j t false n m, ap one f, h t l)

-- a cell that is in no window
upd_outside : (f : ℕ → ℕ → Bool) (j t : ℕ) → f j t ≡ false → (k u : ℕ) → f k u ≡ upd f j t false k u
upd_outside f j t e =
    cell_cases (λ k u. f k u ≡ upd f j t false k u) j t (e ∙ sym (upd_same f j t false)) (λ k h. sym (upd_row f j t false k t h))
    (λ k u h. sym (upd_col f j t false k u h))

-- the first word with bit j
pub first_position :
    (F : List ℕ) (j : ℕ) →
    length F ≡ slots →
    (o : Option ℕ) →
    o ≡ position (λ (w : ℕ). eqb (bit w j) 1) F →
    MatchOption o (FirstFed slots F j) (λ z. (z < slots) × FirstFed z F j)
first_position F j l (Some z) e =
    let p = position-Some (λ (w : ℕ). eqb (bit w j) 1) F z 0 (sym e) in (
      omega (arith, p.0, l),
      record {
        within = omega (arith, p.0, l);
        found = λ k. eqb-true _ _ p.1;
        before = λ u k. bit_none (at F u) j (eqb-false _ _ (p.2 u k));
      },
    )
first_position F j l None e =
    let n : length F ≤ position_or_len (λ (w : ℕ). eqb (bit w j) 1) F = grind (arith, common_steps) in
    record {
      within = omega arith;
      found = λ k. absurd (omega arith);
      before = λ u k. bit_none (at F u) j (eqb-false _ _ (fails_before_first (λ (w : ℕ). eqb (bit w j) 1) F u 0 (omega (arith, n, l))));
    }

nowhere_fed : {r j : ℕ} {F : List ℕ} → FirstFed r F j → r ≡ slots → volume F j ≡ 0
unfolding volume
nowhere_fed {r} {j} {F} a i =
    sum_cong {n = slots} {f = λ u. bit (at F u) j} {g = λ u. 0} (λ u l. a.before u (omega arith)) ∙ sum_zero slots

-- `feed_resting` --------------------------------------------------------------

module _ {F R H : List ℕ} {t j : ℕ} (p : CanAsk F R H t j) where
  -- slot t is full
  pub answered_full : at H t ≡ 0 → Answered false F R H F R H t j
  answered_full h =
      record {
        words = p.feed.words;
        yes = λ e. absurd (false≢true e);
        no = λ e. (refl, refl, refl);
        none = λ e n d free v c x m l f g T q o. omega (arith, x.counts t l);
      }

  -- the volume is used up
  pub answered_nowhere : {r : ℕ} → FirstFed r F j → r ≡ slots → Answered false F R H F R H t j
  answered_nowhere {r} a i =
      record {
        words = p.feed.words;
        yes = λ e. absurd (false≢true e);
        no = λ e. (refl, refl, refl);
        none = λ e n d free v c x m l f g T q o. omega (arith, x.places.volumes j m, nowhere_fed a i);
      }

  pub replace_first : {z : ℕ} → 0 < at H t → FirstFed z F j → z ≢ slots → CanReplace F R H t j z
  replace_first {z} h a i =
      let l : z < slots = omega (arith, a.within) in record { ask = p; some = h; from = l; has = a.found l }

  -- the same of a slot that is one
  pub replace_found : {z : ℕ} → 0 < at H t → (z < slots) × FirstFed z F j → CanReplace F R H t j z
  replace_found h a = replace_first h a.1 (λ i. omega (arith, a.0))

  pub replace_partner : {z : ℕ} → at H t ≢ 0 → Partner z F R t j → z < slots → CanReplace F R H t j z
  replace_partner h a l = record { ask = p; some = omega arith; from = l; has = a.has l }

-- `feed` ----------------------------------------------------------------------

module _ {F R H : List ℕ} {t j : ℕ} (p : CanFeed F R H t j) where
  -- the ration is fed in the slot
  module _ (a : ℕ) (has : bit (at F t) j ≡ 1) (e : a ≡ at F t - 2 ^ j) where
    lighter : (u : ℕ) → load (set F t a) u + ind u t ≡ load F u
    lighter = out_load F t j a p.words.grid.fed p.slot has e

    count_here : at (set H t (at H t - 1)) t ≡ at H t - 1
    count_here = get_or-set_same H t (at H t - 1) 0 (omega (arith, p.words.counts, p.slot))

    count_there : (u : ℕ) → u ≢ t → at (set H t (at H t - 1)) u ≡ at H u
    count_there u h = get_or-set_other H t u (at H t - 1) 0 h

    pub loaded : 1 ≤ at H t
    loaded = omega (arith, lighter t, ind_same t, p.words.within t)

    pub decided_fed : Decided true F R H (set F t a) R (set H t (at H t - 1)) t j
    decided_fed =
        record {
          words = record {
            grid = grid_exchange (out_grid F t j a p.words.grid.fed p.slot has e (grid_exchange p.words.grid));
            counts = length-set H t (at H t - 1) ∙ p.words.counts;
            within =
                at_or_other (λ (u : ℕ). load (set F t a) u ≤ at (set H t (at H t - 1)) u) t
                (omega (arith, lighter t, ind_same t, count_here, p.words.within t))
                (λ u h. omega (arith, lighter u, count_there u h, p.words.within u));
          };
          yes = λ i n d free v c x m l. (
            one_true (free j t) (omega (arith, x.places.day.windows j t m l)),
            omega (arith, out_volume F t j a p.words.grid.fed p.slot has e j, ind_same j, x.places.volumes j m),
            omega (arith, loaded, x.counts t l),
            record {
              places = out_fed t j a p.slot has e x.places;
              loads = less_below d c (load (set F t a)) t (λ u k. lighter u ∙ x.loads u k);
              counts =
                  less_below d c (at (set H t (at H t - 1))) t
                  (at_or_other (λ (u : ℕ). u < d → at (set H t (at H t - 1)) u + ind u t ≡ c u) t
                  (λ k. omega (arith, count_here, ind_same t, x.counts t k, loaded))
                  (λ u h k. omega (arith, count_there u h, ind_other u t h, x.counts u k)));
            },
          );
          no = λ i. absurd (true≢false i);
          none = λ i. absurd (true≢false i);
        }

  module _ (away : bit (at F t) j ≢ 1) where
    -- the slot is not in the ration's window, or the cell is decided
    pub decided_outside : bit (at R t) j ≢ 1 → Decided false F R H F R H t j
    decided_outside out =
        record {
          words = p.words;
          yes = λ i. absurd (false≢true i);
          no = λ i n d free v c x m l. exactly_windows (λ k u a b. upd_outside free j t (outside x m l) k u) x;
          none = λ i n d free v c x m l T q h.
              false_of_not_true (T j t) (λ f. false≢true (sym (outside x m l) ∙ q.within j m t l f));
        }
      where
        outside : {n d : ℕ} {free : ℕ → ℕ → Bool} {v c : ℕ → ℕ} → Exactly n d free v c F R H → j < n → t < d → free j t ≡ false
        outside {free = free} x m l =
            false_of_not_true (free j t)
            (λ f. omega (arith, ap one f, x.places.day.windows j t m l, bit_none (at F t) j away, bit_none (at R t) j out))

    -- the ration rests in the slot: the cell leaves its window
    module _ (b : ℕ) (rests : bit (at R t) j ≡ 1) (e : b ≡ at R t - 2 ^ j) where
      pub askable : CanAsk F (set R t b) H t j
      askable =
          record {
            feed = record {
              words = record {
                grid = out_grid R t j b p.words.grid.rest p.slot rests e p.words.grid;
                counts = p.words.counts;
                within = p.words.within;
              };
              slot = p.slot;
              ration = p.ration;
            };
            away = bit_none (at F t) j away;
          }

      smaller : {n d : ℕ} {free : ℕ → ℕ → Bool} {v c : ℕ → ℕ} → Exactly n d free v c F R H → Exactly n d (upd free j t false) v c F (set R t b) H
      smaller x = record { places = out_rest t j b p.slot rests e x.places; loads = x.loads; counts = x.counts }

      pub decided_asked : {r : Bool} {F' R' H' : List ℕ} → Answered r F (set R t b) H F' R' H' t j → Decided r F R H F' R' H' t j
      decided_asked w =
          record {
            words = w.words;
            yes = λ i n d free v c x m l.
                let y = w.yes i n d (upd free j t false) v c (smaller x) m l in
                (one_true (free j t) (omega (arith, x.places.day.windows j t m l)), y.0, y.1, y.2);
            no = λ i n d free v c x m l. let s = w.no i in rw (s.0, s.1, s.2) (smaller x);
            none = λ i n d free v c x m l T q h.
                false_of_not_true (T j t) (λ f.
                w.none i n d (upd free j t false) v c (smaller x) m l (some_volume m l q f) (some_count m l q f h) (upd T j t false) (out_placing m l q f)
                (out_count m l q f h));
          }
