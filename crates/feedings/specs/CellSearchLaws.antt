-- The search of `feed_instead`: a feeding of ration j is out of slot z, which alone has room, and the search starts from slot t. If it ends well, slot t
-- is one less and slot z as before; if it fails, no placing of what is left has slot t one less. Assumes nothing.
use Rattle.std.specs.Prelude.{◌≡◌, refl, ◌≢◌, ◌⊎◌, Bool, true, false, List, ℕ, zero, suc, ◌+◌, ◌-◌, ◌^◌, ◌≤◌, ◌<◌, length, set, replicate}
use Rattle.std.proofs.Common.{sym, ap, ◌∙◌, subst, inl, inr, ⊎_elim, true≢false, not-suc-le-zero, arith, length-set, get_or-set_same, get_or-set_other, set-set}
use Rattle.std.proofs.lemmas.Bool.{false≢true}
use Rattle.std.proofs.Math.Decide.{ℕ_discrete}
use Rattle.std.proofs.lemmas.List.{length-replicate, set-get_or}
use Rattle.std.specs.Int.Bits.{bit_and}
use Rattle.theory.specs.Placing.{count, Placing}
use Rattle.theory.proofs.Volumes.{no_placing_lem}
use Rattle.theory.proofs.Closed.{certificate}
use Rattle.common.specs.Bits.{bit, bit_lt, some_bit, both_of_and, and_of_both}
use Rattle.grid.specs.Grid.{slots, at, load, Seen, Closed, Grid, ind}
use Rattle.grid.specs.Search.{Won, Lost, CanPush, Pushed}
use Rattle.grid.specs.MoveLaws.{slot_cases, ind_same, ind_other, add_bits, edge_below, path_rearranged, path_load}
use Rattle.loads.specs.Meaning.{seen_at, Places}
use Rattle.loads.specs.MeaningLaws.{seen_seen_at, seen_at_seen, count_load, loaded_slot, places_placing, places_moved}
use Rattle.loads.specs.HeldLaws.{words_closed}
use Rattle.loads.specs.StateLaws.{at_or_other}
use Rattle.feedings.specs.CellChoice.{one_less, Exactly, Feedable, CanReplace, Answered, Around, Replaced}
use Rattle.feedings.specs.CellWordLaws.{at_zeros, less_below, back_grid, back_load, back_volume, back_places}

-- where it is fed it does not rest
pub fed_not_resting : {F R H : List ℕ} {t j z : ℕ} → CanReplace F R H t j z → bit (at R z) j ≡ 0
fed_not_resting {j} {z} p = omega (arith, p.ask.feed.words.grid.disjoint z j, p.has)

-- every slot is marked
at_ones : (n t : ℕ) → t < n → at (replicate n 1) t ≡ 1
at_ones zero t l = absurd (not-suc-le-zero l)
at_ones (suc n) zero l = refl
at_ones (suc n) (suc t) l = at_ones n t (omega arith)

pub around_all : {F R : List ℕ} {t : ℕ} → Grid F R → t < slots → Around t F R (replicate slots 1)
around_all {t = t} g l =
    record {
      marks = length-replicate {A = ℕ} slots 1;
      has = omega (arith, at_ones slots t l);
      closed = λ u w s e. omega (arith, at_ones slots w (edge_below u w g e));
    }

module _ {F R H : List ℕ} {t j z : ℕ} (p : CanReplace F R H t j z) (a b : ℕ) (ea : a ≡ at F z - 2 ^ j) (eb : b ≡ at R z + 2 ^ j) where
  -- the words without the feeding
  abbrev F₁ : List ℕ
  F₁ = set F z a

  abbrev R₁ : List ℕ
  R₁ = set R z b

  pub grid₁ : Grid F₁ R₁
  grid₁ = back_grid z j a b p.ask.feed.words.grid p.from p.ask.feed.ration p.has ea eb

  pub load₁ : (u : ℕ) → load F₁ u + ind u z ≡ load F u
  load₁ = back_load z j a b p.ask.feed.words.grid p.from p.ask.feed.ration p.has ea eb

  rest_bits : (k : ℕ) → bit (at R₁ z) k ≡ bit (at R z) k + ind k j
  rest_bits k =
      ap (λ (x : ℕ). bit x k) (get_or-set_same R z b 0 (omega (arith, p.from, p.ask.feed.words.grid.rest)) ∙ eb)
      ∙ add_bits (at R z) j k (fed_not_resting p)

  -- ration j rests in slot z now, and all else rests where it did
  pub more_rests : (k u : ℕ) → bit (at R u) k ≡ 1 → bit (at R₁ u) k ≡ 1
  more_rests k =
      at_or_other (λ (u : ℕ). bit (at R u) k ≡ 1 → bit (at R₁ u) k ≡ 1) z
      (λ e. omega (arith, rest_bits k, e, bit_lt (at R₁ z) k))
      (λ u h e. ap (λ (x : ℕ). bit x k) (get_or-set_other R z u b 0 h) ∙ e)

  pub old_rests : (k u : ℕ) → bit (at R₁ u) k ≡ 1 → (bit (at R u) k ≡ 1) ⊎ ((u ≡ z) × (k ≡ j))
  old_rests k =
      at_or_other (λ (u : ℕ). bit (at R₁ u) k ≡ 1 → (bit (at R u) k ≡ 1) ⊎ ((u ≡ z) × (k ≡ j))) z
      (λ e. go (ℕ_discrete k j) e)
      (λ u h e. inl (sym (ap (λ (x : ℕ). bit x k) (get_or-set_other R z u b 0 h)) ∙ e))
    where
      go : Dec (k ≡ j) → bit (at R₁ z) k ≡ 1 → (bit (at R z) k ≡ 1) ⊎ ((z ≡ z) × (k ≡ j))
      go (yes i) e = inr (refl, i)
      go (no i) e = inl (omega (arith, rest_bits k, ind_other k j i, e))

  pub apart : t ≢ z
  apart e = omega (arith, p.ask.away, p.has, ap (λ (x : ℕ). bit (at F x) j) e)

  pub replace_push : CanPush F₁ R₁ H (replicate slots 0) t
  replace_push =
      record {
        grid = grid₁;
        highs = p.ask.feed.words.counts;
        marks = length-replicate {A = ℕ} slots 0;
        from = p.ask.feed.slot;
        new = at_zeros slots t;
      }

  -- slot t's count is one less
  abbrev H₁ : List ℕ
  H₁ = set H t (at H t - 1)

  count_here : at H₁ t ≡ at H t - 1
  count_here = get_or-set_same H t (at H t - 1) 0 (omega (arith, p.ask.feed.words.counts, p.ask.feed.slot))

  count_there : (u : ℕ) → u ≢ t → at H₁ u ≡ at H u
  count_there u h = get_or-set_other H t u (at H t - 1) 0 h

  module _ {n d : ℕ} {free : ℕ → ℕ → Bool} {v c : ℕ → ℕ} (x : Exactly n d free v c F R H) where
    places₁ : Places n d free (one_less v j) F₁ R₁
    places₁ = back_places z j a b p.ask.feed.words.grid p.from p.ask.feed.ration p.has ea eb x.places

    counts₁ : t < d → (u : ℕ) → u < d → at H₁ u ≡ one_less c t u
    counts₁ l =
        less_below d c (at H₁) t
        (at_or_other (λ (u : ℕ). u < d → at H₁ u + ind u t ≡ c u) t (λ k. omega (arith, count_here, ind_same t, x.counts t k, p.some))
        (λ u h k. omega (arith, count_there u h, ind_other u t h, x.counts u k)))

  -- The search ended well -----------------------------------------------------

  module _ {F' R' : List ℕ} (w : Won F₁ R₁ H (replicate slots 0) F' R' t) where
    won_load : (u : ℕ) → load F' u + ind u t ≡ load F₁ u + ind u w.end
    won_load = path_load w.path

    won_words : Feedable F' R' H₁
    won_words =
        record {
          grid = (path_rearranged w.path).grid;
          counts = length-set H t (at H t - 1) ∙ p.ask.feed.words.counts;
          within =
              slot_cases (λ (u : ℕ). load F' u ≤ at H₁ u) t w.end
              (omega (arith, won_load t, load₁ t, count_here, ind_same t, ind_other t w.end (λ e. w.apart (sym e)), ind_other t z apart, p.ask.feed.words.within t))
              (omega (arith, won_load w.end, count_there w.end w.apart, ind_same w.end, ind_other w.end t w.apart, w.room))
              (λ u f g. omega (arith, won_load u, load₁ u, count_there u f, ind_other u t f, ind_other u w.end g, p.ask.feed.words.within u));
        }

    module _ {n d : ℕ} {free : ℕ → ℕ → Bool} {v c : ℕ → ℕ} (x : Exactly n d free v c F R H) where
      places' : Places n d free (one_less v j) F' R'
      places' = places_moved (places₁ x) (path_rearranged w.path)

      -- no slot but z has room
      end_day : w.end < d
      end_day = loaded_slot places'.day w.end (omega (arith, won_load w.end, ind_same w.end, ind_other w.end t w.apart))

      end_z : w.end ≡ z
      end_z = go (ℕ_discrete w.end z)
        where
          go : Dec (w.end ≡ z) → w.end ≡ z
          go (yes e) = e
          go (no h) =
              absurd (omega (arith, w.room, load₁ w.end, ind_other w.end z h, x.loads w.end end_day, x.counts w.end end_day))

      won_exactly : t < d → Exactly n d free (one_less v j) (one_less c t) F' R' H₁
      won_exactly l =
          record {
            places = places';
            loads =
                less_below d c (load F') t (λ u k. omega (arith, won_load u, ap (λ (e : ℕ). ind u e) end_z, load₁ u, x.loads u k));
            counts = counts₁ x l;
          }

    pub won_answer : Answered true F R H F' R' H₁ t j
    won_answer =
        record {
          words = won_words;
          yes = λ i n d free v c x m l. (pos x m, omega (arith, x.counts t l, p.some), won_exactly x l);
          no = λ i. absurd (true≢false i);
          none = λ i. absurd (true≢false i);
        }
      where
        pos : {n d : ℕ} {free : ℕ → ℕ → Bool} {v c : ℕ → ℕ} → Exactly n d free v c F R H → j < n → 0 < v j
        pos x m =
            let e = back_volume z j a b p.ask.feed.words.grid p.from p.ask.feed.ration p.has ea eb j in
            omega (arith, e, ind_same j, x.places.volumes j m)

  -- The search failed ---------------------------------------------------------

  -- a closed set of full slots around t shows that no placing of what is left has slot t one less
  module _ (S : List ℕ) (has : Seen S t) (closed : Closed F₁ R₁ S) {n d : ℕ} {free : ℕ → ℕ → Bool} {v c : ℕ → ℕ} (x : Exactly n d free v c F R H) (l : t < d)
      (full : (u : ℕ) → u < d → Seen S u → u ≢ t → at H u ≤ load F₁ u) where
    over : at H₁ t < load F₁ t
    over = omega (arith, count_here, load₁ t, ind_other t z apart, x.loads t l, x.counts t l, p.some)

    full₁ : (u : ℕ) → u < d → Seen S u → at H₁ u ≤ load F₁ u
    full₁ = at_or_other (λ (u : ℕ). u < d → Seen S u → at H₁ u ≤ load F₁ u) t (λ m s. omega (arith, over)) (λ u h m s. omega (arith, full u m s h, count_there u h))

    pub closed_none : (T : ℕ → ℕ → Bool) → Placing n d free (one_less v j) T → ((u : ℕ) → u < d → count n T u ≤ one_less c t u) → ⊥
    closed_none T q h =
        let y = (places₁ x).day in
        no_placing_lem {high = at H₁} (seen_at S)
        (certificate (places_placing (places₁ x)) (words_closed y S closed)
        (λ u m s. omega (arith, full₁ u m (seen_at_seen S u s), count_load y u)) t l (seen_seen_at S t has) (omega (arith, over, count_load y t)))
        q (λ u m. omega (arith, h u m, counts₁ x l u m))

  -- the marks of a failed search are such a set
  module _ {S' : List ℕ} (long : length S' ≡ slots) (k : Lost F₁ R₁ H (replicate slots 0) S' t) where
    lost_closed : Closed F₁ R₁ S'
    lost_closed u w s e = k.closed u w s (at_zeros slots u) e

    lost_full : (u : ℕ) → Seen S' u → u ≢ t → at H u ≤ load F₁ u
    lost_full u s h = ⊎_elim (λ e. absurd (h e)) (λ f. f) (k.full u s (at_zeros slots u))

    -- slot z has room, and so it is not marked
    lost_without : (u : ℕ) → Seen S' u → u ≢ z
    lost_without u s e =
        omega (
          arith,
          lost_full u s (λ i. apart (sym i ∙ e)),
          load₁ u,
          ap (λ (x : ℕ). ind x z) e,
          ind_same z,
          p.ask.feed.words.within u,
        )

    -- with the feeding back in slot z no edge leaves them either
    lost_around : Around t F R S'
    lost_around =
        record {
          marks = long;
          has = k.mark;
          closed = λ u w s e.
              let i = some_bit (bit_and (at F u) (at R w)) e in
              let b = both_of_and (at F u) (at R w) i.0 i.1 in
              lost_closed u w s (and_of_both (at F₁ u) (at R₁ w) i.0
              (ap (λ (x : ℕ). bit x i.0) (get_or-set_other F z u a 0 (lost_without u s)) ∙ b.0) (more_rests i.0 w b.1));
        }

  -- The answer ----------------------------------------------------------------

  module _ {r : Bool} {F' R' S' : List ℕ} (w : Pushed r F₁ R₁ H (replicate slots 0) F' R' S' t) where
    pub replaced_yes : r ≡ true → Replaced true F R H F' R' H₁ (replicate slots 1) t j
    replaced_yes e =
        let k = won_answer (w.won e) in
        record { answer = k; around = around_all k.words.grid p.ask.feed.slot }

    pub replaced_no : r ≡ false → Replaced false F R H (set F' z (at F z)) (set R' z (at R z)) H S' t j
    replaced_no e =
        subst (λ (f : List ℕ). Replaced false F R H f (set R' z (at R z)) H S' t j) (sym (restored F a (w.same e).fed))
        (subst (λ (f : List ℕ). Replaced false F R H F f H S' t j) (sym (restored R b (w.same e).rest))
        (record {
          answer = record {
            words = p.ask.feed.words;
            yes = λ i. absurd (false≢true i);
            no = λ i. (refl, refl, refl);
            none = λ i n d free v c x m l f g.
                closed_none S' (w.lost e).mark (lost_closed w.marks (w.lost e)) x l (λ u o. lost_full w.marks (w.lost e) u);
          };
          around = lost_around w.marks (w.lost e);
        }))
      where
        restored : (L : List ℕ) (y : ℕ) {L' : List ℕ} → L' ≡ set L z y → set L' z (at L z) ≡ L
        restored L y i = ap (λ (l : List ℕ). set l z (at L z)) i ∙ set-set L z y (at L z) ∙ set-get_or L z 0
