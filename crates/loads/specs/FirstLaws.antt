-- How the first placing, and one with other volumes, is made, a slot, a pass and a ration at a time. Assumes nothing.
use Rattle.std.specs.Prelude.{◌≡◌, refl, List, ℕ, zero, suc, ◌+◌, ◌-◌, ◌^◌, ◌≤◌, ◌<◌, length, set, replicate}
use Rattle.std.proofs.Common.{sym, ap, ◌∙◌, inl, ⊎_elim, not-suc-le-zero, arith, below_more, length-set, get_or-set_same, get_or-set_other}
use Rattle.std.proofs.lemmas.Nat.{ones-le}
use Rattle.std.proofs.lemmas.List.{length-replicate, get_or-replicate}
use Rattle.loads.specs.Theory.{sum_cong, sum_split, sum_zero}
use Rattle.common.specs.Bits.{bit, bit_lt, bit_le, bit_of_zero, sub_same}
use Rattle.grid.specs.Grid.{slots, at, volume, Grid, Rearranged, ind}
use Rattle.grid.specs.MarkLaws.{at_replicate, set_cases}
use Rattle.grid.specs.MoveLaws.{ind_same, ind_other, volume_set, add_bits, sub_bits}
use Rattle.loads.specs.ExchangeLaws.{grid_exchange, volume_both}
use Rattle.loads.specs.First.{rations, Fed, Tried, CanFeed, FedSlot, CanPass, FedPass, CanPlace, CanSet, FedIn, CanPlaceAgain, PlacedAgain, CanStart, Started}

-- ---- feedings of one ration

fed_none : {j : ℕ} {F R : List ℕ} → Grid F R → Fed j 0 F R F R
fed_none g = record { grid = g; words = λ t. refl; bits = λ i t. refl; more = omega arith; others = λ i n. refl }

fed_trans : {j k m : ℕ} {F R F₁ R₁ F' R' : List ℕ} → Fed j k F R F₁ R₁ → Fed j m F₁ R₁ F' R' → Fed j (k + m) F R F' R'
fed_trans p q =
    record {
      grid = q.grid;
      words = λ t. q.words t ∙ p.words t;
      bits = λ i t. q.bits i t ∙ p.bits i t;
      more = omega (arith, p.more, q.more);
      others = λ i n. q.others i n ∙ p.others i n;
    }

-- ---- one slot

module _ {F R : List ℕ} {j t : ℕ} (p : CanFeed F R j t) where
  pub slot_none : {h left : ℕ} → (0 < left → Tried j h F R t) → FedSlot j h left left F R F R t
  slot_none t = record { made = 0; counted = omega arith; fed = fed_none p.grid; tried = t; kept = λ u n. (refl, refl) }

  -- where it rests it is not fed
  pub slot_empty : bit (at R t) j ≡ 1 → bit (at F t) j ≡ 0
  slot_empty rests = omega (arith, p.grid.disjoint t j)

  module _ (rests : bit (at R t) j ≡ 1) (f r : ℕ) (ef : f ≡ at F t + 2 ^ j) (er : r ≡ at R t - 2 ^ j) where
    empty : bit (at F t) j ≡ 0
    empty = slot_empty rests

    stored_bits : (i u : ℕ) → bit (at (set F t f) u) i + bit (at (set R t r) u) i ≡ bit (at F u) i + bit (at R u) i
    stored_bits i =
        set_cases F R t f r p.grid.fed p.grid.rest p.slot (λ u a b. bit a i + bit b i ≡ bit (at F u) i + bit (at R u) i)
        (rw (ef, er) (omega (arith, add_bits (at F t) j i empty, sub_bits (at R t) j i rests)))
        (λ u n. refl)

    stored_volume : (i : ℕ) → volume (set F t f) i ≡ volume F i + ind i j
    stored_volume i =
        omega (
          arith,
          volume_set F t f i p.grid.fed p.slot,
          ap (λ (w : ℕ). bit w i) ef,
          add_bits (at F t) j i empty,
        )

    pub fed_one : Fed j 1 F R (set F t f) (set R t r)
    fed_one =
        record {
          grid =
              record {
                fed = length-set F t f ∙ p.grid.fed;
                rest = length-set R t r ∙ p.grid.rest;
                disjoint = λ u i. omega (arith, stored_bits i u, p.grid.disjoint u i);
              };
          words =
              set_cases F R t f r p.grid.fed p.grid.rest p.slot (λ u a b. a + b ≡ at F u + at R u) (omega (arith, bit_le (at R t) j rests)) (λ u n. refl);
          bits = stored_bits;
          more = omega (arith, stored_volume j, ind_same j);
          others = λ i n. omega (arith, stored_volume i, ind_other i j n);
        }

    pub slot_one : {h left : ℕ} → 0 < left → FedSlot j h left (left - 1) F R (set F t f) (set R t r) t
    slot_one l =
        record {
          made = 1;
          counted = omega arith;
          fed = fed_one;
          tried =
              λ k.
              inl
              (rw (get_or-set_same R t r 0 (omega (arith, p.grid.rest, p.slot)), er) (sub_same (at R t) j rests));
          kept = λ u n. (get_or-set_other F t u f 0 n, get_or-set_other R t u r 0 n);
        }

-- ---- one pass over the slots: its loop has come to slot t

pub record Passing (j left₀ left : ℕ) (F₀ R₀ H F R : List ℕ) (t : ℕ) : Type 0 where
  pub within : t ≤ slots
  pub made : ℕ
  pub counted : made + left ≡ left₀
  pub fed : Fed j made F₀ R₀ F R
  pub tried : 0 < left → (u : ℕ) → u < t → Tried j (at H u) F R u

module _ {F₀ R₀ H : List ℕ} {j : ℕ} (p : CanPass F₀ R₀ H j) where
  pub passing_start : {left : ℕ} → Passing j left left F₀ R₀ H F₀ R₀ 0
  passing_start =
      record {
        within = omega arith;
        made = 0;
        counted = omega arith;
        fed = fed_none p.grid;
        tried = λ h u l. absurd (not-suc-le-zero l);
      }

  module _ {left₀ left : ℕ} {F R : List ℕ} {t : ℕ} (l : Passing j left₀ left F₀ R₀ H F R t) where
    pub passing_slot : t < slots → CanFeed F R j t
    passing_slot k = record { grid = l.fed.grid; ration = p.ration; slot = k }

    pub passing_next : {left' : ℕ} {F' R' : List ℕ} → t < slots → FedSlot j (at H t) left left' F R F' R' t → Passing j left₀ left' F₀ R₀ H F' R' (t + 1)
    passing_next {F'} {R'} k s =
        record {
          within = omega arith;
          made = l.made + s.made;
          counted = omega (arith, l.counted, s.counted);
          fed = fed_trans l.fed s.fed;
          tried =
              λ h.
              below_more (λ (u : ℕ). Tried j (at H u) F' R' u) t
              (λ u m.
              let e = s.kept u (λ i. omega arith) in
              rw (e.0, e.1) (l.tried (omega (arith, s.counted)) u m))
              (s.tried h);
        }

    pub passed : slots ≤ t → FedPass j left₀ left F₀ R₀ H F R
    passed k = record { made = l.made; counted = l.counted; fed = l.fed; tried = λ h u m. l.tried h u (omega arith) }

    -- all feedings are made
    pub passed_early : left ≡ 0 → FedPass j left₀ 0 F₀ R₀ H F R
    passed_early e = record { made = l.made; counted = omega (arith, l.counted); fed = l.fed; tried = λ h. absurd (omega arith) }

-- ---- one ration: the second pass takes every slot that is left of its window

-- more than a slot can hold
abbrev beyond : ℕ
beyond = suc rations

volume_none : (R : List ℕ) (j : ℕ) → ((t : ℕ) → t < slots → bit (at R t) j ≡ 0) → volume R j ≡ 0
unfolding volume
volume_none R j z = sum_cong z ∙ sum_zero slots

module _ {F R H : List ℕ} {j v : ℕ} (p : CanPlace F R H j v) where
  module _ {left : ℕ} {F₁ R₁ : List ℕ} (a : FedPass j v left F R H F₁ R₁) where
    module _ {left' : ℕ} {F' R' : List ℕ} (b : FedPass j left left' F₁ R₁ (replicate slots beyond) F' R') where
      both : Fed j (a.made + b.made) F R F' R'
      both = fed_trans a.fed b.fed

      -- were some feedings left to make, no slot of the window would be left for them
      none_rests : 0 < left' → (t : ℕ) → t < slots → bit (at R' t) j ≡ 0
      none_rests h t l =
          ⊎_elim (λ z. z)
          (λ o.
          absurd
          (omega (
            arith,
            o,
            get_or-replicate slots t beyond 0 l,
            ones-le rations (at F' t) (omega (arith, both.words t, p.few t)),
          )))
          (b.tried h t l)

      nothing_left : left' ≡ 0
      nothing_left = go left' refl
        where
          go : (k : ℕ) → left' ≡ k → left' ≡ 0
          go zero e = e
          go (suc k) e =
              absurd
              (omega (
                arith,
                volume_none R' j (none_rests (omega arith)),
                volume_both F R F' R' j (both.bits j),
                both.more,
                a.counted,
                b.counted,
                p.fits,
              ))

      pub ration_fed : Fed j v F R F' R'
      ration_fed = let e : a.made + b.made ≡ v = omega (arith, a.counted, b.counted, nothing_left) in rw (← e) both

-- ---- another volume of one ration

module _ {F R H : List ℕ} {j old new : ℕ} (p : CanSet F R H j old new) where
  -- a greater one: it is fed in so many slots more
  pub more_fed : old ≤ new → CanPlace F R H j (new - old)
  more_fed l = record { pass = p.pass; few = p.few; fits = omega (arith, p.volume_is, p.fits) }

  pub set_more : {F' R' : List ℕ} → old ≤ new → Fed j (new - old) F R F' R' → FedIn j new F R F' R'
  set_more l f =
      record { grid = f.grid; words = f.words; bits = f.bits; volume_is = omega (arith, p.volume_is, f.more); others = f.others }

  -- a smaller one: on the exchanged words it is
  pub more_at_rest : new < old → CanPlace R F H j (old - new)
  more_at_rest l =
      record {
        pass = record { grid = grid_exchange p.pass.grid; highs = p.pass.highs; ration = p.pass.ration };
        few = λ t. omega (arith, p.few t);
        fits = omega (arith, p.volume_is);
      }

  pub set_fewer : {F' R' : List ℕ} → new < old → Fed j (old - new) R F R' F' → FedIn j new F R F' R'
  set_fewer {F'} {R'} l f =
      record {
        grid = grid_exchange f.grid;
        words = λ t. omega (arith, f.words t);
        bits = bits;
        volume_is = omega (arith, volume_both F R F' R' j (bits j), f.more, p.volume_is);
        others = λ i n. omega (arith, volume_both F R F' R' i (bits i), f.others i n);
      }
    where
      bits : (i t : ℕ) → bit (at F' t) i + bit (at R' t) i ≡ bit (at F t) i + bit (at R t) i
      bits i t = omega (arith, f.bits i t)

-- ---- all rations: the loop has come to ration j

pub record PlacingAgain (N' F₀ R₀ F R : List ℕ) (j : ℕ) : Type 0 where
  pub within : j ≤ rations
  pub grid : Grid F R
  pub words : (t : ℕ) → at F t + at R t ≡ at F₀ t + at R₀ t
  pub bits : (i t : ℕ) → bit (at F t) i + bit (at R t) i ≡ bit (at F₀ t) i + bit (at R₀ t) i
  pub volumes : (i : ℕ) → i < j → volume F i ≡ at N' i
  pub still : (i : ℕ) → j ≤ i → volume F i ≡ volume F₀ i

module _ {F₀ R₀ H N N' : List ℕ} (p : CanPlaceAgain F₀ R₀ H N N') where
  pub again_none : PlacingAgain N' F₀ R₀ F₀ R₀ 0
  again_none =
      record {
        within = omega arith;
        grid = p.grid;
        words = λ t. refl;
        bits = λ i t. refl;
        volumes = λ i l. absurd (not-suc-le-zero l);
        still = λ i l. refl;
      }

  module _ {F R : List ℕ} {j : ℕ} (l : PlacingAgain N' F₀ R₀ F R j) where
    pub again_ration : j < rations → CanSet F R H j (at N j) (at N' j)
    again_ration k =
        record {
          pass = record { grid = l.grid; highs = p.highs; ration = k };
          few = λ t. omega (arith, l.words t, p.few t);
          volume_is = l.still j (omega arith) ∙ p.volumes j k;
          fits = omega (arith, p.fits j k, volume_both F₀ R₀ F R j (l.bits j));
        }

    pub again_next : {F' R' : List ℕ} → j < rations → FedIn j (at N' j) F R F' R' → PlacingAgain N' F₀ R₀ F' R' (j + 1)
    again_next {F'} k f =
        record {
          within = omega arith;
          grid = f.grid;
          words = λ t. f.words t ∙ l.words t;
          bits = λ i t. f.bits i t ∙ l.bits i t;
          volumes =
              below_more (λ (i : ℕ). volume F' i ≡ at N' i) j (λ i m. f.others i (λ e. omega arith) ∙ l.volumes i m) f.volume_is;
          still = λ i m. f.others i (λ e. omega arith) ∙ l.still i (omega arith);
        }

    pub placed_again : rations ≤ j → PlacedAgain N' F₀ R₀ F R
    placed_again k = record { grid = l.grid; words = l.words; bits = l.bits; volumes = λ i m. l.volumes i (omega arith) }

-- ---- from windows and volumes

volume_split : (W F R : List ℕ) (j : ℕ) → ((t : ℕ) → bit (at F t) j + bit (at R t) j ≡ bit (at W t) j) → volume W j ≡ volume F j + volume R j
unfolding volume
volume_split W F R j e =
    sum_split slots (λ t. bit (at W t) j) (λ t. bit (at F t) j) (λ t. bit (at R t) j) (λ t l. sym (e t))

-- another placing of the same rations
pub started_moved : {W N F R F' R' : List ℕ} → Started W N F R → Rearranged F R F' R' → Started W N F' R'
started_moved s m =
    record {
      grid = m.grid;
      words = λ t. m.words t ∙ s.words t;
      bits = λ j t. m.bits j t ∙ s.bits j t;
      volumes = λ j l. m.volumes j ∙ s.volumes j l;
    }

-- from volumes N to volumes N'
pub can_place_again : {W N N' H F R : List ℕ} → Started W N F R → CanStart W N' H → CanPlaceAgain F R H N N'
can_place_again {W} {F = F} {R} s p =
    record {
      grid = s.grid;
      highs = p.highs;
      few = λ t. omega (arith, s.words t, p.few t);
      volumes = s.volumes;
      fits = λ j l. omega (arith, p.fits j l, volume_split W F R j (s.bits j));
    }

pub started_again : {W N N' F R F' R' : List ℕ} → Started W N F R → PlacedAgain N' F R F' R' → Started W N' F' R'
started_again s r =
    record {
      grid = r.grid;
      words = λ t. r.words t ∙ s.words t;
      bits = λ j t. r.bits j t ∙ s.bits j t;
      volumes = r.volumes;
    }

-- nothing is fed
pub started_none : {W : List ℕ} → length W ≡ slots → Started W (replicate rations 0) (replicate slots 0) W
started_none {W} l =
    record {
      grid =
          record {
            fed = length-replicate {A = ℕ} slots 0;
            rest = l;
            disjoint = λ t k. omega (arith, no_bit k t, bit_lt (at W t) k);
          };
      words = λ t. omega (arith, at_replicate slots t);
      bits = λ j t. omega (arith, no_bit j t);
      volumes = λ j k. volume_none (replicate slots 0) j (λ t m. no_bit j t) ∙ sym (at_replicate rations j);
    }
  where
    no_bit : (i t : ℕ) → bit (at (replicate slots 0) t) i ≡ 0
    no_bit i t = ap (λ (w : ℕ). bit w i) (at_replicate slots t) ∙ bit_of_zero i
