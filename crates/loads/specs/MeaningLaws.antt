-- The words of a placing: its counts are the loads, its volumes the volumes; it stays a placing where the grid is rearranged, and the exchanged
-- words are the opposite placing. Assumes nothing.
use Rattle.std.specs.Prelude.{◌≡◌, refl, ◌≢◌, ◌⊎◌, Bool, true, false, not, ◌&&◌, List, ℕ, zero, suc, ◌+◌, ◌^◌, ◌/◌, ◌≤◌, ◌<◌}
use Rattle.std.proofs.Math.Path.{sym, ap}
use Rattle.std.proofs.Common.{◌∙◌, inl, inr, eq-or-lt_of_le, pow_mono, eq-eqb, eqb-true, lt-ltb, ltb-true}
use Rattle.std.proofs.lemmas.Bool.{false≢true}
use Rattle.std.proofs.Math.Nat.{pow-succ'}
use Rattle.std.proofs.Math.Decide.{dec_lt}
use native.Mathlib.Omega.{arith}
use Rattle.std.specs.Int.Count.{ones, ones_step}
use Rattle.std.proofs.lemmas.Nat.{ones-le}
use Rattle.loads.specs.Theory.{sum, sum_cong, sum_split, sum_head, one, size, count, Placing, opposite, rest}
use Rattle.common.specs.Bits.{bit, bit_lt, bit_le, bit_zero, bit_suc, bit_of_zero}
use Rattle.grid.specs.Grid.{slots, at, load, volume, Seen, Rearranged}
use Rattle.loads.specs.Relief.{width}
use Rattle.loads.specs.ExchangeLaws.{grid_exchange}
use Rattle.loads.specs.Meaning.{bit_at, seen_at, Day, Places}

-- ---- one bit

pub bit_bit_at : (F : List ℕ) (j t : ℕ) → bit (at F t) j ≡ 1 → bit_at F j t ≡ true
unfolding bit_at
bit_bit_at F j t e = eq-eqb (bit (at F t) j) 1 e

pub bit_at_bit : (F : List ℕ) (j t : ℕ) → bit_at F j t ≡ true → bit (at F t) j ≡ 1
unfolding bit_at
bit_at_bit F j t e = eqb-true (bit (at F t) j) 1 e

pub one_bit_at : (F : List ℕ) (j t : ℕ) → one (bit_at F j t) ≡ bit (at F t) j
one_bit_at F j t = go (bit_at F j t) refl
  where
    go : (b : Bool) → bit_at F j t ≡ b → one b ≡ bit (at F t) j
    go true e = sym (bit_at_bit F j t e)
    go false e =
        let n : bit (at F t) j ≢ 1 = λ i. false≢true (sym e ∙ bit_bit_at F j t i) in
        omega (arith, bit_lt (at F t) j)

pub one_true : (b : Bool) → 0 < one b → b ≡ true
one_true true h = refl
one_true false h = absurd (omega arith)

pub seen_seen_at : (S : List ℕ) (t : ℕ) → Seen S t → seen_at S t ≡ true
unfolding seen_at
seen_seen_at S t h = lt-ltb 0 (at S t) h

pub seen_at_seen : (S : List ℕ) (t : ℕ) → seen_at S t ≡ true → Seen S t
unfolding seen_at
seen_at_seen S t e = ltb-true 0 (at S t) e

-- ---- sums of bits

-- the ones of a word are its bits below n, where it has no other
pub ones_sum : (n w : ℕ) → w < 2 ^ n → ones w ≡ sum n (λ j. bit w j)
unfolding sum ones
ones_sum zero w h = let z : w ≡ 0 = omega arith in rw z refl
ones_sum (suc n) w h =
    omega (
      arith,
      ones_step w,
      bit_zero w,
      ones_sum n (w / 2) (omega (arith, pow-succ' 2 n)),
      sum_head n (λ j. bit w j),
      sum_cong {n = n} {f = λ j. bit w (suc j)} {g = λ j. bit (w / 2) j} (λ j l. bit_suc w j),
    )

-- a sum ends where its terms do
pub sum_past : (d m : ℕ) (f : ℕ → ℕ) → d ≤ m → ((t : ℕ) → d ≤ t → f t ≡ 0) → sum m f ≡ sum d f
unfolding sum
sum_past d zero f l z = let e : d ≡ 0 = omega arith in rw e refl
sum_past d (suc m) f l z = go (eq-or-lt_of_le l) (λ k. sum_past d m f k z)
  where
    go : (d ≡ suc m) ⊎ (d < suc m) → (d ≤ m → sum m f ≡ sum d f) → sum m f + f m ≡ sum d f
    go (inl e) ih = rw e refl
    go (inr k) ih = omega (arith, ih (omega arith), z m (omega arith))

module _ {n d : ℕ} {free : ℕ → ℕ → Bool} {F R : List ℕ} (y : Day n d free F R) where
  pub day_exchange : Day n d free R F
  day_exchange =
      record {
        grid = grid_exchange y.grid;
        short = y.short;
        few = λ t. omega (arith, y.few t);
        past = λ t l. omega (arith, y.past t l);
        windows = λ j t lj lt. omega (arith, y.windows j t lj lt);
      }

  -- the loads are the counts of the placing
  pub count_load : (t : ℕ) → count n (bit_at F) t ≡ load F t
  unfolding count
  count_load t = sum_cong (λ j l. one_bit_at F j t) ∙ sym (ones_sum n (at F t) (omega (arith, y.few t)))

  -- only the day's slots and the rations hold bits
  pub bit_slot : (j t : ℕ) → bit (at F t) j ≡ 1 → t < d
  bit_slot j t e = go (dec_lt t d)
    where
      go : Dec (t < d) → t < d
      go (yes l) = l
      go (no l) =
          let z : at F t ≡ 0 = omega (arith, y.past t (omega arith)) in
          absurd (omega (arith, ap (λ (w : ℕ). bit w j) z, bit_of_zero j))

  pub loaded_slot : (t : ℕ) → 0 < load F t → t < d
  loaded_slot t h = go (dec_lt t d)
    where
      go : Dec (t < d) → t < d
      go (yes l) = l
      go (no l) =
          let z : at F t ≡ 0 = omega (arith, y.past t (omega arith)) in
          absurd (omega (arith, ap ones z, ones-le 0 0 (omega arith)))

  pub bit_ration : (j t : ℕ) → bit (at F t) j ≡ 1 → j < n
  bit_ration j t e = go (dec_lt j n)
    where
      go : Dec (j < n) → j < n
      go (yes l) = l
      go (no l) = absurd (omega (arith, bit_le (at F t) j e, y.few t, pow_mono {i = n} {j = j} (omega arith)))

  pub size_volume : (j : ℕ) → size d (bit_at F j) ≡ volume F j
  unfolding size volume
  size_volume j =
      sum_cong (λ t l. one_bit_at F j t)
      ∙ sym (sum_past d slots (λ t. bit (at F t) j) y.short (λ t l.
      let z : at F t ≡ 0 = omega (arith, y.past t l) in ap (λ (w : ℕ). bit w j) z ∙ bit_of_zero j))

  pub bit_at_free : (j t : ℕ) → j < n → t < d → bit_at F j t ≡ true → free j t ≡ true
  bit_at_free j t lj lt e = one_true (free j t) (omega (arith, y.windows j t lj lt, bit_at_bit F j t e))

  pub day_moved : {F' R' : List ℕ} → Rearranged F R F' R' → Day n d free F' R'
  day_moved m =
      record {
        grid = m.grid;
        short = y.short;
        few = λ t. omega (arith, m.words t, y.few t);
        past = λ t l. omega (arith, m.words t, y.past t l);
        windows = λ j t lj lt. omega (arith, m.bits j t, y.windows j t lj lt);
      }

module _ {n d : ℕ} {free : ℕ → ℕ → Bool} {F R : List ℕ} (y : Day n d free F R) where
  -- a slot's width: how many windows have it
  pub count_width : (t : ℕ) → t < d → count n free t ≡ width F R t
  unfolding count
  count_width t lt =
      omega (
        arith,
        sum_split n (λ j. one (free j t)) (λ j. one (bit_at F j t)) (λ j. one (bit_at R j t))
            (λ j l. omega (arith, y.windows j t l lt, one_bit_at F j t, one_bit_at R j t)),
        count_load y t,
        count_load (day_exchange y) t,
      )

  -- the exchanged words are the opposite placing
  pub opposite_bit_at : (j : ℕ) → j < n → (t : ℕ) → t < d → bit_at R j t ≡ opposite free (bit_at F) j t
  opposite_bit_at j lj t lt = go (free j t) (bit_at F j t) (bit_at R j t) (omega (arith, y.windows j t lj lt, one_bit_at F j t, one_bit_at R j t))
    where
      go : (f a b : Bool) → one f ≡ one a + one b → b ≡ (f && not a)
      go true true true e = absurd (omega arith)
      go true true false e = refl
      go true false true e = refl
      go true false false e = absurd (omega arith)
      go false true b e = absurd (omega arith)
      go false false true e = absurd (omega arith)
      go false false false e = refl

  size_width : (j : ℕ) → j < n → size d (free j) ≡ size d (bit_at F j) + size d (bit_at R j)
  unfolding size
  size_width j lj =
      sum_split d (λ t. one (free j t)) (λ t. one (bit_at F j t)) (λ t. one (bit_at R j t))
      (λ t l. omega (arith, y.windows j t lj l, one_bit_at F j t, one_bit_at R j t))

module _ {n d : ℕ} {free : ℕ → ℕ → Bool} {v : ℕ → ℕ} {F R : List ℕ} (p : Places n d free v F R) where
  pub places_placing : Placing n d free v (bit_at F)
  places_placing =
      record {
        within = λ j lj t lt e. bit_at_free p.day j t lj lt e;
        volume = λ j lj. size_volume p.day j ∙ p.volumes j lj;
      }

  pub places_moved : {F' R' : List ℕ} → Rearranged F R F' R' → Places n d free v F' R'
  places_moved m = record { day = day_moved p.day m; volumes = λ j lj. m.volumes j ∙ p.volumes j lj }

  pub places_exchange : Places n d free (rest d free v) R F
  places_exchange =
      record {
        day = day_exchange p.day;
        volumes =
            λ j lj.
            omega (
              arith,
              size_width p.day j lj,
              size_volume p.day j,
              size_volume (day_exchange p.day) j,
              p.volumes j lj,
            );
      }
