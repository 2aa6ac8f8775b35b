-- The feed lines of a slot, from the word of its feedings and the parts of the rations. Assumes nothing.
use Rattle.std.specs.Prelude.{◌≡◌, ◌≢◌, Bool, true, cond, List, [], ◌∷◌, ◌++◌, map, length, get_or, take}
use Rattle.std.proofs.Math.Path.{refl, ap}
use Rattle.std.proofs.Common.{sym, ap₂, ◌∙◌, arith, get_or-take, eqb-true}
use Rattle.std.proofs.Math.Bool.{false}
use Prim.Native.Nat.{ℕ, zero, suc, ◌+◌, ◌≤◌, ◌<◌}
use Rattle.std.proofs.Math.Dec.{eqb}
use Rattle.std.proofs.Math.ListN.{length-take}
use Rattle.std.proofs.lemmas.Bool.{eqb-false}
use Rattle.common.specs.Lists.{range, count, keep, zip_with}
use Rattle.common.specs.Bits.{bit, bit_lt}
use Rattle.schedules.specs.Slots.{Slots, has}
use Rattle.schedules.specs.Tabulate.{get_d_map_below}
use Rattle.plan_lines.specs.Lines.{Line, line, part_at, fed_in, feed_line, slot_lines}
use Rattle.plan_lines.specs.Inputs.{tank_at, tanks_of, row_of, placing_of}
use Rattle.plan_lines.specs.SetBits.{set_bits, set_bits_keep}
use Rattle.plan_lines.specs.FeedLaws.{one, word_lines}

-- Bits and parts -------------------------------------------------------------------

pub one_bit : (w j : ℕ) → one (eqb (bit w j) 1) ≡ bit w j
one_bit w j = go (eqb (bit w j) 1) refl
  where
    go : (b : Bool) → eqb (bit w j) 1 ≡ b → one b ≡ bit w j
    go true e = sym (eqb-true (bit w j) 1 e)
    go false e = let n : bit w j ≢ 1 = eqb-false (bit w j) 1 e in omega (arith, bit_lt w j)

pub count_take : (c : Slots) (t : ℕ) → count (take (suc t) c) ≡ count (take t c) + one (has c t)
count_take [] zero = refl
count_take [] (suc t) = refl
count_take (true ∷ c) zero = refl
count_take (false ∷ c) zero = refl
count_take (true ∷ c) (suc t) = omega (arith, count_take c t)
count_take (false ∷ c) (suc t) = count_take c t

pub count_take_le : (c : Slots) (t : ℕ) → count (take t c) ≤ t
count_take_le c zero = omega arith
count_take_le [] (suc t) = omega arith
count_take_le (true ∷ c) (suc t) = omega (arith, count_take_le c t)
count_take_le (false ∷ c) (suc t) = omega (arith, count_take_le c t)

module _ (slots : ℕ) (words : List ℕ) (t : ℕ) (in_day : t < slots) (there : slots ≤ length words) where
  -- ration j + 1 is fed in slot t + 1 where its bit is 1
  pub has_row_of : (j : ℕ) → has (row_of slots words j) t ≡ eqb (bit (get_or words t 0) j) 1
  unfolding row_of
  has_row_of j =
      get_d_map_below (λ w. eqb (bit w j) 1) (take slots words) t false 0 (rw length-take (omega arith))
      ∙ ap (λ w. eqb (bit w j) 1) (get_or-take slots words t 0 in_day)

  -- the part of a feeding is one more than that of the feeding before
  pub part_at_row_of : (j : ℕ) → part_at t (row_of slots words j) ≡ count (take t (row_of slots words j)) + bit (get_or words t 0) j
  unfolding part_at
  part_at_row_of j = omega (arith, count_take (row_of slots words j) t, ap one (has_row_of j), one_bit (get_or words t 0) j)

-- Lines ----------------------------------------------------------------------------

pub length_word_lines : (slot : ℕ) (numbers parts : List ℕ) (k : ℕ) (js : List ℕ) → length (word_lines slot numbers parts k js) ≡ length js
unfolding word_lines
length_word_lines slot numbers parts k [] = refl
length_word_lines slot numbers parts k (j ∷ js) = ap suc (length_word_lines slot numbers parts (suc k) js)

module _ (slots : ℕ) (words : List ℕ) (t : ℕ) (in_day : t < slots) (there : slots ≤ length words) (numbers parts : List ℕ) where
  -- rations a + 1, a + 2, .., n of them, with their rows
  rows : ℕ → ℕ → List (ℕ × Slots)
  rows a n = zip_with (λ a c. (a, c)) (map (tank_at numbers) (range a n)) (map (row_of slots words) (range a n))

  fed : ℕ → ℕ → List ℕ
  fed a n = keep (λ j. eqb (bit (get_or words t 0) j) 1) (range a n)

  rows_lines : (n a k : ℕ) → ((j : ℕ) → j < a + n → get_or parts j 0 ≡ part_at t (row_of slots words j))
      → zip_with (feed_line t) (range k (length (fed_in t (rows a n)))) (fed_in t (rows a n)) ≡ word_lines (suc t) numbers parts k (fed a n)
  unfolding rows fed fed_in feed_line word_lines
  rows_lines zero a k h = refl
  rows_lines (suc n) a k h =
      ap (λ b. zip_with (feed_line t) (range k (length (kept b (row ∷ []) ++ fed_in t (rows (suc a) n)))) (kept b (row ∷ []) ++ fed_in t (rows (suc a) n))) (has_row_of slots words t in_day there a)
      ∙ go (eqb (bit (get_or words t 0) a) 1) (λ k. rows_lines n (suc a) k (λ j l. h j (omega arith)))
    where
      row : ℕ × Slots
      row = (tank_at numbers a, row_of slots words a)

      kept : {A : Type 0} → Bool → List A → List A
      kept b x = cond b x []

      go : (b : Bool)
          → ((k : ℕ) → zip_with (feed_line t) (range k (length (fed_in t (rows (suc a) n)))) (fed_in t (rows (suc a) n)) ≡ word_lines (suc t) numbers parts k (fed (suc a) n))
          → zip_with (feed_line t) (range k (length (kept b (row ∷ []) ++ fed_in t (rows (suc a) n)))) (kept b (row ∷ []) ++ fed_in t (rows (suc a) n))
          ≡ word_lines (suc t) numbers parts k (kept b (a ∷ []) ++ fed (suc a) n)
      go true ih = ap₂ (λ (x : ℕ) (ls : List Line). line (suc t) k (tank_at numbers a) x ∷ ls) (sym (h a (omega arith))) (ih (suc k))
      go false ih = ih k

  -- The feedings of a slot are those of the bits of its word.
  pub slot_lines_word : (n : ℕ) → ((j : ℕ) → j < n → get_or parts j 0 ≡ part_at t (row_of slots words j))
      → slot_lines t (zip_with (λ a c. (a, c)) (tanks_of n numbers) (placing_of slots n words)) ≡ word_lines (suc t) numbers parts 1 (set_bits 0 n (get_or words t 0))
  unfolding slot_lines tanks_of placing_of rows fed
  slot_lines_word n h = rows_lines n 0 1 (λ j l. h j (omega arith)) ∙ ap (word_lines (suc t) numbers parts 1) (set_bits_keep (get_or words t 0) n)
