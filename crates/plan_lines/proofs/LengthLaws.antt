-- How many lines a plan has: at most one stretch for each slot of each blower, and one feed line for each feeding.
-- Assumes nothing.
use Rattle.std.specs.Prelude.{◌≡◌, refl, cond, List, [], ◌∷◌, ◌++◌, map, ℕ, zero, suc, ◌+◌, ◌*◌, ◌/◌, ◌%◌, ◌^◌, ◌≤◌, ◌<◌, eqb, length, get_or}
use Rattle.std.proofs.Common.{sym, ap, ◌∙◌, suc-mul, arith, length-append}
use Rattle.std.proofs.Math.Nat.{pow-succ'}
use Rattle.std.specs.Int.Count.{ones, ones_step}
use Rattle.std.proofs.lemmas.List.{length-map}
use Rattle.common.specs.Lists.{range, flat_map, zip_with}
use Rattle.common.specs.ListLaws.{get_d_map_range}
use Rattle.method.specs.Intervals.{intervals}
use Rattle.energy.specs.EnergyLaws.{length_intervals}
use Rattle.plan_lines.specs.Lines.{Line, stretch_line, blower_lines, stretch_lines, part_at, slot_lines, feed_lines}
use Rattle.plan_lines.specs.Inputs.{tanks_of, row_of, placing_of}
use Rattle.plan_lines.specs.SetBits.{set_bits}
use Rattle.plan_lines.proofs.FeedLaws.{length_word_lines, slot_lines_word}

-- as many lines for each of n numbers as c at most
pub length_flat_map_range : (f : ℕ → List Line) (c a n : ℕ) → ((k : ℕ) → a ≤ k → k < a + n → length (f k) ≤ c) → length (flat_map f (range a n)) ≤ n * c
length_flat_map_range f c a zero h = omega arith
length_flat_map_range f c a (suc n) h =
    rw length-append
    (omega (arith, h a (omega arith) (omega arith), length_flat_map_range f c (suc a) n (λ k p q. h k (omega arith) (omega arith)), suc-mul n c))

-- Stretch lines --------------------------------------------------------------------

pub length_stretch_lines : (m q : ℕ) (counts : List ℕ) → length (stretch_lines m q counts) ≤ m * length counts
unfolding stretch_lines blower_lines
length_stretch_lines m q counts =
    length_flat_map_range (blower_lines q counts) (length counts) 1 m (λ k _ _. omega (arith, length-map (intervals counts k) (stretch_line (length counts) q k), length_intervals counts k))

-- Feed lines -----------------------------------------------------------------------

pub length_set_bits_ones : (n j w : ℕ) → w < 2 ^ n → length (set_bits j n w) ≡ ones w
unfolding set_bits ones
length_set_bits_ones zero j w h = sym (ap ones z)
  where
    z : w ≡ 0
    z = omega arith
length_set_bits_ones (suc n) j w h = go (w % 2) refl (length_set_bits_ones n (suc j) (w / 2) (omega (arith, pow-succ' 2 n)))
  where
    go : (r : ℕ) → w % 2 ≡ r → length (set_bits (suc j) n (w / 2)) ≡ ones (w / 2) → length (cond (eqb r 1) (j ∷ []) [] ++ set_bits (suc j) n (w / 2)) ≡ ones w
    go zero e ih = omega (arith, ones_step w)
    go (suc zero) e ih = omega (arith, ones_step w)
    go (suc (suc r)) e ih = absurd (omega arith)

-- a slot has a line for each bit of its word
pub length_slot_lines_word : (slots n : ℕ) (numbers words : List ℕ) (t : ℕ) → t < slots → slots ≤ length words → get_or words t 0 < 2 ^ n
    → length (slot_lines t (zip_with (λ a c. (a, c)) (tanks_of n numbers) (placing_of slots n words))) ≡ ones (get_or words t 0)
length_slot_lines_word slots n numbers words t h l few =
    ap length (slot_lines_word slots words t h l numbers parts n (get_d_map_range (λ i. part_at t (row_of slots words i)) 0 n))
    ∙ length_word_lines (suc t) numbers parts 1 (set_bits 0 n (get_or words t 0))
    ∙ length_set_bits_ones n 0 (get_or words t 0) few
  where
    parts : List ℕ
    parts = map (λ i. part_at t (row_of slots words i)) (range 0 n)

pub length_feed_lines_words : (slots n c : ℕ) (numbers words : List ℕ) → slots ≤ length words → ((t : ℕ) → t < slots → (get_or words t 0 < 2 ^ n) × (ones (get_or words t 0) ≤ c))
    → length (feed_lines slots (tanks_of n numbers) (placing_of slots n words)) ≤ slots * c
unfolding feed_lines
length_feed_lines_words slots n c numbers words l h =
    length_flat_map_range _ c 0 slots
    (λ t _ k. let g = h t (omega arith) in omega (arith, length_slot_lines_word slots n numbers words t (omega arith) l g.0, g.1))
