-- The bits of a slot's word and the bytes of the grid, by place; and the words and the grid of a placing one the same
-- feedings. Assumes nothing.
use Rattle.std.specs.Prelude.{◌≡◌, refl, true, false, replicate}
use Rattle.std.proofs.Math.Path.{sym, ap}
use Rattle.std.proofs.Common.{◌∙◌, subst, length-append}
use Rattle.std.proofs.Math.Bool.{Bool}
use mathlib.Core.List.{List, [], ◌∷◌, ◌++◌, map, append_assoc}
use Prim.Native.Nat.{ℕ, zero, suc, ◌+◌, ◌*◌, ◌/◌, ◌%◌, ◌^◌, ◌≤◌, ◌<◌}
use Rattle.std.proofs.Math.Decide.{dec_lt}
use Rattle.std.proofs.Math.Nat.{mul-le-mul_right, pow-succ'}
use native.Mathlib.Omega.{arith}
use Rattle.std.proofs.Math.Dec.{eqb}
use Rattle.std.proofs.Math.ListN.{length, get_or, get_or-append, get_or-eq_default}
use Rattle.std.proofs.lemmas.List.{length-map, length-replicate}
use Rattle.std.proofs.Math.Seq.{ext_get_or}
use Rattle.common.specs.Lists.{range, flat_map}
use Rattle.common.specs.ListLaws.{length_map_range, get_d_map_range}
use Rattle.common.specs.Bits.{bit, bit_zero, bit_suc, bit_of_zero, same_bits}
use Rattle.common.specs.Buffers.{padded}
use Rattle.common.specs.BufferLaws.{length_padded}
use Rattle.common.specs.ChunkLaws.{get_d_append_past}
use Rattle.common.specs.FillLaws.{get_d_padded, padded_past, get_d_zeros}
use Rattle.checks.specs.Limits.{max_slots, max_rations}
use Rattle.schedules.specs.Slots.{Slots, has}
use Rattle.schedules.specs.Schedules.{Schedule}
use Rattle.schedules.specs.Tabulate.{get_d_map_below}
use Rattle.plan_lines.specs.Sizes.{placing_words}
use Rattle.plan_lines.specs.FeedLaws.{one}
use Rattle.plan_lines.specs.PlacingForms.{binary, word_of, words_of, grid_bytes, bytes_of, row_bytes, grid_of, grid_from, words_from, SameFeedings}

pub one_is : (b : Bool) → eqb (one b) 1 ≡ b
one_is true = refl
one_is false = refl

-- Words --------------------------------------------------------------------------------

lowest : (b : Bool) (bs : List Bool) → binary (b ∷ bs) % 2 ≡ one b
unfolding binary
lowest true bs = omega arith
lowest false bs = omega arith

others : (b : Bool) (bs : List Bool) → binary (b ∷ bs) / 2 ≡ binary bs
unfolding binary
others true bs = omega arith
others false bs = omega arith

bit_binary : (bs : List Bool) (j : ℕ) → bit (binary bs) j ≡ one (has bs j)
unfolding binary
bit_binary [] j = bit_of_zero j
bit_binary (b ∷ bs) zero = bit_zero (binary (b ∷ bs)) ∙ lowest b bs
bit_binary (b ∷ bs) (suc j) = bit_suc (binary (b ∷ bs)) j ∙ ap (λ w. bit w j) (others b bs) ∙ bit_binary bs j

binary_few : (bs : List Bool) → binary bs < 2 ^ length bs
unfolding binary
binary_few [] = omega arith
binary_few (true ∷ bs) = omega (arith, binary_few bs, pow-succ' 2 (length bs))
binary_few (false ∷ bs) = omega (arith, binary_few bs, pow-succ' 2 (length bs))

-- a slot's marks, ration by ration
column : (p : Schedule) (t j : ℕ) → has (map (λ c. has c t) p) j ≡ has (get_or p j []) t
column [] t j = refl
column (c ∷ p) t zero = refl
column (c ∷ p) t (suc j) = column p t j

pub bit_word_of : (p : Schedule) (t j : ℕ) → bit (word_of p t) j ≡ one (has (get_or p j []) t)
unfolding word_of
bit_word_of p t j = bit_binary (map (λ c. has c t) p) j ∙ ap one (column p t j)

-- a word has no bit past its rations
pub word_of_few : (p : Schedule) (t : ℕ) → word_of p t < 2 ^ length p
unfolding word_of
word_of_few p t = subst (λ n. word_of p t < 2 ^ n) (length-map p (λ c. has c t)) (binary_few (map (λ c. has c t) p))

pub length_words_of : (p : Schedule) → length (words_of p) ≡ placing_words
unfolding words_of
length_words_of p = length_map_range (word_of p) placing_words

pub get_d_words_of : (p : Schedule) (t : ℕ) → t < placing_words → get_or (words_of p) t 0 ≡ word_of p t
unfolding words_of
get_d_words_of p t l = get_d_map_range (word_of p) 0 placing_words t l

-- 96 words with these bits, and no others, are those of the placing
pub words_are : (p : Schedule) (words : List ℕ) → length words ≡ placing_words
    → ((t j : ℕ) → t < placing_words → bit (get_or words t 0) j ≡ one (has (get_or p j []) t)) → words ≡ words_of p
words_are p words e h =
    ext_get_or 0 words (words_of p) (e ∙ sym (length_words_of p))
    (λ t l.
    let k : t < placing_words = omega (arith, e) in
    same_bits _ _ (λ j. h t j k ∙ sym (bit_word_of p t j)) ∙ sym (get_d_words_of p t k))

-- those of no rations are 0
pub no_words : replicate placing_words 0 ≡ words_of []
no_words =
    words_are [] (replicate placing_words 0) (length-replicate {A = ℕ} placing_words 0)
    (λ t j l. ap (λ w. bit w j) (get_d_zeros placing_words t) ∙ bit_of_zero j)

-- Bytes --------------------------------------------------------------------------------

-- each row has at most 96 slots
abbrev ShortRows : Schedule → Type 0
ShortRows p = (j : ℕ) → j < length p → length (get_or p j []) ≤ max_slots

length_row_bytes : (c : Slots) → length c ≤ max_slots → length (row_bytes c) ≡ max_slots
unfolding row_bytes bytes_of
length_row_bytes c l = length_padded max_slots (map one c) (omega (arith, length-map c one))

row_byte : (c : Slots) (t : ℕ) (rest : List ℕ) → length c ≤ max_slots → t < max_slots → get_or (row_bytes c ++ rest) t 0 ≡ one (has c t)
unfolding row_bytes bytes_of
row_byte c t rest l k = get_or-append (row_bytes c) rest 0 t (omega (arith, length_row_bytes c l)) ∙ at (dec_lt t (length c))
  where
    at : Dec (t < length c) → get_or (row_bytes c) t 0 ≡ one (has c t)
    at (yes m) = get_d_padded max_slots (map one c) t (omega (arith, length-map c one)) ∙ get_d_map_below one c t 0 false m
    at (no m) = padded_past max_slots (map one c) t (omega (arith, length-map c one)) ∙ sym (ap one (get_or-eq_default c false (omega arith)))

rows_byte : (p : Schedule) → ShortRows p → (rest : List ℕ) (i t : ℕ) → i < length p → t < max_slots
    → get_or (flat_map row_bytes p ++ rest) (i * max_slots + t) 0 ≡ one (has (get_or p i []) t)
rows_byte [] h rest i t l k = absurd (omega arith)
rows_byte (c ∷ p) h rest zero t l k =
    ap (λ bs. get_or bs (zero * max_slots + t) 0) (append_assoc (row_bytes c) (flat_map row_bytes p) rest)
    ∙ ap (λ n. get_or (row_bytes c ++ (flat_map row_bytes p ++ rest)) n 0) (first t)
    ∙ row_byte c t (flat_map row_bytes p ++ rest) (h zero (omega arith)) k
  where
    first : (t : ℕ) → zero * max_slots + t ≡ t
    first t = omega arith
rows_byte (c ∷ p) h rest (suc i) t l k =
    ap (λ bs. get_or bs (suc i * max_slots + t) 0) (append_assoc (row_bytes c) (flat_map row_bytes p) rest)
    ∙ ap (λ n. get_or (row_bytes c ++ (flat_map row_bytes p ++ rest)) n 0) (next i t)
    ∙ get_d_append_past max_slots (row_bytes c) (flat_map row_bytes p ++ rest) (i * max_slots + t) 0 (length_row_bytes c (h zero (omega arith)))
    ∙ rows_byte p (λ j m. h (suc j) (omega arith)) rest i t (omega arith) k
  where
    next : (i t : ℕ) → suc i * max_slots + t ≡ max_slots + (i * max_slots + t)
    next i t = omega arith

length_rows : (p : Schedule) → ShortRows p → length (flat_map row_bytes p) ≡ length p * max_slots
length_rows [] h = refl
length_rows (c ∷ p) h =
    length-append (row_bytes c) (flat_map row_bytes p)
    ∙ omega (arith, length_row_bytes c (h zero (omega arith)), length_rows p (λ j m. h (suc j) (omega arith)))

-- Both of one placing ------------------------------------------------------------------

module _ (p : Schedule) (short : ShortRows p) (few : length p ≤ max_rations) where
  rows_fit : length (flat_map row_bytes p) ≤ grid_bytes
  rows_fit = omega (arith, length_rows p short, mul-le-mul_right max_slots few)

  length_grid_of : length (grid_of p) ≡ grid_bytes
  unfolding grid_of
  length_grid_of = length_padded grid_bytes (flat_map row_bytes p) rows_fit

  grid_byte : (i t : ℕ) → t < max_slots → get_or (grid_of p) (i * max_slots + t) 0 ≡ one (has (get_or p i []) t)
  unfolding grid_of padded
  grid_byte i t k = at (dec_lt i (length p))
    where
      at : Dec (i < length p) → get_or (padded grid_bytes (flat_map row_bytes p)) (i * max_slots + t) 0 ≡ one (has (get_or p i []) t)
      at (yes m) = rows_byte p short _ i t m k
      at (no m) =
          let past : length p ≤ i = omega arith in
          padded_past grid_bytes (flat_map row_bytes p) (i * max_slots + t) (omega (arith, length_rows p short, mul-le-mul_right max_slots past))
          ∙ sym (ap (λ c. one (has c t)) (get_or-eq_default p [] past))

  byte_is_bit : (i t : ℕ) → t < max_slots → get_or (grid_of p) (i * max_slots + t) 0 ≡ bit (get_or (words_of p) t 0) i
  byte_is_bit i t k = grid_byte i t k ∙ sym (ap (λ w. bit w i) (get_d_words_of p t k) ∙ bit_word_of p t i)

  grid_from_lem : grid_from (words_of p) ≡ grid_of p
  unfolding grid_from
  grid_from_lem =
      ext_get_or 0 (grid_from (words_of p)) (grid_of p) (length_map_range byte grid_bytes ∙ sym length_grid_of)
      (λ k l. get_d_map_range byte 0 grid_bytes k (rw (length_map_range byte grid_bytes) at l) ∙ at k)
    where
      byte : ℕ → ℕ
      byte k = bit (get_or (words_of p) (k % max_slots) 0) (k / max_slots)

      place : (k : ℕ) → k / max_slots * max_slots + k % max_slots ≡ k
      place k = omega arith

      at : (k : ℕ) → byte k ≡ get_or (grid_of p) k 0
      at k = sym (byte_is_bit (k / max_slots) (k % max_slots) (omega arith)) ∙ ap (λ n. get_or (grid_of p) n 0) (place k)

  words_from_lem : words_from (grid_of p) ≡ words_of p
  unfolding words_from
  words_from_lem =
      words_are p (words_from (grid_of p)) (length_map_range word placing_words)
      (λ t j l. ap (λ w. bit w j) (get_d_map_range word 0 placing_words t l) ∙ bit_binary (map (fed t) (range 0 max_rations)) j ∙ ap one (at t j l (dec_lt j max_rations)))
    where
      fed : ℕ → ℕ → Bool
      fed t i = eqb (get_or (grid_of p) (i * max_slots + t) 0) 1

      word : ℕ → ℕ
      word t = binary (map (fed t) (range 0 max_rations))

      at : (t j : ℕ) → t < placing_words → Dec (j < max_rations) → has (map (fed t) (range 0 max_rations)) j ≡ has (get_or p j []) t
      at t j l (yes m) = get_d_map_range (fed t) false max_rations j m ∙ ap (λ x. eqb x 1) (grid_byte j t l) ∙ one_is (has (get_or p j []) t)
      at t j l (no m) =
          get_or-eq_default (map (fed t) (range 0 max_rations)) false {n = j} (omega (arith, length_map_range (fed t) max_rations))
          ∙ sym (ap (λ c. has c t) (get_or-eq_default p [] {n = j} (omega (arith, few))))

  -- the words of a placing and its byte grid one the same feedings
  pub same_feedings : SameFeedings (words_of p) (grid_of p)
  same_feedings =
      record {
        words_long = length_words_of p;
        grid_long = length_grid_of;
        marks = λ i t _ l. byte_is_bit i t l;
        to_grid = grid_from_lem;
        to_words = words_from_lem;
      }

-- as do 96 zeros and 6,144
pub no_feedings_lem : SameFeedings (replicate placing_words 0) (replicate grid_bytes 0)
unfolding grid_of padded
no_feedings_lem = subst (λ words. SameFeedings words (replicate grid_bytes 0)) (sym no_words) (same_feedings [] (λ j l. absurd (omega arith)) (omega arith))
