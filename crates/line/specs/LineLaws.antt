-- A line that is written has its four numbers in its fields, and a line without a fault is the one that is written for its numbers. Assumes nothing.
use Rattle.std.specs.Prelude.{◌≡◌, refl, Bool, true, false, ℕ, zero, suc, ◌+◌, ◌*◌, ◌/◌, ◌%◌, ◌^◌, ◌≤◌, ◌<◌, length, get_or, drop, Option, Some, None}
use Rattle.std.proofs.Common.{sym, ap, ◌∙◌, true≢false, arith, length-append, drop_of_length-le, drop-cons, get_or-take, get_or-drop, eqb-true, eq-eqb}
use Rattle.std.proofs.Math.Path.{ap₂}
use mathlib.Core.List.{List, [], ◌∷◌, ◌++◌}
use Rattle.std.proofs.lemmas.Bool.{not-false}
use Rattle.common.specs.Tests.{or_false}
use Rattle.common.specs.FromFirst.{from_first}
use Rattle.common.specs.ChunkLaws.{chunk_zero, chunk_suc, get_d_append_past, length_chunk, drop_chunk}
use Rattle.line.specs.Layout.{width, fields, line_bytes, newline}
use Rattle.line.specs.Field.{parse, number_of, is_faulty, write_field}
use Rattle.line.specs.Line.{field_at, value_at, faulty_from, faulty_line, write_line}
use Rattle.line.specs.FieldLaws.{parse_newline, parse_write_field, write_field_parse, length_write_field}

pub length_write_line : (a b c d : ℕ) → length (write_line a b c d) ≡ line_bytes
unfolding write_line
length_write_line a b c d = simp (length-append, length_write_field)

-- Fields of a line --------------------------------------------------------------

pub field_at_zero : (xs ys : List ℕ) → length xs ≡ width → field_at (xs ++ ys) 0 ≡ xs
unfolding field_at
field_at_zero xs ys e = chunk_zero width xs ys e

pub field_at_suc : (xs ys : List ℕ) (f : ℕ) → length xs ≡ width → field_at (xs ++ ys) (suc f) ≡ field_at ys f
unfolding field_at
field_at_suc xs ys f e = chunk_suc width xs ys f e

-- the field before is passed over
field_at_write_field : (a : ℕ) (ys : List ℕ) (f : ℕ) → field_at (write_field a ++ ys) (suc f) ≡ field_at ys f
field_at_write_field a ys f = field_at_suc (write_field a) ys f (length_write_field a)

-- Field f of a written line is the one written for number f of its four.
pub field_at_write_line : (a b c d f : ℕ) → f < fields → field_at (write_line a b c d) f ≡ write_field (get_or (a ∷ b ∷ c ∷ d ∷ []) f 0)
unfolding write_line
field_at_write_line a b c d zero h = field_at_zero (write_field a) _ (length_write_field a)
field_at_write_line a b c d (suc zero) h = field_at_write_field a _ 0 ∙ field_at_zero (write_field b) _ (length_write_field b)
field_at_write_line a b c d (suc (suc zero)) h = field_at_write_field a _ 1 ∙ field_at_write_field b _ 0 ∙ field_at_zero (write_field c) _ (length_write_field c)
field_at_write_line a b c d (suc (suc (suc zero))) h =
    field_at_write_field a _ 2 ∙ field_at_write_field b _ 1 ∙ field_at_write_field c _ 0 ∙ field_at_zero (write_field d) _ (length_write_field d)
field_at_write_line a b c d (suc (suc (suc (suc f)))) h = absurd (omega arith)

pub closing_write_line : (a b c d : ℕ) → get_or (write_line a b c d) (width * fields) 0 ≡ newline
unfolding write_line
closing_write_line a b c d =
    get_d_append_past width (write_field a) _ (width * 3) 0 (length_write_field a)
    ∙ get_d_append_past width (write_field b) _ (width * 2) 0 (length_write_field b)
    ∙ get_d_append_past width (write_field c) _ width 0 (length_write_field c)
    ∙ get_d_append_past width (write_field d) _ 0 0 (length_write_field d)

-- Faulty lines --------------------------------------------------------------------

-- n fields from f on are in the stated form, and the closing byte is there
pub record Formed (l : List ℕ) (f n : ℕ) : Type 0 where
  pub field : (i : ℕ) → f ≤ i → i < f + n → is_faulty (parse (field_at l i)) ≡ false
  pub closing : get_or l (width * fields) 0 ≡ newline

pub formed_faulty_from : (l : List ℕ) (f n : ℕ) → faulty_from l f n ≡ false → Formed l f n
unfolding faulty_from
formed_faulty_from l f zero e = record { field = λ i p q. absurd (omega arith); closing = eqb-true _ newline (not-false _ e) }
formed_faulty_from l f (suc n) e =
    let h = or_false (is_faulty (parse (field_at l f))) (faulty_from l (suc f) n) e in
    let r = formed_faulty_from l (suc f) n h.1 in
    record { field = λ i p q. from_first (λ k. is_faulty (parse (field_at l k)) ≡ false) f i p h.0 (λ s. r.field i s (omega arith)); closing = r.closing }

pub faulty_from_formed : (l : List ℕ) (f n : ℕ) → Formed l f n → faulty_from l f n ≡ false
unfolding faulty_from
faulty_from_formed l f zero h = rw (eq-eqb (get_or l (width * fields) 0) newline h.closing)
faulty_from_formed l f (suc n) h =
    rw (h.field f (omega arith) (omega arith)) (faulty_from_formed l (suc f) n (record { field = λ i p q. h.field i (omega arith) (omega arith); closing = h.closing }))

-- a field without a fault holds its number
value_number_of : (x : Option ℕ) → is_faulty x ≡ false → x ≡ Some (number_of x)
unfolding is_faulty number_of
value_number_of (Some v) e = refl
value_number_of None e = absurd (true≢false e)

-- A line with byte 10 in one of its fields is faulty.
pub faulty_early : (l : List ℕ) (i : ℕ) → i < width * fields → width * fields ≤ length l → get_or l i 0 ≡ newline → faulty_line l ≡ true
unfolding faulty_line field_at is_faulty
faulty_early l i h long e = go (faulty_from l 0 fields) refl
  where
    f : ℕ
    f = i / width

    byte : get_or (field_at l f) (i % width) 0 ≡ newline
    byte =
        get_or-take width (drop (width * f) l) (i % width) 0 (omega arith)
        ∙ get_or-drop (width * f) l (i % width) 0
        ∙ ap (λ k. get_or l k 0) (let s : width * f + i % width ≡ i = omega arith in s)
        ∙ e

    whole : length (field_at l f) ≡ width
    whole = length_chunk width l f (omega arith)

    field : parse (field_at l f) ≡ None
    field = parse_newline (field_at l f) (i % width) (omega (arith, whole)) byte

    go : (t : Bool) → faulty_from l 0 fields ≡ t → t ≡ true
    go true q = refl
    go false q = absurd (true≢false (ap is_faulty (sym field) ∙ (formed_faulty_from l 0 fields q).field f (omega arith) (omega arith)))

is_faulty_value : (x : Option ℕ) (v : ℕ) → x ≡ Some v → is_faulty x ≡ false
unfolding is_faulty
is_faulty_value x v e = rw e

-- Written, then read ----------------------------------------------------------------

pub value_at_write_line : (a b c d f : ℕ) → f < fields → get_or (a ∷ b ∷ c ∷ d ∷ []) f 0 < 10 ^ width → value_at (write_line a b c d) f ≡ get_or (a ∷ b ∷ c ∷ d ∷ []) f 0
unfolding value_at number_of
value_at_write_line a b c d f h l = rw (field_at_write_line a b c d f h, parse_write_field (get_or (a ∷ b ∷ c ∷ d ∷ []) f 0) l)

-- A written line of numbers that have at most as many digits as a field has columns is not faulty.
pub faulty_line_write_line : (a b c d : ℕ) → a < 10 ^ width → b < 10 ^ width → c < 10 ^ width → d < 10 ^ width → faulty_line (write_line a b c d) ≡ false
unfolding faulty_line
faulty_line_write_line a b c d ha hb hc hd = faulty_from_formed (write_line a b c d) 0 fields (record { field = λ i p q. good i q; closing = closing_write_line a b c d })
  where
    fits : (i : ℕ) → get_or (a ∷ b ∷ c ∷ d ∷ []) i 0 < 10 ^ width
    fits zero = ha
    fits (suc zero) = hb
    fits (suc (suc zero)) = hc
    fits (suc (suc (suc zero))) = hd
    fits (suc (suc (suc (suc i)))) = omega arith

    good : (i : ℕ) → i < 0 + fields → is_faulty (parse (field_at (write_line a b c d) i)) ≡ false
    good i q = rw (field_at_write_line a b c d i q) (is_faulty_value _ _ (parse_write_field _ (fits i)))

-- Read, then written ----------------------------------------------------------------

pub formed_faulty_line : (l : List ℕ) → faulty_line l ≡ false → Formed l 0 fields
unfolding faulty_line
formed_faulty_line l e = formed_faulty_from l 0 fields e

module _ (l : List ℕ) (size : length l ≡ line_bytes) (good : faulty_line l ≡ false) where
  pub field_at_value_at : (f : ℕ) → f < fields → field_at l f ≡ write_field (value_at l f)
  unfolding field_at value_at
  field_at_value_at f h =
      write_field_parse (field_at l f) (value_at l f) (length_chunk width l f (omega arith)) (value_number_of (parse (field_at l f)) ((formed_faulty_line l good).field f (omega arith) (omega arith)))

  drop_closing : drop (width * fields) l ≡ newline ∷ []
  drop_closing =
      drop-cons l (width * fields) 0 (omega arith)
      ∙ ap₂ (λ (x : ℕ) (xs : List ℕ). x ∷ xs) (formed_faulty_line l good).closing (drop_of_length-le l {i = suc (width * fields)} (omega arith))

  drop_field : (f : ℕ) (r : List ℕ) → f < fields → drop (width * suc f) l ≡ r → drop (width * f) l ≡ write_field (value_at l f) ++ r
  unfolding field_at
  drop_field f r h e = drop_chunk width l f ∙ ap₂ (λ (x y : List ℕ). x ++ y) (field_at_value_at f h) e

  -- A line without a fault is the one written for its numbers.
  pub write_line_value_at : l ≡ write_line (value_at l 0) (value_at l 1) (value_at l 2) (value_at l 3)
  unfolding write_line
  write_line_value_at = drop_field 0 _ (omega arith) (drop_field 1 _ (omega arith) (drop_field 2 _ (omega arith) (drop_field 3 _ (omega arith) drop_closing)))
