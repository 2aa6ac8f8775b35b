-- How a field is written by one column more, and a line by its fields. Assumes nothing.
use Rattle.std.specs.Prelude.{◌≡◌, refl, List, [], ◌∷◌, ◌++◌, ℕ, zero, suc, ◌+◌, ◌-◌, ◌*◌, ◌/◌, ◌%◌, ◌≤◌, ◌<◌, length, take, drop, set}
use Rattle.std.proofs.Common.{ap, ap₂, ◌∙◌, arith, add-one, eq-eqb, ne_eqb, drop-drop}
use Rattle.std.proofs.lemmas.List.{append_assoc, drop-set}
use Rattle.common.specs.Buffers.{put_at}
use Rattle.common.specs.BufferLaws.{length_put_at, put_at_append, set_put_at}
use Rattle.line.specs.Layout.{width, fields, line_bytes, blank, newline}
use Rattle.line.specs.Field.{digit, leading, columns, write_field}
use Rattle.line.specs.Line.{write_line}
use Rattle.line.specs.FieldLaws.{length_write_field}
use Rattle.line.specs.Parts.{column}

-- ---- a field's columns

-- one column more, from the right: `left` is what the columns up to i are to show
pub leading_next : (columns : List ℕ) (i left : ℕ) → 0 < i → i ≤ length columns
    → leading i left ++ drop i columns ≡ leading (i - 1) (left / 10) ++ drop (i - 1) (set columns (i - 1) (column left))
unfolding leading column
leading_next columns zero left p h = absurd (omega arith)
leading_next columns (suc j) left p h =
    rw (pred j, drop-set columns j (column left) (omega arith), add-one j) (append_assoc (leading j (left / 10)) (column left ∷ []) (drop (suc j) columns))
  where
    pred : (n : ℕ) → suc n - 1 ≡ n
    pred n = omega arith

-- the last two columns
pub two_last : (v : ℕ) (columns others : List ℕ) → columns ≡ leading (width - 2) (v / 100) → length others ≡ 2
    → set (set (columns ++ others) (width - 2) (column (v / 10))) (width - 1) (digit (v % 10)) ≡ write_field v
unfolding leading column write_field columns
two_last v c (x ∷ y ∷ []) e l = let hundreds : v / 100 ≡ v / 10 / 10 = omega arith in rw (e, hundreds) refl
two_last v c [] e l = absurd (omega arith)
two_last v c (x ∷ []) e l = absurd (omega arith)
two_last v c (x ∷ y ∷ z ∷ zs) e l = absurd (omega arith)

-- what is written into a part of a field's length
pub put_part : (at : ℕ) (old new field : List ℕ) → new ≡ field → length field ≡ width
    → take at old ++ (new ++ drop (at + width - at) (drop at old)) ≡ put_at at field old
unfolding put_at
put_part at old new field e l =
    ap₂ (λ (x : List ℕ) (k : ℕ). take at old ++ (x ++ drop k (drop at old))) e (size at)
    ∙ ap (λ (r : List ℕ). take at old ++ (field ++ r)) (drop-drop (length field) at old)
  where
    size : (at : ℕ) → at + width - at ≡ length field
    size at = omega (arith, l)

pub column_blank : (v : ℕ) → v ≡ 0 → blank ≡ column v
unfolding column
column_blank v e = rw (eq-eqb v 0 e)

pub column_digit : (v : ℕ) → (v ≡ 0 → ⊥) → digit (v % 10) ≡ column v
unfolding column
column_digit v e = rw (ne_eqb v 0 e)

-- ---- a line that is written

pub put_line : (at a b c d : ℕ) (old o₁ o₂ o₃ o₄ : List ℕ) → at + line_bytes ≤ length old
    → o₁ ≡ put_at at (write_field a) old → o₂ ≡ put_at (at + width) (write_field b) o₁ → o₃ ≡ put_at (at + width * 2) (write_field c) o₂
    → o₄ ≡ put_at (at + width * 3) (write_field d) o₃ → set o₄ (at + width * fields) newline ≡ put_at at (write_line a b c d) old
unfolding write_line
put_line at a b c d old o₁ o₂ o₃ o₄ h p₁ p₂ p₃ p₄ =
    set_put_at (at + width * fields) newline o₄ (omega (arith, l₄)) ∙ ap (put_at (at + width * fields) (newline ∷ [])) p₄
    ∙ join (width * 3) (write_field d) (newline ∷ []) o₃ (length_write_field d) (omega (arith, l₃))
    ∙ ap (put_at (at + width * 3) (write_field d ++ (newline ∷ []))) p₃
    ∙ join (width * 2) (write_field c) (write_field d ++ (newline ∷ [])) o₂ (length_write_field c) (omega (arith, l₂))
    ∙ ap (put_at (at + width * 2) (write_field c ++ (write_field d ++ (newline ∷ [])))) p₂
    ∙ put_at_next (at + width) (write_field b) (write_field c ++ (write_field d ++ (newline ∷ []))) o₁ (at + width * 2) (length_write_field b) (omega arith) (omega (arith, l₁))
    ∙ ap (put_at (at + width) (write_field b ++ (write_field c ++ (write_field d ++ (newline ∷ []))))) p₁
    ∙ put_at_append at width (write_field a) (write_field b ++ (write_field c ++ (write_field d ++ (newline ∷ [])))) old (length_write_field a) (omega arith)
  where
    put_at_next : (from : ℕ) (x y o : List ℕ) (to : ℕ) → length x ≡ width → to ≡ from + width → from + width ≤ length o → put_at to y (put_at from x o) ≡ put_at from (x ++ y) o
    put_at_next from x y o to e t k = ap (λ n. put_at n y (put_at from x o)) t ∙ put_at_append from width x y o e k

    join : (k : ℕ) (x y o : List ℕ) → length x ≡ width → (at + k) + width ≤ length o → put_at (at + (k + width)) y (put_at (at + k) x o) ≡ put_at (at + k) (x ++ y) o
    join k x y o e b = put_at_next (at + k) x y o (at + (k + width)) e (omega arith) b

    keeps : (from v : ℕ) (o o' : List ℕ) → o' ≡ put_at from (write_field v) o → from + width ≤ length o → length o' ≡ length o
    keeps from v o o' p k = ap length p ∙ length_put_at from (write_field v) o (rw (length_write_field v) k)

    l₁ : length o₁ ≡ length old
    l₁ = keeps at a old o₁ p₁ (omega arith)

    l₂ : length o₂ ≡ length old
    l₂ = keeps (at + width) b o₁ o₂ p₂ (omega (arith, l₁)) ∙ l₁

    l₃ : length o₃ ≡ length old
    l₃ = keeps (at + width * 2) c o₂ o₃ p₃ (omega (arith, l₂)) ∙ l₂

    l₄ : length o₄ ≡ length old
    l₄ = keeps (at + width * 3) d o₃ o₄ p₄ (omega (arith, l₃)) ∙ l₃
