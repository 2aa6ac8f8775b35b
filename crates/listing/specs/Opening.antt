-- A listing at the front of a buffer: its word, its head line, and its other lines, which may be put before the head line. Assumes nothing.
use Rattle.std.specs.Prelude.{◌≡◌, refl, length, drop}
use Rattle.std.proofs.Common.{sym, ◌∙◌, arith, length-append}
use Rattle.std.proofs.Math.Path.{ap}
use mathlib.Core.List.{List, [], ◌∷◌, ◌++◌}
use Prim.Native.Nat.{ℕ, ◌+◌, ◌*◌, ◌≤◌}
use Rattle.line.specs.Layout.{line_bytes}
use Rattle.line.specs.Line.{write_line}
use Rattle.line.specs.LineLaws.{length_write_line}
use Rattle.common.specs.Buffers.{over, put_at}
use Rattle.common.specs.BufferLaws.{put_at_append, length_put_at}
use Rattle.plan_lines.specs.Sizes.{word_bytes}
use Rattle.plan_lines.specs.Lines.{Line, line}
use Rattle.plan_lines.specs.Text.{write_lines, held_word, refusal_text}
use Rattle.plan_lines.specs.Putting.{put_at_nothing, put_at_before, length_write_lines}

-- A text was written at the front of a buffer, whose other bytes keep their values, and n is its length.
pub record Written (text old new : List ℕ) (n : ℕ) : Type 0 where
  pub bytes : new ≡ over text old
  pub size : n ≡ length text

pub put_at_over : (text old : List ℕ) → put_at 0 text old ≡ over text old
unfolding put_at over
put_at_over text old = ap (λ n. text ++ drop n old) (zero_plus (length text))
  where
    zero_plus : (n : ℕ) → 0 + n ≡ n
    zero_plus n = omega arith

module _ (word : List ℕ) (short : length word ≡ word_bytes) (old : List ℕ) where
  pub listing_length : (ls : List Line) → length (word ++ write_lines ls) ≡ word_bytes + line_bytes * length ls
  listing_length ls = rw (length-append, length_write_lines) (omega (arith, short))

  -- the word, the lines behind the head line, then the head line
  pub listing_written : (l : Line) (ls : List Line) (o₁ o₂ o₃ : List ℕ) → word_bytes + line_bytes * (1 + length ls) ≤ length old → o₁ ≡ put_at 0 word old
      → o₂ ≡ put_at (word_bytes + line_bytes) (write_lines ls) o₁ → o₃ ≡ put_at word_bytes (write_line l.a l.b l.c l.d) o₂
      → o₃ ≡ over (word ++ write_lines (l ∷ ls)) old
  unfolding write_lines
  listing_written l ls o₁ o₂ o₃ room e₁ e₂ e₃ =
      e₃
      ∙ ap (put_at word_bytes head) e₂
      ∙ put_at_before word_bytes line_bytes head (write_lines ls) o₁ (length_write_line l.a l.b l.c l.d) (omega (arith, same))
      ∙ ap (put_at word_bytes (head ++ write_lines ls)) e₁
      ∙ put_at_append 0 word_bytes word (head ++ write_lines ls) old short (omega arith)
      ∙ put_at_over (word ++ (head ++ write_lines ls)) old
    where
      head : List ℕ
      head = write_line l.a l.b l.c l.d

      same : length o₁ ≡ length old
      same = ap length e₁ ∙ length_put_at 0 word old (omega (arith, short))

pub length_refusal_text : (number l : ℕ) → length (refusal_text number l) ≡ word_bytes + line_bytes
unfolding refusal_text
length_refusal_text number l = listing_length held_word refl [] (line number l 0 0 ∷ [])

-- a refusal's listing has no other lines
pub refusal_written : (number l : ℕ) (old o₁ o₂ : List ℕ) → word_bytes + line_bytes ≤ length old → o₁ ≡ put_at 0 held_word old
    → o₂ ≡ put_at word_bytes (write_line number l 0 0) o₁ → Written (refusal_text number l) old o₂ (word_bytes + line_bytes)
unfolding refusal_text write_lines
refusal_written number l old o₁ o₂ room e₁ e₂ =
    record {
      bytes = listing_written held_word refl old (line number l 0 0) [] o₁ o₁ o₂ room e₁ (sym (put_at_nothing (word_bytes + line_bytes) o₁)) e₂;
      size = sym (listing_length held_word refl old (line number l 0 0 ∷ []));
    }
