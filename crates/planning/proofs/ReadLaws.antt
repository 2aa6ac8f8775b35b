-- The lines of a written listing are read back, where each number has at most as many digits as a field has columns.
-- Assumes nothing.
use Rattle.std.specs.Prelude.{◌≡◌, refl, false, ℕ, zero, suc, ◌<◌, length}
use Rattle.std.proofs.Common.{ap, ap₂, ◌∙◌, arith, drop_at}
use mathlib.Core.List.{List, [], ◌∷◌, ◌++◌, map, Memᴰ}
use Rattle.common.specs.Lists.{range}
use Rattle.line.specs.Layout.{line_bytes}
use Rattle.checks.specs.Sheet.{line_at}
use Rattle.line.specs.Line.{value_at, faulty_line, write_line}
use Rattle.line.specs.LineLaws.{length_write_line, value_at_write_line, faulty_line_write_line}
use Rattle.checks.specs.SheetLaws.{line_at_zero, line_at_suc, line_count_lines}
use Rattle.plan_lines.specs.Sizes.{word_bytes}
use Rattle.plan_lines.specs.Lines.{Line}
use Rattle.plan_lines.specs.Text.{write_lines}
use Rattle.plan_lines.specs.Putting.{length_write_lines}
use Rattle.planning.specs.ReadListing.{line_in, lines_in, lines_of}
use Rattle.planning.specs.ReadLaws.{FitsLine, FitLines}

abbrev write_one : Line → List ℕ
write_one l = write_line l.a l.b l.c l.d

length_write_one : (l : Line) → length (write_one l) ≡ line_bytes
length_write_one l = length_write_line l.a l.b l.c l.d

line_in_line : (text : List ℕ) (i : ℕ) (l : Line) → line_at text i ≡ write_one l → FitsLine l → line_in text i ≡ l
unfolding line_in
line_in_line text i l e h =
    λ k.
    record {
      a = (number 0 ∙ value_at_write_line l.a l.b l.c l.d 0 (omega arith) h.a) k;
      b = (number 1 ∙ value_at_write_line l.a l.b l.c l.d 1 (omega arith) h.b) k;
      c = (number 2 ∙ value_at_write_line l.a l.b l.c l.d 2 (omega arith) h.c) k;
      d = (number 3 ∙ value_at_write_line l.a l.b l.c l.d 3 (omega arith) h.d) k;
    }
  where
    number : (f : ℕ) → value_at (line_at text i) f ≡ value_at (write_one l) f
    number f = ap (λ (x : List ℕ). value_at x f) e

line_in_suc : (xs ys : List ℕ) (i : ℕ) → length xs ≡ line_bytes → line_in (xs ++ ys) (suc i) ≡ line_in ys i
unfolding line_in
line_in_suc xs ys i e = simp (line_at_suc xs ys i e)

map_line_in_suc : (xs ys : List ℕ) (i n : ℕ) → length xs ≡ line_bytes → map (line_in (xs ++ ys)) (range (suc i) n) ≡ map (line_in ys) (range i n)
map_line_in_suc xs ys i zero e = refl
map_line_in_suc xs ys i (suc n) e = ap₂ (λ (l : Line) (ls : List Line). l ∷ ls) (line_in_suc xs ys i e) (map_line_in_suc xs ys (suc i) n e)

lines_read : (ls : List Line) → FitLines ls → map (line_in (write_lines ls)) (range 0 (length ls)) ≡ ls
unfolding write_lines
lines_read [] h = refl
lines_read (l ∷ ls) h =
    ap₂
    (λ (x : Line) (xs : List Line). x ∷ xs)
    (line_in_line (write_one l ++ write_lines ls) 0 l (line_at_zero (write_one l) (write_lines ls) (length_write_one l)) (h l (Memᴰ.head refl)))
    (map_line_in_suc (write_one l) (write_lines ls) 0 (length ls) (length_write_one l) ∙ lines_read ls (λ x m. h x (Memᴰ.tail m)))

-- Written lines are read back.
pub lines_in_written : (ls : List Line) → FitLines ls → lines_in (write_lines ls) ≡ ls
unfolding lines_in
lines_in_written ls h =
    ap (λ n. map (line_in (write_lines ls)) (range 0 n)) (line_count_lines (write_lines ls) (length ls) (length_write_lines ls)) ∙ lines_read ls h

-- and so are a listing's, after its word
pub lines_of_written : (word : List ℕ) (ls : List Line) → length word ≡ word_bytes → FitLines ls → lines_of (word ++ write_lines ls) ≡ ls
unfolding lines_of
lines_of_written word ls e h = ap lines_in (drop_at word (write_lines ls) word_bytes e) ∙ lines_in_written ls h

-- No written line is faulty: each is in the sheet's form.
pub faulty_line_written : (ls : List Line) (i : ℕ) → FitLines ls → i < length ls → faulty_line (line_at (write_lines ls) i) ≡ false
unfolding write_lines
faulty_line_written [] i h k = absurd (omega arith)
faulty_line_written (l ∷ ls) zero h k =
    let f = h l (Memᴰ.head refl) in
    rw (line_at_zero (write_one l) (write_lines ls) (length_write_one l)) (faulty_line_write_line l.a l.b l.c l.d f.a f.b f.c f.d)
faulty_line_written (l ∷ ls) (suc i) h k =
    rw (line_at_suc (write_one l) (write_lines ls) i (length_write_one l)) (faulty_line_written ls i (λ x m. h x (Memᴰ.tail m)) (omega arith))
