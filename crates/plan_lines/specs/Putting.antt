-- Lines put into a buffer, some after others: what is still to be put. Assumes nothing.
use Rattle.std.specs.Prelude.{◌≡◌, refl, List, [], ◌∷◌, ◌++◌, ℕ, ◌+◌, ◌*◌, ◌≤◌, take, drop}
use Rattle.std.proofs.Math.Path.{sym, ap}
use Rattle.std.proofs.Common.{◌∙◌, append_assoc, append-nil, arith, length-append, take-append-drop, drop_at, take-take, length-take-le}
use Rattle.std.proofs.Math.ListN.{length}
use Rattle.std.proofs.lemmas.List.{take-append-le}
use Rattle.line.specs.Layout.{line_bytes}
use Rattle.line.specs.Line.{write_line}
use Rattle.line.specs.LineLaws.{length_write_line}
use Rattle.common.specs.Buffers.{put_at}
use Rattle.common.specs.BufferLaws.{put_at_append, length_put_at}
use Rattle.plan_lines.specs.Lines.{Line}
use Rattle.plan_lines.specs.Text.{write_lines}

-- Bytes --------------------------------------------------------------------------

pub put_at_nothing : (at : ℕ) (old : List ℕ) → put_at at [] old ≡ old
unfolding put_at
put_at_nothing at old = ap (λ n. take at old ++ drop n old) (plus_zero at) ∙ take-append-drop at old
  where
    plus_zero : (n : ℕ) → n + 0 ≡ n
    plus_zero n = omega arith

-- what is put before what was put
pub put_at_before : (at n : ℕ) (a b old : List ℕ) → length a ≡ n → at + n ≤ length old → put_at at a (put_at (at + n) b old) ≡ put_at at (a ++ b) old
unfolding put_at
put_at_before at n a b old e h =
    ap (λ l. l ++ (a ++ drop (at + length a) rest)) front
    ∙ ap (λ m. take at old ++ (a ++ drop m rest)) (ap (λ m. at + m) e)
    ∙ ap (λ l. take at old ++ (a ++ l)) behind
    ∙ ap (λ l. take at old ++ l) (sym (append_assoc a b (drop (at + length (a ++ b)) old)))
  where
    rest : List ℕ
    rest = take (at + n) old ++ (b ++ drop ((at + n) + length b) old)

    front : take at rest ≡ take at old
    front = take-append-le at (take (at + n) old) _ (rw (length-take-le (at + n) old h) (omega arith)) ∙ take-take at (at + n) old (omega arith)

    behind : drop (at + n) rest ≡ b ++ drop (at + length (a ++ b)) old
    behind = drop_at (take (at + n) old) (b ++ drop ((at + n) + length b) old) (at + n) (length-take-le (at + n) old h) ∙ ap (λ m. b ++ drop m old) sum
      where
        sum : (at + n) + length b ≡ at + length (a ++ b)
        sum = rw length-append (omega (arith, e))

-- Lines --------------------------------------------------------------------------

pub length_write_lines : (ls : List Line) → length (write_lines ls) ≡ line_bytes * length ls
unfolding write_lines
length_write_lines [] = refl
length_write_lines (l ∷ ls) =
    length-append (write_line l.a l.b l.c l.d) (write_lines ls)
    ∙ omega (arith, length_write_line l.a l.b l.c l.d, length_write_lines ls)

pub write_lines_append : (ks ls : List Line) → write_lines (ks ++ ls) ≡ write_lines ks ++ write_lines ls
unfolding write_lines
write_lines_append [] ls = refl
write_lines_append (k ∷ ks) ls =
    ap (λ l. write_line k.a k.b k.c k.d ++ l) (write_lines_append ks ls)
    ∙ sym (append_assoc (write_line k.a k.b k.c k.d) (write_lines ks) (write_lines ls))

-- n lines were put from a place on
pub record Put (lines : List Line) (at : ℕ) (old new : List ℕ) (n : ℕ) : Type 0 where
  pub text : new ≡ put_at at (write_lines lines) old
  pub number : n ≡ length lines

-- the buffer has room for lines from a place on
abbrev pub Room : List Line → ℕ → List ℕ → Type 0
Room lines at old = at + line_bytes * length lines ≤ length old

-- of all lines, n were put from a place on, and the rest goes behind them
pub record Putting (all rest : List Line) (at : ℕ) (old new : List ℕ) (n : ℕ) : Type 0 where
  pub text : put_at at (write_lines all) old ≡ put_at (at + line_bytes * n) (write_lines rest) new
  pub number : length all ≡ n + length rest
  pub same_length : length new ≡ length old

module _ (at : ℕ) (old : List ℕ) (all : List Line) (room : Room all at old) where
  pub putting_begin : (rest : List Line) → all ≡ rest → Putting all rest at old old 0
  putting_begin rest e =
      record {
        text = ap (λ ls. put_at at (write_lines ls) old) e ∙ ap (λ n. put_at n (write_lines rest) old) (plus_zero at);
        number = ap length e ∙ omega arith;
        same_length = refl;
      }
    where
      plus_zero : (n : ℕ) → n ≡ n + line_bytes * 0
      plus_zero n = omega arith

  -- what a callee puts
  pub putting_more : {rest : List Line} {new new' : List ℕ} {n : ℕ} (ls rest' : List Line) (m : ℕ) → Putting all rest at old new n → rest ≡ ls ++ rest'
      → Put ls (at + line_bytes * n) new new' m → Putting all rest' at old new' (n + m)
  putting_more {rest} {new} {new'} {n} ls rest' m p e q =
      let l : length rest ≡ length ls + length rest' = ap length e ∙ length-append ls rest' in
      let w : length (write_lines ls) ≡ line_bytes * m = length_write_lines ls ∙ omega (arith, q.number) in
      let r : (at + line_bytes * n) + line_bytes * m ≤ length new = omega (arith, p.number, p.same_length, q.number) in
      record {
        text =
            p.text
            ∙ ap (λ t. put_at (at + line_bytes * n) t new) (ap write_lines e ∙ write_lines_append ls rest')
            ∙ sym (put_at_append (at + line_bytes * n) (line_bytes * m) (write_lines ls) (write_lines rest') new w r)
            ∙ ap (put_at ((at + line_bytes * n) + line_bytes * m) (write_lines rest')) (sym q.text)
            ∙ ap (λ k. put_at k (write_lines rest') new') (places at n m);
        number = omega (arith, p.number, q.number);
        same_length = ap length q.text ∙ length_put_at (at + line_bytes * n) (write_lines ls) new (omega (arith, w)) ∙ p.same_length;
      }
    where
      places : (a n m : ℕ) → (a + line_bytes * n) + line_bytes * m ≡ a + line_bytes * (n + m)
      places a n m = omega arith

  -- the room that is left
  pub putting_room : {rest : List Line} {new : List ℕ} {n : ℕ} (ls rest' : List Line) → Putting all rest at old new n → rest ≡ ls ++ rest' → Room ls (at + line_bytes * n) new
  putting_room ls rest' p e = omega (arith, ap length e ∙ length-append ls rest', p.number, p.same_length)

  pub putting_end : {rest : List Line} {new : List ℕ} {n : ℕ} → Putting all rest at old new n → rest ≡ [] → Put all at old new n
  unfolding write_lines
  putting_end {rest} {new} {n} p e =
      record {
        text = sym (p.text ∙ ap (λ ls. put_at (at + line_bytes * n) (write_lines ls) new) e ∙ put_at_nothing (at + line_bytes * n) new);
        number = omega (arith, p.number, ap length e);
      }

-- one line
pub put_one : (l : Line) (at : ℕ) (old new : List ℕ) → new ≡ put_at at (write_line l.a l.b l.c l.d) old → Put (l ∷ []) at old new 1
unfolding write_lines
put_one l at old new e = record { text = e ∙ ap (λ t. put_at at t old) (sym (append-nil (write_line l.a l.b l.c l.d))); number = refl }
