-- How the stretch lines are put: one stretch more, one blower more. Assumes nothing.
use Rattle.std.specs.Prelude.{◌≡◌, refl, List, [], ◌∷◌, ◌++◌, map, ℕ, suc, ◌+◌, ◌-◌, ◌*◌, ◌≤◌, ◌<◌, length}
use Rattle.std.proofs.Common.{sym, ap, ◌∙◌, arith}
use Rattle.common.specs.Lists.{range, flat_map}
use Rattle.line.specs.Layout.{line_bytes}
use Rattle.checks.specs.Limits.{max_blowers}
use Rattle.line.specs.Line.{write_line}
use Rattle.common.specs.Buffers.{put_at}
use Rattle.method.specs.Intervals.{Interval, intervals}
use Rattle.energy.specs.Listed.{ListedStretch}
use Rattle.energy.specs.Energy.{listed, listed_for}
use Rattle.plan_lines.specs.Lines.{Line, line, stretch_line, blower_lines, stretch_lines}
use Rattle.plan_lines.specs.Putting.{Put, Putting, Room, putting_begin, putting_more, putting_room, putting_end, put_one}

-- One blower -----------------------------------------------------------------------

-- the line of a listed stretch
abbrev pub line_of : ListedStretch → Line
line_of s = line s.blower s.first s.last s.state

lines_listed : (d q k : ℕ) (vs : List Interval) → map (stretch_line d q k) vs ≡ map line_of (map (listed d q k) vs)
unfolding stretch_line listed
lines_listed d q k [] = refl
lines_listed d q k (v ∷ vs) = ap (λ ls. stretch_line d q k v ∷ ls) (lines_listed d q k vs)

-- of blower k's stretches those before `rest` were put
pub record BlowerPut (q : ℕ) (counts : List ℕ) (k at : ℕ) (old new : List ℕ) (n : ℕ) (rest : List ListedStretch) : Type 0 where
  pub putting : Putting (blower_lines q counts k) (map line_of rest) at old new n

module _ {q : ℕ} {counts : List ℕ} {k at : ℕ} {old : List ℕ} (room : Room (blower_lines q counts k) at old) where
  pub blower_begin : {rest : List ListedStretch} → rest ≡ listed_for q counts k → BlowerPut q counts k at old old 0 rest
  unfolding blower_lines listed_for
  blower_begin e =
      record { putting = putting_begin at old _ room _ (lines_listed (length counts) q k (intervals counts k) ∙ ap (map line_of) (sym e)) }

  module _ {new : List ℕ} {n : ℕ} {rest : List ListedStretch} (p : BlowerPut q counts k at old new n rest) where
    module _ {s : ListedStretch} {rest' : List ListedStretch} (e : rest ≡ s ∷ rest') where
      pub blower_room : (at + line_bytes * n) + line_bytes ≤ length new
      blower_room = omega (arith, putting_room at old _ room (line_of s ∷ []) (map line_of rest') p.putting (ap (map line_of) e))

      pub blower_more : {x : ℕ} {new' : List ℕ} → x ≡ s.state → new' ≡ put_at (at + line_bytes * n) (write_line s.blower s.first s.last x) new
          → BlowerPut q counts k at old new' (n + 1) rest'
      blower_more {x} {new'} h f =
          record {
            putting = putting_more at old _ room (line_of s ∷ []) _ 1 p.putting (ap (map line_of) e)
                (put_one (line_of s) (at + line_bytes * n) new new' (f ∙ ap (λ y. put_at (at + line_bytes * n) (write_line s.blower s.first s.last y) new) h));
          }

    pub blower_end : rest ≡ [] → Put (blower_lines q counts k) at old new n
    blower_end e = putting_end at old _ room p.putting (ap (map line_of) e)

-- All blowers ----------------------------------------------------------------------

pub record CanPutStretches (out : List ℕ) (at m q : ℕ) (counts : List ℕ) : Type 0 where
  pub few : m ≤ max_blowers
  pub room : Room (stretch_lines m q counts) at out

-- the stretches of the blowers before b were put
pub record StretchesPut (q : ℕ) (counts : List ℕ) (m b at : ℕ) (old new : List ℕ) (n : ℕ) : Type 0 where
  pub putting : Putting (stretch_lines m q counts) (flat_map (blower_lines q counts) (range b (m + 1 - b))) at old new n

module _ {q : ℕ} {counts : List ℕ} {m at : ℕ} {old : List ℕ} (can : CanPutStretches old at m q counts) where
  pub stretches_begin : StretchesPut q counts m 1 at old old 0
  unfolding stretch_lines
  stretches_begin =
      record { putting = putting_begin at old _ can.room _ (ap (λ n. flat_map (blower_lines q counts) (range 1 n)) (all m)) }
    where
      all : (n : ℕ) → n ≡ n + 1 - 1
      all n = omega arith

  module _ {b n : ℕ} {new : List ℕ} (p : StretchesPut q counts m b at old new n) where
    -- the lines of one blower more, and the others
    next : b ≤ m
        → flat_map (blower_lines q counts) (range b (m + 1 - b))
        ≡ blower_lines q counts b ++ flat_map (blower_lines q counts) (range (b + 1) (m + 1 - (b + 1)))
    next h =
        ap (λ k. flat_map (blower_lines q counts) (range b k)) left
        ∙ ap (λ c. blower_lines q counts b ++ flat_map (blower_lines q counts) (range c (m + 1 - (b + 1)))) (after b)
      where
        left : m + 1 - b ≡ suc (m + 1 - (b + 1))
        left = omega arith

        after : (n : ℕ) → suc n ≡ n + 1
        after n = omega arith

    pub stretches_room : b ≤ m → Room (blower_lines q counts b) (at + line_bytes * n) new
    stretches_room h = putting_room at old _ can.room (blower_lines q counts b) _ p.putting (next h)

    pub stretches_more : {r : ℕ} {new' : List ℕ} → b ≤ m → Put (blower_lines q counts b) (at + line_bytes * n) new new' r
        → StretchesPut q counts m (b + 1) at old new' (n + r)
    stretches_more {r} h s = record { putting = putting_more at old _ can.room _ _ r p.putting (next h) s }

    pub stretches_end : m < b → Put (stretch_lines m q counts) at old new n
    stretches_end h = putting_end at old _ can.room p.putting (ap (λ k. flat_map (blower_lines q counts) (range b k)) none)
      where
        none : m + 1 - b ≡ 0
        none = omega arith
