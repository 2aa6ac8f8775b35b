-- A ration that an edge from x to y shows, and the move of it. Assumes nothing.
use Rattle.std.specs.Prelude.{◌≡◌, ◌≢◌, List, ℕ, ◌+◌, ◌-◌, ◌^◌, set}
use Rattle.std.proofs.Common.{sym, ap, ◌∙◌, arith, get_or-set_other}
use Rattle.std.specs.Int.Bits.{bit_and}
use Rattle.common.specs.Bits.{bit, both_of_and}
use Rattle.grid.specs.Grid.{at, Grid, Move}
use Rattle.grid.specs.Search.{CanShift}

-- ration j is fed in x and rests in y, so it does not rest in x and is not fed in y
pub record Ration (F R : List ℕ) (x y j : ℕ) : Type 0 where
  pub has : bit (at F x) j ≡ 1
  pub lacks : bit (at R x) j ≡ 0
  pub wants : bit (at R y) j ≡ 1
  pub empty : bit (at F y) j ≡ 0

pub edge_ration : (F R : List ℕ) (x y j : ℕ) → Grid F R → bit (bit_and (at F x) (at R y)) j ≡ 1 → Ration F R x y j
edge_ration F R x y j g e =
    let b = both_of_and (at F x) (at R y) j e in
    record {
      has = b.0;
      lacks = omega (arith, g.disjoint x j);
      wants = b.1;
      empty = omega (arith, g.disjoint y j);
    }

pub ration_move :
    {F R : List ℕ} {x y j a b c d : ℕ} →
    CanShift F R x y →
    Ration F R x y j →
    a ≡ at F x - 2 ^ j →
    b ≡ at F y + 2 ^ j →
    c ≡ at R x + 2 ^ j →
    d ≡ at R y - 2 ^ j →
    Move F R (set (set F x a) y b) (set (set R x c) y d) x y
ration_move {j} s r ea eb ec ed =
    record {
      j = j;
      grid = s.grid;
      from = s.from;
      to = s.to;
      apart = s.apart;
      has = r.has;
      wants = r.wants;
      fed = cc;
      rest = cc;
    }

-- a word that is stored for slot x leaves that of another slot
still : (L : List ℕ) {x y : ℕ} (v : ℕ) → x ≢ y → at (set L x v) y ≡ at L y
still L {x} {y} v n = get_or-set_other L x y v 0 (λ e. n (sym e))

pub still_bit : (L : List ℕ) {x y : ℕ} (v j : ℕ) {b : ℕ} → x ≢ y → bit (at L y) j ≡ b → bit (at (set L x v) y) j ≡ b
still_bit L v j n e = ap (λ (w : ℕ). bit w j) (still L v n) ∙ e

-- the same of words that are stored one after another: those of slot y are read when those of x are stored
pub ration_moved :
    {F R : List ℕ} {x y j a b c d : ℕ} →
    CanShift F R x y →
    Ration F R x y j →
    a ≡ at F x - 2 ^ j →
    b ≡ at (set F x a) y + 2 ^ j →
    c ≡ at R x + 2 ^ j →
    d ≡ at (set R x c) y - 2 ^ j →
    Move F R (set (set F x a) y b) (set (set R x c) y d) x y
ration_moved {F} {R} {j = j} {a} {c = c} s r ea eb ec ed =
    ration_move s r ea (eb ∙ ap (λ (w : ℕ). w + 2 ^ j) (still F a s.apart)) ec (ed ∙ ap (λ (w : ℕ). w - 2 ^ j) (still R c s.apart))
