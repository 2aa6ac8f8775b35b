-- One move straight to a slot with room, which is a search's shortest chain; and sets that have both ends of a move. Assumes nothing.
use Rattle.std.specs.Prelude.{◌≡◌, refl, ◌≢◌, true, List, ℕ, ◌<◌}
use Rattle.std.proofs.Common.{sym, ap, arith}
use Rattle.common.specs.Bits.{bit, some_bit, both_of_and}
use Rattle.grid.specs.Grid.{slots, at, load, Edge, Grid, Move, stay, more}
use Rattle.grid.specs.MoveLaws.{fed_other, rest_other, move_closed}
use Rattle.grid.specs.MarkLaws.{clash, seen_apart}
use Rattle.grid.specs.Search.{CanShift, Straight, Won, CanPush, Pushed}

-- no slot has an edge to itself
edge_apart : {F R : List ℕ} {x y : ℕ} → Grid F R → Edge F R x y → x ≢ y
edge_apart {F} {R} {x} {y} g e i =
    let w = some_bit _ e in
    let b = both_of_and (at F x) (at R y) w.0 w.1 in
    omega (arith, b.0, b.1, g.disjoint y w.0, ap (λ (t : ℕ). bit (at F t) w.0) i)

pub straight_shift : {F R H S : List ℕ} {x y : ℕ} → CanPush F R H S x → Straight F R H S x y → y < slots → CanShift F R x y
straight_shift p s l =
    record { grid = p.grid; from = p.from; to = l; apart = edge_apart p.grid (s.edge l); edge = s.edge l }

-- one move to a slot with room that is not marked is a chain
pub move_won : {F R H S F' R' : List ℕ} {x y : ℕ} → Move F R F' R' x y → at S y ≡ 0 → load F y < at H y → Won F R H S F' R' x
move_won {S} {x} {y} m new room =
    record {
      end = y;
      path = more (stay m.grid) refl refl m;
      inside = m.to;
      apart = λ i. m.apart (sym i);
      new = new;
      room = room;
      kept = λ t s h. (fed_other m t h (seen_apart S s new), rest_other m t h (seen_apart S s new));
      closed = λ Q in_S. move_closed m Q (λ t s. ((in_S t s).1, seen_apart S (in_S t s).0 new));
    }

pub pushed_straight :
    {F R H S F' R' : List ℕ} {x y : ℕ} → CanPush F R H S x → Straight F R H S x y → y < slots → Move F R F' R' x y → Pushed true F R H S F' R' S x
pushed_straight p s l m =
    record { marks = p.marks; won = λ i. move_won m (s.new l) (s.room l); same = λ i. clash i; lost = λ i. clash i }
