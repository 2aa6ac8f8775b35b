-- How a ration is carried along the chain that a search found, from its end back to slot x, each slot from one with a smaller number.
-- Assumes nothing.
use Rattle.std.specs.Prelude.{◌≡◌, refl, ◌≢◌, Bool, true, false, List, ℕ, ◌+◌, ◌≤◌, ◌<◌, replicate}
use Rattle.std.proofs.Common.{ap, ◌∙◌, not-suc-le-zero, arith, below_more}
use Rattle.std.specs.Int.Bits.{bit_and}
use Rattle.std.proofs.lemmas.List.{length-replicate}
use Rattle.common.specs.Bits.{bit, some_bit, both_of_and, and_of_both}
use Rattle.grid.specs.Grid.{slots, at, Seen, Edge, Closed, Move, Path, stay, more}
use Rattle.grid.specs.MoveLaws.{seen_slot, fed_other, rest_other, move_closed, path_rearranged, path_rests}
use Rattle.grid.specs.MarkLaws.{clash, clash', seen_or_new, same_refl, at_replicate}
use Rattle.grid.specs.Search.{CanShift, CanPush, Pushed, CanSpread, Sought, IsParent, CanParent, Parent, CanCarry, Carried}

-- ---- `parent`: its loop has passed the slots below p

pub record Seeking (F R O : List ℕ) (e p : ℕ) : Type 0 where
  pub within : p ≤ slots
  pub none : (q : ℕ) → q < p → Seen O q → at O q < at O e → bit_and (at F q) (at R e) ≡ 0

pub seeking_start : {F R O : List ℕ} {e : ℕ} → Seeking F R O e 0
seeking_start = record { within = omega arith; none = λ q h. absurd (not-suc-le-zero h) }

pub seeking_next :
    {F R O : List ℕ} {e p : ℕ} {b : Bool} →
    Seeking F R O e p →
    p < slots →
    IsParent b (at F p) (at O p) (at R e) (at O e) →
    b ≡ false →
    Seeking F R O e (p + 1)
seeking_next {F} {R} {O} {e} {p} l h i z =
    record {
      within = omega arith;
      none = below_more (λ (q : ℕ). Seen O q → at O q < at O e → bit_and (at F q) (at R e) ≡ 0) p l.none (i.not z);
    }

pub parent_found :
    {F R O : List ℕ} {e p : ℕ} {b : Bool} →
    p < slots →
    IsParent b (at F p) (at O p) (at R e) (at O e) →
    b ≡ true →
    Parent F R O e p
parent_found h i z = let w = i.is z in record { slot = h; numbered = w.0; before = w.1; edge = w.2 }

-- the loop does not pass them all
pub parent_some : {F R O : List ℕ} {e p q : ℕ} → CanParent F R O e → Seeking F R O e p → slots ≤ p → Parent F R O e q
parent_some {O} c l h =
    let w = c.some in
    absurd (w.3 (l.none w.0 (omega (arith, seen_slot O w.0 c.orders w.1)) w.1 w.2))

-- ---- `carry`: its loop has moved a ration along the chain from y to e

pub record Carrying (F₀ R₀ O F R : List ℕ) (y e : ℕ) : Type 0 where
  pub slot : y < slots
  pub numbered : Seen O y
  pub path : Path F₀ R₀ F R y e
  pub kept : (t : ℕ) → at O t < at O y → (at F t ≡ at F₀ t) × (at R t ≡ at R₀ t)
  pub closed : (Q : List ℕ) → ((t : ℕ) → Seen Q t → at O t ≡ 0) → Closed F₀ R₀ Q → Closed F R Q

-- a slot with a smaller number is another slot
lower_apart : (O : List ℕ) {t u : ℕ} → at O t < at O u → t ≢ u
lower_apart O h i = omega (arith, ap (at O) i)

module _ {F₀ R₀ O : List ℕ} {x e : ℕ} (p : CanCarry F₀ R₀ O x e) where
  pub carrying_start : Carrying F₀ R₀ O F₀ R₀ e e
  carrying_start =
      record {
        slot = p.slot;
        numbered = omega (arith, p.later);
        path = stay p.grid;
        kept = λ t h. (refl, refl);
        closed = λ Q z c. c;
      }

  module _ {F R : List ℕ} {y : ℕ} (l : Carrying F₀ R₀ O F R y e) where
    -- before x there is a slot to come from: its words are as they were, and what rested in y rests there still
    pub carrying_parent : y ≢ x → CanParent F R O y
    carrying_parent n =
        record {
          grid = (path_rearranged l.path).grid;
          orders = p.numbered.orders;
          slot = l.slot;
          some = (w.0, w.1, w.2, edge);
        }
      where
        w : (q : ℕ) × Seen O q × (at O q < at O y) × Edge F₀ R₀ q y
        w = p.numbered.parent y (let h : at O y ≢ 1 = λ i. n (p.numbered.first y i) in omega (arith, l.numbered))

        edge : Edge F R w.0 y
        edge =
            let b = some_bit (bit_and (at F₀ w.0) (at R₀ y)) w.3 in
            let c = both_of_and (at F₀ w.0) (at R₀ y) b.0 b.1 in
            and_of_both (at F w.0) (at R y) b.0
            (ap (λ (v : ℕ). bit v b.0) (l.kept w.0 w.2).0 ∙ c.0)
            (path_rests l.path b.0 c.1)

    pub carrying_shift : {q : ℕ} → Parent F R O y q → CanShift F R q y
    carrying_shift q =
        record {
          grid = (path_rearranged l.path).grid;
          from = q.slot;
          to = l.slot;
          apart = lower_apart O q.before;
          edge = q.edge;
        }

    -- one move more, from a slot with a smaller number
    pub carrying_next : {q : ℕ} {F' R' : List ℕ} → Parent F R O y q → Move F R F' R' q y → Carrying F₀ R₀ O F' R' q e
    carrying_next {q} w m =
        record {
          slot = w.slot;
          numbered = w.numbered;
          path = more l.path (l.kept q w.before).0 (l.kept q w.before).1 m;
          kept =
              λ t h.
              let k = l.kept t (omega (arith, w.before)) in
              let n : t ≢ y = lower_apart O (omega (arith, w.before)) in
              (fed_other m t (lower_apart O h) n ∙ k.0, rest_other m t (lower_apart O h) n ∙ k.1);
          closed =
              λ Q z c.
              move_closed m Q
              (λ t s. (lower_apart O (omega (arith, z t s, w.numbered)), lower_apart O (omega (arith, z t s, l.numbered))))
              (l.closed Q z c);
        }

    -- the chain begins at x
    pub carried : y ≡ x → Carried F₀ R₀ O F R x e
    carried i =
        rw (← i)
        (record {
          path = l.path;
          kept = λ t z. l.kept t (omega (arith, l.numbered));
          closed = l.closed;
        })

-- ---- `push`

module _ {F R H S : List ℕ} {x : ℕ} (p : CanPush F R H S x) where
  pub push_spread : CanSpread F R H S (replicate slots 0) x
  push_spread = record { push = p; orders = length-replicate {A = ℕ} slots 0; blank = at_replicate slots }

  module _ {S' O : List ℕ} {e : ℕ} (s : Sought F R H S S' O x e) where
    pub push_carry : e < slots → CanCarry F R O x e
    push_carry h = record { grid = p.grid; numbered = s.numbered; slot = h; later = (s.found h).0 }

    pub pushed_won : {F' R' : List ℕ} → e < slots → Carried F R O F' R' x e → Pushed true F R H S F' R' S' x
    pushed_won h c =
        record {
          marks = s.marks;
          won =
              λ i.
              record {
                end = e;
                path = c.path;
                inside = h;
                apart = λ j. omega (arith, ap (at O) j, s.numbered.root, (s.found h).0);
                new = s.new e (omega (arith, (s.found h).0));
                room = (s.found h).1;
                kept = λ t q n. c.kept t (old t q);
                closed = λ Q in_S. c.closed Q (λ t q. old t (in_S t q).0);
              };
          same = λ i. clash i;
          lost = λ i. clash i;
        }
      where
        old : (t : ℕ) → Seen S t → at O t ≡ 0
        old t q = seen_or_new O t (λ n. absurd (omega (arith, s.new t n))) (λ z. z)

    pub pushed_lost : slots ≤ e → Pushed false F R H S F R S' x
    pushed_lost h = record { marks = s.marks; won = λ i. clash' i; same = λ i. same_refl; lost = λ i. s.lost h }
