-- The front of a search that spreads from slot x: what is known of the slots that it has marked and numbered, what one more mark adds, and that
-- where it can't go on it has failed. Assumes nothing.
use Rattle.std.specs.Prelude.{◌≡◌, ◌≢◌, ◌⊎◌, List, ℕ, ◌+◌, ◌≤◌, ◌<◌, length, set}
use Rattle.std.proofs.Common.{◌∙◌, inr, arith, length-set, get_or-set_same, get_or-set_other}
use Rattle.std.proofs.Math.Decide.{dec_lt}
use Rattle.std.specs.Int.Bits.{bit_and, bit_or}
use Rattle.common.specs.Bits.{bit, bit_lt, bit_or_lem, some_bit, both_of_and, and_of_both}
use Rattle.grid.specs.Grid.{slots, at, load, Seen, Edge, Reach, here, step, Grid}
use Rattle.grid.specs.MoveLaws.{edge_below}
use Rattle.grid.specs.MarkLaws.{unmarked_set, seen_or_new, seen_apart, set_cases}
use Rattle.grid.specs.Search.{Lost, unmarked, Touched, Spread, none, more, Numbered}

-- one edge more at the end
reach_snoc : {F R : List ℕ} {x t : ℕ} (u : ℕ) → Reach F R x t → Edge F R t u → Reach F R x u
reach_snoc u (here {x}) e = step {x = x} {y = u} e here
reach_snoc u (step {x = x} {y = y} d r) e = step {x = x} {y = y} d (reach_snoc u r e)

-- the slots numbered in O are those marked since S₀, and all of them are reached from x
pub record Tree (F R S₀ : List ℕ) (x : ℕ) (S O : List ℕ) (n : ℕ) : Type 0 where
  pub marks : length S ≡ slots
  pub numbered : Numbered F R O x
  pub numbers : n + unmarked S ≤ slots
  pub last : (t : ℕ) → at O t ≤ n
  pub grow : (t : ℕ) → Seen S₀ t → Seen S t
  pub new : (t : ℕ) → Seen O t → at S₀ t ≡ 0
  pub marked : (t : ℕ) → Seen O t → Seen S t
  pub listed : (t : ℕ) → Seen S t → at S₀ t ≡ 0 → Seen O t
  pub reach : (t : ℕ) → Seen O t → Reach F R x t

-- w has a ration exactly where a numbered slot feeds it, and every numbered slot but x is full
pub record Front (F R H S₀ : List ℕ) (x : ℕ) (S O : List ℕ) (w n : ℕ) : Type 0 where
  pub tree : Tree F R S₀ x S O n
  pub sound : (k : ℕ) → bit w k ≡ 1 → (p : ℕ) × Seen O p × (bit (at F p) k ≡ 1)
  pub complete : (p k : ℕ) → Seen O p → bit (at F p) k ≡ 1 → bit w k ≡ 1
  pub full : (t : ℕ) → Seen O t → (t ≡ x) ⊎ (at H t ≤ load F t)

-- ---- a slot is marked

module _ {F R H S₀ : List ℕ} {x : ℕ} {S O : List ℕ} {w n y : ℕ} (f : Front F R H S₀ x S O w n) (t : Touched R S w y) where
  -- y was not numbered, and not marked before
  unnumbered : at O y ≡ 0
  unnumbered = seen_or_new O y (λ q. absurd (omega (arith, f.tree.marked y q, t.new))) (λ e. e)

  was_new : at S₀ y ≡ 0
  was_new = seen_or_new S₀ y (λ q. absurd (omega (arith, f.tree.grow y q, t.new))) (λ e. e)

  -- a ration that rests in y is fed in a numbered slot
  from : (p : ℕ) × Seen O p × Edge F R p y
  from =
      let b = some_bit (bit_and w (at R y)) t.edge in
      let c = both_of_and w (at R y) b.0 b.1 in
      let s = f.sound b.0 c.0 in
      (s.0, s.1, and_of_both (at F s.0) (at R y) b.0 s.2 c.1)

  -- what holds of y with its mark and number, and of every other slot as it was, holds of all
  mark_cases :
      (P : ℕ → ℕ → ℕ → Type 0) →
      P y 1 (n + 1) →
      ((u : ℕ) → u ≢ y → P u (at S u) (at O u)) →
      (u : ℕ) →
      P u (at (set S y 1) u) (at (set O y (n + 1)) u)
  mark_cases = set_cases S O y 1 (n + 1) f.tree.marks f.tree.numbered.orders t.slot

  other_number : (u : ℕ) → Seen O u → at (set O y (n + 1)) u ≡ at O u
  other_number u q = get_or-set_other O y u (n + 1) 0 (seen_apart O q unnumbered)

  still_numbered : (u : ℕ) → Seen O u → Seen (set O y (n + 1)) u
  still_numbered u q = rw (other_number u q) q

  pub y_number : at (set O y (n + 1)) y ≡ n + 1
  y_number = get_or-set_same O y (n + 1) 0 (omega (arith, f.tree.numbered.orders, t.slot))

  pub some_number : 1 ≤ n
  some_number = omega (arith, f.tree.numbered.root, f.tree.last x)

  pub mark_tree : Tree F R S₀ x (set S y 1) (set O y (n + 1)) (n + 1)
  mark_tree =
      let r = f.tree in
      record {
        marks = length-set S y 1 ∙ r.marks;
        numbered =
            record {
              orders = length-set O y (n + 1) ∙ r.numbered.orders;
              root = other_number x (omega (arith, r.numbered.root)) ∙ r.numbered.root;
              first =
                  mark_cases (λ u a b. b ≡ 1 → u ≡ x) (λ e. absurd (omega (arith, some_number))) (λ u m. r.numbered.first u);
              parent =
                  mark_cases
                  (λ u a b. 1 < b → (p : ℕ) × Seen (set O y (n + 1)) p × (at (set O y (n + 1)) p < b) × Edge F R p u)
                  (λ h. (from.0, still_numbered from.0 from.1, omega (arith, other_number from.0 from.1, r.last from.0), from.2))
                  (λ u m h.
                  let p = r.numbered.parent u h in
                  (p.0, still_numbered p.0 p.1, omega (arith, other_number p.0 p.1, p.2), p.3));
            };
        numbers = omega (arith, unmarked_set S y (omega (arith, r.marks, t.slot)) t.new, r.numbers);
        last = mark_cases (λ u a b. b ≤ n + 1) (omega arith) (λ u m. omega (arith, r.last u));
        grow = mark_cases (λ u a b. Seen S₀ u → 0 < a) (λ q. omega arith) (λ u m. r.grow u);
        new = mark_cases (λ u a b. 0 < b → at S₀ u ≡ 0) (λ q. was_new) (λ u m. r.new u);
        marked = mark_cases (λ u a b. 0 < b → 0 < a) (λ q. omega arith) (λ u m. r.marked u);
        listed = mark_cases (λ u a b. 0 < a → at S₀ u ≡ 0 → 0 < b) (λ q e. omega arith) (λ u m. r.listed u);
        reach =
            mark_cases (λ u a b. 0 < b → Reach F R x u) (λ q. reach_snoc y (r.reach from.0 from.1) from.2) (λ u m. r.reach u);
      }

  -- y is full
  mark_front : at H y ≤ load F y → Front F R H S₀ x (set S y 1) (set O y (n + 1)) (bit_or w (at F y)) (n + 1)
  mark_front h =
      record {
        tree = mark_tree;
        sound = λ k e. sound k (dec_lt (bit w k) 1) e;
        complete =
            λ p k.
            mark_cases (λ u a b. 0 < b → bit (at F u) k ≡ 1 → bit (bit_or w (at F y)) k ≡ 1)
            (λ q e. omega (arith, bit_or_lem w (at F y) k, bit_lt w k))
            (λ u m q e. omega (arith, bit_or_lem w (at F y) k, f.complete u k q e, bit_lt (at F y) k))
            p;
        full = mark_cases (λ u a b. 0 < b → (u ≡ x) ⊎ (at H u ≤ load F u)) (λ q. inr h) (λ u m. f.full u);
      }
    where
      sound : (k : ℕ) → Dec (bit w k < 1) → bit (bit_or w (at F y)) k ≡ 1 → (p : ℕ) × Seen (set O y (n + 1)) p × (bit (at F p) k ≡ 1)
      sound k (yes z) e =
          (y, omega (arith, y_number), omega (arith, bit_or_lem w (at F y) k, bit_lt (at F y) k))
      sound k (no z) e =
          let s = f.sound k (omega (arith, bit_lt w k)) in (s.0, still_numbered s.0 s.1, s.2)

-- any number of marks
pub front_spread :
    {F R H S₀ : List ℕ} {x : ℕ} {S O : List ℕ} {w n : ℕ} {S' O' : List ℕ} {w' n' : ℕ} →
    Front F R H S₀ x S O w n →
    Spread F R H S O w n S' O' w' n' →
    Front F R H S₀ x S' O' w' n'
front_spread f none = f
front_spread f (more s t h) = mark_front (front_spread f s) t h

-- no ration that is fed in a numbered slot rests in one that is not marked: the search failed
pub front_lost :
    {F R H S₀ : List ℕ} {x : ℕ} {S O : List ℕ} {w n : ℕ} →
    Grid F R →
    Front F R H S₀ x S O w n →
    ((z : ℕ) → z < slots → at S z ≡ 0 → bit_and w (at R z) ≡ 0) →
    Lost F R H S₀ S x
front_lost {F} {R} {S} {O} {w} g f quiet =
    let r = f.tree in
    record {
      grow = r.grow;
      mark = r.marked _ (omega (arith, r.numbered.root));
      full = λ t q n. f.full t (r.listed t q n);
      closed = λ t z q n e. seen_or_new S z (λ s. s) (λ s. absurd (closed t z (r.listed t q n) e s));
      reach = λ t q n. r.reach t (r.listed t q n);
    }
  where
    closed : (t z : ℕ) → Seen O t → Edge F R t z → at S z ≡ 0 → ⊥
    closed t z q e s =
        let b = some_bit (bit_and (at F t) (at R z)) e in
        let c = both_of_and (at F t) (at R z) b.0 b.1 in
        and_of_both w (at R z) b.0 (f.complete t b.0 q c.0) c.1 (quiet z (edge_below t z g e) s)
