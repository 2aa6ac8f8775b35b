-- What a move, and a chain of moves, does to the words, the loads and the volumes. Assumes nothing.
use Rattle.std.specs.Prelude.{◌≡◌, refl, ◌≢◌, ◌⊎◌, List, ℕ, ◌+◌, ◌-◌, ◌^◌, ◌<◌, length, set}
use Rattle.std.proofs.Common.{sym, ap, ◌∙◌, subst, inl, inr, ⊎_elim, pos_of_ne-zero, arith, eq-eqb, ne_eqb, length-set, get_or-set_same, get_or-set_other, lt-length-set}
use Rattle.std.proofs.Math.Decide.{ℕ_discrete, dec_lt}
use Rattle.std.proofs.Math.ListN.{get_or-eq_default}
use Rattle.std.specs.Int.Count.{ones}
use Rattle.std.specs.Int.Bits.{bit_and, and_zero_r}
use Rattle.grid.specs.Theory.{sum_change}
use Rattle.common.specs.Bits.{bit, bit_lt, bit_le, some_bit, both_of_and, and_of_both, add_same, add_other, sub_same, ones_add, ones_sub}
use Rattle.grid.specs.Grid.{slots, at, load, volume, Seen, Edge, Closed, Grid, Move, Path, stay, more, Rearranged, tick, ind}

-- by cases: t is x, or y, or neither
pub slot_cases : (P : ℕ → Type 0) (x y : ℕ) → P x → P y → ((t : ℕ) → t ≢ x → t ≢ y → P t) → (t : ℕ) → P t
slot_cases P x y p q r t = go (ℕ_discrete t x) (ℕ_discrete t y)
  where
    go : Dec (t ≡ x) → Dec (t ≡ y) → P t
    go (yes e) d = subst P (sym e) p
    go (no n) (yes e) = subst P (sym e) q
    go (no n) (no m) = r t n m

pub ind_same : (x : ℕ) → ind x x ≡ 1
ind_same x = ap tick (eq-eqb x x refl)

pub ind_other : (t x : ℕ) → t ≢ x → ind t x ≡ 0
ind_other t x n = ap tick (ne_eqb t x n)

-- ---- stores

-- two stores to two slots
module _ (l : List ℕ) (x y v w : ℕ) (n : x ≢ y) (hx : x < length l) (hy : y < length l) where
  sets_x : at (set (set l x v) y w) x ≡ v
  sets_x = get_or-set_other (set l x v) y x w 0 n ∙ get_or-set_same l x v 0 hx

  sets_y : at (set (set l x v) y w) y ≡ w
  sets_y = get_or-set_same (set l x v) y w 0 (lt-length-set l x v hy)

sets_other : (l : List ℕ) (x y v w t : ℕ) → t ≢ x → t ≢ y → at (set (set l x v) y w) t ≡ at l t
sets_other l x y v w t n m = get_or-set_other (set l x v) y t w 0 m ∙ get_or-set_other l x t v 0 n

-- a store changes a ration's volume by the one word
pub volume_set : (F : List ℕ) (i v k : ℕ) → length F ≡ slots → i < slots → volume (set F i v) k + bit (at F i) k ≡ volume F k + bit v k
unfolding volume
volume_set F i v k e l =
    rw (get_or-set_same F i v 0 (omega arith)) at
    (sum_change slots (λ t. bit (at (set F i v) t) k) (λ t. bit (at F t) k) i l
    (λ t h n. ap (λ (w : ℕ). bit w k) (get_or-set_other F i t v 0 n)))

-- ---- a bit set, and a bit cleared, at every bit

pub add_bits : (w j k : ℕ) → bit w j ≡ 0 → bit (w + 2 ^ j) k ≡ bit w k + ind k j
add_bits w j k e = go (ℕ_discrete k j)
  where
    go : Dec (k ≡ j) → bit (w + 2 ^ j) k ≡ bit w k + ind k j
    go (yes q) =
        subst (λ (k : ℕ). bit (w + 2 ^ j) k ≡ bit w k + ind k j) (sym q) (omega (arith, add_same w j e, ind_same j))
    go (no n) = omega (arith, add_other w j k e n, ind_other k j n)

pub sub_bits : (w j k : ℕ) → bit w j ≡ 1 → bit (w - 2 ^ j) k + ind k j ≡ bit w k
sub_bits w j k e =
    let b : w - 2 ^ j + 2 ^ j ≡ w = omega (arith, bit_le w j e) in
    sym (add_bits (w - 2 ^ j) j k (sub_same w j e)) ∙ ap (λ (v : ℕ). bit v k) b

-- a list has nothing past the grid
pub seen_slot : (L : List ℕ) (t : ℕ) → length L ≡ slots → 0 < at L t → t < slots
seen_slot L t e h = go (dec_lt t slots)
  where
    go : Dec (t < slots) → t < slots
    go (yes l) = l
    go (no l) = let z : at L t ≡ 0 = get_or-eq_default L 0 (omega arith) in absurd (omega arith)

-- an edge ends in a slot of the grid
pub edge_below : {F R : List ℕ} (x y : ℕ) → Grid F R → Edge F R x y → y < slots
edge_below {F} {R} x y g e =
    seen_slot R y g.rest (pos_of_ne-zero (λ z. e (rw z (and_zero_r (at F x)))))

-- ---- a move

module _ {F R F' R' : List ℕ} {x y : ℕ} (m : Move F R F' R' x y) where
  lacks : bit (at R x) m.j ≡ 0
  lacks = omega (arith, m.grid.disjoint x m.j, m.has)

  empty : bit (at F y) m.j ≡ 0
  empty = omega (arith, m.grid.disjoint y m.j, m.wants)

  fed_x : at F' x ≡ at F x - 2 ^ m.j
  fed_x = ap (λ (l : List ℕ). at l x) m.fed ∙ sets_x F x y _ _ m.apart (omega (arith, m.from, m.grid.fed)) (omega (arith, m.to, m.grid.fed))

  fed_y : at F' y ≡ at F y + 2 ^ m.j
  fed_y = ap (λ (l : List ℕ). at l y) m.fed ∙ sets_y F x y _ _ m.apart (omega (arith, m.from, m.grid.fed)) (omega (arith, m.to, m.grid.fed))

  pub fed_other : (t : ℕ) → t ≢ x → t ≢ y → at F' t ≡ at F t
  fed_other t p q = ap (λ (l : List ℕ). at l t) m.fed ∙ sets_other F x y _ _ t p q

  rest_x : at R' x ≡ at R x + 2 ^ m.j
  rest_x = ap (λ (l : List ℕ). at l x) m.rest ∙ sets_x R x y _ _ m.apart (omega (arith, m.from, m.grid.rest)) (omega (arith, m.to, m.grid.rest))

  rest_y : at R' y ≡ at R y - 2 ^ m.j
  rest_y = ap (λ (l : List ℕ). at l y) m.rest ∙ sets_y R x y _ _ m.apart (omega (arith, m.from, m.grid.rest)) (omega (arith, m.to, m.grid.rest))

  pub rest_other : (t : ℕ) → t ≢ x → t ≢ y → at R' t ≡ at R t
  rest_other t p q = ap (λ (l : List ℕ). at l t) m.rest ∙ sets_other R x y _ _ t p q

  move_bits : (k t : ℕ) → bit (at F' t) k + bit (at R' t) k ≡ bit (at F t) k + bit (at R t) k
  move_bits k =
      slot_cases (λ (t : ℕ). bit (at F' t) k + bit (at R' t) k ≡ bit (at F t) k + bit (at R t) k) x y
      (rw (fed_x, rest_x) (omega (arith, sub_bits (at F x) m.j k m.has, add_bits (at R x) m.j k lacks)))
      (rw (fed_y, rest_y) (omega (arith, sub_bits (at R y) m.j k m.wants, add_bits (at F y) m.j k empty)))
      (λ t p q. rw (fed_other t p q, rest_other t p q) refl)

  move_words : (t : ℕ) → at F' t + at R' t ≡ at F t + at R t
  move_words =
      slot_cases (λ (t : ℕ). at F' t + at R' t ≡ at F t + at R t) x y
      (omega (arith, fed_x, rest_x, bit_le (at F x) m.j m.has))
      (omega (arith, fed_y, rest_y, bit_le (at R y) m.j m.wants))
      (λ t p q. omega (arith, fed_other t p q, rest_other t p q))

  move_volume : (k : ℕ) → volume F' k ≡ volume F k
  move_volume k =
      let v = at F x - 2 ^ m.j in
      let w = at F y + 2 ^ m.j in
      let o : at (set F x v) y ≡ at F y = get_or-set_other F x y v 0 (λ e. m.apart (sym e)) in
      omega (
        arith,
        ap (λ (l : List ℕ). volume l k) m.fed,
        volume_set (set F x v) y w k (length-set F x v ∙ m.grid.fed) m.to,
        ap (λ (w : ℕ). bit w k) o,
        volume_set F x v k m.grid.fed m.from,
        sub_bits (at F x) m.j k m.has,
        add_bits (at F y) m.j k empty,
      )

  pub move_rearranged : Rearranged F R F' R'
  move_rearranged =
      record {
        grid =
            record {
              fed = ap length m.fed ∙ (simp length-set) ∙ m.grid.fed;
              rest = ap length m.rest ∙ (simp length-set) ∙ m.grid.rest;
              disjoint = λ t k. omega (arith, move_bits k t, m.grid.disjoint t k);
            };
        words = move_words;
        bits = move_bits;
        volumes = move_volume;
      }

  -- x feeds one ration less, and y one more
  pub move_load : (t : ℕ) → load F' t + ind t x ≡ load F t + ind t y
  move_load =
      slot_cases (λ (t : ℕ). load F' t + ind t x ≡ load F t + ind t y) x y
      (omega (arith, ap ones fed_x, ones_sub (at F x) m.j m.has, ind_same x, ind_other x y m.apart))
      (omega (arith, ap ones fed_y, ones_add (at F y) m.j empty, ind_same y, ind_other y x (λ e. m.apart (sym e))))
      (λ t p q. omega (arith, ap ones (fed_other t p q), ind_other t x p, ind_other t y q))

  -- what rests in x still rests there
  pub move_rests : (k : ℕ) → bit (at R x) k ≡ 1 → bit (at R' x) k ≡ 1
  move_rests k e = rw rest_x (omega (arith, add_bits (at R x) m.j k lacks, bit_lt (at R x + 2 ^ m.j) k))

  -- a closed set that has neither end stays closed
  pub move_closed : (Q : List ℕ) → ((t : ℕ) → Seen Q t → (t ≢ x) × (t ≢ y)) → Closed F R Q → Closed F' R' Q
  move_closed Q out c t z s e =
      let w = some_bit (bit_and (at F' t) (at R' z)) e in
      let b = both_of_and (at F' t) (at R' z) w.0 w.1 in
      let f : bit (at F t) w.0 ≡ 1 = rw (← fed_other t (out t s).0 (out t s).1) b.0 in
      let old : (u : ℕ) → bit (at R u) w.0 ≡ 1 → Seen Q u = λ u r. c t u s (and_of_both (at F t) (at R u) w.0 f r) in
      slot_cases (λ (z : ℕ). bit (at R' z) w.0 ≡ 1 → Seen Q z) x y
      (λ r. at_x w.0 (ℕ_discrete w.0 m.j) (old x) (old y) (rw rest_x at r))
      (λ r. old y (at_y w.0 (rw rest_y at r)))
      (λ u p q r. old u (rw (rest_other u p q) at r))
      z b.1
    where
      at_x : (k : ℕ) → Dec (k ≡ m.j) → (bit (at R x) k ≡ 1 → Seen Q x) → (bit (at R y) k ≡ 1 → Seen Q y) → bit (at R x + 2 ^ m.j) k ≡ 1 → Seen Q x
      at_x k (yes i) f g r = absurd ((out y (g (ap (bit (at R y)) i ∙ m.wants))).1 refl)
      at_x k (no i) f g r = f (omega (arith, add_bits (at R x) m.j k lacks, ind_other k m.j i))

      at_y : (k : ℕ) → bit (at R y - 2 ^ m.j) k ≡ 1 → bit (at R y) k ≡ 1
      at_y k r = omega (arith, sub_bits (at R y) m.j k m.wants, bit_lt (at R y) k)

  -- what is fed in a slot now was fed there before, or in x
  pub move_fed : (k t : ℕ) → bit (at F' t) k ≡ 1 → (bit (at F t) k ≡ 1) ⊎ (bit (at F x) k ≡ 1)
  move_fed k =
      slot_cases (λ (t : ℕ). bit (at F' t) k ≡ 1 → (bit (at F t) k ≡ 1) ⊎ (bit (at F x) k ≡ 1)) x y
      (λ f. inl (omega (arith, ap (λ (w : ℕ). bit w k) fed_x, sub_bits (at F x) m.j k m.has, bit_lt (at F x) k)))
      (λ f. at_y (ℕ_discrete k m.j) (rw fed_y at f))
      (λ t p q f. inl (rw (fed_other t p q) at f))
    where
      at_y : Dec (k ≡ m.j) → bit (at F y + 2 ^ m.j) k ≡ 1 → (bit (at F y) k ≡ 1) ⊎ (bit (at F x) k ≡ 1)
      at_y (yes i) f = inr (ap (bit (at F x)) i ∙ m.has)
      at_y (no i) f = inl (omega (arith, add_bits (at F y) m.j k empty, ind_other k m.j i))

  -- a closed set that has both ends stays closed
  pub move_inside : (Q : List ℕ) → Seen Q x → Seen Q y → Closed F R Q → Closed F' R' Q
  move_inside Q qx qy c t z s e =
      let w = some_bit (bit_and (at F' t) (at R' z)) e in
      let k = w.0 in
      let b = both_of_and (at F' t) (at R' z) k w.1 in
      slot_cases (λ (z : ℕ). bit (at R' z) k ≡ 1 → Seen Q z) x y (λ r. qx) (λ r. qy)
      (λ u p q r.
      let r = rw (rest_other u p q) at r in
      ⊎_elim (λ f. c t u s (and_of_both (at F t) (at R u) k f r)) (λ f. c x u qx (and_of_both (at F x) (at R u) k f r)) (move_fed k t b.0))
      z b.1

-- ---- a chain of moves

pub rearranged_none : {F R : List ℕ} → Grid F R → Rearranged F R F R
rearranged_none g = record { grid = g; words = λ t. refl; bits = λ k t. refl; volumes = λ k. refl }

pub rearranged_trans : {F R F₁ R₁ F' R' : List ℕ} → Rearranged F R F₁ R₁ → Rearranged F₁ R₁ F' R' → Rearranged F R F' R'
rearranged_trans p q =
    record {
      grid = q.grid;
      words = λ t. q.words t ∙ p.words t;
      bits = λ k t. q.bits k t ∙ p.bits k t;
      volumes = λ k. q.volumes k ∙ p.volumes k;
    }

pub path_rearranged : {F R F' R' : List ℕ} {x e : ℕ} → Path F R F' R' x e → Rearranged F R F' R'
path_rearranged (stay g) = rearranged_none g
path_rearranged (more p f r m) = rearranged_trans (path_rearranged p) (move_rearranged m)

-- x feeds one ration less, the chain's end one more, and every other slot as many as before
pub path_load : {F R F' R' : List ℕ} {x e : ℕ} → Path F R F' R' x e → (t : ℕ) → load F' t + ind t x ≡ load F t + ind t e
path_load (stay g) t = refl
path_load (more p f r m) t = omega (arith, move_load m t, path_load p t)

-- what rests in x still rests there
pub path_rests : {F R F' R' : List ℕ} {x e : ℕ} → Path F R F' R' x e → (k : ℕ) → bit (at R x) k ≡ 1 → bit (at R' x) k ≡ 1
path_rests (stay g) k h = h
path_rests (more p f r m) k h = move_rests m k (ap (λ (w : ℕ). bit w k) r ∙ h)
