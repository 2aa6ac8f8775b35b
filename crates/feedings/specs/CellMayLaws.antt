-- The word of the rations that may be fed in a slot: how it is made, what keeps it true, and why no other ration can be fed there. Assumes nothing.
use Rattle.std.specs.Prelude.{◌≡◌, refl, ◌≢◌, Bool, false, List, ℕ, ◌+◌, ◌-◌, ◌^◌, ◌≤◌, ◌<◌, length, set, replicate}
use Rattle.std.proofs.Common.{sym, ap, ◌∙◌, ⊎_elim, not-suc-le-zero, arith, below_more, get_or-set_other}
use Rattle.std.proofs.lemmas.Bool.{false≢true}
use Rattle.std.specs.Int.Bits.{bit_and, bit_or}
use Rattle.theory.specs.Sums.{sum_pos}
use Rattle.theory.specs.Placing.{count, Placing}
use Rattle.common.specs.Bits.{bit, bit_lt, bit_or_lem, some_bit, both_of_and, and_of_both}
use Rattle.grid.specs.Grid.{slots, at, volume, Seen, Edge, Closed, Grid, Move}
use Rattle.grid.specs.Search.{CanShift}
use Rattle.grid.specs.MoveLaws.{ind_same, ind_other, seen_slot, move_fed, move_inside}
use Rattle.grid.specs.StraightLaws.{move_won}
use Rattle.feedings.specs.CellChoice.{one_less, Exactly, CanFeed, CanAsk, CanReplace, Answered, MayFeed, AddMarked, FedMarked, Swapped, Around}
use Rattle.feedings.specs.CellWordLaws.{at_zeros, out_bit_le}
use Rattle.feedings.specs.CellSearchLaws.{grid₁, load₁, old_rests, more_rests, apart, around_all, won_answer, closed_none}

-- `fed_marked` ----------------------------------------------------------------

-- after u slots
pub record Marking (w : ℕ) (F S : List ℕ) (u : ℕ) : Type 0 where
  pub within : u ≤ slots
  pub covers : (v : ℕ) → v < u → Seen S v → (k : ℕ) → bit (at F v) k ≡ 1 → bit w k ≡ 1

pub marking_start : {F S : List ℕ} → Marking 0 F S 0
marking_start = record { within = omega arith; covers = λ v l. absurd (not-suc-le-zero l) }

pub marking_next : {w r u : ℕ} {F S : List ℕ} → Marking w F S u → u < slots → AddMarked r w (at F u) (at S u) → Marking r F S (u + 1)
marking_next {w} {r} {u} {F} {S} a l b =
    record {
      within = omega arith;
      covers = below_more (λ (v : ℕ). Seen S v → (k : ℕ) → bit (at F v) k ≡ 1 → bit r k ≡ 1) u (λ v m s k f. b.old k (a.covers v m s k f)) b.new;
    }

-- a marked slot's rations are added; one that is not marked has none to add
pub added_marked : (w f s : ℕ) → AddMarked (bit_or w f) w f s
added_marked w f s =
    record {
      old = λ k e. omega (arith, bit_or_lem w f k, e, bit_lt f k);
      new = λ l k e. omega (arith, bit_or_lem w f k, e, bit_lt w k);
    }

pub added_none : (w f : ℕ) {s : ℕ} → s ≡ 0 → AddMarked w w f s
added_none w f n = record { old = λ k e. e; new = λ l. absurd (omega arith) }

pub marked_all : {w u : ℕ} {F S : List ℕ} → Marking w F S u → slots ≤ u → length S ≡ slots → FedMarked w F S
marked_all {S} a l e = record { covers = λ v k s f. a.covers v (omega (arith, seen_slot S v e s)) s k f }

-- The word of a closed set ----------------------------------------------------

pub may_around : {w t : ℕ} {F R S : List ℕ} → Around t F R S → FedMarked w F S → MayFeed w t F R
may_around {S} a b = record { marks = S; has = a.has; closed = a.closed; covers = b.covers }

-- at the start of a slot: all that is fed somewhere
pub may_start : {w t : ℕ} {F R : List ℕ} → Grid F R → t < slots → FedMarked w F (replicate slots 1) → MayFeed w t F R
may_start g l b = may_around (around_all g l) b

-- a cell out of the words
pub may_fewer : {w t : ℕ} {F R F' R' : List ℕ} → ((k u : ℕ) → bit (at F' u) k ≤ bit (at F u) k) → ((k u : ℕ) → bit (at R' u) k ≤ bit (at R u) k)
    → MayFeed w t F R → MayFeed w t F' R'
may_fewer {w} {t} {F} {R} {F'} {R'} f r m =
    record {
      marks = m.marks;
      has = m.has;
      closed = λ u v s e.
          let i = some_bit (bit_and (at F' u) (at R' v)) e in
          let b = both_of_and (at F' u) (at R' v) i.0 i.1 in
          m.closed u v s (and_of_both (at F u) (at R v) i.0 (omega (arith, f i.0 u, b.0, bit_lt (at F u) i.0)) (omega (arith, r i.0 v, b.1, bit_lt (at R v) i.0)));
      covers = λ u k s e. m.covers u k s (omega (arith, f k u, bit_lt (at F u) k));
    }

pub may_out_fed : {w t j a : ℕ} {F R H : List ℕ} → CanFeed F R H t j → bit (at F t) j ≡ 1 → a ≡ at F t - 2 ^ j → MayFeed w t F R → MayFeed w t (set F t a) R
may_out_fed {w} {t} {j} {a} {F} p has e = may_fewer (out_bit_le F t j a p.words.grid.fed p.slot has e) (λ k u. omega arith)

pub may_out_rest : {w t j b : ℕ} {F R H : List ℕ} → CanFeed F R H t j → bit (at R t) j ≡ 1 → b ≡ at R t - 2 ^ j → MayFeed w t F R → MayFeed w t F (set R t b)
may_out_rest {w} {t} {j} {b} {F} {R} p has e = may_fewer (λ k u. omega arith) (out_bit_le R t j b p.words.grid.rest p.slot has e)

-- No other ration -------------------------------------------------------------

module _ {F R H : List ℕ} {t j w : ℕ} (p : CanAsk F R H t j) (m : MayFeed w t F R) (out : bit w j ≢ 1) where
  -- ration j is not fed in the set
  elsewhere : (u : ℕ) → Seen m.marks u → bit (at F u) j ≢ 1
  elsewhere u s e = out (m.covers u j s e)

  module _ {z : ℕ} (r : CanReplace F R H t j z) where
    abbrev a : ℕ
    a = at F z - 2 ^ j

    abbrev b : ℕ
    b = at R z + 2 ^ j

    without : (u : ℕ) → Seen m.marks u → u ≢ z
    without u s e = elsewhere u s (ap (λ (x : ℕ). bit (at F x) j) e ∙ r.has)

    still_closed : Closed (set F z a) (set R z b) m.marks
    still_closed u v s e =
        let i = some_bit (bit_and (at (set F z a) u) (at (set R z b) v)) e in
        let k = i.0 in
        let h = both_of_and (at (set F z a) u) (at (set R z b) v) k i.1 in
        let f : bit (at F u) k ≡ 1 = omega (arith, out_bit_le F z j a p.feed.words.grid.fed r.from r.has refl k u, h.0, bit_lt (at F u) k) in
        ⊎_elim (λ q. m.closed u v s (and_of_both (at F u) (at R v) k f q)) (λ q. absurd (elsewhere u s (ap (bit (at F u)) (sym q.1) ∙ f)))
        (old_rests r a b refl refl k v h.1)

    replace_none : {n d : ℕ} {free : ℕ → ℕ → Bool} {v c : ℕ → ℕ} → Exactly n d free v c F R H → t < d
        → (T : ℕ → ℕ → Bool) → Placing n d free (one_less v j) T → ((u : ℕ) → u < d → count n T u ≤ one_less c t u) → ⊥
    replace_none x l =
        closed_none r a b refl refl m.marks m.has still_closed x l
        (λ u o s h. omega (arith, load₁ r a b refl refl u, ind_other u z (without u s), x.loads u o, x.counts u o))

  -- where it has volume left, it is fed in some slot
  some_slot : 0 < volume F j → 0 < at H t → (z : ℕ) × CanReplace F R H t j z
  unfolding volume
  some_slot f g =
      let z = sum_pos slots (λ u. bit (at F u) j) f in
      (z.0, record { ask = p; some = g; from = z.1; has = omega (arith, z.2, bit_lt (at F z.0) j) })

  pub answered_not_may : Answered false F R H F R H t j
  answered_not_may =
      record {
        words = p.feed.words;
        yes = λ e. absurd (false≢true e);
        no = λ e. (refl, refl, refl);
        none = λ e n d free v c x o l f g.
            let z = some_slot (omega (arith, x.places.volumes j o)) (omega (arith, x.counts t l)) in
            replace_none z.1 x l;
      }

-- `swap` ----------------------------------------------------------------------

module _ {F R H : List ℕ} {t j z : ℕ} (p : CanReplace F R H t j z) (e : Edge F R t z) (a b : ℕ) (ea : a ≡ at F z - 2 ^ j) (eb : b ≡ at R z + 2 ^ j) where
  pub swap_shift : CanShift (set F z a) (set R z b) t z
  swap_shift =
      record {
        grid = grid₁ p a b ea eb;
        from = p.ask.feed.slot;
        to = p.from;
        apart = apart p a b ea eb;
        edge = edge₁;
      }
    where
      edge₁ : Edge (set F z a) (set R z b) t z
      edge₁ =
          let i = some_bit (bit_and (at F t) (at R z)) e in
          let h = both_of_and (at F t) (at R z) i.0 i.1 in
          and_of_both (at (set F z a) t) (at (set R z b) z) i.0
          (ap (λ (x : ℕ). bit x i.0) (get_or-set_other F z t a 0 (apart p a b ea eb)) ∙ h.0) (more_rests p a b ea eb i.0 z h.1)

  module _ {F' R' : List ℕ} (s : Move (set F z a) (set R z b) F' R' t z) where
    -- the set has slot z too
    kept : (w : ℕ) → MayFeed w t F R → MayFeed w t F' R'
    kept w m =
        record {
          marks = m.marks;
          has = m.has;
          closed = move_inside s m.marks m.has has_z (λ u v q x.
              let i = some_bit (bit_and (at (set F z a) u) (at (set R z b) v)) x in
              let h = both_of_and (at (set F z a) u) (at (set R z b) v) i.0 i.1 in
              ⊎_elim (λ r. m.closed u v q (and_of_both (at F u) (at R v) i.0 (fewer u i.0 h.0) r)) (λ r. rw r.0 has_z)
              (old_rests p a b ea eb i.0 v h.1));
          covers = λ u k q f.
              ⊎_elim (λ g. m.covers u k q (fewer u k g)) (λ g. m.covers t k m.has (fewer t k g)) (move_fed s k u f);
        }
      where
        has_z : Seen m.marks z
        has_z = m.closed t z m.has e

        fewer : (u k : ℕ) → bit (at (set F z a) u) k ≡ 1 → bit (at F u) k ≡ 1
        fewer u k f =
            omega (arith, out_bit_le F z j a p.ask.feed.words.grid.fed p.from p.has ea k u, bit_lt (at F u) k)

    pub swapped : Swapped F R H F' R' (set H t (at H t - 1)) t j
    swapped =
        record {
          answer =
              won_answer p a b ea eb
              (move_won {S = replicate slots 0} s (at_zeros slots z)
              (omega (arith, load₁ p a b ea eb z, ind_same z, p.ask.feed.words.within z)));
          may = kept;
        }
