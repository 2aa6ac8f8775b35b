-- The exchanged grid: what is fed rests, and what rests is fed. Assumes nothing.
use Rattle.std.specs.Prelude.{◌≡◌, refl, Bool, false, List, map, ℕ, ◌+◌, ◌-◌, ◌≤◌, ◌<◌, length, set}
use Rattle.std.proofs.Common.{sym, ap, ◌∙◌, not-suc-le-zero, arith, below_more, length-set, get_or-set_same, get_or-set_other}
use Rattle.std.proofs.Math.Decide.{dec_lt}
use Rattle.std.proofs.Math.ListN.{get_or-eq_default}
use Rattle.std.specs.Int.Count.{ones}
use Rattle.std.proofs.lemmas.Nat.{ones-le}
use Rattle.loads.specs.Theory.{sum_cong, sum_add}
use Rattle.common.specs.Bits.{bit}
use Rattle.common.specs.Lists.{range}
use Rattle.common.specs.ListLaws.{length_map_range, get_d_map_range}
use Rattle.grid.specs.Grid.{slots, at, volume, Grid, Rearranged}
use Rattle.grid.specs.MoveLaws.{rearranged_none}
use Rattle.grid.specs.MarkLaws.{same_refl}
use Rattle.loads.specs.Relief.{width, CanLower, Lowered, Raised, Widths}

pub grid_exchange : {F R : List ℕ} → Grid F R → Grid R F
grid_exchange g = record { fed = g.rest; rest = g.fed; disjoint = λ t k. omega (arith, g.disjoint t k) }

-- a ration is fed or rests in each slot of its window
pub volume_both :
    (F R F' R' : List ℕ) (k : ℕ) →
    ((t : ℕ) → bit (at F' t) k + bit (at R' t) k ≡ bit (at F t) k + bit (at R t) k) →
    volume F' k + volume R' k ≡ volume F k + volume R k
unfolding volume
volume_both F R F' R' k e =
    sym (sum_add slots (λ t. bit (at F' t) k) (λ t. bit (at R' t) k))
    ∙ sum_cong (λ t l. e t)
    ∙ sum_add slots (λ t. bit (at F t) k) (λ t. bit (at R t) k)

pub rearranged_exchange : {F R F' R' : List ℕ} → Rearranged F R F' R' → Rearranged R F R' F'
rearranged_exchange {F} {R} {F'} {R'} m =
    record {
      grid = grid_exchange m.grid;
      words = λ t. omega (arith, m.words t);
      bits = λ k t. omega (arith, m.bits k t);
      volumes = λ k. omega (arith, volume_both F R F' R' k (m.bits k), m.volumes k);
    }

-- ---- `raise`

module _ {F R C : List ℕ} {t k : ℕ} (p : CanLower R F C t) where
  pub raised_narrow : {S : List ℕ} → width F R t < k → Raised false F R C F R C S t k
  raised_narrow h =
      record {
        moved = rearranged_none (grid_exchange p.grid);
        narrow = λ i. (refl, same_refl, refl);
        wide = λ i. absurd (omega arith);
      }

  pub raised_wide :
      {r : Bool} {F' R' C' S' : List ℕ} →
      k ≤ width F R t →
      Lowered r R F C R' F' C' S' t (width F R t - k) →
      Raised r F R C F' R' C' S' t k
  raised_wide h l =
      record {
        moved = rearranged_exchange l.moved;
        narrow = λ i. absurd (omega arith);
        wide = λ i. l;
      }

-- ---- `widths`: its loop has written the slots below t

pub record Widening (F R C : List ℕ) (t : ℕ) : Type 0 where
  pub within : t ≤ slots
  pub long : length C ≡ slots
  pub is : (u : ℕ) → u < t → at C u ≡ width F R u

module _ {F R : List ℕ} (g : Grid F R) where
  pub widening_start : {C : List ℕ} → length C ≡ slots → Widening F R C 0
  widening_start e = record { within = omega arith; long = e; is = λ u l. absurd (not-suc-le-zero l) }

  module _ {C : List ℕ} {t : ℕ} (l : Widening F R C t) where
    pub widening_next : {w : ℕ} → t < slots → w ≡ width F R t → Widening F R (set C t w) (t + 1)
    widening_next {w} h e =
        record {
          within = omega arith;
          long = length-set C t w ∙ l.long;
          is =
              below_more (λ (u : ℕ). at (set C t w) u ≡ width F R u) t
              (λ u k. get_or-set_other C t u w 0 (λ i. omega arith) ∙ l.is u k)
              (get_or-set_same C t w 0 (omega (arith, l.long)) ∙ e);
        }

    pub widths_of : slots ≤ t → Widths F R C
    widths_of h = record { long = l.long; is = λ u. go u (dec_lt u slots) }
      where
        go : (u : ℕ) → Dec (u < slots) → at C u ≡ width F R u
        go u (yes k) = l.is u (omega arith)
        go u (no k) =
            let past : (L : List ℕ) → length L ≡ slots → at L u ≡ 0 = λ L e. get_or-eq_default L 0 (omega arith) in
            omega (arith, past C l.long, ap ones (past F g.fed), ap ones (past R g.rest), ones-le 0 0 (omega arith))

  -- such numbers there are for every grid
  pub some_widths : (C : List ℕ) × Widths F R C
  some_widths =
      let all = map (width F R) (range 0 slots) in (
        all,
        widths_of (record {
          within = omega arith;
          long = length_map_range (width F R) slots;
          is = λ u l. get_d_map_range (width F R) 0 slots u l;
        })
            (omega arith),
      )
