-- How all slots are brought down to their highs, and one slot to a lower high. Assumes nothing.
use Rattle.std.specs.Prelude.{◌≡◌, refl, ◌≢◌, Bool, true, false, ◌&&◌, List, ℕ, ◌+◌, ◌≤◌, ◌<◌, set, replicate}
use Rattle.std.proofs.Common.{ap, ◌∙◌, not-suc-le-zero, arith, below_more, length-set, get_or-set_same, get_or-set_other, set-set}
use Rattle.std.proofs.Math.Decide.{dec_lt}
use Rattle.std.specs.Int.Count.{ones}
use Rattle.std.proofs.lemmas.Nat.{ones-le}
use Rattle.std.proofs.lemmas.List.{length-replicate, set-get_or}
use Rattle.std.proofs.Math.ListN.{get_or-eq_default}
use Rattle.grid.specs.Grid.{slots, at, load, Seen, Grid, Rearranged}
use Rattle.grid.specs.MoveLaws.{slot_cases, rearranged_none, rearranged_trans}
use Rattle.grid.specs.MarkLaws.{clash, clash', at_replicate}
use Rattle.loads.specs.Relief.{Over, Towards, Stuck, CanUnload, Unloaded, CanRelieve, Relieved, CanLower, Lowered}
use Rattle.loads.specs.UnloadLaws.{towards_none, towards_trans}

-- ---- slots past the grid hold nothing

over_below : {F R : List ℕ} (H : List ℕ) (t : ℕ) → Grid F R → Over F H t → t < slots
over_below {F} H t g o = go (dec_lt t slots)
  where
    go : Dec (t < slots) → t < slots
    go (yes l) = l
    go (no l) =
        let z : at F t ≡ 0 = get_or-eq_default F 0 (omega (arith, g.fed)) in
        absurd (omega (arith, ap ones z, ones-le 0 0 (omega arith)))

-- ---- no slot is marked

pub stuck_none : (F R H : List ℕ) → Stuck F R H (replicate slots 0)
stuck_none F R H =
    record {
      marks = length-replicate {A = ℕ} slots 0;
      closed = λ t z q. absurd (omega (arith, at_replicate slots t));
      full = λ t q. absurd (omega (arith, at_replicate slots t));
      source = λ t q. absurd (omega (arith, at_replicate slots t));
    }

-- ---- `relieve`: its loop has unloaded the slots below t

pub record Relieving (r : Bool) (F₀ R₀ H F R S : List ℕ) (t : ℕ) : Type 0 where
  pub within : t ≤ slots
  pub moved : Rearranged F₀ R₀ F R
  pub towards : Towards F₀ H F
  pub stuck : Stuck F R H S
  pub over : (u : ℕ) → u < t → Over F H u → Seen S u
  pub done : r ≡ true → (u : ℕ) → u < t → load F u ≤ at H u
  pub left : r ≡ false → (u : ℕ) × Seen S u × Over F H u

module _ {F₀ R₀ H : List ℕ} (p : CanRelieve F₀ R₀ H) where
  pub relieving_start : Relieving true F₀ R₀ H F₀ R₀ (replicate slots 0) 0
  relieving_start =
      record {
        within = omega arith;
        moved = rearranged_none p.grid;
        towards = towards_none F₀ H;
        stuck = stuck_none F₀ R₀ H;
        over = λ u l. absurd (not-suc-le-zero l);
        done = λ e u l. absurd (not-suc-le-zero l);
        left = λ e. clash e;
      }

  module _ {r : Bool} {F R S : List ℕ} {t : ℕ} (l : Relieving r F₀ R₀ H F R S t) where
    pub relieving_unload : t < slots → CanUnload F R H S t
    relieving_unload k = record { grid = l.moved.grid; highs = p.highs; slot = k; stuck = l.stuck }

    pub relieving_next : {b : Bool} {F' R' S' : List ℕ} → t < slots → Unloaded b F R H S F' R' S' t → Relieving (r && b) F₀ R₀ H F' R' S' (t + 1)
    relieving_next {b} {F'} {S'} k u =
        record {
          within = omega arith;
          moved = rearranged_trans l.moved u.moved;
          towards = towards_trans F₀ H F F' l.towards u.towards;
          stuck = u.stuck;
          over =
              below_more (λ (v : ℕ). Over F' H v → Seen S' v) t (λ v h o. u.grow v (l.over v h (omega (arith, u.towards v))))
              (at_t b refl);
          done =
              λ e. let y = and_true r b e in
              below_more (λ (v : ℕ). load F' v ≤ at H v) t (λ v h. omega (arith, u.towards v, l.done y.0 v h)) (u.done y.1);
          left = λ e. some r b refl refl e;
        }
      where
        at_t : (c : Bool) → b ≡ c → Over F' H t → Seen S' t
        at_t true e o = absurd (omega (arith, u.done e))
        at_t false e o = (u.left e).0

        and_true : (x y : Bool) → (x && y) ≡ true → (x ≡ true) × (y ≡ true)
        and_true true y e = (refl, e)
        and_true false y e = clash' e

        some : (x y : Bool) → r ≡ x → b ≡ y → (x && y) ≡ false → (v : ℕ) × Seen S' v × Over F' H v
        some false y i j e = let w = l.left i in (w.0, u.grow w.0 w.1, rw (u.kept w.0 w.1) w.2)
        some true false i j e = (t, (u.left j).0, (u.left j).1)
        some true true i j e = clash e

    pub relieved : slots ≤ t → Relieved r F₀ R₀ H F R S
    relieved k =
        record {
          moved = l.moved;
          towards = l.towards;
          done = λ e u. not_over u (λ o. omega (arith, l.done e u (omega (arith, below u o))));
          held =
              λ e.
              record {
                stuck = l.stuck;
                over = λ u o. l.over u (omega (arith, below u o)) o;
                some = let w = l.left e in (w.0, w.2);
              };
        }
      where
        below : (u : ℕ) → Over F H u → u < slots
        below u = over_below H u l.moved.grid

        not_over : (u : ℕ) → ¬ Over F H u → load F u ≤ at H u
        not_over u n = omega arith

-- ---- `lower`

module _ {F R H : List ℕ} {t : ℕ} (p : CanLower F R H t) (h : ℕ) where
  same_high : at (set H t h) t ≡ h
  same_high = get_or-set_same H t h 0 (omega (arith, p.slot, p.highs))

  pub lower_unload : CanUnload F R (set H t h) (replicate slots 0) t
  lower_unload =
      record { grid = p.grid; highs = length-set H t h ∙ p.highs; slot = p.slot; stuck = stuck_none F R (set H t h) }

  module _ {r : Bool} {F' R' S' : List ℕ} (u : Unloaded r F R (set H t h) (replicate slots 0) F' R' S' t) where
    -- every other slot is within its high as before
    others : (v : ℕ) → v ≢ t → load F' v ≤ at (set H t h) v
    others v n = omega (arith, u.towards v, get_or-set_other H t v h 0 n, p.within v)

    pub lowered_done : r ≡ true → Lowered true F R H F' R' (set H t h) S' t h
    lowered_done e =
        record {
          moved = u.moved;
          towards = u.towards;
          done = λ i. (refl, λ v. slot_cases (λ (v : ℕ). load F' v ≤ at (set H t h) v) t t (u.done e) (u.done e) (λ v n m. others v n) v);
          held = λ i. clash i;
        }

    pub lowered_held : r ≡ false → Lowered false F R H F' R' (set (set H t h) t (at H t)) S' t h
    lowered_held e =
        record {
          moved = u.moved;
          towards = u.towards;
          done = λ i. clash' i;
          held =
              λ i. (
                set-set H t h (at H t) ∙ set-get_or H t 0,
                record {
                  stuck = u.stuck;
                  over =
                      slot_cases (λ (v : ℕ). Over F' (set H t h) v → Seen S' v) t t (λ o. (u.left e).0) (λ o. (u.left e).0)
                      (λ v n m o. absurd (omega (arith, others v n)));
                  some = (t, (u.left e).1);
                },
              );
        }
