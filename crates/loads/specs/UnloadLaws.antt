-- How searches take feedings out of one slot: what one more search adds to what is known, and that marks stay right. Assumes nothing.
use Rattle.std.specs.Prelude.{◌≡◌, refl, Bool, true, false, List, ℕ, ◌≤◌, ◌<◌, min, max, length}
use Rattle.std.proofs.Common.{sym, ◌∙◌, subst, ⊎_elim, arith}
use Rattle.grid.specs.Grid.{slots, at, load, Seen, Closed, Reach, here, step, Rearranged}
use Rattle.grid.specs.MoveLaws.{slot_cases, ind_same, ind_other, path_rearranged, path_load, rearranged_none, rearranged_trans}
use Rattle.grid.specs.Search.{Won, Lost, CanPush, Pushed}
use Rattle.grid.specs.MarkLaws.{clash, clash', seen_or_new, seen_apart, same_along}
use Rattle.loads.specs.Relief.{Over, Towards, Stuck, CanUnload, Unloaded}

-- ---- towards

pub towards_none : (F H : List ℕ) → Towards F H F
towards_none F H t = omega arith

pub towards_trans : (F H F₁ F' : List ℕ) → Towards F H F₁ → Towards F₁ H F' → Towards F H F'
towards_trans F H F₁ F' p q t = omega (arith, p t, q t)

-- a chain from a slot that holds too much to one with room
won_towards : {F R H S F' R' : List ℕ} {x : ℕ} → Over F H x → Won F R H S F' R' x → Towards F H F'
won_towards {F} {H} {F'} {x} o w =
    slot_cases (λ (t : ℕ). (min (load F t) (at H t) ≤ load F' t) × (load F' t ≤ max (load F t) (at H t))) x w.end
    (omega (arith, path_load w.path x, ind_same x, ind_other x w.end (λ e. w.apart (sym e))))
    (omega (arith, path_load w.path w.end, ind_same w.end, ind_other w.end x w.apart, w.room))
    (λ t p q. omega (arith, path_load w.path t, ind_other t x p, ind_other t w.end q))

won_less_load : {F R H S F' R' : List ℕ} {x : ℕ} → Won F R H S F' R' x → load F' x < load F x
won_less_load {x} w = omega (arith, path_load w.path x, ind_same x, ind_other x w.end (λ e. w.apart (sym e)))

-- ---- marks that stay

-- a slot that is reached within a closed set is reached still where the words of the set are kept
reach_kept :
    {F R F' R' : List ℕ} (S : List ℕ) {s t : ℕ} →
    Closed F R S →
    ((u : ℕ) → Seen S u → (at F' u ≡ at F u) × (at R' u ≡ at R u)) →
    Seen S s →
    Reach F R s t →
    Reach F' R' s t
reach_kept S c k q here = here
reach_kept S c k q (step {x = x} {y = y} e r) =
    let q' = c x y q e in
    step {x = x} {y = y} (rw ((k x q).0, (k y q').1) e) (reach_kept S c k q' r)

-- a search that ends well from a slot that is not marked leaves the marks right
won_stuck : {F R H S F' R' : List ℕ} {x : ℕ} → at S x ≡ 0 → Stuck F R H S → Won F R H S F' R' x → Stuck F' R' H S
won_stuck {F} {R} {H} {S} {F'} {R'} {x} n s w =
    record {
      marks = s.marks;
      closed = w.closed S (λ t q. (q, seen_apart S q n)) s.closed;
      full = λ t q. rw (kept t q).0 (s.full t q);
      source =
          λ t q.
          let p = s.source t q in
          (p.0, p.1, rw (kept p.0 p.1).0 p.2, reach_kept S s.closed kept p.1 p.3);
    }
  where
    kept : (u : ℕ) → Seen S u → (at F' u ≡ at F u) × (at R' u ≡ at R u)
    kept u q = w.kept u q (seen_apart S q n)

-- a search that fails from a slot that holds too much adds to the marks
lost_stuck : {F R H S S' : List ℕ} {x : ℕ} → length S' ≡ slots → Over F H x → Stuck F R H S → Lost F R H S S' x → Stuck F R H S'
lost_stuck {F} {R} {H} {S} {S'} {x} k o s l =
    record {
      marks = k;
      closed = λ t z q e. seen_or_new S t (λ p. l.grow z (s.closed t z p e)) (λ n. l.closed t z q n e);
      full =
          λ t q.
          seen_or_new S t (s.full t)
          (λ n. ⊎_elim (λ i. subst (λ (t : ℕ). at H t ≤ load F t) (sym i) (omega arith)) (λ h. h) (l.full t q n));
      source =
          λ t q.
          seen_or_new S t (λ p. let r = s.source t p in (r.0, l.grow r.0 r.1, r.2, r.3))
          (λ n. (x, l.mark, o, l.reach t q n));
    }

-- ---- `unload`: its loop has made moves from F₀ R₀ to F R

pub record Unloading (F₀ R₀ H S₀ F R S : List ℕ) : Type 0 where
  pub moved : Rearranged F₀ R₀ F R
  pub towards : Towards F₀ H F
  pub kept : (u : ℕ) → Seen S₀ u → at F u ≡ at F₀ u
  pub marks : S ≡ S₀
  pub stuck : Stuck F R H S

module _ {F₀ R₀ H S₀ : List ℕ} {t : ℕ} (p : CanUnload F₀ R₀ H S₀ t) where
  pub unloading_start : Unloading F₀ R₀ H S₀ F₀ R₀ S₀
  unloading_start =
      record {
        moved = rearranged_none p.grid;
        towards = towards_none F₀ H;
        kept = λ u q. refl;
        marks = refl;
        stuck = p.stuck;
      }

  module _ {F R S : List ℕ} (l : Unloading F₀ R₀ H S₀ F R S) where
    pub unloading_push : at S t ≡ 0 → CanPush F R H S t
    unloading_push n = record { grid = l.moved.grid; highs = p.highs; marks = l.stuck.marks; from = p.slot; new = n }

    -- slot t holds no more than its high
    pub unloaded_done : load F t ≤ at H t → Unloaded true F₀ R₀ H S₀ F R S t
    unloaded_done h =
        record {
          moved = l.moved;
          towards = l.towards;
          stuck = l.stuck;
          grow = λ u q. rw l.marks q;
          kept = l.kept;
          done = λ e. h;
          left = λ e. clash e;
        }

    module _ (over : Over F H t) where
      -- slot t is marked: an earlier search showed that none can free a place in it
      pub unloaded_marked : Seen S t → Unloaded false F₀ R₀ H S₀ F R S t
      unloaded_marked q =
          record {
            moved = l.moved;
            towards = l.towards;
            stuck = l.stuck;
            grow = λ u q. rw l.marks q;
            kept = l.kept;
            done = λ e. clash' e;
            left = λ e. (q, over);
          }

      module _ {r : Bool} {F' R' S' : List ℕ} (u : Pushed r F R H S F' R' S' t) where
        pub unloaded_lost : r ≡ false → Unloaded false F₀ R₀ H S₀ F' R' S' t
        unloaded_lost e =
            same_along (λ F R. Unloaded false F₀ R₀ H S₀ F R S' t) (u.same e)
            (record {
              moved = l.moved;
              towards = l.towards;
              stuck = lost_stuck u.marks over l.stuck (u.lost e);
              grow = λ v q. (u.lost e).grow v (rw l.marks q);
              kept = l.kept;
              done = λ e. clash' e;
              left = λ i. ((u.lost e).mark, over);
            })

        pub unloading_less : r ≡ true → load F' t < load F t
        unloading_less e = won_less_load (u.won e)

        -- one feeding is out of slot t: on with the marks as they were
        pub unloading_next : r ≡ true → at S t ≡ 0 → Unloading F₀ R₀ H S₀ F' R' S₀
        unloading_next e n =
            let w = u.won e in
            record {
              moved = rearranged_trans l.moved (path_rearranged w.path);
              towards = towards_trans F₀ H F F' l.towards (won_towards over w);
              kept =
                  λ v q.
                  let q' : Seen S v = rw l.marks q in
                  (w.kept v q' (seen_apart S q' n)).0 ∙ l.kept v q;
              marks = refl;
              stuck = rw l.marks at (won_stuck n l.stuck w);
            }
