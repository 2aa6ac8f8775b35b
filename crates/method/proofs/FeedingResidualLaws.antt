-- What is left of a day when some cells are decided is a problem of the same kind: its placings, with the choices made, are the sound placings
-- that have these choices; so the choice at a cell is a question whether a placing of what is left exists. Assumes nothing.
use Rattle.std.specs.Prelude.{◌≡◌, ◌↔◌, Bool, ◌&&◌, not, cond, List, [], ℕ, ◌<◌, eqb, ltb}
use Rattle.std.proofs.Math.Path.{refl}
use Rattle.std.proofs.Common.{sym, ◌∙◌, ap, arith, ltb-true, lt-ltb}
use Rattle.std.proofs.Math.Bool.{true, false, false≢true}
use Rattle.std.proofs.Math.ListN.{length}
use Rattle.common.specs.Tests.{and_true, false_of_not_true}
use Rattle.theory.specs.Placing.{size, count}
use Rattle.theory.specs.Move.{upd}
use Rattle.theory.proofs.Move.{upd_same}
use Rattle.schedules.specs.Slots.{has}
use Rattle.schedules.specs.Schedules.{Demand, Schedule, Sound, Windows, volume_of}
use Rattle.schedules.specs.Tabulate.{tab, get_d_tab}
use Rattle.schedules.specs.AsFunctions.{free, fed, bound, listed, BoundedBy}
use Rattle.schedules.proofs.AsFunctions.{sound_bounded, bounded_sound}
use Rattle.schedules.proofs.FeasibleLaws.{feasible_sound, sound_feasible}
use Rattle.method.specs.Feedings.{Cells, SameIn}
use Rattle.method.specs.FeedingResidual.{Residual, OfDay, Completes, completable, fix, may_feed, choice, undecided, joined, LeftOf}
use Rattle.method.proofs.FeedingLaws.{sound_ext}
use Rattle.method.proofs.FeedingFix.{length_fix, of_day_fix, free_fix, volume_fix, count_fix}
use Rattle.method.specs.FeedingUndecided.{less}
use Rattle.method.proofs.FeedingUndecided.{Exact, exact_cong, exact_undecided, exact_joined, undecided_out, undecided_upd, exact_fed}
use Rattle.method.proofs.FeedingAmounts.{amounts_none, amounts_cong, amounts_fix, amounts_fed}

-- Decided cells ---------------------------------------------------------------

pub fed_listed : (n d : ℕ) (S : Cells) (i u : ℕ) → i < n → u < d → fed (listed n d S) i u ≡ S i u
fed_listed n d S i u l k = ap (λ c. has c u) (get_d_tab n (λ i. tab d (S i)) [] i l) ∙ get_d_tab d (S i) false u k

cond_of_parts : (b x y z : Bool) → (b ≡ true → x ≡ y) → z ≡ (x && not b) → x ≡ cond b y z
cond_of_parts true x y z h e = h refl
cond_of_parts false true y z h e = sym e
cond_of_parts false false y z h e = sym e

module _ {slots : ℕ} {ds : List Demand} {D : Cells} {p : Schedule} where
  -- nothing decided: all is left
  pub left_none : {counts : List ℕ} → Windows slots ds → length counts ≡ slots → Sound slots ds counts counts p → ((i u : ℕ) → D i u ≡ false)
      → LeftOf slots ds D p (record { demands = ds; counts = counts })
  left_none w l s h = record {
    same_demands = refl;
    of_day = record { each_window = w; each_slot = l };
    windows = λ i u m k. sym (undecided_out D (free ds) i u (h i u));
    amounts = amounts_none (sound_bounded w s) h;
  }

  pub left_cong : {E : Cells} {r : Residual} → ((i u : ℕ) → i < length ds → u < slots → D i u ≡ E i u) → LeftOf slots ds D p r → LeftOf slots ds E p r
  left_cong h a = record {
    same_demands = a.same_demands;
    of_day = a.of_day;
    windows = λ i u m k. a.windows i u m k ∙ ap (λ b. free ds i u && not b) (h i u m k);
    amounts = amounts_cong h a.amounts;
  }

  -- one cell more
  pub left_fix : {r : Residual} → LeftOf slots ds D p r → (t j : ℕ) → t < slots → j < length ds → D j t ≡ false
      → LeftOf slots ds (upd D j t true) p (fix t j (fed p j t) r)
  left_fix {r} a t j k l e =
      let b = fed p j t in
      let h : j < length r.demands = rw a.same_demands l in
      let x = amounts_fix a.amounts t j k l e in
      record {
        same_demands = length_fix r a.of_day t j b k h ∙ a.same_demands;
        of_day = of_day_fix r a.of_day t j b k h;
        windows = λ i u m q.
            free_fix r a.of_day t j b k h i u ∙ ap (λ x. cond (eqb i j && eqb u t) false x) (a.windows i u m q) ∙ sym (undecided_upd D (free ds) j t i u);
        amounts = record {
          volumes = λ i m. volume_fix r a.of_day t j b k h i ∙ x.volumes i m;
          loads = λ u m. count_fix r a.of_day t j b k h u ∙ x.loads u m;
        };
      }

-- Placings of what is left ----------------------------------------------------

-- T is a placing of the cells outside of D with the volumes and the loads that p has there
abbrev Left : ℕ → List Demand → Cells → Schedule → Cells → Type 0
Left slots ds D p =
    Exact (length ds) slots (undecided D (free ds)) (λ i. size slots (undecided D (fed p) i)) (count (length ds) (undecided D (fed p)))

module _ {slots : ℕ} {ds : List Demand} (w : Windows slots ds) {counts : List ℕ} {D : Cells} {p : Schedule} {r : Residual}
    (s : Sound slots ds counts counts p) (a : LeftOf slots ds D p r) where
  left_completes : {T : Cells} → Left slots ds D p T → Completes slots r (listed (length ds) slots T)
  left_completes {T} e =
      let b : BoundedBy slots r.demands r.counts r.counts T =
      rw a.same_demands (exact_cong (λ i u m k. sym (a.windows i u m k)) (λ i m. sym (a.amounts.volumes i m)) (λ u k. sym (a.amounts.loads u k)) e) in
      let c : Completes slots r (listed (length r.demands) slots T) = bounded_sound a.of_day.each_window T b in
      rw a.same_demands at c

  exact_left : {T : Cells} → BoundedBy slots r.demands r.counts r.counts T → Left slots ds D p T
  exact_left e = exact_cong a.windows a.amounts.volumes a.amounts.loads (rw a.same_demands at e)

  -- a sound placing with the choices of p in D leaves a placing of what is left
  pub undecided_completes : {q : Schedule} → Sound slots ds counts counts q → SameIn slots (length ds) D q p → Completes slots r (listed (length ds) slots (undecided D (fed q)))
  undecided_completes t h = left_completes (exact_undecided D (sound_bounded w s) (sound_bounded w t) h)

  pub left_completable : completable slots r ≡ true
  left_completable =
      let o = a.of_day in sound_feasible o.each_window o.each_slot o.each_slot (undecided_completes s (λ i u m k e. refl))

  -- and a placing of what is left makes one
  pub joined_sound : {T : Cells} → BoundedBy slots r.demands r.counts r.counts T → Sound slots ds counts counts (listed (length ds) slots (joined D (fed p) T))
  joined_sound {T} e = bounded_sound w (joined D (fed p) T) (exact_joined D (sound_bounded w s) (exact_left e))

  joined_same : (T : Cells) → SameIn slots (length ds) D (listed (length ds) slots (joined D (fed p) T)) p
  joined_same T i u m k e = fed_listed (length ds) slots (joined D (fed p) T) i u m k ∙ rw e

  -- what is left after q's choices is the same, where they are those of p
  pub left_same : {q : Schedule} → Sound slots ds counts counts q → SameIn slots (length ds) D q p → LeftOf slots ds D q r
  left_same {q} t h =
      let b = exact_undecided D (sound_bounded w s) (sound_bounded w t) h in
      record {
        same_demands = a.same_demands;
        of_day = a.of_day;
        windows = a.windows;
        amounts = record {
          volumes = λ i m. a.amounts.volumes i m ∙ sym (b.0.volume i m);
          loads = λ u k. omega (arith, a.amounts.loads u k, b.1 u k);
        };
      }

  -- the sound placings with the choices of p in D are these choices joined with the placings of what is left
  pub same_iff_joined : (q : Schedule) → (Sound slots ds counts counts q × SameIn slots (length ds) D q p)
      ↔ ((T : Schedule) × Completes slots r T × (q ≡ listed (length ds) slots (joined D (fed p) (fed T))))
  same_iff_joined q = (to, from)
    where
      to : Sound slots ds counts counts q × SameIn slots (length ds) D q p
          → (T : Schedule) × Completes slots r T × (q ≡ listed (length ds) slots (joined D (fed p) (fed T)))
      to (t, h) =
          let T : Schedule = listed (length ds) slots (undecided D (fed q)) in
          let c : Completes slots r T = undecided_completes t h in (
            T,
            c,
            sound_ext w t (joined_sound (sound_bounded a.of_day.each_window c))
                (λ i u m k.
                cond_of_parts (D i u) (fed q i u) (fed p i u) (fed T i u) (h i u m k) (fed_listed (length ds) slots (undecided D (fed q)) i u m k)
                ∙ sym (fed_listed (length ds) slots (joined D (fed p) (fed T)) i u m k)),
          )

      from : (T : Schedule) × Completes slots r T × (q ≡ listed (length ds) slots (joined D (fed p) (fed T)))
          → Sound slots ds counts counts q × SameIn slots (length ds) D q p
      from (T, c, e) = rw e (joined_sound (sound_bounded a.of_day.each_window c), joined_same (fed T))

-- The choice at a cell --------------------------------------------------------

-- whether a cell may still be fed, by its three conditions
pub record May (t j : ℕ) (r : Residual) : Type 0 where
  pub in_window : free r.demands j t ≡ true
  pub volume_left : 0 < volume_of r.demands j
  pub slot_left : 0 < bound r.counts t

pub may_feed_iff : (t j : ℕ) (r : Residual) → (may_feed t j r ≡ true) ↔ May t j r
unfolding may_feed
may_feed_iff t j r = (
  λ e.
      let x = and_true (free r.demands j t) (ltb 0 (volume_of r.demands j) && ltb 0 (bound r.counts t)) e in
      let y = and_true (ltb 0 (volume_of r.demands j)) (ltb 0 (bound r.counts t)) x.1 in
      record { in_window = x.0; volume_left = ltb-true 0 _ y.0; slot_left = ltb-true 0 _ y.1 },
  λ m. rw (m.in_window, lt-ltb 0 (volume_of r.demands j) m.volume_left, lt-ltb 0 (bound r.counts t) m.slot_left),
)

module _ {slots : ℕ} {ds : List Demand} (w : Windows slots ds) {D : Cells} {r : Residual} (t j : ℕ) (k : t < slots) (l : j < length ds) (e : D j t ≡ false)
    {counts : List ℕ} {p : Schedule} (s : Sound slots ds counts counts p) (a : LeftOf slots ds D p r) where
  -- the cell is fed in p: it may be fed, and a placing is left when it is
  fed_may : fed p j t ≡ true → May t j r
  fed_may f =
      let x = amounts_fed a.amounts t j k l e f in
      record {
        in_window = a.windows j t l k ∙ undecided_out D (free ds) j t e ∙ (s.served j l).in_window t f;
        volume_left = x.0;
        slot_left = x.1;
      }

  fed_choice : fed p j t ≡ true → choice slots t j r ≡ true
  unfolding choice
  fed_choice f =
      let b : LeftOf slots ds (upd D j t true) p (fix t j true r) = rw f at (left_fix a t j k l e) in
      rw ((may_feed_iff t j r).1 (fed_may f), left_completable w s b)

  choice_fed : choice slots t j r ≡ true → (q : Schedule) × Sound slots ds counts counts q × SameIn slots (length ds) D q p × (fed q j t ≡ true)
  unfolding choice
  choice_fed f =
      let g = and_true (may_feed t j r) (completable slots (fix t j true r)) f in
      let m = (may_feed_iff t j r).0 g.0 in
      let d = a.of_day in
      let h : j < length r.demands = rw a.same_demands l in
      let o = of_day_fix r d t j true k h in
      let x = feasible_sound o.each_window o.each_slot o.each_slot g.1 in
      let y : Exact (length r.demands) slots (upd (free r.demands) j t false) (less (volume_of r.demands) j true) (less (bound r.counts) t true) (fed x.0) =
      exact_cong (λ i u b c. free_fix r d t j true k h i u) (λ i b. volume_fix r d t j true k h i) (λ u c. count_fix r d t j true k h u)
      (rw (length_fix r d t j true k h) at (sound_bounded o.each_window x.1)) in
      let T : Cells = upd (fed x.0) j t true in (
        listed (length ds) slots (joined D (fed p) T),
        joined_sound w s a (exact_fed h k m.in_window m.volume_left m.slot_left y),
        joined_same w s a T,
        fed_listed (length ds) slots (joined D (fed p) T) j t l k ∙ rw e (upd_same (fed x.0) j t true),
      )

module _ {slots : ℕ} {ds : List Demand} (w : Windows slots ds) {D : Cells} {r : Residual} (t j : ℕ) (k : t < slots) (l : j < length ds) (e : D j t ≡ false)
    {counts : List ℕ} {p : Schedule} (s : Sound slots ds counts counts p) (a : LeftOf slots ds D p r) where
  -- the choice is to feed exactly where some sound placing with the choices of p in D does so
  pub choice_iff : (choice slots t j r ≡ true)
      ↔ ((q : Schedule) × Sound slots ds counts counts q × SameIn slots (length ds) D q p × (fed q j t ≡ true))
  choice_iff = (choice_fed w t j k l e s a, λ x. fed_choice w t j k l e x.1 (left_same w s a x.1 x.2) x.3)

-- where a placing of what is left exists, one exists after the choice too
pub choice_completable : {slots : ℕ} {r : Residual} → OfDay slots r → (t j : ℕ) → t < slots → j < length r.demands
    → completable slots r ≡ true → completable slots (fix t j (choice slots t j r) r) ≡ true
choice_completable {slots} {r} o t j k l h = go (choice slots t j r) refl
  where
    go : (b : Bool) → choice slots t j r ≡ b → completable slots (fix t j b r) ≡ true
    go true e = (and_true (may_feed t j r) (completable slots (fix t j true r)) (unfold choice in e)).1
    go false e =
        let x = feasible_sound o.each_window o.each_slot o.each_slot h in
        let a : LeftOf slots r.demands (λ i u. false) x.0 r = left_none o.each_window o.each_slot x.1 (λ i u. refl) in
        let f : fed x.0 j t ≡ false =
        false_of_not_true (fed x.0 j t) (λ y. false≢true (sym e ∙ fed_choice o.each_window t j k l refl x.1 a y)) in
        left_completable o.each_window x.1 (rw f at (left_fix a t j k l refl))
