-- The stretches read off the counts, each with the cause of its end, are those that the method ends slot by slot; and
-- each cause is the true one. Assumes nothing.
use Rattle.std.specs.Prelude.{◌≡◌, ◌⊎◌, Bool, not, cond, ltb}
use Rattle.std.proofs.Math.Path.{refl, sym, ap, ap₂}
use Rattle.std.proofs.Common.{◌∙◌, subst, inl, inr, lt-ltb, le-ltb}
use Rattle.std.proofs.Math.Bool.{true, false}
use Rattle.std.specs.Bool.{beq}
use Rattle.std.proofs.lemmas.Bool.{false≢true}
use mathlib.Core.List.Memᴰ
use mathlib.Core.List.{List, [], ◌∷◌, ◌++◌, map, append-nil, Memᴰ}
use Prim.Native.Nat.{ℕ, zero, suc, ◌+◌, ◌-◌, ◌≤◌, ◌<◌}
use native.Mathlib.Omega.{arith}
use Rattle.common.specs.Lists.{keep}
use Rattle.schedules.specs.Schedules.{Demand, Windows}
use Rattle.schedules.specs.Causes.{obstacle}
use Rattle.schedules.proofs.CauseLaws.{is_cause, length_obstacle, lower_number, higher_number}
use Rattle.method.specs.Method.{Bounds, FeasibleDay, keep_for, feasible_under, loads}
use Rattle.method.specs.Intervals.{Interval, join, runs, intervals, size}
use Rattle.method.specs.Keeping.{no_slots, with_no_slots, stretches}
use Rattle.method.specs.Slotwise.{keep_at, busy_from, settle_from, settle_each}
use Rattle.method.specs.Endings.{EndedStretch, in_order, CauseOfKind, Explained, endings, settled_endings}
use Rattle.method.specs.SlotwiseEndings.{ended_at, ended_from, ended_each}
use Rattle.method.proofs.StepLaws.{keep_at_sized, other_possible, sound_possible, busy_at_stays, busy_at_changes}
use Rattle.method.proofs.KeepForLaws.{keep_for_none}
use Rattle.method.proofs.SlotwiseLaws.{keep_for_suc, settle_slotwise}
use Rattle.method.proofs.SettleLaws.{settle_from_possible, loads_slotwise, counts_busy_from}
use Rattle.method.proofs.SettledRunsLaws.{settled_runs_busy_from}

-- A run one slot longer -------------------------------------------------------

keep_for_more : (k : ℕ) (busy : Bool) (f n : ℕ) (b : Bounds) → keep_for k busy (suc f) b (suc n) ≡ keep_at k busy (f + n) (keep_for k busy (suc f) b n)
keep_for_more k busy f zero b =
    let here : f ≡ f + 0 = omega arith in
    keep_for_suc k busy f b 0 ∙ keep_for_none k busy (suc (suc f)) (keep_at k busy f b) ∙ ap₂ (keep_at k busy) here (sym (keep_for_none k busy (suc f) b))
keep_for_more k busy f (suc n) b =
    let later : suc f + n ≡ f + suc n = omega arith in
    keep_for_suc k busy f b (suc n) ∙ keep_for_more k busy (suc f) n (keep_at k busy f b) ∙ ap₂ (keep_at k busy) later (sym (keep_for_suc k busy f b n))

-- Stretches with one that is open ---------------------------------------------

-- the stretches of slots with these tests, behind a stretch from slot `first` to slot t that goes on while the test is
-- the same
unfoldable open_runs : (busy : Bool) (first t : ℕ) → List Bool → List Interval
open_runs busy first t [] = record { first = first; last = t; busy = busy } ∷ []
open_runs busy first t (x ∷ xs) =
    cond (beq busy x) (open_runs busy first (suc t) xs) (record { first = first; last = t; busy = busy } ∷ open_runs x (suc t) (suc t) xs)

-- the first stretch begins where the list does, and is of the first test's kind
runs_head : (t : ℕ) (x : Bool) (xs : List Bool) → (l : ℕ) × (vs : List Interval) × (runs t (x ∷ xs) ≡ record { first = t; last = l; busy = x } ∷ vs)
unfolding runs join
runs_head t x xs = go (runs (suc t) xs)
  where
    go : (us : List Interval) → (l : ℕ) × (vs : List Interval) × (join t x us ≡ record { first = t; last = l; busy = x } ∷ vs)
    go [] = (t, [], refl)
    go (u ∷ us) = at (beq x u.busy)
      where
        at : (y : Bool) → (l : ℕ) × (vs : List Interval)
            × (cond y (record { first = t; last = u.last; busy = x } ∷ us) (record { first = t; last = t; busy = x } ∷ u ∷ us) ≡ record { first = t; last = l; busy = x } ∷ vs)
        at true = (u.last, us, refl)
        at false = (t, u ∷ us, refl)

-- the first of some stretches begun earlier
with_first : ℕ → List Interval → List Interval
with_first f [] = []
with_first f (v ∷ vs) = record { first = f; last = v.last; busy = v.busy } ∷ vs

open_runs_runs : (busy : Bool) (f t : ℕ) (xs : List Bool) → open_runs busy f t xs ≡ with_first f (runs t (busy ∷ xs))
unfolding open_runs with_first runs join
open_runs_runs busy f t [] = refl
open_runs_runs busy f t (x ∷ xs) = go busy x (runs_head (suc t) x xs) (open_runs_runs busy f (suc t) xs) (open_runs_runs x (suc t) (suc t) xs)
  where
    go : (busy x : Bool) → (l : ℕ) × (vs : List Interval) × (runs (suc t) (x ∷ xs) ≡ record { first = suc t; last = l; busy = x } ∷ vs)
        → open_runs busy f (suc t) xs ≡ with_first f (runs (suc t) (busy ∷ xs)) → open_runs x (suc t) (suc t) xs ≡ with_first (suc t) (runs (suc t) (x ∷ xs))
        → cond (beq busy x) (open_runs busy f (suc t) xs) (record { first = f; last = t; busy = busy } ∷ open_runs x (suc t) (suc t) xs)
        ≡ with_first f (join t busy (runs (suc t) (x ∷ xs)))
    go true true (l, vs, e) same other = same ∙ ap (with_first f) e ∙ sym (ap (λ us. with_first f (join t true us)) e)
    go false false (l, vs, e) same other = same ∙ ap (with_first f) e ∙ sym (ap (λ us. with_first f (join t false us)) e)
    go true false (l, vs, e) same other =
        ap (λ us. record { first = f; last = t; busy = true } ∷ us) (other ∙ ap (with_first (suc t)) e) ∙ sym (ap (λ us. with_first f (join t true us)) e)
    go false true (l, vs, e) same other =
        ap (λ us. record { first = f; last = t; busy = false } ∷ us) (other ∙ ap (with_first (suc t)) e) ∙ sym (ap (λ us. with_first f (join t false us)) e)

-- the stretches of a day, with the idle one without slots
open_runs_stretches : (x : Bool) (xs : List Bool) → open_runs false 1 0 (x ∷ xs) ≡ with_no_slots (runs 1 (x ∷ xs))
unfolding open_runs with_first
open_runs_stretches x xs = go x (runs_head 1 x xs)
  where
    go : (x : Bool) → (l : ℕ) × (vs : List Interval) × (runs 1 (x ∷ xs) ≡ record { first = 1; last = l; busy = x } ∷ vs)
        → cond (beq false x) (open_runs false 1 1 xs) (no_slots ∷ open_runs x 1 1 xs) ≡ with_no_slots (runs 1 (x ∷ xs))
    go false (l, vs, e) = open_runs_runs false 1 1 xs ∙ ap (with_first 1) e ∙ sym (ap with_no_slots e)
    go true (l, vs, e) = ap (λ us. no_slots ∷ us) (open_runs_runs true 1 1 xs ∙ ap (with_first 1) e) ∙ sym (ap with_no_slots e)

-- One blower ------------------------------------------------------------------

beq_same : (x : Bool) → beq x x ≡ true
beq_same true = refl
beq_same false = refl

beq_other : (x : Bool) → beq x (not x) ≡ false
beq_other true = refl
beq_other false = refl

module _ (slots : ℕ) (ds : List Demand) (k : ℕ) (rs : List (ℕ × Interval)) where
  -- the stretches of the blower, from the one that is open in slot t: it began in slot f + 1 under the bounds b₀
  endings_from : (busy : Bool) (f n t : ℕ) (b₀ b : Bounds) → t + n ≡ slots → f ≤ t → b ≡ keep_for k busy (suc f) b₀ (t - f)
      → endings slots ds b₀ (map (λ v. (k, v)) (open_runs busy (suc f) t (busy_from slots ds k busy n t b)) ++ rs)
      ≡ ended_from slots ds k busy (suc f) n t b ++ endings slots ds (settle_from slots ds k busy n t b) rs
  unfolding endings open_runs busy_from ended_from settle_from size
  endings_from busy f zero t b₀ b e l q =
      let n : suc t - suc f ≡ t - f = omega arith in
      rw (le-ltb t slots (omega arith)) (ap (λ c. endings slots ds c rs) (ap (keep_for k busy (suc f) b₀) n ∙ sym q))
  endings_from busy f (suc n) t b₀ b e l q =
      go (feasible_under slots ds (keep_at k busy t b)) refl
      (endings_from busy f n (suc t) b₀ (keep_at k busy t b) (omega arith) (omega arith))
      (endings_from (not busy) t n (suc t) b (keep_at k (not busy) t b) (omega arith) (omega arith))
    where
      -- the bounds with the open stretch one slot longer
      longer : (m : ℕ) → m ≡ suc (t - f) → keep_for k busy (suc f) b₀ m ≡ keep_at k busy t b
      longer m i =
          let here : f + (t - f) ≡ t = omega arith in
          ap (keep_for k busy (suc f) b₀) i ∙ keep_for_more k busy f (t - f) b₀ ∙ ap₂ (keep_at k busy) here (sym q)

      one : keep_at k (not busy) t b ≡ keep_for k (not busy) (suc t) b (suc t - t)
      one =
          let i : suc t - t ≡ 1 = omega arith in
          sym (ap (keep_for k (not busy) (suc t) b) i ∙ keep_for_suc k (not busy) t b 0 ∙ keep_for_none k (not busy) (suc (suc t)) (keep_at k (not busy) t b))

      v : Interval
      v = record { first = suc f; last = t; busy = busy }

      go : (x : Bool) → feasible_under slots ds (keep_at k busy t b) ≡ x
          → (keep_at k busy t b ≡ keep_for k busy (suc f) b₀ (suc t - f)
          → endings slots ds b₀ (map (λ v. (k, v)) (open_runs busy (suc f) (suc t) (busy_from slots ds k busy n (suc t) (keep_at k busy t b))) ++ rs)
          ≡ ended_from slots ds k busy (suc f) n (suc t) (keep_at k busy t b) ++ endings slots ds (settle_from slots ds k busy n (suc t) (keep_at k busy t b)) rs)
          → (keep_at k (not busy) t b ≡ keep_for k (not busy) (suc t) b (suc t - t)
          → endings slots ds b (map (λ v. (k, v)) (open_runs (not busy) (suc t) (suc t) (busy_from slots ds k (not busy) n (suc t) (keep_at k (not busy) t b))) ++ rs)
          ≡ ended_from slots ds k (not busy) (suc t) n (suc t) (keep_at k (not busy) t b)
          ++ endings slots ds (settle_from slots ds k (not busy) n (suc t) (keep_at k (not busy) t b)) rs)
          → endings slots ds b₀ (map (λ v. (k, v)) (open_runs busy (suc f) t (busy_from slots ds k busy (suc n) t b)) ++ rs)
          ≡ ended_from slots ds k busy (suc f) (suc n) t b ++ endings slots ds (settle_from slots ds k busy (suc n) t b) rs
      go true x same other =
          rw (busy_at_stays slots ds k busy t b x, beq_same busy, x) (same (sym (longer (suc t - f) (omega arith))))
      go false x same other =
          let kept : keep_for k busy (suc f) b₀ (suc t - suc f) ≡ b = ap (keep_for k busy (suc f) b₀) (let i : suc t - suc f ≡ t - f = omega arith in i) ∙ sym q in
          rw (busy_at_changes slots ds k busy t b x, beq_other busy, x, lt-ltb t slots (omega arith))
          (ap₂ (λ c us. record { blower = k; stretch = v; longer = c; cause = obstacle slots ds c.low c.high } ∷ us)
          (longer (suc (suc t - suc f)) (omega arith))
          (ap (λ c. endings slots ds c (map (λ v. (k, v)) (open_runs (not busy) (suc t) (suc t) (busy_from slots ds k (not busy) n (suc t) (keep_at k (not busy) t b))) ++ rs)) kept
          ∙ other one))

  -- all of them
  endings_blower : (b : Bounds)
      → endings slots ds b (map (λ v. (k, v)) (with_no_slots (runs 1 (busy_from slots ds k false slots 0 b))) ++ rs)
      ≡ ended_from slots ds k false 1 slots 0 b ++ endings slots ds (settle_from slots ds k false slots 0 b) rs
  unfolding runs busy_from ended_from settle_from
  endings_blower b = go slots refl
    where
      begin : b ≡ keep_for k false 1 b (0 - 0)
      begin = let i : 0 ≡ 0 - 0 = omega arith in sym (keep_for_none k false 1 b) ∙ ap (keep_for k false 1 b) i

      go : (n : ℕ) → n ≡ slots
          → endings slots ds b (map (λ v. (k, v)) (with_no_slots (runs 1 (busy_from slots ds k false n 0 b))) ++ rs)
          ≡ ended_from slots ds k false 1 n 0 b ++ endings slots ds (settle_from slots ds k false n 0 b) rs
      go zero e = refl
      go (suc n) e =
          ap (λ vs. endings slots ds b (map (λ v. (k, v)) vs ++ rs)) (sym (open_runs_stretches _ _))
          ∙ endings_from false 0 (suc n) 0 b b (omega arith) (omega arith) begin

-- nothing comes behind them
endings_alone : (slots : ℕ) (ds : List Demand) (k : ℕ) (b : Bounds)
    → endings slots ds b (map (λ v. (k, v)) (with_no_slots (runs 1 (busy_from slots ds k false slots 0 b)))) ≡ ended_from slots ds k false 1 slots 0 b
unfolding endings
endings_alone slots ds k b =
    ap (endings slots ds b) (sym (append-nil (map (λ v. (k, v)) (with_no_slots (runs 1 (busy_from slots ds k false slots 0 b))))))
    ∙ endings_blower slots ds k [] b ∙ append-nil (ended_from slots ds k false 1 slots 0 b)

-- All blowers -----------------------------------------------------------------

module _ {slots : ℕ} {ds : List Demand} (w : Windows slots ds) where
  endings_each : (m : ℕ) {b : Bounds} → FeasibleDay slots ds b → endings slots ds b (in_order (stretches (settle_each slots ds m b).low) m) ≡ ended_each slots ds m b
  unfolding in_order ended_each endings stretches intervals settle_each
  endings_each zero h = refl
  endings_each (suc m) {b} h =
      let c : Bounds = settle_from slots ds (suc m) false slots 0 b in
      let counts : List ℕ = (settle_each slots ds m c).low in
      ap (λ xs. endings slots ds b (map (λ v. (suc m, v)) (with_no_slots (runs 1 xs)) ++ in_order (stretches counts) m)) (counts_busy_from w m h)
      ∙ endings_blower slots ds (suc m) (in_order (stretches counts) m) b
      ∙ ap (λ es. ended_from slots ds (suc m) false 1 slots 0 b ++ es) (endings_each m (settle_from_possible w (suc m) false slots 0 h (omega arith)))

  -- the stretches of the day that the method settles, each with its cause, are those that it ends slot by slot
  pub endings_settled : (m : ℕ) {b : Bounds} → FeasibleDay slots ds b → endings slots ds b (in_order (stretches (loads slots ds m b)) m) ≡ ended_each slots ds m b
  endings_settled m {b} h = ap (λ counts. endings slots ds b (in_order (stretches counts) m)) (loads_slotwise w m h) ∙ endings_each m h

  settled_each : (m : ℕ) {b : Bounds} → FeasibleDay slots ds b → settled_endings slots ds m b ≡ ended_each slots ds m b
  unfolding settled_endings ended_each
  settled_each zero h = refl
  settled_each (suc m) {b} h =
      ap₂ (λ es fs. es ++ fs)
      (ap (λ vs. endings slots ds b (map (λ v. (suc m, v)) (with_no_slots vs))) (settled_runs_busy_from w (suc m) h) ∙ endings_alone slots ds (suc m) b)
      (ap (settled_endings slots ds m) (settle_slotwise w (suc m) h) ∙ settled_each m (settle_from_possible w (suc m) false slots 0 h (omega arith)))

  -- and those of the runs that the method takes, blower after blower
  pub endings_by_method : (m : ℕ) {b : Bounds} → FeasibleDay slots ds b
      → endings slots ds b (in_order (stretches (loads slots ds m b)) m) ≡ settled_endings slots ds m b
  endings_by_method m h = endings_settled m h ∙ sym (settled_each m h)

  -- The causes are the true ones ----------------------------------------------

  at_explained : (k : ℕ) (busy : Bool) (first t : ℕ) {b : Bounds} → FeasibleDay slots ds b → t < slots → feasible_under slots ds (keep_at k busy t b) ≡ false
      → Explained slots ds (ended_at slots ds k busy first t b)
  at_explained k busy first t {b} h l e =
      let z = keep_at_sized k busy t h.sized in
      record {
        before_end = l;
        none_sound = λ p s. false≢true (sym e ∙ sound_possible w z s);
        true_cause = is_cause w (keep_at k busy t b).low (keep_at k busy t b).high z.each_low z.each_high e;
        of_day = length_obstacle w (keep_at k busy t b).low (keep_at k busy t b).high z.each_low z.each_high;
        of_kind = kind busy e;
      }
    where
      flip : {A B : Type 0} → A ⊎ B → B ⊎ A
      flip (inl a) = inr a
      flip (inr a) = inl a

      kind : (busy : Bool) → feasible_under slots ds (keep_at k busy t b) ≡ false
          → CauseOfKind busy (obstacle slots ds (keep_at k busy t b).low (keep_at k busy t b).high).number
      kind false e = flip (lower_number w b.low b.high h.sized.each_low h.sized.each_high h.possible (keep_at k false t b).high (keep_at_sized k false t h.sized).each_high e)
      kind true e = flip (higher_number w b.low b.high h.sized.each_low h.sized.each_high h.possible (keep_at k true t b).low (keep_at_sized k true t h.sized).each_low e)

  from_explained : (k : ℕ) (busy : Bool) (first n t : ℕ) {b : Bounds} → FeasibleDay slots ds b → t + n ≡ slots
      → (v : EndedStretch) → Memᴰ v (ended_from slots ds k busy first n t b) → Explained slots ds v
  unfolding ended_from
  from_explained k busy first zero t h e v m = absurd (Memᴰ.not-nil m)
  from_explained k busy first (suc n) t {b} h e v m =
      go (feasible_under slots ds (keep_at k busy t b)) refl m
      (λ x f g. from_explained k x f n (suc t) {b = keep_at k x t b} g (omega arith) v)
    where
      keeps : (x : Bool) → feasible_under slots ds (keep_at k x t b) ≡ true → FeasibleDay slots ds (keep_at k x t b)
      keeps x q = record { sized = keep_at_sized k x t h.sized; possible = q }

      go : (x : Bool) → feasible_under slots ds (keep_at k busy t b) ≡ x
          → Memᴰ v (cond x (ended_from slots ds k busy first n (suc t) (keep_at k busy t b))
          (ended_at slots ds k busy first t b ∷ ended_from slots ds k (not busy) (suc t) n (suc t) (keep_at k (not busy) t b)))
          → ((x : Bool) (f : ℕ) → FeasibleDay slots ds (keep_at k x t b) → Memᴰ v (ended_from slots ds k x f n (suc t) (keep_at k x t b)) → Explained slots ds v)
          → Explained slots ds v
      go true q i ih = ih busy first (keeps busy q) i
      go false q i ih = at (Memᴰ.cases_cons i)
        where
          at : (v ≡ ended_at slots ds k busy first t b) ⊎ Memᴰ v (ended_from slots ds k (not busy) (suc t) n (suc t) (keep_at k (not busy) t b)) → Explained slots ds v
          at (inl p) = subst (Explained slots ds) (sym p) (at_explained k busy first t h (omega arith) q)
          at (inr j) = ih (not busy) (suc t) (keeps (not busy) (other_possible w k busy t h (omega arith) q)) j

  each_explained : (m : ℕ) {b : Bounds} → FeasibleDay slots ds b → (v : EndedStretch) → Memᴰ v (ended_each slots ds m b) → Explained slots ds v
  unfolding ended_each
  each_explained zero h v i = absurd (Memᴰ.not-nil i)
  each_explained (suc m) {b} h v i =
      go (Memᴰ.append_cases (ended_from slots ds (suc m) false 1 slots 0 b) i)
      (each_explained m (settle_from_possible w (suc m) false slots 0 h (omega arith)) v)
    where
      go : Memᴰ v (ended_from slots ds (suc m) false 1 slots 0 b) ⊎ Memᴰ v (ended_each slots ds m (settle_from slots ds (suc m) false slots 0 b))
          → (Memᴰ v (ended_each slots ds m (settle_from slots ds (suc m) false slots 0 b)) → Explained slots ds v) → Explained slots ds v
      go (inl j) ih = from_explained (suc m) false 1 slots 0 h (omega arith) v j
      go (inr j) ih = ih j

  -- every stretch that ends before slot D has one of the three causes, and it is the true one
  pub endings_explained : (m : ℕ) {b : Bounds} → FeasibleDay slots ds b
      → (v : EndedStretch) → Memᴰ v (endings slots ds b (in_order (stretches (loads slots ds m b)) m)) → Explained slots ds v
  endings_explained m h v i = each_explained m h v (subst (Memᴰ v) (endings_settled m h) i)

-- Which stretches they are ----------------------------------------------------

-- those of the stretches given that end before the last slot
pub endings_kept : (slots : ℕ) (ds : List Demand) (b : Bounds) (rs : List (ℕ × Interval))
    → map (λ e. (e.blower, e.stretch)) (endings slots ds b rs) ≡ keep (λ r. ltb r.1.last slots) rs
unfolding endings
endings_kept slots ds b [] = refl
endings_kept slots ds b (r ∷ rs) =
    go (ltb r.1.last slots) (endings_kept slots ds (keep_for r.0 r.1.busy r.1.first b (size r.1)) rs)
  where
    c : Bounds
    c = keep_for r.0 r.1.busy r.1.first b (suc (size r.1))

    es : List EndedStretch
    es = endings slots ds (keep_for r.0 r.1.busy r.1.first b (size r.1)) rs

    go : (x : Bool) → map (λ e. (e.blower, e.stretch)) es ≡ keep (λ r. ltb r.1.last slots) rs
        → map (λ e. (e.blower, e.stretch)) (cond x (record { blower = r.0; stretch = r.1; longer = c; cause = obstacle slots ds c.low c.high } ∷ []) [] ++ es)
        ≡ cond x (r ∷ []) [] ++ keep (λ r. ltb r.1.last slots) rs
    go true ih = ap (λ l. r ∷ l) ih
    go false ih = ih

-- they are among those given
pub endings_given : (slots : ℕ) (ds : List Demand) (b : Bounds) (rs : List (ℕ × Interval)) (e : EndedStretch) → Memᴰ e (endings slots ds b rs)
    → Memᴰ (e.blower, e.stretch) rs
unfolding endings
endings_given slots ds b [] e i = absurd (Memᴰ.not-nil i)
endings_given slots ds b (r ∷ rs) e i =
    go (ltb r.1.last slots) (Memᴰ.append_cases _ i) (endings_given slots ds (keep_for r.0 r.1.busy r.1.first b (size r.1)) rs e)
  where
    c : Bounds
    c = keep_for r.0 r.1.busy r.1.first b (suc (size r.1))

    go : (x : Bool) → Memᴰ e (cond x (record { blower = r.0; stretch = r.1; longer = c; cause = obstacle slots ds c.low c.high } ∷ []) [])
        ⊎ Memᴰ e (endings slots ds (keep_for r.0 r.1.busy r.1.first b (size r.1)) rs)
        → (Memᴰ e (endings slots ds (keep_for r.0 r.1.busy r.1.first b (size r.1)) rs) → Memᴰ (e.blower, e.stretch) rs)
        → Memᴰ (e.blower, e.stretch) (r ∷ rs)
    go x (inr j) ih = Memᴰ.tail (ih j)
    go false (inl j) ih = absurd (Memᴰ.not-nil j)
    go true (inl j) ih = Memᴰ.head (ap (λ (v : EndedStretch). (v.blower, v.stretch)) (Memᴰ.eq_of_singleton j))

-- those of blowers k, k − 1, .., 1
pub in_order_blower : (of : ℕ → List Interval) (k : ℕ) (r : ℕ × Interval) → Memᴰ r (in_order of k) → (1 ≤ r.0) × (r.0 ≤ k)
unfolding in_order
in_order_blower of zero r i = absurd (Memᴰ.not-nil i)
in_order_blower of (suc k) r i = go (Memᴰ.append_cases (map (λ v. (suc k, v)) (of (suc k))) i) (in_order_blower of k r)
  where
    here : (vs : List Interval) → Memᴰ r (map (λ v. (suc k, v)) vs) → r.0 ≡ suc k
    here [] j = absurd (Memᴰ.not-nil j)
    here (v ∷ vs) j = at (Memᴰ.cases_cons j) (here vs)
      where
        at : (r ≡ (suc k, v)) ⊎ Memᴰ r (map (λ v. (suc k, v)) vs) → (Memᴰ r (map (λ v. (suc k, v)) vs) → r.0 ≡ suc k) → r.0 ≡ suc k
        at (inl p) ih = ap (λ (x : ℕ × Interval). x.0) p
        at (inr j) ih = ih j

    go : Memᴰ r (map (λ v. (suc k, v)) (of (suc k))) ⊎ Memᴰ r (in_order of k)
        → (Memᴰ r (in_order of k) → (1 ≤ r.0) × (r.0 ≤ k)) → (1 ≤ r.0) × (r.0 ≤ suc k)
    go (inl j) ih = let e = here (of (suc k)) j in (omega arith, omega arith)
    go (inr j) ih = let b = ih j in (b.0, omega (arith, b.1))

-- only the stretches of the blowers at hand matter
pub in_order_same : (of of' : ℕ → List Interval) (k : ℕ) → ((j : ℕ) → 1 ≤ j → j ≤ k → of j ≡ of' j) → in_order of k ≡ in_order of' k
unfolding in_order
in_order_same of of' zero h = refl
in_order_same of of' (suc k) h =
    ap₂ (λ vs rs. map (λ v. (suc k, v)) vs ++ rs) (h (suc k) (omega arith) (omega arith)) (in_order_same of of' k (λ j o l. h j o (omega arith)))
