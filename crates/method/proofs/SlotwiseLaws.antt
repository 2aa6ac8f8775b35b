-- The method slot by slot is the method by longest runs. A turn of `settle` is an idle run and a busy one; here they
-- are taken one run at a time, and each run one slot at a time. Every run but the first is not empty, since where a
-- blower cannot be idle it can be busy and the other way round; so the turns suffice. Assumes nothing.
use Rattle.std.specs.Prelude.{◌≡◌, not}
use Rattle.std.proofs.Math.Path.{refl, ap, ap₂, fun_ext}
use Rattle.std.proofs.Common.{sym, ◌∙◌}
use Rattle.std.proofs.Math.Bool.{Bool, true, false}
use Rattle.std.proofs.lemmas.Bool.{false≢true}
use mathlib.Core.List.{List}
use Prim.Native.Nat.{ℕ, zero, suc, ◌+◌, ◌-◌, ◌≤◌, ◌<◌, min, max}
use native.Mathlib.Omega.{arith}
use Rattle.schedules.specs.Schedules.{Demand, Windows}
use Rattle.method.specs.Method.{Bounds, Sized, FeasibleDay, idle_for, busy_for, keep_for, longest, idle_run, busy_run, feasible_under, settle}
use Rattle.method.specs.Slotwise.{keep_at, settle_from}
use Rattle.method.proofs.RunLaws.{length_on_run, on_run_none, on_run_suc}
use Rattle.method.proofs.KeepForLaws.{keep_for_none, keep_for_sized}
use Rattle.method.proofs.LongestLaws.{longest_zero, longest_none, longest_suc}
use Rattle.method.proofs.StepLaws.{Tighter, tighter_refl, tighter_trans, keep_at_sized, keep_at_tighter, tighter_possible, other_possible, settle_from_stays, settle_from_changes}

-- A run, idle or busy ---------------------------------------------------------

module _ (k : ℕ) where
  pub keep_for_suc : (busy : Bool) (t : ℕ) (b : Bounds) (n : ℕ) → keep_for k busy (suc t) b (suc n) ≡ keep_for k busy (suc (suc t)) (keep_at k busy t b) n
  unfolding idle_for busy_for
  keep_for_suc false t b n = ap (λ (xs : List ℕ). record { low = b.low; high = xs }) (on_run_suc t n (min (k - 1)) b.high)
  keep_for_suc true t b n = ap (λ (xs : List ℕ). record { low = xs; high = b.high }) (on_run_suc t n (max k) b.low)

  -- a longer run is a stronger bound
  pub keep_for_tighter : {slots : ℕ} (busy : Bool) (t : ℕ) (b : Bounds) (n : ℕ) → Tighter slots b (keep_for k busy (suc t) b n)
  keep_for_tighter busy t b zero = rw (keep_for_none k busy (suc t) b) tighter_refl
  keep_for_tighter busy t b (suc n) =
      rw (keep_for_suc busy t b n) (tighter_trans (keep_at_tighter k busy t b) (keep_for_tighter busy (suc t) (keep_at k busy t b) n))

-- One run at a time -----------------------------------------------------------

-- two runs a turn
unfoldable pub double : ℕ → ℕ
double zero = zero
double (suc n) = suc (suc (double n))

pub double_is : (n : ℕ) → double n ≡ n + n
unfolding double
double_is zero = refl
double_is (suc n) = omega (arith, double_is n)

module _ (slots : ℕ) (ds : List Demand) (k : ℕ) where
  -- the longest run from slot t on
  unfoldable pub run : (busy : Bool) (t : ℕ) → Bounds → ℕ
  run busy t b = longest (λ n. feasible_under slots ds (keep_for k busy t b n)) (suc slots - t)

  -- so many runs from slot t on
  unfoldable pub alternate : (busy : Bool) (runs t : ℕ) → Bounds → Bounds
  alternate busy zero t b = b
  alternate busy (suc runs) t b = alternate (not busy) runs (t + run busy t b) (keep_for k busy t b (run busy t b))

  settle_alternate : (turns t : ℕ) (b : Bounds) → settle slots ds k turns t b ≡ alternate false (double turns) t b
  unfolding settle idle_run busy_run alternate run double
  settle_alternate zero t b = refl
  settle_alternate (suc turns) t b = settle_alternate turns _ _

module _ {slots : ℕ} {ds : List Demand} (w : Windows slots ds) (k : ℕ) where
  module _ (busy : Bool) (t : ℕ) (b : Bounds) where
    one_slot_lem : feasible_under slots ds (keep_for k busy (suc t) b 1) ≡ feasible_under slots ds (keep_at k busy t b)
    one_slot_lem = ap (feasible_under slots ds) (keep_for_suc k busy t b 0 ∙ keep_for_none k busy (suc (suc t)) (keep_at k busy t b))

    -- a slot more is possible: the run has it, and goes on after it
    pub run_stays : t < slots → feasible_under slots ds (keep_at k busy t b) ≡ true
        → run slots ds k busy (suc t) b ≡ suc (run slots ds k busy (suc (suc t)) (keep_at k busy t b))
    unfolding run
    run_stays l e =
        ap (longest test) left ∙ longest_suc test (one_slot_lem ∙ e) _
        ∙ ap (λ f. suc (longest f (suc slots - suc (suc t)))) (fun_ext (λ n. ap (feasible_under slots ds) (keep_for_suc k busy t b n)))
      where
        test : ℕ → Bool
        test n = feasible_under slots ds (keep_for k busy (suc t) b n)

        left : suc slots - suc t ≡ suc (suc slots - suc (suc t))
        left = omega arith

    -- it is not possible: the run is empty
    pub run_changes : Sized slots b → feasible_under slots ds (keep_at k busy t b) ≡ false → run slots ds k busy (suc t) b ≡ 0
    unfolding run
    run_changes z e = longest_none test longer (suc slots - suc t)
      where
        test : ℕ → Bool
        test n = feasible_under slots ds (keep_for k busy (suc t) b n)

        longer : (n : ℕ) → test (suc n) ≡ false
        longer n = go (test (suc n)) refl
          where
            go : (x : Bool) → test (suc n) ≡ x → x ≡ false
            go false q = refl
            go true q =
                absurd (false≢true (sym e
                ∙ (tighter_possible w (keep_at_sized k busy t z) (rw (keep_for_suc k busy t b n) (keep_for_tighter k busy (suc t) (keep_at k busy t b) n))
                (record { sized = keep_for_sized k busy (suc t) (suc n) z; possible = q })).possible))

  -- past the last slot every run is empty
  pub run_past : (busy : Bool) (b : Bounds) → run slots ds k busy (suc slots) b ≡ 0
  unfolding run
  run_past busy b = ap (longest test) none ∙ longest_zero test
    where
      test : ℕ → Bool
      test n = feasible_under slots ds (keep_for k busy (suc slots) b n)

      none : suc slots - suc slots ≡ 0
      none = omega arith

  -- Each run one slot at a time -----------------------------------------------

  module _ (busy : Bool) (runs t : ℕ) (b : Bounds) where
    alternate_stays : t < slots → feasible_under slots ds (keep_at k busy t b) ≡ true
        → alternate slots ds k busy (suc runs) (suc t) b ≡ alternate slots ds k busy (suc runs) (suc (suc t)) (keep_at k busy t b)
    unfolding alternate
    alternate_stays l e =
        ap (λ n. alternate slots ds k (not busy) runs (suc t + n) (keep_for k busy (suc t) b n)) (run_stays busy t b l e)
        ∙ ap₂ (alternate slots ds k (not busy) runs) (later (run slots ds k busy (suc (suc t)) (keep_at k busy t b))) (keep_for_suc k busy t b _)
      where
        later : (n : ℕ) → suc t + suc n ≡ suc (suc t) + n
        later n = omega arith

    alternate_changes : Sized slots b → feasible_under slots ds (keep_at k busy t b) ≡ false
        → alternate slots ds k busy (suc runs) (suc t) b ≡ alternate slots ds k (not busy) runs (suc t) b
    unfolding alternate
    alternate_changes z e =
        ap (λ n. alternate slots ds k (not busy) runs (suc t + n) (keep_for k busy (suc t) b n)) (run_changes busy t b z e)
        ∙ ap₂ (alternate slots ds k (not busy) runs) here (keep_for_none k busy (suc t) b)
      where
        here : suc t + 0 ≡ suc t
        here = omega arith

  alternate_past : (busy : Bool) (runs : ℕ) (b : Bounds) → alternate slots ds k busy runs (suc slots) b ≡ b
  unfolding alternate
  alternate_past busy zero b = refl
  alternate_past busy (suc runs) b =
      ap (λ n. alternate slots ds k (not busy) runs (suc slots + n) (keep_for k busy (suc slots) b n)) (run_past busy b)
      ∙ ap₂ (alternate slots ds k (not busy) runs) here (keep_for_none k busy (suc slots) b) ∙ alternate_past (not busy) runs b
    where
      here : suc slots + 0 ≡ suc slots
      here = omega arith

  -- n slots are left after slot t, and so many runs are enough for them
  alternate_slotwise : (busy : Bool) (n runs t : ℕ) {b : Bounds} → FeasibleDay slots ds b → t + n ≡ slots → n ≤ runs - 1
      → alternate slots ds k busy runs (suc t) b ≡ settle_from slots ds k busy n t b
  unfolding settle_from
  alternate_slotwise busy zero runs t {b} h e m =
      let q : t ≡ slots = omega arith in ap (λ i. alternate slots ds k busy runs (suc i) b) q ∙ alternate_past busy runs b
  alternate_slotwise busy (suc n) zero t h e m = absurd (omega arith)
  alternate_slotwise busy (suc n) (suc zero) t h e m = absurd (omega arith)
  alternate_slotwise busy (suc n) (suc (suc runs)) t {b} h e m =
      go (feasible_under slots ds (keep_at k busy t b)) refl
      (λ x r f. alternate_slotwise x n (suc r) (suc t) {b = keep_at k x t b} f (omega arith))
    where
      l : t < slots
      l = omega arith

      keeps : (x : Bool) → feasible_under slots ds (keep_at k x t b) ≡ true → FeasibleDay slots ds (keep_at k x t b)
      keeps x q = record { sized = keep_at_sized k x t h.sized; possible = q }

      go : (x : Bool) → feasible_under slots ds (keep_at k busy t b) ≡ x
          → ((x : Bool) (r : ℕ) → FeasibleDay slots ds (keep_at k x t b) → n ≤ suc r - 1
          → alternate slots ds k x (suc r) (suc (suc t)) (keep_at k x t b) ≡ settle_from slots ds k x n (suc t) (keep_at k x t b))
          → alternate slots ds k busy (suc (suc runs)) (suc t) b ≡ settle_from slots ds k busy (suc n) t b
      go true q ih = alternate_stays busy (suc runs) t b l q ∙ ih busy (suc runs) (keeps busy q) (omega arith) ∙ sym (settle_from_stays slots ds k busy t b n q)
      go false q ih =
          let o = other_possible w k busy t h l q in
          alternate_changes busy (suc runs) t b h.sized q ∙ alternate_stays (not busy) runs t b l o ∙ ih (not busy) runs (keeps (not busy) o) (omega arith)
          ∙ sym (settle_from_changes slots ds k busy t b n q)

  -- the slotwise form settles what the method settles
  pub settle_slotwise : {b : Bounds} → FeasibleDay slots ds b → settle slots ds k slots 1 b ≡ settle_from slots ds k false slots 0 b
  settle_slotwise {b} h =
      settle_alternate slots ds k slots 1 b
      ∙ alternate_slotwise false slots (double slots) 0 h (omega arith) (omega (arith, double_is slots))
