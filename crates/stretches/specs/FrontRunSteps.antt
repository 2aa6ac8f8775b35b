-- How the search for the end of a stretch goes on by one slot. Assumes nothing.
use Rattle.std.specs.Prelude.{◌≡◌, refl, Bool, true, false, not, cond, List, [], ℕ, suc, ◌+◌, ◌≤◌, ◌<◌, leb, length, get_or}
use Rattle.std.proofs.Common.{sym, ◌∙◌, arith}
use Rattle.std.proofs.Math.Path.{ap}
use Rattle.std.specs.Bool.{beq}
use Rattle.common.specs.ListLaws.{part_none}
use Rattle.method.specs.FrontRunLaws.{busy_from, front_run, EndsAt}
use Rattle.method.proofs.FrontRunLaws.{busy_from_cons, ends_at_front_run}

-- the counts of a day's slots, and a place in the day
pub record CanScan (counts : List ℕ) (slots from : ℕ) : Type 0 where
  pub long : slots ≤ length counts
  pub in_day : from < slots

-- the stretch that begins after place `from` goes on to place `end` at least
pub record Within (counts : List ℕ) (slots k from end : ℕ) (busy : Bool) : Type 0 where
  pub state : busy ≡ leb k (get_or counts from 0)
  pub after : from < end
  pub in_day : end ≤ slots
  pub so_far : front_run busy (busy_from counts slots k (from + 1)) + (from + 1) ≡ front_run busy (busy_from counts slots k end) + end

module _ (counts : List ℕ) (slots k from : ℕ) (busy : Bool) (can : CanScan counts slots from) where
  pub within_begin : busy ≡ leb k (get_or counts from 0) → Within counts slots k from (from + 1) busy
  within_begin e = record { state = e; after = omega arith; in_day = omega arith; so_far = refl }

  module _ (end : ℕ) (w : Within counts slots k from end busy) where
    front_run_next : end < slots
        → front_run busy (busy_from counts slots k end) ≡ cond (beq busy (leb k (get_or counts end 0))) (suc (front_run busy (busy_from counts slots k (end + 1)))) 0
    unfolding front_run
    front_run_next h = ap (front_run busy) (busy_from_cons counts slots k end h (omega arith))

    pub within_more : end < slots → beq busy (leb k (get_or counts end 0)) ≡ true → Within counts slots k from (end + 1) busy
    within_more h e =
        let n : front_run busy (busy_from counts slots k end) ≡ suc (front_run busy (busy_from counts slots k (end + 1))) = front_run_next h ∙ ap (λ b. cond b (suc (front_run busy (busy_from counts slots k (end + 1)))) 0) e in
        record { state = w.state; after = omega arith; in_day = omega arith; so_far = omega (arith, w.so_far) }

    ends : front_run busy (busy_from counts slots k end) ≡ 0 → EndsAt counts slots k from end
    ends z =
        ends_at_front_run counts slots k from end w.after w.in_day (omega arith)
        (ap (λ b. front_run b (busy_from counts slots k (from + 1)) + (from + 1)) (sym w.state) ∙ omega (arith, w.so_far, z))

    pub ends_changed : end < slots → beq busy (leb k (get_or counts end 0)) ≡ false → EndsAt counts slots k from end
    ends_changed h e = ends (front_run_next h ∙ ap (λ b. cond b (suc (front_run busy (busy_from counts slots k (end + 1)))) 0) e)

    pub ends_day : slots ≤ end → EndsAt counts slots k from end
    unfolding front_run
    ends_day h = ends (ap (λ n. front_run busy (busy_from counts n k end)) last ∙ ap (λ l. front_run busy l) nothing)
      where
        last : slots ≡ end
        last = omega (arith, w.in_day)

        nothing : busy_from counts end k end ≡ []
        nothing = rw (part_none counts end)

-- ---- the test whether a slot is as the stretch is

pub beq_turned : (busy here : Bool) → beq busy here ≡ not (not (beq here busy))
beq_turned true true = refl
beq_turned true false = refl
beq_turned false true = refl
beq_turned false false = refl
