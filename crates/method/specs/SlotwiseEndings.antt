-- The stretches that end before the day's last slot, with their causes, slot by slot: the form that code follows.
-- EndingLaws.antt shows that they are those of Endings.antt. Definitions only. Assumes nothing.
use Rattle.std.specs.Prelude.{Bool, false, not, cond, List, [], ◌∷◌, ◌++◌, ℕ, zero, suc}
use Rattle.schedules.specs.Schedules.{Demand}
use Rattle.schedules.specs.Causes.{obstacle}
use Rattle.method.specs.Method.{Bounds, feasible_under}
use Rattle.method.specs.Slotwise.{keep_at, settle_from}
use Rattle.method.specs.Endings.{EndedStretch}

module _ (slots : ℕ) (ds : List Demand) where
  -- the stretch of blower k from slot `first` to slot t, which can't have slot t + 1
  abbrev pub ended_at : (k : ℕ) (busy : Bool) (first t : ℕ) → Bounds → EndedStretch
  ended_at k busy first t b =
      record {
        blower = k;
        stretch = record { first = first; last = t; busy = busy };
        longer = keep_at k busy t b;
        cause = obstacle slots ds (keep_at k busy t b).low (keep_at k busy t b).high;
      }

  -- blower k in the n slots after slot t; the stretch up to slot t, idle or busy, began in slot `first`
  unfoldable pub ended_from : (k : ℕ) (busy : Bool) (first n t : ℕ) → Bounds → List EndedStretch
  ended_from k busy first zero t b = []
  ended_from k busy first (suc n) t b =
      cond (feasible_under slots ds (keep_at k busy t b)) (ended_from k busy first n (suc t) (keep_at k busy t b))
      (ended_at k busy first t b ∷ ended_from k (not busy) (suc t) n (suc t) (keep_at k (not busy) t b))

  -- blowers k, k − 1, .., 1
  unfoldable pub ended_each : ℕ → Bounds → List EndedStretch
  ended_each zero b = []
  ended_each (suc k) b = ended_from (suc k) false 1 slots 0 b ++ ended_each k (settle_from slots ds (suc k) false slots 0 b)
