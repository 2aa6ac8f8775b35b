-- When an idle stretch is off. Assumes nothing.
use Rattle.std.proofs.Math.Path.{◌≡◌, refl}
use Rattle.std.specs.Prelude.{◌↔◌, Bool, cond, ℕ, ◌≤◌}
use Rattle.std.proofs.Math.Bool.{true, false}
use Rattle.std.proofs.Common.{arith}
use Rattle.std.proofs.Math.Dec.{leb}
use borrow.Author.Tests.{le-leb, leb-true}
use Rattle.method.specs.Intervals.{Interval, size}
use Rattle.energy.specs.Energy.{at_end, state}

module _ (slots wake : ℕ) (v : Interval) (idle : v.busy ≡ false) where
  -- At an end of the day an idle stretch is off at any length, a whole idle day included.
  pub off_at_ends : at_end slots v ≡ true → state slots wake v ≡ 0
  unfolding state at_end
  off_at_ends e = rw (idle, e)

  -- Within the day it is off exactly with at least q slots.
  pub off_within : at_end slots v ≡ false → (state slots wake v ≡ 0) ↔ (wake ≤ size v)
  unfolding state at_end size
  off_within e = (λ z. go (leb wake (size v)) refl (rw (idle, e) at z), λ l. rw (idle, e, le-leb wake (size v) l))
    where
      go : (c : Bool) → leb wake (size v) ≡ c → ◌≡◌ {A = ℕ} (cond c 0 1) 0 → wake ≤ size v
      go true f z = leb-true wake (size v) f
      go false f z = absurd (omega arith)
