-- A run of no slots changes no bound, and no run changes how many bounds there are. Assumes nothing.
use Rattle.std.specs.Prelude.{◌≡◌}
use Rattle.std.proofs.Math.Path.{ap}
use Rattle.std.proofs.Common.{◌∙◌}
use Rattle.std.proofs.Math.Bool.{Bool, true, false}
use mathlib.Core.List.{List}
use Prim.Native.Nat.{ℕ}
use Rattle.method.specs.Method.{Bounds, Sized, idle_for, busy_for, keep_for}
use Rattle.method.proofs.RunLaws.{length_on_run, on_run_none}

module _ (k : ℕ) where
  pub keep_for_none : (busy : Bool) (t : ℕ) (b : Bounds) → keep_for k busy t b 0 ≡ b
  unfolding idle_for busy_for
  keep_for_none false t b = ap (λ (xs : List ℕ). record { low = b.low; high = xs }) (on_run_none t _ b.high)
  keep_for_none true t b = ap (λ (xs : List ℕ). record { low = xs; high = b.high }) (on_run_none t _ b.low)

  pub keep_for_sized : {slots : ℕ} (busy : Bool) (t : ℕ) {b : Bounds} (n : ℕ) → Sized slots b → Sized slots (keep_for k busy t b n)
  unfolding idle_for busy_for
  keep_for_sized false t {b} n s = record { each_low = s.each_low; each_high = length_on_run t n _ b.high ∙ s.each_high }
  keep_for_sized true t {b} n s = record { each_low = length_on_run t n _ b.low ∙ s.each_low; each_high = s.each_high }
