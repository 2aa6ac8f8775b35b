-- What a look-up gives of a sheet without a fault, and of a refused one. Assumes nothing.
use Rattle.std.specs.Prelude.{◌≡◌, refl, Bool, true, false, cond, List, [], ℕ, ◌-◌, eqb}
use Rattle.std.proofs.Common.{eqb-true, ne_eqb}
use Rattle.checks.specs.Sheet.{line_count}
use Rattle.checks.specs.Checks.{first_refusal, faults}
use Rattle.checks.specs.FaultLaws.{numbered_faults}
use Rattle.lookup.specs.LookUp.{tank_lines, look_up}

pub look_up_accepted : (b : List ℕ) (tank : ℕ) → faults b ≡ [] → look_up b tank ≡ tank_lines b tank 1 (line_count b - 1)
unfolding look_up first_refusal
look_up_accepted b tank e = rw e

pub look_up_refused : (b : List ℕ) (tank : ℕ) → (faults b ≡ [] → ⊥) → look_up b tank ≡ []
unfolding look_up
look_up_refused b tank h = rw (ne_eqb (first_refusal (faults b)).number 0 (λ e. h (numbered_faults b e)))

-- a look-up that gives something has a sheet without a fault
pub faults_look_up : (b : List ℕ) (tank : ℕ) → (look_up b tank ≡ [] → ⊥) → faults b ≡ []
unfolding look_up
faults_look_up b tank h = go (eqb (first_refusal (faults b)).number 0) refl h
  where
    go : (t : Bool) → eqb (first_refusal (faults b)).number 0 ≡ t → (cond t (tank_lines b tank 1 (line_count b - 1)) [] ≡ [] → ⊥) → faults b ≡ []
    go true q k = numbered_faults b (eqb-true (first_refusal (faults b)).number 0 q)
    go false q k = absurd (k refl)

pub look_up_none : (b : List ℕ) (tank : ℕ) → tank_lines b tank 1 (line_count b - 1) ≡ [] → look_up b tank ≡ []
unfolding look_up
look_up_none b tank e = go (eqb (first_refusal (faults b)).number 0)
  where
    go : (t : Bool) → cond t (tank_lines b tank 1 (line_count b - 1)) [] ≡ []
    go true = e
    go false = refl
