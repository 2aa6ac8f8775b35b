-- The theorems about the look-up by tank. Assumes nothing.
use Rattle.std.specs.Prelude.{◌≡◌, refl, List, [], ℕ, ◌+◌, ◌-◌, ◌*◌, ◌≤◌, ◌<◌}
use Rattle.std.proofs.Common.{◌∙◌, arith}
use Rattle.common.specs.Lists.{part}
use Rattle.line.specs.Layout.{line_bytes}
use Rattle.line.specs.Line.{value_at}
use Rattle.checks.specs.Sheet.{line_count, line_at}
use Rattle.checks.specs.Checks.{faults}
use Rattle.lookup.specs.LookUp.{look_up, first_line, place_of}
use Rattle.lookup.specs.Parts.{line_after}
use Rattle.lookup.proofs.LookUpLaws.{look_up_accepted, look_up_refused, faults_look_up, look_up_none}
use Rattle.lookup.proofs.FindLaws.{AllHave, NoneHas, tank_lines_none, tank_lines_some}
use Rattle.lookup.proofs.FindSteps.{between, before_or_past, place_part}

-- A look-up gives all lines of the tank, as one part of the sheet: those from line f up to, not including, line a, the
-- head line being line 0. No other line has the tank (`AllHave` and `NoneHas`, of FindLaws, are over the same lines).
pub record IsLinesOf (b : List ℕ) (tank f a : ℕ) : Type 0 where
  pub first : 1 ≤ f
  pub some : f < a
  pub last : a ≤ line_count b
  pub all : AllHave b tank f a
  pub before : NoneHas b tank 1 f
  pub past : NoneHas b tank a (line_count b)
  pub lines : look_up b tank ≡ part (line_bytes * f) (line_bytes * a) b

-- It does so where a line has the tank, ..
pub find_lines : (b : List ℕ) (tank i : ℕ) → faults b ≡ [] → 1 ≤ i → i < line_count b → value_at (line_at b i) 0 ≡ tank → (f : ℕ) × (a : ℕ) × IsLinesOf b tank f a
find_lines b tank i e p q t =
    let h = between b tank e _ _ refl refl in
    let f = first_line b tank 1 (line_count b - 1) in
    let a = line_after b tank f (line_count b - f) in (
      f,
      a,
      record {
        first = h.least;
        some = before_or_past b tank f a i h p q t;
        last = h.most;
        all = h.all;
        before = h.before;
        past = h.past;
        lines = h.lines;
      },
    )

-- .. and nothing else: what is not empty is of a sheet without a fault, on which a line has the tank.
pub find_only : (b : List ℕ) (tank : ℕ) → (look_up b tank ≡ [] → ⊥) → (faults b ≡ []) × (i : ℕ) × (1 ≤ i) × (i < line_count b) × (value_at (line_at b i) 0 ≡ tank)
find_only b tank h =
    let e = faults_look_up b tank h in
    let r = tank_lines_some b tank 1 (line_count b - 1) (λ z. h (look_up_accepted b tank e ∙ z)) in
    (e, r.0, r.1, omega (arith, r.2), r.3)

-- It is empty where no line has the tank, ..
pub find_none : (b : List ℕ) (tank : ℕ) → ((i : ℕ) → 1 ≤ i → i < line_count b → value_at (line_at b i) 0 ≡ tank → ⊥) → look_up b tank ≡ []
find_none b tank h = look_up_none b tank (tank_lines_none b tank 1 (line_count b - 1) (λ k p q t. h k p (omega arith) t))

-- .. and where the sheet is refused.
pub find_refused : (b : List ℕ) (tank : ℕ) → (faults b ≡ [] → ⊥) → look_up b tank ≡ []
find_refused b tank h = look_up_refused b tank h

-- The place that is answered has these bytes.
pub find_place : (b : List ℕ) (tank : ℕ) → part (place_of b tank).start ((place_of b tank).start + (place_of b tank).length) b ≡ look_up b tank
find_place = place_part
