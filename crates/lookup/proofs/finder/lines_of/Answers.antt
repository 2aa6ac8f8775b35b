-- `lookup::finder::lines_of` meets its contract. The first search stops at the tank's first line, the second at the
-- first line after it that is not of the tank. Assumes nothing.
use Rattle.std.proofs.Common.{rules, ◌≡◌, ◌-◌, ◌<◌, ap, sym, ◌∙◌, arith, []}
use Rattle.std.proofs.lemmas.Iterator.{first_from_Range}
use Rattle.std.specs.Option.{unwrap_or}
use Rattle.checks.specs.Sheet.{line_count}
use Rattle.checks.specs.Checks.{faults}
use Rattle.lookup.specs.Parts.{nowhere}
use Rattle.lookup.proofs.FindLaws.{First, After}
use Rattle.lookup.proofs.FindSteps.{tank_on, first_missing, first_found, after_found, read_accepted, read_refused, place_missing, place_found, Between, found}
use Rattle.lookup.proofs.finder.lines_of.Goals as goal

pub returns-in_err-ok : goal.returns-in_err-ok
returns-in_err-ok c =
    ap (λ r. unwrap_or r nowhere) c.from_residual.ensures
    ∙ read_refused c.args.b.now c.args.tank c.read_sheet.result c.read_sheet.ensures (sym c.ok.ensures.value ∙ c.in_err-ok.was)

pub returns-in_err-first : goal.returns-in_err-first
unfolding line_count
returns-in_err-first c =
    let f = first_from_Range _ _ _ c.find.result (λ k. tank_on c.args.b.now k ≡ c.args.tank) (λ k. tank_on c.args.b.now k ≡ c.args.tank → ⊥)
    c.find.ensures.ran (λ x q e. search rules) (λ x q e. search rules) in
    ap (λ r. unwrap_or r nowhere) c.from_residual-in_err-first.ensures
    ∙ place_missing c.args.b.now c.args.tank (first_missing c.args.b.now c.args.tank (line_count c.args.b.now) (omega arith) (rw c.in_err-first.was at f))

module _ (c : goal.After-unwrap_or-after) where
  first : First c.args.b.now c.args.tank 1 (line_count c.args.b.now - 1) c.in_ok-first.first × (c.in_ok-first.first < line_count c.args.b.now)
  unfolding line_count
  first =
      let f = first_from_Range _ _ _ c.find.result (λ k. tank_on c.args.b.now k ≡ c.args.tank) (λ k. tank_on c.args.b.now k ≡ c.args.tank → ⊥)
      c.find.ensures.ran (λ x q e. search rules) (λ x q e. search rules) in
      let g = rw c.in_ok-first.was at f in
      (first_found c.args.b.now c.args.tank (line_count c.args.b.now) (omega arith) c.in_ok-first.first g, g.1)

  after : After c.args.b.now c.args.tank c.in_ok-first.first (line_count c.args.b.now - c.in_ok-first.first) c.unwrap_or-after.result
  unfolding line_count
  after =
      let f = first_from_Range _ _ _ c.find-2.result (λ k. tank_on c.args.b.now k ≡ c.args.tank → ⊥) (λ k. tank_on c.args.b.now k ≡ c.args.tank)
      c.find-2.ensures.ran (λ x q e. search rules) (λ x q e. search rules) in
      rw c.unwrap_or-after.ensures (after_found c.args.b.now c.args.tank (line_count c.args.b.now) (omega arith) c.in_ok-first.first (omega (arith, first.1)) c.find-2.result f)

  accepted : faults c.args.b.now ≡ []
  accepted = read_accepted c.args.b.now c.read_sheet.result c.read_sheet.ensures (sym c.ok.ensures.value ∙ c.in_ok-ok.was)

  between : Between c.args.b.now c.args.tank c.in_ok-first.first c.unwrap_or-after.result
  between = found c.args.b.now c.args.tank accepted c.in_ok-first.first c.unwrap_or-after.result first.0 first.1 after

pub overflow_mul-result : goal.overflow_mul-result
overflow_mul-result c = omega (arith, (between c).order, (between c).most, (between c).bytes)

pub overflow_sub-result : goal.overflow_sub-result
overflow_sub-result c = (between c).order

pub overflow_mul-result-2 : goal.overflow_mul-result-2
overflow_mul-result-2 c = omega (arith, (between c).order, (between c).most, (between c).bytes)

pub returns : goal.returns
returns c = place_found c.args.b.now c.args.tank (accepted c) c.in_ok-first.first c.unwrap_or-after.result (first c).0 (first c).1 (after c)
