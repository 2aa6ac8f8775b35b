-- `cuts::search::halve` meets its contract. Assumes nothing.
use Rattle.std.proofs.Common.{refl, sym, ◌∙◌, arith, ne_eqb}
use Rattle.std.proofs.lemmas.Bool.{eq-eqb}
use Rattle.cuts.proofs.search.halve.Goals as goal

pub returns-then-is_deficient : goal.returns-then-is_deficient
returns-then-is_deficient c =
    record {
      half = λ own s h. eq-eqb _ _ refl ∙ sym c.if-is_deficient.true ∙ c.is_deficient.ensures.shown own s h;
      none = (c.is_deficient.ensures.none c.if-is_deficient.true, omega arith, omega arith, omega arith, omega arith);
    }

pub returns-else-is_deficient : goal.returns-else-is_deficient
returns-else-is_deficient c =
    record {
      half = λ own s h. ne_eqb _ _ (λ e. omega arith) ∙ sym c.if-is_deficient.false ∙ c.is_deficient.ensures.shown own s h;
      none = (c.requires.0, omega arith, omega arith, omega arith, omega arith);
    }
