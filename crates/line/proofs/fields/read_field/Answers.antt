-- `line::fields::read_field` meets its contract: blanks are passed, and the first other byte and those after it are the
-- number. Assumes nothing.
use Rattle.std.proofs.Common.{sym, ◌∙◌}
use Rattle.line.specs.FieldSteps.{parse_at, parse_none, field_cut}
use Rattle.line.proofs.fields.read_field.Goals as goal

pub returns-in_err-blanks : goal.returns-in_err-blanks
returns-in_err-blanks c = c.from_residual.ensures ∙ parse_none _ (sym c.blanks_before.ensures ∙ c.in_err-blanks.was) ∙ field_cut c.args.s.now c.args.at

pub returns : goal.returns
returns c =
    c.whole_number.ensures ∙ parse_at _ c.in_ok-blanks.blanks (sym c.blanks_before.ensures ∙ c.in_ok-blanks.was) ∙ field_cut c.args.s.now c.args.at
