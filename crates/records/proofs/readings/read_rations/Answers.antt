-- `records::readings::read_rations` meets its contract: the records taken make what all make. Assumes nothing.
use Rattle.std.proofs.Common.{sym, ◌∙◌, ap, subst}
use Rattle.records.specs.Flat.{IsFlat, flat_sheet}
use Rattle.records.specs.FlatLaws.{is_flat_flat_of}
use Rattle.records.specs.ReadSteps.{reading_for, reading_records}
use Rattle.records.proofs.readings.read_rations.Goals as goal

pub read_flat-requires : goal.read_flat-requires
read_flat-requires c = subst IsFlat (sym c.flatten.ensures) (is_flat_flat_of c.args.rations.now)

pub returns : goal.returns
returns c = let a = c.args in
    c.read_flat.ensures ∙ ap (λ f. reading_for (flat_sheet a.slots a.blowers a.wake f)) c.flatten.ensures
    ∙ reading_records a.slots a.blowers a.wake a.rations.now
