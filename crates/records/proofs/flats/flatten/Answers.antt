-- `records::flats::flatten` meets its contract: the loop takes the records one after another. Assumes nothing.
use Rattle.std.proofs.Common.{refl, ◌≡◌, ◌∙◌, ap, arith, add-one, get_or, length, min}
use Rattle.records.specs.Records.{taken_most}
use Rattle.records.specs.Flat.{taken_to, added, empty_flat, no_ration}
use Rattle.records.specs.FlatLaws.{count_taken_to, taken_to_flat_of}
use Rattle.records.proofs.flats.flatten.Goals as goal

pub loop-i-init : goal.loop-i-init
unfolding taken_to empty_flat
loop-i-init c = refl

pub push-requires : goal.push-requires
push-requires c =
    let e = ap (λ f. f.count) c.loop-i.invariant in
    omega (arith, e, count_taken_to c.loop-i.i c.args.rations.now)

pub loop-i-preserved : goal.loop-i-preserved
unfolding taken_to
loop-i-preserved c =
    let r = get_or c.args.rations.now c.loop-i.i no_ration in
    rw add-one (c.push.ensures ∙ ap (λ f. added f r) c.loop-i.invariant)

pub returns : goal.returns
returns c =
    let e : c.loop-i.i ≡ min (length c.args.rations.now) taken_most = omega arith in
    c.loop-i.invariant ∙ ap (λ i. taken_to i c.args.rations.now) e ∙ taken_to_flat_of c.args.rations.now
