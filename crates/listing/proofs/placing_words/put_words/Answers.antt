-- `listing::placing_words::put_words` meets its contract. Assumes nothing.
use Rattle.std.specs.Prelude.{take}
use Rattle.std.proofs.Common.{◌≡◌, arith, take_all, length-take, length-drop}
use Rattle.std.proofs.lemmas.List.{length-replicate}
use Rattle.common.specs.Buffers.{over}
use Rattle.plan_lines.specs.Sizes.{placing_words}
use Rattle.listing.proofs.placing_words.put_words.Goals as goal

pub copy_from_slice-requires : goal.copy_from_slice-requires
copy_from_slice-requires c = simp (length-take, length-drop, length-replicate) (omega (arith, c.requires))

pub returns : goal.returns
unfolding over
returns c =
    let all : take placing_words c.args.fed.now ≡ c.args.fed.now = take_all placing_words c.args.fed.now (omega (arith, c.requires))
    in simp (all, c.copy_from_slice.ensures.after, c.requires.1)
