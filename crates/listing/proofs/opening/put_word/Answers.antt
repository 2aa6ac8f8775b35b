-- `listing::opening::put_word` meets its contract. Assumes nothing.
use Rattle.std.specs.Prelude.{◌≡◌, drop, ◌++◌, ◌+◌, length}
use Rattle.std.proofs.Common.{ap, ◌∙◌, arith}
use Rattle.common.specs.Buffers.{put_at}
use Rattle.listing.proofs.opening.put_word.Goals as goal

pub returns : goal.returns
unfolding put_at
returns c =
    let size : 5 ≡ 0 + length c.args.word.now = omega (arith, c.told-word) in
    ap (λ w. w ++ drop 5 c.args.out.now) c.copy_from_slice.ensures.after ∙ ap (λ n. c.args.word.now ++ drop n c.args.out.now) size
