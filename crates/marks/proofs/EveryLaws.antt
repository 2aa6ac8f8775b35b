-- Tests of a list, one after another: the first that fails decides. Assumes nothing.
use Rattle.std.specs.Prelude.{◌≡◌, Bool, true, false, List, ℕ, ◌+◌, ◌<◌, length, get_or, drop}
use Rattle.std.proofs.Common.{add-one, drop-cons}
use Rattle.std.proofs.Math.Seq.{drop-length}
use Rattle.common.specs.Lists.{every}

module _ (bs : List Bool) (t : ℕ) where
  pub every_miss : t < length bs → get_or bs t false ≡ true → every (drop t bs) ≡ every (drop (t + 1) bs)
  every_miss l e = rw (add-one t, drop-cons bs t false l, e)

  pub every_hit : t < length bs → get_or bs t false ≡ false → false ≡ every (drop t bs)
  every_hit l e = rw (drop-cons bs t false l, e)

  pub every_end : t ≡ length bs → true ≡ every (drop t bs)
  every_end e = rw (e, drop-length bs)
