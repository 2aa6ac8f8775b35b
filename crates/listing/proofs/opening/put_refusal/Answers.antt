-- `listing::opening::put_refusal` meets its contract. Assumes nothing.
use Rattle.listing.specs.Opening.{refusal_written}
use Rattle.listing.proofs.opening.put_refusal.Goals as goal

pub returns : goal.returns
returns c = refusal_written _ _ _ _ _ c.requires c.put_word.ensures c.put_line.ensures
