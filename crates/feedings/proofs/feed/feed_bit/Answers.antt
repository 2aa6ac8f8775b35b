-- `feedings::feed::feed_bit` meets its contract. Assumes nothing.
use Rattle.common.specs.Bits.{bit_below}
use Rattle.feedings.specs.ScheduleWordLaws.{fed_bit_yes, fed_bit_no}
use Rattle.feedings.proofs.feed.feed_bit.Goals as goal

pub add_bit-requires : goal.add_bit-requires
add_bit-requires c = (c.requires.feed.ration, bit_below _ _ c.requires.new)

pub returns-then-feed : goal.returns-then-feed
returns-then-feed c = record { fed_bit = fed_bit_yes c.feed.ensures.decided _ c.requires.new c.if-feed.true c.add_bit.ensures; spares = c.feed.ensures.spares }

pub returns-else-feed : goal.returns-else-feed
returns-else-feed c = record { fed_bit = fed_bit_no c.feed.ensures.decided _ c.requires.new c.if-feed.false; spares = c.feed.ensures.spares }
