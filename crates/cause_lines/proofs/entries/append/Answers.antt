-- `cause_lines::entries::append` meets its contract. Assumes nothing.
use Rattle.cause_lines.specs.EntrySteps.{count_words, append_entry, append_cut, append_full, append_more}
use Rattle.cause_lines.proofs.entries.append.Goals as goal

pub returns-then-so_far : goal.returns-then-so_far
returns-then-so_far c = append_cut c.requires c.if-so_far.true

pub returns-then-at-size : goal.returns-then-at-size
returns-then-at-size c = append_full c.requires c.if-so_far.false (count_words c.slots_of-words.ensures) c.if-at-size.true

pub put_entry-requires : goal.put_entry-requires
put_entry-requires c = append_entry c.requires c.slots_of-words.ensures (count_words c.slots_of-words.ensures) c.if-at-size.false

pub returns : goal.returns
returns c = append_more c.requires c.if-so_far.false (count_words c.slots_of-words.ensures) c.if-at-size.false c.slots_of-words.ensures c.put_entry.ensures
