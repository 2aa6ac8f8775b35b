-- `stretches::settle::keep` meets its contract. Assumes nothing.
use Rattle.stretches.proofs.SettlingLaws.{slot_ready, kept_idle, kept_busy}
use Rattle.stretches.proofs.settle.keep.Goals as goal

pub busy-requires : goal.busy-requires
busy-requires c = slot_ready c.requires.0

pub returns-then-is_busy : goal.returns-then-is_busy
returns-then-is_busy c = rw c.if-is_busy.true (kept_busy c.busy.ensures)

pub idle-requires : goal.idle-requires
idle-requires c = (slot_ready c.requires.0, c.requires.1)

pub returns : goal.returns
returns c = rw c.if-is_busy.false (kept_idle c.idle.ensures)
