-- The sizes of the buffers that the calls which plan are lent, as document 01 and requests 103, 105, 106 and 110
-- give them; src/sizes.rt names the same for the code. Assumes nothing.
use Rattle.std.specs.Prelude.{ℕ, ◌+◌, ◌*◌}
use Rattle.line.specs.Layout.{line_bytes}
use Rattle.checks.specs.Limits.{max_slots, max_blowers}

-- bytes of the word that opens a listing, with its byte 10
abbrev pub word_bytes : ℕ
word_bytes = 5

-- the least length of a plan buffer, 38,455: room for the word, the head line, a stretch line and a feed line for each
-- slot of each blower, and the bill's line
abbrev pub plan_bytes : ℕ
plan_bytes = word_bytes + line_bytes * (2 + 2 * (max_slots * max_blowers))

-- the least length of a placing buffer, 96 words of 64 bits: one for each slot
abbrev pub placing_words : ℕ
placing_words = max_slots

-- the least length of a causes' buffer, and the most that their listing takes
abbrev pub causes_bytes : ℕ
causes_bytes = 65536
