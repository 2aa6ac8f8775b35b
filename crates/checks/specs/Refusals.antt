-- The numbers of the refusals, each named once: document 01, "Sheets held", and the requests. src/faults.rt names the
-- same for the code. Number 0 stands for no refusal. Definitions only.
use Rattle.std.specs.Prelude.{ℕ}

-- the length of the sheet, the form of its lines
abbrev pub bad_length : ℕ
bad_length = 1

abbrev pub bad_form : ℕ
bad_form = 2

-- the head line
abbrev pub bad_slots : ℕ
bad_slots = 3

abbrev pub bad_blowers : ℕ
bad_blowers = 4

abbrev pub bad_wake : ℕ
bad_wake = 5

abbrev pub bad_rations : ℕ
bad_rations = 6

-- a ration's line
abbrev pub bad_tank : ℕ
bad_tank = 7

abbrev pub bad_window : ℕ
bad_window = 8

abbrev pub bad_volume : ℕ
bad_volume = 9

-- what is lent beside the sheet: a buffer, a list of bounds or slot marks
abbrev pub short_buffer : ℕ
short_buffer = 10

abbrev pub bad_list : ℕ
bad_list = 11

-- the sheet has no sound placing
abbrev pub no_placing : ℕ
no_placing = 12

-- a meal's window, after the one before it
abbrev pub bad_meal : ℕ
bad_meal = 13

-- the limit of halls behind one mains fuse, or their number
abbrev pub bad_halls : ℕ
bad_halls = 14
