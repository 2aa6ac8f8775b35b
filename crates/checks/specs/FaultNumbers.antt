-- The number of each fault that the code names. Definitions only.
use Rattle.std.specs.Prelude.{ℕ}
use Rattle.checks.specs.declared.faults.Fault.{Fault}
use Rattle.checks.specs.declared.faults.Fault.TheVariants.{Length, Form, Slots, Blowers, Wake, Rations, Tank, Window, Volume, Buffer, List, Placing, Meal, Halls}
use Rattle.checks.specs.Refusals.{bad_length, bad_form, bad_slots, bad_blowers, bad_wake, bad_rations, bad_tank, bad_window, bad_volume, short_buffer, bad_list, no_placing, bad_meal, bad_halls}

abbrev pub number_of : Fault → ℕ
number_of Length = bad_length
number_of Form = bad_form
number_of Slots = bad_slots
number_of Blowers = bad_blowers
number_of Wake = bad_wake
number_of Rations = bad_rations
number_of Tank = bad_tank
number_of Window = bad_window
number_of Volume = bad_volume
number_of Buffer = short_buffer
number_of List = bad_list
number_of Placing = no_placing
number_of Meal = bad_meal
number_of Halls = bad_halls
