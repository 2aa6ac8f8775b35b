-- A tally's numbers. Definitions only. Assumes nothing.
use Rattle.energy.specs.Listed.{number_of}
use Rattle.bill.specs.Tally.{Tally}
use Rattle.bill.specs.declared.tallies.Tally.{Tally as LentTally}

abbrev pub numbers_of : LentTally → Tally
numbers_of y = record { charge = y.charge; state = number_of y.state }
