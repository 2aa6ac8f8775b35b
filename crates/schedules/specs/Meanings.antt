-- Whoever says `unfolding meanings` has windows, placings and sets of slots computed: for tables of days. Assumes nothing.
use Rattle.schedules.specs.Slots.{window, inside, outside, sum_over, subsets}
use Rattle.schedules.specs.Schedules.{load, choices, schedules, at_most, within, feasible}
use Rattle.schedules.specs.Shortfall.{forced, shortfall, possible, excess, greatest, in_every_greatest, critical_set}

unfoldable pub meanings : Unit {0}
unfolding window inside outside sum_over subsets load choices schedules at_most within feasible forced shortfall possible excess greatest in_every_greatest critical_set
meanings = tt
