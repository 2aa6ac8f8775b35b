-- A refusal as what the code answers: none is Ok. Definitions only.
use Rattle.std.specs.Prelude.{cond, eqb, Result, Ok, Err}
use Rattle.checks.specs.declared.Refusal.{Refusal}

abbrev pub verdict : Refusal → Result (Unit {0}) Refusal
verdict r = cond (eqb r.number 0) (Ok tt) (Err r)
