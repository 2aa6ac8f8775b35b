-- `stretches::settle::settle` meets its contract. What is left to settle after a blower is what was left before it. Assumes nothing.
use Rattle.stretches.specs.Settling.{SomeDay, SamePast, PassingBlowers}
use Rattle.stretches.proofs.settle.settle.Given as goal

abbrev pub invariant-loop-k : goal.invariant-loop-k
invariant-loop-k l = SomeDay l.slots l.initial.words × PassingBlowers l.slots l.blowers l.k l.initial.words l.words × SamePast l.slots l.initial.words.high l.words.high
