-- What the methods of `Words` require and ensure: the definitions of Represents and CauseCalls, said of the words as one.
-- w has the words as they are lent, w' as they are afterwards. Definitions only. Assumes nothing.
use Rattle.std.specs.Prelude.{◌≡◌, Bool, false, List, ℕ, length, replicate, Result}
use Rattle.checks.specs.Limits.{max_slots}
use Rattle.schedules.specs.Schedules.{Demand}
use Rattle.placing.specs.declared.Cause.{Cause}
use Rattle.placing.specs.declared.Words.{Words}
use Rattle.placing.specs.Represents.{Represents, Ready, Idled, Busied, Begun, BegunAgain}
use Rattle.placing.specs.CauseCalls.{OfMarks, BusyCaused, IdleAnswered, BusyAnswered}

-- words in which nothing is placed
abbrev pub blank_words : Words
blank_words =
    record {
      fed = replicate max_slots 0;
      rest = replicate max_slots 0;
      high = replicate max_slots 0;
      spare = replicate max_slots 0;
      seen = replicate max_slots 0;
    }

-- the words hold a sound placing of the demands under low and high
pub record HeldIn (slots : ℕ) (ds : List Demand) (low high : List ℕ) (w : Words) : Type 0 where
  pub represents : Represents slots ds low high w.fed w.rest w.high w.spare

-- what a question about slot t (from 0) requires: that the words are some day's
abbrev pub ReadyIn : Words → (t : ℕ) → Type 0
ReadyIn w t = Ready w.fed w.rest w.high w.spare t

-- what `idle` ensures: the spares stay
pub record IdledIn (r : Bool) (w w' : Words) (t k : ℕ) : Type 0 where
  pub idled : Idled r w.fed w.rest w.high w.spare w'.fed w'.rest w'.high t k
  pub spares : w'.spare ≡ w.spare

-- what `busy` ensures: the highs stay
pub record BusiedIn (r : Bool) (w w' : Words) (t k : ℕ) : Type 0 where
  pub busied : Busied r w.fed w.rest w.high w.spare w'.fed w'.rest w'.spare t k
  pub highs : w'.high ≡ w.high

-- what `idle_or_cause` and `busy_or_cause` ensure
pub record IdleAnsweredIn (r : Result (Unit {0}) Cause) (w w' : Words) (t k : ℕ) : Type 0 where
  pub answered : IdleAnswered r w.fed w.rest w.high w.spare w'.fed w'.rest w'.high t k
  pub spares : w'.spare ≡ w.spare

pub record BusyAnsweredIn (r : Result (Unit {0}) Cause) (w w' : Words) (t k : ℕ) : Type 0 where
  pub answered : BusyAnswered r w.fed w.rest w.high w.spare w'.fed w'.rest w'.spare t k
  pub highs : w'.high ≡ w.high

-- what `raise_or_mark` ensures: `busy`, and after a no the marks are the slots of its cause
pub record RaisedOrMarked (r : Bool) (w w' : Words) (t k : ℕ) : Type 0 where
  pub busied : BusiedIn r w w' t k
  pub marks_long : r ≡ false → length w'.seen ≡ max_slots
  pub marked : r ≡ false → (c : Cause) → OfMarks c 2 w'.seen → BusyCaused c w.fed w.rest w.high w.spare t k

-- what `begin` ensures: the highs are those that it is given
pub record BegunIn (r : Bool) (W N H : List ℕ) (w : Words) : Type 0 where
  pub begun : Begun r W N H w.fed w.rest w.spare w.seen
  pub highs : w.high ≡ H

-- what `begin_again` ensures: highs and spares stay
pub record BegunAgainIn (r : Bool) (N N' : List ℕ) (w w' : Words) : Type 0 where
  pub begun : BegunAgain r N N' w.high w.fed w.rest w'.fed w'.rest w'.seen
  pub highs : w'.high ≡ w.high
  pub spares : w'.spare ≡ w.spare
