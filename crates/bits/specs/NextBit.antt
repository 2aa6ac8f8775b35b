-- How the set bits of a word come one after another. Definitions only. Assumes nothing.
use Rattle.std.specs.Prelude.{◌≡◌, ℕ, ◌-◌, ◌^◌, Option, MatchOption}
use Rattle.bits.specs.Lowest.{Lowest}
use Rattle.bits.specs.declared.iterating.SetBits.{SetBits}

-- a call gave the lowest bit of what was left of the word, and took it away; or nothing was left
abbrev pub NextBit : SetBits → Option ℕ → SetBits → Type 0
NextBit s r t = MatchOption r ((s.rest ≡ 0) × (t.rest ≡ 0)) (λ j. Lowest s.rest j × (t.rest ≡ s.rest - 2 ^ j))
