-- The blowers that a hall may have busy in each slot (request 108), and what adding up those that halls use requires.
-- Definitions only. Assumes nothing.
use Rattle.std.specs.Prelude.{◌≡◌, List, ℕ, ◌+◌, ◌-◌, ◌≤◌, ◌<◌, min, length, get_or}
use Rattle.checks.specs.Limits.{max_slots}
use Rattle.schedules.specs.Tabulate.{tab}

-- A hall's high in each of its slots, t from 0: the smaller of its own blowers and the limit less what earlier halls use
-- there. The difference is cut at 0. `used` has what they use, and nothing is used in a slot past its end.
unfoldable pub hall_high : (limit : ℕ) (used : List ℕ) (slots blowers : ℕ) → List ℕ
hall_high limit used slots blowers = tab slots (λ t. min blowers (limit - get_or used t 0))

-- the sum in each slot is one byte
pub record CanAdd (used counts : List ℕ) : Type 0 where
  pub used_long : length used ≡ max_slots
  pub counts_long : length counts ≡ max_slots
  pub fits : (t : ℕ) → t < max_slots → get_or used t 0 + get_or counts t 0 ≤ 255
