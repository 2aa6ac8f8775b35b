-- What the demands ask of rations cut to a share: what the cut sheet is, and which share is answered. Cuts.antt of
-- `cuts` defines the cut sheet, Shares.antt of `shares` what the call answers and leaves in its buffers. Definitions
-- only. Assumes nothing.
use Rattle.std.specs.Prelude.{◌≡◌, List, ℕ, ◌+◌, ◌*◌, ◌≤◌, ◌<◌, length, get_or, take}
use Rattle.checks.specs.Sheet.{Job, Sheet, sheet_of}
use Rattle.schedules.specs.DemandLaws.{no_job}
use Rattle.cuts.specs.Cuts.{cut_sheet}
use Rattle.planning.specs.Problem.{Problem, alone}
use Rattle.shares.specs.declared.SharePlanned.{SharePlanned}
use Rattle.demands.specs.Outcome.{NoneSound}
use Rattle.demands.specs.ByMethod.{HasPlacing}

-- a ration, and what is left of it: the same tank and window, and volume × share / 100, rounded down
pub record RationIs (share : ℕ) (j c : Job) : Type 0 where
  pub tank : c.tank ≡ j.tank
  pub release : c.release ≡ j.release
  pub deadline : c.deadline ≡ j.deadline
  pub at_most : 100 * c.volume ≤ j.volume * share
  pub rounded_down : j.volume * share < 100 * c.volume + 100

-- the cut sheet: D, m and q stay, and each ration is cut in its place; one cut to 0 is still there
pub record CutIs (share : ℕ) (s : Sheet) : Type 0 where
  pub slots : (cut_sheet share s).slots ≡ s.slots
  pub blowers : (cut_sheet share s).blowers ≡ s.blowers
  pub wake : (cut_sheet share s).wake ≡ s.wake
  pub rations : length (cut_sheet share s).jobs ≡ length s.jobs
  pub each : (i : ℕ) → i < length s.jobs
      → RationIs share (get_or s.jobs i no_job) (get_or (cut_sheet share s).jobs i no_job)

-- the problem that an answer is about: the sheet cut to the share answered, alone
abbrev pub problem_at : (b : List ℕ) → SharePlanned → Problem
problem_at b a = alone (cut_sheet a.share (sheet_of b))

-- what the call wrote: the first bytes of the plan buffer, as many as the length says
abbrev pub written_share : SharePlanned → (listing : List ℕ) → List ℕ
written_share a listing = take a.length listing

-- The share answered for a sheet: it and every smaller one have a placing that may be taken, and no greater one up to
-- 100 has. It is never 0: a hundredth of a volume, which is at most 96, is 0, rounded down, so that share 1 has one.
pub record IsGreatestShare (s : Sheet) (share : ℕ) : Type 0 where
  pub least : 1 ≤ share
  pub most : share ≤ 100
  pub smaller : (n : ℕ) → n ≤ share → HasPlacing (alone (cut_sheet n s))
  pub greater : (n : ℕ) → share < n → n ≤ 100 → NoneSound (alone (cut_sheet n s))
