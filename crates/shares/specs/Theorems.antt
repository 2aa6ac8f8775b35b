-- What holds of the greatest share as it is planned (request 111): it can be planned, so that 12 is never given; every
-- smaller share can be and no greater one; and a sheet that can be planned as it is has share 100 and its own plan. Of
-- the sheet of a share, a volume cut to 0 is no fault. Assumes nothing.
use Rattle.std.specs.Prelude.{◌≡◌, Bool, true, false, not, List, ◌++◌, ℕ, ◌≤◌, ◌<◌, length}
use Rattle.std.proofs.Common.{sym, ap₂, ◌∙◌, append-nil, arith}
use Rattle.std.proofs.Math.Path.{ap}
use Rattle.std.proofs.lemmas.Bool.{false≢true}
use Rattle.std.proofs.Math.Decide.{dec_lt}
use Rattle.checks.specs.Refusals.{short_buffer, no_placing}
use Rattle.checks.specs.Sheet.{Sheet, sheet_of}
use Rattle.checks.specs.Checks.{fault, first_refusal, faults}
use Rattle.checks.specs.RangeLaws.{ValuesInRange}
use Rattle.sheet.proofs.OwnCheckLaws.{bytes_checked}
use Rattle.schedules.specs.Schedules.{Schedule, feasible}
use Rattle.schedules.specs.Demands.{no_low}
use Rattle.cuts.specs.Cuts.{max_share, cut_sheet, feasible_sheet, greatest_share}
use Rattle.cuts.proofs.ShareLaws.{cut_in_range, cut_whole_sheet}
use Rattle.cuts.proofs.Theorems.{share_most, greatest_possible, share_has, no_greater, whole_iff}
use Rattle.planning.specs.Problem.{alone, MayPlace, ProblemInRange, can_be_planned}
use Rattle.planning.specs.Planning.{plan_checks}
use Rattle.planning.proofs.CallAnswers.{passed_held}
use Rattle.planning.proofs.AloneLaws.{left_alone, room_alone, may_alone, alone_in_range}
use Rattle.shares.specs.Shares.{share_problem, share_refusal}

-- Any share -------------------------------------------------------------------------

-- a sheet planned alone can be planned where its rations have a sound placing
planned_iff : (s : Sheet) → can_be_planned (alone s) ≡ feasible_sheet s
unfolding can_be_planned feasible_sheet
planned_iff s = ap₂ (λ ds high. feasible s.slots ds (no_low s) high) (left_alone s) (room_alone s)

-- the numbers of the sheet of a share are in range
pub share_in_range : {least : ℕ} (share : ℕ) → share ≤ max_share → (s : Sheet) → ValuesInRange least s (length s.jobs) true
    → ProblemInRange (alone (cut_sheet share s))
share_in_range share l s v = alone_in_range (cut_sheet share s) (cut_in_range share l s v)

-- The greatest ----------------------------------------------------------------------

module _ (s : Sheet) where
  pub share_planned : can_be_planned (share_problem s) ≡ true
  unfolding share_problem
  share_planned = planned_iff (cut_sheet (greatest_share s) s) ∙ greatest_possible s

  -- a placing may be taken for it and for every smaller share, share 0 too ..
  pub smaller_planned : (share : ℕ) → share ≤ greatest_share s → (q : Schedule) × MayPlace (alone (cut_sheet share s)) q
  smaller_planned share l = let p = share_has s share l in (p.0, (may_alone (cut_sheet share s) p.0).1 p.1)

  -- .. and none for a greater one up to 100
  pub greater_not : (share : ℕ) → greatest_share s < share → share ≤ max_share → (q : Schedule) → ¬ MayPlace (alone (cut_sheet share s)) q
  greater_not share l k q m = no_greater s share l k q ((may_alone (cut_sheet share s) q).0 m)

  -- a sheet that can be planned as it is has share 100, and the problem is the sheet's own
  module _ (can : can_be_planned (alone s) ≡ true) where
    pub whole_share : greatest_share s ≡ max_share
    whole_share = (whole_iff s).1 (sym (planned_iff s) ∙ can)

    pub whole_problem : share_problem s ≡ alone s
    unfolding share_problem
    whole_problem = ap (λ share. alone (cut_sheet share s)) whole_share ∙ ap alone (cut_whole_sheet s)

  -- one that can't has a smaller share
  pub held_share : can_be_planned (alone s) ≡ false → greatest_share s < max_share
  held_share held = go (dec_lt (greatest_share s) max_share)
    where
      go : Dec (greatest_share s < max_share) → greatest_share s < max_share
      go (yes l) = l
      go (no n) =
          absurd (false≢true (sym held ∙ planned_iff s ∙ (whole_iff s).0 (omega (arith, share_most s))))

-- The refusal -----------------------------------------------------------------------

-- It is that of a planning call for the sheet of the greatest share: with 12 as a further check none is refused by it.
pub refusal_as_planned : (b : List ℕ) (short : Bool) → share_refusal b short ≡ first_refusal (plan_checks (faults b) short (share_problem (sheet_of b)))
unfolding share_refusal
refusal_as_planned b short =
    ap (λ rest. first_refusal (faults b ++ rest)) (sym (append-nil (fault short_buffer 0 short)))
    ∙ ap (λ can. first_refusal (faults b ++ (fault short_buffer 0 short ++ fault no_placing 0 (not can)))) (sym (share_planned (sheet_of b)))

-- 12 is never given
pub never_held : (b : List ℕ) (short : Bool) → ¬ ((share_refusal b short).number ≡ no_placing)
never_held b short e =
    let s = sheet_of b in
    let h = passed_held (faults b) (bytes_checked b).of_sheet short (can_be_planned (share_problem s)) (ap (λ r. r.number) (sym (refusal_as_planned b short)) ∙ e) in
    false≢true (sym h.2 ∙ share_planned s)
