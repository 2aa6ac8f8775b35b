-- What the questions of a day say of its causes. Assumes nothing.
use Rattle.std.specs.Prelude.{◌≡◌, refl, Bool, true, false, Some, None, List, ℕ, ◌≤◌, length, replicate}
use Rattle.std.proofs.Common.{sym, ◌∙◌, subst, arith}
use Rattle.checks.specs.Limits.{max_slots}
use Rattle.common.specs.Buffers.{padded}
use Rattle.schedules.specs.Schedules.{Demand, feasible}
use Rattle.placing.specs.declared.Words.{Words}
use Rattle.placing.specs.Represents.{CanBegin}
use Rattle.placing.specs.WordCalls.{BegunIn}
use Rattle.placing.specs.WordCallLaws.{begun_held}
use Rattle.placing.specs.Rations.{Rations, demands_from}
use Rattle.placing.specs.Words.{WindowWords, VolumeBytes}
use Rattle.placing.specs.FeasibilitySteps.{demand_words, ration_words, can_begin}
use Rattle.placing.specs.HeldSteps.{full_words, length_full}
use Rattle.method.specs.Method.{day_bounds}
use Rattle.method.proofs.EndingLaws.{endings_settled}
use Rattle.stretches.specs.Settling.{Under}
use Rattle.stretches.proofs.SettlingLaws.{under_possible}
use Rattle.plan_lines.specs.Sizes.{causes_bytes}
use Rattle.cause_lines.specs.declared.Extent.{Extent}
use Rattle.cause_lines.specs.EntryCalls.{Listing}
use Rattle.endings.specs.ListingCalls.{CanList, AllListed}
use Rattle.endings.specs.DayCauses.{DayCauses}

module _ {slots rations : ℕ} (m : ℕ) {numbers W N H : List ℕ} (r : Rations slots rations numbers) (h : H ≡ padded max_slots (replicate slots m))
    (w : WindowWords slots (demands_from slots rations numbers) W) (v : VolumeBytes (demands_from slots rations numbers) N) where
  pub day_begin : {C : List ℕ} → length C ≡ max_slots → CanBegin W N H C
  day_begin c = can_begin (ration_words r w v) (length_full slots m r.short h) c

  module _ {q : Bool} {x : Words} (b : BegunIn q W N H x) where
    abbrev ds : List Demand
    ds = demands_from slots rations numbers

    answer : q ≡ feasible slots ds (replicate slots 0) (replicate slots m)
    answer = b.begun.answer slots ds (replicate slots m) (demand_words r w v) (full_words slots m r.short h)

    under : q ≡ true → Under slots ds (day_bounds slots m) x
    under e = begun_held b e (demand_words r w v) (full_words slots m r.short h)

    pub can_list : {out : List ℕ} → q ≡ true → causes_bytes ≤ length out → CanList slots (record { length = 0; cut = false }) x out
    can_list e room =
        record {
          day = record { demands = ds; bounds = day_bounds slots m; under = under e };
          fits = record { day = r.short; room = room; within = omega arith };
        }

    pub day_listed : {out out' : List ℕ} {listing : Extent} → q ≡ true → AllListed listing slots m x out out'
        → DayCauses (Some listing) slots m ds (replicate slots m) out out'
    day_listed {out} {out'} {listing} e a = (
      sym answer ∙ e,
      subst (λ es. Listing es out out' listing)
          (sym (endings_settled (under e).represents.windows m (under_possible (under e)))) (a ds (day_bounds slots m) (under e)),
    )

    pub day_held : {out : List ℕ} → q ≡ false → DayCauses None slots m ds (replicate slots m) out out
    day_held e = (sym answer ∙ e, refl)
