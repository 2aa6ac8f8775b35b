-- Cut volumes, the values of a cut sheet, which shares have a sound placing, and how the greatest of them is known.
-- Assumes nothing.
use Rattle.std.specs.Prelude.{◌≡◌, refl, ◌⊎◌, true, false, List, [], ◌∷◌, map, length}
use Rattle.std.proofs.Math.Path.{sym}
use Rattle.std.proofs.Common.{ap, ap₂, ◌∙◌, inl, inr, mul-le-mul_left, arith}
use Rattle.std.proofs.Math.Bool.{Bool}
use Rattle.std.proofs.lemmas.Bool.{false≢true}
use Prim.Native.Nat.{ℕ, suc, ◌*◌, ◌≤◌, ◌<◌}
use Rattle.std.proofs.lemmas.List.{length-map, length-replicate}
use Rattle.common.specs.Tests.{false_of_not_true}
use Rattle.checks.specs.Limits.{max_slots}
use Rattle.checks.specs.Sheet.{Job, Sheet}
use Rattle.checks.specs.RangeLaws.{JobsInRange, ValuesInRange}
use Rattle.schedules.specs.Demands.{demand_of, demands_of, no_low, full_high}
use Rattle.schedules.proofs.DemandLaws.{windows_demands_of}
use Rattle.method.proofs.Cases.{le_or_lt}
use Rattle.method.specs.Method.{longest}
use Rattle.method.proofs.LongestLaws.{longest_le, longest_passes, le_longest}
use Rattle.cuts.specs.Cuts.{max_share, cut_volume, cut_job, cut_sheet, feasible_sheet, greatest_share}
use Rattle.cuts.specs.Clauses.{NoneFrom, Between}
use Rattle.cuts.proofs.FewerLaws.{Fewer, fewer_feasible, Nothing, nothing_feasible}

-- Cut volumes -----------------------------------------------------------------------

cut_mono : (v a b : ℕ) → a ≤ b → cut_volume a v ≤ cut_volume b v
unfolding cut_volume
cut_mono v a b l = omega (arith, mul-le-mul_left v l)

-- the whole share leaves a volume as it is, and no share is above it
cut_whole : (v : ℕ) → cut_volume max_share v ≡ v
unfolding cut_volume
cut_whole v = omega arith

cut_within : (share v : ℕ) → share ≤ max_share → cut_volume share v ≤ v
cut_within share v l = omega (arith, cut_mono v share max_share l, cut_whole v)

-- nothing is left where the product is below 100
cut_none : (share v : ℕ) → v * share < 100 → cut_volume share v ≡ 0
unfolding cut_volume
cut_none share v l = omega arith

-- The values of a cut sheet ---------------------------------------------------------

-- a volume may be cut to 0; all else stays in range
cut_jobs_in_range : (share : ℕ) → share ≤ max_share → (least slots before until : ℕ) (js : List Job) → JobsInRange least slots before until js
    → JobsInRange 0 slots before until (map (cut_job share) js)
unfolding cut_job
cut_jobs_in_range share l least slots before until [] h = tt
cut_jobs_in_range share l least slots before until (j ∷ js) h =
    let r = h.0 in (
      record {
        tank = r.tank;
        rising = r.rising;
        release = r.release;
        window = r.window;
        deadline = r.deadline;
        volume = record { ge = omega arith; le = omega (arith, r.volume.le, cut_within share j.volume l) };
        meal = r.meal;
      },
      cut_jobs_in_range share l least slots j.tank j.deadline js h.1,
    )

pub cut_in_range : {least : ℕ} (share : ℕ) → share ≤ max_share → (s : Sheet) → ValuesInRange least s (length s.jobs) true
    → let c = cut_sheet share s in ValuesInRange 0 c (length c.jobs) true
unfolding cut_sheet
cut_in_range {least} share l s v =
    let h = v.head in
    record {
      head =
          record {
            slots = h.slots;
            blowers = h.blowers;
            wake = h.wake;
            rations = omega (arith, h.rations, length-map s.jobs (cut_job share));
            agree = refl;
          };
      jobs = cut_jobs_in_range share l least s.slots 0 0 s.jobs v.jobs;
    }

-- the whole share leaves the sheet as it is
cut_whole_jobs : (js : List Job) → map (cut_job max_share) js ≡ js
unfolding cut_job
cut_whole_jobs [] = refl
cut_whole_jobs (j ∷ js) =
    ap₂ (λ (v : ℕ) (ks : List Job). record { tank = j.tank; release = j.release; deadline = j.deadline; volume = v } ∷ ks)
    (cut_whole j.volume) (cut_whole_jobs js)

pub cut_whole_sheet : (s : Sheet) → cut_sheet max_share s ≡ s
unfolding cut_sheet
cut_whole_sheet s = ap (λ js. record { slots = s.slots; blowers = s.blowers; wake = s.wake; jobs = js }) (cut_whole_jobs s.jobs)

-- Which shares have a sound placing -----------------------------------------------------

cut_fewer : (slots a b : ℕ) → a ≤ b → (js : List Job) → Fewer (map (demand_of slots) (map (cut_job a) js)) (map (demand_of slots) (map (cut_job b) js))
unfolding demand_of cut_job
cut_fewer slots a b l [] = tt
cut_fewer slots a b l (j ∷ js) = (refl, cut_mono j.volume a b l, cut_fewer slots a b l js)

-- where a share has one, every smaller share has one
pub smaller_share : (s : Sheet) (a b : ℕ) → a ≤ b → feasible_sheet (cut_sheet b s) ≡ true → feasible_sheet (cut_sheet a s) ≡ true
unfolding feasible_sheet demands_of no_low full_high cut_sheet
smaller_share s a b l =
    fewer_feasible (windows_demands_of (cut_sheet a s)) (windows_demands_of (cut_sheet b s)) (cut_fewer s.slots a b l s.jobs) (full_high s)
    (length-replicate s.slots s.blowers)

-- a share that leaves nothing of any volume has one
nothing_left : (s : Sheet) (share : ℕ) → Nothing (demands_of (cut_sheet share s)) → feasible_sheet (cut_sheet share s) ≡ true
unfolding feasible_sheet no_low full_high cut_sheet
nothing_left s share n =
    nothing_feasible (windows_demands_of (cut_sheet share s)) n (full_high s) (length-replicate s.slots s.blowers)

-- share 0 leaves nothing ..
nothing_of_zero : (slots : ℕ) (js : List Job) → Nothing (map (demand_of slots) (map (cut_job 0) js))
unfolding demand_of cut_job
nothing_of_zero slots [] = tt
nothing_of_zero slots (j ∷ js) = (cut_none 0 j.volume (omega arith), nothing_of_zero slots js)

pub share_zero : (s : Sheet) → feasible_sheet (cut_sheet 0 s) ≡ true
unfolding demands_of cut_sheet
share_zero s = nothing_left s 0 (nothing_of_zero s.slots s.jobs)

-- .. and share 1 nothing of volumes that fit a day
nothing_of_one : (least slots before until : ℕ) (js : List Job) → slots ≤ max_slots → JobsInRange least slots before until js
    → Nothing (map (demand_of slots) (map (cut_job 1) js))
unfolding demand_of cut_job
nothing_of_one least slots before until [] l h = tt
nothing_of_one least slots before until (j ∷ js) l h =
    let r = h.0 in (
      cut_none 1 j.volume (omega (arith, r.volume.le, r.release, r.deadline)),
      nothing_of_one least slots j.tank j.deadline js l h.1,
    )

pub share_one : {least : ℕ} (s : Sheet) → ValuesInRange least s (length s.jobs) true → feasible_sheet (cut_sheet 1 s) ≡ true
unfolding demands_of cut_sheet
share_one {least} s v = nothing_left s 1 (nothing_of_one least s.slots 0 0 s.jobs v.head.slots.le v.jobs)

-- Between two shares ------------------------------------------------------------------

module _ (s : Sheet) where
  -- where a share has none, no greater one has
  pub none_from : (share : ℕ) → feasible_sheet (cut_sheet share s) ≡ false → NoneFrom s share
  none_from share e above l k =
      false_of_not_true (feasible_sheet (cut_sheet above s)) (λ p. false≢true (sym e ∙ smaller_share s share above l p))

  module _ {low high : ℕ} (b : Between s low high) (share : ℕ) where
    pub between_up : share < high → feasible_sheet (cut_sheet share s) ≡ true → Between s share high
    between_up l e = record { order = l; most = b.most; possible = e; none = b.none }

    pub between_down : low < share → share ≤ high → NoneFrom s share → Between s low share
    between_down l k n = record { order = l; most = omega (arith, b.most); possible = b.possible; none = n }

  -- a share that has one, where no greater one has, is the greatest
  pub between_end : {low high : ℕ} → Between s low high → high ≤ suc low → low ≡ greatest_share s
  unfolding greatest_share
  between_end {low} {high} b l = sym (go (le_or_lt (longest test max_share) low))
    where
      test : ℕ → Bool
      test share = feasible_sheet (cut_sheet share s)

      go : (longest test max_share ≤ low) ⊎ (low < longest test max_share) → longest test max_share ≡ low
      go (inl k) = omega (arith, le_longest test max_share low (omega (arith, b.order, b.most)) b.possible)
      go (inr k) =
          absurd (false≢true (sym (b.none (longest test max_share) (omega arith) (longest_le test max_share))
          ∙ longest_passes test (share_zero s) max_share))
