-- The checks 3 to 9 and 13 find no fault exactly where every number is in its stated range, the tanks never fall, and the meals of a tank follow each other. Assumes nothing.
use Rattle.std.specs.Prelude.{◌≡◌, refl, Bool, true, false, ◌&&◌, ◌||◌, not, List, [], ◌∷◌, ℕ, zero, suc, ◌-◌, ◌≤◌, ◌<◌, leb, ltb, eqb, length, get_or}
use Rattle.std.proofs.Common.{sym, ap, ◌∙◌, true≢false, arith, ltb-false, leb-true, leb-false, le-ltb, le-leb, eq-eqb, eqb-true, ne_eqb}
use Rattle.std.proofs.lemmas.Bool.{eqb-false, lt-leb, not-false}
use Rattle.common.specs.Tests.{and_true, or_false}
use Rattle.checks.specs.Limits.{max_slots, max_blowers, max_wake, max_rations, max_tank}
use Rattle.checks.specs.Refusals.{bad_slots, bad_blowers, bad_wake, bad_rations, bad_tank, bad_window, bad_volume, bad_meal}
use Rattle.checks.specs.Sheet.{Job, Sheet}
use Rattle.checks.specs.Checks.{fault, outside, head_faults, tank_fault, window_fault, volume_fault, meal_fault, job_faults, jobs_faults, value_faults}
use Rattle.checks.specs.FaultLaws.{false_fault, append_nil_nil, append_nil_parts}
use Rattle.checks.specs.SheetLaws.{FitsJobs, Fits}

pub record InRange (a b x : ℕ) : Type 0 where
  pub ge : a ≤ x
  pub le : x ≤ b

pub in_range_outside : (a b x : ℕ) → outside a b x ≡ false → InRange a b x
unfolding outside
in_range_outside a b x e =
    let h = or_false (ltb x a) (ltb b x) e in
    record { ge = ltb-false x a h.0; le = ltb-false b x h.1 }

pub outside_in_range : (a b x : ℕ) → InRange a b x → outside a b x ≡ false
unfolding outside
outside_in_range a b x h = rw (le-ltb x a h.ge) (le-ltb b x h.le)

-- 3 to 6 ----------------------------------------------------------------------------

pub record HeadInRange (s : Sheet) (n : ℕ) (agrees : Bool) : Type 0 where
  pub slots : InRange 1 max_slots s.slots
  pub blowers : InRange 1 max_blowers s.blowers
  pub wake : s.wake ≤ max_wake
  pub rations : n ≤ max_rations
  pub agree : agrees ≡ true

pub in_range_head_faults : (s : Sheet) (n : ℕ) (agrees : Bool) → head_faults s n agrees ≡ [] → HeadInRange s n agrees
unfolding head_faults
in_range_head_faults s n agrees e =
    let h₃ = append_nil_parts (fault bad_slots 1 (outside 1 max_slots s.slots)) _ e in
    let h₄ = append_nil_parts (fault bad_blowers 1 (outside 1 max_blowers s.blowers)) _ h₃.1 in
    let h₅ = append_nil_parts (fault bad_wake 1 (ltb max_wake s.wake)) _ h₄.1 in
    let h₆ = or_false (ltb max_rations n) (not agrees) (false_fault bad_rations 1 _ h₅.1) in
    record {
      slots = in_range_outside 1 max_slots s.slots (false_fault bad_slots 1 _ h₃.0);
      blowers = in_range_outside 1 max_blowers s.blowers (false_fault bad_blowers 1 _ h₄.0);
      wake = ltb-false max_wake s.wake (false_fault bad_wake 1 _ h₅.0);
      rations = ltb-false max_rations n h₆.0;
      agree = not-false agrees h₆.1;
    }

pub head_faults_in_range : (s : Sheet) (n : ℕ) (agrees : Bool) → HeadInRange s n agrees → head_faults s n agrees ≡ []
unfolding head_faults
head_faults_in_range s n agrees h =
    rw
    (outside_in_range 1 max_slots s.slots h.slots, outside_in_range 1 max_blowers s.blowers h.blowers, le-ltb max_wake s.wake h.wake, le-ltb max_rations n h.rations, h.agree)

-- 7 to 9 and 13 ----------------------------------------------------------------------------

-- a ration in range, its volume at least so much: 1 on a sheet
pub record JobInRange (least slots before until : ℕ) (j : Job) : Type 0 where
  pub tank : InRange 1 max_tank j.tank
  pub rising : before ≤ j.tank
  pub release : 1 ≤ j.release
  pub window : j.release ≤ j.deadline
  pub deadline : j.deadline ≤ slots
  pub volume : InRange least (suc j.deadline - j.release) j.volume
  pub meal : j.tank ≡ before → until < j.release

-- each after the tank and the last slot of the one before it
abbrev pub JobsInRange : ℕ → ℕ → ℕ → ℕ → List Job → Type 0
JobsInRange least slots before until [] = Unit {0}
JobsInRange least slots before until (j ∷ js) = JobInRange least slots before until j × JobsInRange least slots j.tank j.deadline js

-- a meal without fault
meal_follows : (before until tank release : ℕ) → (eqb tank before && leb release until) ≡ false → tank ≡ before → until < release
meal_follows before until tank release e t = go (leb release until) refl (ap (λ x. x && leb release until) (sym (eq-eqb tank before t)) ∙ e)
  where
    go : (b : Bool) → leb release until ≡ b → b ≡ false → until < release
    go true p q = absurd (true≢false q)
    go false p q = leb-false release until p

follows_meal : (before until tank release : ℕ) → (tank ≡ before → until < release) → (eqb tank before && leb release until) ≡ false
follows_meal before until tank release h = go (eqb tank before) refl
  where
    go : (b : Bool) → eqb tank before ≡ b → (b && leb release until) ≡ false
    go true e = lt-leb release until (h (eqb-true tank before e))
    go false e = refl

pub in_range_job_faults : (slots line before until : ℕ) (j : Job) → job_faults slots line before until j ≡ [] → JobInRange 1 slots before until j
unfolding job_faults tank_fault window_fault volume_fault meal_fault
in_range_job_faults slots line before until j e =
    let h₇ = append_nil_parts (fault bad_tank line (outside 1 max_tank j.tank || ltb j.tank before)) _ e in
    let h₈ = append_nil_parts (fault bad_window line (not (leb 1 j.release && (leb j.release j.deadline && leb j.deadline slots)))) _ h₇.1 in
    let h₉ = append_nil_parts (fault bad_volume line (eqb j.volume 0 || ltb (suc j.deadline - j.release) j.volume)) _ h₈.1 in
    let t = or_false (outside 1 max_tank j.tank) (ltb j.tank before) (false_fault bad_tank line _ h₇.0) in
    let w = and_true (leb 1 j.release) _ (not-false _ (false_fault bad_window line _ h₈.0)) in
    let x = and_true (leb j.release j.deadline) (leb j.deadline slots) w.1 in
    let v = or_false (eqb j.volume 0) (ltb (suc j.deadline - j.release) j.volume) (false_fault bad_volume line _ h₉.0) in
    let z : j.volume ≡ 0 → ⊥ = eqb-false j.volume 0 v.0 in
    record {
      tank = in_range_outside 1 max_tank j.tank t.0;
      rising = ltb-false j.tank before t.1;
      release = leb-true 1 j.release w.0;
      window = leb-true j.release j.deadline x.0;
      deadline = leb-true j.deadline slots x.1;
      volume = record { ge = omega arith; le = ltb-false (suc j.deadline - j.release) j.volume v.1 };
      meal = meal_follows before until j.tank j.release (false_fault bad_meal line _ h₉.1);
    }

pub job_faults_in_range : (slots line before until : ℕ) (j : Job) → JobInRange 1 slots before until j → job_faults slots line before until j ≡ []
unfolding job_faults tank_fault window_fault volume_fault meal_fault
job_faults_in_range slots line before until j h =
    rw
    (outside_in_range 1 max_tank j.tank h.tank, le-ltb j.tank before h.rising, le-leb 1 j.release h.release, le-leb j.release j.deadline h.window, le-leb j.deadline slots h.deadline, ne_eqb j.volume 0 (omega (arith, h.volume.ge)), le-ltb (suc j.deadline - j.release) j.volume h.volume.le, follows_meal before until j.tank j.release h.meal)

pub in_range_jobs_faults : (slots line before until : ℕ) (js : List Job) → jobs_faults slots line before until js ≡ [] → JobsInRange 1 slots before until js
unfolding jobs_faults
in_range_jobs_faults slots line before until [] e = tt
in_range_jobs_faults slots line before until (j ∷ js) e =
    let h = append_nil_parts (job_faults slots line before until j) (jobs_faults slots (suc line) j.tank j.deadline js) e in
    (in_range_job_faults slots line before until j h.0, in_range_jobs_faults slots (suc line) j.tank j.deadline js h.1)

pub jobs_faults_in_range : (slots line before until : ℕ) (js : List Job) → JobsInRange 1 slots before until js → jobs_faults slots line before until js ≡ []
unfolding jobs_faults
jobs_faults_in_range slots line before until [] h = refl
jobs_faults_in_range slots line before until (j ∷ js) h =
    append_nil_nil (job_faults_in_range slots line before until j h.0) (jobs_faults_in_range slots (suc line) j.tank j.deadline js h.1)

-- Meals -----------------------------------------------------------------------------

-- after a tank and a last slot no tank is below it, and its later meals begin after that slot
meals_after : (least slots before until : ℕ) (js : List Job) → JobsInRange least slots before until js → (k : ℕ) → k < length js → (d : Job)
    → (before ≤ (get_or js k d).tank) × ((get_or js k d).tank ≡ before → until < (get_or js k d).release)
meals_after least slots before until [] h k l d = absurd (omega arith)
meals_after least slots before until (j ∷ js) h zero l d = (h.0.rising, h.0.meal)
meals_after least slots before until (j ∷ js) h (suc k) l d =
    let r = meals_after least slots j.tank j.deadline js h.1 k (omega arith) d in (
      omega (arith, h.0.rising, r.0),
      λ e.
          let t : j.tank ≡ before = omega (arith, h.0.rising, r.0) in
          omega (arith, h.0.meal t, h.0.window, r.1 (e ∙ sym t)),
    )

pub meals_follow : (least slots before until : ℕ) (js : List Job) → JobsInRange least slots before until js → (i k : ℕ) → i < k → k < length js → (d : Job)
    → (get_or js i d).tank ≡ (get_or js k d).tank → (get_or js i d).deadline < (get_or js k d).release
meals_follow least slots before until [] h i k l m d e = absurd (omega arith)
meals_follow least slots before until (j ∷ js) h zero zero l m d e = absurd (omega arith)
meals_follow least slots before until (j ∷ js) h zero (suc k) l m d e = (meals_after least slots j.tank j.deadline js h.1 k (omega arith) d).1 (sym e)
meals_follow least slots before until (j ∷ js) h (suc i) zero l m d e = absurd (omega arith)
meals_follow least slots before until (j ∷ js) h (suc i) (suc k) l m d e = meals_follow least slots j.tank j.deadline js h.1 i k (omega arith) (omega arith) d e

-- 3 to 9 and 13 ----------------------------------------------------------------------------

pub record ValuesInRange (least : ℕ) (s : Sheet) (n : ℕ) (agrees : Bool) : Type 0 where
  pub head : HeadInRange s n agrees
  pub jobs : JobsInRange least s.slots 0 0 s.jobs

pub in_range_value_faults : (s : Sheet) (n : ℕ) (agrees : Bool) → value_faults s n agrees ≡ [] → ValuesInRange 1 s n agrees
unfolding value_faults
in_range_value_faults s n agrees e =
    let h = append_nil_parts (head_faults s n agrees) (jobs_faults s.slots 2 0 0 s.jobs) e in
    record { head = in_range_head_faults s n agrees h.0; jobs = in_range_jobs_faults s.slots 2 0 0 s.jobs h.1 }

pub value_faults_in_range : (s : Sheet) (n : ℕ) (agrees : Bool) → ValuesInRange 1 s n agrees → value_faults s n agrees ≡ []
unfolding value_faults
value_faults_in_range s n agrees h = append_nil_nil (head_faults_in_range s n agrees h.head) (jobs_faults_in_range s.slots 2 0 0 s.jobs h.jobs)

-- numbers in range have at most as many digits as a field has columns
fits_jobs_in_range : (least slots before until : ℕ) (js : List Job) → slots ≤ max_slots → JobsInRange least slots before until js → FitsJobs js
fits_jobs_in_range least slots before until [] l h = tt
fits_jobs_in_range least slots before until (j ∷ js) l h =
    let r = h.0 in
    let v : j.volume ≤ slots = omega arith in
    (record { tank = omega arith; release = omega arith; deadline = omega arith; volume = omega arith }, fits_jobs_in_range least slots j.tank j.deadline js l h.1)

pub fits_in_range : {least : ℕ} (s : Sheet) → ValuesInRange least s (length s.jobs) true → Fits s
fits_in_range {least} s h =
    let r = h.head in
    record {
      slots = omega arith;
      blowers = omega arith;
      wake = omega arith;
      rations = omega arith;
      jobs = fits_jobs_in_range least s.slots 0 0 s.jobs r.slots.le h.jobs;
    }

-- A lower least volume ---------------------------------------------------------------

jobs_looser : (least slots before until : ℕ) (js : List Job) → JobsInRange least slots before until js → JobsInRange 0 slots before until js
jobs_looser least slots before until [] h = tt
jobs_looser least slots before until (j ∷ js) h =
    let r = h.0 in (
      record {
        tank = r.tank;
        rising = r.rising;
        release = r.release;
        window = r.window;
        deadline = r.deadline;
        volume = record { ge = omega arith; le = r.volume.le };
        meal = r.meal;
      },
      jobs_looser least slots j.tank j.deadline js h.1,
    )

pub values_looser : {least : ℕ} {s : Sheet} {n : ℕ} {agrees : Bool} → ValuesInRange least s n agrees → ValuesInRange 0 s n agrees
values_looser {least} {s} h = record { head = h.head; jobs = jobs_looser least s.slots 0 0 s.jobs h.jobs }
