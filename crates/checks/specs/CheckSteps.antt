-- How the checks of rations go on by one line, and what an empty list of refusals says. Assumes nothing.
use Rattle.std.specs.Prelude.{◌≡◌, refl, Bool, true, false, ◌&&◌, not, List, [], ◌∷◌, ◌++◌, ℕ, suc, ◌+◌, ◌-◌, ◌*◌, ◌≤◌, ◌<◌, leb, ltb, length, get_or, take}
use Rattle.std.proofs.Common.{sym, ◌∙◌, true≢false, arith, leb-true, leb-false, le-ltb, lt-ltb}
use Rattle.std.proofs.Math.Path.{ap}
use Rattle.std.proofs.Math.Numerals.{add-one}
use Rattle.common.specs.Lists.{part}
use Rattle.common.specs.ListLaws.{part_cons, part_none, part_front}
use Rattle.line.specs.Layout.{fields}
use Rattle.checks.specs.declared.Refusal.{Refusal}
use Rattle.checks.specs.Refusals.{bad_tank, bad_window, bad_volume, bad_meal}
use Rattle.checks.specs.Sheet.{jobs_of}
use Rattle.checks.specs.Checks.{first_refusal, tank_fault, window_fault, volume_fault, meal_fault, job_faults, jobs_faults}
use Rattle.checks.specs.FaultLaws.{numbered_job_faults}
use Rattle.checks.specs.Parts.{job}

-- ---- the first refusal of two lists

pub first_left : (xs ys : List Refusal) → ((first_refusal xs).number ≡ 0 → ⊥) → first_refusal xs ≡ first_refusal (xs ++ ys)
unfolding first_refusal
first_left [] ys n = absurd (n refl)
first_left (x ∷ xs) ys n = refl

pub first_right : (xs ys : List Refusal) → xs ≡ [] → first_refusal (xs ++ ys) ≡ first_refusal ys
first_right xs ys e = rw e

-- ---- one ration

pub above_last : (deadline slots : ℕ) → ltb slots deadline ≡ not (leb deadline slots)
above_last deadline slots = go (leb deadline slots) refl
  where
    go : (b : Bool) → leb deadline slots ≡ b → ltb slots deadline ≡ not b
    go true e = le-ltb slots deadline (leb-true deadline slots e)
    go false e = lt-ltb slots deadline (leb-false deadline slots e)

-- a window's length, as the code counts it
pub window_length : (release deadline volume : ℕ) → release ≤ deadline → ltb (deadline - release + 1) volume ≡ ltb (suc deadline - release) volume
window_length release deadline volume h = ap (λ n. ltb n volume) count
  where
    count : deadline - release + 1 ≡ suc deadline - release
    count = omega arith

-- a window without fault is in order
pub window_order : (slots release deadline : ℕ) → window_fault slots release deadline ≡ false → (1 ≤ release) × (release ≤ deadline)
unfolding window_fault
window_order slots release deadline e = go (leb 1 release) (leb release deadline) (leb deadline slots) refl refl e
  where
    go : (a b c : Bool) → leb 1 release ≡ a → leb release deadline ≡ b → not (a && (b && c)) ≡ false → (1 ≤ release) × (release ≤ deadline)
    go true true c p q e = (leb-true 1 release p, leb-true release deadline q)
    go true false c p q e = absurd (true≢false e)
    go false b c p q e = absurd (true≢false e)

module _ (slots line before until tank release deadline volume : ℕ) where
  pub refusal_7 : true ≡ tank_fault before tank → record { number = bad_tank; line = line } ≡ first_refusal (job_faults slots line before until (job tank release deadline volume))
  unfolding job_faults first_refusal
  refusal_7 e = rw (← e)

  module _ (a : false ≡ tank_fault before tank) where
    pub refusal_8 : true ≡ window_fault slots release deadline
        → record { number = bad_window; line = line } ≡ first_refusal (job_faults slots line before until (job tank release deadline volume))
    unfolding job_faults first_refusal
    refusal_8 e = rw (← a, ← e)

    module _ (b : false ≡ window_fault slots release deadline) where
      pub refusal_9 : true ≡ volume_fault release deadline volume
          → record { number = bad_volume; line = line } ≡ first_refusal (job_faults slots line before until (job tank release deadline volume))
      unfolding job_faults first_refusal
      refusal_9 e = rw (← a, ← b, ← e)

      module _ (d : false ≡ volume_fault release deadline volume) where
        pub refusal_13 : true ≡ meal_fault before until tank release
            → record { number = bad_meal; line = line } ≡ first_refusal (job_faults slots line before until (job tank release deadline volume))
        unfolding job_faults first_refusal
        refusal_13 e = rw (← a, ← b, ← d, ← e)

        pub refusal_none : false ≡ meal_fault before until tank release
            → record { number = 0; line = 0 } ≡ first_refusal (job_faults slots line before until (job tank release deadline volume))
        unfolding job_faults first_refusal
        refusal_none e = rw (← a, ← b, ← d, ← e)

-- ---- line by line

module _ (slots n : ℕ) (numbers : List ℕ) (h : fields * n ≤ length numbers) where
  pub rations_begin : first_refusal (jobs_faults slots 2 0 0 (jobs_of (take (fields * n) numbers))) ≡ first_refusal (jobs_faults slots 2 0 0 (jobs_of (part (fields * 0) (fields * n) numbers)))
  rations_begin = ap (λ xs. first_refusal (jobs_faults slots 2 0 0 (jobs_of xs))) (part_front numbers (fields * n))

  pub rations_end : (line before until i : ℕ) → i ≡ n → record { number = 0; line = 0 } ≡ first_refusal (jobs_faults slots line before until (jobs_of (part (fields * i) (fields * n) numbers)))
  unfolding jobs_faults jobs_of first_refusal
  rations_end line before until i e = rw (e, part_none numbers (fields * n))

  module _ (i : ℕ) (l : i < n) where
    abbrev pub from : ℕ → List ℕ
    from k = part k (fields * n) numbers

    abbrev pub at : ℕ → ℕ
    at k = get_or numbers k 0

    jobs_next : jobs_of (from (fields * i))
        ≡ job (at (fields * i)) (at (fields * i + 1)) (at (fields * i + 2)) (at (fields * i + 3)) ∷ jobs_of (from (fields * (i + 1)))
    unfolding jobs_of
    jobs_next =
        ap jobs_of
        (part_cons numbers (fields * i) (fields * n) 0 (omega arith) h
        ∙ ap (λ xs. at (fields * i) ∷ xs) (step 1 2 (omega arith) (omega arith))
        ∙ ap (λ xs. at (fields * i) ∷ at (fields * i + 1) ∷ xs) (step 2 3 (omega arith) (omega arith))
        ∙ ap (λ xs. at (fields * i) ∷ at (fields * i + 1) ∷ at (fields * i + 2) ∷ xs) (step 3 4 (omega arith) (omega arith)))
        ∙ ap (λ k. job (at (fields * i)) (at (fields * i + 1)) (at (fields * i + 2)) (at (fields * i + 3)) ∷ jobs_of (from k)) last
      where
        step : (k m : ℕ) → k < fields → (fields * i + k) + 1 ≡ fields * i + m → from (fields * i + k) ≡ at (fields * i + k) ∷ from (fields * i + m)
        step k m b e = part_cons numbers (fields * i + k) (fields * n) 0 (omega arith) h ∙ ap (λ x. at (fields * i + k) ∷ from x) e

        last : fields * i + 4 ≡ fields * (i + 1)
        last = omega arith

    module _ (line before until : ℕ) (r : Refusal)
        (e : r ≡ first_refusal (job_faults slots line before until (job (at (fields * i)) (at (fields * i + 1)) (at (fields * i + 2)) (at (fields * i + 3))))) where
      -- the ration is refused
      pub rations_hit : (r.number ≡ 0 → ⊥) → r ≡ first_refusal (jobs_faults slots line before until (jobs_of (from (fields * i))))
      unfolding jobs_faults
      rations_hit n =
          e ∙ first_left _ (jobs_faults slots (suc line) (at (fields * i)) (at (fields * i + 2)) (jobs_of (from (fields * (i + 1))))) (λ z. n (ap (λ x. x.number) e ∙ z))
          ∙ ap (λ js. first_refusal (jobs_faults slots line before until js)) (sym jobs_next)

      -- the ration passes
      pub rations_miss : (next : ℕ) → next ≡ line + 1 → r.number ≡ 0 → first_refusal (jobs_faults slots line before until (jobs_of (from (fields * i))))
          ≡ first_refusal (jobs_faults slots next (at (fields * i)) (at (fields * i + 2)) (jobs_of (from (fields * (i + 1)))))
      unfolding jobs_faults
      rations_miss next k z =
          ap (λ js. first_refusal (jobs_faults slots line before until js)) jobs_next
          ∙ first_right _ _ (numbered_job_faults slots line before until _ (sym (ap (λ x. x.number) e) ∙ z))
          ∙ ap (λ k. first_refusal (jobs_faults slots k (at (fields * i)) (at (fields * i + 2)) (jobs_of (from (fields * (i + 1)))))) (sym (k ∙ add-one line))
