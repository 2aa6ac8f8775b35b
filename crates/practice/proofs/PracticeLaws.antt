-- The values of a practice sheet are in range; how they are drawn, ration after ration, and what the writer makes of
-- them. Assumes nothing.
use Rattle.std.specs.Prelude.{◌≡◌, ℕ, zero, suc, ◌+◌, ◌-◌, ◌*◌, ◌%◌, ◌<◌, ◌≤◌, true, List, [], ◌++◌, map, length, take, drop, replicate, ◌==◌, nat_eq, nat_lt, refl}
use Rattle.std.proofs.Math.Path.{sym, ap, ap₂}
use Rattle.std.proofs.Common.{subst₂, ◌∙◌, drop-drop, mod-lt, eq-eqb, le-ltb}
use native.Mathlib.Omega.{arith}
use Rattle.std.proofs.lemmas.List.{length-replicate}
use Rattle.common.specs.Lists.{range, part}
use Rattle.common.specs.ListLaws.{length_from, part_front}
use Rattle.common.specs.Buffers.{padded, put_at}
use Rattle.common.specs.BufferLaws.{length_put_at}
use Rattle.common.specs.FillLaws.{take_padded}
use Rattle.line.specs.Layout.{fields, line_bytes}
use Rattle.checks.specs.Limits.{max_rations}
use Rattle.checks.specs.Refusals.{short_buffer}
use Rattle.checks.specs.Sheet.{Job, job_numbers, jobs_of, sheet_from, numbers_to}
use Rattle.checks.specs.Checks.{fault, first_refusal, value_faults, flat_faults}
use Rattle.checks.specs.RangeLaws.{JobInRange, JobsInRange, ValuesInRange, value_faults_in_range}
use Rattle.checks.specs.NumbersLaws.{jobs_of_numbers_of, length_numbers_to, numbers_to_none, numbers_to_next}
use Rattle.sheet.specs.declared.Written.{Written}
use Rattle.sheet.specs.Calls.{write_refusal, write_refusal_for}
use Rattle.sheet.specs.OwnChecks.{Wrote}
use Rattle.practice.specs.Parts.{RationsFrom}
use Rattle.practice.proofs.DrawLaws.{seed_after_add, last_within}
use Rattle.practice.specs.Practice.{seed_after, draw, drawn_job, practice_job, practice_sheet, practice_bytes, practice_refusal}

-- In range ---------------------------------------------------------------------------

drawn_in_range : (s tank before until : ℕ) → before < tank → tank ≤ 64 → JobInRange 1 96 before until (drawn_job s tank)
unfolding drawn_job
drawn_in_range s tank before until h k =
    let first : ℕ = 1 + draw s 1 % 96 in
    let last : ℕ = first + draw s 2 % (97 - first) in
    let v : draw s 3 % (last + 1 - first) < last + 1 - first = mod-lt (draw s 3) (omega arith) in
    record {
      tank = record { ge = omega arith; le = omega arith };
      rising = omega arith;
      release = omega arith;
      window = omega arith;
      deadline = last_within (draw s 1) (draw s 2);
      volume = record { ge = omega arith; le = omega arith };
      meal = λ e. absurd (omega arith);
    }

-- tanks from i on: each is above the one before it
jobs_in_range : (seed i n before until : ℕ) → before < i → i + n ≤ 65 → JobsInRange 1 96 before until (map (practice_job seed) (range i n))
unfolding practice_job drawn_job
jobs_in_range seed i zero before until h k = tt
jobs_in_range seed i (suc n) before until h k =
    (drawn_in_range _ i before until h (omega arith), jobs_in_range seed (suc i) n i _ (omega arith) (omega arith))

pub rations_practice : (seed : ℕ) → length (practice_sheet seed).jobs ≡ draw seed 3 % 65
unfolding practice_sheet
rations_practice seed = length_from (practice_job seed) 1 (draw seed 3 % 65)

few : (seed : ℕ) → draw seed 3 % 65 ≤ 64
few seed =
    let h : draw seed 3 % 65 < 65 = mod-lt (draw seed 3) (omega arith) in
    omega arith

pub practice_few : (seed : ℕ) → length (practice_sheet seed).jobs ≤ 64
practice_few seed = omega (arith, rations_practice seed, few seed)

pub practice_in_range : (seed : ℕ) → ValuesInRange 1 (practice_sheet seed) (length (practice_sheet seed).jobs) true
unfolding practice_sheet
practice_in_range seed =
    let b : draw seed 1 % 8 < 8 = mod-lt (draw seed 1) (omega arith) in
    let w : draw seed 2 % 201 < 201 = mod-lt (draw seed 2) (omega arith) in
    record {
      head =
          record {
            slots = record { ge = omega arith; le = omega arith };
            blowers = record { ge = omega arith; le = omega arith };
            wake = omega arith;
            rations = practice_few seed;
            agree = refl;
          };
      jobs = jobs_in_range seed 1 (draw seed 3 % 65) 0 0 (omega arith) (omega (arith, few seed));
    }

pub practice_faults : (seed : ℕ) → value_faults (practice_sheet seed) (length (practice_sheet seed).jobs) true ≡ []
practice_faults seed = value_faults_in_range (practice_sheet seed) (length (practice_sheet seed).jobs) true (practice_in_range seed)

-- Drawn ------------------------------------------------------------------------------

-- after i rations: where the first seed drew the head line, s comes after theirs too, and their numbers are there
pub record Drawing (seed n : ℕ) (numbers : List ℕ) (s i : ℕ) : Type 0 where
  pub passed : i ≤ n
  pub few : n ≤ max_rations
  pub long : length numbers ≡ fields * max_rations
  pub drawn : (first : ℕ) → seed ≡ seed_after first 3
      → (s ≡ seed_after first (3 * (i + 1))) × (numbers ≡ padded (fields * max_rations) (numbers_to (practice_job first) i))

module _ (seed n : ℕ) where
  pub drawing_begin : n ≤ max_rations → Drawing seed n (replicate (fields * max_rations) 0) seed 0
  drawing_begin h =
      record {
        passed = omega arith;
        few = h;
        long = length-replicate {A = ℕ} (fields * max_rations) 0;
        drawn = λ first e. (e, numbers_to_none (practice_job first));
      }

  module _ (numbers : List ℕ) (s i : ℕ) (h : Drawing seed n numbers s i) where
    pub drawing_next : i < n → (numbers' : List ℕ) (s' : ℕ) → numbers' ≡ put_at (fields * i) (job_numbers (drawn_job s (i + 1))) numbers
        → s' ≡ seed_after s 3 → Drawing seed n numbers' s' (i + 1)
    unfolding practice_job
    drawing_next l numbers' s' p q =
        record {
          passed = omega arith;
          few = h.few;
          long =
              ap length p
              ∙ length_put_at (fields * i) (job_numbers (drawn_job s (i + 1))) numbers (omega (arith, h.long, h.few))
              ∙ h.long;
          drawn = λ first e.
              let d = h.drawn first e in (
                q ∙ ap (λ z. seed_after z 3) d.0 ∙ seed_after_add first 3 (3 * (i + 1)) ∙ ap (seed_after first) three,
                p
                    ∙ ap₂ (λ z l. put_at (fields * i) (job_numbers (drawn_job z (i + 1))) l) d.0 d.1
                    ∙ numbers_to_next (practice_job first) i,
              );
        }
      where
        three : 3 * (i + 1) + 3 ≡ 3 * (i + 1 + 1)
        three = omega arith

    -- four numbers written into their part of the array
    pub drawing_put : i < n → (four numbers' : List ℕ) (s' : ℕ) → four ≡ job_numbers (drawn_job s (i + 1))
        → numbers' ≡ take (fields * i) numbers ++ (four ++ drop (fields * (i + 1) - fields * i) (drop (fields * i) numbers))
        → s' ≡ seed_after s 3 → Drawing seed n numbers' s' (i + 1)
    unfolding put_at
    drawing_put l four numbers' s' e p q = drawing_next l numbers' s' (p ∙ put) q
      where
        size : (i : ℕ) → fields * (i + 1) - fields * i ≡ fields
        size i = omega arith

        put : take (fields * i) numbers ++ (four ++ drop (fields * (i + 1) - fields * i) (drop (fields * i) numbers))
            ≡ put_at (fields * i) (job_numbers (drawn_job s (i + 1))) numbers
        put =
            ap₂ (λ (x : List ℕ) (k : ℕ). take (fields * i) numbers ++ (x ++ drop k (drop (fields * i) numbers))) e (size i)
            ∙ ap (λ (r : List ℕ). take (fields * i) numbers ++ (job_numbers (drawn_job s (i + 1)) ++ r)) (drop-drop fields (fields * i) numbers)

    pub drawing_end : i ≡ n → RationsFrom seed n numbers
    drawing_end e first f = (h.drawn first f).1 ∙ ap (λ k. padded (fields * max_rations) (numbers_to (practice_job first) k)) e

-- Written ----------------------------------------------------------------------------

-- the numbers drawn
module _ (seed blowers wake n : ℕ) (numbers : List ℕ) (b : blowers ≡ 1 + draw seed 1 % 8) (w : wake ≡ draw seed 2 % 201)
    (r : n ≡ draw seed 3 % 65) (e : numbers ≡ numbers_to (practice_job seed) n) where
  pub drawn_sheet : sheet_from 96 blowers wake numbers ≡ practice_sheet seed
  unfolding sheet_from practice_sheet
  drawn_sheet =
      rw (b, w) (λ i. record { slots = 96; blowers = 1 + draw seed 1 % 8; wake = draw seed 2 % 201; jobs = same i })
    where
      same : jobs_of numbers ≡ map (practice_job seed) (range 1 (draw seed 3 % 65))
      same = ap jobs_of e ∙ jobs_of_numbers_of (map (practice_job seed) (range 1 n)) ∙ ap (λ k. map (practice_job seed) (range 1 k)) r

  pub drawn_refusal : (size : ℕ) → write_refusal (sheet_from 96 blowers wake numbers) n numbers size ≡ practice_refusal seed size
  unfolding write_refusal practice_refusal write_refusal_for
  drawn_refusal size = ap₂ (λ own k. first_refusal (own ++ fault short_buffer 0 (nat_lt size (line_bytes * suc k)))) none count
    where
      count : n ≡ length (practice_sheet seed).jobs
      count = r ∙ sym (rations_practice seed)

      agrees : nat_eq (fields * n) (length numbers) ≡ true
      agrees = eq-eqb (fields * n) (length numbers) (sym (ap length e ∙ length_numbers_to (practice_job seed) n))

      none : flat_faults (sheet_from 96 blowers wake numbers) n numbers ≡ []
      none =
          ap (λ t. value_faults t n (fields * n == length numbers)) drawn_sheet
          ∙ ap₂ (value_faults (practice_sheet seed)) count agrees
          ∙ practice_faults seed

  -- what the writer made of them
  pub drawn_written : {w : Written} (out : List ℕ) {new : List ℕ}
      → Wrote (write_refusal (sheet_from 96 blowers wake numbers) n numbers (length out)) (sheet_from 96 blowers wake numbers) out new w
      → Wrote (practice_refusal seed (length out)) (practice_sheet seed) out new w
  drawn_written {w} out {new} h = subst₂ (λ f t. Wrote f t out new w) (drawn_refusal (length out)) drawn_sheet h

-- the numbers of n rations, at the front of all
pub front_numbers : (job : ℕ → Job) (n : ℕ) (xs : List ℕ) → xs ≡ padded (fields * max_rations) (numbers_to job n)
    → part 0 (fields * n) xs ≡ numbers_to job n
front_numbers job n xs e =
    sym (part_front xs (fields * n))
    ∙ ap (take (fields * n)) e
    ∙ take_padded (fields * max_rations) (numbers_to job n) (fields * n) (length_numbers_to job n)

-- a buffer that is long enough
pub practice_room : (seed size : ℕ) → line_bytes * suc (length (practice_sheet seed).jobs) ≤ size → practice_refusal seed size ≡ record { number = 0; line = 0 }
unfolding practice_refusal write_refusal_for first_refusal
practice_room seed size h = rw (le-ltb size (line_bytes * suc (length (practice_sheet seed).jobs)) h)

-- the longest sheet
pub practice_longest : (seed : ℕ) → line_bytes * suc (length (practice_sheet seed).jobs) ≤ practice_bytes
practice_longest seed = omega (arith, practice_few seed)
