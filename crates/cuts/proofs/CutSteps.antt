-- How the numbers of a sheet are cut ration after ration. Assumes nothing.
use mathlib.Core.Path.{◌≡◌, refl, sym, ap, ◌∙◌}
use mathlib.Core.List.{List, [], ◌∷◌, ◌++◌, map}
use Prim.Native.Nat.{ℕ, zero, suc, ◌+◌, ◌-◌, ◌*◌, ◌≤◌, ◌<◌}
use native.Mathlib.Numerals.{add-one}
use native.Mathlib.Omega.{arith}
use lib.ListN.{length, get_or, set, replicate, length-map, length-set}
use Rattle.common.specs.Buffers.{padded}
use Rattle.common.specs.BufferLaws.{length_padded}
use Rattle.line.specs.Layout.{fields}
use Rattle.checks.specs.declared.Refusal.{Refusal}
use Rattle.checks.specs.Limits.{max_slots, max_rations}
use Rattle.checks.specs.Sheet.{Job, Sheet, numbers_of}
use Rattle.checks.specs.NumbersLaws.{length_numbers_of, numbers_of_at, numbers_of_set}
use Rattle.sheet.specs.declared.Reading.{Reading}
use Rattle.sheet.specs.Calls.{accepted}
use Rattle.sheet.specs.OwnChecks.{ReadFrom, ReadSheet}
use Rattle.sheet.proofs.OwnCheckLaws.{read_is, read_values}
use Rattle.schedules.specs.DemandLaws.{no_job}
use Rattle.schedules.proofs.DemandLaws.{length_demands_of, volume_of_demands_of, demands_of_in_range}
use Rattle.cuts.specs.Cuts.{cut_volume, cut_job, cut_sheet}
use Rattle.cuts.specs.Clauses.{CutFrom}

-- ---- rations of which the first n are cut

abbrev cut_first : (share n : ℕ) → List Job → List Job
cut_first share zero js = js
cut_first share (suc n) [] = []
cut_first share (suc n) (j ∷ js) = cut_job share j ∷ cut_first share n js

length_cut_first : (share n : ℕ) (js : List Job) → length (cut_first share n js) ≡ length js
length_cut_first share zero js = refl
length_cut_first share (suc n) [] = refl
length_cut_first share (suc n) (j ∷ js) = ap suc (length_cut_first share n js)

-- the next one is not cut yet
cut_first_at : (share n : ℕ) (js : List Job) → get_or (cut_first share n js) n no_job ≡ get_or js n no_job
cut_first_at share zero js = refl
cut_first_at share (suc n) [] = refl
cut_first_at share (suc n) (j ∷ js) = cut_first_at share n js

cut_first_next : (share n : ℕ) (js : List Job) → n < length js → set (cut_first share n js) n (cut_job share (get_or js n no_job)) ≡ cut_first share (suc n) js
cut_first_next share zero [] l = absurd (omega arith)
cut_first_next share zero (j ∷ js) l = refl
cut_first_next share (suc n) [] l = absurd (omega arith)
cut_first_next share (suc n) (j ∷ js) l = ap (λ (ks : List Job). cut_job share j ∷ ks) (cut_first_next share n js (omega arith))

cut_first_all : (share : ℕ) (js : List Job) → cut_first share (length js) js ≡ map (cut_job share) js
cut_first_all share [] = refl
cut_first_all share (j ∷ js) = ap (λ (ks : List Job). cut_job share j ∷ ks) (cut_first_all share js)

-- ---- their numbers

abbrev numbers_cut : (share n : ℕ) → List Job → List ℕ
numbers_cut share n js = padded (fields * max_rations) (numbers_of (cut_first share n js))

module _ (share n : ℕ) (js : List Job) (l : n < length js) where
  -- what follows the numbers of these rations
  abbrev rest : ℕ → List ℕ
  rest k = replicate (fields * max_rations - length (numbers_of (cut_first share k js))) 0

  same_rest : rest n ≡ rest (suc n)
  same_rest =
      ap (λ k. replicate (fields * max_rations - k) 0)
      (length_numbers_of (cut_first share n js)
      ∙ ap (λ k. fields * k) (length_cut_first share n js ∙ sym (length_cut_first share (suc n) js))
      ∙ sym (length_numbers_of (cut_first share (suc n) js)))

  volume_next : get_or (numbers_cut share n js) (fields * n + 3) 0 ≡ (get_or js n no_job).volume
  unfolding padded
  volume_next =
      numbers_of_at no_job (cut_first share n js) (rest n) n 3 (omega (arith, length_cut_first share n js)) (omega arith)
      ∙ ap (λ j. j.volume) (cut_first_at share n js)

  cut_next : set (numbers_cut share n js) (fields * n + 3) (cut_volume share (get_or js n no_job).volume) ≡ numbers_cut share (suc n) js
  unfolding padded cut_job
  cut_next =
      numbers_of_set no_job (cut_first share n js) (rest n) n (cut_volume share (get_or js n no_job).volume) (omega (arith, length_cut_first share n js))
      ∙ ap (λ (j : Job). numbers_of (set (cut_first share n js) n (record {
        tank = j.tank;
        release = j.release;
        deadline = j.deadline;
        volume = cut_volume share (get_or js n no_job).volume;
      })) ++ rest n) (cut_first_at share n js)
      ∙ ap (λ (ks : List Job). numbers_of ks ++ rest n) (cut_first_next share n js l)
      ∙ ap (λ (zs : List ℕ). numbers_of (cut_first share (suc n) js) ++ zs) same_rest

-- ---- the loop of `cut_sheet`

-- the numbers with the first n rations cut, of whatever sheet was read
pub record Cutting (share : ℕ) (r : Reading) (numbers : List ℕ) (n : ℕ) : Type 0 where
  pub long : length numbers ≡ fields * max_rations
  pub cut : (own : List Refusal) (s : Sheet) → ReadFrom own s r → numbers ≡ numbers_cut share n s.jobs

module _ {own : List Refusal} {s : Sheet} {r : Reading} (h : ReadFrom own s r) (z : r.number ≡ 0) where
  rations_read_lem : r.rations ≡ length s.jobs
  unfolding accepted
  rations_read_lem = ap (λ x. x.rations) (read_is h z)

  volume_small : (n : ℕ) → n < r.rations → (get_or s.jobs n no_job).volume ≤ max_slots
  volume_small n l =
      let k : n < length s.jobs = omega (arith, rations_read_lem) in
      omega (
        arith,
        volume_of_demands_of s n k,
        (demands_of_in_range s (read_values h z)).small n (rw (length_demands_of s) k),
      )

module _ (share : ℕ) {r : Reading} (sheet : ReadSheet r) where
  z : r.number ≡ 0
  z = sheet.zero

  h : ReadFrom sheet.some.own sheet.some.sheet r
  h = sheet.some.read

  pub few : r.rations ≤ max_rations
  few = omega (arith, rations_read_lem h z, (read_values h z).head.rations)

  pub cutting_begin : Cutting share r r.numbers 0
  unfolding accepted
  cutting_begin =
      record {
        long =
            ap (λ x. length x.numbers) (read_is h z)
            ∙ length_padded (fields * max_rations) (numbers_of sheet.some.sheet.jobs)
            (omega (arith, length_numbers_of sheet.some.sheet.jobs, (read_values h z).head.rations));
        cut = λ own s k. ap (λ x. x.numbers) (read_is k z);
      }

  module _ {numbers : List ℕ} {n : ℕ} (c : Cutting share r numbers n) where
    volume_of_lem : {own : List Refusal} {s : Sheet} → ReadFrom own s r → n < r.rations → get_or numbers (fields * n + 3) 0 ≡ (get_or s.jobs n no_job).volume
    volume_of_lem {own} {s} k l =
        ap (λ xs. get_or xs (fields * n + 3) 0) (c.cut own s k) ∙ volume_next share n s.jobs (omega (arith, rations_read_lem k z))

    pub cutting_small : n < r.rations → get_or numbers (fields * n + 3) 0 ≤ max_slots
    cutting_small l = omega (arith, volume_of_lem h l, volume_small h z n l)

    pub cutting_next : n < r.rations → {v : ℕ} → v ≡ cut_volume share (get_or numbers (fields * n + 3) 0) → Cutting share r (set numbers (fields * n + 3) v) (n + 1)
    cutting_next l {v} e =
        record {
          long = length-set numbers (fields * n + 3) v ∙ c.long;
          cut = λ own s k.
              ap (λ x. set numbers (fields * n + 3) x) (e ∙ ap (cut_volume share) (volume_of_lem k l))
              ∙ ap (λ xs. set xs (fields * n + 3) (cut_volume share (get_or s.jobs n no_job).volume)) (c.cut own s k)
              ∙ cut_next share n s.jobs (omega (arith, rations_read_lem k z))
              ∙ ap (λ m. numbers_cut share m s.jobs) (sym (add-one n));
        }

    pub cutting_end : n ≡ r.rations
        → CutFrom share r (record { number = 0; line = 0; slots = r.slots; blowers = r.blowers; wake = r.wake; rations = r.rations; numbers = numbers })
    unfolding accepted cut_sheet
    cutting_end e own s k i =
        record {
          number = 0;
          line = 0;
          slots = (read_is k z i).slots;
          blowers = (read_is k z i).blowers;
          wake = (read_is k z i).wake;
          rations = (rations_read_lem k z ∙ sym (length-map s.jobs (cut_job share))) i;
          numbers =
              (c.cut own s k
              ∙ ap (λ m. numbers_cut share m s.jobs) (e ∙ rations_read_lem k z)
              ∙ ap (λ js. padded (fields * max_rations) (numbers_of js)) (cut_first_all share s.jobs)) i;
        }
