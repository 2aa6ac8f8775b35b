-- A written sheet has its head and its rations in its lines and is read back, and a sheet of lines without a fault is the one that is written for its numbers.
-- Assumes nothing.
use Rattle.std.specs.Prelude.{◌≡◌, false, length, get_or}
use Rattle.std.proofs.Math.Path.{refl, ap₂}
use Rattle.std.proofs.Common.{sym, ap, ◌∙◌, arith, length-append}
use mathlib.Core.List.{List, [], ◌∷◌, ◌++◌, map}
use Prim.Native.Nat.{ℕ, zero, suc, ◌+◌, ◌-◌, ◌*◌, ◌^◌, ◌≤◌, ◌<◌}
use Rattle.common.specs.Lists.{range, flat_map}
use Rattle.common.specs.ListLaws.{length_from}
use Rattle.common.specs.ChunkLaws.{chunk_zero, chunk_suc, length_chunk, flat_map_chunk}
use Rattle.line.specs.Layout.{width, fields, line_bytes}
use Rattle.line.specs.Line.{value_at, faulty_line, write_line}
use Rattle.line.specs.LineLaws.{length_write_line, value_at_write_line, faulty_line_write_line, write_line_value_at}
use Rattle.checks.specs.Sheet.{Job, Sheet, line_count, line_at, job_at, sheet_of, write_job, write_sheet}

-- Lines ---------------------------------------------------------------------------

pub line_at_zero : (xs ys : List ℕ) → length xs ≡ line_bytes → line_at (xs ++ ys) 0 ≡ xs
unfolding line_at
line_at_zero xs ys e = chunk_zero line_bytes xs ys e

pub line_at_suc : (xs ys : List ℕ) (i : ℕ) → length xs ≡ line_bytes → line_at (xs ++ ys) (suc i) ≡ line_at ys i
unfolding line_at
line_at_suc xs ys i e = chunk_suc line_bytes xs ys i e

pub length_line_at : (b : List ℕ) (i : ℕ) → line_bytes * suc i ≤ length b → length (line_at b i) ≡ line_bytes
unfolding line_at
length_line_at b i h = length_chunk line_bytes b i h

-- A sheet of n lines is its lines, one after the other.
pub flat_map_line_at : (b : List ℕ) (n : ℕ) → length b ≡ line_bytes * n → flat_map (line_at b) (range 0 n) ≡ b
unfolding line_at
flat_map_line_at b n e = flat_map_chunk line_bytes b n e

pub line_count_lines : (b : List ℕ) (n : ℕ) → length b ≡ line_bytes * n → line_count b ≡ n
unfolding line_count
line_count_lines b n e = omega arith

-- A written sheet's lines -------------------------------------------------------------

pub length_write_job : (j : Job) → length (write_job j) ≡ line_bytes
unfolding write_job
length_write_job j = length_write_line j.tank j.release j.deadline j.volume

length_write_jobs : (js : List Job) → length (flat_map write_job js) ≡ line_bytes * length js
length_write_jobs [] = refl
length_write_jobs (j ∷ js) = length-append (write_job j) (flat_map write_job js) ∙ omega (arith, length_write_job j, length_write_jobs js)

-- the head line
abbrev write_head : Sheet → List ℕ
write_head s = write_line s.slots s.blowers s.wake (length s.jobs)

length_write_head : (s : Sheet) → length (write_head s) ≡ line_bytes
length_write_head s = length_write_line s.slots s.blowers s.wake (length s.jobs)

pub length_write_sheet : (s : Sheet) → length (write_sheet s) ≡ line_bytes * suc (length s.jobs)
unfolding write_sheet
length_write_sheet s = length-append (write_head s) (flat_map write_job s.jobs) ∙ omega (arith, length_write_head s, length_write_jobs s.jobs)

pub line_count_write_sheet : (s : Sheet) → line_count (write_sheet s) ≡ suc (length s.jobs)
line_count_write_sheet s = line_count_lines (write_sheet s) (suc (length s.jobs)) (length_write_sheet s)

pub line_at_write_sheet_zero : (s : Sheet) → line_at (write_sheet s) 0 ≡ write_line s.slots s.blowers s.wake (length s.jobs)
unfolding write_sheet
line_at_write_sheet_zero s = line_at_zero (write_head s) (flat_map write_job s.jobs) (length_write_head s)

line_at_write_sheet_rest : (s : Sheet) (i : ℕ) → line_at (write_sheet s) (suc i) ≡ line_at (flat_map write_job s.jobs) i
unfolding write_sheet
line_at_write_sheet_rest s i = line_at_suc (write_head s) (flat_map write_job s.jobs) i (length_write_head s)

-- Written, then read ----------------------------------------------------------------

-- the ration's numbers have at most as many digits as a field has columns
pub record FitsJob (j : Job) : Type 0 where
  pub tank : j.tank < 10 ^ width
  pub release : j.release < 10 ^ width
  pub deadline : j.deadline < 10 ^ width
  pub volume : j.volume < 10 ^ width

abbrev pub FitsJobs : List Job → Type 0
FitsJobs [] = Unit {0}
FitsJobs (j ∷ js) = FitsJob j × FitsJobs js

-- .. and so have the sheet's
pub record Fits (s : Sheet) : Type 0 where
  pub slots : s.slots < 10 ^ width
  pub blowers : s.blowers < 10 ^ width
  pub wake : s.wake < 10 ^ width
  pub rations : length s.jobs < 10 ^ width
  pub jobs : FitsJobs s.jobs

job_at_line : (b : List ℕ) (i : ℕ) (j : Job) → line_at b i ≡ write_job j → FitsJob j → job_at b i ≡ j
unfolding job_at write_job
job_at_line b i j e h =
    λ k.
    record {
      tank = (number 0 ∙ value_at_write_line j.tank j.release j.deadline j.volume 0 (omega arith) h.tank) k;
      release = (number 1 ∙ value_at_write_line j.tank j.release j.deadline j.volume 1 (omega arith) h.release) k;
      deadline = (number 2 ∙ value_at_write_line j.tank j.release j.deadline j.volume 2 (omega arith) h.deadline) k;
      volume = (number 3 ∙ value_at_write_line j.tank j.release j.deadline j.volume 3 (omega arith) h.volume) k;
    }
  where
    number : (f : ℕ) → value_at (line_at b i) f ≡ value_at (write_job j) f
    number f = ap (λ (l : List ℕ). value_at l f) e

job_at_suc : (xs ys : List ℕ) (i : ℕ) → length xs ≡ line_bytes → job_at (xs ++ ys) (suc i) ≡ job_at ys i
unfolding job_at
job_at_suc xs ys i e = simp (line_at_suc xs ys i e)

map_job_at_suc : (xs ys : List ℕ) (i n : ℕ) → length xs ≡ line_bytes → map (job_at (xs ++ ys)) (range (suc i) n) ≡ map (job_at ys) (range i n)
map_job_at_suc xs ys i zero e = refl
map_job_at_suc xs ys i (suc n) e = ap₂ (λ (j : Job) (js : List Job). j ∷ js) (job_at_suc xs ys i e) (map_job_at_suc xs ys (suc i) n e)

map_job_at_write_jobs : (js : List Job) → FitsJobs js → map (job_at (flat_map write_job js)) (range 0 (length js)) ≡ js
map_job_at_write_jobs [] h = refl
map_job_at_write_jobs (j ∷ js) h =
    ap₂
    (λ (x : Job) (xs : List Job). x ∷ xs)
    (job_at_line (write_job j ++ flat_map write_job js) 0 j (line_at_zero (write_job j) (flat_map write_job js) (length_write_job j)) h.0)
    (map_job_at_suc (write_job j) (flat_map write_job js) 0 (length js) (length_write_job j) ∙ map_job_at_write_jobs js h.1)

-- the numbers of the head line
value_at_write_sheet : (s : Sheet) (f : ℕ) → f < fields → get_or (s.slots ∷ s.blowers ∷ s.wake ∷ length s.jobs ∷ []) f 0 < 10 ^ width
    → value_at (line_at (write_sheet s) 0) f ≡ get_or (s.slots ∷ s.blowers ∷ s.wake ∷ length s.jobs ∷ []) f 0
value_at_write_sheet s f h l =
    ap (λ (l : List ℕ). value_at l f) (line_at_write_sheet_zero s) ∙ value_at_write_line s.slots s.blowers s.wake (length s.jobs) f h l

pub rations_write_sheet : (s : Sheet) → Fits s → value_at (line_at (write_sheet s) 0) 3 ≡ length s.jobs
rations_write_sheet s h = value_at_write_sheet s 3 (omega arith) h.rations

jobs_write_sheet : (s : Sheet) → Fits s → map (job_at (write_sheet s)) (range 1 (line_count (write_sheet s) - 1)) ≡ s.jobs
unfolding write_sheet
jobs_write_sheet s h =
    let n : line_count (write_sheet s) - 1 ≡ length s.jobs = omega (arith, line_count_write_sheet s) in
    ap (λ (k : ℕ). map (job_at (write_sheet s)) (range 1 k)) n
    ∙ map_job_at_suc (write_head s) (flat_map write_job s.jobs) 0 (length s.jobs) (length_write_head s)
    ∙ map_job_at_write_jobs s.jobs h.jobs

-- The numbers read from a written sheet are those that were written.
pub sheet_of_write_sheet : (s : Sheet) → Fits s → sheet_of (write_sheet s) ≡ s
unfolding sheet_of
sheet_of_write_sheet s h =
    λ k.
    record {
      slots = value_at_write_sheet s 0 (omega arith) h.slots k;
      blowers = value_at_write_sheet s 1 (omega arith) h.blowers k;
      wake = value_at_write_sheet s 2 (omega arith) h.wake k;
      jobs = jobs_write_sheet s h k;
    }

faulty_line_write_jobs : (js : List Job) (i : ℕ) → FitsJobs js → i < length js → faulty_line (line_at (flat_map write_job js) i) ≡ false
unfolding write_job
faulty_line_write_jobs [] i h l = absurd (omega arith)
faulty_line_write_jobs (j ∷ js) zero h l =
    rw
    (line_at_zero (write_job j) (flat_map write_job js) (length_write_job j))
    (faulty_line_write_line j.tank j.release j.deadline j.volume h.0.tank h.0.release h.0.deadline h.0.volume)
faulty_line_write_jobs (j ∷ js) (suc i) h l =
    rw (line_at_suc (write_job j) (flat_map write_job js) i (length_write_job j)) (faulty_line_write_jobs js i h.1 (omega arith))

-- No line of a written sheet is faulty.
pub faulty_line_write_sheet : (s : Sheet) (i : ℕ) → Fits s → i < line_count (write_sheet s) → faulty_line (line_at (write_sheet s) i) ≡ false
faulty_line_write_sheet s zero h l =
    rw
    (line_at_write_sheet_zero s)
    (faulty_line_write_line s.slots s.blowers s.wake (length s.jobs) h.slots h.blowers h.wake h.rations)
faulty_line_write_sheet s (suc i) h l = rw (line_at_write_sheet_rest s i) (faulty_line_write_jobs s.jobs i h.jobs (omega (arith, line_count_write_sheet s)))

-- Read, then written ----------------------------------------------------------------

module _ (b : List ℕ) (n : ℕ) (size : length b ≡ line_bytes * n) (good : (i : ℕ) → i < n → faulty_line (line_at b i) ≡ false) where
  write_line_line_at : (i : ℕ) → i < n → line_at b i ≡ write_line (value_at (line_at b i) 0) (value_at (line_at b i) 1) (value_at (line_at b i) 2) (value_at (line_at b i) 3)
  write_line_line_at i h = write_line_value_at (line_at b i) (length_line_at b i (omega arith)) (good i h)

  write_jobs_lines : (i k : ℕ) → i + k ≡ n → flat_map write_job (map (job_at b) (range i k)) ≡ flat_map (line_at b) (range i k)
  unfolding write_job job_at
  write_jobs_lines i zero e = refl
  write_jobs_lines i (suc k) e = ap₂ (λ (x y : List ℕ). x ++ y) (sym (write_line_line_at i (omega arith))) (write_jobs_lines (suc i) k (omega arith))

pub length_jobs_sheet_of : (b : List ℕ) → length (sheet_of b).jobs ≡ line_count b - 1
unfolding sheet_of
length_jobs_sheet_of b = length_from (job_at b) 1 (line_count b - 1)

-- A head line and m ration lines, none faulty, with m announced on the head line, are the bytes that are written for their numbers.
pub write_sheet_sheet_of : (b : List ℕ) (m : ℕ) → length b ≡ line_bytes * suc m → ((i : ℕ) → i < suc m → faulty_line (line_at b i) ≡ false)
    → value_at (line_at b 0) 3 ≡ m → write_sheet (sheet_of b) ≡ b
unfolding write_sheet sheet_of
write_sheet_sheet_of b m size good e =
    let c : line_count b - 1 ≡ m = omega (arith, line_count_lines b (suc m) size) in
    let h : length (sheet_of b).jobs ≡ value_at (line_at b 0) 3 = length_jobs_sheet_of b ∙ c ∙ sym e in
    ap₂
    (λ (x y : List ℕ). x ++ y)
    (ap (write_line (value_at (line_at b 0) 0) (value_at (line_at b 0) 1) (value_at (line_at b 0) 2)) h ∙ sym (write_line_line_at b (suc m) size good 0 (omega arith)))
    (ap (λ (k : ℕ). flat_map write_job (map (job_at b) (range 1 k))) c ∙ write_jobs_lines b (suc m) size good 1 m (omega arith))
    ∙ flat_map_line_at b (suc m) size
