-- Rations as flat numbers, four for each, and back; and how these are put one ration after another into a list of fixed
-- length. Assumes nothing.
use Rattle.std.specs.Prelude.{◌≡◌, List, [], ◌∷◌, ◌++◌, map, ℕ, zero, suc, ◌+◌, ◌*◌, ◌<◌, length, get_or, set, replicate}
use Rattle.std.proofs.Math.Path.{refl, ap}
use Rattle.std.proofs.Common.{sym, ◌∙◌, add-one}
use Rattle.std.proofs.lemmas.List.{map-append}
use native.Mathlib.Omega.{arith}
use Rattle.std.proofs.Math.ListN.{get_or-append}
use Rattle.common.specs.Lists.{range}
use Rattle.common.specs.ListLaws.{range_snoc, length_from, flat_map_append}
use Rattle.common.specs.Buffers.{padded, put_at}
use Rattle.common.specs.BufferLaws.{put_at_padded}
use Rattle.line.specs.Layout.{fields}
use Rattle.checks.specs.Limits.{max_rations}
use Rattle.checks.specs.Sheet.{Job, job_numbers, numbers_of, numbers_to, jobs_of}

pub length_numbers_of : (js : List Job) → length (numbers_of js) ≡ fields * length js
unfolding numbers_of
length_numbers_of [] = refl
length_numbers_of (j ∷ js) = omega (arith, length_numbers_of js)

pub jobs_of_numbers_of : (js : List Job) → jobs_of (numbers_of js) ≡ js
unfolding numbers_of jobs_of
jobs_of_numbers_of [] = refl
jobs_of_numbers_of (j ∷ js) = ap (λ (l : List Job). j ∷ l) (jobs_of_numbers_of js)

-- numbers of n rations, four for each
pub numbers_of_jobs_of : (n : ℕ) (xs : List ℕ) → length xs ≡ fields * n → numbers_of (jobs_of xs) ≡ xs
unfolding numbers_of jobs_of
numbers_of_jobs_of n [] e = refl
numbers_of_jobs_of n (a ∷ []) e = absurd (omega arith)
numbers_of_jobs_of n (a ∷ b ∷ []) e = absurd (omega arith)
numbers_of_jobs_of n (a ∷ b ∷ c ∷ []) e = absurd (omega arith)
numbers_of_jobs_of zero (a ∷ b ∷ c ∷ d ∷ xs) e = absurd (omega arith)
numbers_of_jobs_of (suc n) (a ∷ b ∷ c ∷ d ∷ xs) e = ap (λ (l : List ℕ). a ∷ b ∷ c ∷ d ∷ l) (numbers_of_jobs_of n xs (omega arith))

pub length_jobs_of : (n : ℕ) (xs : List ℕ) → length xs ≡ fields * n → length (jobs_of xs) ≡ n
length_jobs_of n xs e = omega (arith, length_numbers_of (jobs_of xs), ap length (numbers_of_jobs_of n xs e))

-- One number of a ration -------------------------------------------------------------

-- that of the next ration is a line further on
next_ration : (j k : ℕ) → fields * suc j + k ≡ suc (suc (suc (suc (fields * j + k))))
next_ration j k = omega arith

-- number k of ration j among the flat numbers, whatever follows them
pub numbers_of_at : (none : Job) (js : List Job) (zs : List ℕ) (j k : ℕ) → j < length js → k < fields
    → get_or (numbers_of js ++ zs) (fields * j + k) 0 ≡ get_or (job_numbers (get_or js j none)) k 0
unfolding numbers_of
numbers_of_at none [] zs j k l m = absurd (omega arith)
numbers_of_at none (x ∷ js) zs zero k l m =
    ap (λ i. get_or (job_numbers x ++ (numbers_of js ++ zs)) i 0) (first k) ∙ get_or-append (job_numbers x) (numbers_of js ++ zs) 0 k m
  where
    first : (k : ℕ) → fields * zero + k ≡ k
    first k = omega arith
numbers_of_at none (x ∷ js) zs (suc j) k l m =
    ap (λ i. get_or (job_numbers x ++ (numbers_of js ++ zs)) i 0) (next_ration j k) ∙ numbers_of_at none js zs j k (omega arith) m

-- its volume set to another number
abbrev with_volume : ℕ → Job → Job
with_volume v x = record { tank = x.tank; release = x.release; deadline = x.deadline; volume = v }

pub numbers_of_set : (none : Job) (js : List Job) (zs : List ℕ) (j v : ℕ) → j < length js
    → set (numbers_of js ++ zs) (fields * j + 3) v ≡ numbers_of (set js j (with_volume v (get_or js j none))) ++ zs
unfolding numbers_of
numbers_of_set none [] zs j v l = absurd (omega arith)
numbers_of_set none (x ∷ js) zs zero v l = refl
numbers_of_set none (x ∷ js) zs (suc j) v l =
    ap (λ i. set (job_numbers x ++ (numbers_of js ++ zs)) i v) (next_ration j 3)
    ∙ ap (λ ys. job_numbers x ++ ys) (numbers_of_set none js zs j v (omega arith))

-- Ration after ration ----------------------------------------------------------------

-- a ration for each line or tank
module _ (job : ℕ → Job) where
  pub length_numbers_to : (n : ℕ) → length (numbers_to job n) ≡ fields * n
  length_numbers_to n = length_numbers_of (map job (range 1 n)) ∙ ap (λ k. fields * k) (length_from job 1 n)

  pub numbers_to_none : replicate (fields * max_rations) 0 ≡ padded (fields * max_rations) (numbers_to job 0)
  unfolding padded numbers_of
  numbers_to_none = refl

  one_more : (i : ℕ) → numbers_to job (i + 1) ≡ numbers_to job i ++ job_numbers (job (i + 1))
  unfolding numbers_of
  one_more i =
      ap (numbers_to job) (add-one i)
      ∙ ap (λ r. numbers_of (map job r)) (range_snoc 1 i)
      ∙ ap numbers_of (map-append job (range 1 i) ((1 + i) ∷ []))
      ∙ flat_map_append job_numbers (map job (range 1 i)) (job (1 + i) ∷ [])
      ∙ ap (λ k. numbers_to job i ++ job_numbers (job k)) (swap i)
    where
      swap : (i : ℕ) → 1 + i ≡ i + 1
      swap i = omega arith

  pub numbers_to_next : (i : ℕ)
      → put_at (fields * i) (job_numbers (job (i + 1))) (padded (fields * max_rations) (numbers_to job i))
      ≡ padded (fields * max_rations) (numbers_to job (i + 1))
  numbers_to_next i =
      ap (λ at. put_at at (job_numbers (job (i + 1))) (padded (fields * max_rations) (numbers_to job i))) (sym (length_numbers_to i))
      ∙ put_at_padded (fields * max_rations) (numbers_to job i) (job_numbers (job (i + 1)))
      ∙ ap (padded (fields * max_rations)) (sym (one_more i))
