-- Densities and their sums: rounded up they hold the volume, they are at most one feeding in each slot, and so the
-- sums are small; and how they are added up. Assumes nothing.
use Rattle.std.specs.Prelude.{◌≡◌, List, [], ◌∷◌, ℕ, zero, suc, ◌+◌, ◌-◌, ◌*◌, ◌≤◌, ◌<◌, max, get_or, replicate}
use Rattle.std.specs.List.{fold}
use Rattle.std.proofs.Common.{subst, div-lt_iff_lt-mul}
use Rattle.std.proofs.Math.Nat.{lt-div-mul-add}
use native.Mathlib.Omega.{arith}
use Rattle.std.proofs.lemmas.List.{length-replicate}
use Rattle.common.specs.FillLaws.{get_d_zeros}
use Rattle.checks.specs.Limits.{max_slots, max_rations}
use Rattle.theory.specs.Sums.{sum_none, sum_next, sum_le_mul}
use Rattle.theory.specs.SumsOver.{pick, pick_le_self}
use Rattle.placing.specs.Rations.{release_at, deadline_at, volume_at, Rations}
use Rattle.placing.specs.Words.{in_window, Added}
use Rattle.densities.specs.Densities.{scale, density, density_of, density_at, DensitySums, DensityMost, CanAdd}

-- One ration --------------------------------------------------------------------------

pub density_covers : (volume span : ℕ) → 1 ≤ span → scale * volume ≤ density volume span * span
unfolding density
density_covers volume span l = omega (arith, lt-div-mul-add {a = scale * volume + (span - 1)} {b = span} (omega arith))

density_small : (volume span : ℕ) → 1 ≤ span → volume ≤ span → density volume span ≤ scale
unfolding density
density_small volume span l m =
    omega (arith, (div-lt_iff_lt-mul {k = span} {x = scale * volume + (span - 1)} {y = scale + 1} (omega arith)).1 (omega arith))

-- The sums ----------------------------------------------------------------------------

module _ {n : ℕ} {numbers : List ℕ} (h : Rations max_slots n numbers) where
  of_small : (j : ℕ) → j < n → density_of numbers j ≤ scale
  of_small j l =
      let r = h.each j l in
      density_small (volume_at numbers j) (suc (deadline_at numbers j) - release_at numbers j) (omega (arith, r.window)) r.volume

  sums_small : (j : ℕ) → j ≤ n → (t : ℕ) → density_at j numbers t ≤ j * scale
  unfolding density_at
  sums_small j l t =
      sum_le_mul j scale (λ i. pick (in_window (release_at numbers i) (deadline_at numbers i) t) (density_of numbers i))
      (λ i k. omega (arith, pick_le_self (in_window (release_at numbers i) (deadline_at numbers i) t) (density_of numbers i), of_small i (omega arith)))

  module _ (j : ℕ) (l : j < n) {sums : List ℕ} (s : DensitySums j numbers sums) where
    pub sums_can : CanAdd sums (release_at numbers j) (deadline_at numbers j) (density_of numbers j)
    sums_can =
        let r = h.each j l in
        record {
          long = s.long;
          first = r.release;
          order = r.window;
          last = r.deadline;
          fits = λ t. omega (arith, s.each t, sums_small j (omega arith) t, of_small j l, h.few);
        }

    pub sums_next : {sums' : List ℕ} → Added (density_of numbers j) (release_at numbers j) (deadline_at numbers j) sums sums'
        → DensitySums (j + 1) numbers sums'
    unfolding density_at
    sums_next a =
        record {
          long = a.long;
          each = λ t.
              omega (
                arith,
                a.words t,
                s.each t,
                sum_next j (λ i. pick (in_window (release_at numbers i) (deadline_at numbers i) t) (density_of numbers i)),
              );
        }

pub sums_begin : (numbers : List ℕ) → DensitySums 0 numbers (replicate max_slots 0)
unfolding density_at
sums_begin numbers =
    record {
      long = length-replicate {A = ℕ} max_slots 0;
      each = λ t.
          omega (arith, get_d_zeros max_slots t, sum_none (λ i. pick (in_window (release_at numbers i) (deadline_at numbers i) t) (density_of numbers i)));
    }

pub sums_end : {j n : ℕ} {numbers sums : List ℕ} → j ≡ n → DensitySums j numbers sums → DensitySums n numbers sums
sums_end {numbers = numbers} {sums} e = subst (λ k. DensitySums k numbers sums) e

-- The greatest sum ----------------------------------------------------------------------

-- a fold from the greater of two numbers is at least the second
fold_from : (xs : List ℕ) (a b : ℕ) → b ≤ a → b ≤ fold max a xs
fold_from [] a b l = l
fold_from (x ∷ xs) a b l = fold_from xs (max a x) b (omega arith)

fold_each : (xs : List ℕ) (a u : ℕ) → get_or xs u 0 ≤ fold max a xs
fold_each [] a u = omega arith
fold_each (x ∷ xs) a zero = fold_from xs (max a x) x (omega arith)
fold_each (x ∷ xs) a (suc u) = fold_each xs (max a x) u

fold_within : (xs : List ℕ) (a b : ℕ) → a ≤ b → ((u : ℕ) → get_or xs u 0 ≤ b) → fold max a xs ≤ b
fold_within [] a b l h = l
fold_within (x ∷ xs) a b l h = fold_within xs (max a x) b (omega (arith, h 0)) (λ u. h (suc u))

pub greatest_is : {n : ℕ} {numbers sums : List ℕ} → Rations max_slots n numbers → DensitySums n numbers sums → {most : ℕ} → most ≡ fold max 0 sums
    → DensityMost n numbers most
greatest_is {n} {sums = sums} h s e =
    record {
      each = λ u l. omega (arith, s.each u, fold_each sums 0 u);
      small =
          omega (arith, fold_within sums 0 (scale * max_rations) (omega arith) (λ u. omega (arith, s.each u, sums_small h n (omega arith) u, h.few)));
    }
