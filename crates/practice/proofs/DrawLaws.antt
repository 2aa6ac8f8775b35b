-- The next seed by its product and sum, draws that follow others, and what three draws make. Assumes nothing.
use Rattle.std.specs.Prelude.{◌≡◌, ℕ, zero, suc, ◌+◌, ◌-◌, ◌*◌, ◌/◌, ◌%◌, ◌^◌, ◌<◌, ◌≤◌, [], ◌∷◌}
use Rattle.std.proofs.Math.Path.{ap}
use Rattle.std.proofs.Common.{◌∙◌, mod-lt, arith}
use Rattle.std.proofs.Math.Nat.{mod-add-mod}
use Rattle.checks.specs.Sheet.{job_numbers}
use Rattle.practice.specs.Practice.{next_seed, seed_after, draw, drawn_job}

-- a product that is cut to 32 bits, and a sum that is cut
pub next_from : (s p n : ℕ) → p ≡ (1664525 * s) % 2 ^ 32 → n ≡ (p + 1013904223) % 2 ^ 32 → n ≡ next_seed s
unfolding next_seed
next_from s p n e f = f ∙ ap (λ z. (z + 1013904223) % 2 ^ 32) e ∙ mod-add-mod (1664525 * s) (2 ^ 32) 1013904223

-- i draws, and k more
pub seed_after_add : (s k i : ℕ) → seed_after (seed_after s i) k ≡ seed_after s (i + k)
unfolding seed_after
seed_after_add s zero i = ap (seed_after s) (none i)
  where
    none : (i : ℕ) → i ≡ i + zero
    none i = omega arith
seed_after_add s (suc k) i = ap next_seed (seed_after_add s k i) ∙ ap (seed_after s) (next i k)
  where
    next : (i k : ℕ) → suc (i + k) ≡ i + suc k
    next i k = omega arith

-- A ration -----------------------------------------------------------------------------

-- three draws: the seeds after them, and what they yield
module _ (s s₁ s₂ s₃ r₁ r₂ r₃ : ℕ) (f₁ : r₁ ≡ next_seed s / 65536) (e₁ : s₁ ≡ next_seed s) (f₂ : r₂ ≡ next_seed s₁ / 65536)
    (e₂ : s₂ ≡ next_seed s₁) (f₃ : r₃ ≡ next_seed s₂ / 65536) (e₃ : s₃ ≡ next_seed s₂) where
  second : s₂ ≡ seed_after s 2
  unfolding seed_after
  second = e₂ ∙ ap next_seed e₁

  pub three_seeds : s₃ ≡ seed_after s 3
  unfolding seed_after
  three_seeds = e₃ ∙ ap next_seed second

  first_draw : r₁ ≡ draw s 1
  unfolding draw seed_after
  first_draw = f₁

  second_draw : r₂ ≡ draw s 2
  unfolding draw seed_after
  second_draw = f₂ ∙ ap (λ z. next_seed z / 65536) e₁

  third_draw : r₃ ≡ draw s 3
  unfolding draw seed_after
  third_draw = f₃ ∙ ap (λ z. next_seed z / 65536) second

  pub three_drawn : {b w n : ℕ} → b ≡ 1 + r₁ % 8 → w ≡ r₂ % 201 → n ≡ r₃ % 65
      → (b ≡ 1 + draw s 1 % 8) × (w ≡ draw s 2 % 201) × (n ≡ draw s 3 % 65)
  three_drawn h i j =
      (h ∙ ap (λ z. 1 + z % 8) first_draw, i ∙ ap (λ z. z % 201) second_draw, j ∙ ap (λ z. z % 65) third_draw)

  -- the four numbers of a ration
  pub ration_drawn : (tank : ℕ) → let first = 1 + r₁ % 96 in
      let last = first + r₂ % (97 - first) in let volume = 1 + r₃ % (last + 1 - first) in
      tank ∷ first ∷ last ∷ volume ∷ [] ≡ job_numbers (drawn_job s tank)
  unfolding drawn_job
  ration_drawn tank = rw (first_draw, second_draw, third_draw)

-- the window's last slot, and the volume
module _ (r₁ r₂ : ℕ) where
  pub last_within : let first = 1 + r₁ % 96 in first + r₂ % (97 - first) ≤ 96
  last_within =
      let f : r₁ % 96 < 96 = mod-lt r₁ (omega arith) in
      let first : ℕ = 1 + r₁ % 96 in
      let l : r₂ % (97 - first) < 97 - first = mod-lt r₂ (omega arith) in
      omega arith

  pub volume_within : (r₃ : ℕ) → let first = 1 + r₁ % 96 in let last = first + r₂ % (97 - first) in
      1 + r₃ % (last + 1 - first) ≤ 96
  volume_within r₃ =
      let first : ℕ = 1 + r₁ % 96 in
      let last : ℕ = first + r₂ % (97 - first) in
      let v : r₃ % (last + 1 - first) < last + 1 - first = mod-lt r₃ (omega arith) in
      omega (arith, last_within)
