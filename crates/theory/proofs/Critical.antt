-- The sets of greatest deficiency (forced volume less capacity) have a least one among them. Assumes nothing.
use Rattle.std.specs.Prelude.{ℕ, ◌≤◌, ◌<◌, ◌≡◌, refl, Bool, true}
use Rattle.std.proofs.Common.{arith}
use Rattle.theory.specs.SumsOver.{sum_on, meet, join, on_cong, on_modular}
use Rattle.theory.specs.Placing.{count, Placing, Closed, forced}
use Rattle.theory.proofs.Volumes.{forced_supermodular}
use Rattle.theory.proofs.Closed.{closed_greatest, closed_least}
use Rattle.theory.proofs.LeastSet.{Greatest, LeastGreatest, least_values}

module _ (n d : ℕ) (free : ℕ → ℕ → Bool) (v high : ℕ → ℕ) where
  -- no set has a greater deficiency than R: forced Q − capacity Q ≤ forced R − capacity R
  abbrev pub GreatestDeficiency : (ℕ → Bool) → Type 0
  GreatestDeficiency = Greatest (forced n d free v) (λ Q. sum_on d Q high)

  -- the minimal critical set: of greatest deficiency, and in every set of as great a deficiency
  pub record Critical (R : ℕ → Bool) : Type 0 where
    pub least_set : LeastGreatest (forced n d free v) (λ Q. sum_on d Q high) d R

  -- what two sets of greatest deficiency have in common is one too
  pub greatest_meet : (A B : ℕ → Bool) → GreatestDeficiency A → GreatestDeficiency B → GreatestDeficiency (meet A B)
  greatest_meet A B a b Q =
      omega (arith, a (join A B), b Q, forced_supermodular n d free v A B, on_modular d A B high)

module _ {n d : ℕ} {free : ℕ → ℕ → Bool} {v high : ℕ → ℕ} where
  -- the least closed set of full slots around a placing's overfull slots: what a failed search leaves
  pub closed_critical : {S : ℕ → ℕ → Bool} {R : ℕ → Bool} → Placing n d free v S → Closed n d free S R
      → ((t : ℕ) → t < d → R t ≡ true → high t ≤ count n S t)
      → ((t : ℕ) → t < d → high t < count n S t → R t ≡ true)
      → ((Q : ℕ → Bool) → Closed n d free S Q → ((t : ℕ) → t < d → high t < count n S t → Q t ≡ true) → (t : ℕ) → t < d → R t ≡ true → Q t ≡ true)
      → Critical n d free v high R
  closed_critical s c loaded over small =
      record { least_set = record { greatest = closed_greatest s c loaded over; least = closed_least s c loaded over small } }

  -- it has to do with the highs below d alone
  pub critical_highs : {high' : ℕ → ℕ} {R : ℕ → Bool} → ((t : ℕ) → t < d → high t ≡ high' t) → Critical n d free v high R → Critical n d free v high' R
  critical_highs {high'} e c =
      record { least_set = least_values (λ Q. refl) (λ Q. on_cong {d = d} {A = Q} {B = Q} {x = high} {y = high'} (λ t l. refl) e) c.least_set }
