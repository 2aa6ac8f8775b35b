-- Of the sets of greatest value, the one that every other contains: there is one such set only. A value is the
-- difference F Q − G Q of two numbers of a set of slots. Assumes nothing.
use Rattle.std.specs.Prelude.{ℕ, ◌+◌, ◌≤◌, ◌<◌, ◌≡◌, Bool, true}
use Rattle.std.proofs.Common.{◌∙◌, arith}
use Rattle.common.specs.Tests.{bool_ext}

module _ (F G : (ℕ → Bool) → ℕ) where
  -- no set has a greater value than R: F Q − G Q ≤ F R − G R
  abbrev pub Greatest : (ℕ → Bool) → Type 0
  Greatest R = (Q : ℕ → Bool) → F Q + G R ≤ F R + G Q

  -- of greatest value, and, below d, contained in every set of as great a value
  pub record LeastGreatest (d : ℕ) (R : ℕ → Bool) : Type 0 where
    pub greatest : Greatest R
    pub least : (Q : ℕ → Bool) → F Q + G R ≡ F R + G Q → (t : ℕ) → t < d → R t ≡ true → Q t ≡ true

module _ {F G : (ℕ → Bool) → ℕ} {d : ℕ} where
  -- two such sets have the same slots below d
  pub least_unique : {R Q : ℕ → Bool} → LeastGreatest F G d R → LeastGreatest F G d Q → (t : ℕ) → t < d → R t ≡ Q t
  least_unique {R} {Q} r q t l =
      bool_ext (R t) (Q t) (r.least Q (omega (arith, r.greatest Q, q.greatest R)) t l) (q.least R (omega (arith, r.greatest Q, q.greatest R)) t l)

  -- a set of the same slots below d and the same two numbers is such a set as well
  pub least_cong : {A B : ℕ → Bool} → F A ≡ F B → G A ≡ G B → ((t : ℕ) → t < d → A t ≡ B t) → LeastGreatest F G d A → LeastGreatest F G d B
  least_cong e f h c =
      record {
        greatest = λ Q. omega (arith, c.greatest Q);
        least = λ Q g t l b. c.least Q (omega arith) t l (h t l ∙ b);
      }

  -- the same set serves for other numbers that are equal on every set
  pub least_values : {F' G' : (ℕ → Bool) → ℕ} {R : ℕ → Bool} → ((Q : ℕ → Bool) → F Q ≡ F' Q) → ((Q : ℕ → Bool) → G Q ≡ G' Q)
      → LeastGreatest F G d R → LeastGreatest F' G' d R
  least_values {R = R} e f c =
      record {
        greatest = λ Q. omega (arith, c.greatest Q, e Q, e R, f Q, f R);
        least = λ Q g. c.least Q (omega (arith, e Q, e R, f Q, f R));
      }
