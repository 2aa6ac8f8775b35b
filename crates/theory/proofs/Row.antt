-- One job: of its volume at least what does not fit outside of Q lies in Q, and exactly that where its row is full. Assumes nothing.
use Rattle.std.specs.Prelude.{ℕ, zero, suc, ◌+◌, ◌-◌, ◌≤◌, ◌<◌, min, ◌≡◌, Bool, true, false, ◌&&◌, ◌||◌}
use Rattle.std.proofs.Math.Path.{refl, ap}
use Rattle.std.proofs.Common.{◌∙◌, arith}
use Rattle.std.proofs.Math.Bool.{not}
use Rattle.std.proofs.lemmas.Bool.{false≢true, not-true}
use Rattle.theory.specs.Sums.{sum, sum_cong, sum_le, sum_le_mul}
use Rattle.theory.specs.SumsOver.{one, pick, sum_on, compl, meet, join, one_inj, one_le, one_le_one, on_split, on_le, on_tight, on_pos, on_term, on_mono, on_modular_compl}
use Rattle.theory.specs.Placing.{size, inside, outside, Within, Full}

pub size_split : (d : ℕ) (s Q : ℕ → Bool) → size d s ≡ inside d s Q + outside d s Q
unfolding size inside outside
size_split d s Q = on_split d Q _

pub size_le : (d : ℕ) (s : ℕ → Bool) → size d s ≤ d
unfolding size
size_le d s = omega (arith, sum_le_mul d 1 (λ t. one (s t)) (λ t l. one_le_one (s t)))

pub size_within : {d : ℕ} {s f : ℕ → Bool} → Within d s f → size d s ≤ size d f
unfolding size
size_within w = sum_le (λ t l. one_le (w t l))

-- The two counts by one test --------------------------------------------------

pick_and : (q b : Bool) → pick q (one b) ≡ one (b && q)
pick_and true true = refl
pick_and true false = refl
pick_and false true = refl
pick_and false false = refl

pub inside_is : (d : ℕ) (s Q : ℕ → Bool) → inside d s Q ≡ sum d (λ t. one (s t && Q t))
unfolding inside sum_on
inside_is d s Q = sum_cong (λ t l. pick_and (Q t) (s t))

pub outside_is : (d : ℕ) (s Q : ℕ → Bool) → outside d s Q ≡ sum d (λ t. one (s t && not (Q t)))
unfolding outside sum_on
outside_is d s Q = sum_cong (λ t l. pick_and (not (Q t)) (s t))

-- A row in its window ---------------------------------------------------------

module _ {d : ℕ} {s f : ℕ → Bool} (w : Within d s f) (Q : ℕ → Bool) where
  outside_le : outside d s Q ≤ outside d f Q
  unfolding outside
  outside_le = on_le (λ t l q. one_le (w t l))

  inside_le : inside d s Q ≤ inside d f Q
  unfolding inside
  inside_le = on_le (λ t l q. one_le (w t l))

  -- of a volume v at least v - outside lies in Q, and at most what the window has there
  pub row_lower : {v : ℕ} → size d s ≡ v → v - outside d f Q ≤ inside d s Q
  row_lower e = omega (arith, size_split d s Q, outside_le)

  pub row_upper : {v : ℕ} → size d s ≡ v → inside d s Q ≤ min v (inside d f Q)
  row_upper e = omega (arith, size_split d s Q, inside_le)

  pub row_tight : {v : ℕ} → size d s ≡ v → Full d s f Q → inside d s Q ≡ v - outside d f Q
  unfolding inside outside
  row_tight {v} e c = go (inside d s Q) refl
    where
      full : 0 < inside d s Q → outside d f Q ≤ outside d s Q
      full p = let r = on_pos d Q s p in on_le (λ u l q. one_le (λ a. c r.0 u r.1 l r.2 r.3 a (not-true (Q u) q)))

      go : (k : ℕ) → inside d s Q ≡ k → inside d s Q ≡ v - outside d f Q
      go zero z = omega (arith, size_split d s Q, outside_le)
      go (suc k) z = omega (arith, size_split d s Q, outside_le, full (omega arith))

  -- and the other way round: where no more than v - outside lies in Q, the row is full
  pub row_full : {v : ℕ} → size d s ≡ v → inside d s Q ≤ v - outside d f Q → Full d s f Q
  unfolding inside outside
  row_full e k t u lt lu qt st fu qu =
      let p : 0 < inside d s Q = omega (arith, on_term d Q (λ t. one (s t)) t lt qt, ap one st) in
      one_inj (on_tight {Q = compl Q} (λ t l q. one_le (w t l)) (omega (arith, size_split d s Q, outside_le)) u lu (ap not qu)) ∙ fu

-- Two sets --------------------------------------------------------------------

not_or_left : (a b : Bool) → not (a || b) ≡ true → not a ≡ true
not_or_left true b e = e
not_or_left false b e = refl

not_left_and : (a b : Bool) → not a ≡ true → not (a && b) ≡ true
not_left_and true b e = absurd (false≢true e)
not_left_and false b e = refl

-- what is forced into two sets is forced into both together and what they have in common
pub row_supermodular : (d v : ℕ) (f A B : ℕ → Bool)
    → v - outside d f A + (v - outside d f B) ≤ v - outside d f (join A B) + (v - outside d f (meet A B))
unfolding outside
row_supermodular d v f A B =
    omega (
      arith,
      on_modular_compl d A B (λ t. one (f t)),
      on_mono {d = d} {A = compl (join A B)} {B = compl A} (λ t l. not_or_left (A t) (B t)) (λ t. one (f t)),
      on_mono {d = d} {A = compl A} {B = compl (meet A B)} (λ t l. not_left_and (A t) (B t)) (λ t. one (f t)),
    )
