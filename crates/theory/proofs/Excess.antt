-- The sets of greatest excess (lows less possible volume) have a least one among them too: by the exchange, what is
-- shown of highs. Where a low is above the width of its slot there is no exchange: the set is then found with the low
-- at that width. Assumes nothing.
use Rattle.std.specs.Prelude.{ℕ, ◌+◌, ◌-◌, ◌≤◌, ◌<◌, ◌≡◌, refl, ◌≢◌, Bool, true, false, eqb}
use Rattle.std.proofs.Common.{ap, ◌∙◌, arith, eqb-true}
use Rattle.theory.specs.Sums.{sum_change}
use Rattle.theory.specs.SumsOver.{pick, sum_on, meet, join, on_cong, on_modular, on_single}
use Rattle.theory.specs.Placing.{count, forced, possible, rest}
use Rattle.theory.proofs.Volumes.{load_by_job, possible_cong, forced_supermodular, possible_le_width}
use Rattle.theory.proofs.Complement.{forced_rest, shortfall_rest}
use Rattle.theory.proofs.LeastSet.{Greatest, LeastGreatest, least_cong, least_values}
use Rattle.theory.proofs.Critical.{Critical}

module _ (n d : ℕ) (free : ℕ → ℕ → Bool) (v : ℕ → ℕ) where
  possible_submodular : (A B : ℕ → Bool)
      → possible n d free v (join A B) + possible n d free v (meet A B) ≤ possible n d free v A + possible n d free v B
  possible_submodular A B =
      omega (
        arith,
        forced_supermodular n d free (rest d free v) A B,
        forced_rest n d free v A,
        forced_rest n d free v B,
        forced_rest n d free v (join A B),
        forced_rest n d free v (meet A B),
        load_by_job n d free A,
        load_by_job n d free B,
        load_by_job n d free (join A B),
        load_by_job n d free (meet A B),
        on_modular d A B (count n free),
      )

module _ (n d : ℕ) (free : ℕ → ℕ → Bool) (v low : ℕ → ℕ) where
  -- no set has a greater excess than R: low Q − possible Q ≤ low R − possible R
  abbrev pub GreatestExcess : (ℕ → Bool) → Type 0
  GreatestExcess = Greatest (λ Q. sum_on d Q low) (possible n d free v)

  -- of greatest excess, and in every set of as great an excess
  pub record CriticalExcess (R : ℕ → Bool) : Type 0 where
    pub least_set : LeastGreatest (λ Q. sum_on d Q low) (possible n d free v) d R

  -- what two sets of greatest excess have in common is one too
  pub excess_meet : (A B : ℕ → Bool) → GreatestExcess A → GreatestExcess B → GreatestExcess (meet A B)
  excess_meet A B a b Q = omega (arith, a (join A B), b Q, possible_submodular n d free v A B, on_modular d A B low)

module _ {n d : ℕ} {free : ℕ → ℕ → Bool} {v low : ℕ → ℕ} where
  -- the set has to do with the slots below d alone
  pub excess_cong : {A B : ℕ → Bool} → ((t : ℕ) → t < d → A t ≡ B t) → CriticalExcess n d free v low A → CriticalExcess n d free v low B
  excess_cong {A} {B} h c =
      record { least_set = least_cong (on_cong {d = d} {A = A} {B = B} {x = low} {y = low} h (λ t l. refl)) (possible_cong n d free v h) h c.least_set }

  -- and with the lows below d alone
  pub excess_lows : {low' : ℕ → ℕ} {R : ℕ → Bool} → ((t : ℕ) → t < d → low t ≡ low' t) → CriticalExcess n d free v low R → CriticalExcess n d free v low' R
  excess_lows {low'} e c =
      record { least_set = least_values (λ Q. on_cong {d = d} {A = Q} {B = Q} {x = low} {y = low'} (λ t l. refl) e) (λ Q. refl) c.least_set }

  -- the critical set of the exchange, in which each slot's high is its width less its low
  pub exchange_excess : {high : ℕ → ℕ} {R : ℕ → Bool} → ((t : ℕ) → t < d → high t + low t ≡ count n free t)
      → Critical n d free (rest d free v) high R → CriticalExcess n d free v low R
  exchange_excess {high} {R} wide c =
      record {
        least_set =
            record {
              greatest = λ Q. omega (arith, c.least_set.greatest Q, capacity Q, capacity R);
              least = λ Q e. c.least_set.least Q (omega (arith, capacity Q, capacity R));
            };
      }
    where
      capacity : (Q : ℕ → Bool) → forced n d free (rest d free v) Q + possible n d free v Q ≡ sum_on d Q high + sum_on d Q low
      capacity Q =
          omega (
            arith,
            shortfall_rest n d free v Q low (λ t l. omega (arith, wide t l)),
            on_cong {d = d} {A = Q} {B = Q} {x = high} {y = λ t. count n free t - low t} (λ t l. refl) (λ t l. omega (arith, wide t l)),
          )

-- One low set still higher ----------------------------------------------------

-- a number or nothing, the number raised
pick_raised : (q : Bool) (x y : ℕ) → x ≤ y → (pick q x ≤ pick q y) × (pick q y ≤ pick q x + (y - x))
pick_raised true x y l = (omega arith, omega arith)
pick_raised false x y l = (omega arith, omega arith)

pick_true : (q : Bool) (x y : ℕ) → pick q x < pick q y → q ≡ true
pick_true true x y l = refl
pick_true false x y l = absurd (omega arith)

pick_of : (q : Bool) (x : ℕ) → q ≡ true → pick q x ≡ x
pick_of q x e = rw e

-- the lows of a set, before and after
raised_sum : {d : ℕ} {low low' : ℕ → ℕ} (t : ℕ) → t < d → ((u : ℕ) → u < d → u ≢ t → low u ≡ low' u)
    → (Q : ℕ → Bool) → sum_on d Q low + pick (Q t) (low' t) ≡ sum_on d Q low' + pick (Q t) (low t)
unfolding sum_on
raised_sum {d} {low} {low'} t l others Q = sum_change d (λ u. pick (Q u) (low u)) (λ u. pick (Q u) (low' u)) t l (λ u k h. ap (pick (Q u)) (others u k h))

module _ {n d : ℕ} {free : ℕ → ℕ → Bool} {v low low' : ℕ → ℕ} (t : ℕ) (l : t < d) (higher : low t ≤ low' t)
    (others : (u : ℕ) → u < d → u ≢ t → low u ≡ low' u) where
  -- a critical set that has the slot stays critical
  pub excess_higher : {R : ℕ → Bool} → R t ≡ true → CriticalExcess n d free v low R → CriticalExcess n d free v low' R
  excess_higher {R} r c =
      record { least_set = record { greatest = λ Q. omega (arith, both Q); least = λ Q e. c.least_set.least Q (omega (arith, both Q)) } }
    where
      -- the value of R grows by as much as any can, the other by no more
      both : (Q : ℕ → Bool) → (sum_on d Q low + possible n d free v R ≤ sum_on d R low + possible n d free v Q)
          × (sum_on d Q low' + sum_on d R low ≤ sum_on d R low' + sum_on d Q low)
      both Q = (
        c.least_set.greatest Q,
        omega (
          arith,
          raised_sum t l others Q,
          raised_sum t l others R,
          pick_raised (Q t) (low t) (low' t) higher,
          pick_of (R t) (low t) r,
          pick_of (R t) (low' t) r,
        ),
      )

  -- where no set had any excess with the low at the slot's width, the slot alone is the critical set for a low above it
  pub excess_alone : ((Q : ℕ → Bool) → sum_on d Q low ≤ possible n d free v Q) → count n free t ≤ low t → low t < low' t
      → CriticalExcess n d free v low' (λ u. eqb u t)
  excess_alone none full above =
      record {
        least_set = record {
          greatest = λ Q. omega (arith, none Q, raised_sum t l others Q, pick_raised (Q t) (low t) (low' t) higher, alone, on_single d low' t l);
          least = λ Q e u m r.
              let q : Q t ≡ true = pick_true (Q t) (low t) (low' t) (omega (arith, none Q, raised_sum t l others Q, alone, on_single d low' t l)) in
              ap Q (eqb-true u t r) ∙ q;
        };
      }
    where
      alone : possible n d free v (λ u. eqb u t) ≤ low t
      alone = omega (arith, possible_le_width n d free v (λ u. eqb u t), on_single d (count n free) t l)
