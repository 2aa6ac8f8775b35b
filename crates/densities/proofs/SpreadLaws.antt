-- Volumes spread evenly over their windows: what is forced into a set of slots is at most what is spread over it.
-- Assumes nothing.
use Rattle.std.specs.Prelude.{◌≡◌, refl, Bool, true, false, ℕ, ◌+◌, ◌-◌, ◌*◌, ◌≤◌, ◌<◌}
use Rattle.std.proofs.Math.Path.{sym}
use Rattle.std.proofs.Common.{ap, ◌∙◌, mul-add, mul-le-mul_left, mul-le-mul_right}
use Rattle.std.proofs.Math.Decide.{dec_le}
use Rattle.std.proofs.Math.Nat.{le_of_mul-le-mul_left}
use native.Mathlib.Omega.{arith}
use Rattle.theory.specs.Sums.{sum, sum_le, mul_sum}
use Rattle.theory.specs.SumsOver.{one, pick, sum_on, on_cong, on_le, on_swap, mul_on}
use Rattle.theory.specs.Placing.{size, inside, outside, forced}
use Rattle.theory.proofs.Row.{size_split}

-- One ration ------------------------------------------------------------------------

-- Of c feedings in a window of k + o slots, o of them outside of a set, c − o are forced into it. In so many parts
-- each, spread with x parts to a slot, all of them have room in the window, and k × x parts of them are in the set.
one_ration_lem : (parts c k o x : ℕ) → c ≤ k + o → parts * c ≤ x * (k + o) → parts * (c - o) ≤ x * k
one_ration_lem parts c k o x fits spread = go (dec_le parts x) (dec_le o c)
  where
    go : Dec (parts ≤ x) → Dec (o ≤ c) → parts * (c - o) ≤ x * k
    go (yes l) m =
        let within : c - o ≤ k = omega arith in
        omega (arith, mul-le-mul_left parts within, mul-le-mul_right k l)
    go (no l) (yes m) =
        let e : (c - o) + o ≡ c = omega arith in
        omega (arith, ap (λ z. parts * z) e, mul-add parts (c - o) o, mul-add x k o, mul-le-mul_right {m = x} {n = parts} o (omega arith))
    go (no l) (no m) = let e : c - o ≡ 0 = omega arith in omega (arith, ap (λ z. parts * z) e)

-- All rations -----------------------------------------------------------------------

pick_one : (b : Bool) (x : ℕ) → pick b x ≡ x * one b
pick_one true x = omega arith
pick_one false x = omega arith

-- x j parts for each slot of the window of ration j hold its volume, which is at most its window
module _ (n d : ℕ) (free : ℕ → ℕ → Bool) (c x : ℕ → ℕ) (parts : ℕ) (fits : (j : ℕ) → j < n → c j ≤ size d (free j))
    (spread : (j : ℕ) → j < n → parts * c j ≤ x j * size d (free j)) (Q : ℕ → Bool) where
  -- the parts of ration j that are in the set
  in_set : (j : ℕ) → sum_on d Q (λ t. pick (free j t) (x j)) ≡ x j * inside d (free j) Q
  unfolding inside
  in_set j = on_cong {A = Q} {B = Q} (λ t l. refl) (λ t l. pick_one (free j t) (x j)) ∙ sym (mul_on (x j) d Q (λ t. one (free j t)))

  forced_spread : parts * forced n d free c Q ≤ sum_on d Q (λ t. sum n (λ j. pick (free j t) (x j)))
  unfolding forced
  forced_spread =
      omega (
        arith,
        mul_sum parts n (λ j. c j - outside d (free j) Q),
        sum_le {n = n} {f = λ j. parts * (c j - outside d (free j) Q)} {g = λ j. sum_on d Q (λ t. pick (free j t) (x j))} each,
        on_swap d n Q (λ j t. pick (free j t) (x j)),
      )
    where
      each : (j : ℕ) → j < n → parts * (c j - outside d (free j) Q) ≤ sum_on d Q (λ t. pick (free j t) (x j))
      each j l =
          let e = size_split d (free j) Q in
          rw (in_set j) (one_ration_lem parts (c j) (inside d (free j) Q) (outside d (free j) Q) (x j) (rw e at (fits j l)) (rw e at (spread j l)))

  -- where no slot has more than its high, no more is forced into the set than its highs hold
  pub forced_within : 0 < parts → (high : ℕ → ℕ) → ((t : ℕ) → t < d → sum n (λ j. pick (free j t) (x j)) ≤ parts * high t)
      → forced n d free c Q ≤ sum_on d Q high
  forced_within some high room =
      le_of_mul-le-mul_left
      (omega (arith, forced_spread, on_le {Q = Q} {y = λ t. parts * high t} (λ t l q. room t l), mul_on parts d Q high))
      some
