-- Finite sums of natural numbers: congruence, order, exchange, and what one term says of the whole. Assumes nothing.
use Rattle.std.specs.Prelude.{ℕ, zero, suc, ◌+◌, ◌-◌, ◌*◌, ◌≤◌, ◌<◌, ◌≡◌, refl, ◌⊎◌, ◌≢◌}
use Rattle.std.proofs.Common.{◌∙◌, inl, inr, eq-or-lt_of_le, suc-mul, mul-add, add-one, arith}

-- `sum n f` is f 0 + .. + f (n - 1)
unfoldable pub sum : ℕ → (ℕ → ℕ) → ℕ
sum zero f = 0
sum (suc n) f = sum n f + f n

-- Congruence, order, exchange -------------------------------------------------

pub sum_cong : {n : ℕ} {f g : ℕ → ℕ} → ((i : ℕ) → i < n → f i ≡ g i) → sum n f ≡ sum n g
unfolding sum
sum_cong {n = zero} h = refl
sum_cong {n = suc n} {f} {g} h = omega (arith, sum_cong {n = n} {f = f} {g = g} (λ i l. h i (omega arith)), h n (omega arith))

pub sum_le : {n : ℕ} {f g : ℕ → ℕ} → ((i : ℕ) → i < n → f i ≤ g i) → sum n f ≤ sum n g
unfolding sum
sum_le {n = zero} h = omega arith
sum_le {n = suc n} {f} {g} h = omega (arith, sum_le {n = n} {f = f} {g = g} (λ i l. h i (omega arith)), h n (omega arith))

pub sum_add : (n : ℕ) (f g : ℕ → ℕ) → sum n (λ i. f i + g i) ≡ sum n f + sum n g
unfolding sum
sum_add zero f g = refl
sum_add (suc n) f g = omega (arith, sum_add n f g)

pub sum_zero : (n : ℕ) → sum n (λ i. 0) ≡ 0
unfolding sum
sum_zero zero = refl
sum_zero (suc n) = omega (arith, sum_zero n)

pub sum_swap : (n m : ℕ) (f : ℕ → ℕ → ℕ) → sum n (λ i. sum m (λ j. f i j)) ≡ sum m (λ j. sum n (λ i. f i j))
unfolding sum
sum_swap zero m f = omega (arith, sum_zero m)
sum_swap (suc n) m f = omega (arith, sum_swap n m f, sum_add m (λ j. sum n (λ i. f i j)) (λ j. f n j))

pub mul_sum : (k n : ℕ) (f : ℕ → ℕ) → k * sum n f ≡ sum n (λ i. k * f i)
unfolding sum
mul_sum k zero f = omega arith
mul_sum k (suc n) f = omega (arith, mul_sum k n f, mul-add k (sum n f) (f n))

-- f = g + h termwise
pub sum_split : (n : ℕ) (f g h : ℕ → ℕ) → ((i : ℕ) → i < n → f i ≡ g i + h i) → sum n f ≡ sum n g + sum n h
sum_split n f g h e = sum_cong e ∙ sum_add n g h

-- Steps -----------------------------------------------------------------------

-- the steps of a loop, as code writes them
pub sum_none : (f : ℕ → ℕ) → sum 0 f ≡ 0
unfolding sum
sum_none f = refl

pub sum_next : (n : ℕ) (f : ℕ → ℕ) → sum (n + 1) f ≡ sum n f + f n
unfolding sum
sum_next n f = rw add-one

-- the first term apart, as a list has it
pub sum_head : (n : ℕ) (f : ℕ → ℕ) → sum (suc n) f ≡ f 0 + sum n (λ i. f (suc i))
unfolding sum
sum_head zero f = omega arith
sum_head (suc n) f = omega (arith, sum_head n f)

-- One term, and the whole -----------------------------------------------------

pub sum_term : (n : ℕ) (f : ℕ → ℕ) (i : ℕ) → i < n → f i ≤ sum n f
unfolding sum
sum_term zero f i l = omega arith
sum_term (suc n) f i l = go (eq-or-lt_of_le (omega arith)) (sum_term n f i)
  where
    go : (i ≡ n) ⊎ (i < n) → (i < n → f i ≤ sum n f) → f i ≤ sum n f + f n
    go (inl e) ih = rw e (omega arith)
    go (inr k) ih = omega (arith, ih k)

-- terms of at most c add up to at most n * c
pub sum_le_mul : (n c : ℕ) (f : ℕ → ℕ) → ((i : ℕ) → i < n → f i ≤ c) → sum n f ≤ n * c
unfolding sum
sum_le_mul zero c f h = omega arith
sum_le_mul (suc n) c f h = omega (arith, sum_le_mul n c f (λ i l. h i (omega arith)), h n (omega arith), suc-mul n c)

-- some term of a positive sum is positive
pub sum_pos : (n : ℕ) (f : ℕ → ℕ) → 0 < sum n f → (i : ℕ) × (i < n) × (0 < f i)
unfolding sum
sum_pos zero f p = absurd (omega arith)
sum_pos (suc n) f p = go (f n) refl (sum_pos n f)
  where
    go : (k : ℕ) → f n ≡ k → (0 < sum n f → (i : ℕ) × (i < n) × (0 < f i)) → (i : ℕ) × (i < suc n) × (0 < f i)
    go zero e ih = let r = ih (omega arith) in (r.0, omega arith, r.2)
    go (suc k) e ih = (n, omega arith, omega arith)

-- termwise below, with no less in all: termwise equal
pub sum_tight : (n : ℕ) (f g : ℕ → ℕ) → ((i : ℕ) → i < n → f i ≤ g i) → sum n g ≤ sum n f → (i : ℕ) → i < n → f i ≡ g i
sum_tight n f g h e i l =
    omega (arith, h i l, sum_term n (λ k. g k - f k) i l, sum_split n g f (λ k. g k - f k) (λ k b. omega (arith, h k b)))

-- termwise below, and somewhere less: less in all
pub sum_lt : (n : ℕ) (f g : ℕ → ℕ) → ((i : ℕ) → i < n → f i ≤ g i) → (i : ℕ) → i < n → f i < g i → sum n f < sum n g
sum_lt n f g h i l k =
    omega (arith, sum_term n (λ k. g k - f k) i l, sum_split n g f (λ k. g k - f k) (λ k b. omega (arith, h k b)))

-- two functions that differ at one place only
pub sum_change : (n : ℕ) (f g : ℕ → ℕ) (i : ℕ) → i < n → ((k : ℕ) → k < n → k ≢ i → f k ≡ g k) → sum n f + g i ≡ sum n g + f i
unfolding sum
sum_change zero f g i l h = absurd (omega arith)
sum_change (suc n) f g i l h = go (eq-or-lt_of_le (omega arith)) (λ q. sum_change n f g i q (λ k b. h k (omega arith)))
  where
    go : (i ≡ n) ⊎ (i < n) → (i < n → sum n f + g i ≡ sum n g + f i) → sum n f + f n + g i ≡ sum n g + g n + f i
    go (inl e) ih = rw e (omega (arith, sum_cong {n = n} {f = f} {g = g} (λ k b. h k (omega arith) (omega arith))))
    go (inr q) ih = omega (arith, ih q, h n (omega arith) (omega arith))
