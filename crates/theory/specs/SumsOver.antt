-- Sums over a set of places: a set is a function to Bool, and what lies outside of it counts 0. Assumes nothing.
use Rattle.std.specs.Prelude.{ℕ, ◌+◌, ◌*◌, ◌≤◌, ◌<◌, ◌≡◌, refl, Bool, true, false, not, ◌&&◌, ◌||◌, eqb}
use Rattle.std.proofs.Common.{sym, ◌∙◌, arith, eq-eqb, ne_eqb}
use Rattle.theory.specs.Sums.{sum, sum_cong, sum_le, sum_add, sum_zero, sum_swap, mul_sum, sum_split, sum_term, sum_pos, sum_tight, sum_lt, sum_change, sum_le_mul}

-- Definitions -----------------------------------------------------------------

-- a Bool as a number
abbrev pub one : Bool → ℕ
one true = 1
one false = 0

-- x where the Bool is true, else 0
abbrev pub pick : Bool → ℕ → ℕ
pick true x = x
pick false x = 0

-- the sum of x over the places below d that are in Q
unfoldable pub sum_on : ℕ → (ℕ → Bool) → (ℕ → ℕ) → ℕ
sum_on d Q x = sum d (λ t. pick (Q t) (x t))

-- the places outside of Q; in both sets; in either
abbrev pub compl : (ℕ → Bool) → ℕ → Bool
compl Q t = not (Q t)

abbrev pub meet : (ℕ → Bool) → (ℕ → Bool) → ℕ → Bool
meet A B t = A t && B t

abbrev pub join : (ℕ → Bool) → (ℕ → Bool) → ℕ → Bool
join A B t = A t || B t

-- One place -------------------------------------------------------------------

pub one_inj : {a b : Bool} → one a ≡ one b → a ≡ b
one_inj {a = true} {b = true} e = refl
one_inj {a = true} {b = false} e = absurd (omega arith)
one_inj {a = false} {b = true} e = absurd (omega arith)
one_inj {a = false} {b = false} e = refl

pub one_le : {a b : Bool} → (a ≡ true → b ≡ true) → one a ≤ one b
one_le {a = true} h = rw (h refl) (omega arith)
one_le {a = false} h = omega arith

pub one_le_one : (b : Bool) → one b ≤ 1
one_le_one true = omega arith
one_le_one false = omega arith

pick_split : (q : Bool) (x : ℕ) → x ≡ pick q x + pick (not q) x
pick_split true x = omega arith
pick_split false x = omega arith

pick_le : {q : Bool} {x y : ℕ} → (q ≡ true → x ≤ y) → pick q x ≤ pick q y
pick_le {q = true} h = h refl
pick_le {q = false} h = omega arith

pub pick_le_self : (q : Bool) (x : ℕ) → pick q x ≤ x
pick_le_self true x = omega arith
pick_le_self false x = omega arith

pick_sum : (q : Bool) (n : ℕ) (f : ℕ → ℕ) → pick q (sum n f) ≡ sum n (λ j. pick q (f j))
pick_sum true n f = refl
pick_sum false n f = sym (sum_zero n)

pick_pos : (q b : Bool) → 0 < pick q (one b) → (q ≡ true) × (b ≡ true)
pick_pos true true h = (refl, refl)
pick_pos true false h = absurd (omega arith)
pick_pos false b h = absurd (omega arith)

pick_modular : (a b : Bool) (x : ℕ) → pick (a || b) x + pick (a && b) x ≡ pick a x + pick b x
pick_modular true true x = refl
pick_modular true false x = refl
pick_modular false true x = omega arith
pick_modular false false x = refl

-- Sums over a set -------------------------------------------------------------

pub on_cong : {d : ℕ} {A B : ℕ → Bool} {x y : ℕ → ℕ} → ((t : ℕ) → t < d → A t ≡ B t) → ((t : ℕ) → t < d → x t ≡ y t) → sum_on d A x ≡ sum_on d B y
unfolding sum_on
on_cong h k = sum_cong (λ t l. rw (h t l, k t l))

pub on_split : (d : ℕ) (Q : ℕ → Bool) (x : ℕ → ℕ) → sum d x ≡ sum_on d Q x + sum_on d (compl Q) x
unfolding sum_on
on_split d Q x = sum_split d _ _ _ (λ t l. pick_split (Q t) (x t))

module _ {d : ℕ} {Q : ℕ → Bool} {x y : ℕ → ℕ} (h : (t : ℕ) → t < d → Q t ≡ true → x t ≤ y t) where
  pub on_le : sum_on d Q x ≤ sum_on d Q y
  unfolding sum_on
  on_le = sum_le (λ t l. pick_le (h t l))

  -- no more over the set on the right, and termwise no less: equal at each place of the set
  pub on_tight : sum_on d Q y ≤ sum_on d Q x → (t : ℕ) → t < d → Q t ≡ true → x t ≡ y t
  unfolding sum_on
  on_tight e t l q = rw q at (sum_tight d (λ t. pick (Q t) (x t)) (λ t. pick (Q t) (y t)) (λ t l. pick_le (h t l)) e t l)

  pub on_lt : (t : ℕ) → t < d → Q t ≡ true → x t < y t → sum_on d Q x < sum_on d Q y
  unfolding sum_on
  on_lt t l q k = sum_lt d _ _ (λ t l. pick_le (h t l)) t l (rw q k)

pub on_none : (d : ℕ) (x : ℕ → ℕ) → sum_on d (λ t. false) x ≡ 0
unfolding sum_on
on_none d x = sum_zero d

pick_zero : (q : Bool) → pick q 0 ≡ 0
pick_zero true = refl
pick_zero false = refl

pub on_zero : (d : ℕ) (Q : ℕ → Bool) → sum_on d Q (λ t. 0) ≡ 0
unfolding sum_on
on_zero d Q = sum_cong (λ t l. pick_zero (Q t)) ∙ sum_zero d

-- terms of at most c add up to at most d * c
pub on_le_mul : (d c : ℕ) (Q : ℕ → Bool) (x : ℕ → ℕ) → ((t : ℕ) → t < d → x t ≤ c) → sum_on d Q x ≤ d * c
unfolding sum_on
on_le_mul d c Q x h = sum_le_mul d c (λ t. pick (Q t) (x t)) (λ t l. omega (arith, pick_le_self (Q t) (x t), h t l))

-- the sum over a set of a sum, the other way round
pub on_swap : (d n : ℕ) (Q : ℕ → Bool) (f : ℕ → ℕ → ℕ) → sum_on d Q (λ t. sum n (λ j. f j t)) ≡ sum n (λ j. sum_on d Q (λ t. f j t))
unfolding sum_on
on_swap d n Q f = sum_cong (λ t l. pick_sum (Q t) n (λ j. f j t)) ∙ sum_swap d n (λ t j. pick (Q t) (f j t))

pub pick_mul : (q : Bool) (k x : ℕ) → k * pick q x ≡ pick q (k * x)
pick_mul true k x = refl
pick_mul false k x = omega arith

pub mul_on : (k d : ℕ) (Q : ℕ → Bool) (x : ℕ → ℕ) → k * sum_on d Q x ≡ sum_on d Q (λ t. k * x t)
unfolding sum_on
mul_on k d Q x = mul_sum k d (λ t. pick (Q t) (x t)) ∙ sum_cong (λ t l. pick_mul (Q t) k (x t))

-- a positive term, and a positive sum
pub on_pos : (d : ℕ) (Q s : ℕ → Bool) → 0 < sum_on d Q (λ t. one (s t)) → (t : ℕ) × (t < d) × (Q t ≡ true) × (s t ≡ true)
unfolding sum_on
on_pos d Q s p =
    let r = sum_pos d (λ t. pick (Q t) (one (s t))) p in
    let e = pick_pos (Q r.0) (s r.0) r.2 in (r.0, r.1, e.0, e.1)

pub on_term : (d : ℕ) (Q : ℕ → Bool) (x : ℕ → ℕ) (t : ℕ) → t < d → Q t ≡ true → x t ≤ sum_on d Q x
unfolding sum_on
on_term d Q x t l q = rw q at (sum_term d (λ t. pick (Q t) (x t)) t l)

-- over one place
pub on_single : (d : ℕ) (x : ℕ → ℕ) (t : ℕ) → t < d → sum_on d (λ u. eqb u t) x ≡ x t
unfolding sum_on
on_single d x t l =
    let e : pick (eqb t t) (x t) ≡ x t = rw (eq-eqb t t refl) in
    omega (arith, sum_change d (λ u. pick (eqb u t) (x u)) (λ u. 0) t l (λ u m h. rw (ne_eqb u t h)), sum_zero d)

-- over two sets: what they have together and in common adds up to what each has
pub on_modular : (d : ℕ) (A B : ℕ → Bool) (x : ℕ → ℕ) → sum_on d (join A B) x + sum_on d (meet A B) x ≡ sum_on d A x + sum_on d B x
unfolding sum_on
on_modular d A B x =
    sym (sum_add d _ _) ∙ sum_cong (λ t l. pick_modular (A t) (B t) (x t)) ∙ sum_add d _ _

pub on_modular_compl : (d : ℕ) (A B : ℕ → Bool) (x : ℕ → ℕ)
    → sum_on d (compl (join A B)) x + sum_on d (compl (meet A B)) x ≡ sum_on d (compl A) x + sum_on d (compl B) x
on_modular_compl d A B x =
    omega (arith, on_modular d A B x, on_split d A x, on_split d B x, on_split d (join A B) x, on_split d (meet A B) x)

pick_mono : {a b : Bool} → (a ≡ true → b ≡ true) → (x : ℕ) → pick a x ≤ pick b x
pick_mono {a = true} h x = rw (h refl) (omega arith)
pick_mono {a = false} h x = omega arith

-- over a smaller set
pub on_mono : {d : ℕ} {A B : ℕ → Bool} → ((t : ℕ) → t < d → A t ≡ true → B t ≡ true) → (x : ℕ → ℕ) → sum_on d A x ≤ sum_on d B x
unfolding sum_on
on_mono h x = sum_le (λ t l. pick_mono (h t l) (x t))
