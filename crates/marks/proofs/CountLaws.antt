-- The marks counted from slot 1 on: each count is a sum over the first slots, and the marks in a window are the difference of two counts.
-- Assumes nothing.
use Rattle.std.specs.Prelude.{◌≡◌, refl, ◌⊎◌, true, false, not, ◌&&◌, List, ℕ, zero, suc, ◌+◌, ◌-◌, ◌≤◌, ◌<◌, leb, eqb, length, get_or, take}
use Rattle.std.proofs.Math.Path.{sym, ap}
use Rattle.std.proofs.Common.{◌∙◌, inl, inr, eq-or-lt_of_le, arith, length-take-le, get_or-take, take_all, le-leb, eqb-true}
use Rattle.std.proofs.lemmas.List.{length-map}
use Rattle.std.proofs.lemmas.Bool.{lt-leb, not-false}
use Rattle.common.specs.Lists.{count}
use Rattle.common.specs.Tests.{or_false}
use Rattle.checks.specs.Limits.{max_slots}
use Rattle.common.specs.BufferLaws.{length_padded}
use Rattle.theory.specs.Sums.{sum, sum_cong, sum_zero}
use Rattle.theory.specs.SumsOver.{one}
use Rattle.theory.specs.Placing.{size}
use Rattle.theory.proofs.Row.{size_split, inside_is}
use Rattle.schedules.specs.Slots.{Slots, has, window, inside, outside}
use Rattle.schedules.specs.Tabulate.{tab, length_tab, get_d_tab, count_size}
use Rattle.schedules.proofs.AsFunctions.{inside_as, outside_as}
use Rattle.schedules.proofs.WindowLaws.{length_window, has_window, count_window}
use Rattle.common.specs.FillLaws.{get_d_padded}
use Rattle.marks.specs.Marks.{marked, marks_fault}
use Rattle.marks.specs.Counts.{marked_to, counts_before, marked_in, unmarked_in}

-- an accepted list has one mark for each slot
pub accepted_long : (slots : ℕ) (marks : List ℕ) → marks_fault slots marks ≡ false → length marks ≡ slots
unfolding marks_fault
accepted_long slots marks e = eqb-true (length marks) slots (not-false _ (or_false (not (eqb (length marks) slots)) _ e).0)

-- The counts --------------------------------------------------------------------

pub length_marked : (marks : List ℕ) → length (marked marks) ≡ length marks
unfolding marked
length_marked marks = length-map marks (λ x. eqb x 1)

-- 1 where slot t + 1 is marked, else 0
abbrev pub is_marked : List ℕ → ℕ → ℕ
is_marked marks t = one (has (marked marks) t)

count_take : (q : Slots) (t : ℕ) → t ≤ length q → count (take t q) ≡ size t (has q)
unfolding size
count_take q t l =
    count_size (take t q) ∙ ap (λ k. size k (has (take t q))) (length-take-le t q l)
    ∙ sum_cong (λ i m. ap one (get_or-take t q i false m))

module _ (marks : List ℕ) where
  -- the counts without the places after them
  abbrev all : List ℕ
  all = tab (suc (length marks)) (marked_to marks)

  long : length all ≡ suc (length marks)
  long = length_tab (suc (length marks)) (marked_to marks)

  pub length_counts_before : length marks ≤ max_slots → length (counts_before marks) ≡ suc max_slots
  unfolding counts_before
  length_counts_before l = length_padded (suc max_slots) all (omega (arith, long))

  pub counts_before_at : (t : ℕ) → t ≤ length marks → get_or (counts_before marks) t 0 ≡ marked_to marks t
  unfolding counts_before
  counts_before_at t l =
      get_d_padded (suc max_slots) all t (omega (arith, long)) ∙ get_d_tab (suc (length marks)) (marked_to marks) 0 t (omega arith)

  pub marked_to_sum : (t : ℕ) → t ≤ length marks → marked_to marks t ≡ sum t (is_marked marks)
  unfolding size
  marked_to_sum t l = count_take (marked marks) t (omega (arith, length_marked marks))

  -- |Q| is the last count
  pub counts_before_all : (t : ℕ) → t ≡ length marks → get_or (counts_before marks) t 0 ≡ count (marked marks)
  counts_before_all t e = counts_before_at t (omega arith) ∙ ap count (take_all t (marked marks) (omega (arith, length_marked marks)))

-- The marks in a window -----------------------------------------------------------

-- two functions that agree from a on add up to the same from there
sum_agree : (a n : ℕ) (f g : ℕ → ℕ) → a ≤ n → ((t : ℕ) → a ≤ t → t < n → f t ≡ g t) → sum n f + sum a g ≡ sum a f + sum n g
unfolding sum
sum_agree a zero f g l h = let e : a ≡ 0 = omega arith in rw e refl
sum_agree a (suc n) f g l h = go (eq-or-lt_of_le l) (λ k. sum_agree a n f g k (λ t p q. h t p (omega arith)))
  where
    go : (a ≡ suc n) ⊎ (a < suc n) → (a ≤ n → sum n f + sum a g ≡ sum a f + sum n g) → sum n f + f n + sum a g ≡ sum a f + (sum n g + g n)
    go (inl e) ih = rw e refl
    go (inr k) ih = omega (arith, ih (omega arith), h n (omega arith) (omega arith))

-- a function that is f from a to d and 0 elsewhere adds up to the difference of two sums of f
sum_between : (a d n : ℕ) (f g : ℕ → ℕ) → a ≤ d → d ≤ n → ((t : ℕ) → t < a → g t ≡ 0) → ((t : ℕ) → a ≤ t → t < d → g t ≡ f t)
    → ((t : ℕ) → d ≤ t → t < n → g t ≡ 0) → sum a f + sum n g ≡ sum d f
sum_between a d n f g l m before between past =
    omega (
      arith,
      sum_agree d n g (λ t. 0) m past,
      sum_agree a d g f l between,
      sum_cong {n = a} {f = g} {g = λ t. 0} before,
      sum_zero a,
      sum_zero d,
      sum_zero n,
    )

module _ (marks : List ℕ) (release deadline : ℕ) (first : 1 ≤ release) (order : release ≤ deadline) (last : deadline ≤ length marks) where
  -- the window
  abbrev E : Slots
  E = window (length marks) release deadline

  before_window : (t : ℕ) → t < release - 1 → has E t ≡ false
  before_window t l =
      has_window (length marks) release deadline t (omega arith) ∙ ap (λ b. b && leb (suc t) deadline) (lt-leb release (suc t) (omega arith))

  in_window : (t : ℕ) → release - 1 ≤ t → t < deadline → has E t ≡ true
  in_window t l m =
      has_window (length marks) release deadline t (omega arith)
      ∙ rw (le-leb release (suc t) (omega arith), le-leb (suc t) deadline (omega arith)) refl

  past_window : (t : ℕ) → deadline ≤ t → t < length marks → has E t ≡ false
  past_window t l m =
      has_window (length marks) release deadline t m
      ∙ rw (le-leb release (suc t) (omega arith), lt-leb (suc t) deadline (omega arith)) refl

  -- the marks before a window and those in it are the marks up to its last slot
  pub counts_window : get_or (counts_before marks) (release - 1) 0 + inside E (marked marks) ≡ get_or (counts_before marks) deadline 0
  counts_window =
      omega (
        arith,
        counts_before_at marks (release - 1) (omega arith) ∙ marked_to_sum marks (release - 1) (omega arith),
        counts_before_at marks deadline last ∙ marked_to_sum marks deadline last,
        inside_as E (marked marks) (length_window (length marks) release deadline) (length_marked marks),
        inside_is (length marks) (has E) (has (marked marks)),
        sum_between (release - 1) deadline (length marks) (is_marked marks) (λ t. one (has E t && has (marked marks) t)) (omega arith) last
            (λ t l. ap (λ b. one (b && has (marked marks) t)) (before_window t l))
            (λ t l m. ap (λ b. one (b && has (marked marks) t)) (in_window t l m))
            (λ t l m. ap (λ b. one (b && has (marked marks) t)) (past_window t l m)),
      )

  -- a window's length is its marks and the slots that are not marked
  pub window_parts : suc deadline - release ≡ inside E (marked marks) + outside E (marked marks)
  unfolding size
  window_parts =
      let w = length_window (length marks) release deadline in
      sym (count_window (length marks) release deadline first last)
      ∙ count_size E ∙ ap (λ k. size k (has E)) w
      ∙ size_split (length marks) (has E) (has (marked marks))
      ∙ omega (arith, inside_as E (marked marks) w (length_marked marks), outside_as E (marked marks) w (length_marked marks))

  pub inside_marked_in : inside E (marked marks) ≡ marked_in (counts_before marks) release deadline
  inside_marked_in = omega (arith, counts_window)

  pub outside_unmarked_in : outside E (marked marks) ≡ unmarked_in (counts_before marks) release deadline
  outside_unmarked_in = omega (arith, counts_window, window_parts)
