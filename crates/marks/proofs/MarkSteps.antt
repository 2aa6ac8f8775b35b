-- The steps of the loops over slot marks: whether each is 0 or 1, and the counts from slot 1 on. Assumes nothing.
use Rattle.std.specs.Prelude.{◌≡◌, refl, ◌&&◌, List, [], ◌∷◌, map, leb, ℕ, suc, ◌+◌, ◌≤◌, ◌<◌, eqb, length, get_or, replicate}
use Rattle.std.specs.List.{list_all}
use Rattle.std.proofs.Math.Path.{sym}
use Rattle.std.proofs.Common.{ap, ◌∙◌, arith}
use Rattle.std.proofs.Math.Bool.{false}
use Rattle.std.proofs.lemmas.List.{length-replicate}
use borrow.Author.Tests.{eq-eqb, ne_eqb}
use Rattle.common.specs.Lists.{every}
use Rattle.checks.specs.Limits.{max_slots}
use Rattle.theory.specs.Sums.{sum_none, sum_next}
use Rattle.theory.specs.SumsOver.{one}
use Rattle.schedules.specs.Slots.{has}
use Rattle.schedules.specs.Tabulate.{tab, length_tab, get_d_tab, get_d_map_below}
use Rattle.common.specs.FillLaws.{get_d_zeros, FilledTo, filled_end}
use Rattle.marks.specs.Marks.{is_mark, marked}
use Rattle.marks.specs.Counts.{marked_to, counts_before}
use Rattle.marks.proofs.CountLaws.{is_marked, marked_to_sum}

-- Each mark is 0 or 1 -----------------------------------------------------------

pub all_marks : (marks : List ℕ) → list_all (λ x. leb x 1) marks ≡ every (map is_mark marks)
unfolding is_mark
all_marks [] = refl
all_marks (x ∷ xs) = ap (λ b. leb x 1 && b) (all_marks xs)

-- The counts --------------------------------------------------------------------

marked_at : (marks : List ℕ) (t : ℕ) → t < length marks → has (marked marks) t ≡ eqb (get_or marks t 0) 1
unfolding marked
marked_at marks t l = get_d_map_below (λ x. eqb x 1) marks t false 0 l

module _ (marks : List ℕ) where
  marked_to_next : (t : ℕ) → t < length marks → marked_to marks (t + 1) ≡ marked_to marks t + one (eqb (get_or marks t 0) 1)
  marked_to_next t l =
      omega (arith, marked_to_sum marks t (omega arith), marked_to_sum marks (t + 1) (omega arith), sum_next t (is_marked marks), ap one (marked_at marks t l))

  pub count_hit : (t : ℕ) → t < length marks → get_or marks t 0 ≡ 1 → marked_to marks (t + 1) ≡ marked_to marks t + 1
  count_hit t l e = marked_to_next t l ∙ ap (λ b. marked_to marks t + one b) (eq-eqb (get_or marks t 0) 1 e)

  pub count_miss : (t : ℕ) → t < length marks → (get_or marks t 0 ≡ 1 → ⊥) → marked_to marks (t + 1) ≡ marked_to marks t
  count_miss t l n = omega (arith, marked_to_next t l, ap one (ne_eqb (get_or marks t 0) 1 n))

  pub count_none : 0 ≡ marked_to marks 0
  count_none = sym (marked_to_sum marks 0 (omega arith) ∙ sum_none (is_marked marks))

  -- place 0 is right from the start
  pub counts_begin : FilledTo (suc max_slots) (marked_to marks) (0 + 1) (replicate (suc max_slots) 0)
  counts_begin =
      record {
        long = length-replicate {A = ℕ} (suc max_slots) 0;
        filled = λ k l.
            let e : 0 ≡ k = omega arith in
            get_d_zeros (suc max_slots) k ∙ count_none ∙ ap (marked_to marks) e;
        past = λ k l. get_d_zeros (suc max_slots) k;
      }

  pub counts_end : length marks ≤ max_slots → (t : ℕ) → t ≡ length marks → (xs : List ℕ) → FilledTo (suc max_slots) (marked_to marks) (t + 1) xs
      → xs ≡ counts_before marks
  unfolding counts_before
  counts_end l t e xs h =
      let d = length_tab (suc (length marks)) (marked_to marks) in
      filled_end (suc max_slots) (tab (suc (length marks)) (marked_to marks)) (marked_to marks) (t + 1) (omega (arith, d)) (omega (arith, d))
      (λ k m. sym (get_d_tab (suc (length marks)) (marked_to marks) 0 k (rw d at m))) xs h
