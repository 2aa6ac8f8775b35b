-- The steps of filling the highs of a day, and of adding up feedings and highs of marked slots. Assumes nothing.
use Rattle.std.specs.Prelude.{◌≡◌, refl, List, ◌++◌, ℕ, ◌+◌, ◌-◌, ◌≤◌, ◌<◌, ltb, length, get_or, take, drop, replicate}
use Rattle.std.proofs.Common.{sym, ap, ◌∙◌, arith, lt-ltb, le-ltb, length-take-le}
use Rattle.std.proofs.lemmas.List.{length-replicate, drop-replicate}
use Rattle.checks.specs.Limits.{max_slots}
use Rattle.common.specs.Buffers.{padded}
use Rattle.theory.specs.Sums.{sum_none, sum_next}
use Rattle.theory.specs.SumsOver.{pick, sum_on, on_cong}
use Rattle.grid.specs.Grid.{at}
use Rattle.loads.specs.Meaning.{seen_at}
use Rattle.schedules.specs.Slots.{Slots}
use Rattle.schedules.specs.Shortfall.{capacity}
use Rattle.schedules.specs.Tabulate.{tab}
use Rattle.schedules.proofs.AsFunctions.{sum_over_tab}
use Rattle.common.specs.FillLaws.{get_d_padded}
use Rattle.placing.specs.Represents.{HighWords, marks_of, marked_highs}
use Rattle.common.specs.BufferLaws.{length_padded}

-- the highs of the day, as words
pub full_words : (slots blowers : ℕ) {H : List ℕ} → slots ≤ max_slots → H ≡ padded max_slots (replicate slots blowers) → HighWords slots (replicate slots blowers) H
full_words slots blowers l e =
    record {
      long = length-replicate slots blowers;
      same = λ t m. ap (λ h. get_or h t 0) e ∙ get_d_padded max_slots (replicate slots blowers) t (rw (length-replicate slots blowers) m);
    }

pub length_full : (slots blowers : ℕ) {H : List ℕ} → slots ≤ max_slots → H ≡ padded max_slots (replicate slots blowers) → length H ≡ max_slots
length_full slots blowers l e = ap length e ∙ length_padded max_slots (replicate slots blowers) (omega (arith, length-replicate slots blowers))

-- the blowers at the front of zeros
pub highs_filled : (slots blowers : ℕ) {front H : List ℕ} → slots ≤ max_slots → H ≡ replicate max_slots 0 → front ≡ replicate (length (take slots H)) blowers
    → front ++ drop slots H ≡ padded max_slots (replicate slots blowers)
unfolding padded
highs_filled slots blowers {H = H} l z e =
    let long : length (take slots H) ≡ slots = length-take-le slots H (omega (arith, ap length z, length-replicate {A = ℕ} max_slots 0)) in
    ap (λ xs. xs ++ drop slots H) (e ∙ ap (λ n. replicate n blowers) long)
    ∙ ap (λ xs. replicate slots blowers ++ xs)
    (ap (drop slots) z ∙ drop-replicate slots max_slots 0 ∙ ap (λ n. replicate (max_slots - n) 0) (sym (length-replicate slots blowers)))

-- Sums over marked slots ------------------------------------------------------------

pub marked_none : (S : List ℕ) (f : ℕ → ℕ) → 0 ≡ sum_on 0 (seen_at S) f
unfolding sum_on
marked_none S f = sym (sum_none (λ t. pick (seen_at S t) (f t)))

pub marked_next : (S : List ℕ) (f : ℕ → ℕ) (n t x : ℕ) → n ≡ sum_on t (seen_at S) f → x ≡ pick (ltb 0 (at S t)) (f t)
    → n + x ≡ sum_on (t + 1) (seen_at S) f
unfolding sum_on seen_at
marked_next S f n t x e g = omega (arith, e, g, sum_next t (λ t. pick (ltb 0 (at S t)) (f t)))

pub marked_is : (x mark : ℕ) → 0 < mark → x ≡ pick (ltb 0 mark) x
marked_is x mark h = rw (lt-ltb 0 mark h)

pub unmarked_is : (x mark : ℕ) → mark ≤ 0 → 0 ≡ pick (ltb 0 mark) x
unmarked_is x mark h = rw (le-ltb 0 mark h)

-- the sum of the highs is the capacity of the marked set
pub highs_capacity : {slots : ℕ} {high H : List ℕ} (S : List ℕ) (q : Slots) → HighWords slots high H
    → q ≡ tab slots (marks_of S) → marked_highs slots H S ≡ capacity high q
unfolding marked_highs seen_at
highs_capacity {slots} {high} {H} S q g e =
    on_cong (λ t l. refl) g.same ∙ sym (sum_over_tab high g.long (marks_of S)) ∙ ap (capacity high) (sym e)
