-- The first faulty line: 0 exactly where no line is faulty, else the number, from 1, of the first that is. Assumes nothing.
use Rattle.std.specs.Prelude.{◌≡◌, refl, Bool, true, false, cond, List, ℕ, zero, suc, ◌+◌, ◌≤◌, ◌<◌}
use Rattle.std.proofs.Common.{sym, subst, ◌∙◌, true≢false, arith}
use Rattle.common.specs.FromFirst.{from_first}
use Rattle.line.specs.Line.{faulty_line}
use Rattle.checks.specs.Sheet.{line_at}
use Rattle.checks.specs.Checks.{first_faulty}

-- no line from line i up to line j is faulty
abbrev pub NoneFaulty : List ℕ → ℕ → ℕ → Type 0
NoneFaulty b i j = (k : ℕ) → i ≤ k → k < j → faulty_line (line_at b k) ≡ false

-- line j is the first faulty line among n lines from line i on
pub record FirstFaulty (b : List ℕ) (i n j : ℕ) : Type 0 where
  pub from : i ≤ j
  pub to : j < i + n
  pub faulty : faulty_line (line_at b j) ≡ true
  pub before : NoneFaulty b i j

pub first_faulty_none : (b : List ℕ) (i n : ℕ) → NoneFaulty b i (i + n) → first_faulty b i n ≡ 0
unfolding first_faulty
first_faulty_none b i zero h = refl
first_faulty_none b i (suc n) h = rw (h i (omega arith) (omega arith)) (first_faulty_none b (suc i) n (λ k p q. h k (omega arith) (omega arith)))

pub first_faulty_first : (b : List ℕ) (i n j : ℕ) → FirstFaulty b i n j → first_faulty b i n ≡ suc j
unfolding first_faulty
first_faulty_first b i zero j h = absurd (omega arith)
first_faulty_first b i (suc n) j h = go (faulty_line (line_at b i)) refl (first_faulty_first b (suc i) n j)
  where
    go : (t : Bool) → faulty_line (line_at b i) ≡ t → (FirstFaulty b (suc i) n j → first_faulty b (suc i) n ≡ suc j) → cond t (suc i) (first_faulty b (suc i) n) ≡ suc j
    go true f r = from_first (λ m. suc i ≡ suc m) i j h.from refl (λ l. absurd (true≢false (sym f ∙ h.before i (omega arith) l)))
    go false f r =
        let l : suc i ≤ j = from_first (λ m. faulty_line (line_at b m) ≡ true → suc i ≤ m) i j h.from (λ t. absurd (true≢false (sym t ∙ f))) (λ l t. l) h.faulty in
        r (record { from = l; to = omega arith; faulty = h.faulty; before = λ k p q. h.before k (omega arith) q })

pub none_first_faulty : (b : List ℕ) (i n : ℕ) → first_faulty b i n ≡ 0 → NoneFaulty b i (i + n)
unfolding first_faulty
none_first_faulty b i zero e = λ k p q. absurd (omega arith)
none_first_faulty b i (suc n) e = go (faulty_line (line_at b i)) refl e (none_first_faulty b (suc i) n)
  where
    go : (t : Bool) → faulty_line (line_at b i) ≡ t → cond t (suc i) (first_faulty b (suc i) n) ≡ 0 → (first_faulty b (suc i) n ≡ 0 → NoneFaulty b (suc i) (suc i + n)) → NoneFaulty b i (i + suc n)
    go true f z h = absurd (omega arith)
    go false f z h = λ k p q. from_first (λ m. faulty_line (line_at b m) ≡ false) i k p f (λ l. h z k l (omega arith))

pub first_first_faulty : (b : List ℕ) (i n j : ℕ) → first_faulty b i n ≡ suc j → FirstFaulty b i n j
unfolding first_faulty
first_first_faulty b i zero j e = absurd (omega arith)
first_first_faulty b i (suc n) j e = go (faulty_line (line_at b i)) refl e (first_first_faulty b (suc i) n j)
  where
    go : (t : Bool) → faulty_line (line_at b i) ≡ t → cond t (suc i) (first_faulty b (suc i) n) ≡ suc j → (first_faulty b (suc i) n ≡ suc j → FirstFaulty b (suc i) n j) → FirstFaulty b i (suc n) j
    go true f z h =
        let m : i ≡ j = omega arith in
        record { from = omega arith; to = omega arith; faulty = subst (λ (k : ℕ). faulty_line (line_at b k) ≡ true) m f; before = λ k p q. absurd (omega arith) }
    go false f z h =
        let r = h z in
        record {
          from = omega arith;
          to = omega arith;
          faulty = r.faulty;
          before = λ k p q. from_first (λ m. faulty_line (line_at b m) ≡ false) i k p f (λ l. r.before k l q);
        }
