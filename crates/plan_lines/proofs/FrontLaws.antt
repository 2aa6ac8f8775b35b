-- The words and the marks of the day's slots alone stand for what the whole arrays do. Assumes nothing.
use Rattle.std.specs.Prelude.{◌≡◌, List, map, ℕ, ◌≤◌, eqb, ltb, length, take}
use Rattle.std.proofs.Common.{ap, ◌∙◌, arith, take-take, length-take-le}
use Rattle.common.specs.Lists.{range}
use Rattle.common.specs.Bits.{bit}
use Rattle.plan_lines.specs.Lines.{feed_lines}
use Rattle.plan_lines.specs.Inputs.{tanks_of, row_of, placing_of, set_of}

placing_front : (slots r : ℕ) (words : List ℕ) → placing_of slots r (take slots words) ≡ placing_of slots r words
unfolding placing_of row_of
placing_front slots r words = ap (λ ws. map (λ j. map (λ w. eqb (bit w j) 1) ws) (range 0 r)) (take-take slots slots words (omega arith))

pub feed_lines_front : (slots r : ℕ) (numbers words : List ℕ) → slots ≤ length words
    → feed_lines (length (take slots words)) (tanks_of r numbers) (placing_of (length (take slots words)) r (take slots words))
    ≡ feed_lines slots (tanks_of r numbers) (placing_of slots r words)
feed_lines_front slots r numbers words h =
    ap (λ d. feed_lines d (tanks_of r numbers) (placing_of d r (take slots words))) (length-take-le slots words h)
    ∙ ap (feed_lines slots (tanks_of r numbers)) (placing_front slots r words)

pub set_of_front : (slots : ℕ) (marks : List ℕ) → slots ≤ length marks → set_of (length (take slots marks)) (take slots marks) ≡ set_of slots marks
unfolding set_of
set_of_front slots marks h =
    ap (λ d. map (ltb 0) (take d (take slots marks))) (length-take-le slots marks h)
    ∙ ap (map (ltb 0)) (take-take slots slots marks (omega arith))
