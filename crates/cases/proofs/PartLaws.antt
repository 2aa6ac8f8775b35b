-- The parts of a list, as std's functions give them. Assumes nothing.
use Rattle.std.specs.Prelude.{◌≡◌, ◌≤◌, ◌<◌, ◌-◌, ℕ, List, [], length, take, drop, Option, None, Some, if◌then◌else◌, MatchOption}
use mathlib.Core.Logic.{inl, inr}
use Rattle.std.specs.Option.{UnwrapsOrElse}
use Rattle.std.specs.List.{PartBy, IsSplitAt}
use Rattle.std.proofs.Common.{arith, sym, ◌∙◌, ap}
use Rattle.std.proofs.lemmas.Bool.{le-leb, lt-leb}
use Rattle.std.proofs.lemmas.List.{take_rest}
use Rattle.cases.specs.Parts.{first_part, second_part}

pub first_whole : {X : Type 0} (n : ℕ) (xs : List X) → n ≤ length xs → take n xs ≡ first_part n xs
first_whole n xs h = ap (λ b. if b then take n xs else []) (sym (le-leb n (length xs) h))

pub first_none : {X : Type 0} (n : ℕ) (xs : List X) → length xs < n → [] ≡ first_part n xs
first_none n xs h = ap (λ b. if b then take n xs else []) (sym (lt-leb n (length xs) h))

pub second_whole : {X : Type 0} (n : ℕ) (xs : List X) → n ≤ length xs → drop n xs ≡ second_part n xs
second_whole n xs h = ap (λ b. if b then drop n xs else []) (sym (le-leb n (length xs) h))

pub second_none : {X : Type 0} (n : ℕ) (xs : List X) → length xs < n → [] ≡ second_part n xs
second_none n xs h = ap (λ b. if b then drop n xs else []) (sym (lt-leb n (length xs) h))

-- the part up to n, or nothing
pub first_lent : {R X : Type 0} (now : R → List X) (xs : List X) (n : ℕ) (o : Option R) (r : R) → PartBy now xs 0 n o → UnwrapsOrElse o (λ x. now x ≡ []) r → now r ≡ first_part n xs
first_lent now xs n None r (inl h, _) u = u ∙ first_none n xs (omega (arith, h))
first_lent now xs n None r (inr h, _) u = u ∙ first_none n xs h
first_lent now xs n (Some x) r (h, _) u =
    let whole : take (n - 0) xs ≡ take n xs = ap (λ k. take k xs) (omega arith) in
    ap now u ∙ h.2 ∙ whole ∙ first_whole n xs h.1

-- the part from n on, or nothing
pub second_lent : {R X : Type 0} (now : R → List X) (xs : List X) (n : ℕ) (o : Option R) (r : R) → PartBy now xs n (length xs) o → UnwrapsOrElse o (λ x. now x ≡ []) r → now r ≡ second_part n xs
second_lent now xs n None r (inl h, _) u = u ∙ second_none n xs h
second_lent now xs n None r (inr h, _) u = u ∙ second_none n xs (omega (arith, h))
second_lent now xs n (Some x) r (h, _) u = ap now u ∙ h.2 ∙ take_rest xs n ∙ second_whole n xs h.0

-- both parts of a list split at n, or two of nothing: the first
pub first_split : {R X : Type 0} (now : R → List X) (xs : List X) (n : ℕ) (o : Option (R × R)) (r : R × R) → MatchOption o (length xs < n) (λ p. IsSplitAt xs n (now p.0) (now p.1)) → UnwrapsOrElse o (λ p. (now p.0 ≡ []) × (now p.1 ≡ [])) r → now r.0 ≡ first_part n xs
first_split now xs n None r h u = u.0 ∙ first_none n xs h
first_split now xs n (Some p) r h u = ap (λ q. now q.0) u ∙ h.1 ∙ first_whole n xs h.0

-- the second
pub second_split : {R X : Type 0} (now : R → List X) (xs : List X) (n : ℕ) (o : Option (R × R)) (r : R × R) → MatchOption o (length xs < n) (λ p. IsSplitAt xs n (now p.0) (now p.1)) → UnwrapsOrElse o (λ p. (now p.0 ≡ []) × (now p.1 ≡ [])) r → now r.1 ≡ second_part n xs
second_split now xs n None r h u = u.1 ∙ second_none n xs h
second_split now xs n (Some p) r h u = ap (λ q. now q.1) u ∙ h.2 ∙ second_whole n xs h.0
