-- A filled buffer, an element at a time. Assumes nothing.
use Rattle.std.proofs.Common.{◌≡◌, ◌<◌, ◌+◌, ◌-◌, ℕ, suc, List, [], ◌∷◌, ◌++◌, length, take, set, arith, sym, ◌∙◌, ap}
use Rattle.std.proofs.lemmas.List.{take_more_set}
use Rattle.std.proofs.Common.{length-set, append_assoc}
use Rattle.cases.specs.Buffers.{filled}

-- one element more is filled, and those that follow from the next value are one fewer
pub fill_step : {X : Type 0} (next : X → X) (first v w : X) (xs : List X) (i : ℕ) → i < length xs → w ≡ next v
    → take i xs ++ filled v next (length xs - i) ≡ filled first next (length xs)
    → take (i + 1) (set xs i v) ++ filled w next (length (set xs i v) - (i + 1)) ≡ filled first next (length (set xs i v))
fill_step next first v w xs i h same before =
    let n = length xs in
    let long : length (set xs i v) ≡ n = length-set xs i v in
    let rest : suc (n - (i + 1)) ≡ n - i = omega (arith, h) in
    ap (λ z. take (i + 1) (set xs i v) ++ filled w next (z - (i + 1))) long
    ∙ ap (λ z. z ++ filled w next (n - (i + 1))) (take_more_set xs i v h)
    ∙ append_assoc (take i xs) (v ∷ []) (filled w next (n - (i + 1)))
    ∙ ap (λ z. take i xs ++ (v ∷ filled z next (n - (i + 1)))) same
    ∙ ap (λ z. take i xs ++ filled v next z) rest
    ∙ before
    ∙ ap (filled first next) (sym long)
