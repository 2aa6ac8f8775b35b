-- Smaller volumes in the same windows: where a sound placing exists, one exists for these too; and where nothing is
-- asked, one exists. Assumes nothing.
use Rattle.std.specs.Prelude.{◌≡◌, refl, true, List, [], ◌∷◌, ℕ, ◌≤◌, length, replicate}
use Rattle.std.proofs.Common.{ap, arith}
use Rattle.std.proofs.lemmas.List.{length-replicate}
use Rattle.schedules.specs.Slots.{Slots, outside}
use Rattle.schedules.specs.Schedules.{Demand, Windows, feasible}
use Rattle.schedules.specs.Shortfall.{forced, capacity, shortfall}
use Rattle.schedules.proofs.Differences.{sub_le_zero}
use Rattle.schedules.proofs.FeasibleLaws.{feasible_sound, sound_no_obstacle}
use Rattle.schedules.proofs.CriticalLaws.{within_capacity}

-- the first list's volumes are at most the second's, in the same windows
abbrev pub Fewer : List Demand → List Demand → Type 0
Fewer [] [] = Unit {0}
Fewer [] (e ∷ es) = ⊥
Fewer (d ∷ ds) [] = ⊥
Fewer (d ∷ ds) (e ∷ es) = (d.window ≡ e.window) × (d.volume ≤ e.volume) × Fewer ds es

fewer_forced : (ds es : List Demand) → Fewer ds es → (q : Slots) → forced ds q ≤ forced es q
unfolding forced
fewer_forced [] [] f q = omega arith
fewer_forced [] (e ∷ es) f q = absurd f
fewer_forced (d ∷ ds) [] f q = absurd f
fewer_forced (d ∷ ds) (e ∷ es) f q = omega (arith, fewer_forced ds es f.2 q, f.1, ap (λ x. outside x q) f.0)

pub fewer_feasible : {slots : ℕ} {ds es : List Demand} → Windows slots ds → Windows slots es → Fewer ds es → (high : List ℕ) → length high ≡ slots
    → feasible slots es (replicate slots 0) high ≡ true → feasible slots ds (replicate slots 0) high ≡ true
unfolding shortfall
fewer_feasible {slots} {ds} {es} w v f high h e =
    let n = sound_no_obstacle v (length-replicate slots 0) h (feasible_sound v (length-replicate slots 0) h e).1 in
    within_capacity w high h
    (λ q l. omega (arith, fewer_forced ds es f q, (sub_le_zero (forced es q) (capacity high q)).0 (n.no_shortfall q l)))

-- every volume is 0
abbrev pub Nothing : List Demand → Type 0
Nothing [] = Unit {0}
Nothing (d ∷ ds) = (d.volume ≡ 0) × Nothing ds

nothing_forced : (ds : List Demand) → Nothing ds → (q : Slots) → forced ds q ≡ 0
unfolding forced
nothing_forced [] n q = refl
nothing_forced (d ∷ ds) n q = omega (arith, n.0, nothing_forced ds n.1 q)

pub nothing_feasible : {slots : ℕ} {ds : List Demand} → Windows slots ds → Nothing ds → (high : List ℕ) → length high ≡ slots
    → feasible slots ds (replicate slots 0) high ≡ true
nothing_feasible {ds = ds} w n high h = within_capacity w high h (λ q l. omega (arith, nothing_forced ds n q))
