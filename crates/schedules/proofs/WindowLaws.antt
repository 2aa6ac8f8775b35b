-- The window from a first to a last slot: its length, its slots, and how many they are. Assumes nothing.
use Rattle.std.specs.Prelude.{◌≡◌, refl, Bool, true, false, ◌&&◌, List, ◌∷◌, map, ℕ, zero, suc, ◌+◌, ◌-◌, ◌≤◌, ◌<◌, min, max, leb, length, get_or}
use Rattle.std.proofs.Common.{◌∙◌, ap, arith, leb-true, leb-false}
use Rattle.std.proofs.lemmas.List.{length-map}
use Rattle.common.specs.Lists.{range, count}
use Rattle.schedules.specs.Slots.{has, window}
use Rattle.schedules.specs.Tabulate.{get_d_map_below}

length_range : (a n : ℕ) → length (range a n) ≡ n
length_range a zero = refl
length_range a (suc n) = ap suc (length_range (suc a) n)

get_d_range : (a n t : ℕ) → t < n → get_or (range a n) t 0 ≡ a + t
get_d_range a zero t l = absurd (omega arith)
get_d_range a (suc n) zero l = omega arith
get_d_range a (suc n) (suc t) l = omega (arith, get_d_range (suc a) n t (omega arith))

pub length_window : (slots release deadline : ℕ) → length (window slots release deadline) ≡ slots
unfolding window
length_window slots release deadline = simp length-map (length_range 1 slots)

-- slot t + 1 is in the window exactly where it is from release to deadline
pub has_window : (slots release deadline t : ℕ) → t < slots → has (window slots release deadline) t ≡ (leb release (suc t) && leb (suc t) deadline)
unfolding window
has_window slots release deadline t l =
    get_d_map_below (λ t. leb release t && leb t deadline) (range 1 slots) t false 0 (rw (length_range 1 slots) l)
    ∙ ap (λ k. leb release k && leb k deadline) (get_d_range 1 slots t l ∙ omega arith)

-- how many of a, .., a + n − 1 are from r to d
count_from : (a n r d : ℕ) → count (map (λ t. leb r t && leb t d) (range a n)) ≡ min (suc d) (a + n) - max r a
count_from a zero r d = omega arith
count_from a (suc n) r d = go (leb r a) (leb a d) refl refl (count_from (suc a) n r d)
  where
    rest : List Bool
    rest = map (λ t. leb r t && leb t d) (range (suc a) n)

    go : (x y : Bool) → leb r a ≡ x → leb a d ≡ y → count rest ≡ min (suc d) (suc a + n) - max r (suc a)
        → count ((x && y) ∷ rest) ≡ min (suc d) (a + suc n) - max r a
    go true true p q e = omega (arith, leb-true r a p, leb-true a d q)
    go true false p q e = omega (arith, leb-true r a p, leb-false a d q)
    go false y p q e = omega (arith, leb-false r a p)

-- a window from 1 or later, to the last slot of the day or earlier, has deadline − release + 1 slots
pub count_window : (slots release deadline : ℕ) → 1 ≤ release → deadline ≤ slots
    → count (window slots release deadline) ≡ suc deadline - release
unfolding window
count_window slots release deadline p s = omega (arith, count_from 1 slots release deadline)
