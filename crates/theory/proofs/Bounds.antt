-- A placing between low and high in every slot exists exactly where low ≤ high in every slot, no set of slots is forced over its capacity and
-- none needs more than is possible in it. The highs are met first, the lows then in the opposite, which takes no load past its high.
-- Assumes nothing: a volume above its window's size is forced into the empty set.
use Rattle.std.specs.Prelude.{ℕ, zero, suc, ◌+◌, ◌-◌, ◌≤◌, ◌<◌, min, ◌≡◌, refl, ◌↔◌, Bool, true, false, ◌&&◌, eqb, ltb}
use Rattle.std.proofs.Common.{arith, ltb-true, ltb-false}
use Rattle.common.specs.Tests.{and_true}
use Rattle.theory.specs.Sums.{sum}
use Rattle.theory.specs.SumsOver.{one, sum_on, on_none, on_single}
use Rattle.theory.specs.Placing.{size, count, Placing, forced, possible, opposite, rest}
use Rattle.theory.proofs.Row.{size_within}
use Rattle.theory.proofs.Volumes.{forced_le_capacity, low_le_possible, fits_of_forced_none, possible_le_width}
use Rattle.theory.proofs.Complement.{placing_rest, count_rest, shortfall_rest}
use Rattle.theory.specs.Optimum.{Between}
use Rattle.theory.specs.Bounds.{Bounded, NoObstacle}
use Rattle.theory.proofs.Optimum.{hall}

-- Each job in its first free slots --------------------------------------------

abbrev pub earliest : (ℕ → ℕ → Bool) → (ℕ → ℕ) → ℕ → ℕ → Bool
earliest free v j t = free j t && ltb (size t (free j)) (v j)

earliest_size : (d v : ℕ) (f : ℕ → Bool) → size d (λ t. f t && ltb (size t f) v) ≡ min v (size d f)
unfolding size sum
earliest_size zero v f = omega arith
earliest_size (suc d) v f = go (f d) (ltb (size d f) v) refl (earliest_size d v f)
  where
    go : (b c : Bool) → ltb (size d f) v ≡ c → size d (λ t. f t && ltb (size t f) v) ≡ min v (size d f)
        → size d (λ t. f t && ltb (size t f) v) + one (b && c) ≡ min v (size d f + one b)
    go true true e h = omega (arith, ltb-true (size d f) v e)
    go true false e h = omega (arith, ltb-false (size d f) v e)
    go false c e h = omega arith

pub earliest_placing : {n d : ℕ} {free : ℕ → ℕ → Bool} {v : ℕ → ℕ} → ((j : ℕ) → j < n → v j ≤ size d (free j)) → Placing n d free v (earliest free v)
earliest_placing {d} {free} {v} h = record {
  within = λ j l t k e. (and_true (free j t) (ltb (size t (free j)) (v j)) e).0;
  volume = λ j l. omega (arith, earliest_size d (v j) (free j), h j l);
}

-- Both bounds -----------------------------------------------------------------

module _ (n d : ℕ) (free : ℕ → ℕ → Bool) (v low high : ℕ → ℕ) where
  -- the opposite of the opposite's placing has the volumes of S again
  placing_again : {S : ℕ → ℕ → Bool} → Placing n d free v S → {T : ℕ → ℕ → Bool} → Placing n d free (rest d free v) T → Placing n d free v (opposite free T)
  placing_again s t = record {
    within = (placing_rest t).within;
    volume = λ j l. omega (arith, (placing_rest t).volume j l, s.volume j l, size_within (s.within j l));
  }

  pub both_bounds : (S : ℕ → ℕ → Bool) → Placing n d free v S → ((t : ℕ) → t < d → low t ≤ count n free t) → NoObstacle n d free v low high
      → (T : ℕ → ℕ → Bool) × Bounded n d free v low high T
  both_bounds S s wide o = go (hall n d free high v S s o.no_shortfall)
    where
      high' : ℕ → ℕ
      high' t = count n free t - low t

      go : (T : ℕ → ℕ → Bool) × Placing n d free v T × ((t : ℕ) → t < d → count n T t ≤ high t) × Between n d free high S T
          → (T : ℕ → ℕ → Bool) × Bounded n d free v low high T
      go (T, t, b, x) = last (hall n d free high' (rest d free v) (opposite free T) (placing_rest t)
          (λ Q. omega (arith, o.no_excess Q, shortfall_rest n d free v Q low wide)))
        where
          last : (U : ℕ → ℕ → Bool) × Placing n d free (rest d free v) U × ((t : ℕ) → t < d → count n U t ≤ high' t) × Between n d free high' (opposite free T) U
              → (T : ℕ → ℕ → Bool) × Bounded n d free v low high T
          last (U, u, c, y) = (
            opposite free U,
            (placing_again t u, λ w l. omega (arith, o.ordered w l, wide w l, b w l, c w l, y w l, count_rest t w l, count_rest u w l)),
          )

  -- a low is at most the number of windows that have the slot, where the slot alone needs no more than is possible in it
  low_le_width : ((Q : ℕ → Bool) → sum_on d Q low ≤ possible n d free v Q) → (t : ℕ) → t < d → low t ≤ count n free t
  low_le_width h t l =
      omega (
        arith,
        h (λ u. eqb u t),
        possible_le_width n d free v (λ u. eqb u t),
        on_single d low t l,
        on_single d (count n free) t l,
      )

  -- document 000, lemma 12, with the condition that it leaves unsaid
  pub bounded_iff : ((T : ℕ → ℕ → Bool) × Bounded n d free v low high T) ↔ NoObstacle n d free v low high
  bounded_iff = (
    λ w. record {
      ordered = λ t l. omega (arith, w.1.1 t l);
      no_shortfall = λ Q. forced_le_capacity w.1.0 Q (λ t l. (w.1.1 t l).1);
      no_excess = λ Q. low_le_possible w.1.0 Q (λ t l. (w.1.1 t l).0);
    },
    λ o. both_bounds (earliest free v)
        (earliest_placing (fits_of_forced_none n d free v (omega (arith, o.no_shortfall (λ t. false), on_none d high))))
        (low_le_width o.no_excess) o,
  )
