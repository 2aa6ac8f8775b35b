-- What the marks of a failed search show: they are the least set of greatest shortfall, and no placing of these rations keeps within the highs.
-- Assumes nothing.
use Rattle.std.specs.Prelude.{◌≡◌, refl, Bool, true, false, List, ℕ, ◌≤◌, ◌<◌}
use Rattle.std.proofs.Common.{ap, arith}
use Rattle.std.specs.Int.Bits.{bit_and}
use Rattle.loads.specs.Theory.{one, count, Placing, no_placing_lem, certificate, no_edge_closed, reach_closed, Critical, closed_critical}
use Rattle.loads.specs.Theory as theory
use Rattle.common.specs.Bits.{bit, some_bit, both_of_and, and_of_both}
use Rattle.grid.specs.Grid.{at, Edge, Closed, Reach, here, step}
use Rattle.loads.specs.Relief.{Over, Held}
use Rattle.loads.specs.Meaning.{bit_at, seen_at, Day, Places}
use Rattle.loads.specs.MeaningLaws.{bit_bit_at, bit_at_bit, one_bit_at, one_true, seen_seen_at, seen_at_seen, count_load, bit_slot, bit_ration, loaded_slot, day_exchange, places_placing}

module _ {n d : ℕ} {free : ℕ → ℕ → Bool} {F R : List ℕ} (y : Day n d free F R) where
  -- ---- edges in words, and edges of the placing

  pub words_edge : {j a u : ℕ} → a < d → u < d → theory.Edge n free (bit_at F) j a u → Edge F R a u
  words_edge {j} {a} {u} la lu e =
      and_of_both (at F a) (at R u) j (bit_at_bit F j a e.here)
      (omega (arith, y.windows j u e.below lu, ap one e.may, one_bit_at F j u, ap one e.gap))

  pub edge_words : (a u : ℕ) → Edge F R a u → (j : ℕ) × (a < d) × (u < d) × theory.Edge n free (bit_at F) j a u
  edge_words a u e =
      let w = some_bit (bit_and (at F a) (at R u)) e in
      let j = w.0 in
      let b = both_of_and (at F a) (at R u) j w.1 in
      let lj = bit_ration y j a b.0 in
      let lu = bit_slot (day_exchange y) j u b.1 in (
        j,
        bit_slot y j a b.0,
        lu,
        record {
          below = lj;
          here = bit_bit_at F j a b.0;
          may = one_true (free j u) (omega (arith, y.windows j u lj lu));
          gap = gap j u b.1;
        },
      )
    where
      gap : (j u : ℕ) → bit (at R u) j ≡ 1 → bit_at F j u ≡ false
      gap j u r = go (bit_at F j u) (one_bit_at F j u)
        where
          go : (b : Bool) → one b ≡ bit (at F u) j → b ≡ false
          go true e = absurd (omega (arith, y.grid.disjoint u j))
          go false e = refl

  -- no edge leaves the marked slots: they are closed
  pub words_closed : (S : List ℕ) → Closed F R S → theory.Closed n d free (bit_at F) (seen_at S)
  words_closed S c =
      no_edge_closed (seen_at S) (λ j a u la lu q e. seen_seen_at S u (c a u (seen_at_seen S a q) (words_edge la lu e)))

  -- what edges in words reach
  words_reach : {From : ℕ → Type 0} {s t : ℕ} → Reach F R s t → theory.Reach n d free (bit_at F) From s → theory.Reach n d free (bit_at F) From t
  words_reach here r = r
  words_reach (step {x = x} {y = u} e q) r = let w = edge_words x u e in words_reach q (theory.step r w.1 w.3)

module _ {n d : ℕ} {free : ℕ → ℕ → Bool} {v : ℕ → ℕ} {F R H S : List ℕ} (p : Places n d free v F R) (h : Held F R H S) where
  count_over : (t : ℕ) → at H t < count n (bit_at F) t → Over F H t
  count_over t o = omega (arith, count_load p.day t)

  over_count : (t : ℕ) → Over F H t → at H t < count n (bit_at F) t
  over_count t o = omega (arith, count_load p.day t)

  held_closed : theory.Closed n d free (bit_at F) (seen_at S)
  held_closed = words_closed p.day S h.stuck.closed

  held_full : (t : ℕ) → t < d → seen_at S t ≡ true → at H t ≤ count n (bit_at F) t
  held_full t l q = omega (arith, count_load p.day t, h.stuck.full t (seen_at_seen S t q))

  -- the marked slots are the least set of greatest shortfall
  pub held_critical : Critical n d free v (at H) (seen_at S)
  held_critical =
      closed_critical (places_placing p) held_closed held_full
      (λ t l o. seen_seen_at S t (h.over t (count_over t o)))
      (λ Q c o t l q.
      let w = h.stuck.source t (seen_at_seen S t q) in
      reach_closed Q c o (words_reach p.day w.3 (theory.from (over_count w.0 w.2))) l)

  -- and so no placing of these rations keeps within the highs
  pub held_none : {P : ℕ → ℕ → Bool} → Placing n d free v P → ((t : ℕ) → t < d → count n P t ≤ at H t) → ⊥
  held_none q b =
      let o = h.some in
      let t = o.0 in
      let l = loaded_slot p.day t (omega (arith, o.1)) in
      no_placing_lem (seen_at S) (certificate (places_placing p) held_closed held_full t l (seen_seen_at S t (h.over t o.1)) (over_count t o.1)) q b
