-- `feasible` decides whether a sound placing exists; one exists exactly where no set of slots is an obstacle; looser bounds keep it.
-- Assumes nothing.
use Rattle.std.specs.Prelude.{◌≡◌, true, List, ℕ, length}
use Rattle.std.proofs.Common.{◌∙◌, arith}
use Rattle.common.specs.Tests.{and_true}
use Rattle.theory.specs.Bounds as D
use Rattle.theory.proofs.Bounds as B
use Rattle.schedules.specs.Slots.{sum_over}
use Rattle.schedules.specs.Schedules.{Demand, Schedule, load, Sound, Windows, AtMost, schedules, at_most, within, feasible, volume_of}
use Rattle.schedules.specs.Shortfall.{forced, shortfall, possible, excess, NoObstacle}
use Rattle.schedules.proofs.ListLaws.{in_any, to_any}
use Rattle.schedules.specs.Tabulate.{tab, length_tab, at_most_at, at_at_most}
use Rattle.schedules.proofs.Differences.{sub_le_zero}
use Rattle.schedules.proofs.EnumerationLaws.{Served, schedules_mem}
use Rattle.schedules.specs.AsFunctions.{Rows, free, bound}
use Rattle.schedules.proofs.AsFunctions.{length_load, forced_as, possible_as, sum_over_as, forced_tab, possible_tab, sum_over_tab, sound_bounded, bounded_sound}

module _ {slots : ℕ} {ds : List Demand} (w : Windows slots ds) where
  served_rows : {p : Schedule} → Served ds p → Rows slots p
  served_rows s j l = let k = rw s.for_each at l in (s.served j k).same_day ∙ w.all_day j k

  module _ {low high : List ℕ} (l : length low ≡ slots) (h : length high ≡ slots) where
    -- (a) the enumeration finds a sound placing exactly where there is one
    pub feasible_sound : feasible slots ds low high ≡ true → (p : Schedule) × Sound slots ds low high p
    unfolding feasible within
    feasible_sound e =
        let r = in_any (λ p. within low high (load slots p)) (schedules ds) e in
        let s = (schedules_mem ds r.0).0 r.1 in
        let b = and_true (at_most low (load slots r.0)) (at_most (load slots r.0) high) r.2 in
        let k = length_load r.0 (served_rows s) in (
          r.0,
          record {
            for_each = s.for_each;
            served = s.served;
            bounded = λ t m.
                (at_most_at low (load slots r.0) l k b.0 t m, at_most_at (load slots r.0) high k h b.1 t m);
          },
        )

    pub sound_feasible : {p : Schedule} → Sound slots ds low high p → feasible slots ds low high ≡ true
    unfolding feasible within
    sound_feasible {p} s =
        let v : Served ds p = record { for_each = s.for_each; served = s.served } in
        let k = length_load p (served_rows v) in
        to_any (λ p. within low high (load slots p)) ((schedules_mem ds p).1 v)
        (rw (at_at_most low (load slots p) l k (λ t m. (s.bounded t m).0), at_at_most (load slots p) high k h (λ t m. (s.bounded t m).1)))

    -- (b) no obstacle, as functions and as lists
    from_functions : D.NoObstacle (length ds) slots (free ds) (volume_of ds) (bound low) (bound high) → NoObstacle slots ds low high
    unfolding shortfall excess
    from_functions o = record {
      ordered = o.ordered;
      no_shortfall = λ q e. (sub_le_zero (forced ds q) (sum_over high q)).1 (rw (forced_as w q e, sum_over_as high q h e) (o.no_shortfall _));
      no_excess = λ q e. (sub_le_zero (sum_over low q) (possible ds q)).1 (rw (possible_as w q e, sum_over_as low q l e) (o.no_excess _));
    }

    to_functions : NoObstacle slots ds low high → D.NoObstacle (length ds) slots (free ds) (volume_of ds) (bound low) (bound high)
    unfolding shortfall excess
    to_functions o = record {
      ordered = o.ordered;
      no_shortfall = λ Q.
          rw (forced_tab w Q, sum_over_tab high h Q) at
          ((sub_le_zero (forced ds (tab slots Q)) (sum_over high (tab slots Q))).0 (o.no_shortfall (tab slots Q) (length_tab slots Q)));
      no_excess = λ Q.
          rw (possible_tab w Q, sum_over_tab low l Q) at
          ((sub_le_zero (sum_over low (tab slots Q)) (possible ds (tab slots Q))).0 (o.no_excess (tab slots Q) (length_tab slots Q)));
    }

    pub sound_no_obstacle : {p : Schedule} → Sound slots ds low high p → NoObstacle slots ds low high
    sound_no_obstacle s =
        from_functions ((B.bounded_iff (length ds) slots (free ds) (volume_of ds) (bound low) (bound high)).0 (_, sound_bounded w s))

    pub no_obstacle_sound : NoObstacle slots ds low high → (p : Schedule) × Sound slots ds low high p
    no_obstacle_sound o =
        let r = (B.bounded_iff (length ds) slots (free ds) (volume_of ds) (bound low) (bound high)).1 (to_functions o) in
        (_, bounded_sound w r.0 r.1)

  -- (d) what is sound stays sound where a low falls or a high rises
  pub sound_looser : {low high low' high' : List ℕ} {p : Schedule} → AtMost slots low' low → AtMost slots high high'
      → Sound slots ds low high p → Sound slots ds low' high' p
  sound_looser a b s = record {
    for_each = s.for_each;
    served = s.served;
    bounded = λ t m. omega (arith, a t m, b t m, s.bounded t m);
  }
