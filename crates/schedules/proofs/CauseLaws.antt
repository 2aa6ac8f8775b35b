-- What a cause says. Where no sound placing exists one of the three applies, and where one exists none does; bounds
-- made tighter by their highs alone have cause 3 or 1, by their lows alone 3 or 2. Assumes nothing.
use Rattle.std.specs.Prelude.{◌≡◌, ◌⊎◌, Bool, cond, ◌||◌, List, [], ◌∷◌, ℕ, zero, suc, ◌-◌, ◌≤◌, ◌<◌, eqb, get_or, pos, negsuc, ◌≤ℤ◌}
use Rattle.std.proofs.Math.Path.{refl, subst}
use Rattle.std.proofs.Common.{sym, ap, ◌∙◌, inl, inr, arith}
use Rattle.std.proofs.Math.Bool.{true, false}
use Rattle.std.proofs.lemmas.Bool.{false≢true}
use Rattle.std.proofs.Math.Nat.{suc_inj}
use Rattle.std.proofs.Math.Decide.{ℕ_discrete}
use Rattle.std.proofs.Math.Dec.{ltb}
use Rattle.std.proofs.Math.ListN.{length, replicate, length-replicate}
use Rattle.std.proofs.Math.IntN.{sub_ℕ}
use Rattle.std.specs.Int.Signed.{lt_z}
use borrow.Author.Tests.{ltb-true, ltb-false, lt-ltb, le-ltb, eq-eqb, ne_eqb}
use Rattle.common.specs.Lists.{any, zip_with}
use Rattle.common.specs.Tests.{or_false, false_of_not_true}
use Rattle.theory.specs.SumsOver as S
use Rattle.theory.specs.SumsOver.{sum_on, on_cong}
use Rattle.theory.specs.Placing as F
use Rattle.theory.proofs.Volumes.{possible_cong}
use Rattle.theory.proofs.Excess as E
use Rattle.theory.proofs.Excess.{CriticalExcess, excess_meet}
use Rattle.schedules.specs.Slots.{Slots, has, sum_over, subsets}
use Rattle.schedules.specs.Schedules.{Demand, Windows, AtMost, volume_of, feasible}
use Rattle.schedules.specs.Shortfall.{forced, capacity, shortfall, possible, excess, NoObstacle, critical_set}
use Rattle.schedules.specs.Causes.{excess_set, some_above, crossed, lowest, Obstacle, obstacle, IsCause}
use Rattle.schedules.proofs.ListLaws.{in_any, to_any}
use Rattle.schedules.specs.Tabulate.{tab, length_zip_with}
use Rattle.schedules.proofs.Differences.{sub_le_zero}
use Rattle.schedules.proofs.EnumerationLaws.{subsets_mem}
use Rattle.schedules.specs.AsFunctions.{free, bound}
use Rattle.schedules.proofs.AsFunctions.{possible_as, sum_over_as}
use Rattle.schedules.proofs.FeasibleLaws.{feasible_sound, sound_feasible, sound_no_obstacle, no_obstacle_sound}
use Rattle.schedules.proofs.GreatestLaws.{Greatest}
use Rattle.schedules.proofs.LeastSetLaws.{AsFunction, length_least, least_greatest, value_le_least, value_within, least_as}
use Rattle.schedules.proofs.CriticalLaws.{length_critical_set, critical_top, shortfall_le_critical, critical_within}

-- The set of greatest excess --------------------------------------------------

module _ {slots : ℕ} {ds : List Demand} (w : Windows slots ds) (low : List ℕ) (l : length low ≡ slots) where
  lows : AsFunction slots (sum_over low) (λ Q. sum_on slots Q (bound low))
  lows = record { is = λ q e. sum_over_as low q l e; cong = λ A B h. on_cong {A = A} {B = B} {x = bound low} {y = bound low} h (λ t m. refl) }

  volumes : AsFunction slots (possible ds) (F.possible (length ds) slots (free ds) (volume_of ds))
  volumes = record { is = λ q e. possible_as w q e; cong = λ A B h. possible_cong (length ds) slots (free ds) (volume_of ds) {A = A} {B = B} h }

  meets : (A B : ℕ → Bool) → E.GreatestExcess (length ds) slots (free ds) (volume_of ds) (bound low) A
      → E.GreatestExcess (length ds) slots (free ds) (volume_of ds) (bound low) B
      → E.GreatestExcess (length ds) slots (free ds) (volume_of ds) (bound low) (S.meet A B)
  meets = excess_meet (length ds) slots (free ds) (volume_of ds) (bound low)

  length_excess_set : length (excess_set slots ds low) ≡ slots
  unfolding excess_set excess
  length_excess_set = length_least lows volumes meets

  excess_top : Greatest slots (sum_over low) (possible ds) (excess_set slots ds low)
  unfolding excess_set excess
  excess_top = least_greatest lows volumes meets

  -- no set has a greater excess
  excess_le_set : (q : Slots) → length q ≡ slots → excess ds low q ≤ℤ excess ds low (excess_set slots ds low)
  unfolding excess_set excess
  excess_le_set = value_le_least lows volumes meets

  -- and one that has as much contains it
  excess_within : (q : Slots) → length q ≡ slots → excess ds low (excess_set slots ds low) ≤ℤ excess ds low q
      → (t : ℕ) → has (excess_set slots ds low) t ≡ true → has q t ≡ true
  unfolding excess_set excess
  excess_within = value_within lows volumes meets

  -- there is one such set only
  pub excess_as : {R : ℕ → Bool} → CriticalExcess (length ds) slots (free ds) (volume_of ds) (bound low) R → excess_set slots ds low ≡ tab slots R
  unfolding excess_set excess
  excess_as c = least_as lows volumes meets c.least_set

-- Some value above zero -------------------------------------------------------

above_zero : (a b : ℕ) → lt_z (pos 0) (sub_ℕ a b) ≡ ltb b a
above_zero a b = go (ltb a b) refl
  where
    go : (x : Bool) → ltb a b ≡ x → lt_z (pos 0) (cond x (negsuc (b - suc a)) (pos (a - b))) ≡ ltb b a
    go true e = sym (le-ltb b a (omega (arith, ltb-true a b e)))
    go false e = at (ltb b a) refl
      where
        at : (y : Bool) → ltb b a ≡ y → ltb 0 (a - b) ≡ y
        at true q = lt-ltb 0 (a - b) (omega (arith, ltb-true b a q))
        at false q = le-ltb 0 (a - b) (omega (arith, ltb-false b a q))

module _ (slots : ℕ) (f g : Slots → ℕ) where
  abbrev above : Bool
  above = some_above slots (λ q. sub_ℕ (f q) (g q))

  none_above : above ≡ false → (q : Slots) → length q ≡ slots → sub_ℕ (f q) (g q) ≤ℤ pos 0
  unfolding some_above
  none_above e q l = (sub_le_zero (f q) (g q)).1 (go (ltb (g q) (f q)) refl)
    where
      go : (x : Bool) → ltb (g q) (f q) ≡ x → f q ≤ g q
      go false h = ltb-false (g q) (f q) h
      go true h = absurd (false≢true (sym e ∙ to_any (λ q. lt_z (pos 0) (sub_ℕ (f q) (g q))) ((subsets_mem slots q).1 l) (above_zero (f q) (g q) ∙ h)))

  -- a set that has one
  some_above_lem : above ≡ true → (q : Slots) × (length q ≡ slots) × (g q < f q)
  unfolding some_above
  some_above_lem e =
      let r = in_any (λ q. lt_z (pos 0) (sub_ℕ (f q) (g q))) (subsets slots) e in
      (r.0, (subsets_mem slots r.0).0 r.1, ltb-true (g r.0) (f r.0) (sym (above_zero (f r.0) (g r.0)) ∙ r.2))

  above_none : ((q : Slots) → length q ≡ slots → sub_ℕ (f q) (g q) ≤ℤ pos 0) → above ≡ false
  above_none h =
      false_of_not_true above (λ e. let r = some_above_lem e in omega (arith, (sub_le_zero (f r.0) (g r.0)).0 (h r.0 r.1), r.2))

  -- a set of greatest value has one, if any has
  top_above : above ≡ true → (q : Slots) → Greatest slots f g q → g q < f q
  top_above e q h = let r = some_above_lem e in omega (arith, h r.0 r.1, r.2)

-- A low above a high ----------------------------------------------------------

none_crossed : (low high : List ℕ) {slots : ℕ} → length low ≡ slots → length high ≡ slots → any (λ b. b) (crossed low high) ≡ false → AtMost slots low high
unfolding crossed
none_crossed [] high p q e t l = omega arith
none_crossed (x ∷ low) [] p q e t l = absurd (omega arith)
none_crossed (x ∷ low) (y ∷ high) p q e zero l = ltb-false y x (or_false (ltb y x) _ e).0
none_crossed (x ∷ low) (y ∷ high) {slots = zero} p q e (suc t) l = absurd (omega arith)
none_crossed (x ∷ low) (y ∷ high) {slots = suc slots} p q e (suc t) l =
    none_crossed low high (suc_inj p) (suc_inj q) (or_false (ltb y x) _ e).1 t (omega arith)

crossed_none : (low high : List ℕ) {slots : ℕ} → length low ≡ slots → length high ≡ slots → AtMost slots low high → any (λ b. b) (crossed low high) ≡ false
unfolding crossed
crossed_none [] high p q h = refl
crossed_none (x ∷ low) [] p q h = refl
crossed_none (x ∷ low) (y ∷ high) {slots = zero} p q h = absurd (omega arith)
crossed_none (x ∷ low) (y ∷ high) {slots = suc slots} p q h =
    rw (le-ltb y x (h zero (omega arith)), crossed_none low high (suc_inj p) (suc_inj q) (λ t l. h (suc t) (omega arith)))

length_crossed : (low high : List ℕ) {slots : ℕ} → length low ≡ slots → length high ≡ slots → length (crossed low high) ≡ slots
unfolding crossed
length_crossed low high = length_zip_with (λ l h. ltb h l) low high

length_lowest : (q : Slots) → length (lowest q) ≡ length q
unfolding lowest
length_lowest [] = refl
length_lowest (true ∷ q) = ap suc (length-replicate (length q) false)
length_lowest (false ∷ q) = ap suc (length_lowest q)

-- slot t + 1 alone, as a list
eqb_suc : (u t : ℕ) → eqb (suc u) (suc t) ≡ eqb u t
eqb_suc u t = go (ℕ_discrete u t)
  where
    go : Dec (u ≡ t) → eqb (suc u) (suc t) ≡ eqb u t
    go (yes e) = eq-eqb (suc u) (suc t) (ap suc e) ∙ sym (eq-eqb u t e)
    go (no n) = ne_eqb (suc u) (suc t) (λ e. n (suc_inj e)) ∙ sym (ne_eqb u t n)

pub tab_cong : (d : ℕ) (f g : ℕ → Bool) → ((t : ℕ) → t < d → f t ≡ g t) → tab d f ≡ tab d g
tab_cong zero f g h = refl
tab_cong (suc d) f g h = rw (h zero (omega arith), tab_cong d (λ t. f (suc t)) (λ t. g (suc t)) (λ t l. h (suc t) (omega arith)))

tab_false : (d : ℕ) (f : ℕ → Bool) → ((t : ℕ) → f t ≡ false) → replicate d false ≡ tab d f
tab_false zero f h = refl
tab_false (suc d) f h = rw (h zero, tab_false d (λ t. f (suc t)) (λ t. h (suc t)))

-- the lowest slot with a low above its high
pub crossed_lowest : (low high : List ℕ) {slots : ℕ} → length low ≡ slots → length high ≡ slots → (t : ℕ) → t < slots → get_or high t 0 < get_or low t 0
    → ((u : ℕ) → u < t → get_or low u 0 ≤ get_or high u 0)
    → (any (λ b. b) (crossed low high) ≡ true) × (lowest (crossed low high) ≡ tab slots (λ u. eqb u t))
unfolding crossed lowest
crossed_lowest [] high p q t l k o = absurd (omega arith)
crossed_lowest (x ∷ low) [] p q t l k o = absurd (omega arith)
crossed_lowest (x ∷ low) (y ∷ high) {slots = zero} p q t l k o = absurd (omega arith)
crossed_lowest (x ∷ low) (y ∷ high) {slots = suc slots} p q zero l k o =
    let n : length (zip_with (λ l h. ltb h l) low high) ≡ slots = length_zip_with (λ l h. ltb h l) low high (suc_inj p) (suc_inj q) in
    let e = tab_false slots (λ u. eqb (suc u) 0) (λ u. ne_eqb (suc u) 0 (λ i. omega arith)) in
    rw (lt-ltb y x k) (refl, rw (eq-eqb 0 0 refl, n, e))
crossed_lowest (x ∷ low) (y ∷ high) {slots = suc slots} p q (suc t) l k o =
    let r = crossed_lowest low high (suc_inj p) (suc_inj q) t (omega arith) k (λ u m. o (suc u) (omega arith)) in
    let e = tab_cong slots (λ u. eqb (suc u) (suc t)) (λ u. eqb u t) (λ u m. eqb_suc u t) in
    rw (le-ltb y x (o zero (omega arith))) (r.0, rw (ne_eqb 0 (suc t) (λ i. omega arith), e, r.1))

-- there is one, where any low is above its high
lowest_crossed : (low high : List ℕ) {slots : ℕ} → length low ≡ slots → length high ≡ slots → any (λ b. b) (crossed low high) ≡ true
    → (t : ℕ) × (t < slots) × (get_or high t 0 < get_or low t 0) × ((u : ℕ) → u < t → get_or low u 0 ≤ get_or high u 0)
unfolding crossed
lowest_crossed [] high p q e = absurd (false≢true e)
lowest_crossed (x ∷ low) [] p q e = absurd (false≢true e)
lowest_crossed (x ∷ low) (y ∷ high) {slots = zero} p q e = absurd (omega arith)
lowest_crossed (x ∷ low) (y ∷ high) {slots = suc slots} p q e = go (ltb y x) refl e (lowest_crossed low high (suc_inj p) (suc_inj q))
  where
    go : (b : Bool) → ltb y x ≡ b → (b || any (λ b. b) (zip_with (λ l h. ltb h l) low high)) ≡ true
        → (any (λ b. b) (zip_with (λ l h. ltb h l) low high) ≡ true
        → (t : ℕ) × (t < slots) × (get_or high t 0 < get_or low t 0) × ((u : ℕ) → u < t → get_or low u 0 ≤ get_or high u 0))
        → (t : ℕ) × (t < suc slots) × (get_or (y ∷ high) t 0 < get_or (x ∷ low) t 0) × ((u : ℕ) → u < t → get_or (x ∷ low) u 0 ≤ get_or (y ∷ high) u 0)
    go true h i ih = (zero, omega arith, ltb-true y x h, λ u l. absurd (omega arith))
    go false h i ih = later (ih i)
      where
        later : (t : ℕ) × (t < slots) × (get_or high t 0 < get_or low t 0) × ((u : ℕ) → u < t → get_or low u 0 ≤ get_or high u 0)
            → (t : ℕ) × (t < suc slots) × (get_or (y ∷ high) t 0 < get_or (x ∷ low) t 0) × ((u : ℕ) → u < t → get_or (x ∷ low) u 0 ≤ get_or (y ∷ high) u 0)
        later (t, l, k, o) = (suc t, omega arith, k, below)
          where
            below : (u : ℕ) → u < suc t → get_or (x ∷ low) u 0 ≤ get_or (y ∷ high) u 0
            below zero m = ltb-false y x h
            below (suc u) m = o u (omega arith)

-- One of the three applies ----------------------------------------------------

module _ (slots : ℕ) (ds : List Demand) (low high : List ℕ) where
  pub obstacle_crossed : any (λ b. b) (crossed low high) ≡ true → obstacle slots ds low high ≡ record { number = 3; set = lowest (crossed low high) }
  unfolding obstacle
  obstacle_crossed a = rw a

  module _ (a : any (λ b. b) (crossed low high) ≡ false) where
    obstacle_shortfall : some_above slots (shortfall ds high) ≡ true → obstacle slots ds low high ≡ record { number = 1; set = critical_set slots ds high }
    unfolding obstacle
    obstacle_shortfall b = rw (a, b)

    module _ (b : some_above slots (shortfall ds high) ≡ false) where
      obstacle_excess : some_above slots (excess ds low) ≡ true → obstacle slots ds low high ≡ record { number = 2; set = excess_set slots ds low }
      unfolding obstacle
      obstacle_excess c = rw (a, b, c)

      obstacle_none : some_above slots (excess ds low) ≡ false → obstacle slots ds low high ≡ record { number = 0; set = replicate slots false }
      unfolding obstacle
      obstacle_none c = rw (a, b, c)

module _ {slots : ℕ} {ds : List Demand} (w : Windows slots ds) (low high : List ℕ) (l : length low ≡ slots) (h : length high ≡ slots) where
  -- a sound placing exists where none applies
  none_feasible : any (λ b. b) (crossed low high) ≡ false → some_above slots (shortfall ds high) ≡ false → some_above slots (excess ds low) ≡ false
      → feasible slots ds low high ≡ true
  unfolding shortfall excess
  none_feasible a b c =
      let o : NoObstacle slots ds low high =
      record {
        ordered = none_crossed low high l h a;
        no_shortfall = none_above slots (forced ds) (capacity high) b;
        no_excess = none_above slots (sum_over low) (possible ds) c;
      } in
      sound_feasible w l h (no_obstacle_sound w l h o).1

  -- and none applies where one exists
  module _ (e : feasible slots ds low high ≡ true) where
    obstacles : NoObstacle slots ds low high
    obstacles = sound_no_obstacle w l h (feasible_sound w l h e).1

    pub feasible_ordered : AtMost slots low high
    unfolding obstacles
    feasible_ordered = obstacles.ordered

    no_shortfall : some_above slots (shortfall ds high) ≡ false
    unfolding shortfall obstacles
    no_shortfall = above_none slots (forced ds) (capacity high) obstacles.no_shortfall

    no_excess : some_above slots (excess ds low) ≡ false
    unfolding excess obstacles
    no_excess = above_none slots (sum_over low) (possible ds) obstacles.no_excess

    pub no_cause : (obstacle slots ds low high).number ≡ 0
    no_cause = ap (λ r. r.number) (obstacle_none slots ds low high (crossed_none low high l h feasible_ordered) no_shortfall no_excess)

-- What the causes are -----------------------------------------------------------

module _ {slots : ℕ} {ds : List Demand} (w : Windows slots ds) (low high : List ℕ) (l : length low ≡ slots) (h : length high ≡ slots) where
  -- where no sound placing exists one of the three applies, and it is the one that is given
  pub is_cause : feasible slots ds low high ≡ false → IsCause slots ds low high (obstacle slots ds low high)
  unfolding shortfall excess
  is_cause e = go (any (λ b. b) (crossed low high)) (some_above slots (shortfall ds high)) (some_above slots (excess ds low)) refl refl refl
    where
      is : {o : Obstacle} → obstacle slots ds low high ≡ o → IsCause slots ds low high o → IsCause slots ds low high (obstacle slots ds low high)
      is q = subst (IsCause slots ds low high) (sym q)

      go : (a b c : Bool) → any (λ b. b) (crossed low high) ≡ a → some_above slots (shortfall ds high) ≡ b → some_above slots (excess ds low) ≡ c
          → IsCause slots ds low high (obstacle slots ds low high)
      go true b c x y z =
          let (t, m, k, o) = lowest_crossed low high l h x in
          is (obstacle_crossed slots ds low high x)
          (inl (refl, record { t = t; in_day = m; above = k; lowest_such = o; alone = (crossed_lowest low high l h t m k o).1 }))
      go false true c x y z =
          is (obstacle_shortfall slots ds low high x y)
          (inr (inl (
            refl,
            record {
              ordered = none_crossed low high l h x;
              above = top_above slots (forced ds) (capacity high) y (critical_set slots ds high) (critical_top w high h);
              at_most = shortfall_le_critical w high h;
              holds_all = critical_within w high h;
            },
          )))
      go false false true x y z =
          is (obstacle_excess slots ds low high x y z)
          (inr (inr (
            refl,
            record {
              ordered = none_crossed low high l h x;
              no_shortfall = none_above slots (forced ds) (capacity high) y;
              above = top_above slots (sum_over low) (possible ds) z (excess_set slots ds low) (excess_top w low l);
              at_most = excess_le_set w low l;
              holds_all = excess_within w low l;
            },
          )))
      go false false false x y z = absurd (false≢true (sym e ∙ none_feasible w low high l h x y z))

  -- its slots are among the day's
  pub length_obstacle : length (obstacle slots ds low high).set ≡ slots
  unfolding obstacle
  length_obstacle = go (any (λ b. b) (crossed low high)) (some_above slots (shortfall ds high)) (some_above slots (excess ds low))
    where
      go : (a b c : Bool) → length
          (cond {A = Obstacle} a (record { number = 3; set = lowest (crossed low high) })
          (cond b (record { number = 1; set = critical_set slots ds high })
          (cond c (record { number = 2; set = excess_set slots ds low })
          (record { number = 0; set = replicate slots false })))).set ≡ slots
      go true b c = length_lowest (crossed low high) ∙ length_crossed low high l h
      go false true c = length_critical_set w high h
      go false false true = length_excess_set w low l
      go false false false = length-replicate slots false

-- One bound tightened ---------------------------------------------------------

module _ {slots : ℕ} {ds : List Demand} (w : Windows slots ds) (low high : List ℕ) (l : length low ≡ slots) (h : length high ≡ slots)
    (before : feasible slots ds low high ≡ true) where
  -- highs made lower, with no low above a high: the cause is a shortfall
  module _ (high' : List ℕ) (h' : length high' ≡ slots) (after : feasible slots ds low high' ≡ false) where
    pub shortfall_obstacle : AtMost slots low high' → obstacle slots ds low high' ≡ record { number = 1; set = critical_set slots ds high' }
    shortfall_obstacle o = go (some_above slots (shortfall ds high')) refl
      where
        a : any (λ b. b) (crossed low high') ≡ false
        a = crossed_none low high' l h' o

        go : (b : Bool) → some_above slots (shortfall ds high') ≡ b → obstacle slots ds low high' ≡ record { number = 1; set = critical_set slots ds high' }
        go true b = obstacle_shortfall slots ds low high' a b
        go false b = absurd (false≢true (sym after ∙ none_feasible w low high' l h' a b (no_excess w low high l h before)))

    -- so it is 3 or 1
    pub lower_number : ((obstacle slots ds low high').number ≡ 3) ⊎ ((obstacle slots ds low high').number ≡ 1)
    lower_number = go (any (λ b. b) (crossed low high')) refl
      where
        go : (a : Bool) → any (λ b. b) (crossed low high') ≡ a → ((obstacle slots ds low high').number ≡ 3) ⊎ ((obstacle slots ds low high').number ≡ 1)
        go true a = inl (ap (λ r. r.number) (obstacle_crossed slots ds low high' a))
        go false a = inr (ap (λ r. r.number) (shortfall_obstacle (none_crossed low high' l h' a)))

  -- lows made higher, with none above a high: the cause is an excess
  module _ (low' : List ℕ) (l' : length low' ≡ slots) (after : feasible slots ds low' high ≡ false) where
    pub excess_obstacle : AtMost slots low' high → obstacle slots ds low' high ≡ record { number = 2; set = excess_set slots ds low' }
    excess_obstacle o = go (some_above slots (excess ds low')) refl
      where
        a : any (λ b. b) (crossed low' high) ≡ false
        a = crossed_none low' high l' h o

        b : some_above slots (shortfall ds high) ≡ false
        b = no_shortfall w low high l h before

        go : (c : Bool) → some_above slots (excess ds low') ≡ c → obstacle slots ds low' high ≡ record { number = 2; set = excess_set slots ds low' }
        go true c = obstacle_excess slots ds low' high a b c
        go false c = absurd (false≢true (sym after ∙ none_feasible w low' high l' h a b c))

    -- so it is 3 or 2
    pub higher_number : ((obstacle slots ds low' high).number ≡ 3) ⊎ ((obstacle slots ds low' high).number ≡ 2)
    higher_number = go (any (λ b. b) (crossed low' high)) refl
      where
        go : (a : Bool) → any (λ b. b) (crossed low' high) ≡ a → ((obstacle slots ds low' high).number ≡ 3) ⊎ ((obstacle slots ds low' high).number ≡ 2)
        go true a = inl (ap (λ r. r.number) (obstacle_crossed slots ds low' high a))
        go false a = inr (ap (λ r. r.number) (excess_obstacle (none_crossed low' high l' h a)))
