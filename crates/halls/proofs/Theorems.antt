-- What holds of halls behind one mains fuse (request 108): each is planned under what the earlier ones leave, all
-- together stay within the limit, a later hall changes nothing for an earlier one, a refused one nothing for a later
-- one, and one hall that the limit does not bind is planned as it is alone. Assumes nothing.
use Rattle.std.specs.Prelude.{◌≡◌, refl, Bool, true, false, ◌||◌, cond, ℕ, zero, suc, ◌≤◌, ◌<◌, eqb, length, take, drop}
use Rattle.std.proofs.Common.{sym, ◌∙◌, arith, eq-eqb, ne_eqb}
use Rattle.std.proofs.Math.Path.{ap}
use mathlib.Core.List.{List, [], ◌∷◌, ◌++◌, map, cons≢nil}
use Rattle.std.proofs.Math.ListN.{get_or}
use Rattle.common.specs.Lists.{first_or}
use Rattle.common.specs.FillLaws.{get_d_zeros}
use Rattle.checks.specs.Limits.{max_slots}
use Rattle.checks.specs.Sheet.{sheet_of}
use Rattle.checks.specs.Checks.{first_refusal, faults}
use Rattle.planning.specs.Problem.{whole_day, alone, listing_of, words_for}
use Rattle.planning.specs.Planning.{plan_checks, plan_refusal, short_plan, short_placing, listed_answer, listing_after, placing_after}
use Rattle.halls.specs.Halls.{Hall, HallOutcome, no_hall, max_limit, hall_problem, short_hall, hall_refusal, used_after, hall_outcome, none_used, halls_in_order, used_by_all, used_before, halls_refusal, not_planned, outcomes, outcome_of}
use Rattle.halls.specs.Clauses.{Used}
use Rattle.halls.proofs.HallLaws.{hall_high_full, length_used, refused_leaves, used_next, length_none, none_used_lem}

-- of the halls lent, the first n are there
abbrev first_of : (limit : ℕ) (used : List ℕ) (n : ℕ) → List Hall → List HallOutcome
first_of limit used n hs = halls_in_order limit used (take n hs) ++ map not_planned (drop n hs)

-- Each hall -------------------------------------------------------------------------------

first_there : (limit : ℕ) (used : List ℕ) (n : ℕ) (hs : List Hall) (i : ℕ) → i < n → i < length hs
    → get_or (first_of limit used n hs) i (not_planned no_hall) ≡ hall_outcome limit (used_by_all limit used (take i hs)) (get_or hs i no_hall)
unfolding halls_in_order used_by_all
first_there limit used zero hs i l k = absurd (omega arith)
first_there limit used (suc n) [] i l k = absurd (omega arith)
first_there limit used (suc n) (h ∷ hs) zero l k = refl
first_there limit used (suc n) (h ∷ hs) (suc i) l k = first_there limit (used_after limit used h) n hs i (omega arith) (omega arith)

first_none : (limit : ℕ) (used : List ℕ) (n : ℕ) (hs : List Hall) (i : ℕ) → n ≤ i
    → get_or (first_of limit used n hs) i (not_planned no_hall) ≡ not_planned (get_or hs i no_hall)
unfolding halls_in_order
first_none limit used zero [] i l = refl
first_none limit used zero (h ∷ hs) zero l = refl
first_none limit used zero (h ∷ hs) (suc i) l = first_none limit used zero hs i (omega arith)
first_none limit used (suc n) [] i l = refl
first_none limit used (suc n) (h ∷ hs) zero l = absurd (omega arith)
first_none limit used (suc n) (h ∷ hs) (suc i) l = first_none limit (used_after limit used h) n hs i (omega arith)

-- what the halls before the next hall use
pub used_before_next : (limit : ℕ) (hs : List Hall) (used : List ℕ) (i : ℕ) → i < length hs
    → used_by_all limit used (take (suc i) hs) ≡ used_after limit (used_by_all limit used (take i hs)) (get_or hs i no_hall)
unfolding used_by_all
used_before_next limit [] used i l = absurd (omega arith)
used_before_next limit (h ∷ hs) used zero l = refl
used_before_next limit (h ∷ hs) used (suc i) l = used_before_next limit hs (used_after limit used h) i (omega arith)

module _ (limit halls : ℕ) where
  -- with number 0 the halls that are there are planned
  accepted_halls : (halls_refusal limit halls).number ≡ 0 → (hs : List Hall) → outcomes limit halls hs ≡ first_of limit none_used halls hs
  unfolding outcomes
  accepted_halls z hs = rw (eq-eqb (halls_refusal limit halls).number 0 z)

  -- a hall that is there is planned under what the halls before it use ..
  pub hall_there : (halls_refusal limit halls).number ≡ 0 → (hs : List Hall) (i : ℕ) → i < halls → i < length hs
      → outcome_of limit halls hs i ≡ hall_outcome limit (used_before limit hs i) (get_or hs i no_hall)
  unfolding outcome_of
  hall_there z hs i l k = ap (λ os. get_or os i (not_planned no_hall)) (accepted_halls z hs) ∙ first_there limit none_used halls hs i l k

  -- .. and one that is not there is left as it was
  pub hall_none : (halls_refusal limit halls).number ≡ 0 → (hs : List Hall) (i : ℕ) → halls ≤ i → outcome_of limit halls hs i ≡ not_planned (get_or hs i no_hall)
  unfolding outcome_of
  hall_none z hs i l = ap (λ os. get_or os i (not_planned no_hall)) (accepted_halls z hs) ∙ first_none limit none_used halls hs i l

  -- with 14 every hall is
  pub hall_refused : ((halls_refusal limit halls).number ≡ 0 → ⊥) → (hs : List Hall) (i : ℕ) → outcome_of limit halls hs i ≡ not_planned (get_or hs i no_hall)
  unfolding outcome_of outcomes halls_in_order
  hall_refused n hs i = rw (ne_eqb (halls_refusal limit halls).number 0 n) (first_none limit none_used 0 hs i (omega arith))

-- The limit ----------------------------------------------------------------------------------

used_all : (limit : ℕ) (hs : List Hall) (used : List ℕ) → Used limit used → Used limit (used_by_all limit used hs)
unfolding used_by_all
used_all limit [] used u = u
used_all limit (h ∷ hs) used u = used_all limit hs (used_after limit used h) (used_next limit used h u)

-- what the halls before one use
pub used_before_lem : (limit : ℕ) → limit ≤ max_limit → (hs : List Hall) (i : ℕ) → Used limit (used_before limit hs i)
used_before_lem limit l hs i = used_all limit (take i hs) none_used (none_used_lem limit l)

-- In each slot, what all halls use together is at most the limit.
pub halls_within_limit : (limit : ℕ) → limit ≤ max_limit → (hs : List Hall) (t : ℕ) → t < max_slots → get_or (used_by_all limit none_used hs) t 0 ≤ limit
halls_within_limit limit l hs = (used_all limit hs none_used (none_used_lem limit l)).within

-- Earlier and later halls ----------------------------------------------------------------------

first_earlier : (limit : ℕ) (used : List ℕ) (n : ℕ) (hs ks : List Hall) (i : ℕ) (z : HallOutcome) → take (suc i) hs ≡ take (suc i) ks
    → get_or (first_of limit used n hs) i z ≡ get_or (first_of limit used n ks) i z
unfolding halls_in_order
first_earlier limit used n [] [] i z e = refl
first_earlier limit used n [] (k ∷ ks) i z e = absurd (cons≢nil (sym e))
first_earlier limit used n (h ∷ hs) [] i z e = absurd (cons≢nil e)
first_earlier limit used zero (h ∷ hs) (k ∷ ks) zero z e = ap not_planned (ap (first_or no_hall) e)
first_earlier limit used zero (h ∷ hs) (k ∷ ks) (suc i) z e = first_earlier limit used zero hs ks i z (ap (drop 1) e)
first_earlier limit used (suc n) (h ∷ hs) (k ∷ ks) zero z e = ap (hall_outcome limit used) (ap (first_or no_hall) e)
first_earlier limit used (suc n) (h ∷ hs) (k ∷ ks) (suc i) z e =
    first_earlier limit (used_after limit used h) n hs ks i z (ap (drop 1) e)
    ∙ ap (λ x. get_or (first_of limit (used_after limit used x) n ks) i z) (ap (first_or no_hall) e)

-- What is answered for a hall, and left in its buffers, depends on it and the halls before it alone.
pub earlier_halls : (limit halls : ℕ) (hs ks : List Hall) (i : ℕ) → take (suc i) hs ≡ take (suc i) ks → outcome_of limit halls hs i ≡ outcome_of limit halls ks i
unfolding outcome_of outcomes halls_in_order
earlier_halls limit halls hs ks i e = go (eqb (halls_refusal limit halls).number 0)
  where
    go : (t : Bool) → get_or (cond t (first_of limit none_used halls hs) (map not_planned hs)) i (not_planned no_hall)
        ≡ get_or (cond t (first_of limit none_used halls ks) (map not_planned ks)) i (not_planned no_hall)
    go true = first_earlier limit none_used halls hs ks i (not_planned no_hall) e
    go false = first_earlier limit none_used 0 hs ks i (not_planned no_hall) e

-- A refused hall ------------------------------------------------------------------------------

first_without : (limit : ℕ) (used : List ℕ) → length used ≡ max_slots → (n : ℕ) (xs : List Hall) (h : Hall) (ys : List Hall) → length xs ≤ n
    → ((hall_refusal limit (used_by_all limit used xs) h).number ≡ 0 → ⊥) → (j : ℕ) (z : HallOutcome) → length xs ≤ j
    → get_or (first_of limit used (suc n) (xs ++ (h ∷ ys))) (suc j) z ≡ get_or (first_of limit used n (xs ++ ys)) j z
unfolding halls_in_order used_by_all
first_without limit used long n [] h ys l refused j z k =
    ap (λ u. get_or (first_of limit u n ys) j z) (refused_leaves limit used h long refused)
first_without limit used long zero (x ∷ xs) h ys l refused j z k = absurd (omega arith)
first_without limit used long (suc n) (x ∷ xs) h ys l refused zero z k = absurd (omega arith)
first_without limit used long (suc n) (x ∷ xs) h ys l refused (suc j) z k =
    first_without limit (used_after limit used x) (length_used limit used x long) n xs h ys (omega arith) refused j z (omega arith)

-- A hall that is refused, by whatever number, leaves the halls after it as if it were not there.
pub without_refused : (limit n : ℕ) → (halls_refusal limit n).number ≡ 0 → (halls_refusal limit (suc n)).number ≡ 0
    → (xs : List Hall) (h : Hall) (ys : List Hall) → length xs ≤ n → ((hall_refusal limit (used_by_all limit none_used xs) h).number ≡ 0 → ⊥)
    → (j : ℕ) → length xs ≤ j → outcome_of limit (suc n) (xs ++ (h ∷ ys)) (suc j) ≡ outcome_of limit n (xs ++ ys) j
unfolding outcome_of
without_refused limit n e f xs h ys l refused j k =
    ap (λ os. get_or os (suc j) (not_planned no_hall)) (accepted_halls limit (suc n) f (xs ++ (h ∷ ys)))
    ∙ first_without limit none_used length_none n xs h ys l refused j (not_planned no_hall) k
    ∙ ap (λ os. get_or os j (not_planned no_hall)) (sym (accepted_halls limit n e (xs ++ ys)))

-- One hall ------------------------------------------------------------------------------------

module _ (limit : ℕ) (h : Hall) (enough : (sheet_of h.bytes).blowers ≤ limit) where
  -- under a limit of at least its blowers, the first hall has the problem that its sheet has alone
  first_alone : hall_problem limit none_used h ≡ alone (sheet_of h.bytes)
  unfolding hall_problem
  first_alone =
      let s = sheet_of h.bytes in
      ap (whole_day s) (hall_high_full limit none_used s (λ t l. omega (arith, get_d_zeros max_slots t)))

  -- It is planned as it is alone, with both buffers: number, line, length and every byte and word. However many halls
  -- there are, that is so of the first one.
  pub one_hall : (halls : ℕ) → (halls_refusal limit halls).number ≡ 0 → 1 ≤ halls → (hs : List Hall)
      → let p = alone (sheet_of h.bytes) in let r = plan_refusal h.bytes (short_plan h.buffers.listing || short_placing h.buffers.placing) in
      outcome_of limit halls (h ∷ hs) 0
      ≡ record {
        answer = listed_answer r (listing_of p);
        buffers =
            record {
              listing = listing_after r (listing_of p) h.buffers.listing;
              placing = placing_after r (words_for p) h.buffers.placing;
            };
      }
  unfolding hall_outcome hall_refusal short_hall plan_refusal used_by_all
  one_hall halls z l hs =
      hall_there limit halls z (h ∷ hs) 0 (omega arith) (omega arith)
      ∙ (λ i.
      let p = first_alone i in
      let r = first_refusal (plan_checks (faults h.bytes) (short_plan h.buffers.listing || short_placing h.buffers.placing) p) in
      record {
        answer = listed_answer r (listing_of p);
        buffers =
            record {
              listing = listing_after r (listing_of p) h.buffers.listing;
              placing = placing_after r (words_for p) h.buffers.placing;
            };
      })
