-- Why the call that plans halls gives what the demands ask, from the theorems of `halls` and the laws of one problem.
-- Assumes nothing.
use Rattle.std.specs.Prelude.{◌≡◌, ◌⊎◌, Bool, true, false, ◌||◌, cond, eqb, take, replicate}
use Rattle.std.proofs.Math.Path.{refl, sym, ap}
use Rattle.std.proofs.Common.{◌∙◌, subst, inl, inr, eqb-true}
use mathlib.Core.List.{List, [], ◌∷◌, ◌++◌, append_assoc}
use Prim.Native.Nat.{ℕ, zero, suc, ◌+◌, ◌≤◌, ◌<◌}
use Rattle.std.proofs.Math.Decide.{ℕ_discrete, dec_lt}
use native.Mathlib.Omega.{arith}
use Rattle.std.proofs.Math.ListN.{length, get_or, length-append, get_or-eq_default}
use Rattle.std.proofs.Math.Seq.{take-append_seam, get_or-append-add}
use Rattle.std.proofs.lemmas.List.{take-append-le}
use Rattle.common.specs.Buffers.{padded}
use Rattle.common.specs.FillLaws.{get_d_zeros, get_d_padded, padded_past}
use Rattle.checks.specs.Limits.{max_slots}
use Rattle.checks.specs.Sheet.{Sheet, sheet_of}
use Rattle.checks.specs.Checks.{faults}
use Rattle.sheet.proofs.OwnCheckLaws.{bytes_checked}
use Rattle.theory.specs.Sums.{sum}
use Rattle.schedules.specs.Schedules.{load}
use Rattle.plan_lines.specs.Sizes.{plan_bytes, placing_words}
use Rattle.planning.specs.declared.Planned.{Planned}
use Rattle.planning.specs.Problem.{Problem, alone, ProblemInRange, can_be_planned, counts_of, listing_of, words_for}
use Rattle.planning.specs.Planning.{plan_refusal, short_plan, short_placing, listed_answer, listing_after, placing_after, busy_after}
use Rattle.planning.specs.ReadListing.{written, lines_of, feed_part, placing_on}
use Rattle.planning.proofs.AloneLaws.{left_whole, room_whole, may_whole}
use Rattle.planning.proofs.CallAnswers.{passed_planned, room_plan, room_placing, neither}
use Rattle.halls.specs.Halls.{Hall, Buffers, HallOutcome, no_hall, four, max_halls, hall_problem, short_hall, hall_refusal, used_by, hall_outcome, none_used, used_by_all, used_before, halls_faults, halls_refusal, nothing, not_planned, outcome_of, halls_answer}
use Rattle.hall_uses.specs.Uses.{hall_high}
use Rattle.hall_uses.specs.UseLaws.{length_hall_high, hall_high_at}
use Rattle.halls.proofs.HallLaws.{hall_in_range, used_past, used_at}
use Rattle.halls.proofs.CallLaws.{numbered_halls, halls_in_range}
use Rattle.halls.proofs.Theorems.{hall_there, hall_none, hall_refused, used_before_next, used_before_lem, earlier_halls, without_refused, one_hall}
use Rattle.demands.specs.Answers.{FirstOf, NotZero}
use Rattle.demands.specs.Outcome.{Outcome, load_of, placing_in, SamePlacing}
use Rattle.demands.specs.ByMethod.{HasPlacing, ChosenByMethod, ByMethod}
use Rattle.demands.specs.Halls.{hall_in, answer_in, problem_in, HallIs, busy_in, HallAnswer}
use Rattle.demands.proofs.AnswerLaws.{first_of, first_planned, both_planned}
use Rattle.demands.proofs.OutcomeLaws.{written_listing, outcome_of_lem, marks_of_lem, placing_listed}
use Rattle.demands.proofs.ByMethodLaws.{number_is, listed_by_method, marked_by_method}

-- 14 ------------------------------------------------------------------------------------------

pub first_halls : (limit halls : ℕ) → FirstOf (halls_faults limit halls) (halls_refusal limit halls).number (halls_refusal limit halls).line
unfolding halls_refusal
first_halls limit halls = first_of (halls_faults limit halls) (numbered_halls limit halls)

-- One hall, whatever is used before it --------------------------------------------------------

module _ (limit : ℕ) (used : List ℕ) (h : Hall) where
  abbrev s : Sheet
  s = sheet_of h.bytes

  abbrev p : Problem
  p = hall_problem limit used h

  abbrev done : HallOutcome
  done = hall_outcome limit used h

  pub hall_is : HallIs limit used h
  unfolding hall_problem
  hall_is =
      let high = hall_high limit used s.slots s.blowers in
      let long = length_hall_high limit used s.slots s.blowers in
      record {
        sheet_is = refl;
        left_is = left_whole s high long;
        room_is = room_whole s high long;
        room_at = λ t l. ap (λ x. get_or x t 0) (room_whole s high long) ∙ hall_high_at limit used s.slots s.blowers t l;
        may_is = may_whole s high long;
      }

  hall_answered : HallAnswer p h done.answer done.buffers
  unfolding hall_outcome hall_refusal short_hall listed_answer
  hall_answered =
      let b = both_planned (bytes_checked h.bytes) p (hall_in_range limit used h) h.buffers.listing h.buffers.placing in
      record { first = first_planned (bytes_checked h.bytes) p (short_hall h); listing = b.0; placing = b.1 }

  -- with buffers that are long enough
  module _ (formed : faults h.bytes ≡ []) (l : plan_bytes ≤ length h.buffers.listing) (k : placing_words ≤ length h.buffers.placing) where
    in_range : ProblemInRange p
    in_range = hall_in_range limit used h ((bytes_checked h.bytes).values formed)

    enough : short_hall h ≡ false
    unfolding short_hall
    enough = neither (short_plan h.buffers.listing) (short_placing h.buffers.placing) (room_plan h.buffers.listing l) (room_placing h.buffers.placing k)

    hall_by_method : HasPlacing p → (done.answer.number ≡ 0) × ByMethod p (lines_of (written done.answer done.buffers.listing))
        × ChosenByMethod p (placing_in p.sheet done.buffers.placing)
    unfolding hall_outcome hall_refusal listed_answer
    hall_by_method has = (
      number_is formed p in_range has (short_hall h) enough,
      listed_by_method formed p in_range has (short_hall h) enough h.buffers.listing,
      marked_by_method formed p in_range has (short_hall h) enough h.buffers.placing,
    )

    hall_outcome_lem : Outcome p done.answer.number (written done.answer done.buffers.listing)
        × (done.answer.number ≡ 0 → SamePlacing p.sheet (written done.answer done.buffers.listing) done.buffers.placing)
    unfolding hall_outcome hall_refusal listed_answer
    hall_outcome_lem =
        let w = written_listing formed p in_range (short_hall h) enough h.buffers.listing in
        (outcome_of_lem formed p in_range (short_hall h) enough _ w, marks_of_lem formed p in_range (short_hall h) enough _ h.buffers.placing w)

  -- the busy blowers that its listing shows are those that it uses
  busy_used : (t : ℕ) → busy_in h done.answer done.buffers.listing t ≡ get_or (used_by limit used h) t 0
  unfolding busy_in used_by busy_after hall_outcome hall_refusal hall_problem counts_of listed_answer
  busy_used t = go (eqb (hall_refusal limit used h).number 0) refl
    where
      text : List ℕ
      text = written done.answer done.buffers.listing

      padded_at : (xs : List ℕ) → Dec (t < length xs) → get_or xs t 0 ≡ get_or (padded max_slots xs) t 0
      padded_at xs (yes m) = sym (get_d_padded max_slots xs t m)
      padded_at xs (no m) = get_or-eq_default xs 0 {n = t} (omega arith) ∙ sym (padded_past max_slots xs t (omega arith))

      planned : (hall_refusal limit used h).number ≡ 0 → load_of s (placing_on s.slots s.jobs (feed_part (lines_of text))) ≡ counts_of p
      planned e =
          let z = passed_planned (faults h.bytes) (bytes_checked h.bytes).numbered (short_hall h) (can_be_planned p) e in
          let g = hall_in_range limit used h ((bytes_checked h.bytes).values z.0) in
          ap (load s.slots) (placing_listed p g z.2 text (written_listing z.0 p g (short_hall h) z.1 h.buffers.listing))

      go : (x : Bool) → eqb (hall_refusal limit used h).number 0 ≡ x
          → cond x (get_or (load_of s (placing_on s.slots s.jobs (feed_part (lines_of text)))) t 0) 0 ≡ get_or (cond x (padded max_slots (counts_of p)) (replicate max_slots 0)) t 0
      go true q = ap (λ xs. get_or xs t 0) (planned (eqb-true (hall_refusal limit used h).number 0 q)) ∙ padded_at (counts_of p) (dec_lt t (length (counts_of p)))
      go false q = sym (get_d_zeros max_slots t)

-- Halls of a call ---------------------------------------------------------------------------------

-- the answers are those of the outcomes
answer_in_lem : (limit halls : ℕ) (hs : List Hall) (i : ℕ) → i < max_halls → answer_in (halls_answer limit halls hs) i ≡ (outcome_of limit halls hs i).answer
unfolding halls_answer
answer_in_lem limit halls hs zero l = refl
answer_in_lem limit halls hs (suc zero) l = refl
answer_in_lem limit halls hs (suc (suc zero)) l = refl
answer_in_lem limit halls hs (suc (suc (suc zero))) l = refl
answer_in_lem limit halls hs (suc (suc (suc (suc i)))) l = absurd (omega arith)

module _ (limit halls : ℕ) (a b c d : Hall) where
  abbrev hs : List Hall
  hs = four a b c d

  -- what holds of the outcome of a hall that is there holds of what the call answers and leaves
  of_hall : (halls_refusal limit halls).number ≡ 0 → (i : ℕ) → i < halls → (P : Planned → Buffers → Type 0)
      → P (hall_outcome limit (used_before limit hs i) (hall_in hs i)).answer (hall_outcome limit (used_before limit hs i) (hall_in hs i)).buffers
      → P (answer_in (halls_answer limit halls hs) i) (outcome_of limit halls hs i).buffers
  of_hall z i l P q =
      let m : i < 4 = omega (arith, (halls_in_range limit halls z).3) in
      subst (λ x. P x (outcome_of limit halls hs i).buffers) (sym (answer_in_lem limit halls hs i m))
      (subst (λ o. P o.answer o.buffers) (sym (hall_there limit halls z hs i l m)) q)

  none_of : (i : ℕ) → i < max_halls → outcome_of limit halls hs i ≡ not_planned (hall_in hs i)
      → (answer_in (halls_answer limit halls hs) i ≡ nothing) × ((outcome_of limit halls hs i).buffers ≡ (hall_in hs i).buffers)
  none_of i l e = (answer_in_lem limit halls hs i l ∙ ap (λ o. o.answer) e, ap (λ o. o.buffers) e)

  -- with 14 no hall is looked at, and none past those that are there
  pub halls_kept : (i : ℕ) → i < max_halls → (NotZero (halls_refusal limit halls).number ⊎ (halls ≤ i))
      → (answer_in (halls_answer limit halls hs) i ≡ nothing) × ((outcome_of limit halls hs i).buffers ≡ (hall_in hs i).buffers)
  halls_kept i l (inl n) = none_of i l (hall_refused limit halls n hs i)
  halls_kept i l (inr m) = go (ℕ_discrete (halls_refusal limit halls).number 0)
    where
      go : Dec ((halls_refusal limit halls).number ≡ 0) → (answer_in (halls_answer limit halls hs) i ≡ nothing) × ((outcome_of limit halls hs i).buffers ≡ (hall_in hs i).buffers)
      go (yes z) = none_of i l (hall_none limit halls z hs i m)
      go (no n) = none_of i l (hall_refused limit halls n hs i)

  module _ (z : (halls_refusal limit halls).number ≡ 0) where
    pub halls_answered_lem : (i : ℕ) → i < halls → HallAnswer (problem_in limit hs i) (hall_in hs i) (answer_in (halls_answer limit halls hs) i) (outcome_of limit halls hs i).buffers
    halls_answered_lem i l = of_hall z i l (HallAnswer (problem_in limit hs i) (hall_in hs i)) (hall_answered limit (used_before limit hs i) (hall_in hs i))

    module _ (i : ℕ) (l : i < halls) (formed : faults (hall_in hs i).bytes ≡ []) (m : plan_bytes ≤ length (hall_in hs i).buffers.listing)
        (k : placing_words ≤ length (hall_in hs i).buffers.placing) where
      abbrev problem : Problem
      problem = problem_in limit hs i

      pub halls_by_method : HasPlacing problem → let a = answer_in (halls_answer limit halls hs) i in let o = (outcome_of limit halls hs i).buffers in
          (a.number ≡ 0) × ByMethod problem (lines_of (written a o.listing)) × ChosenByMethod problem (placing_in problem.sheet o.placing)
      halls_by_method has =
          of_hall z i l (λ a o. (a.number ≡ 0) × ByMethod problem (lines_of (written a o.listing)) × ChosenByMethod problem (placing_in problem.sheet o.placing))
          (hall_by_method limit (used_before limit hs i) (hall_in hs i) formed m k has)

      pub halls_outcome : let a = answer_in (halls_answer limit halls hs) i in let o = (outcome_of limit halls hs i).buffers in
          Outcome problem a.number (written a o.listing) × (a.number ≡ 0 → SamePlacing problem.sheet (written a o.listing) o.placing)
      halls_outcome =
          of_hall z i l (λ a o. Outcome problem a.number (written a o.listing) × (a.number ≡ 0 → SamePlacing problem.sheet (written a o.listing) o.placing))
          (hall_outcome_lem limit (used_before limit hs i) (hall_in hs i) formed m k)

    -- What halls use is what their listings show -------------------------------------------------

    abbrev shown : (t j : ℕ) → ℕ
    shown t j = busy_in (hall_in hs j) (answer_in (halls_answer limit halls hs) j) (outcome_of limit halls hs j).buffers.listing t

    shown_used : (t j : ℕ) → j < halls → shown t j ≡ get_or (used_by limit (used_before limit hs j) (hall_in hs j)) t 0
    shown_used t j l =
        of_hall z j l (λ a o. busy_in (hall_in hs j) a o.listing t ≡ get_or (used_by limit (used_before limit hs j) (hall_in hs j)) t 0)
        (busy_used limit (used_before limit hs j) (hall_in hs j) t)

    pub used_is : (t : ℕ) → t < max_slots → (i : ℕ) → i ≤ halls → get_or (used_before limit hs i) t 0 ≡ sum i (shown t)
    unfolding sum used_by_all
    used_is t k zero l = get_d_zeros max_slots t
    used_is t k (suc i) l =
        let r = halls_in_range limit halls z in
        let u = used_before_lem limit r.1 hs i in
        ap (λ xs. get_or xs t 0) (used_before_next limit hs none_used i (omega (arith, r.3)))
        ∙ used_at limit (used_before limit hs i) (hall_in hs i) u.long t k
        ∙ omega (arith, used_is t k i (omega arith), shown_used t i l)

    -- nothing in slots past a hall's own last one
    pub shown_past : (t j : ℕ) → j < halls → (sheet_of (hall_in hs j).bytes).slots ≤ t → shown t j ≡ 0
    shown_past t j l k = shown_used t j l ∙ used_past limit (used_before limit hs j) (hall_in hs j) t k

    pub within_limit : (t : ℕ) → t < max_slots → sum halls (shown t) ≤ limit
    within_limit t k =
        let r = halls_in_range limit halls z in
        omega (arith, used_is t k halls (omega arith), (used_before_lem limit r.1 hs halls).within t k)

-- Earlier and later halls ----------------------------------------------------------------------------

-- two outcomes are the same where the answers and the buffers are
same_outcome : (limit halls : ℕ) (hs : List Hall) (i : ℕ) (limit' halls' : ℕ) (ks : List Hall) (j : ℕ) → i < max_halls → j < max_halls
    → outcome_of limit halls hs i ≡ outcome_of limit' halls' ks j
    → (answer_in (halls_answer limit halls hs) i ≡ answer_in (halls_answer limit' halls' ks) j)
    × ((outcome_of limit halls hs i).buffers ≡ (outcome_of limit' halls' ks j).buffers)
same_outcome limit halls hs i limit' halls' ks j l m e = (
  answer_in_lem limit halls hs i l ∙ ap (λ o. o.answer) e ∙ sym (answer_in_lem limit' halls' ks j m),
  ap (λ o. o.buffers) e,
)

pub halls_earlier : (limit halls : ℕ) (hs ks : List Hall) (i : ℕ) → i < max_halls → take (suc i) hs ≡ take (suc i) ks
    → (answer_in (halls_answer limit halls hs) i ≡ answer_in (halls_answer limit halls ks) i)
    × ((outcome_of limit halls hs i).buffers ≡ (outcome_of limit halls ks i).buffers)
halls_earlier limit halls hs ks i l e = same_outcome limit halls hs i limit halls ks i l l (earlier_halls limit halls hs ks i e)

module _ (limit n : ℕ) (e : halls_faults limit n ≡ []) (f : halls_faults limit (suc n) ≡ []) (xs : List Hall) (h : Hall) (ys : List Hall) (z : Hall)
    (three : length (xs ++ ys) ≡ 3) (l : length xs ≤ n) where
  -- four halls, of which hall h comes after xs; and those without it, where another one stands last
  abbrev with_hall : List Hall
  with_hall = xs ++ (h ∷ ys)

  abbrev without_hall : List Hall
  without_hall = xs ++ (ys ++ (z ∷ []))

  number_of : (hall_refusal limit (used_by_all limit none_used xs) h).number ≡ (answer_in (halls_answer limit (suc n) with_hall) (length xs)).number
  unfolding hall_outcome listed_answer
  number_of =
      let a = ((first_halls limit (suc n)).accepted f).0 in
      let r = halls_in_range limit (suc n) a in
      sym (ap (λ a. a.number) (answer_in_lem limit (suc n) with_hall (length xs) (omega (arith, r.3)))
      ∙ ap (λ o. o.answer.number) (hall_there limit (suc n) a with_hall (length xs) (omega arith) (omega (arith, length-append xs (h ∷ ys))))
      ∙ (λ i. (hall_outcome limit (used_by_all limit none_used (take-append_seam xs (h ∷ ys) i)) (own i)).answer.number))
    where
      own : get_or with_hall (length xs) no_hall ≡ h
      own = ap (λ k. get_or with_hall k no_hall) zero_more ∙ get_or-append-add xs (h ∷ ys) 0 no_hall
        where
          zero_more : length xs ≡ length xs + 0
          zero_more = omega arith

  -- the hall that stands last is not looked at
  last_apart : (j : ℕ) → suc j ≤ 3 → take (suc j) (xs ++ ys) ≡ take (suc j) without_hall
  last_apart j m =
      sym (take-append-le (suc j) (xs ++ ys) (z ∷ []) (omega (arith, three))) ∙ ap (take (suc j)) (append_assoc xs ys (z ∷ []))

  pub halls_without : NotZero (answer_in (halls_answer limit (suc n) with_hall) (length xs)).number → (j : ℕ) → length xs ≤ j → j < n
      → (answer_in (halls_answer limit (suc n) with_hall) (suc j) ≡ answer_in (halls_answer limit n without_hall) j)
      × ((outcome_of limit (suc n) with_hall (suc j)).buffers ≡ (outcome_of limit n without_hall j).buffers)
  halls_without refused j k m =
      let a = ((first_halls limit n).accepted e).0 in
      let b = ((first_halls limit (suc n)).accepted f).0 in
      let r = halls_in_range limit (suc n) b in
      same_outcome limit (suc n) with_hall (suc j) limit n without_hall j (omega (arith, r.3)) (omega (arith, r.3))
      (without_refused limit n a b xs h ys l (λ q. refused (sym number_of ∙ q)) j k
      ∙ earlier_halls limit n (xs ++ ys) without_hall j (last_apart j (omega (arith, r.3))))

-- the first hall, where the limit does not bind it
pub hall_alone : (limit halls : ℕ) → halls_faults limit halls ≡ [] → (h : Hall) (hs : List Hall) → (sheet_of h.bytes).blowers ≤ limit
    → let p = alone (sheet_of h.bytes) in let r = plan_refusal h.bytes (short_plan h.buffers.listing || short_placing h.buffers.placing) in
    (answer_in (halls_answer limit halls (h ∷ hs)) 0 ≡ listed_answer r (listing_of p))
    × ((outcome_of limit halls (h ∷ hs) 0).buffers.listing ≡ listing_after r (listing_of p) h.buffers.listing)
    × ((outcome_of limit halls (h ∷ hs) 0).buffers.placing ≡ placing_after r (words_for p) h.buffers.placing)
hall_alone limit halls f h hs l =
    let z = ((first_halls limit halls).accepted f).0 in
    let e = one_hall limit h l halls z (halls_in_range limit halls z).2 hs in
    (answer_in_lem limit halls (h ∷ hs) 0 (omega arith) ∙ ap (λ o. o.answer) e, ap (λ o. o.buffers.listing) e, ap (λ o. o.buffers.placing) e)
