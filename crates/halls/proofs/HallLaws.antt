-- One hall: the problem that it is, what it uses, and that this stays within the limit. Assumes nothing.
use Rattle.std.specs.Prelude.{◌≡◌, Bool, cond, replicate}
use Rattle.std.proofs.Math.Path.{refl}
use Rattle.std.proofs.Common.{sym, ap, ◌∙◌, arith, ext_get_or}
use Rattle.std.proofs.Math.Bool.{true, false}
use mathlib.Core.List.{List, []}
use Prim.Native.Nat.{ℕ, ◌+◌, ◌-◌, ◌≤◌, ◌<◌}
use Rattle.std.proofs.Math.Decide.{dec_lt}
use Rattle.std.proofs.Math.Dec.{eqb}
use Rattle.std.proofs.Math.ListN.{length, get_or, length-replicate}
use borrow.Author.Tests.{ne_eqb, eqb-true}
use Rattle.common.specs.Buffers.{padded}
use Rattle.common.specs.BufferLaws.{length_padded}
use Rattle.common.specs.FillLaws.{get_d_zeros, get_d_padded, padded_past}
use Rattle.checks.specs.Limits.{max_slots}
use Rattle.checks.specs.Sheet.{Sheet, sheet_of}
use Rattle.checks.specs.Checks.{faults}
use Rattle.checks.specs.RangeLaws.{ValuesInRange}
use Rattle.sheet.proofs.OwnCheckLaws.{bytes_checked}
use Rattle.schedules.specs.Demands.{full_high}
use Rattle.schedules.specs.Tabulate.{length_zip_with, get_d_zip_with}
use Rattle.planning.specs.Problem.{Problem, ProblemInRange, can_be_planned, counts_of}
use Rattle.planning.specs.Planning.{busy_after}
use Rattle.planning.proofs.ProblemLaws.{feedings_may, length_counts_of}
use Rattle.planning.proofs.AloneLaws.{whole_in_range, length_full_high, full_high_at}
use Rattle.planning.proofs.CallAnswers.{passed_planned}
use Rattle.hall_uses.specs.Uses.{hall_high, CanAdd}
use Rattle.hall_uses.specs.UseLaws.{length_hall_high, hall_high_at, hall_high_below}
use Rattle.halls.specs.Halls.{Hall, max_limit, hall_problem, short_hall, hall_refusal, used_by, used_after, none_used}
use Rattle.halls.specs.Clauses.{Used}

-- Its highs, and the problem ---------------------------------------------------------

-- where the limit leaves all its blowers in each of its slots, it is planned as it is alone
pub hall_high_full : (limit : ℕ) (used : List ℕ) (s : Sheet) → ((t : ℕ) → t < s.slots → s.blowers ≤ limit - get_or used t 0)
    → hall_high limit used s.slots s.blowers ≡ full_high s
hall_high_full limit used s room =
    let long = length_hall_high limit used s.slots s.blowers in
    ext_get_or 0 (hall_high limit used s.slots s.blowers) (full_high s) (long ∙ sym (length_full_high s))
    (λ t l. let k : t < s.slots = rw long at l in omega (arith, hall_high_at limit used s.slots s.blowers t k, room t k, full_high_at s t k))

module _ (limit : ℕ) (used : List ℕ) (h : Hall) where
  pub hall_in_range : {least : ℕ} → let s = sheet_of h.bytes in ValuesInRange least s (length s.jobs) true → ProblemInRange (hall_problem limit used h)
  unfolding hall_problem
  hall_in_range v =
      let s = sheet_of h.bytes in
      whole_in_range s (hall_high limit used s.slots s.blowers) (length_hall_high limit used s.slots s.blowers) v (hall_high_below limit used s.slots s.blowers)

  -- a hall with number 0 is well-formed and was planned
  hall_planned : (hall_refusal limit used h).number ≡ 0 → (faults h.bytes ≡ []) × (can_be_planned (hall_problem limit used h) ≡ true)
  unfolding hall_refusal
  hall_planned e =
      let z = passed_planned (faults h.bytes) (bytes_checked h.bytes).numbered (short_hall h) (can_be_planned (hall_problem limit used h)) e in
      (z.0, z.2)

  -- What it uses ---------------------------------------------------------------------

  module _ (z : (hall_refusal limit used h).number ≡ 0) where
    abbrev p : Problem
    p = hall_problem limit used h

    in_range : ProblemInRange p
    in_range = hall_in_range ((bytes_checked h.bytes).values (hall_planned z).0)

    hall_slots : (sheet_of h.bytes).slots ≤ max_slots
    hall_slots = ((bytes_checked h.bytes).values (hall_planned z).0).head.slots.le

    hall_counts : length (counts_of p) ≡ (sheet_of h.bytes).slots
    unfolding hall_problem
    hall_counts = length_counts_of p in_range (hall_planned z).1

    -- its plan keeps its highs
    hall_keeps : (t : ℕ) → t < (sheet_of h.bytes).slots → get_or (counts_of p) t 0 ≤ limit - get_or used t 0
    unfolding hall_problem counts_of
    hall_keeps t l =
        omega (arith, ((feedings_may p in_range (hall_planned z).1).0.bounded t l).1, hall_high_at limit used _ (sheet_of h.bytes).blowers t l)

  -- refused by any number, it uses nothing
  refused_uses : ((hall_refusal limit used h).number ≡ 0 → ⊥) → used_by limit used h ≡ none_used
  unfolding used_by busy_after
  refused_uses n = rw (ne_eqb (hall_refusal limit used h).number 0 n)

  length_used_by : length (used_by limit used h) ≡ max_slots
  unfolding used_by busy_after
  length_used_by = go (eqb (hall_refusal limit used h).number 0) refl
    where
      go : (t : Bool) → eqb (hall_refusal limit used h).number 0 ≡ t
          → length (cond t (padded max_slots (counts_of (hall_problem limit used h))) (replicate max_slots 0)) ≡ max_slots
      go true q =
          let z = eqb-true (hall_refusal limit used h).number 0 q in
          length_padded max_slots (counts_of (hall_problem limit used h)) (omega (arith, hall_counts z, hall_slots z))
      go false q = length-replicate {A = ℕ} max_slots 0

  -- whatever its sheet, it uses at most what is left
  hall_uses : (t : ℕ) → get_or (used_by limit used h) t 0 ≤ limit - get_or used t 0
  unfolding used_by busy_after
  hall_uses t = go (eqb (hall_refusal limit used h).number 0) refl
    where
      counts : List ℕ
      counts = counts_of (hall_problem limit used h)

      planned : (hall_refusal limit used h).number ≡ 0 → Dec (t < (sheet_of h.bytes).slots) → get_or (padded max_slots counts) t 0 ≤ limit - get_or used t 0
      planned z (yes l) = omega (arith, get_d_padded max_slots counts t (omega (arith, hall_counts z)), hall_keeps z t l)
      planned z (no l) = omega (arith, padded_past max_slots counts t (omega (arith, hall_counts z)))

      go : (x : Bool) → eqb (hall_refusal limit used h).number 0 ≡ x → get_or (cond x (padded max_slots counts) (replicate max_slots 0)) t 0 ≤ limit - get_or used t 0
      go true q = planned (eqb-true (hall_refusal limit used h).number 0 q) (dec_lt t (sheet_of h.bytes).slots)
      go false q = omega (arith, get_d_zeros max_slots t)

  -- and nothing past its own last slot
  pub used_past : (t : ℕ) → (sheet_of h.bytes).slots ≤ t → get_or (used_by limit used h) t 0 ≡ 0
  unfolding used_by busy_after
  used_past t l = go (eqb (hall_refusal limit used h).number 0) refl
    where
      go : (x : Bool) → eqb (hall_refusal limit used h).number 0 ≡ x
          → get_or (cond x (padded max_slots (counts_of (hall_problem limit used h))) (replicate max_slots 0)) t 0 ≡ 0
      go true q = padded_past max_slots (counts_of (hall_problem limit used h)) t (omega (arith, hall_counts (eqb-true (hall_refusal limit used h).number 0 q)))
      go false q = get_d_zeros max_slots t

  -- What it and the halls before it use ------------------------------------------------

  module _ (long : length used ≡ max_slots) where
    pub used_at : (t : ℕ) → t < max_slots → get_or (used_after limit used h) t 0 ≡ get_or used t 0 + get_or (used_by limit used h) t 0
    unfolding used_after
    used_at t l = get_d_zip_with ◌+◌ used (used_by limit used h) 0 0 0 t (omega (arith, long)) (omega (arith, length_used_by))

    pub length_used : length (used_after limit used h) ≡ max_slots
    unfolding used_after
    length_used = length_zip_with ◌+◌ used (used_by limit used h) long length_used_by

    -- a hall that is refused leaves what is used as it was
    pub refused_leaves : ((hall_refusal limit used h).number ≡ 0 → ⊥) → used_after limit used h ≡ used
    refused_leaves n =
        ext_get_or 0 (used_after limit used h) used (length_used ∙ sym long)
        (λ t l. let k : t < max_slots = rw length_used at l in omega (arith, used_at t k, ap (λ xs. get_or xs t 0) (refused_uses n), get_d_zeros max_slots t))

  module _ (u : Used limit used) where
    pub can_add : {counts : List ℕ} → counts ≡ used_by limit used h → CanAdd used counts
    can_add {counts} e =
        record {
          used_long = u.long;
          counts_long = ap length e ∙ length_used_by;
          fits = λ t l. omega (arith, ap (λ xs. get_or xs t 0) e, hall_uses t, u.within t l, u.most);
        }

    pub used_next : Used limit (used_after limit used h)
    used_next =
        record {
          most = u.most;
          long = length_used u.long;
          within = λ t l. omega (arith, used_at u.long t l, hall_uses t, u.within t l);
        }

-- before the first hall
pub length_none : length none_used ≡ max_slots
length_none = length-replicate {A = ℕ} max_slots 0

pub none_used_lem : (limit : ℕ) → limit ≤ max_limit → Used limit none_used
none_used_lem limit l = record { most = l; long = length_none; within = λ t k. omega (arith, get_d_zeros max_slots t) }
