-- The stretches of a blower one after another: the first runs as long as its state, and the others are those of the slots after it. Assumes nothing.
use Rattle.std.specs.Prelude.{◌≡◌, Bool, true, false, List, [], ◌∷◌, map, ℕ, zero, suc, ◌+◌, ◌≤◌, ◌<◌, leb, length, get_or, take, drop}
use Rattle.std.proofs.Common.{sym, ap, ◌∙◌, arith}
use Rattle.common.specs.ListLaws.{part_cons, part_none, part_front}
use Rattle.method.specs.Intervals.{Interval, join, runs, intervals}
use Rattle.method.specs.FrontRunLaws.{stretch, front_run, busy_from, stretches_from, EndsAt}

-- The first stretch of a list, and the stretches of what comes after it.
pub runs_front : (t : ℕ) (b : Bool) (bs : List Bool)
    → runs t (b ∷ bs) ≡ stretch t (t + front_run b bs) b ∷ runs (suc (t + front_run b bs)) (drop (front_run b bs) bs)
unfolding runs join front_run
runs_front t b [] = ap (λ n. stretch t n b ∷ []) (plus_zero t)
  where
    plus_zero : (n : ℕ) → n ≡ n + 0
    plus_zero n = omega arith
runs_front t b (c ∷ cs) = ap (join t b) (runs_front (suc t) c cs) ∙ joined b c (runs_front (suc t) c cs)
  where
    longer : (b : Bool) (n : ℕ) → stretch t (suc t + n) b ∷ runs (suc (suc t + n)) (drop n cs) ≡ stretch t (t + suc n) b ∷ runs (suc (t + suc n)) (drop n cs)
    longer b n = ap (λ k. stretch t k b ∷ runs (suc k) (drop n cs)) (omega arith)

    other : (b c : Bool) (vs : List Interval) → runs (suc t) (c ∷ cs) ≡ vs → stretch t t b ∷ vs ≡ stretch t (t + 0) b ∷ runs (suc (t + 0)) (c ∷ cs)
    other b c vs e = ap (λ (us : List Interval). stretch t t b ∷ us) (sym e) ∙ ap (λ n. stretch t n b ∷ runs (suc n) (c ∷ cs)) (omega arith)

    joined : (b c : Bool)
        → runs (suc t) (c ∷ cs) ≡ stretch (suc t) (suc t + front_run c cs) c ∷ runs (suc (suc t + front_run c cs)) (drop (front_run c cs) cs)
        → join t b (stretch (suc t) (suc t + front_run c cs) c ∷ runs (suc (suc t + front_run c cs)) (drop (front_run c cs) cs))
        ≡ stretch t (t + front_run b (c ∷ cs)) b ∷ runs (suc (t + front_run b (c ∷ cs))) (drop (front_run b (c ∷ cs)) (c ∷ cs))
    joined true true e = longer true (front_run true cs)
    joined true false e = other true false _ e
    joined false true e = other false true _ e
    joined false false e = longer false (front_run false cs)

-- From a slot on ---------------------------------------------------------------

pub stretches_from_begin : (counts : List ℕ) (slots k : ℕ) → intervals (take slots counts) k ≡ stretches_from counts slots k 0
unfolding intervals stretches_from
stretches_from_begin counts slots k = ap (λ l. runs 1 (map (leb k) l)) (part_front counts slots)

pub stretches_from_end : (counts : List ℕ) (slots k : ℕ) → stretches_from counts slots k slots ≡ []
unfolding runs stretches_from
stretches_from_end counts slots k = ap (λ l. runs (suc slots) (map (leb k) l)) (part_none counts slots)

module _ (counts : List ℕ) (slots k from : ℕ) (h : from < slots) (l : slots ≤ length counts) where
  pub busy_from_cons : busy_from counts slots k from ≡ leb k (get_or counts from 0) ∷ busy_from counts slots k (from + 1)
  busy_from_cons = ap (map (leb k)) (part_cons counts from slots 0 h l)

  -- a slot is in a stretch
  pub stretches_from_some : 1 ≤ length (stretches_from counts slots k from)
  unfolding stretches_from
  stretches_from_some =
      rw (busy_from_cons, runs_front (suc from) (leb k (get_or counts from 0)) (busy_from counts slots k (from + 1))) (omega arith)

drop_busy_from : (counts : List ℕ) (slots k from n : ℕ) → from + n ≤ slots → slots ≤ length counts → drop n (busy_from counts slots k from) ≡ busy_from counts slots k (from + n)
drop_busy_from counts slots k from zero h l = ap (busy_from counts slots k) (plus_zero from)
  where
    plus_zero : (n : ℕ) → n ≡ n + 0
    plus_zero n = omega arith
drop_busy_from counts slots k from (suc n) h l =
    ap (drop (suc n)) (busy_from_cons counts slots k from (omega arith) l)
    ∙ drop_busy_from counts slots k (from + 1) n (omega arith) l
    ∙ ap (busy_from counts slots k) (omega arith)

pub ends_at_front_run : (counts : List ℕ) (slots k from r : ℕ) → from < r → r ≤ slots → slots ≤ length counts
    → front_run (leb k (get_or counts from 0)) (busy_from counts slots k (from + 1)) + (from + 1) ≡ r → EndsAt counts slots k from r
unfolding stretches_from
ends_at_front_run counts slots k from r h w l e = record { after = h; within = w; next = next }
  where
    b : Bool
    b = leb k (get_or counts from 0)

    n : ℕ
    n = front_run b (busy_from counts slots k (from + 1))

    next : stretches_from counts slots k from ≡ stretch (from + 1) r b ∷ stretches_from counts slots k r
    next =
        ap (runs (suc from)) (busy_from_cons counts slots k from (omega arith) l)
        ∙ runs_front (suc from) b (busy_from counts slots k (from + 1))
        ∙ ap (λ bs. stretch (suc from) (suc from + n) b ∷ runs (suc (suc from + n)) bs) (drop_busy_from counts slots k (from + 1) n (omega (arith, e)) l)
        ∙ place (suc from) (suc from + n) ((from + 1) + n) (omega arith) (omega (arith, e)) (omega (arith, e))
      where
        place : (f u v : ℕ) → f ≡ from + 1 → u ≡ r → v ≡ r
            → stretch f u b ∷ runs (suc u) (busy_from counts slots k v) ≡ stretch (from + 1) r b ∷ runs (suc r) (busy_from counts slots k r)
        place f u v p q s = rw (p, q, s)
