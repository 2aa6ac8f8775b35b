-- The intervals of a list of tests are its longest runs, in order and without gaps. Assumes nothing.
use Rattle.std.specs.Prelude.{◌≡◌, ◌⊎◌, ◌↔◌, Bool, true, not, cond, leb, get_or}
use Rattle.std.proofs.Math.Path.{refl, ap}
use Rattle.std.proofs.Common.{sym, ◌∙◌, subst, inl, inr}
use Rattle.std.proofs.Math.Bool.{false}
use Rattle.std.specs.Bool.{beq}
use Rattle.std.proofs.lemmas.Bool.{false≢true}
use mathlib.Core.List.Memᴰ
use mathlib.Core.List.{List, [], ◌∷◌, map, Memᴰ}
use Prim.Native.Nat.{ℕ, suc, ◌+◌, ◌-◌, ◌≤◌, ◌<◌}
use native.Mathlib.Omega.{arith}
use Rattle.std.proofs.Math.ListN.{length, length-map}
use Rattle.schedules.specs.Tabulate.{get_d_map_below}
use Rattle.method.specs.Intervals.{Interval, join, runs, intervals, busy_in, Throughout, LongestRun}
use Rattle.method.proofs.Cases.{le_or_lt}

-- v begins after slot `from`, and goes on as long as the test stays the same, to slot `to` at most
pub record FirstRun (f : ℕ → Bool) (to from : ℕ) (v : Interval) : Type 0 where
  pub begins : v.first ≡ suc from
  pub filled : v.first ≤ v.last
  pub throughout : Throughout f v
  pub after : v.last < to → f v.last ≡ not v.busy

-- vs fill the slots after `from` up to `to`, each as long as it can be
abbrev pub Fill : (f : ℕ → Bool) (to from : ℕ) → List Interval → Type 0
Fill f to from [] = from ≡ to
Fill f to from (v ∷ vs) = FirstRun f to from v × Fill f to v.last vs

-- the list has the tests of the slots after `from`
abbrev Reads : (f : ℕ → Bool) (from : ℕ) (bs : List Bool) → Type 0
Reads f from bs = (i : ℕ) → i < length bs → get_or bs i false ≡ f (from + i)

beq_same : (a b : Bool) → beq a b ≡ true → a ≡ b
beq_same true true e = refl
beq_same true false e = absurd (false≢true e)
beq_same false true e = absurd (false≢true e)
beq_same false false e = refl

beq_other : (a b : Bool) → beq a b ≡ false → b ≡ not a
beq_other true true e = absurd (false≢true (sym e))
beq_other true false e = refl
beq_other false true e = refl
beq_other false false e = absurd (false≢true (sym e))

pub not_same : (a : Bool) → a ≡ not a → ⊥
not_same true e = false≢true (sym e)
not_same false e = false≢true e

module _ (f : ℕ → Bool) (to : ℕ) where
  -- one slot before them
  join_fill : (from : ℕ) (b : Bool) (vs : List Interval) → f from ≡ b → Fill f to (suc from) vs → Fill f to from (join (suc from) b vs)
  unfolding join
  join_fill from b [] e n = (record { begins = refl; filled = omega arith; throughout = alone; after = λ l. absurd (omega arith) }, n)
    where
      alone : (t : ℕ) → suc from ≤ suc t → suc t ≤ suc from → f t ≡ b
      alone t p q = let i : t ≡ from = omega arith in ap f i ∙ e
  join_fill from b (v ∷ vs) e (r, n) = go (beq b v.busy) refl
    where
      alone : (t : ℕ) → suc from ≤ suc t → suc t ≤ suc from → f t ≡ b
      alone t p q = let i : t ≡ from = omega arith in ap f i ∙ e

      joined : b ≡ v.busy → (t : ℕ) → suc from ≤ suc t → suc t ≤ v.last → f t ≡ b
      joined a t p q = pick (le_or_lt (suc t) (suc from))
        where
          pick : (suc t ≤ suc from) ⊎ (suc from < suc t) → f t ≡ b
          pick (inl i) = alone t p i
          pick (inr i) = r.throughout t (omega (arith, r.begins)) q ∙ sym a

      go : (x : Bool) → beq b v.busy ≡ x
          → Fill f to from
          (cond x (record { first = suc from; last = v.last; busy = b } ∷ vs) (record { first = suc from; last = suc from; busy = b } ∷ v ∷ vs))
      go true q =
          let a = beq_same b v.busy q in
          (record { begins = refl; filled = omega (arith, r.begins, r.filled); throughout = joined a; after = λ l. r.after l ∙ ap not (sym a) }, n)
      go false q = (
        record {
          begins = refl;
          filled = omega arith;
          throughout = alone;
          after = λ l. r.throughout (suc from) (omega (arith, r.begins)) (omega (arith, r.begins, r.filled)) ∙ beq_other b v.busy q;
        },
        (r, n),
      )

-- the runs of a list fill its slots
runs_fill : (f : ℕ → Bool) (from : ℕ) (bs : List Bool) → Reads f from bs → Fill f (from + length bs) from (runs (suc from) bs)
unfolding runs
runs_fill f from [] h = omega arith
runs_fill f from (b ∷ bs) h =
    let end : suc from + length bs ≡ from + suc (length bs) = omega arith in
    let here : from + 0 ≡ from = omega arith in
    join_fill f (from + suc (length bs)) from b (runs (suc (suc from)) bs) (sym (h 0 (omega arith) ∙ ap f here))
    (rw end at (runs_fill f (suc from) bs later))
  where
    later : Reads f (suc from) bs
    later i l = let there : from + suc i ≡ suc from + i = omega arith in h (suc i) (omega arith) ∙ ap f there

-- Longest runs ----------------------------------------------------------------

module _ (f : ℕ → Bool) (to : ℕ) where
  pub fill_le : (from : ℕ) (vs : List Interval) → Fill f to from vs → from ≤ to
  fill_le from [] e = omega arith
  fill_le from (v ∷ vs) (r, n) = omega (arith, r.begins, r.filled, fill_le v.last vs n)

  -- each interval is a longest run
  fill_longest : (from : ℕ) (vs : List Interval) → Fill f to from vs → (v : Interval) → Memᴰ v vs → LongestRun f to from v
  fill_longest from [] e v m = absurd (Memᴰ.not-nil m)
  fill_longest from (u ∷ us) (r, n) v m = go (Memᴰ.cases_cons m) (fill_longest u.last us n v)
    where
      top : LongestRun f to from u
      top = record {
        begins = omega (arith, r.begins);
        filled = r.filled;
        stops = fill_le u.last us n;
        throughout = r.throughout;
        before = λ t l e. absurd (omega (arith, r.begins));
        after = r.after;
      }

      go : (v ≡ u) ⊎ Memᴰ v us → (Memᴰ v us → LongestRun f to u.last v) → LongestRun f to from v
      go (inl e) ih = subst (LongestRun f to from) (sym e) top
      go (inr i) ih = record {
        begins = omega (arith, s.begins, r.begins, r.filled);
        filled = s.filled;
        stops = s.stops;
        throughout = s.throughout;
        before = λ t l e. pick t l e (le_or_lt u.last t);
        after = s.after;
      }
        where
          s : LongestRun f to u.last v
          s = ih i

          pick : (t : ℕ) → from ≤ t → suc (suc t) ≡ v.first → (u.last ≤ t) ⊎ (t < u.last) → f t ≡ not v.busy
          pick t l e (inl j) = s.before t j e
          pick t l e (inr j) =
              let same : f t ≡ u.busy = r.throughout t (omega (arith, r.begins)) (omega arith) in
              let other : f u.last ≡ not u.busy = r.after (omega (arith, s.begins, s.filled, s.stops)) in
              let mine : f u.last ≡ v.busy = s.throughout u.last (omega (arith, s.begins)) (omega (arith, s.begins, s.filled)) in
              same ∙ twice u.busy ∙ ap not (sym other ∙ mine)
            where
              twice : (x : Bool) → x ≡ not (not x)
              twice true = refl
              twice false = refl

  -- each slot is in one of them
  fill_covers : (from : ℕ) (vs : List Interval) → Fill f to from vs → (t : ℕ) → from ≤ t → t < to
      → (u : Interval) × Memᴰ u vs × (u.first ≤ suc t) × (suc t ≤ u.last)
  fill_covers from [] e t l m = absurd (omega arith)
  fill_covers from (u ∷ us) (r, n) t l m = go (le_or_lt (suc t) u.last) (λ i. fill_covers u.last us n t i m)
    where
      go : (suc t ≤ u.last) ⊎ (u.last < suc t) → (u.last ≤ t → (v : Interval) × Memᴰ v us × (v.first ≤ suc t) × (suc t ≤ v.last))
          → (v : Interval) × Memᴰ v (u ∷ us) × (v.first ≤ suc t) × (suc t ≤ v.last)
      go (inl i) ih = (u, Memᴰ.head refl, omega (arith, r.begins), i)
      go (inr i) ih = let w = ih (omega arith) in (w.0, Memᴰ.tail w.1, w.2, w.3)

  -- each slot before one of them is in one that stops before it
  fill_earlier : (from : ℕ) (vs : List Interval) → Fill f to from vs → (v : Interval) → Memᴰ v vs → (t : ℕ) → from ≤ t → suc t < v.first
      → (u : Interval) × Memᴰ u vs × (u.first ≤ suc t) × (suc t ≤ u.last) × (u.last < v.first)
  fill_earlier from [] e v m t l b = absurd (Memᴰ.not-nil m)
  fill_earlier from (u ∷ us) (r, n) v m t l b = go (Memᴰ.cases_cons m) (le_or_lt (suc t) u.last) (λ i. fill_earlier u.last us n v i t)
    where
      go : (v ≡ u) ⊎ Memᴰ v us → (suc t ≤ u.last) ⊎ (u.last < suc t)
          → (Memᴰ v us → u.last ≤ t → suc t < v.first
          → (w : Interval) × Memᴰ w us × (w.first ≤ suc t) × (suc t ≤ w.last) × (w.last < v.first))
          → (w : Interval) × Memᴰ w (u ∷ us) × (w.first ≤ suc t) × (suc t ≤ w.last) × (w.last < v.first)
      go (inl e) c ih = absurd (omega (arith, r.begins, ap (λ (x : Interval). x.first) e))
      go (inr i) (inl c) ih = (u, Memᴰ.head refl, omega (arith, r.begins), c, omega (arith, (fill_longest u.last us n v i).begins))
      go (inr i) (inr c) ih = let w = ih i (omega arith) b in (w.0, Memᴰ.tail w.1, w.2, w.3, w.4)

  -- two longest runs that share a slot are the same
  module _ (from : ℕ) {u v : Interval} (p : LongestRun f to from u) (q : LongestRun f to from v) (e : u.busy ≡ v.busy) (t : ℕ)
      (a : u.first ≤ suc t) (b : suc t ≤ u.last) (c : v.first ≤ suc t) (d : suc t ≤ v.last) where
    longest_first_le : u.first ≤ v.first
    longest_first_le = go (le_or_lt u.first v.first)
      where
        go : (u.first ≤ v.first) ⊎ (v.first < u.first) → u.first ≤ v.first
        go (inl l) = l
        go (inr l) =
            let s : ℕ = u.first - 2 in
            let i : suc (suc s) ≡ u.first = omega (arith, q.begins) in
            absurd (not_same u.busy (e ∙ sym (q.throughout s (omega arith) (omega arith)) ∙ p.before s (omega (arith, q.begins)) i))

    longest_last_le : u.last ≤ v.last
    longest_last_le = go (le_or_lt u.last v.last)
      where
        go : (u.last ≤ v.last) ⊎ (v.last < u.last) → u.last ≤ v.last
        go (inl l) = l
        go (inr l) =
            absurd (not_same v.busy (sym e ∙ sym (p.throughout v.last (omega arith) l) ∙ q.after (omega (arith, p.stops))))

  longest_unique : (from : ℕ) {u v : Interval} → LongestRun f to from u → LongestRun f to from v → (t : ℕ) → u.first ≤ suc t → suc t ≤ u.last
      → v.first ≤ suc t → suc t ≤ v.last → u ≡ v
  longest_unique from {u} {v} p q t a b c d =
      let e : u.busy ≡ v.busy = sym (p.throughout t a b) ∙ q.throughout t c d in
      interval_ext
      (omega (arith, longest_first_le from p q e t a b c d, longest_first_le from q p (sym e) t c d a b))
      (omega (arith, longest_last_le from p q e t a b c d, longest_last_le from q p (sym e) t c d a b)) e
    where
      interval_ext : u.first ≡ v.first → u.last ≡ v.last → u.busy ≡ v.busy → u ≡ v
      interval_ext a b c = λ i. record { first = a i; last = b i; busy = c i }

-- The stretches of a blower ---------------------------------------------------

module _ (counts : List ℕ) (k : ℕ) where
  pub intervals_fill : Fill (busy_in counts k) (length counts) 0 (intervals counts k)
  unfolding intervals
  intervals_fill =
      let end : 0 + length (map (leb k) counts) ≡ length counts = omega (arith, length-map counts (leb k)) in
      rw end at (runs_fill (busy_in counts k) 0 (map (leb k) counts) reads)
    where
      reads : Reads (busy_in counts k) 0 (map (leb k) counts)
      reads i l =
          let here : i ≡ 0 + i = omega arith in
          get_d_map_below (leb k) counts i false 0 (rw (length-map counts (leb k)) at l) ∙ ap (busy_in counts k) here

  -- the stretches are exactly the longest runs of slots in which the blower is busy or idle throughout
  pub interval_longest : (v : Interval) → Memᴰ v (intervals counts k) ↔ LongestRun (busy_in counts k) (length counts) 0 v
  interval_longest v = (fill_longest (busy_in counts k) (length counts) 0 (intervals counts k) intervals_fill v, back)
    where
      back : LongestRun (busy_in counts k) (length counts) 0 v → Memᴰ v (intervals counts k)
      back r =
          let t : ℕ = v.first - 1 in
          let w = fill_covers (busy_in counts k) (length counts) 0 (intervals counts k) intervals_fill t (omega arith) (omega (arith, r.begins, r.filled, r.stops)) in
          let s = fill_longest (busy_in counts k) (length counts) 0 (intervals counts k) intervals_fill w.0 w.1 in
          Memᴰ.cast
          (longest_unique (busy_in counts k) (length counts) 0 r s t (omega (arith, r.begins)) (omega (arith, r.begins, r.filled)) w.2 w.3) w.1

  pub interval_covers : (t : ℕ) → t < length counts → (u : Interval) × Memᴰ u (intervals counts k) × (u.first ≤ suc t) × (suc t ≤ u.last)
  interval_covers t l = fill_covers (busy_in counts k) (length counts) 0 (intervals counts k) intervals_fill t (omega arith) l

  pub interval_earlier : (v : Interval) → Memᴰ v (intervals counts k) → (t : ℕ) → suc t < v.first
      → (u : Interval) × Memᴰ u (intervals counts k) × (u.first ≤ suc t) × (suc t ≤ u.last) × (u.last < v.first)
  interval_earlier v m t l = fill_earlier (busy_in counts k) (length counts) 0 (intervals counts k) intervals_fill v m t (omega arith) l
