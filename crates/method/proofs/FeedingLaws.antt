-- The chosen placing: it is sound with the counts as both bounds, in each cell it feeds the ration if some sound placing with these counts and
-- all choices made before does so, and it is the only one that does: so the order of the enumeration does not matter. Assumes nothing.
use Rattle.std.specs.Prelude.{◌≡◌, refl, ◌⊎◌, ◌↔◌, Bool, true, false, ℕ, zero, suc, ◌≤◌, ◌<◌, eqb, length, get_or}
use Rattle.std.proofs.Math.Path.{sym}
use Rattle.std.proofs.Common.{◌∙◌, ap, inl, inr, ext_get_or, eqb-true, eq-eqb}
use Rattle.std.proofs.lemmas.Bool.{false≢true}
use mathlib.Core.List.Memᴰ
use mathlib.Core.List.{List, [], ◌∷◌, ◌++◌, foldl, Memᴰ}
use native.Mathlib.Omega.{arith}
use Rattle.common.specs.Lists.{same, keep, first_or, or_else}
use Rattle.common.specs.Tests.{and_true, bool_ext}
use Rattle.theory.proofs.Move.{upd_true}
use Rattle.schedules.specs.Schedules.{Demand, Schedule, Sound, Windows, schedules, load, feasible}
use Rattle.schedules.proofs.ListLaws.{in_keep, to_keep}
use Rattle.schedules.proofs.EnumerationLaws.{schedules_mem}
use Rattle.schedules.specs.AsFunctions.{Rows, fed}
use Rattle.schedules.proofs.AsFunctions.{length_load}
use Rattle.schedules.proofs.FeasibleLaws.{feasible_sound, sound_feasible}
use Rattle.method.specs.Feedings.{fed_at, prefer, cells, with_counts, chosen, before, SameIn, Greedy}
use Rattle.method.proofs.FeedingCells.{before_first, before_slot, before_next, before_next_slot, cells_split}

-- Placings with the counts ----------------------------------------------------

pub same_eq : (xs ys : List ℕ) → same xs ys ≡ true → xs ≡ ys
same_eq [] [] e = refl
same_eq [] (y ∷ ys) e = absurd (false≢true e)
same_eq (x ∷ xs) [] e = absurd (false≢true e)
same_eq (x ∷ xs) (y ∷ ys) e =
    let r = and_true (eqb x y) (same xs ys) e in
    ap (λ z. z ∷ xs) (eqb-true x y r.0) ∙ ap (λ zs. y ∷ zs) (same_eq xs ys r.1)

pub same_self : (xs : List ℕ) → same xs xs ≡ true
same_self [] = refl
same_self (x ∷ xs) = rw (eq-eqb x x refl, same_self xs)

module _ {slots : ℕ} {ds : List Demand} (w : Windows slots ds) {counts : List ℕ} (l : length counts ≡ slots) where
  -- they are the sound placings with the counts as both bounds
  pub with_counts_sound : (p : Schedule) → Memᴰ p (with_counts slots ds counts) → Sound slots ds counts counts p
  unfolding with_counts
  with_counts_sound p i =
      let r = in_keep (λ p. same (load slots p) counts) (schedules ds) i in
      let s = (schedules_mem ds p).0 r.0 in
      let e = same_eq (load slots p) counts r.1 in
      record { for_each = s.for_each; served = s.served; bounded = λ t k. rw e (omega arith, omega arith) }

  pub sound_with_counts : (p : Schedule) → Sound slots ds counts counts p → Memᴰ p (with_counts slots ds counts)
  unfolding with_counts
  sound_with_counts p s =
      to_keep (λ p. same (load slots p) counts) ((schedules_mem ds p).1 (record { for_each = s.for_each; served = s.served }))
      (rw (ext_get_or 0 (load slots p) counts (k ∙ sym l) (λ t m. omega (arith, s.bounded t (omega (arith, k))))) (same_self counts))
    where
      rows : Rows slots p
      rows j m = let b = rw s.for_each at m in (s.served j b).same_day ∙ w.all_day j b

      k : length (load slots p) ≡ slots
      k = length_load p rows

-- Cell after cell -------------------------------------------------------------

-- what is left after a cell was left before it, and feeds the cell if anything left before it does
in_prefer : (ps : List Schedule) (c : ℕ × ℕ) (p : Schedule) → Memᴰ p (prefer ps c)
    → Memᴰ p ps × ((q : Schedule) → Memᴰ q ps → fed_at c.0 c.1 q ≡ true → fed_at c.0 c.1 p ≡ true)
unfolding prefer
in_prefer ps c p = go (keep (fed_at c.0 c.1) ps) refl
  where
    f : Schedule → Bool
    f = fed_at c.0 c.1

    go : (ks : List Schedule) → keep f ps ≡ ks → Memᴰ p (or_else ks ps) → Memᴰ p ps × ((q : Schedule) → Memᴰ q ps → f q ≡ true → f p ≡ true)
    go [] e i = (i, λ q k h. absurd (Memᴰ.not-nil (rw e at (to_keep f k h))))
    go (x ∷ ks) e i = let r = in_keep f ps (rw (← e) at i) in (r.0, λ q k h. r.1)

-- and so is every other with the same choice
to_prefer : (ps : List Schedule) (c : ℕ × ℕ) (p q : Schedule) → Memᴰ p (prefer ps c) → Memᴰ q ps
    → fed_at c.0 c.1 q ≡ fed_at c.0 c.1 p → Memᴰ q (prefer ps c)
unfolding prefer
to_prefer ps c p q i k h = go (keep (fed_at c.0 c.1) ps) refl i
  where
    f : Schedule → Bool
    f = fed_at c.0 c.1

    go : (ks : List Schedule) → keep f ps ≡ ks → Memᴰ p (or_else ks ps) → Memᴰ q (or_else ks ps)
    go [] e i = k
    go (x ∷ ks) e i = rw e at (to_keep f k (h ∙ (in_keep f ps (rw (← e) at i)).1))

prefer_some : (ps : List Schedule) (c : ℕ × ℕ) (p : Schedule) → Memᴰ p ps → (q : Schedule) × Memᴰ q (prefer ps c)
unfolding prefer
prefer_some ps c p i = go (keep (fed_at c.0 c.1) ps)
  where
    go : (ks : List Schedule) → (q : Schedule) × Memᴰ q (or_else ks ps)
    go [] = (p, i)
    go (x ∷ ks) = (x, Memᴰ.head refl)

-- All cells -------------------------------------------------------------------

left_within : (cs : List (ℕ × ℕ)) (ps : List Schedule) (p : Schedule) → Memᴰ p (foldl prefer ps cs) → Memᴰ p ps
left_within [] ps p i = i
left_within (c ∷ cs) ps p i = (in_prefer ps c p (left_within cs (prefer ps c) p i)).0

left_some : (cs : List (ℕ × ℕ)) (ps : List Schedule) (p : Schedule) → Memᴰ p ps → (q : Schedule) × Memᴰ q (foldl prefer ps cs)
left_some [] ps p i = (p, i)
left_some (c ∷ cs) ps p i = let r = prefer_some ps c p i in left_some cs (prefer ps c) r.0 r.1

-- what is left feeds a cell if anything with the same choices in the cells before it does
left_greedy : (front : List (ℕ × ℕ)) (c : ℕ × ℕ) (back : List (ℕ × ℕ)) (ps : List Schedule) (p q : Schedule) → Memᴰ p (foldl prefer ps (front ++ c ∷ back))
    → Memᴰ q ps → ((a : ℕ × ℕ) → Memᴰ a front → fed_at a.0 a.1 q ≡ fed_at a.0 a.1 p)
    → fed_at c.0 c.1 q ≡ true → fed_at c.0 c.1 p ≡ true
left_greedy [] c back ps p q i k h e = (in_prefer ps c p (left_within back (prefer ps c) p i)).1 q k e
left_greedy (a ∷ front) c back ps p q i k h e =
    left_greedy front c back (prefer ps a) p q i
    (to_prefer ps a p q (left_within (front ++ c ∷ back) (prefer ps a) p i) k (h a (Memᴰ.head refl)))
    (λ b m. h b (Memᴰ.tail m)) e

first_mem : {A : Type 0} (z : A) (l : List A) (a : A) → Memᴰ a l → Memᴰ (first_or z l) l
first_mem z [] a i = absurd (Memᴰ.not-nil i)
first_mem z (x ∷ l) a i = Memᴰ.head refl

module _ {slots : ℕ} {ds : List Demand} (w : Windows slots ds) {counts : List ℕ} (l : length counts ≡ slots) where
  left_is_greedy : (p : Schedule) → Memᴰ p (foldl prefer (with_counts slots ds counts) (cells slots (length ds))) → Greedy slots ds counts p
  left_is_greedy p i = record {
    sound = with_counts_sound w l p (left_within (cells slots (length ds)) (with_counts slots ds counts) p i);
    fed_if_some = λ t j a b q s h e.
        let r = cells_split slots (length ds) t j a b in
        left_greedy r.0 (t, j) r.1 (with_counts slots ds counts) p q (rw r.2 at i) (sound_with_counts w l q s)
        (λ c m. let k = r.3 c m in h c.1 c.0 k.1 k.0 k.2) e;
  }

  -- where a placing with the counts exists, the chosen one is greedy
  pub chosen_greedy : feasible slots ds counts counts ≡ true → Greedy slots ds counts (chosen slots ds counts)
  unfolding chosen
  chosen_greedy e =
      let s = feasible_sound w l l e in
      let r = left_some (cells slots (length ds)) (with_counts slots ds counts) s.0 (sound_with_counts w l s.0 s.1) in
      left_is_greedy (chosen slots ds counts) (first_mem [] _ r.0 r.1)

-- One greedy placing only -----------------------------------------------------

-- two sound placings with the same feedings are the same
pub sound_ext : {slots : ℕ} {ds : List Demand} → Windows slots ds → {counts : List ℕ} {p q : Schedule} → Sound slots ds counts counts p
    → Sound slots ds counts counts q → ((j t : ℕ) → j < length ds → t < slots → fed p j t ≡ fed q j t) → p ≡ q
sound_ext {slots} {ds} w {counts} {p} {q} a b h =
    ext_get_or [] p q (a.for_each ∙ sym b.for_each)
    (λ j l. let k = rw a.for_each at l in
    ext_get_or false (get_or p j []) (get_or q j []) (day a j k ∙ sym (day b j k)) (λ t m. h j t k (rw (day a j k) at m)))
  where
    day : {p : Schedule} → Sound slots ds counts counts p → (j : ℕ) → j < length ds → length (get_or p j []) ≡ slots
    day s j k = (s.served j k).same_day ∙ w.all_day j k

module _ {slots : ℕ} {ds : List Demand} {counts : List ℕ} {p q : Schedule} (a : Greedy slots ds counts p) (b : Greedy slots ds counts q) where
  same_next : (t j : ℕ) → t < slots → j < length ds → SameIn slots (length ds) (before t j) p q → SameIn slots (length ds) (before t (suc j)) p q
  same_next t j l k h i u m n e = go (upd_true (before t j) j t true i u (sym (before_next t j i u) ∙ e))
    where
      go : ((i ≡ j) × (u ≡ t) × (true ≡ true)) ⊎ (before t j i u ≡ true) → fed p i u ≡ fed q i u
      go (inl r) =
          rw (r.0, r.1)
          (bool_ext (fed p j t) (fed q j t) (b.fed_if_some t j l k p a.sound h) (a.fed_if_some t j l k q b.sound (λ i u m n e. sym (h i u m n e))))
      go (inr e) = h i u m n e

  same_slot : (t : ℕ) → t < slots → SameIn slots (length ds) (before t 0) p q → (j : ℕ) → j ≤ length ds → SameIn slots (length ds) (before t j) p q
  same_slot t l h zero k = h
  same_slot t l h (suc j) k = same_next t j l (omega arith) (same_slot t l h j (omega arith))

  same_before : (t : ℕ) → t ≤ slots → SameIn slots (length ds) (before t 0) p q
  same_before zero l i u m n e = absurd (false≢true (sym (before_first i u) ∙ e))
  same_before (suc t) l i u m n e =
      same_slot t (omega arith) (same_before t (omega arith)) (length ds) (omega arith) i u m n (sym (before_next_slot (length ds) t i u m) ∙ e)

  -- two greedy placings are the same
  pub greedy_unique : Windows slots ds → p ≡ q
  greedy_unique w =
      sound_ext w a.sound b.sound (λ j t l k. same_before slots (omega arith) j t l k (before_slot slots 0 j t k))

module _ {slots : ℕ} {ds : List Demand} (w : Windows slots ds) (counts : List ℕ) (l : length counts ≡ slots) where
  -- so a greedy placing is the chosen one
  pub greedy_chosen : {p : Schedule} → Greedy slots ds counts p → p ≡ chosen slots ds counts
  greedy_chosen g = greedy_unique g (chosen_greedy w l (sound_feasible w l l g.sound)) w

  -- and it is the only one left after all cells
  pub left_is_chosen : (p : Schedule) → Memᴰ p (foldl prefer (with_counts slots ds counts) (cells slots (length ds))) → p ≡ chosen slots ds counts
  left_is_chosen p i = greedy_chosen (left_is_greedy w l p i)

  module _ (e : feasible slots ds counts counts ≡ true) where
    pub chosen_sound : Sound slots ds counts counts (chosen slots ds counts)
    chosen_sound = (chosen_greedy w l e).sound

    -- a placing with the same choice in every cell is the chosen one
    pub chosen_unique : (p : Schedule) → Sound slots ds counts counts p
        → ((j t : ℕ) → j < length ds → t < slots → fed p j t ≡ fed (chosen slots ds counts) j t) → p ≡ chosen slots ds counts
    chosen_unique p s = sound_ext w s chosen_sound

    -- document 01: a ration is fed if some sound placing with these counts and all choices made before does so
    pub chosen_fed_iff : (t j : ℕ) → t < slots → j < length ds → (fed_at t j (chosen slots ds counts) ≡ true)
        ↔ ((p : Schedule) × Sound slots ds counts counts p × SameIn slots (length ds) (before t j) p (chosen slots ds counts) × (fed_at t j p ≡ true))
    chosen_fed_iff t j a b = (
      λ h. (chosen slots ds counts, chosen_sound, (λ i u m n e. refl), h),
      λ r. (chosen_greedy w l e).fed_if_some t j a b r.0 r.1 r.2 r.3,
    )
