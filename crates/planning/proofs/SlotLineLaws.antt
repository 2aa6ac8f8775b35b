-- The feed lines of one slot: their blowers, as many as the slot's load, and which of them pass a test on the tank. Assumes nothing.
use Rattle.std.specs.Prelude.{◌≡◌, Bool, true, false, cond, length, get_or}
use Rattle.std.proofs.Math.Path.{refl}
use Rattle.std.proofs.Common.{sym, ap, ap₂, ◌∙◌}
use mathlib.Core.List.{List, [], ◌∷◌, ◌++◌, map, Memᴰ}
use Prim.Native.Nat.{ℕ, zero, suc, ◌≤◌, ◌<◌}
use Rattle.std.proofs.Math.Nat.{suc_inj}
use native.Mathlib.Omega.{arith}
use Rattle.std.proofs.lemmas.List.{get_or-replicate}
use Rattle.common.specs.Lists.{range, keep, zip_with}
use Rattle.schedules.specs.Slots.{Slots, has}
use Rattle.schedules.specs.Schedules.{Schedule, one_more, load}
use Rattle.schedules.specs.Tabulate.{get_d_zip_with}
use Rattle.schedules.specs.AsFunctions.{Rows}
use Rattle.schedules.proofs.AsFunctions.{length_load}
use Rattle.plan_lines.specs.Lines.{Line, fed_in, feed_line, slot_lines}
use Rattle.planning.proofs.ListLaws.{in_zip_with}

-- rations by their tanks and the slots in which they are fed
abbrev pub ration_rows : List ℕ → Schedule → List (ℕ × Slots)
ration_rows tanks p = zip_with (λ a c. (a, c)) tanks p

pub rows_tail : (slots : ℕ) (c : Slots) (p : Schedule) → Rows slots (c ∷ p) → Rows slots p
rows_tail slots c p h j l = h (suc j) (omega arith)

-- The lines of one slot -------------------------------------------------------------

-- those of fed rations, by blowers from k on
abbrev pub lines_from : (t k : ℕ) → List (ℕ × Slots) → List Line
lines_from t k rs = zip_with (feed_line t) (range k (length rs)) rs

pub blowers_from : (t k : ℕ) (rs : List (ℕ × Slots)) → map (λ l. l.b) (lines_from t k rs) ≡ range k (length rs)
unfolding feed_line
blowers_from t k [] = refl
blowers_from t k (r ∷ rs) = ap (λ l. k ∷ l) (blowers_from t (suc k) rs)

pub length_lines_from : (t k : ℕ) (rs : List (ℕ × Slots)) → length (lines_from t k rs) ≡ length rs
length_lines_from t k [] = refl
length_lines_from t k (r ∷ rs) = ap suc (length_lines_from t (suc k) rs)

pub of_slot : (t : ℕ) (rows : List (ℕ × Slots)) (l : Line) → Memᴰ l (slot_lines t rows) → l.a ≡ suc t
unfolding slot_lines feed_line
of_slot t rows l m = ap (λ (x : Line). x.a) (in_zip_with (feed_line t) (range 1 (length (fed_in t rows))) (fed_in t rows) m).4

-- as many rations are fed as the load says
pub length_fed_in : (slots t : ℕ) → t < slots → (tanks : List ℕ) (p : Schedule) → length tanks ≡ length p → Rows slots p
    → length (fed_in t (ration_rows tanks p)) ≡ get_or (load slots p) t 0
unfolding fed_in load
length_fed_in slots t l [] [] e h = sym (get_or-replicate slots t 0 0 l)
length_fed_in slots t l [] (c ∷ p) e h = absurd (omega arith)
length_fed_in slots t l (a ∷ tanks) [] e h = absurd (omega arith)
length_fed_in slots t l (a ∷ tanks) (c ∷ p) e h =
    go (has c t) (length_fed_in slots t l tanks p (suc_inj e) (rows_tail slots c p h))
    ∙ sym (get_d_zip_with one_more c (load slots p) false 0 0 t (rw (h zero (omega arith)) l) (rw (length_load p (rows_tail slots c p h)) l))
  where
    go : (b : Bool) → length (fed_in t (ration_rows tanks p)) ≡ get_or (load slots p) t 0
        → length (cond b ((a, c) ∷ []) [] ++ fed_in t (ration_rows tanks p)) ≡ one_more b (get_or (load slots p) t 0)
    go true ih = ap suc ih
    go false ih = ih

-- The lines of one slot that pass a test on the tank ----------------------------------------

module _ (t : ℕ) (f : Line → Bool) (q : ℕ → Bool) (test : (k : ℕ) (r : ℕ × Slots) → f (feed_line t k r) ≡ q r.0) where
  -- no line, where no fed ration's tank passes
  pub lines_none : (k : ℕ) (tanks : List ℕ) (p : Schedule) → length tanks ≡ length p
      → ((o : ℕ) → o < length p → has (get_or p o []) t ≡ true → q (get_or tanks o 0) ≡ false) → keep f (lines_from t k (fed_in t (ration_rows tanks p))) ≡ []
  unfolding fed_in
  lines_none k [] [] e h = refl
  lines_none k [] (c ∷ p) e h = absurd (omega arith)
  lines_none k (x ∷ tanks) [] e h = absurd (omega arith)
  lines_none k (x ∷ tanks) (c ∷ p) e h = go (has c t) refl (λ k. lines_none k tanks p (suc_inj e) (λ o l. h (suc o) (omega arith)))
    where
      rest : List (ℕ × Slots)
      rest = fed_in t (ration_rows tanks p)

      go : (b : Bool) → has c t ≡ b → ((k : ℕ) → keep f (lines_from t k rest) ≡ []) → keep f (lines_from t k (cond b ((x, c) ∷ []) [] ++ rest)) ≡ []
      go true g ih = rw (test k (x, c), h zero (omega arith) g) (ih (suc k))
      go false g ih = ih k

  -- at most one line, where at most one fed ration's tank passes
  pub lines_at_most_one : (k : ℕ) (tanks : List ℕ) (p : Schedule) → length tanks ≡ length p
      → ((i o : ℕ) → i < length p → o < length p → has (get_or p i []) t ≡ true → has (get_or p o []) t ≡ true → q (get_or tanks i 0) ≡ true → q (get_or tanks o 0) ≡ true → o ≡ i)
      → length (keep f (lines_from t k (fed_in t (ration_rows tanks p)))) ≤ 1
  unfolding fed_in
  lines_at_most_one k [] [] e h = omega arith
  lines_at_most_one k [] (c ∷ p) e h = absurd (omega arith)
  lines_at_most_one k (x ∷ tanks) [] e h = absurd (omega arith)
  lines_at_most_one k (x ∷ tanks) (c ∷ p) e h =
      go (has c t) refl (q x) refl (λ k. lines_at_most_one k tanks p (suc_inj e) (λ i o l m a b y z. suc_inj (h (suc i) (suc o) (omega arith) (omega arith) a b y z)))
    where
      rest : List (ℕ × Slots)
      rest = fed_in t (ration_rows tanks p)

      -- after a line that passes there is none
      none : has c t ≡ true → q x ≡ true → (k : ℕ) → keep f (lines_from t k rest) ≡ []
      none g y k = lines_none k tanks p (suc_inj e) (λ o l a. other o l a (q (get_or tanks o 0)) refl)
        where
          other : (o : ℕ) → o < length p → has (get_or p o []) t ≡ true → (b : Bool) → q (get_or tanks o 0) ≡ b → b ≡ false
          other o l a true z = absurd (omega (arith, h zero (suc o) (omega arith) (omega arith) g a y z))
          other o l a false z = refl

      go : (b : Bool) → has c t ≡ b → (d : Bool) → q x ≡ d → ((k : ℕ) → length (keep f (lines_from t k rest)) ≤ 1)
          → length (keep f (lines_from t k (cond b ((x, c) ∷ []) [] ++ rest))) ≤ 1
      go true g true y ih = rw (test k (x, c), y, none g y (suc k)) (omega arith)
      go true g false y ih = rw (test k (x, c), y) (ih (suc k))
      go false g d y ih = ih k

  -- the line of one ration, where no other fed ration's tank passes
  module _ {A : Type 0} (g : Line → A) (h : ℕ × Slots → A) (same : (k : ℕ) (r : ℕ × Slots) → g (feed_line t k r) ≡ h r) where
    pub lines_one : (k : ℕ) (tanks : List ℕ) (p : Schedule) → length tanks ≡ length p → (i : ℕ) → i < length p
        → (has (get_or p i []) t ≡ true → q (get_or tanks i 0) ≡ true)
        → ((o : ℕ) → o < length p → (o ≡ i → ⊥) → has (get_or p o []) t ≡ true → q (get_or tanks o 0) ≡ false)
        → map g (keep f (lines_from t k (fed_in t (ration_rows tanks p)))) ≡ cond (has (get_or p i []) t) (h (get_or tanks i 0, get_or p i []) ∷ []) []
    unfolding fed_in
    lines_one k [] [] e i l own others = absurd (omega arith)
    lines_one k [] (c ∷ p) e i l own others = absurd (omega arith)
    lines_one k (x ∷ tanks) [] e i l own others = absurd (omega arith)
    lines_one k (x ∷ tanks) (c ∷ p) e zero l own others = go (has c t) refl
      where
        rest : List (ℕ × Slots)
        rest = fed_in t (ration_rows tanks p)

        none : (k : ℕ) → map g (keep f (lines_from t k rest)) ≡ []
        none k = ap (map g) (lines_none k tanks p (suc_inj e) (λ o l. others (suc o) (omega arith) (λ z. omega arith)))

        go : (b : Bool) → has c t ≡ b → map g (keep f (lines_from t k (cond b ((x, c) ∷ []) [] ++ rest))) ≡ cond b (h (x, c) ∷ []) []
        go true z = rw (test k (x, c), own z) (ap₂ (λ (y : A) (ys : List A). y ∷ ys) (same k (x, c)) (none (suc k)))
        go false z = none k
    lines_one k (x ∷ tanks) (c ∷ p) e (suc i) l own others =
        go (has c t) refl (λ k. lines_one k tanks p (suc_inj e) i (omega arith) own (λ o l n. others (suc o) (omega arith) (λ z. n (suc_inj z))))
      where
        rest : List (ℕ × Slots)
        rest = fed_in t (ration_rows tanks p)

        goal : List A
        goal = cond (has (get_or p i []) t) (h (get_or tanks i 0, get_or p i []) ∷ []) []

        go : (b : Bool) → has c t ≡ b → ((k : ℕ) → map g (keep f (lines_from t k rest)) ≡ goal) → map g (keep f (lines_from t k (cond b ((x, c) ∷ []) [] ++ rest))) ≡ goal
        go true z ih = rw (test k (x, c), others zero (omega arith) (λ z. omega arith) z) (ih (suc k))
        go false z ih = ih k
