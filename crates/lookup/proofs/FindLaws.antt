-- The lines of a tank: tanks never fall from line to line, so that its lines follow each other. Assumes nothing.
use Rattle.std.specs.Prelude.{◌≡◌, refl, Bool, true, false, cond, List, [], ◌++◌, map, ℕ, zero, suc, ◌+◌, ◌-◌, ◌*◌, ◌≤◌, ◌<◌, eqb, ltb, length, take, drop}
use Rattle.std.proofs.Common.{sym, ap, ◌∙◌, arith, length-drop, take-add, drop-drop, length-take-le, eqb-true, ne_eqb, ltb-true, ltb-false}
use Rattle.std.proofs.lemmas.Bool.{eqb-false}
use Rattle.common.specs.Lists.{range, part}
use Rattle.common.specs.ListLaws.{part_none}
use Rattle.common.specs.FromFirst.{from_first}
use Rattle.line.specs.Layout.{line_bytes}
use Rattle.line.specs.Line.{value_at}
use Rattle.checks.specs.Sheet.{line_at, job_at}
use Rattle.lookup.specs.LookUp.{tank_lines, first_line}
use Rattle.lookup.specs.Parts.{line_after}
use Rattle.checks.specs.RangeLaws.{JobsInRange}

-- the tank on line i
abbrev pub tank_at : List ℕ → ℕ → ℕ
tank_at b i = value_at (line_at b i) 0

-- Tanks never fall -----------------------------------------------------------------------

-- .. among n lines from line i on
abbrev pub NeverFall : List ℕ → ℕ → ℕ → Type 0
NeverFall b i n = (j k : ℕ) → i ≤ j → j ≤ k → k < i + n → tank_at b j ≤ tank_at b k

rising_after : (b : List ℕ) (slots before until i n : ℕ) → JobsInRange 1 slots before until (map (job_at b) (range i n)) → (k : ℕ) → i ≤ k → k < i + n → before ≤ tank_at b k
unfolding job_at
rising_after b slots before until i zero h k p q = absurd (omega arith)
rising_after b slots before until i (suc n) h k p q =
    from_first (λ m. before ≤ tank_at b m) i k p h.0.rising (λ l. omega (arith, h.0.rising, rising_after b slots (tank_at b i) _ (suc i) n h.1 k l (omega arith)))

pub tanks_never_fall : (b : List ℕ) (slots before until i n : ℕ) → JobsInRange 1 slots before until (map (job_at b) (range i n)) → NeverFall b i n
unfolding job_at
tanks_never_fall b slots before until i zero h j k p q r = absurd (omega arith)
tanks_never_fall b slots before until i (suc n) h j k p q r =
    from_first
    (λ m. m ≤ k → tank_at b m ≤ tank_at b k)
    i
    j
    p
    (λ l. from_first (λ m. tank_at b i ≤ tank_at b m) i k l (omega arith) (λ m. rising_after b slots (tank_at b i) _ (suc i) n h.1 k m (omega arith)))
    (λ l m. tanks_never_fall b slots (tank_at b i) _ (suc i) n h.1 j k l m (omega arith))
    q

-- The lines of a tank ----------------------------------------------------------------------

-- no line from line i up to line j has the tank
abbrev pub NoneHas : List ℕ → ℕ → ℕ → ℕ → Type 0
NoneHas b tank i j = (k : ℕ) → i ≤ k → k < j → tank_at b k ≡ tank → ⊥

-- each of them has it
abbrev pub AllHave : List ℕ → ℕ → ℕ → ℕ → Type 0
AllHave b tank i j = (k : ℕ) → i ≤ k → k < j → tank_at b k ≡ tank

pub tank_lines_none : (b : List ℕ) (tank i n : ℕ) → NoneHas b tank i (i + n) → tank_lines b tank i n ≡ []
unfolding tank_lines
tank_lines_none b tank i zero f = refl
tank_lines_none b tank i (suc n) f =
    rw (ne_eqb (tank_at b i) tank (f i (omega arith) (omega arith))) (tank_lines_none b tank (suc i) n (λ j p q. f j (omega arith) (omega arith)))

-- lines of a tank that are not empty have one that is of the tank
pub tank_lines_some : (b : List ℕ) (tank i n : ℕ) → (tank_lines b tank i n ≡ [] → ⊥) → (k : ℕ) × (i ≤ k) × (k < i + n) × (tank_at b k ≡ tank)
unfolding tank_lines
tank_lines_some b tank i zero h = absurd (h refl)
tank_lines_some b tank i (suc n) h = go (eqb (tank_at b i) tank) refl h (tank_lines_some b tank (suc i) n)
  where
    go : (t : Bool) → eqb (tank_at b i) tank ≡ t → (cond t (line_at b i) [] ++ tank_lines b tank (suc i) n ≡ [] → ⊥)
        → ((tank_lines b tank (suc i) n ≡ [] → ⊥) → (k : ℕ) × (suc i ≤ k) × (k < suc i + n) × (tank_at b k ≡ tank))
        → (k : ℕ) × (i ≤ k) × (k < i + suc n) × (tank_at b k ≡ tank)
    go true e g r = (i, omega arith, omega arith, eqb-true (tank_at b i) tank e)
    go false e g r =
        let s = r g in
        (s.0, omega (arith, s.1), omega (arith, s.2), s.3)

-- a line, and the lines after it up to line e
line_and_rest : (b : List ℕ) (i e : ℕ) → suc i ≤ e → line_at b i ++ part (line_bytes * suc i) (line_bytes * e) b ≡ part (line_bytes * i) (line_bytes * e) b
unfolding line_at
line_and_rest b i e h =
    sym
    (ap (λ n. take n (drop (line_bytes * i) b)) size
    ∙ take-add line_bytes (line_bytes * e - line_bytes * suc i) (drop (line_bytes * i) b)
    ∙ ap (λ (r : List ℕ). line_at b i ++ take (line_bytes * e - line_bytes * suc i) r) (drop-drop line_bytes (line_bytes * i) b ∙ ap (λ n. drop n b) next))
  where
    size : line_bytes * e - line_bytes * i ≡ line_bytes + (line_bytes * e - line_bytes * suc i)
    size = omega arith

    next : line_bytes * i + line_bytes ≡ line_bytes * suc i
    next = omega arith

-- r is the first of n lines from line i on that is not of the tank, or the line after them
pub record After (b : List ℕ) (tank i n r : ℕ) : Type 0 where
  pub from : i ≤ r
  pub to : r ≤ i + n
  pub all : AllHave b tank i r
  pub stops : r < i + n → tank_at b r ≡ tank → ⊥

pub line_after_after : (b : List ℕ) (tank i n : ℕ) → After b tank i n (line_after b tank i n)
unfolding line_after
line_after_after b tank i zero = record { from = omega arith; to = omega arith; all = λ k p q. absurd (omega arith); stops = λ l e. absurd (omega arith) }
line_after_after b tank i (suc n) = go (eqb (tank_at b i) tank) refl (line_after_after b tank (suc i) n)
  where
    go : (t : Bool) → eqb (tank_at b i) tank ≡ t → After b tank (suc i) n (line_after b tank (suc i) n) → After b tank i (suc n) (cond t (line_after b tank (suc i) n) i)
    go true e r =
        record {
          from = omega (arith, r.from);
          to = omega (arith, r.to);
          all = λ k p q. from_first (λ m. tank_at b m ≡ tank) i k p (eqb-true (tank_at b i) tank e) (λ l. r.all k l q);
          stops = λ l. r.stops (omega arith);
        }
    go false e r = record { from = omega arith; to = omega arith; all = λ k p q. absurd (omega arith); stops = λ l. eqb-false (tank_at b i) tank e }

-- r is the first of n lines from line i on that is of the tank, or the line after them
pub record First (b : List ℕ) (tank i n r : ℕ) : Type 0 where
  pub from : i ≤ r
  pub to : r ≤ i + n
  pub none : NoneHas b tank i r
  pub has : r < i + n → tank_at b r ≡ tank

pub first_line_first : (b : List ℕ) (tank i n : ℕ) → First b tank i n (first_line b tank i n)
unfolding first_line
first_line_first b tank i zero = record { from = omega arith; to = omega arith; none = λ k p q. absurd (omega arith); has = λ l. absurd (omega arith) }
first_line_first b tank i (suc n) = go (eqb (tank_at b i) tank) refl (first_line_first b tank (suc i) n)
  where
    go : (t : Bool) → eqb (tank_at b i) tank ≡ t → First b tank (suc i) n (first_line b tank (suc i) n) → First b tank i (suc n) (cond t i (first_line b tank (suc i) n))
    go true e r = record { from = omega arith; to = omega arith; none = λ k p q. absurd (omega arith); has = λ l. eqb-true (tank_at b i) tank e }
    go false e r =
        record {
          from = omega (arith, r.from);
          to = omega (arith, r.to);
          none = λ k p q. from_first (λ m. tank_at b m ≡ tank → ⊥) i k p (eqb-false (tank_at b i) tank e) (λ l. r.none k l q);
          has = λ l. r.has (omega arith);
        }

-- there is one such line alone
pub first_same : (b : List ℕ) (tank i n r : ℕ) → First b tank i n r → r ≡ first_line b tank i n
first_same b tank i n r f = go (ltb r s) (ltb s r) refl refl
  where
    s : ℕ
    s = first_line b tank i n

    g : First b tank i n s
    g = first_line_first b tank i n

    go : (t u : Bool) → ltb r s ≡ t → ltb s r ≡ u → r ≡ s
    go true u d e = let l = ltb-true r s d in absurd (g.none r f.from l (f.has (omega (arith, g.to))))
    go false true d e = let l = ltb-true s r e in absurd (f.none s g.from l (g.has (omega (arith, f.to))))
    go false false d e = omega (arith, ltb-false r s d, ltb-false s r e)

pub after_same : (b : List ℕ) (tank i n r : ℕ) → After b tank i n r → r ≡ line_after b tank i n
after_same b tank i n r f = go (ltb r s) (ltb s r) refl refl
  where
    s : ℕ
    s = line_after b tank i n

    g : After b tank i n s
    g = line_after_after b tank i n

    go : (t u : Bool) → ltb r s ≡ t → ltb s r ≡ u → r ≡ s
    go true u d e = let l = ltb-true r s d in absurd (f.stops (omega (arith, g.to)) (g.all r f.from l))
    go false true d e = let l = ltb-true s r e in absurd (g.stops (omega (arith, f.to)) (f.all s g.from l))
    go false false d e = omega (arith, ltb-false r s d, ltb-false s r e)

-- from a line of the tank on, its lines are those up to the first that is not of it
tank_lines_run : (b : List ℕ) (tank i n : ℕ) → NeverFall b i n → (0 < n → tank ≤ tank_at b i)
    → tank_lines b tank i n ≡ part (line_bytes * i) (line_bytes * line_after b tank i n) b
unfolding tank_lines line_after
tank_lines_run b tank i zero f h = sym (part_none b (line_bytes * i))
tank_lines_run b tank i (suc n) f h =
    go (eqb (tank_at b i) tank) refl (tank_lines_run b tank (suc i) n (λ j k p q r. f j k (omega arith) q (omega arith)) (λ l. omega (arith, h (omega arith), f i (suc i) (omega arith) (omega arith) (omega arith))))
  where
    rest : List ℕ
    rest = tank_lines b tank (suc i) n

    after : ℕ
    after = line_after b tank (suc i) n

    go : (t : Bool) → eqb (tank_at b i) tank ≡ t → rest ≡ part (line_bytes * suc i) (line_bytes * after) b
        → cond t (line_at b i) [] ++ rest ≡ part (line_bytes * i) (line_bytes * cond t after i) b
    go true e r = ap (λ (x : List ℕ). line_at b i ++ x) r ∙ line_and_rest b i after (line_after_after b tank (suc i) n).from
    go false e r =
        let above : tank < tank_at b i = let n = eqb-false (tank_at b i) tank e in omega (arith, h (omega arith)) in
        tank_lines_none b tank (suc i) n (λ k p q u. absurd (omega (arith, f i k (omega arith) (omega arith) (omega arith))))
        ∙ sym (part_none b (line_bytes * i))

-- Tanks that never fall have the lines of a tank as one part: from its first line up to the first after it that is not of the tank.
pub tank_lines_part : (b : List ℕ) (tank i n : ℕ) → NeverFall b i n
    → let f = first_line b tank i n in tank_lines b tank i n ≡ part (line_bytes * f) (line_bytes * line_after b tank f (i + n - f)) b
unfolding tank_lines first_line
tank_lines_part b tank i zero f = tank_lines_run b tank i zero f (λ l. absurd (omega arith)) ∙ ap (λ k. part (line_bytes * i) (line_bytes * line_after b tank i k) b) (none i)
  where
    none : (i : ℕ) → 0 ≡ i + 0 - i
    none i = omega arith
tank_lines_part b tank i (suc n) f = go (eqb (tank_at b i) tank) refl (tank_lines_part b tank (suc i) n (λ j k p q r. f j k (omega arith) q (omega arith)))
  where
    next : ℕ
    next = first_line b tank (suc i) n

    all : (i : ℕ) → suc n ≡ i + suc n - i
    all i = omega arith

    same : (i : ℕ) → suc i + n ≡ i + suc n
    same i = omega arith

    go : (t : Bool) → eqb (tank_at b i) tank ≡ t → tank_lines b tank (suc i) n ≡ part (line_bytes * next) (line_bytes * line_after b tank next (suc i + n - next)) b
        → cond t (line_at b i) [] ++ tank_lines b tank (suc i) n
        ≡ part (line_bytes * cond t i next) (line_bytes * line_after b tank (cond t i next) (i + suc n - cond t i next)) b
    go true e r =
        ap (λ t. cond t (line_at b i) [] ++ tank_lines b tank (suc i) n) (sym e)
        ∙ tank_lines_run b tank i (suc n) f (λ l. omega (arith, eqb-true (tank_at b i) tank e))
        ∙ ap (λ k. part (line_bytes * i) (line_bytes * line_after b tank i k) b) (all i)
    go false e r = r ∙ ap (λ k. part (line_bytes * next) (line_bytes * line_after b tank next (k - next)) b) (same i)

pub length_part : (b : List ℕ) (from end : ℕ) → from ≤ end → end ≤ length b → length (part from end b) ≡ end - from
length_part b from end h l = length-take-le (end - from) (drop from b) (omega (arith, length-drop from b))
