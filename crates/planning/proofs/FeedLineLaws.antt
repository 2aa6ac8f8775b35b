-- The feed lines of a placing: those of a meal have the slots in which it is fed, rising, and the parts 1, 2, ..; those of a slot have the blowers
-- 1, 2, .., as many as the slot's load. The placing is read back from them. Assumes nothing.
use Rattle.std.specs.Prelude.{◌≡◌, refl, Bool, cond, take}
use Rattle.std.proofs.Math.Path.{sym, ap, ap₂}
use Rattle.std.proofs.Common.{◌∙◌, true≢false, take_all}
use Rattle.std.proofs.Math.Bool.{true, false}
use mathlib.Core.List.Memᴰ
use mathlib.Core.List.{List, [], ◌∷◌, ◌++◌, map, append-nil, Memᴰ}
use Prim.Native.Nat.{ℕ, zero, suc, ◌+◌, ◌*◌, ◌≤◌, ◌<◌}
use native.Mathlib.Omega.{arith}
use Rattle.std.proofs.Math.Dec.{eqb}
use Rattle.std.proofs.Math.ListN.{length, get_or, length-map}
use Rattle.std.proofs.Math.Seq.{ext_get_or}
use borrow.Author.Tests.{eq-eqb, ne_eqb, eqb-true, eqb-false}
use Rattle.common.specs.Lists.{range, count, keep, flat_map}
use Rattle.common.specs.ListLaws.{range_snoc, flat_map_append}
use Rattle.checks.specs.Sheet.{Job}
use Rattle.schedules.specs.Slots.{Slots, has}
use Rattle.schedules.specs.Schedules.{Schedule, load}
use Rattle.schedules.specs.Tabulate.{get_d_map_below}
use Rattle.schedules.specs.AsFunctions.{Rows}
use Rattle.schedules.proofs.ListLaws.{in_flat_map, in_keep}
use Rattle.schedules.specs.DemandLaws.{no_job}
use Rattle.plan_lines.specs.Lines.{Line, part_at, fed_in, feed_line, slot_lines, feed_lines, members_from}
use Rattle.planning.specs.ReadListing.{slot_set, in_slot, of_tank, is_of, of_meal, placing_on}
use Rattle.planning.proofs.ListLaws.{in_range, flat_map_range_cong, flat_map_range_one, keep_all, keep_none, keep_flat_map, map_flat_map, in_zip_with, at_zip_with}
use Rattle.plan_lines.proofs.FeedLaws.{count_take, count_take_le}
use Rattle.plan_lines.proofs.LengthLaws.{length_flat_map_range}
use Rattle.planning.proofs.SlotSetLaws.{slot_set_members, members_from_slots}
use Rattle.planning.proofs.SlotLineLaws.{ration_rows, lines_from, blowers_from, length_lines_from, of_slot, length_fed_in, lines_at_most_one, lines_one}

-- A feeding's line is a line of its own meal, and of no other.
pub record OwnLines (jobs : List Job) (tanks : List ℕ) (p : Schedule) : Type 0 where
  pub own : (i t : ℕ) → i < length p → has (get_or p i []) t ≡ true → is_of (get_or jobs i no_job) (suc t) (get_or tanks i 0) ≡ true
  pub others : (i o t : ℕ) → i < length p → o < length p → (o ≡ i → ⊥) → has (get_or p o []) t ≡ true → is_of (get_or jobs i no_job) (suc t) (get_or tanks o 0) ≡ false

-- Parts -------------------------------------------------------------------------------

abbrev one : Bool → ℕ
one b = cond b 1 0

pub part_at_le : (c : Slots) (t : ℕ) → part_at t c ≤ suc t
unfolding part_at
part_at_le c t = count_take_le c (suc t)

-- the parts of the feedings in the first n slots
parts_before : (c : Slots) (n : ℕ) → flat_map (λ t. cond (has c t) (part_at t c ∷ []) []) (range 0 n) ≡ range 1 (count (take n c))
unfolding part_at
parts_before c zero = refl
parts_before c (suc n) =
    ap (flat_map part) (range_snoc 0 n) ∙ flat_map_append part (range 0 n) ((0 + n) ∷ [])
    ∙ ap₂ (λ (x y : List ℕ). x ++ y) (parts_before c n) (append-nil (part (0 + n)) ∙ ap part (here n))
    ∙ go (has c n) (count_take c n)
  where
    part : ℕ → List ℕ
    part t = cond (has c t) (count (take (suc t) c) ∷ []) []

    here : (n : ℕ) → 0 + n ≡ n
    here n = omega arith

    go : (b : Bool) → count (take (suc n) c) ≡ count (take n c) + one b
        → range 1 (count (take n c)) ++ cond b (count (take (suc n) c) ∷ []) [] ≡ range 1 (count (take (suc n) c))
    go true e =
        let f : count (take (suc n) c) ≡ suc (count (take n c)) = omega arith in
        let g : count (take (suc n) c) ≡ 1 + count (take n c) = omega arith in
        ap (λ x. range 1 (count (take n c)) ++ (x ∷ [])) g ∙ sym (range_snoc 1 (count (take n c))) ∙ ap (range 1) (sym f)
    go false e =
        let f : count (take n c) ≡ count (take (suc n) c) = omega arith in
        append-nil (range 1 (count (take n c))) ∙ ap (range 1) f

-- All lines -------------------------------------------------------------------------

-- by slot
pub lines_in_slot : (slots : ℕ) (tanks : List ℕ) (p : Schedule) (t : ℕ) → t < slots → in_slot (suc t) (feed_lines slots tanks p) ≡ slot_lines t (ration_rows tanks p)
unfolding in_slot feed_lines
lines_in_slot slots tanks p t l =
    keep_flat_map (λ u. slot_lines u (ration_rows tanks p)) (λ l. eqb l.a (suc t)) (range 0 slots)
    ∙ flat_map_range_one (λ u. keep (λ l. eqb l.a (suc t)) (slot_lines u (ration_rows tanks p))) t other 0 slots (omega arith) (omega arith)
    ∙ same
  where
    other : (u : ℕ) → (u ≡ t → ⊥) → keep (λ l. eqb l.a (suc t)) (slot_lines u (ration_rows tanks p)) ≡ []
    other u n =
        keep_none (λ l. eqb l.a (suc t)) (slot_lines u (ration_rows tanks p))
        (λ l m. ne_eqb l.a (suc t) (λ e. n (omega (arith, of_slot u (ration_rows tanks p) l m))))

    same : keep (λ l. eqb l.a (suc t)) (slot_lines t (ration_rows tanks p)) ≡ slot_lines t (ration_rows tanks p)
    same = keep_all (λ l. eqb l.a (suc t)) (slot_lines t (ration_rows tanks p)) (λ l m. eq-eqb l.a (suc t) (of_slot t (ration_rows tanks p) l m))

module _ (slots : ℕ) (tanks : List ℕ) (p : Schedule) (long : length tanks ≡ length p) (rows : Rows slots p) where
  abbrev lines : List Line
  lines = feed_lines slots tanks p

  in_slot_lem : (t : ℕ) → t < slots → in_slot (suc t) lines ≡ lines_from t 1 (fed_in t (ration_rows tanks p))
  unfolding slot_lines
  in_slot_lem = lines_in_slot slots tanks p

  pub blowers_in_slot : (t : ℕ) → t < slots → map (λ l. l.b) (in_slot (suc t) lines) ≡ range 1 (get_or (load slots p) t 0)
  blowers_in_slot t l =
      ap (map (λ l. l.b)) (in_slot_lem t l) ∙ blowers_from t 1 (fed_in t (ration_rows tanks p)) ∙ ap (range 1) (length_fed_in slots t l tanks p long rows)

  -- no tank has two lines in a slot
  pub one_in_slot : (jobs : List Job) → OwnLines jobs tanks p → (t tank : ℕ) → t < slots → length (of_tank tank (in_slot (suc t) lines)) ≤ 1
  unfolding of_tank feed_line
  one_in_slot jobs apart t tank l =
      rw (in_slot_lem t l)
      (lines_at_most_one t (λ l. eqb l.c tank) (λ a. eqb a tank) (λ k r. refl) 1 tanks p long
      (λ i o m n a b y z. same i o m n a b (eqb-true (get_or tanks i 0) tank y) (eqb-true (get_or tanks o 0) tank z) (eqb o i) refl))
    where
      same : (i o : ℕ) → i < length p → o < length p → has (get_or p i []) t ≡ true → has (get_or p o []) t ≡ true → get_or tanks i 0 ≡ tank → get_or tanks o 0 ≡ tank
          → (x : Bool) → eqb o i ≡ x → o ≡ i
      same i o m n a b y z true e = eqb-true o i e
      same i o m n a b y z false e =
          absurd
          (true≢false
          (sym (apart.own i t m a) ∙ ap (is_of (get_or jobs i no_job) (suc t)) (y ∙ sym z) ∙ apart.others i o t m n (eqb-false o i e) b))

  pub length_feed_lines : (c : ℕ) → ((t : ℕ) → t < slots → get_or (load slots p) t 0 ≤ c) → length lines ≤ slots * c
  unfolding feed_lines slot_lines
  length_feed_lines c h =
      length_flat_map_range (λ t. slot_lines t (ration_rows tanks p)) c 0 slots
      (λ t o l.
      omega (
        arith,
        length_lines_from t 1 (fed_in t (ration_rows tanks p)),
        length_fed_in slots t (omega arith) tanks p long rows,
        h t (omega arith),
      ))

  -- what stands on a feed line
  pub in_feed_lines : (l : Line) → Memᴰ l lines
      → (t : ℕ) × (k : ℕ) × (r : ℕ × Slots) × (t < slots) × (1 ≤ k) × (k ≤ get_or (load slots p) t 0) × Memᴰ r.0 tanks × (l ≡ feed_line t k r)
  unfolding feed_lines slot_lines fed_in
  in_feed_lines l i =
      let u = in_flat_map (λ t. slot_lines t (ration_rows tanks p)) (range 0 slots) i in
      let b = in_range 0 slots u.1 in
      let w = in_zip_with (feed_line u.0) (range 1 (length (fed_in u.0 (ration_rows tanks p)))) (fed_in u.0 (ration_rows tanks p)) u.2 in
      let d = in_range 1 (length (fed_in u.0 (ration_rows tanks p))) w.2 in
      let r = in_zip_with (λ a c. (a, c)) tanks p (in_keep (λ r. has r.1 u.0) (ration_rows tanks p) w.3).0 in (
        u.0,
        w.0,
        w.1,
        omega (arith, b.1),
        d.0,
        omega (arith, d.1, length_fed_in slots u.0 (omega (arith, b.1)) tanks p long rows),
        Memᴰ.cast (ap (λ x. x.0) r.4) r.2,
        w.4,
      )

  -- it is a line of one of the meals
  pub of_some_meal : (jobs : List Job) → OwnLines jobs tanks p → (l : Line) → Memᴰ l lines → (i : ℕ) × (i < length p) × (is_of (get_or jobs i no_job) l.a l.c ≡ true)
  unfolding feed_lines slot_lines fed_in feed_line
  of_some_meal jobs apart l m =
      let u = in_flat_map (λ t. slot_lines t (ration_rows tanks p)) (range 0 slots) m in
      let t = u.0 in
      let w = in_zip_with (feed_line t) (range 1 (length (fed_in t (ration_rows tanks p)))) (fed_in t (ration_rows tanks p)) u.2 in
      let f = in_keep (λ r. has r.1 t) (ration_rows tanks p) w.3 in
      let z = at_zip_with (λ a c. (a, c)) 0 [] tanks p f.0 in
      let fed : has (get_or p z.0 []) t ≡ true = sym (ap (λ (r : ℕ × Slots). has r.1 t) z.3) ∙ f.1 in
      let slot : l.a ≡ suc t = ap (λ (x : Line). x.a) w.4 in
      let tank : l.c ≡ get_or tanks z.0 0 = ap (λ (x : Line). x.c) w.4 ∙ ap (λ (r : ℕ × Slots). r.0) z.3 in
      (z.0, z.2, ap₂ (is_of (get_or jobs z.0 no_job)) slot tank ∙ apart.own z.0 t z.2 fed)

  -- by meal
  module _ (jobs : List Job) (apart : OwnLines jobs tanks p) (i : ℕ) (l : i < length p) where
    abbrev meal : Job
    meal = get_or jobs i no_job

    abbrev row : Slots
    row = get_or p i []

    by_slot : {A : Type 0} (g : Line → A) (h : ℕ → ℕ × Slots → A) → ((t k : ℕ) (r : ℕ × Slots) → g (feed_line t k r) ≡ h t r)
        → map g (of_meal meal lines) ≡ flat_map (λ t. cond (has row t) (h t (get_or tanks i 0, row) ∷ []) []) (range 0 slots)
    unfolding of_meal feed_lines slot_lines feed_line
    by_slot g h e =
        ap (map g) (keep_flat_map (λ t. slot_lines t (ration_rows tanks p)) (λ l. is_of meal l.a l.c) (range 0 slots))
        ∙ map_flat_map (λ t. keep (λ l. is_of meal l.a l.c) (slot_lines t (ration_rows tanks p))) g (range 0 slots)
        ∙ flat_map_range_cong 0 slots
        (λ t a b.
        lines_one t (λ l. is_of meal l.a l.c) (is_of meal (suc t)) (λ k r. refl) g (h t) (e t) 1 tanks p long i l
        (apart.own i t l)
        (λ o m n. apart.others i o t l m n))

    -- the slots of a meal's lines are those in which it is fed, rising
    pub slots_of_meal : map (λ l. l.a) (of_meal meal lines) ≡ members_from 1 row
    unfolding feed_line
    slots_of_meal = by_slot (λ l. l.a) (λ t r. suc t) (λ t k r. refl) ∙ members_from_slots slots row (rows i l)

    -- and their parts are 1, 2, ..
    pub parts_of_meal : map (λ l. l.d) (of_meal meal lines) ≡ range 1 (count row)
    unfolding feed_line
    parts_of_meal =
        by_slot (λ l. l.d) (λ t r. part_at t r.1) (λ t k r. refl)
        ∙ parts_before row slots
        ∙ ap (λ c. range 1 (count c)) (take_all slots row (omega (arith, rows i l)))

  -- the placing on the lines
  pub placing_on_lines : (jobs : List Job) → length jobs ≡ length p → OwnLines jobs tanks p → placing_on slots jobs lines ≡ p
  unfolding placing_on
  placing_on_lines jobs e apart =
      ext_get_or [] _ p (length-map jobs _ ∙ e)
      (λ i l.
      let k : i < length jobs = omega (arith, length-map jobs (λ j. slot_set slots (map (λ l. l.a) (of_meal j lines)))) in
      let j : i < length p = omega (arith, e) in
      get_d_map_below _ jobs i [] no_job k ∙ ap (slot_set slots) (slots_of_meal jobs apart i j) ∙ slot_set_members slots (get_or p i []) (rows i j))
