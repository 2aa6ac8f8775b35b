-- The steps of a look-up: the search for a tank's first line and for the first line after it that is not of the tank, and the part between them. Assumes nothing.
use Rattle.std.specs.Prelude.{◌≡◌, Bool, true, false, List, [], ◌∷◌, ltb, eqb, take, drop, Option, Some, None, unwrap_or, Result, Ok, Err}
use Rattle.std.specs.Result.{result_ok}
use Rattle.std.specs.Option.{MatchOption}
use Rattle.std.proofs.Math.Path.{refl, sym, ap}
use Rattle.std.proofs.Common.{subst₂, ◌∙◌, ne_eqb, eqb-true, ltb-true, ltb-false}
use Rattle.std.proofs.Math.Bool.{cond}
use Prim.Native.Nat.{ℕ, ◌+◌, ◌-◌, ◌*◌, ◌≤◌, ◌<◌}
use native.Mathlib.Omega.{arith}
use Rattle.std.proofs.Math.ListN.{length}
use Rattle.std.proofs.lemmas.Bool.{eqb-false}
use Rattle.common.specs.Lists.{part}
use Rattle.line.specs.Layout.{width, line_bytes}
use Rattle.line.specs.Field.{parse, number_of}
use Rattle.checks.specs.Sheet.{line_count, sheet_of}
use Rattle.checks.specs.Checks.{first_refusal, faults}
use Rattle.sheet.specs.Calls.{accepted, refused, reading_of}
use Rattle.sheet.specs.FeedSheets.{as_reading}
use Rattle.sheet.specs.declared.feed_sheet.FeedSheet.{FeedSheet}
use Rattle.sheet.proofs.FeedSheetLaws.{err_numbered}
use Rattle.sheet.proofs.OwnCheckLaws.{bytes_read}
use Rattle.checks.specs.declared.Refusal.{Refusal}
use Rattle.lookup.specs.LookUp.{look_up, first_line, place_of, byte_from}
use Rattle.lookup.specs.Parts.{line_after, nowhere}
use Rattle.lookup.specs.declared.Part.{Part}
use Rattle.sheet.proofs.LineSteps.{value_place}
use Rattle.sheet.proofs.CallLaws.{reading_of_accepted, faults_reading_of}
use Rattle.lookup.proofs.LookUpLaws.{look_up_accepted, look_up_refused, look_up_none}
use Rattle.checks.specs.WellFormedLaws.{well_formed_faults}
use Rattle.lookup.proofs.FindLaws.{tank_at, tanks_never_fall, AllHave, NoneHas, First, first_line_first, first_same, After, line_after_after, after_same, tank_lines_none, tank_lines_part, length_part}
use Rattle.checks.specs.FaultLaws.{numbered_faults}

-- The two searches --------------------------------------------------------------------

-- the number in the first field of line k
abbrev pub tank_on : List ℕ → ℕ → ℕ
tank_on b k = number_of (parse (take width (drop (line_bytes * k) b)))

module _ (b : List ℕ) (tank n : ℕ) (whole : line_bytes * n ≤ length b) where
  on_at : (k : ℕ) → k < n → tank_on b k ≡ tank_at b k
  on_at k h = value_place b k (omega arith) 0 (line_bytes * k) (omega arith) (omega arith)

  pub first_missing : ((k : ℕ) → 1 ≤ k → k < n → tank_on b k ≡ tank → ⊥) → NoneHas b tank 1 n
  first_missing h k p q t = h k p q (on_at k q ∙ t)

  pub first_found : (f : ℕ) → (1 ≤ f) × (f < n) × (tank_on b f ≡ tank) × ((k : ℕ) → 1 ≤ k → k < f → tank_on b k ≡ tank → ⊥) → First b tank 1 (n - 1) f
  first_found f h =
      record {
        from = h.0;
        to = omega (arith, h.1);
        none = λ k p q t. h.3 k p q (on_at k (omega (arith, h.1)) ∙ t);
        has = λ l. sym (on_at f h.1) ∙ h.2;
      }

  pub after_found : (f : ℕ) → f ≤ n → (r : Option ℕ)
      → MatchOption r ((k : ℕ) → f ≤ k → k < n → tank_on b k ≡ tank) (λ a. (f ≤ a) × (a < n) × (tank_on b a ≡ tank → ⊥) × ((k : ℕ) → f ≤ k → k < a → tank_on b k ≡ tank))
      → After b tank f (n - f) (unwrap_or r n)
  after_found f l None h =
      record { from = l; to = omega arith; all = λ k p q. sym (on_at k q) ∙ h k p q; stops = λ m t. absurd (omega arith) }
  after_found f l (Some a) h =
      record {
        from = h.0;
        to = omega (arith, h.1);
        all = λ k p q. sym (on_at k (omega (arith, h.1))) ∙ h.3 k p q;
        stops = λ m t. h.2 (on_at a h.1 ∙ t);
      }

-- The part between them -----------------------------------------------------------------

pub nowhere_empty : (b : List ℕ) (tank : ℕ) → look_up b tank ≡ [] → nowhere ≡ place_of b tank
unfolding place_of
nowhere_empty b tank e = sym (rw e)

pub place_missing : (b : List ℕ) (tank : ℕ) → NoneHas b tank 1 (line_count b) → nowhere ≡ place_of b tank
place_missing b tank n = nowhere_empty b tank (look_up_none b tank (tank_lines_none b tank 1 (line_count b - 1) (λ k p q t. n k p (omega arith) t)))

pub place_unread : (b : List ℕ) (tank : ℕ) → ((reading_of b).number ≡ 0 → ⊥) → nowhere ≡ place_of b tank
unfolding accepted
place_unread b tank n = nowhere_empty b tank (look_up_refused b tank (λ e. n (ap (λ r. r.number) (reading_of_accepted b e))))

empty : (xs : List ℕ) → length xs ≡ 0 → xs ≡ []
empty [] e = refl
empty (x ∷ xs) e = absurd (omega arith)

-- what is known of the lines of a tank on a sheet of `lines` lines: they are those from line f up to line a
pub record Between (b : List ℕ) (tank f a : ℕ) : Type 0 where
  pub least : 1 ≤ f
  pub order : f ≤ a
  pub most : a ≤ line_count b
  pub bytes : line_bytes * line_count b ≡ length b
  pub all : AllHave b tank f a
  pub before : NoneHas b tank 1 f
  pub past : NoneHas b tank a (line_count b)
  pub lines : look_up b tank ≡ part (line_bytes * f) (line_bytes * a) b

module _ (b : List ℕ) (tank : ℕ) (e : faults b ≡ []) where
  abbrev first : ℕ
  first = first_line b tank 1 (line_count b - 1)

  abbrev after : ℕ
  after = line_after b tank first (line_count b - first)

  between_these : Between b tank first after
  unfolding sheet_of
  between_these =
      let formed = well_formed_faults b e in
      let never_fall = tanks_never_fall b (sheet_of b).slots 0 0 1 (line_count b - 1) formed.values.jobs in
      let f = first_line_first b tank 1 (line_count b - 1) in
      let a = line_after_after b tank first (line_count b - first) in
      let size : 1 ≤ line_count b = omega (arith, formed.size.ge, formed.whole) in
      let rest : 1 + (line_count b - 1) - first ≡ line_count b - first = omega arith in
      record {
        least = f.from;
        order = a.from;
        most = omega (arith, a.to, f.to);
        bytes = sym formed.whole;
        all = a.all;
        before = f.none;
        past = λ k p q t.
            let h : tank_at b first ≡ tank = f.has (omega (arith, a.from)) in
            a.stops (omega arith) (omega (arith, t, h, never_fall first after f.from a.from (omega arith), never_fall after k (omega (arith, f.from, a.from)) p (omega arith)));
        lines =
            look_up_accepted b tank e ∙ tank_lines_part b tank 1 (line_count b - 1) never_fall
            ∙ ap (λ k. part (line_bytes * first) (line_bytes * line_after b tank first k) b) rest;
      }

  module _ (f a : ℕ) (p : f ≡ first) (q : a ≡ line_after b tank f (line_count b - f)) where
    pub between : Between b tank f a
    between = subst₂ (Between b tank) (sym p) (sym (q ∙ ap (λ k. line_after b tank k (line_count b - k)) p)) between_these

    size : length (look_up b tank) ≡ line_bytes * a - line_bytes * f
    size =
        let h = between in
        ap length h.lines ∙ length_part b (line_bytes * f) (line_bytes * a) (omega (arith, h.order)) (omega (arith, h.most, h.bytes))

    pub place_none : a ≡ f → nowhere ≡ place_of b tank
    unfolding place_of
    place_none h = let z : length (look_up b tank) ≡ 0 = omega (arith, size) in sym (rw z)

    pub place_some : (a ≡ f → ⊥) → record { start = line_bytes * f; length = line_bytes * (a - f) } ≡ place_of b tank
    unfolding place_of
    place_some h =
        let o = between.order in
        let n : length (look_up b tank) ≡ 0 → ⊥ = λ z. h (omega (arith, size)) in
        let l : line_bytes * (a - f) ≡ length (look_up b tank) = omega (arith, size) in
        (λ i. record { start = line_bytes * p i; length = l i }) ∙ sym (rw (ne_eqb (length (look_up b tank)) 0 n))

  -- .. of the two lines that are found
  module _ (f a : ℕ) (p : First b tank 1 (line_count b - 1) f) (h : f < line_count b) (q : After b tank f (line_count b - f) a) where
    pub found : Between b tank f a
    found = between f a (first_same b tank 1 (line_count b - 1) f p) (after_same b tank f (line_count b - f) a q)

    pub place_found : record { start = line_bytes * f; length = line_bytes * (a - f) } ≡ place_of b tank
    place_found =
        place_some
        f
        a
        (first_same b tank 1 (line_count b - 1) f p)
        (after_same b tank f (line_count b - f) a q)
        (λ e. q.stops (omega (arith, e)) (ap (tank_at b) e ∙ p.has (omega arith)))

  -- the lines of a tank, by the place that is answered
  pub place_lines : part (place_of b tank).start ((place_of b tank).start + (place_of b tank).length) b ≡ look_up b tank
  unfolding place_of
  place_lines = go (eqb (length (look_up b tank)) 0) refl
    where
      here : Part
      here = record { start = line_bytes * first; length = length (look_up b tank) }

      go : (t : Bool) → eqb (length (look_up b tank)) 0 ≡ t
          → part (cond t nowhere here).start ((cond t nowhere here).start + (cond t nowhere here).length) b ≡ look_up b tank
      go true z = sym (empty (look_up b tank) (eqb-true (length (look_up b tank)) 0 z))
      go false z =
          let h = between_these in
          let n : line_bytes * first + length (look_up b tank) ≡ line_bytes * after = omega (arith, size first after refl refl, h.order) in
          ap (λ k. part (line_bytes * first) k b) n ∙ sym h.lines

-- A tank's place is within the sheet, and its bytes are those of the look-up, on a refused sheet too.
pub place_part : (b : List ℕ) (tank : ℕ) → part (place_of b tank).start ((place_of b tank).start + (place_of b tank).length) b ≡ look_up b tank
unfolding first_refusal
place_part b tank = go (eqb (first_refusal (faults b)).number 0) refl
  where
    go : (t : Bool) → eqb (first_refusal (faults b)).number 0 ≡ t → part (place_of b tank).start ((place_of b tank).start + (place_of b tank).length) b ≡ look_up b tank
    go true z = place_lines b tank (numbered_faults b (eqb-true (first_refusal (faults b)).number 0 z))
    go false z = place_refused
      where
        none : look_up b tank ≡ []
        none = look_up_refused b tank (λ e. eqb-false (first_refusal (faults b)).number 0 z (ap (λ r. (first_refusal r).number) e))

        place_refused : part (place_of b tank).start ((place_of b tank).start + (place_of b tank).length) b ≡ look_up b tank
        place_refused = ap (λ (p : Part). part p.start (p.start + p.length) b) (sym (nowhere_empty b tank none)) ∙ sym none

pub place_within : (b : List ℕ) (tank : ℕ) → (place_of b tank).start + (place_of b tank).length ≤ length b
unfolding place_of first_refusal
place_within b tank = go (eqb (length (look_up b tank)) 0) refl (eqb (first_refusal (faults b)).number 0) refl
  where
    here : Part
    here = record { start = line_bytes * first_line b tank 1 (line_count b - 1); length = length (look_up b tank) }

    go : (t : Bool) → eqb (length (look_up b tank)) 0 ≡ t → (u : Bool) → eqb (first_refusal (faults b)).number 0 ≡ u
        → (cond t nowhere here).start + (cond t nowhere here).length ≤ length b
    go true z u w = omega arith
    go false z true w =
        let e = numbered_faults b (eqb-true (first_refusal (faults b)).number 0 w) in
        let h = between b tank e _ _ refl refl in
        omega (arith, size b tank e _ _ refl refl, h.order, h.most, h.bytes)
    go false z false w =
        absurd (eqb-false (length (look_up b tank)) 0 z (ap length (look_up_refused b tank (λ e. eqb-false (first_refusal (faults b)).number 0 w (ap (λ r. (first_refusal r).number) e)))))

pub placed_within : (b : List ℕ) (tank : ℕ) (p : Part) → p ≡ place_of b tank → p.start + p.length ≤ length b
placed_within b tank p e = omega (arith, place_within b tank, ap (λ (x : Part). x.start) e, ap (λ (x : Part). x.length) e)

-- a part that is cut out at the place begins where it is promised to
pub placed_begins : (b : List ℕ) (tank : ℕ) (p : Part) (begin : ℕ × ℕ) → p ≡ place_of b tank
    → (begin.0, p.start + begin.1) ≡ byte_from begin (place_of b tank).start
unfolding byte_from
placed_begins b tank p begin e = ap (λ n. (begin.0, n)) (omega (arith, ap (λ (x : Part). x.start) e))

-- the two promises of a place are one
pub placed : (b : List ℕ) (tank : ℕ) (p : Part) → p ≡ place_of b tank → (p ≡ place_of b tank) × (part p.start (p.start + p.length) b ≡ look_up b tank)
placed b tank p e = (e, ap (λ (x : Part). part x.start (x.start + x.length) b) e ∙ place_part b tank)

-- where a line has the tank, there is a line between
pub before_or_past : (b : List ℕ) (tank f a i : ℕ) → Between b tank f a → 1 ≤ i → i < line_count b → tank_at b i ≡ tank → f < a
before_or_past b tank f a i h p q t = go (ltb f a) refl
  where
    go : (u : Bool) → ltb f a ≡ u → f < a
    go true e = ltb-true f a e
    go false e = absurd (before (ltb i f) refl)
      where
        before : (u : Bool) → ltb i f ≡ u → ⊥
        before true o = h.before i p (ltb-true i f o) t
        before false o = h.past i (omega (arith, ltb-false i f o, ltb-false f a e)) q t

none_some : {X : Type 0} {x : X} → None ≡ Some x → ⊥
none_some e = let n : ◌≡◌ {A = ℕ} 0 1 = cc in omega arith

-- a sheet that was read has no fault, ..
pub read_accepted : (b : List ℕ) (x : Result FeedSheet Refusal) {f : FeedSheet} → as_reading x ≡ reading_of b → result_ok x ≡ Some f → faults b ≡ []
read_accepted b (Ok f) e q = faults_reading_of b (sym (ap (λ x. x.number) e))
read_accepted b (Err r) e q = absurd (none_some q)

-- .. and a look-up in one that was not finds nothing
pub read_refused : (b : List ℕ) (tank : ℕ) (x : Result FeedSheet Refusal) → as_reading x ≡ reading_of b → result_ok x ≡ None → nowhere ≡ place_of b tank
unfolding refused
read_refused b tank (Ok f) e q = absurd (none_some (sym q))
read_refused b tank (Err r) e q = place_unread b tank (λ z. err_numbered r (bytes_read _ e) (ap (λ x. x.number) e ∙ z))
