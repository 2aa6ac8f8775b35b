-- How the search for a faulty line goes on by one field and by one line, and where a line's fields stand in the sheet. Assumes nothing.
use Rattle.std.specs.Prelude.{◌≡◌, refl, Bool, Some, None, true, false, ◌||◌, not, List, eqb, length, get_or, take, drop, set}
use Rattle.std.proofs.Math.Path.{sym, ap}
use Rattle.std.proofs.Common.{◌∙◌, add-one, take-add, take-take, drop_at, drop-drop, length-take-le, get_or-take, eq-eqb, eqb-true, ne_eqb}
use Rattle.std.proofs.lemmas.Bool.{eqb-false}
use Rattle.std.proofs.Math.Bool.{cond}
use Prim.Native.Nat.{ℕ, zero, suc, ◌+◌, ◌-◌, ◌*◌, ◌≤◌, ◌<◌}
use native.Mathlib.Omega.{arith}
use Rattle.std.proofs.Math.ListN.{length-drop}
use Rattle.std.proofs.Math.Seq.{get_or-drop}
use Rattle.common.specs.Buffers.{put_at}
use Rattle.common.specs.BufferLaws.{set_four}
use Rattle.line.specs.Layout.{width, fields, line_bytes, newline}
use Rattle.line.specs.Field.{parse, number_of, is_faulty}
use Rattle.line.specs.Line.{field_at, value_at, faulty_from, faulty_line}
use Rattle.checks.specs.Sheet.{line_at, job_at, job_numbers}
use Rattle.checks.specs.Checks.{first_faulty}
use Rattle.sheet.specs.Parts.{some_line}

-- ---- places in the sheet

part_of_part : (k n m : ℕ) (l : List ℕ) → n + k ≤ m → m ≤ length l → take k (drop n (take m l)) ≡ take k (drop n l)
part_of_part k n m l h e =
    ap (λ x. take k (drop n (take x l))) (rest m h)
    ∙ ap (λ x. take k (drop n x)) (take-add n (m - n) l)
    ∙ ap (take k) (drop_at (take n l) (take (m - n) (drop n l)) n (length-take-le n l (omega arith)))
    ∙ take-take k (m - n) (drop n l) (omega arith)
  where
    rest : (m : ℕ) → n + k ≤ m → m ≡ n + (m - n)
    rest m h = omega arith

module _ (s : List ℕ) (i : ℕ) (h : line_bytes * i + line_bytes ≤ length s) where
  pub field_place : (f : ℕ) → f < fields → take width (drop (line_bytes * i + width * f) s) ≡ field_at (line_at s i) f
  unfolding field_at line_at
  field_place f l =
      sym (part_of_part width (width * f) line_bytes (drop (line_bytes * i) s) (omega arith) (rw length-drop (omega arith))
      ∙ ap (take width) (drop-drop (width * f) (line_bytes * i) s))

  pub closing_place : get_or s (line_bytes * i + width * fields) 0 ≡ get_or (line_at s i) (width * fields) 0
  unfolding line_at
  closing_place =
      sym (get_or-take line_bytes (drop (line_bytes * i) s) (width * fields) 0 (omega arith) ∙ get_or-drop (line_bytes * i) s (width * fields) 0)

  -- the number of a field, by its place
  pub value_place : (f at : ℕ) → f < fields → at ≡ line_bytes * i + width * f → number_of (parse (take width (drop at s))) ≡ value_at (line_at s i) f
  unfolding value_at
  value_place f at l e = ap (λ n. number_of (parse (take width (drop n s)))) e ∙ ap (λ x. number_of (parse x)) (field_place f l)

  -- ---- one field more

  faulty_next : (l : List ℕ) (f : ℕ) → f < fields → faulty_from l f (fields - f) ≡ (is_faulty (parse (field_at l f)) || faulty_from l (f + 1) (fields - (f + 1)))
  unfolding faulty_from
  faulty_next l f k = ap (faulty_from l f) count ∙ ap (λ g. is_faulty (parse (field_at l f)) || faulty_from l g (fields - (f + 1))) (sym (add-one f))
    where
      count : fields - f ≡ suc (fields - (f + 1))
      count = omega arith

  pub field_hit : (f at : ℕ) → f < fields → at ≡ line_bytes * i + width * f → is_faulty (parse (take width (drop at s))) ≡ true
      → faulty_from (line_at s i) f (fields - f) ≡ true
  field_hit f at l e t =
      faulty_next (line_at s i) f l
      ∙ ap (λ x. is_faulty (parse x) || faulty_from (line_at s i) (f + 1) (fields - (f + 1))) (sym (field_place f l) ∙ ap (λ n. take width (drop n s)) (sym e))
      ∙ ap (λ b. b || faulty_from (line_at s i) (f + 1) (fields - (f + 1))) t

  pub field_miss : (f at : ℕ) → f < fields → at ≡ line_bytes * i + width * f → is_faulty (parse (take width (drop at s))) ≡ false
      → faulty_from (line_at s i) f (fields - f) ≡ faulty_from (line_at s i) (f + 1) (fields - (f + 1))
  field_miss f at l e t =
      faulty_next (line_at s i) f l
      ∙ ap (λ x. is_faulty (parse x) || faulty_from (line_at s i) (f + 1) (fields - (f + 1))) (sym (field_place f l) ∙ ap (λ n. take width (drop n s)) (sym e))
      ∙ ap (λ b. b || faulty_from (line_at s i) (f + 1) (fields - (f + 1))) t

  closing : (f : ℕ) → f ≡ fields → faulty_from (line_at s i) f (fields - f) ≡ not (eqb (get_or s (line_bytes * i + width * fields) 0) newline)
  unfolding faulty_from
  closing f e = rw (e, closing_place)

  pub closing_hit : (f at : ℕ) → f ≡ fields → at ≡ line_bytes * i + width * fields → (get_or s at 0 ≡ newline → ⊥) → faulty_from (line_at s i) f (fields - f) ≡ true
  closing_hit f at e p n = closing f e ∙ ap not (ap (λ x. eqb (get_or s x 0) newline) (sym p) ∙ ne_eqb (get_or s at 0) newline n)

  pub closing_miss : (f at : ℕ) → f ≡ fields → at ≡ line_bytes * i + width * fields → get_or s at 0 ≡ newline → faulty_from (line_at s i) f (fields - f) ≡ false
  closing_miss f at e p n = closing f e ∙ ap not (ap (λ x. eqb (get_or s x 0) newline) (sym p) ∙ eq-eqb (get_or s at 0) newline n)

-- ---- one line more

pub faulty_begin : (l : List ℕ) → faulty_line l ≡ faulty_from l 0 (fields - 0)
unfolding faulty_line
faulty_begin l = refl

pub first_begin : (s : List ℕ) (n : ℕ) → first_faulty s 0 n ≡ first_faulty s 0 (n - 0)
first_begin s n = ap (first_faulty s 0) (all n)
  where
    all : (n : ℕ) → n ≡ n - 0
    all n = omega arith

module _ (s : List ℕ) (i n : ℕ) where
  pub first_end : i ≡ n → 0 ≡ first_faulty s i (n - i)
  unfolding first_faulty
  first_end e = sym (ap (first_faulty s i) none)
    where
      none : n - i ≡ zero
      none = omega arith

  module _ (h : i < n) where
    first_next : first_faulty s i (n - i) ≡ cond (faulty_line (line_at s i)) (i + 1) (first_faulty s (i + 1) (n - (i + 1)))
    unfolding first_faulty
    first_next = ap (first_faulty s i) count ∙ ap (λ k. cond (faulty_line (line_at s i)) k (first_faulty s k (n - (i + 1)))) (sym (add-one i))
      where
        count : n - i ≡ suc (n - (i + 1))
        count = omega arith

    pub first_hit : faulty_line (line_at s i) ≡ true → i + 1 ≡ first_faulty s i (n - i)
    first_hit e = sym (first_next ∙ ap (λ b. cond b (i + 1) (first_faulty s (i + 1) (n - (i + 1)))) e)

    pub first_miss : faulty_line (line_at s i) ≡ false → first_faulty s i (n - i) ≡ first_faulty s (i + 1) (n - (i + 1))
    first_miss e = first_next ∙ ap (λ b. cond b (i + 1) (first_faulty s (i + 1) (n - (i + 1)))) e

-- a line that is found
pub some_first : (k n : ℕ) → n ≡ k + 1 → Some (k + 1) ≡ some_line n
some_first k n e = rw (e, ne_eqb (k + 1) 0 (omega arith)) refl

pub first_some : (k n : ℕ) → Some k ≡ some_line n → (k ≡ n) × (n ≡ 0 → ⊥)
first_some k n e = go (eqb n 0) refl e
  where
    go : (t : Bool) → eqb n 0 ≡ t → Some k ≡ cond t None (Some n) → (k ≡ n) × (n ≡ 0 → ⊥)
    go true q h = grind arith
    go false q h = (grind arith, eqb-false n 0 q)

pub first_none : (n : ℕ) → None ≡ some_line n → n ≡ 0
first_none n e = go (eqb n 0) refl e
  where
    go : (t : Bool) → eqb n 0 ≡ t → None ≡ cond t None (Some n) → n ≡ 0
    go true q h = eqb-true n 0 q
    go false q h = grind arith

-- ---- four numbers that are put

pub put_numbers_at : (s : List ℕ) (line at a b c d : ℕ) (old : List ℕ) → at + fields ≤ length old
    → a ≡ value_at (line_at s line) 0 → b ≡ value_at (line_at s line) 1 → c ≡ value_at (line_at s line) 2 → d ≡ value_at (line_at s line) 3
    → set (set (set (set old at a) (at + 1) b) (at + 2) c) (at + 3) d ≡ put_at at (job_numbers (job_at s line)) old
unfolding job_at
put_numbers_at s line at a b c d old h p q r t = set_four at a b c d old h ∙ rw (p, q, r, t)
