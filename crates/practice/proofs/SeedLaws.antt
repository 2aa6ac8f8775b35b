-- Which inputs are seeds: those of one field with a number from 0 to 99,999, closed by byte 10, and no others. Assumes
-- nothing.
use Rattle.std.specs.Prelude.{◌≡◌, ℕ, suc, ◌<◌, ◌≤◌, Bool, true, false, not, ◌||◌, List, [], ◌∷◌, ◌++◌, length, take, ◌==◌, ◌≢◌, nat_lt, slice_index, slice_index_or, refl, Option, Some, None}
use Rattle.std.proofs.Math.Path.{ap}
use Rattle.std.proofs.Common.{ap₂, ◌∙◌, true≢false, arith, take_at, length-take-le, get_or-append-add}
use Rattle.std.proofs.Math.ListN.{length-append}
use borrow.Author.Tests.{eq-eqb, eqb-true, ne_eqb, not-false, le-ltb, lt-ltb, ltb-false}
use Rattle.common.specs.Tests.{or_false}
use Rattle.line.specs.Layout.{width, newline}
use Rattle.line.specs.Field.{parse, number_of, is_faulty, write_field}
use Rattle.line.specs.FieldLaws.{parse_write_field, write_field_parse, length_write_field, snoc_of}
use Rattle.practice.specs.Practice.{seed_input, seed_in, max_seed, faulty_seed}

-- Test after test -----------------------------------------------------------------------------

module _ (b : List ℕ) where
  pub seed_other_length : (length b ≢ suc width) → true ≡ faulty_seed b
  unfolding faulty_seed
  seed_other_length n = rw (ne_eqb (length b) (suc width) n)

  module _ (l : length b ≡ suc width) where
    pub seed_other_field : is_faulty (parse (take width b)) ≡ true → true ≡ faulty_seed b
    unfolding faulty_seed
    seed_other_field e = rw (eq-eqb (length b) (suc width) l, e)

    module _ (e : is_faulty (parse (take width b)) ≡ false) where
      pub seed_too_great : max_seed < number_of (parse (take width b)) → true ≡ faulty_seed b
      unfolding faulty_seed seed_in
      seed_too_great h = rw (eq-eqb (length b) (suc width) l, e, lt-ltb max_seed (number_of (parse (take width b))) h)

      pub seed_closed : number_of (parse (take width b)) ≤ max_seed → not (slice_index b width == newline) ≡ faulty_seed b
      unfolding faulty_seed seed_in
      seed_closed h = rw (eq-eqb (length b) (suc width) l, e, le-ltb max_seed (number_of (parse (take width b))) h)

  pub seed_length : faulty_seed b ≡ false → length b ≡ suc width
  unfolding faulty_seed
  seed_length e = eqb-true (length b) (suc width) (not-false _ (or_false (not (length b == suc width)) _ e).0)

  pub seed_read : {seed : ℕ} → seed ≡ number_of (parse (take width b)) → seed ≡ seed_in b
  unfolding seed_in
  seed_read e = e

-- The input of a seed ------------------------------------------------------------------------

module _ (seed : ℕ) (h : seed ≤ max_seed) where
  field : parse (take width (seed_input seed)) ≡ Some seed
  field = ap parse (take_at (write_field seed) (newline ∷ []) width (length_write_field seed)) ∙ parse_write_field seed (omega arith)

  pub seed_fine : faulty_seed (seed_input seed) ≡ false
  unfolding faulty_seed seed_in is_faulty number_of
  seed_fine =
      rw (
        eq-eqb (length (seed_input seed)) (suc width) long,
        field,
        le-ltb max_seed seed h,
        eq-eqb (slice_index (seed_input seed) width) newline closing,
      )
    where
      long : length (seed_input seed) ≡ suc width
      long = omega (arith, length-append (write_field seed) (newline ∷ []), length_write_field seed)

      closing : slice_index_or (seed_input seed) width 0 ≡ newline
      closing =
          ap (λ k. slice_index (seed_input seed) k) (omega (arith, length_write_field seed))
          ∙ get_or-append-add (write_field seed) (newline ∷ []) 0 0

  pub seed_is : seed_in (seed_input seed) ≡ seed
  unfolding seed_in number_of
  seed_is = ap number_of field

-- an input that is not refused has a seed
pub seed_there : (b : List ℕ) → faulty_seed b ≡ false → (seed : ℕ) × (seed ≤ max_seed) × (b ≡ seed_input seed)
unfolding faulty_seed seed_in is_faulty number_of
seed_there b e = go (parse (take width b)) refl h.0 most
  where
    great : Bool
    great = nat_lt max_seed (number_of (parse (take width b)))

    unclosed : Bool
    unclosed = not (slice_index b width == newline)

    g : (not (length b == suc width) ≡ false) × ((is_faulty (parse (take width b)) || (great || unclosed)) ≡ false)
    g = or_false (not (length b == suc width)) _ e

    h : (is_faulty (parse (take width b)) ≡ false) × ((great || unclosed) ≡ false)
    h = or_false (is_faulty (parse (take width b))) _ g.1

    k : (great ≡ false) × (unclosed ≡ false)
    k = or_false great unclosed h.1

    most : number_of (parse (take width b)) ≤ max_seed
    most = ltb-false max_seed (number_of (parse (take width b))) k.0

    long : length b ≡ suc width
    long = eqb-true (length b) (suc width) (not-false _ g.0)

    closing : slice_index_or b width 0 ≡ newline
    closing = eqb-true (slice_index b width) newline (not-false _ k.1)

    front : length (take width b) ≡ width
    front = length-take-le width b (omega (arith, long))

    go : (f : Option ℕ) → parse (take width b) ≡ f → is_faulty f ≡ false → number_of (parse (take width b)) ≤ max_seed
        → (seed : ℕ) × (seed ≤ max_seed) × (b ≡ seed_input seed)
    go (Some v) p q m =
        (v, rw p at m, snoc_of width b long ∙ ap₂ (λ x y. x ++ (y ∷ [])) (write_field_parse (take width b) v front p) closing)
    go None p q m = absurd (true≢false q)
