-- The planning layer's theorems, for every problem in range: its listing is read back to its lines and fits the plan
-- buffer, and every number on them fits its field; a well-formed sheet planned alone is such a problem. Here are the
-- statements; the law files have the proofs. What the calls answer altogether is in the crate `demands`. Assumes
-- nothing.
use Rattle.std.specs.Prelude.{◌≡◌, Bool, List, [], ◌++◌, ℕ, ◌+◌, ◌*◌, ◌≤◌, ◌<◌, length, take, drop}
use Rattle.std.proofs.Math.Path.{refl}
use Rattle.std.proofs.Common.{sym, ap, ap₂, ◌∙◌, drop_at, take_at}
use Rattle.std.proofs.Math.Bool.{true, false}
use Rattle.checks.specs.Limits.{max_wake}
use Rattle.checks.specs.Sheet.{line_at, sheet_of}
use Rattle.line.specs.Line.{faulty_line}
use Rattle.checks.specs.Checks.{faults}
use Rattle.sheet.specs.Calls.{accepted}
use Rattle.checks.specs.WellFormedLaws.{well_formed_faults}
use Rattle.energy.specs.Energy.{starts, energy}
use Rattle.energy.specs.EnergyLaws.{starts_most, energy_most}
use Rattle.plan_lines.specs.Sizes.{word_bytes, plan_bytes, placing_words, causes_bytes}
use Rattle.plan_lines.specs.Lines.{Line, plan_lines}
use Rattle.plan_lines.specs.Text.{write_lines, plan_word, held_word, plan_text, held_text}
use Rattle.planning.specs.Problem.{Problem, alone, ProblemInRange, can_be_planned, feedings_of, counts_of, plan_for, listing_of}
use Rattle.planning.specs.ReadListing.{lines_of}
use Rattle.planning.specs.ReadLaws.{FitLines}
use Rattle.planning.proofs.ReadLaws.{lines_of_written, faulty_line_written}
use Rattle.planning.proofs.FitLaws.{day_le, fit_plan_lines}
use Rattle.planning.proofs.ProblemLaws.{held_lines_of, listing_plan, listing_held, feedings_sound, fit_held, length_listing}
use Rattle.planning.proofs.AloneLaws.{alone_in_range}

-- Sizes, as requests 105, 106 and 110 have them --------------------------------------------------------------

pub plan_buffer_size : plan_bytes ≡ 38455
plan_buffer_size = refl

pub placing_buffer_size : placing_words ≡ 96
placing_buffer_size = refl

pub causes_buffer_size : causes_bytes ≡ 65536
causes_buffer_size = refl

-- Listings ----------------------------------------------------------------------------------

-- a listing's text is read as these lines, each in the sheet's form; and its word and its lines, written again, are the
-- text
pub record ReadsAs (text : List ℕ) (ls : List Line) : Type 0 where
  pub lines : lines_of text ≡ ls
  pub formed : (i : ℕ) → i < length ls → faulty_line (line_at (drop word_bytes text) i) ≡ false
  pub again : take word_bytes text ++ write_lines (lines_of text) ≡ text

pub reads_as : (text word : List ℕ) (ls : List Line) → text ≡ word ++ write_lines ls → length word ≡ word_bytes → FitLines ls → ReadsAs text ls
reads_as text word ls e w f =
    record {
      lines = l;
      formed = λ i k. ap (λ x. faulty_line (line_at x i)) (ap (drop word_bytes) e ∙ drop_at word (write_lines ls) word_bytes w) ∙ faulty_line_written ls i f k;
      again = ap₂ (λ x y. x ++ write_lines y) (ap (take word_bytes) e ∙ take_at word (write_lines ls) word_bytes w) l ∙ sym e;
    }
  where
    l : lines_of text ≡ ls
    l = ap lines_of e ∙ lines_of_written word ls w f

-- the lines of a problem's plan, or of the problem that is held
unfoldable pub lines_listed : Problem → List Line
lines_listed p = elim (can_be_planned p) [ true ↦ plan_lines (plan_for p) | false ↦ held_lines_of p ]

module _ (p : Problem) (g : ProblemInRange p) where
  -- Its listing is read back.
  pub listing_read_back : ReadsAs (listing_of p) (lines_listed p)
  unfolding lines_listed plan_text held_text
  listing_read_back = go (can_be_planned p) refl
    where
      go : (c : Bool) → can_be_planned p ≡ c → ReadsAs (listing_of p) (lines_listed p)
      go true e =
          rw (e, lines_listed)
          (reads_as (listing_of p) plan_word (plan_lines (plan_for p)) (listing_plan p e) refl
          (fit_plan_lines p.sheet g.values (feedings_of p) (feedings_sound p g e)))
      go false e = rw (e, lines_listed) (reads_as (listing_of p) held_word (held_lines_of p) (listing_held p e) refl (fit_held p g))

  -- It is at most 38,455 bytes long.
  pub listing_fits : length (listing_of p) ≤ plan_bytes
  listing_fits = length_listing p g

  -- Every number on its lines fits its field: energy, starts, slots, blowers, tanks, parts and the bill of a plan,
  -- slots and counts of a problem that is held.
  pub numbers_fit : FitLines (lines_listed p)
  unfolding lines_listed
  numbers_fit = go (can_be_planned p) refl
    where
      go : (c : Bool) → can_be_planned p ≡ c → FitLines (lines_listed p)
      go true e = rw (e, lines_listed) (fit_plan_lines p.sheet g.values (feedings_of p) (feedings_sound p g e))
      go false e = rw (e, lines_listed) (fit_held p g)

  -- Bounds of the energy and the starts of a plan: 768,768 and 384.
  pub energy_and_starts_most : can_be_planned p ≡ true
      → (energy p.sheet.blowers p.sheet.wake (counts_of p) ≤ 768 + max_wake * 384) × (starts p.sheet.blowers p.sheet.wake (counts_of p) ≤ 384)
  unfolding counts_of
  energy_and_starts_most e =
      let s = p.sheet in
      let v = g.values in
      let d = day_le s v (feedings_of p) (feedings_sound p g e) in (
        energy_most s.blowers s.wake _ v.head.blowers.le v.head.wake d,
        starts_most s.blowers s.wake _ v.head.blowers.le v.head.wake d,
      )

-- of an accepted sheet
pub accepted_in_range : (b : List ℕ) → faults b ≡ [] → ProblemInRange (alone (sheet_of b))
accepted_in_range b accepted = alone_in_range (sheet_of b) (well_formed_faults b accepted).values
