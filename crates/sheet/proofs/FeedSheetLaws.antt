-- An accepted sheet is what is read of the sheet whose numbers it has, and of no other; and what is read with number 0 is an
-- accepted sheet. Assumes nothing.
use Rattle.std.specs.Prelude.{◌≡◌, refl, true, Result, Ok, Err, List, [], ℕ, ◌*◌, ◌≤◌, length, take}
use Rattle.std.proofs.Common.{sym, ap, subst, ◌∙◌, arith, length-take, length-take-le}
use Rattle.common.specs.Buffers.{padded}
use Rattle.common.specs.BufferLaws.{length_padded}
use Rattle.line.specs.Layout.{fields}
use Rattle.checks.specs.declared.Refusal.{Refusal}
use Rattle.checks.specs.Limits.{max_rations}
use Rattle.checks.specs.Sheet.{Sheet, numbers_of, jobs_of, sheet_from}
use Rattle.checks.specs.Checks.{first_refusal}
use Rattle.checks.specs.NumbersLaws.{length_jobs_of, numbers_of_jobs_of}
use Rattle.checks.specs.RangeLaws.{ValuesInRange}
use Rattle.sheet.specs.declared.Reading.{Reading}
use Rattle.sheet.specs.declared.feed_sheet.FeedSheet.{FeedSheet}
use Rattle.sheet.specs.Calls.{accepted, refused}
use Rattle.sheet.specs.Accepted.{IsAccepted}
use Rattle.sheet.specs.FeedSheets.{sheet_in, sheet_reading, as_reading}
use Rattle.sheet.specs.OwnChecks.{ReadFrom, ReadSheet}
use Rattle.sheet.proofs.CallLaws.{reading_from_accepted, rations_read_accepted, sheet_read, sheet_read_accepted}
use Rattle.sheet.proofs.OwnCheckLaws.{read_none, read_is, read_values}

-- What is read with number 0 ---------------------------------------------------------

-- the numbers of an accepted reading
abbrev NumbersOf : Reading → Type 0
NumbersOf r = IsAccepted r.slots r.blowers r.wake r.rations r.numbers

accepted_numbers : (s : Sheet) → ValuesInRange 0 s (length s.jobs) true → NumbersOf (accepted s)
unfolding accepted
accepted_numbers s v =
    record {
      values = subst (λ t. ValuesInRange 0 t (length s.jobs) true) (sym (sheet_read_accepted s)) v;
      padding = ap (padded (fields * max_rations)) (sym (rations_read_accepted s));
    }

-- to make an accepted sheet of the numbers of a sheet in range, ..
pub is_accepted : (s : Sheet) → ValuesInRange 0 s (length s.jobs) true → {r : Reading} → r ≡ accepted s → NumbersOf r
is_accepted s v e = subst NumbersOf (sym e) (accepted_numbers s v)

-- .. or of what was read
pub accepted_of_read : {own : List Refusal} {s : Sheet} {r : Reading} → ReadFrom own s r → r.number ≡ 0 → NumbersOf r
accepted_of_read {own} {s} h z = is_accepted s (read_values h z) (read_is h z)

-- What an accepted sheet says -----------------------------------------------------------

module _ (f : FeedSheet) where
  abbrev flat : List ℕ
  flat = take (fields * f.rations) f.numbers

  flat_long : length flat ≡ fields * f.rations
  flat_long = length-take-le (fields * f.rations) f.numbers (omega (arith, long, f.accepted.values.head.rations))
    where
      short : length (take (fields * f.rations) f.numbers) ≤ fields * max_rations
      short = omega (arith, length-take (fields * f.rations) f.numbers, f.accepted.values.head.rations)

      long : length f.numbers ≡ fields * max_rations
      long = ap length f.accepted.padding ∙ length_padded (fields * max_rations) (take (fields * f.rations) f.numbers) short

  count : f.rations ≡ length (sheet_in f).jobs
  unfolding sheet_from
  count = sym (length_jobs_of f.rations flat flat_long)

  pub feed_accepted : sheet_reading f ≡ accepted (sheet_in f)
  unfolding accepted sheet_from padded
  feed_accepted =
      λ i.
      record {
        number = 0;
        line = 0;
        slots = f.slots;
        blowers = f.blowers;
        wake = f.wake;
        rations = count i;
        numbers = numbers i;
      }
    where
      numbers : f.numbers ≡ padded (fields * max_rations) (numbers_of (jobs_of flat))
      numbers = f.accepted.padding ∙ ap (padded (fields * max_rations)) (sym (numbers_of_jobs_of f.rations flat flat_long))

  pub feed_values : ValuesInRange 0 (sheet_in f) (length (sheet_in f).jobs) true
  feed_values = subst (λ n. ValuesInRange 0 (sheet_in f) n true) count f.accepted.values

  -- it is read of its sheet, of which no check applies
  pub feed_read : ReadFrom [] (sheet_in f) (sheet_reading f)
  unfolding first_refusal
  feed_read =
      record {
        checks =
            record {
              numbered = λ _. refl;
              of_sheet = record { not_held = λ e. omega (arith, e) };
              values = λ _. feed_values;
            };
        is = feed_accepted ∙ sym (reading_from_accepted [] (sheet_in f) refl);
      }

  pub feed_sheet_read : ReadSheet (sheet_reading f)
  feed_sheet_read = record { some = record { own = []; sheet = sheet_in f; read = feed_read }; zero = refl }

  -- of whatever sheet it is read, it is this one
  pub feed_of : {own : List Refusal} {s : Sheet} → ReadFrom own s (sheet_reading f) → (own ≡ []) × (s ≡ sheet_in f)
  feed_of {own} {s} h = (read_none h refl, sym (ap sheet_read (read_is h refl) ∙ sheet_read_accepted s))

-- What was read, as an accepted sheet or a refusal ---------------------------------------------

module _ {own : List Refusal} {s : Sheet} {x : Result FeedSheet Refusal} (h : ReadFrom own s (as_reading x)) where
  pub ok_read : {f : FeedSheet} → x ≡ Ok f → ReadFrom own s (sheet_reading f)
  ok_read e = subst (λ y. ReadFrom own s (as_reading y)) e h

  pub err_read : {r : Refusal} → x ≡ Err r → ReadFrom own s (refused r)
  err_read e = subst (λ y. ReadFrom own s (as_reading y)) e h

-- a refusal that was read has a number
pub err_numbered : {own : List Refusal} {s : Sheet} (r : Refusal) → ReadFrom own s (refused r) → r.number ≡ 0 → ⊥
unfolding refused accepted
err_numbered {own} {s} r h z =
    let e = read_is h z in
    omega (arith, ap (λ x. x.slots) e, (read_values h z).head.slots.ge)
