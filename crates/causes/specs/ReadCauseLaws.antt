-- The entries of a written listing are read back: every number of an entry fits its field. Assumes nothing.
use Rattle.std.specs.Prelude.{◌≡◌, refl, ◌⊎◌, true, false, ℕ, zero, suc, ◌+◌, ◌≤◌, ◌<◌, length}
use Rattle.std.proofs.Common.{sym, ◌∙◌, inl, inr, arith, length-append, take_at, drop_at}
use Rattle.std.proofs.Math.Path.{ap, ap₂}
use mathlib.Core.List.Memᴰ
use mathlib.Core.List.{List, [], ◌∷◌, ◌++◌, map, Memᴰ}
use Rattle.common.specs.Lists.{count, flat_map}
use Rattle.common.specs.ListLaws.{count_le_length}
use Rattle.checks.specs.Limits.{max_slots, max_blowers}
use Rattle.checks.specs.Sheet.{line_count}
use Rattle.checks.specs.SheetLaws.{line_count_lines}
use Rattle.schedules.specs.Slots.{Slots}
use Rattle.method.specs.Endings.{EndedStretch}
use Rattle.plan_lines.specs.Lines.{Line, line, members_from, member_lines}
use Rattle.plan_lines.specs.Text.{write_lines}
use Rattle.plan_lines.specs.Putting.{length_write_lines, write_lines_append}
use Rattle.listing.specs.HeldSteps.{length_member_lines}
use Rattle.cause_lines.specs.Entries.{entry_lines, entry_text, entries_text}
use Rattle.planning.specs.ReadListing.{lines_in}
use Rattle.planning.specs.ReadLaws.{FitsLine, FitLines}
use Rattle.planning.proofs.ReadLaws.{lines_in_written}
use Rattle.causes.specs.ReadCauses.{entries_on, entries_in, entry_of}

-- the lines of an entry, and of entries one after another
abbrev pub lines_for : EndedStretch → List Line
lines_for e = entry_lines e.blower e.stretch.last e.cause

text_lines : (es : List EndedStretch) → entries_text es ≡ write_lines (flat_map lines_for es)
unfolding entries_text entry_text write_lines
text_lines [] = refl
text_lines (e ∷ es) = ap (λ t. write_lines (lines_for e) ++ t) (text_lines es) ∙ sym (write_lines_append (lines_for e) (flat_map lines_for es))

-- as many lines as entries, or more
lines_many : (es : List EndedStretch) → length es ≤ length (flat_map lines_for es)
unfolding entry_lines
lines_many [] = omega arith
lines_many (e ∷ es) = omega (arith, lines_many es, length-append (member_lines 1 e.cause.set) (flat_map lines_for es))

-- so many of them are read from their lines
entries_on_lem : (n : ℕ) (es : List EndedStretch) → length es ≤ n → entries_on n (flat_map lines_for es) ≡ map entry_of es
unfolding entries_on entry_lines
entries_on_lem zero [] l = refl
entries_on_lem (suc n) [] l = refl
entries_on_lem zero (e ∷ es) l = absurd (omega arith)
entries_on_lem (suc n) (e ∷ es) l =
    ap₂ (λ ts us. record { blower = e.blower; last = e.stretch.last; cause = e.cause.number; slots = ts } ∷ us)
    (take_at (member_lines 1 q) (flat_map lines_for es) (count q) (length_member_lines 1 q))
    (ap (entries_on n) (drop_at (member_lines 1 q) (flat_map lines_for es) (count q) (length_member_lines 1 q)) ∙ entries_on_lem n es (omega arith))
  where
    q : Slots
    q = e.cause.set

-- The numbers of an entry fit their fields --------------------------------------------------

-- a blower, a slot before the last, one of the causes, and slots of the day
pub record InFields (slots : ℕ) (e : EndedStretch) : Type 0 where
  pub blower : e.blower ≤ max_blowers
  pub last : e.stretch.last < slots
  pub cause : e.cause.number ≤ 3
  pub set : length e.cause.set ≡ slots

members_below : (t : ℕ) (q : Slots) (l : Line) → Memᴰ l (member_lines t q) → (l.a < t + length q) × (l.b ≡ 0) × (l.c ≡ 0) × (l.d ≡ 0)
unfolding member_lines members_from
members_below t [] l i = absurd (Memᴰ.not-nil i)
members_below t (false ∷ q) l i = let b = members_below (suc t) q l i in (omega (arith, b.0), b.1, b.2, b.3)
members_below t (true ∷ q) l i = go (Memᴰ.cases_cons i) (members_below (suc t) q l)
  where
    go : (l ≡ line t 0 0 0) ⊎ Memᴰ l (member_lines (suc t) q)
        → (Memᴰ l (member_lines (suc t) q) → (l.a < suc t + length q) × (l.b ≡ 0) × (l.c ≡ 0) × (l.d ≡ 0))
        → (l.a < t + suc (length q)) × (l.b ≡ 0) × (l.c ≡ 0) × (l.d ≡ 0)
    go (inl p) ih = (omega (arith, ap (λ (x : Line). x.a) p), ap (λ (x : Line). x.b) p, ap (λ (x : Line). x.c) p, ap (λ (x : Line). x.d) p)
    go (inr j) ih = let b = ih j in (omega (arith, b.0), b.1, b.2, b.3)

module _ {slots : ℕ} (day : slots ≤ max_slots) where
  fit_entry : (e : EndedStretch) → InFields slots e → FitLines (lines_for e)
  unfolding entry_lines
  fit_entry e h l i = go (Memᴰ.cases_cons i)
    where
      go : (l ≡ line e.blower e.stretch.last e.cause.number (count e.cause.set)) ⊎ Memᴰ l (member_lines 1 e.cause.set) → FitsLine l
      go (inl p) =
          record {
            a = omega (arith, ap (λ (x : Line). x.a) p, h.blower);
            b = omega (arith, ap (λ (x : Line). x.b) p, h.last);
            c = omega (arith, ap (λ (x : Line). x.c) p, h.cause);
            d = omega (arith, ap (λ (x : Line). x.d) p, count_le_length e.cause.set, h.set);
          }
      go (inr j) =
          let b = members_below 1 e.cause.set l j in
          record {
            a = omega (arith, b.0, h.set);
            b = omega (arith, b.1);
            c = omega (arith, b.2);
            d = omega (arith, b.3);
          }

  pub fit_entries : (es : List EndedStretch) → ((e : EndedStretch) → Memᴰ e es → InFields slots e) → FitLines (flat_map lines_for es)
  fit_entries [] h l i = absurd (Memᴰ.not-nil i)
  fit_entries (e ∷ es) h l i = go (Memᴰ.append_cases (lines_for e) i) (fit_entries es (λ f j. h f (Memᴰ.tail j)) l)
    where
      go : Memᴰ l (lines_for e) ⊎ Memᴰ l (flat_map lines_for es) → (Memᴰ l (flat_map lines_for es) → FitsLine l) → FitsLine l
      go (inl j) ih = fit_entry e (h e (Memᴰ.head refl)) l j
      go (inr j) ih = ih j

  -- The entries of a listing are read back.
  pub entries_read : (es : List EndedStretch) → ((e : EndedStretch) → Memᴰ e es → InFields slots e) → entries_in (entries_text es) ≡ map entry_of es
  unfolding entries_in
  entries_read es h =
      let ls : List Line = flat_map lines_for es in
      ap (λ t. entries_on (line_count t) (lines_in t)) (text_lines es)
      ∙ ap₂ entries_on (line_count_lines (write_lines ls) (length ls) (length_write_lines ls)) (lines_in_written ls (fit_entries es h))
      ∙ entries_on_lem (length ls) es (lines_many es)
