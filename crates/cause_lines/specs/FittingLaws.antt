-- Which entries fit: they are a front of all of them, in no more bytes than there are, and as long a front as goes into
-- these. And one entry more. Assumes nothing.
use Rattle.std.specs.Prelude.{◌≡◌, refl, Bool, true, false, cond, List, [], ◌∷◌, ◌++◌, ℕ, suc, ◌+◌, ◌-◌, ◌≤◌, ◌<◌, leb, length, take}
use Rattle.std.proofs.Common.{ap, ◌∙◌, arith, length-append, leb-true, leb-false, le-leb}
use Rattle.std.proofs.lemmas.Bool.{lt-leb}
use Rattle.common.specs.ListLaws.{flat_map_append}
use Rattle.method.specs.Endings.{EndedStretch}
use Rattle.cause_lines.specs.Entries.{entry_text, entries_text, fitting, MostThatFit}

length_more : (e : EndedStretch) (es : List EndedStretch) → length (entries_text (e ∷ es)) ≡ length (entry_text e) + length (entries_text es)
unfolding entries_text
length_more e es = length-append (entry_text e) (entries_text es)

pub length_both : (es fs : List EndedStretch) → length (entries_text (es ++ fs)) ≡ length (entries_text es) + length (entries_text fs)
unfolding entries_text
length_both es fs = ap length (flat_map_append entry_text es fs) ∙ length-append (entries_text es) (entries_text fs)

pub length_one : (e : EndedStretch) → length (entries_text (e ∷ [])) ≡ length (entry_text e)
unfolding entries_text
length_one e = omega (arith, length_more e [])

-- What fits ---------------------------------------------------------------------

-- all of them, where they are no longer than the room
pub fitting_all : (room : ℕ) (es : List EndedStretch) → length (entries_text es) ≤ room → fitting room es ≡ es
unfolding fitting
fitting_all room [] h = refl
fitting_all room (e ∷ es) h =
    rw (le-leb (length (entry_text e)) room (omega (arith, length_more e es)))
    (ap (λ l. e ∷ l) (fitting_all (room - length (entry_text e)) es (omega (arith, length_more e es))))

-- n of them, and no more
abbrev Front : (room : ℕ) → List EndedStretch → Type 0
Front room es = (n : ℕ) × MostThatFit room es n × (fitting room es ≡ take n es)

pub fitting_number : (room : ℕ) (es : List EndedStretch) → Front room es
unfolding fitting entries_text
fitting_number room [] = (0, record { few = omega arith; within = omega arith; most = λ l. absurd (omega arith) }, refl)
fitting_number room (e ∷ es) = go (leb (length (entry_text e)) room) refl (fitting_number (room - length (entry_text e)) es)
  where
    go : (x : Bool) → leb (length (entry_text e)) room ≡ x → Front (room - length (entry_text e)) es → Front room (e ∷ es)
    go false q m = (
      0,
      record { few = omega arith; within = omega arith; most = λ l. omega (arith, length_more e [], leb-false (length (entry_text e)) room q) },
      rw q,
    )
    go true q (n, m, f) = (
      suc n,
      record {
        few = omega (arith, m.few);
        within = omega (arith, length_more e (take n es), m.within, leb-true (length (entry_text e)) room q);
        most = λ l. omega (arith, length_more e (take (suc n) es), m.most (omega arith), leb-true (length (entry_text e)) room q);
      },
      rw q (ap (λ l. e ∷ l) f),
    )

pub fitting_within : (room : ℕ) (es : List EndedStretch) → length (entries_text (fitting room es)) ≤ room
fitting_within room es = let (n, m, f) = fitting_number room es in rw f m.within

-- One entry more ------------------------------------------------------------------

-- where the entries are longer than the room, none of those after them is added
pub cut_stays : (room : ℕ) (es fs : List EndedStretch) → room < length (entries_text es) → fitting room (es ++ fs) ≡ fitting room es
unfolding fitting entries_text
cut_stays room [] fs h = absurd (omega arith)
cut_stays room (e ∷ es) fs h = go (leb (length (entry_text e)) room) refl (cut_stays (room - length (entry_text e)) es fs)
  where
    n : ℕ
    n = length (entry_text e)

    go : (x : Bool) → leb n room ≡ x → (room - n < length (entries_text es) → fitting (room - n) (es ++ fs) ≡ fitting (room - n) es)
        → cond x (e ∷ fitting (room - n) (es ++ fs)) [] ≡ cond x (e ∷ fitting (room - n) es) []
    go false q ih = refl
    go true q ih = ap (λ l. e ∷ l) (ih (omega (arith, h, length_more e es, leb-true n room q)))

-- an entry that is too long for what is left is not added
pub more_cut : (room : ℕ) (es : List EndedStretch) (e : EndedStretch) → length (entries_text es) ≤ room → room < length (entries_text es) + length (entry_text e)
    → fitting room (es ++ (e ∷ [])) ≡ fitting room es
unfolding fitting entries_text
more_cut room [] e h l = rw (lt-leb (length (entry_text e)) room (omega arith)) refl
more_cut room (d ∷ es) e h l =
    rw (le-leb (length (entry_text d)) room (omega (arith, h, length_more d es)))
    (ap (λ x. d ∷ x)
    (more_cut (room - length (entry_text d)) es e (omega (arith, h, length_more d es)) (omega (arith, h, l, length_more d es))))
