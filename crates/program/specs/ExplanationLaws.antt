-- How the output of `why` follows from what the calls answered, and that it fits its bytes. Assumes nothing.
use Rattle.std.specs.Prelude.{◌≡◌, Bool, cond, List, ℕ, ◌≤◌, length, replicate}
use Rattle.std.proofs.Common.{sym, ◌∙◌, arith}
use Rattle.std.proofs.Math.Path.{ap, ap₂}
use Rattle.std.proofs.Math.Bool.{true, false}
use Rattle.std.proofs.Math.Dec.{eqb}
use Rattle.std.proofs.lemmas.List.{length-replicate}
use borrow.Author.Tests.{eq-eqb, ne_eqb}
use Rattle.checks.specs.declared.Refusal.{Refusal}
use Rattle.checks.specs.Refusals.{no_placing}
use Rattle.checks.specs.Sheet.{sheet_of}
use Rattle.common.specs.Buffers.{over, padded}
use Rattle.common.specs.BufferLaws.{length_padded}
use Rattle.method.specs.Endings.{EndedStretch}
use Rattle.plan_lines.specs.Sizes.{causes_bytes}
use Rattle.plan_lines.specs.Text.{refusal_text}
use Rattle.listing.specs.Opening.{Written}
use Rattle.planning.specs.declared.Planned.{Planned}
use Rattle.planning.specs.Problem.{alone, listing_of}
use Rattle.planning.specs.Planning.{plan_refusal, short_plan, listed_answer, listing_after, writes}
use Rattle.planning.proofs.CallAnswers.{room_plan, writes_nothing}
use Rattle.planning.proofs.WrittenLaws.{writes_held}
use Rattle.cause_lines.specs.Entries.{entries_text, fitting, causes_text}
use Rattle.cause_lines.specs.FittingLaws.{fitting_within}
use Rattle.causes.specs.declared.CausesAnswer.{CausesAnswer}
use Rattle.causes.specs.CauseCalls.{endings_of, short_causes, causes_answer, causes_after}
use Rattle.causes.specs.CauseAnswers.{room_causes}
use Rattle.program.specs.declared.Explanation.{Explanation}
use Rattle.program.specs.Program.{output, explanation, explanation_cut, explanation_of}
use Rattle.program.specs.OutputLaws.{over_zeros, length_output}

-- the buffer at first
abbrev pub blank : List ℕ
blank = replicate causes_bytes 0

long : length blank ≡ causes_bytes
long = length-replicate {A = ℕ} causes_bytes 0

as_explanation : (b text bytes : List ℕ) (n : ℕ) (c : Bool) → text ≡ explanation b → bytes ≡ over text blank → n ≡ length text → c ≡ explanation_cut b
    → record { bytes = bytes; length = n; cut = c } ≡ explanation_of b
unfolding explanation_of
as_explanation b text bytes n c e w l f =
    λ i. record { bytes = (w ∙ over_zeros causes_bytes text ∙ ap (padded causes_bytes) e) i; length = (l ∙ ap length e) i; cut = f i }

-- what `list_causes` answered and left in the buffer
module _
    (b bytes : List ℕ) (a : CausesAnswer) (e : a ≡ causes_answer (plan_refusal b (short_causes blank)) (endings_of (alone (sheet_of b))))
    (w : bytes ≡ causes_after (plan_refusal b (short_causes blank)) (endings_of (alone (sheet_of b))) blank) where
  abbrev es : List EndedStretch
  es = endings_of (alone (sheet_of b))

  abbrev f : Refusal
  f = plan_refusal b false

  room : short_causes blank ≡ false
  room = room_causes blank (omega (arith, long))

  answered : a ≡ causes_answer f es
  answered = e ∙ ap (λ x. causes_answer (plan_refusal b x) es) room

  after : bytes ≡ causes_after f es blank
  after = w ∙ ap (λ x. causes_after (plan_refusal b x) es blank) room

  number_is : a.number ≡ f.number
  unfolding causes_answer
  number_is = ap (λ x. x.number) answered

  line_is : a.line ≡ f.line
  unfolding causes_answer
  line_is = ap (λ x. x.line) answered

  -- the causes were listed
  pub explained_causes : a.number ≡ 0 → record { bytes = bytes; length = a.length; cut = a.cut } ≡ explanation_of b
  unfolding causes_answer causes_after explanation explanation_cut
  explained_causes z =
      as_explanation b (causes_text es) bytes a.length a.cut (rw k) (after ∙ rw k) (ap (λ x. x.length) answered ∙ rw k) (ap (λ x. x.cut) answered)
    where
      k : eqb f.number 0 ≡ true
      k = eq-eqb f.number 0 (sym number_is ∙ z)

  -- nothing was written
  module _ (n : a.number ≡ 0 → ⊥) where
    k : eqb f.number 0 ≡ false
    k = ne_eqb f.number 0 (λ z. n (number_is ∙ z))

    kept : bytes ≡ blank
    unfolding causes_after
    kept = after ∙ rw k

    as_first : (text last : List ℕ) (m : ℕ) → text ≡ output b → last ≡ over text blank → m ≡ length text
        → record { bytes = last; length = m; cut = false } ≡ explanation_of b
    unfolding explanation explanation_cut
    as_first text last m t o l = as_explanation b text last m false (t ∙ rw k) o l (rw k)

    -- the sheet is held, and its listing is put
    pub explained_held : a.number ≡ no_placing → {p : Planned} {last : List ℕ} → p ≡ listed_answer (plan_refusal b (short_plan bytes)) (listing_of (alone (sheet_of b)))
        → last ≡ listing_after (plan_refusal b (short_plan bytes)) (listing_of (alone (sheet_of b))) bytes → record { bytes = last; length = p.length; cut = false } ≡ explanation_of b
    unfolding listed_answer listing_after output
    explained_held h {p} {last} q o =
        as_first (listing_of (alone (sheet_of b))) last p.length (rw loud) (o ∙ ap₂ (λ x y. listing_after (plan_refusal b x) (listing_of (alone (sheet_of b))) y) enough kept ∙ rw loud)
        (ap (λ x. x.length) q ∙ ap (λ x. (listed_answer (plan_refusal b x) (listing_of (alone (sheet_of b)))).length) enough ∙ rw loud)
      where
        enough : short_plan bytes ≡ false
        enough = ap short_plan kept ∙ room_plan blank (omega (arith, long))

        loud : writes f.number ≡ true
        loud = writes_held _ (sym number_is ∙ h)

    -- any other refusal's text is put
    pub explained_refused : (a.number ≡ no_placing → ⊥) → {last : List ℕ} {m : ℕ} → Written (refusal_text a.number a.line) bytes last m
        → record { bytes = last; length = m; cut = false } ≡ explanation_of b
    unfolding output
    explained_refused h {last} {m} v =
        as_first (refusal_text a.number a.line) last m (ap₂ refusal_text number_is line_is ∙ rw silent) (v.bytes ∙ ap (over (refusal_text a.number a.line)) kept) v.size
      where
        silent : writes f.number ≡ false
        silent = ap writes (sym number_is) ∙ writes_nothing a.number n h

-- Its length ----------------------------------------------------------------------------------

length_explanation : (b : List ℕ) → length (explanation b) ≤ causes_bytes
unfolding explanation causes_text
length_explanation b = go (eqb (plan_refusal b false).number 0)
  where
    go : (x : Bool) → length (cond x (entries_text (fitting causes_bytes (endings_of (alone (sheet_of b))))) (output b)) ≤ causes_bytes
    go true = fitting_within causes_bytes (endings_of (alone (sheet_of b)))
    go false = omega (arith, length_output b)

-- what `explain` gives is no longer than its bytes
pub explanation_within : (b : List ℕ) (r : Explanation) → r ≡ explanation_of b → r.length ≤ length r.bytes
unfolding explanation_of
explanation_within b r e =
    let h = length_explanation b in
    omega (arith, ap (λ (x : Explanation). x.length) e, ap (λ (x : Explanation). length x.bytes) e, length_padded causes_bytes (explanation b) h)
