-- Why the causes' call and the program `why` meet what the demands ask of them. Assumes nothing.
use Rattle.std.specs.Prelude.{◌≡◌, refl, ◌↔◌, Bool, true, false, ℕ, zero, suc, ◌≤◌, ◌<◌, ltb, length, take}
use Rattle.std.proofs.Math.Path.{sym, ap}
use Rattle.std.proofs.Common.{◌∙◌, subst, arith, length-take-le}
use mathlib.Core.List.{List, [], ◌∷◌, map, map-map, Memᴰ}
use Rattle.std.proofs.lemmas.List.{length-map}
use Rattle.std.proofs.Math.Seq.{take-append_seam, take-length}
use borrow.Author.Tests.{eq-eqb, ne_eqb, ltb-true, ltb-false, lt-ltb}
use Rattle.checks.specs.declared.Refusal.{Refusal}
use Rattle.checks.specs.Sheet.{Sheet, sheet_of}
use Rattle.checks.specs.Checks.{first_refusal}
use Rattle.common.specs.Lists.{keep}
use Rattle.common.specs.Buffers.{padded}
use Rattle.common.specs.BufferLaws.{take_over}
use Rattle.sheet.specs.OwnChecks.{OwnChecks}
use Rattle.method.specs.Method.{bounds_under}
use Rattle.method.specs.Intervals.{Interval}
use Rattle.method.specs.Keeping.{with_no_slots, stretches}
use Rattle.method.specs.Endings.{EndedStretch, endings}
use Rattle.method.proofs.EndingLaws.{endings_kept, in_order_same}
use Rattle.plan_lines.specs.Sizes.{causes_bytes}
use Rattle.plan_lines.specs.Lines.{Line}
use Rattle.cause_lines.specs.Entries.{entries_text, fitting, causes_text, is_cut, MostThatFit}
use Rattle.cause_lines.specs.FittingLaws.{fitting_all, fitting_number, fitting_within}
use Rattle.planning.specs.Problem.{Problem, alone, left, room, ProblemInRange, can_be_planned, feedings_of, counts_of, listing_of}
use Rattle.planning.specs.Planning.{plan_checks, plan_refusal}
use Rattle.planning.specs.ReadListing.{lines_of, stretch_part, stretches_on}
use Rattle.planning.proofs.StretchLineLaws.{stretches_on_lines}
use Rattle.planning.proofs.WrittenLaws.{number_held, stretch_part_plan}
use Rattle.causes.specs.declared.CausesAnswer.{CausesAnswer}
use Rattle.causes.specs.CauseCalls.{endings_of, short_causes, causes_answer, causes_after}
use Rattle.causes.specs.ReadCauses.{Entry, entries_in, entry_of, written_causes}
use Rattle.causes.specs.EndingLaws.{ended_by_method_lem, ended_explained, front_read}
use Rattle.demands.specs.Answers.{NotZero, CausesListed, CausesBuffer}
use Rattle.program.specs.Program.{output, explanation, explanation_cut, explanation_of}
use Rattle.planning.proofs.CallAnswers.{passed_planned}
use Rattle.demands.proofs.AnswerLaws.{front_over}
use Rattle.demands.proofs.OutcomeLaws.{lines_are}
use Rattle.demands.specs.Causes.{EntriesOf, CausesByMethod, stretches_in_order, ended_on, entry_end, stretch_end, CausesShown}

-- A buffer ----------------------------------------------------------------------------------

long_causes : (out : List ℕ) → short_causes out ≡ false → causes_bytes ≤ length out
unfolding short_causes
long_causes out e = ltb-false (length out) causes_bytes e

cut_above : (es : List EndedStretch) {cut : Bool} → cut ≡ is_cut es → (cut ≡ true) ↔ (causes_bytes < length (entries_text es))
unfolding is_cut
cut_above es e =
    (λ c. ltb-true causes_bytes (length (entries_text es)) (sym e ∙ c), λ l. e ∙ lt-ltb causes_bytes (length (entries_text es)) l)

pub causes_listed : (p : Problem) (cut : Bool) → cut ≡ is_cut (endings_of p) → (text : List ℕ) → text ≡ causes_text (endings_of p) → CausesListed p cut text
unfolding causes_text
causes_listed p cut c text e =
    let (n, m, f) = fitting_number causes_bytes (endings_of p) in
    record { text_is = e; n = n; most = m; whole_entries = e ∙ ap entries_text f; cut_iff = cut_above (endings_of p) c }

-- what the call leaves, at any refusal
pub causes_buffer : (p : Problem) (r : Refusal) (old : List ℕ) → (r.number ≡ 0 → causes_bytes ≤ length old)
    → let a = causes_answer r (endings_of p) in CausesBuffer p a.number a.length a.cut old (causes_after r (endings_of p) old)
unfolding causes_answer causes_after causes_text
causes_buffer p r old enough =
    let es : List EndedStretch = endings_of p in
    let text : List ℕ = causes_text es in
    record {
      refused = λ n. let k = ne_eqb r.number 0 n in (rw k, rw k, rw k);
      listed = λ z.
          let k = eq-eqb r.number 0 z in
          (rw k, rw k (front_over text old (omega (arith, fitting_within causes_bytes es, enough z))));
      causes = λ z. let k = eq-eqb r.number 0 z in rw k (causes_listed p (is_cut es) refl _ (take_over text old));
    }

-- a call that passes its checks was lent enough
pub causes_room : {own : List Refusal} {s : Sheet} (checks : OwnChecks own s) (p : Problem) (out : List ℕ)
    → (first_refusal (plan_checks own (short_causes out) p)).number ≡ 0 → causes_bytes ≤ length out
causes_room {own} checks p out z = long_causes out (passed_planned own checks.numbered (short_causes out) (can_be_planned p) z).1

-- Entries -------------------------------------------------------------------------------------

take_map : {A B : Type 0} (f : A → B) (n : ℕ) (xs : List A) → map f (take n xs) ≡ take n (map f xs)
take_map f zero xs = refl
take_map f (suc n) [] = refl
take_map f (suc n) (x ∷ xs) = ap (λ l. f x ∷ l) (take_map f n xs)

-- blower and last slot of the entries of stretches that end before slot D
stretches_listed : (p : Problem) (ls : List Line) (es : List Entry) → es ≡ map entry_of (take (length es) (ended_on p ls))
    → map entry_end es ≡ take (length es) (map stretch_end (keep (λ r. ltb r.1.last p.sheet.slots) (stretches_in_order p ls)))
stretches_listed p ls es e =
    ap (map entry_end) (e ∙ take_map entry_of (length es) (ended_on p ls))
    ∙ take_map entry_end (length es) (map entry_of (ended_on p ls))
    ∙ ap (take (length es))
    (map-map entry_end entry_of (ended_on p ls) ∙ sym (map-map stretch_end of_stretch (ended_on p ls))
    ∙ ap (map stretch_end) (endings_kept p.sheet.slots (left p) (bounds_under p.sheet.slots (room p)) (stretches_in_order p ls)))
  where
    of_stretch : EndedStretch → ℕ × Interval
    of_stretch x = (x.blower, x.stretch)

-- what is written is read as the entries of as many stretches as fit
module _ (p : Problem) (g : ProblemInRange p) (whole : p.cut ≡ 0) (can : can_be_planned p ≡ true) where
  abbrev ended : List EndedStretch
  ended = endings_of p

  -- n of them fit
  module _ (n : ℕ) (m : MostThatFit causes_bytes ended n) (f : fitting causes_bytes ended ≡ take n ended) (text : List ℕ) (e : text ≡ causes_text ended) where
    entries_front : entries_in text ≡ map entry_of (take n ended)
    unfolding causes_text
    entries_front = ap entries_in (e ∙ ap entries_text f) ∙ front_read p g whole can n

    entries_number : length (entries_in text) ≡ n
    entries_number = ap length entries_front ∙ length-map (take n ended) entry_of ∙ length-take-le n ended m.few

  -- all do
  entries_all : is_cut ended ≡ false → (text : List ℕ) → text ≡ causes_text ended → entries_in text ≡ map entry_of ended
  unfolding is_cut causes_text
  entries_all c text e =
      let f = fitting_all causes_bytes ended (ltb-false causes_bytes (length (entries_text ended)) c) in
      ap entries_in (e ∙ ap entries_text (f ∙ sym (take-length ended))) ∙ front_read p g whole can (length ended) ∙ ap (map entry_of) (take-length ended)

  entries_of : (text : List ℕ) → text ≡ causes_text ended → EntriesOf ended (is_cut ended) (entries_in text)
  entries_of text e =
      let (n, m, f) = fitting_number causes_bytes ended in
      let k = sym (entries_number n m f text e) in
      record {
        front = entries_front n m f text e ∙ ap (λ i. map entry_of (take i ended)) k;
        most = subst (MostThatFit causes_bytes ended) k m;
        cut_iff = cut_above ended refl;
        whole = λ c. entries_all c text e;
      }

  pub by_method_causes : (text : List ℕ) → text ≡ causes_text (endings_of p) → CausesByMethod p (is_cut (endings_of p)) (entries_in text)
  by_method_causes text e =
      subst (λ es. EntriesOf es (is_cut (endings_of p)) (entries_in text)) (ended_by_method_lem p g whole can) (entries_of text e)

  -- the stretches on the plan's lines are those of its counts
  on_plan : (listing : List ℕ) → listing ≡ listing_of p → ended_on p (stretch_part (lines_of listing)) ≡ endings_of p
  unfolding endings_of stretches counts_of
  on_plan listing e =
      ap (λ rs. endings p.sheet.slots (left p) (bounds_under p.sheet.slots (room p)) rs)
      (in_order_same (λ k. with_no_slots (stretches_on (stretch_part (lines_of listing)) k)) (stretches (counts_of p)) p.sheet.blowers
      (λ k o l. ap with_no_slots (ap (λ ls. stretches_on ls k) (ap stretch_part (lines_are p g can listing e) ∙ stretch_part_plan p.sheet (feedings_of p))
      ∙ stretches_on_lines p.sheet.wake (counts_of p) p.sheet.blowers k o l)))

  pub shown_causes : (listing text : List ℕ) → listing ≡ listing_of p → text ≡ causes_text (endings_of p)
      → CausesShown p (stretch_part (lines_of listing)) (is_cut (endings_of p)) (entries_in text)
  shown_causes listing text e f =
      let o = on_plan listing e in
      let listed = subst (λ es. EntriesOf es (is_cut (endings_of p)) (entries_in text)) (sym o) (entries_of text f) in
      record {
        stretches_are = stretches_listed p (stretch_part (lines_of listing)) (entries_in text) listed.front;
        listed = listed;
        explained = λ x i. ended_explained p g whole can x (subst (Memᴰ x) o i);
      }

-- The call ------------------------------------------------------------------------------------

-- where it gives 0 it wrote the listing, and says whether that was cut
module _ (r : Refusal) (es : List EndedStretch) (z : r.number ≡ 0) (old : List ℕ) where
  written_causes_lem : written_causes (causes_answer r es) (causes_after r es old) ≡ causes_text es
  unfolding causes_answer causes_after
  written_causes_lem = let k = eq-eqb r.number 0 z in rw k (take_over (causes_text es) old)

  pub cut_is : (causes_answer r es).cut ≡ is_cut es
  unfolding causes_answer
  cut_is = let k = eq-eqb r.number 0 z in rw k

-- a call whose sheet is well-formed and whose buffer is long enough
module _ {own : List Refusal} (formed : own ≡ []) (p : Problem) (g : ProblemInRange p) (whole : p.cut ≡ 0) (short : Bool) (enough : short ≡ false) where
  abbrev r : Refusal
  r = first_refusal (plan_checks own short p)

  pub planned : r.number ≡ 0 → can_be_planned p ≡ true
  planned z = go (can_be_planned p) refl
    where
      go : (c : Bool) → can_be_planned p ≡ c → c ≡ true
      go true e = refl
      go false e = absurd (omega (arith, z, number_held p formed short enough e))

  module _ (z : r.number ≡ 0) (old : List ℕ) where
    abbrev a : CausesAnswer
    a = causes_answer r (endings_of p)

    abbrev text : List ℕ
    text = written_causes (causes_answer r (endings_of p)) (causes_after r (endings_of p) old)

    pub call_by_method : CausesByMethod p a.cut (entries_in text)
    call_by_method =
        subst (λ c. CausesByMethod p c (entries_in text)) (sym (cut_is r (endings_of p) z old))
        (by_method_causes p g whole (planned z) text (written_causes_lem r (endings_of p) z old))

    pub call_shown : (listing : List ℕ) → listing ≡ listing_of p → CausesShown p (stretch_part (lines_of listing)) a.cut (entries_in text)
    call_shown listing e =
        subst (λ c. CausesShown p (stretch_part (lines_of listing)) c (entries_in text)) (sym (cut_is r (endings_of p) z old))
        (shown_causes p g whole (planned z) listing text e (written_causes_lem r (endings_of p) z old))

-- The program `why` -----------------------------------------------------------------------------

pub why_front : (b : List ℕ) → take (explanation_of b).length (explanation_of b).bytes ≡ explanation b
unfolding explanation_of padded
why_front b = take-append_seam (explanation b) _

pub why_causes : (b : List ℕ) → (plan_refusal b false).number ≡ 0
    → (explanation b ≡ causes_text (endings_of (alone (sheet_of b)))) × ((explanation_of b).cut ≡ is_cut (endings_of (alone (sheet_of b))))
unfolding explanation explanation_of explanation_cut
why_causes b z = let k = eq-eqb (plan_refusal b false).number 0 z in (rw k, rw k)

pub why_refused : (b : List ℕ) → NotZero (plan_refusal b false).number → (explanation b ≡ output b) × ((explanation_of b).cut ≡ false)
unfolding explanation explanation_of explanation_cut
why_refused b n = let k = ne_eqb (plan_refusal b false).number 0 n in (rw k, rw k)
