-- How the program's output follows from a planning call's answer, and that it fits the plan buffer. Assumes nothing.
use Rattle.std.specs.Prelude.{◌≡◌, ◌⊎◌, refl, Bool, cond, List, [], ◌++◌, ℕ, zero, suc, ◌≤◌, length, replicate}
use Rattle.std.proofs.Common.{sym, ◌∙◌, inl, inr, true≢false, arith}
use Rattle.std.proofs.Math.Path.{ap}
use Rattle.std.proofs.Math.Bool.{true, false}
use Rattle.std.proofs.lemmas.List.{length-replicate}
use Rattle.common.specs.ListLaws.{drop_replicate}
use Rattle.checks.specs.declared.Refusal.{Refusal}
use Rattle.checks.specs.Refusals.{no_placing}
use Rattle.checks.specs.Sheet.{sheet_of}
use Rattle.checks.specs.Checks.{faults}
use Rattle.sheet.specs.Calls.{reading_of}
use Rattle.common.specs.Buffers.{padded, over}
use Rattle.sheet.proofs.CallLaws.{faults_reading_of}
use Rattle.common.specs.BufferLaws.{length_padded}
use Rattle.checks.specs.WellFormedLaws.{well_formed_faults}
use Rattle.sheet.proofs.OwnCheckLaws.{bytes_read, refused_before, not_held}
use Rattle.plan_lines.specs.Sizes.{plan_bytes}
use Rattle.plan_lines.specs.Text.{refusal_text}
use Rattle.listing.specs.Opening.{Written, length_refusal_text}
use Rattle.planning.specs.declared.Planned.{Planned}
use Rattle.planning.specs.Problem.{alone, listing_of}
use Rattle.planning.specs.Planning.{held_faults, plan_refusal, short_plan, writes, listed_answer, listing_after}
use Rattle.planning.proofs.CallAnswers.{room_plan, writes_nothing}
use Rattle.planning.proofs.WrittenLaws.{writes_planned, writes_held}
use Rattle.planning.proofs.ProblemLaws.{length_listing}
use Rattle.planning.proofs.AloneLaws.{alone_in_range}
use Rattle.program.specs.declared.Output.{Output}
use Rattle.program.specs.Program.{output, output_of}

-- number 0 and number 12 write a listing
pub writes_either : (n : ℕ) → (n ≡ 0) ⊎ ((n ≡ 0 → ⊥) × (n ≡ no_placing)) → writes n ≡ true
writes_either n (inl e) = writes_planned n e
writes_either n (inr e) = writes_held n e.1

-- the buffer before planning
abbrev pub zeros : List ℕ
zeros = replicate plan_bytes 0

-- a text at the front of zeros
pub over_zeros : (n : ℕ) (text : List ℕ) → over text (replicate n 0) ≡ padded n text
unfolding over padded
over_zeros n text = ap (λ l. text ++ l) (drop_replicate (length text) n 0)

as_output : (b text bytes : List ℕ) (n : ℕ) → text ≡ output b → bytes ≡ over text zeros → n ≡ length text → record { bytes = bytes; length = n } ≡ output_of b
unfolding output_of
as_output b text bytes n e w l = λ i. record { bytes = (w ∙ over_zeros plan_bytes text ∙ ap (padded plan_bytes) e) i; length = (l ∙ ap length e) i }

-- what `plan` answered and left in the buffer
module _
    (b bytes : List ℕ) (p : Planned) (e : p ≡ listed_answer (plan_refusal b (short_plan zeros)) (listing_of (alone (sheet_of b))))
    (w : bytes ≡ listing_after (plan_refusal b (short_plan zeros)) (listing_of (alone (sheet_of b))) zeros) where
  abbrev listing : List ℕ
  listing = listing_of (alone (sheet_of b))

  abbrev f : Refusal
  f = plan_refusal b false

  room : short_plan zeros ≡ false
  room = room_plan zeros (omega (arith, length-replicate {A = ℕ} plan_bytes 0))

  answered : p ≡ listed_answer f listing
  answered = e ∙ ap (λ x. listed_answer (plan_refusal b x) listing) room

  after : bytes ≡ listing_after f listing zeros
  after = w ∙ ap (λ x. listing_after (plan_refusal b x) listing zeros) room

  number_is : p.number ≡ f.number
  unfolding listed_answer
  number_is = ap (λ x. x.number) answered

  line_is : p.line ≡ f.line
  unfolding listed_answer
  line_is = ap (λ x. x.line) answered

  -- a listing was written
  pub output_listed : writes p.number ≡ true → record { bytes = bytes; length = p.length } ≡ output_of b
  unfolding listed_answer listing_after output
  output_listed l = as_output b listing bytes p.length (rw k) (after ∙ rw k) (ap (λ x. x.length) answered ∙ rw k)
    where
      k : writes f.number ≡ true
      k = ap writes (sym number_is) ∙ l

  -- nothing was written, and then a refusal's text
  pub output_refused : writes p.number ≡ false → {last : List ℕ} {n : ℕ} → Written (refusal_text p.number p.line) bytes last n
      → record { bytes = last; length = n } ≡ output_of b
  unfolding listing_after output
  output_refused l {last} {n} v = as_output b (refusal_text p.number p.line) last n text (v.bytes ∙ ap (over (refusal_text p.number p.line)) kept) v.size
    where
      k : writes f.number ≡ false
      k = ap writes (sym number_is) ∙ l

      text : refusal_text p.number p.line ≡ output b
      text = ap (λ x. refusal_text x p.line) number_is ∙ ap (refusal_text f.number) line_is ∙ rw k

      kept : bytes ≡ zeros
      kept = after ∙ rw k

-- Its length ----------------------------------------------------------------------------------

-- a call that writes a listing has accepted the sheet
accepted_writes : (b : List ℕ) → writes (plan_refusal b false).number ≡ true → faults b ≡ []
unfolding plan_refusal
accepted_writes b w = go (reading_of b).number refl
  where
    go : (n : ℕ) → (reading_of b).number ≡ n → faults b ≡ []
    go zero e = faults_reading_of b e
    go (suc n) e =
        let k : (reading_of b).number ≡ 0 → ⊥ = λ z. omega (arith, e, z) in
        let h = bytes_read b refl in
        absurd (true≢false (sym w ∙ ap (λ r. writes r.number) (refused_before h k (held_faults (alone (sheet_of b)))) ∙ writes_nothing _ k (not_held h k)))

pub length_output : (b : List ℕ) → length (output b) ≤ plan_bytes
unfolding output
length_output b = go (writes (plan_refusal b false).number) refl
  where
    r : Refusal
    r = plan_refusal b false

    go : (c : Bool) → writes r.number ≡ c → length (cond c (listing_of (alone (sheet_of b))) (refusal_text r.number r.line)) ≤ plan_bytes
    go true e = length_listing (alone (sheet_of b)) (alone_in_range (sheet_of b) (well_formed_faults b (accepted_writes b e)).values)
    go false e = omega (arith, length_refusal_text r.number r.line)

-- what `answer` gives is no longer than its bytes
pub output_within : (b : List ℕ) (r : Output plan_bytes) → r ≡ output_of b → r.length ≤ length r.bytes
unfolding output_of
output_within b r e =
    let h = length_output b in
    omega (arith, ap (λ (x : Output plan_bytes). x.length) e, ap (λ (x : Output plan_bytes). length x.bytes) e, length_padded plan_bytes (output b) h)
