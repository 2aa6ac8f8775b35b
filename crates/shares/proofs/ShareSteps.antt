-- How the answer of the call and its lent buffers follow from what was read, found and planned. Assumes nothing.
use mathlib.Core.Path.{◌≡◌, sym, ap, ◌∙◌, subst}
use mathlib.Core.Bool.{Bool, true, false, ◌||◌}
use mathlib.Core.List.{List, []}
use Prim.Native.Nat.{ℕ, ◌≤◌}
use native.Mathlib.Omega.{arith}
use borrow.Author.Tests.{ne_eqb}
use Rattle.checks.specs.declared.Refusal.{Refusal}
use Rattle.checks.specs.Refusals.{short_buffer, no_placing}
use Rattle.checks.specs.Sheet.{Sheet, sheet_of}
use Rattle.checks.specs.Checks.{fault, first_refusal, faults}
use Rattle.sheet.specs.declared.Reading.{Reading}
use Rattle.sheet.specs.OwnChecks.{ReadFrom}
use Rattle.sheet.proofs.OwnCheckLaws.{refused_before, accepted_before, not_held}
use Rattle.cuts.specs.Cuts.{max_share, cut_sheet, greatest_share}
use Rattle.cuts.proofs.Theorems.{share_most}
use Rattle.cuts.proofs.ReadLaws.{cut_read}
use Rattle.cuts.specs.Clauses.{CutFrom, ShareFound}
use Rattle.planning.specs.declared.Planned.{Planned}
use Rattle.planning.specs.Problem.{alone, listing_of, words_for}
use Rattle.planning.specs.Planning.{plan_refusal_for, short_plan, short_placing, writes, listed_answer, listing_after, placing_after}
use Rattle.planning.specs.Clauses.{ReadBoth}
use Rattle.planning.proofs.CallAnswers.{writes_nothing, listed_nothing, placed_nothing}
use Rattle.shares.specs.Shares.{share_problem, share_refusal, share_answer, ShareAt}
use Rattle.shares.specs.Theorems.{share_planned}

-- a number other than 0 and 12 leaves everything as it was
refused_at : (f : Refusal) (s : Sheet) (listing placing : List ℕ) → (f.number ≡ 0 → ⊥) → (f.number ≡ no_placing → ⊥)
    → ShareAt f s listing listing placing placing (record { number = f.number; line = f.line; length = 0; share = 0 })
unfolding share_answer
refused_at f s listing placing n k =
    let silent = writes_nothing f.number n k in
    record {
      answer = rw (ne_eqb f.number 0 n);
      listed = (listed_nothing f silent (listing_of (share_problem s)) listing).1;
      placed = placed_nothing f silent (words_for (share_problem s)) placing;
    }

-- What was read, the share found, and what would be read of the cut sheet --------------------

module _ (b : List ℕ) {r : Reading} (h : ReadFrom (faults b) (sheet_of b) r) where
  module _ {share : ℕ} (found : ShareFound r share) where
    greatest : share ≡ greatest_share (sheet_of b)
    greatest = found (faults b) (sheet_of b) h

    pub share_within : share ≤ max_share
    share_within = omega (arith, greatest, share_most (sheet_of b))

    read : r.number ≡ 0 → {x : Reading} → CutFrom share r x → ReadFrom [] (cut_sheet share (sheet_of b)) x
    read z cut = cut_read h z share share_within (cut (faults b) (sheet_of b) h)

-- The answer -----------------------------------------------------------------------------

module _ (b listing placing : List ℕ) {r : Reading} (h : ReadFrom (faults b) (sheet_of b) r) where
  abbrev s : Sheet
  s = sheet_of b

  abbrev short : Bool
  short = short_plan listing || short_placing placing

  -- refused by a check of the sheet
  pub share_refused_lem : (r.number ≡ 0 → ⊥)
      → ShareAt (share_refusal b short) s listing listing placing placing (record { number = r.number; line = r.line; length = 0; share = 0 })
  unfolding share_refusal
  share_refused_lem n =
      subst (λ f. ShareAt f s listing listing placing placing (record { number = r.number; line = r.line; length = 0; share = 0 }))
      (sym (refused_before h n (fault short_buffer 0 short)))
      (refused_at (record { number = r.number; line = r.line }) s listing placing n (not_held h n))

  module _ (z : r.number ≡ 0) where
    after_read : share_refusal b short ≡ first_refusal (fault short_buffer 0 short)
    unfolding share_refusal
    after_read = accepted_before h z (fault short_buffer 0 short)

    -- refused by 10
    pub share_short : short ≡ true
        → ShareAt (share_refusal b short) s listing listing placing placing (record { number = short_buffer; line = 0; length = 0; share = 0 })
    unfolding first_refusal
    share_short e =
        subst (λ f. ShareAt f s listing listing placing placing (record { number = short_buffer; line = 0; length = 0; share = 0 }))
        (sym (after_read ∙ ap (λ x. first_refusal (fault short_buffer 0 x)) e))
        (refused_at (record { number = short_buffer; line = 0 }) s listing placing (λ i. omega (arith, i)) (λ i. omega (arith, i)))

    -- planned
    module _ (e : short ≡ false) {share : ℕ} (found : ShareFound r share) {x : Reading} (cut : CutFrom share r x) {listing' placing' : List ℕ} {p : Planned}
        (planned : ReadBoth x listing listing' placing placing' p) where
      none : share_refusal b short ≡ record { number = 0; line = 0 }
      unfolding first_refusal
      none = after_read ∙ ap (λ x. first_refusal (fault short_buffer 0 x)) e

      problem : alone (cut_sheet share s) ≡ share_problem s
      unfolding share_problem
      problem = ap (λ n. alone (cut_sheet n s)) (greatest b h found)

      -- the cut sheet is not refused, nor held
      cut_none : plan_refusal_for [] (cut_sheet share s) short ≡ record { number = 0; line = 0 }
      unfolding first_refusal
      cut_none = rw (e, problem, share_planned s)

      pub share_done : ShareAt (share_refusal b short) s listing listing' placing placing'
          (record { number = p.number; line = p.line; length = p.length; share = share })
      unfolding share_answer listed_answer writes
      share_done =
          let u = planned [] (cut_sheet share s) (read b h found z cut) in
          subst (λ f. ShareAt f s listing listing' placing placing' (record { number = p.number; line = p.line; length = p.length; share = share })) (sym none)
          (record {
            answer = λ i.
                let q = (u.0.0 ∙ (λ j. listed_answer (cut_none j) (listing_of (problem j)))) i in
                record { number = q.number; line = q.line; length = q.length; share = greatest b h found i };
            listed = u.0.1 ∙ (λ j. listing_after (cut_none j) (listing_of (problem j)) listing);
            placed = u.1 ∙ (λ j. placing_after (cut_none j) (words_for (problem j)) placing);
          })
