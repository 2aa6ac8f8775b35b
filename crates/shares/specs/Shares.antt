-- Short rations, equally cut (request 111): what the call that plans the greatest share answers. What it leaves in the
-- lent buffers is `listing_after` and `placing_after` of `planning` at this refusal and this problem. The cut sheet and
-- the greatest share are in Cuts.antt of `cuts`. Definitions only. Assumes nothing.
use Rattle.std.specs.Prelude.{◌≡◌, Bool, cond, Result, Ok, Err, List, ℕ, eqb, length}
use Rattle.checks.specs.declared.Refusal.{Refusal}
use Rattle.checks.specs.Sheet.{Sheet}
use Rattle.checks.specs.Checks.{first_refusal, faults}
use Rattle.checks.specs.CallChecks.{buffer_checks}
use Rattle.cuts.specs.Cuts.{cut_sheet, greatest_share}
use Rattle.planning.specs.Problem.{Problem, alone, listing_of, words_for}
use Rattle.planning.specs.Planning.{listing_after, placing_after}
use Rattle.shares.specs.declared.SharePlanned.{SharePlanned}

-- what is planned: the sheet cut to the greatest share, alone
unfoldable pub share_problem : Sheet → Problem
share_problem s = alone (cut_sheet (greatest_share s) s)

-- 1 to 9 and 13; then 10, a lent buffer that is too short. 12 is not among them
unfoldable pub share_refusal : List ℕ → (short : Bool) → Refusal
share_refusal b short = first_refusal (buffer_checks (faults b) short)

-- the length of the listing and the share; both are 0 on a refusal
unfoldable pub share_answer : Refusal → Sheet → SharePlanned
share_answer r s =
    record {
      number = r.number;
      line = r.line;
      length = cond (eqb r.number 0) (length (listing_of (share_problem s))) 0;
      share = cond (eqb r.number 0) (greatest_share s) 0;
    }

-- the answer and both buffers afterwards, at a refusal
pub record ShareAt (f : Refusal) (s : Sheet) (listing listing' placing placing' : List ℕ) (a : SharePlanned) : Type 0 where
  pub answer : a ≡ share_answer f s
  pub listed : listing' ≡ listing_after f (listing_of (share_problem s)) listing
  pub placed : placing' ≡ placing_after f (words_for (share_problem s)) placing

-- what was planned, or a refusal, as an answer
abbrev pub as_share : Result SharePlanned Refusal → SharePlanned
as_share (Ok p) = p
as_share (Err f) = record { number = f.number; line = f.line; length = 0; share = 0 }
