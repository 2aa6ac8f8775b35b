-- The reading of a cut sheet is handed on as that of a sheet which no check refused; its volumes may be 0. Assumes nothing.
use Rattle.std.specs.Prelude.{◌≡◌, refl, List, [], ℕ, ◌≤◌}
use Rattle.std.proofs.Common.{sym, ◌∙◌, arith}
use Rattle.checks.specs.declared.Refusal.{Refusal}
use Rattle.checks.specs.Sheet.{Sheet}
use Rattle.checks.specs.Checks.{first_refusal}
use Rattle.sheet.specs.declared.Reading.{Reading}
use Rattle.sheet.specs.declared.feed_sheet.FeedSheet.{FeedSheet}
use Rattle.sheet.specs.Accepted.{IsAccepted}
use Rattle.sheet.specs.FeedSheets.{sheet_in, sheet_reading}
use Rattle.sheet.proofs.FeedSheetLaws.{feed_read, feed_values, is_accepted}
use Rattle.sheet.specs.Calls.{accepted}
use Rattle.sheet.proofs.CallLaws.{reading_from_accepted}
use Rattle.sheet.specs.OwnChecks.{OwnChecks, ReadFrom, SomeReading, ReadSheet}
use Rattle.sheet.proofs.OwnCheckLaws.{read_values}
use Rattle.cuts.specs.Cuts.{max_share, cut_sheet}
use Rattle.cuts.specs.Clauses.{CutFrom}
use Rattle.cuts.proofs.ShareLaws.{cut_in_range}

module _ {own : List Refusal} {s : Sheet} {r : Reading} (h : ReadFrom own s r) (z : r.number ≡ 0) (share : ℕ) (l : share ≤ max_share) where
  cut_checked : OwnChecks [] (cut_sheet share s)
  unfolding first_refusal
  cut_checked =
      record {
        numbered = λ _. refl;
        of_sheet = record { not_held = λ e. omega (arith, e) };
        values = λ _. cut_in_range share l s (read_values h z);
      }

  pub cut_read : {x : Reading} → x ≡ accepted (cut_sheet share s) → ReadFrom [] (cut_sheet share s) x
  cut_read e = record { checks = cut_checked; is = e ∙ sym (reading_from_accepted [] (cut_sheet share s) refl) }

-- so that a function that asks for the reading of some sheet may be handed it
pub cut_some : {r : Reading} → ReadSheet r → (share : ℕ) → share ≤ max_share → {x : Reading} → CutFrom share r x → SomeReading x
cut_some sheet share l cut =
    let h = sheet.some.read in
    record {
      own = [];
      sheet = cut_sheet share sheet.some.sheet;
      read = cut_read h sheet.zero share l (cut sheet.some.own sheet.some.sheet h);
    }

-- and the numbers of a cut sheet are those of an accepted one
pub cut_accepted : (f : FeedSheet) (share : ℕ) → share ≤ max_share → {x : Reading} → CutFrom share (sheet_reading f) x
    → IsAccepted x.slots x.blowers x.wake x.rations x.numbers
cut_accepted f share l cut =
    is_accepted (cut_sheet share (sheet_in f)) (cut_in_range share l (sheet_in f) (feed_values f)) (cut [] (sheet_in f) (feed_read f))
