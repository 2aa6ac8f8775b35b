-- What a planning call leaves where its sheet is well-formed and no lent buffer is too short: its number, and the
-- listing that it wrote; and the lines of a plan with any sound placing. Assumes nothing.
use Rattle.std.specs.Prelude.{◌≡◌, Bool, true, false, cond, List, [], ◌∷◌, ◌++◌, ℕ, suc, ◌+◌, length, get_or, take, drop}
use Rattle.std.proofs.Math.Path.{refl}
use Rattle.std.proofs.Common.{sym, ap, ap₂, ◌∙◌, arith, get_or-append-add}
use Rattle.std.proofs.Math.Seq.{take_at, take-append_seam, drop-append_seam}
use Rattle.checks.specs.declared.Refusal.{Refusal}
use Rattle.checks.specs.Refusals.{no_placing}
use Rattle.checks.specs.Sheet.{Sheet}
use Rattle.checks.specs.Checks.{first_refusal}
use Rattle.common.specs.Buffers.{over}
use Rattle.checks.specs.RangeLaws.{ValuesInRange}
use Rattle.schedules.specs.Schedules.{Schedule, load}
use Rattle.energy.specs.Energy.{starts, energy}
use Rattle.bill.specs.Bill.{charge}
use Rattle.plan_lines.specs.Sizes.{word_bytes}
use Rattle.plan_lines.specs.Lines.{Line, line, stretch_lines, feed_lines, bill_line, plan_lines}
use Rattle.plan_lines.specs.Text.{write_lines, plan_word, plan_text}
use Rattle.planning.specs.Problem.{Problem, SoundPlacing, can_be_planned, plan_with}
use Rattle.planning.specs.Planning.{plan_checks, writes, listed_answer, listing_after, placing_after}
use Rattle.planning.specs.ReadListing.{written, tanks, lines_of, head_line, stretch_part, feed_part, bill_on, placing_on}
use Rattle.planning.proofs.ReadLaws.{lines_of_written}
use Rattle.planning.proofs.FeedLineLaws as Feed
use Rattle.planning.proofs.PlacingLaws.{placing_rows, length_placing, tanks_placing, own_lines}
use Rattle.planning.proofs.FitLaws.{fit_plan_lines}

-- The refusal -------------------------------------------------------------------------

module _ {own : List Refusal} (p : Problem) (formed : own ≡ []) (short : Bool) (enough : short ≡ false) where
  pub number_planned : can_be_planned p ≡ true → (first_refusal (plan_checks own short p)).number ≡ 0
  unfolding first_refusal
  number_planned e = rw (formed, enough, e)

  pub number_held : can_be_planned p ≡ false → (first_refusal (plan_checks own short p)).number ≡ no_placing
  unfolding first_refusal
  number_held e = rw (formed, enough, e)

-- What was written ---------------------------------------------------------------------

written_front : (new old : List ℕ) (w : Bool) → w ≡ true → take (cond w (length new) 0) (cond w (over new old) old) ≡ new
unfolding over
written_front new old w e = rw e (take-append_seam new (drop (length new) old))

-- a call that gives 0 or 12 wrote the listing ..
pub listing_written : (r : Refusal) (listing old : List ℕ) → writes r.number ≡ true
    → written (listed_answer r listing) (listing_after r listing old) ≡ listing
unfolding listed_answer listing_after
listing_written r listing old e = written_front listing old (writes r.number) e

-- .. and the placing buffer's words
pub placing_written : (r : Refusal) (words old : List ℕ) → writes r.number ≡ true → placing_after r words old ≡ over words old
unfolding placing_after
placing_written r words old e = rw e

pub writes_planned : (n : ℕ) → n ≡ 0 → writes n ≡ true
unfolding writes
writes_planned n e = rw e

pub writes_held : (n : ℕ) → n ≡ no_placing → writes n ≡ true
unfolding writes
writes_held n e = rw e

-- A plan's lines -------------------------------------------------------------------------

module _ (s : Sheet) (v : ValuesInRange 0 s (length s.jobs) true) (p : Schedule) (can : SoundPlacing s p) where
  pub word_plan : take word_bytes (plan_text (plan_with s p)) ≡ plan_word
  unfolding plan_text
  word_plan = take_at plan_word (write_lines (plan_lines (plan_with s p))) word_bytes refl

  pub lines_plan : lines_of (plan_text (plan_with s p)) ≡ plan_lines (plan_with s p)
  unfolding plan_text
  lines_plan = lines_of_written plan_word (plan_lines (plan_with s p)) refl (fit_plan_lines s v p can)

pub head_plan : (s : Sheet) (p : Schedule) → ((head_line (plan_lines (plan_with s p))).a ≡ energy s.blowers s.wake (load s.slots p))
    × ((head_line (plan_lines (plan_with s p))).b ≡ starts s.blowers s.wake (load s.slots p))
unfolding head_line plan_lines plan_with
head_plan s p = (refl, refl)

pub stretch_part_plan : (s : Sheet) (p : Schedule) → stretch_part (plan_lines (plan_with s p)) ≡ stretch_lines s.blowers s.wake (load s.slots p)
unfolding stretch_part head_line plan_lines plan_with
stretch_part_plan s p = take-append_seam (stretch_lines s.blowers s.wake (load s.slots p)) _

pub feed_part_plan : (s : Sheet) (p : Schedule) → feed_part (plan_lines (plan_with s p)) ≡ feed_lines s.slots (tanks s) p
unfolding feed_part head_line plan_lines plan_with
feed_part_plan s p =
    ap (take (length (feed_lines s.slots (tanks s) p)))
    (drop-append_seam (stretch_lines s.blowers s.wake (load s.slots p)) _)
    ∙ take-append_seam (feed_lines s.slots (tanks s) p) _

-- the bill is that of the charge
pub bill_plan : (s : Sheet) (p : Schedule) → bill_on (plan_lines (plan_with s p)) ≡ bill_line (charge s.blowers s.wake (load s.slots p))
unfolding bill_on head_line plan_lines plan_with
bill_plan s p =
    ap (λ n. get_or (plan_lines (plan_with s p)) n (line 0 0 0 0)) (place (length stretch_ls) (length feed_ls))
    ∙ get_or-append-add stretch_ls _ (length feed_ls + 0) (line 0 0 0 0)
    ∙ get_or-append-add feed_ls _ 0 (line 0 0 0 0)
  where
    stretch_ls : List Line
    stretch_ls = stretch_lines s.blowers s.wake (load s.slots p)

    feed_ls : List Line
    feed_ls = feed_lines s.slots (tanks s) p

    place : (a b : ℕ) → 1 + a + b ≡ suc (a + (b + 0))
    place a b = omega arith

pub whole_plan : (s : Sheet) (p : Schedule)
    → plan_lines (plan_with s p) ≡ head_line (plan_lines (plan_with s p)) ∷ stretch_part (plan_lines (plan_with s p)) ++ (feed_part (plan_lines (plan_with s p)) ++ (bill_on (plan_lines (plan_with s p)) ∷ []))
unfolding head_line plan_lines plan_with
whole_plan s p =
    ap₂ (λ (x y : List Line). head_line (plan_lines (plan_with s p)) ∷ x ++ y) (sym (stretch_part_plan s p))
    (ap₂ (λ (x : List Line) (y : Line). x ++ (y ∷ [])) (sym (feed_part_plan s p)) (sym (bill_plan s p)))

module _ (s : Sheet) (v : ValuesInRange 0 s (length s.jobs) true) (p : Schedule) (can : SoundPlacing s p) where
  -- the placing on the feed lines
  pub placing_on_lem : placing_on s.slots s.jobs (feed_part (plan_lines (plan_with s p))) ≡ p
  placing_on_lem =
      ap (placing_on s.slots s.jobs) (feed_part_plan s p)
      ∙ Feed.placing_on_lines s.slots (tanks s) p (tanks_placing s p can) (placing_rows s p can) s.jobs (sym (length_placing s p can)) (own_lines s p can v)
