-- `planning::calls::plan_placed` meets its contract. Assumes nothing.
use mathlib.Core.Path.{refl, ◌∙◌}
use Rattle.std.proofs.lemmas.Result.{err_from_is_err_and}
use Rattle.sheet.specs.Calls.{refused}
use Rattle.sheet.proofs.FeedSheetLaws.{feed_read, ok_read, err_read, err_numbered}
use Rattle.planning.specs.Problem.{alone, words_for}
use Rattle.planning.specs.Planning.{short_placing}
use Rattle.planning.proofs.DayLaws.{fed_long, words_written}
use Rattle.planning.proofs.CallAnswers.{short_placing_lem, room_placing, unlisted_read, unlisted_short, unlisted_day, placed_read, placed_short, placed_day}
use Rattle.planning.proofs.calls.plan_placed.Goals as goal

pub returns-in_err-sheet : goal.returns-in_err-sheet
unfolding refused
returns-in_err-sheet c = λ own s h.
    let p = err_from_is_err_and c.from_residual.result c.from_residual.ensures.1 in
    let k = err_read h c.in_err-sheet.was in
    let n = err_numbered _ k in
    let short = short_placing c.args.placing.now in
    rw (p.1, p.2) (unlisted_read k (alone s) short n, placed_read k (alone s) short n (words_for (alone s)) c.args.placing.now)

pub returns-then-placing-lt-PLACING_WORDS : goal.returns-then-placing-lt-PLACING_WORDS
returns-then-placing-lt-PLACING_WORDS c = λ own s h.
    let k = ok_read h c.in_ok-sheet.was in
    let short = short_placing c.args.placing.now in
    let l = short_placing_lem _ c.if-placing-lt-PLACING_WORDS.true in
    rw c.on.ensures (unlisted_short k (alone s) short refl l, placed_short k (alone s) short refl l (words_for (alone s)) c.args.placing.now)

pub put_words-requires : goal.put_words-requires
put_words-requires c = (c.if-placing-lt-PLACING_WORDS.false, fed_long (c.day_of-day.ensures _ _ (feed_read c.in_ok-sheet.sheet) refl) c.fed_words.ensures)

pub returns : goal.returns
returns c = λ own s h.
    let k = ok_read h c.in_ok-sheet.was in
    let d = c.day_of-day.ensures own s k refl in
    let short = short_placing c.args.placing.now in
    let l = room_placing _ c.if-placing-lt-PLACING_WORDS.false in (
      (λ i. record { number = c.number_of.ensures i; line = 0; length = 0 }) ∙ unlisted_day k (alone s) short refl l d,
      placed_day k (alone s) short refl l d c.args.placing.now _ (words_written d c.fed_words.ensures _ c.put_words.ensures),
    )
