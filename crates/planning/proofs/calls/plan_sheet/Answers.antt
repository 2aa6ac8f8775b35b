-- `planning::calls::plan_sheet` meets its contract. Assumes nothing.
use mathlib.Core.Path.{refl, ◌∙◌}
use mathlib.Core.Bool.{◌||◌}
use Rattle.sheet.proofs.FeedSheetLaws.{feed_read}
use Rattle.planning.specs.Problem.{whole_day, listing_of, words_for}
use Rattle.planning.specs.Planning.{short_plan, short_placing}
use Rattle.planning.proofs.DayLaws.{fed_long, words_written}
use Rattle.planning.proofs.CallAnswers.{room_plan, room_placing, either_short, neither, listed_short, listed_day, placed_short, placed_day, busy_short, busy_day}
use Rattle.planning.proofs.calls.plan_sheet.Goals as goal

pub returns-then-listing-lt-PLAN_BYTES : goal.returns-then-listing-lt-PLAN_BYTES
returns-then-listing-lt-PLAN_BYTES c = λ own s h high k.
    let p = whole_day s high in
    let listing = c.args.listing.now in
    let placing = c.args.placing.now in
    let short = short_plan listing || short_placing placing in
    let f = either_short listing placing c.then-listing-lt-PLAN_BYTES.either in
    rw c.on.ensures
    (record {
      listed = listed_short h p short refl f (listing_of p) listing;
      placed = placed_short h p short refl f (words_for p) placing;
      busy = busy_short h p short refl f;
    })

pub put_words-requires : goal.put_words-requires
put_words-requires c = (c.if-placing-lt-PLACING_WORDS.false, fed_long (c.day_under-day.ensures _ _ (feed_read c.args.sheet.now) refl c.requires.high c.requires.are) c.fed_words.ensures)

pub list_day-length-requires : goal.list_day-length-requires
list_day-length-requires c =
    (record { problem = whole_day _ _; day = c.day_under-day.ensures _ _ (feed_read c.args.sheet.now) refl c.requires.high c.requires.are }, c.if-listing-lt-PLAN_BYTES.false)

pub returns : goal.returns
returns c = λ own s h high k.
    let p = whole_day s high in
    let d = c.day_under-day.ensures own s h refl high (k refl) in
    let listing = c.args.listing.now in
    let placing = c.args.placing.now in
    let short = short_plan listing || short_placing placing in
    let f = neither (short_plan listing) (short_placing placing) (room_plan listing c.if-listing-lt-PLAN_BYTES.false) (room_placing placing c.if-placing-lt-PLACING_WORDS.false) in
    let l = listed_day h p short refl f d (c.list_day-length.ensures p d) in
    record {
      listed = ((λ i. record { number = c.number_of.ensures i; line = 0; length = c.list_day-length.result }) ∙ l.0, l.1);
      placed = placed_day h p short refl f d placing _ (words_written d c.fed_words.ensures _ c.put_words.ensures);
      busy = c.busy_counts.ensures ∙ busy_day h p short refl f d;
    }
