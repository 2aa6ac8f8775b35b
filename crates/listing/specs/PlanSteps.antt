-- How a plan's listing is put: its word, the stretch lines, the feed lines, the bill, then the head line. Assumes nothing.
use Rattle.std.specs.Prelude.{◌≡◌, List, [], ◌∷◌, ◌++◌, ℕ, ◌+◌, ◌*◌, ◌^◌, min, ◌≤◌, ◌<◌, length, get_or, take}
use Rattle.std.proofs.Math.Path.{refl, sym}
use Rattle.std.proofs.Common.{ap, subst, ◌∙◌, append_assoc, append-nil, mul-le-mul, arith, length-append, length-take}
use Rattle.std.specs.Int.Count.{ones}
use Rattle.line.specs.Layout.{line_bytes, fields}
use Rattle.checks.specs.Limits.{max_slots, max_blowers, max_wake, max_rations}
use Rattle.line.specs.Line.{write_line}
use Rattle.common.specs.Buffers.{put_at}
use Rattle.common.specs.BufferLaws.{put_at_append, length_put_at}
use Rattle.energy.specs.Usage.{day_use, Day, CanCharge}
use Rattle.energy.specs.declared.DayUse.{DayUse}
use Rattle.bill.specs.declared.Amount.{Amount}
use Rattle.bill.specs.Bill.{charge, amount_of}
use Rattle.plan_lines.specs.Sizes.{word_bytes, plan_bytes}
use Rattle.plan_lines.specs.Lines.{Line, Plan, stretch_lines, feed_lines, bill_line, plan_lines}
use Rattle.plan_lines.specs.Text.{write_lines, plan_word, plan_text}
use Rattle.plan_lines.specs.Inputs.{tanks_of, placing_of}
use Rattle.plan_lines.specs.Putting.{Put, length_write_lines, write_lines_append}
use Rattle.plan_lines.specs.StretchSteps.{CanPutStretches}
use Rattle.plan_lines.specs.FeedSteps.{CanPutFeedings}
use Rattle.listing.specs.Opening.{Written, listing_written, listing_length}
use Rattle.plan_lines.proofs.FrontLaws.{feed_lines_front}
use Rattle.plan_lines.proofs.LengthLaws.{length_stretch_lines, length_feed_lines_words}

-- the plan that the arrays stand for; past the sheet's rations the words have no bits
unfoldable pub plan_of : (slots blowers wake : ℕ) → (counts numbers words : List ℕ) → Plan
plan_of slots blowers wake counts numbers words =
    record {
      slots = slots;
      blowers = blowers;
      wake = wake;
      tanks = tanks_of max_rations numbers;
      counts = take slots counts;
      placing = placing_of slots max_rations words;
    }

pub record CanPutPlan (out : List ℕ) (slots blowers wake : ℕ) (counts numbers words : List ℕ) : Type 0 where
  pub counted : Day counts slots
  pub few : blowers ≤ max_blowers
  pub wake_most : wake ≤ max_wake
  pub tanks : length numbers ≡ fields * max_rations
  pub long : length words ≡ 96
  pub words_fit : (t : ℕ) → t < slots → get_or words t 0 < 2 ^ 64
  pub loads : (t : ℕ) → t < slots → ones (get_or words t 0) ≤ max_blowers
  pub room : plan_bytes ≤ length out

-- the buffer has room for the bill's line at a place
pub record CanPutBill (out : List ℕ) (at blowers wake : ℕ) : Type 0 where
  pub charged : CanCharge blowers wake
  pub room : at + line_bytes ≤ length out

-- the line of an amount is that of the charge it is of
pub bill_put : (m q : ℕ) (counts : List ℕ) (tenths : ℕ) (a : Amount) (at : ℕ) (old new : List ℕ) → tenths ≡ charge m q counts → a ≡ amount_of tenths
    → new ≡ put_at at (write_line a.hundreds a.remaining 0 0) old → new ≡ put_at at (write_lines (bill_line (charge m q counts) ∷ [])) old
unfolding bill_line write_lines
bill_put m q counts tenths a at old new e f g =
    g ∙ ap (λ (x : Amount). put_at at (write_line x.hundreds x.remaining 0 0) old) (f ∙ ap amount_of e)
    ∙ ap (λ t. put_at at t old) (sym (append-nil _))

module _ {slots m q : ℕ} {counts numbers words old : List ℕ} (can : CanPutPlan old slots m q counts numbers words) where
  abbrev stretch_ls : List Line
  stretch_ls = stretch_lines m q (take slots counts)

  abbrev feed_ls : List Line
  feed_ls = feed_lines slots (tanks_of max_rations numbers) (placing_of slots max_rations words)

  abbrev bill : Line
  bill = bill_line (charge m q (take slots counts))

  stretches_few : length stretch_ls ≤ max_slots * max_blowers
  stretches_few =
      omega (
        arith,
        length_stretch_lines m q (take slots counts),
        mul-le-mul can.few (day_le (length (take slots counts)) (length-take slots counts)),
      )
    where
      day_le : (n : ℕ) → n ≡ min slots (length counts) → n ≤ max_slots
      day_le n e = omega (arith, can.counted.day)

  feedings_few : length feed_ls ≤ max_slots * max_blowers
  feedings_few =
      omega (
        arith,
        length_feed_lines_words slots max_rations max_blowers numbers words (omega (arith, can.counted.day, can.long)) (λ t l. (can.words_fit t l, can.loads t l)),
        can.counted.day,
      )

  -- the words of the day's slots alone are the same feedings
  same_feedings : feed_lines (length (take slots words)) (tanks_of max_rations numbers) (placing_of (length (take slots words)) max_rations (take slots words)) ≡ feed_ls
  same_feedings = feed_lines_front slots max_rations numbers words (omega (arith, can.counted.day, can.long))

  pub plan_feedings_put : {at n : ℕ} {o o' : List ℕ}
      → Put (feed_lines (length (take slots words)) (tanks_of max_rations numbers) (placing_of (length (take slots words)) max_rations (take slots words))) at o o' n
      → Put feed_ls at o o' n
  plan_feedings_put {at} {n} {o} {o'} = subst (λ ls. Put ls at o o' n) same_feedings

  pub plan_can_charge : CanCharge m q
  plan_can_charge = record { few = can.few; wake_most = can.wake_most }

  module _ {o₁ : List ℕ} (e₁ : o₁ ≡ put_at 0 plan_word old) where
    same₁ : length o₁ ≡ length old
    same₁ = ap length e₁ ∙ length_put_at 0 plan_word old (omega (arith, can.room))

    pub plan_can_stretches : CanPutStretches o₁ (word_bytes + line_bytes) m q (take slots counts)
    plan_can_stretches = record { few = can.few; room = omega (arith, stretches_few, same₁, can.room) }

    module _ {o₂ : List ℕ} {s : ℕ} (p₂ : Put stretch_ls (word_bytes + line_bytes) o₁ o₂ s) where
      same₂ : length o₂ ≡ length old
      same₂ =
          ap length p₂.text
          ∙ length_put_at (word_bytes + line_bytes) (write_lines stretch_ls) o₁
          (omega (arith, length_write_lines stretch_ls, stretches_few, same₁, can.room))
          ∙ same₁

      pub plan_stretches_few : s ≤ max_slots * max_blowers
      plan_stretches_few = omega (arith, p₂.number, stretches_few)

      pub plan_can_feedings : CanPutFeedings o₂ ((word_bytes + line_bytes) + line_bytes * s) (length (take slots words)) numbers (take slots words)
      plan_can_feedings =
          record {
            day = omega (arith, length-take slots words, can.counted.day);
            tanks = can.tanks;
            long = omega arith;
            room = rw same_feedings (omega (arith, plan_stretches_few, feedings_few, same₂, can.room));
          }

      module _ {o₃ : List ℕ} {f : ℕ} (p₃ : Put feed_ls ((word_bytes + line_bytes) + line_bytes * s) o₂ o₃ f) where
        pub plan_feedings_few : f ≤ max_slots * max_blowers
        plan_feedings_few = omega (arith, p₃.number, feedings_few)

        same₃ : length o₃ ≡ length old
        same₃ =
            ap length p₃.text
            ∙ length_put_at ((word_bytes + line_bytes) + line_bytes * s) (write_lines feed_ls) o₂
            (omega (arith, length_write_lines feed_ls, plan_stretches_few, feedings_few, same₂, can.room))
            ∙ same₂

        -- the stretch lines and the feed lines side by side
        both_put : o₃ ≡ put_at (word_bytes + line_bytes) (write_lines (stretch_ls ++ feed_ls)) o₁
        both_put =
            p₃.text
            ∙ ap (put_at ((word_bytes + line_bytes) + line_bytes * s) (write_lines feed_ls)) p₂.text
            ∙ put_at_append (word_bytes + line_bytes) (line_bytes * s) (write_lines stretch_ls) (write_lines feed_ls) o₁
            (length_write_lines stretch_ls ∙ ap (λ k. line_bytes * k) (sym p₂.number)) (omega (arith, plan_stretches_few, same₁, can.room))
            ∙ ap (λ t. put_at (word_bytes + line_bytes) t o₁) (sym (write_lines_append stretch_ls feed_ls))

        both_number : length (stretch_ls ++ feed_ls) ≡ s + f
        both_number = length-append stretch_ls feed_ls ∙ omega (arith, p₂.number, p₃.number)

        pub plan_can_bill : CanPutBill o₃ ((word_bytes + line_bytes) + line_bytes * (s + f)) m q
        plan_can_bill = record { charged = plan_can_charge; room = omega (arith, plan_stretches_few, plan_feedings_few, same₃, can.room) }

        module _ {o₄ : List ℕ} (e₄ : o₄ ≡ put_at ((word_bytes + line_bytes) + line_bytes * (s + f)) (write_lines (bill ∷ [])) o₃) where
          pub plan_room : word_bytes + line_bytes ≤ length o₄
          plan_room =
              omega (
                arith,
                ap length e₄
                    ∙ length_put_at ((word_bytes + line_bytes) + line_bytes * (s + f)) (write_lines (bill ∷ [])) o₃
                    (omega (arith, length_write_lines (bill ∷ []), plan_can_bill.room)),
                same₃,
                can.room,
              )

          -- all three kinds
          lines_put : o₄ ≡ put_at (word_bytes + line_bytes) (write_lines (stretch_ls ++ (feed_ls ++ (bill ∷ [])))) o₁
          lines_put =
              e₄
              ∙ ap (put_at ((word_bytes + line_bytes) + line_bytes * (s + f)) (write_lines (bill ∷ []))) both_put
              ∙ put_at_append (word_bytes + line_bytes) (line_bytes * (s + f)) (write_lines (stretch_ls ++ feed_ls)) (write_lines (bill ∷ [])) o₁
              (length_write_lines (stretch_ls ++ feed_ls) ∙ ap (λ k. line_bytes * k) both_number) (omega (arith, plan_stretches_few, plan_feedings_few, same₁, can.room))
              ∙ ap (λ t. put_at (word_bytes + line_bytes) t o₁)
              (sym (write_lines_append (stretch_ls ++ feed_ls) (bill ∷ [])) ∙ ap write_lines (append_assoc stretch_ls feed_ls (bill ∷ [])))

          lines_number : length (stretch_ls ++ (feed_ls ++ (bill ∷ []))) ≡ (s + f) + 1
          lines_number =
              ap length (sym (append_assoc stretch_ls feed_ls (bill ∷ []))) ∙ length-append (stretch_ls ++ feed_ls) (bill ∷ []) ∙ omega (arith, both_number)

          pub plan_written : {d : DayUse} {o₅ : List ℕ} → d ≡ day_use m q (take slots counts) → o₅ ≡ put_at word_bytes (write_line d.energy d.starts s f) o₄
              → Written (plan_text (plan_of slots m q counts numbers words)) old o₅ (((word_bytes + line_bytes) + line_bytes * (s + f)) + line_bytes)
          unfolding plan_text plan_lines plan_of day_use
          plan_written {d} {o₅} u e₅ =
              record {
                bytes =
                    listing_written plan_word refl old _ (stretch_ls ++ (feed_ls ++ (bill ∷ []))) o₁ o₄ o₅
                    (omega (arith, lines_number, plan_stretches_few, plan_feedings_few, can.room)) e₁ lines_put (e₅ ∙ rw (u, ← p₂.number, ← p₃.number));
                size = sym (listing_length plan_word refl old _ ∙ omega (arith, lines_number));
              }
