-- How the feed lines are put: one feeding more, one slot more. Assumes nothing.
use Rattle.std.specs.Prelude.{◌≡◌, refl, List, [], ◌∷◌, ◌++◌, ℕ, suc, ◌+◌, ◌-◌, ◌*◌, ◌^◌, ◌≤◌, ◌<◌, get_or, take, set, replicate}
use Rattle.std.proofs.Common.{sym, ◌∙◌, length-set, get_or-set_same, get_or-set_other}
use Rattle.std.proofs.Math.Path.{ap}
use Rattle.std.proofs.Math.Decide.{ℕ_discrete as dec_eq, dec_lt}
use Rattle.std.proofs.Math.Numerals.{add-one}
use native.Mathlib.Omega.{arith}
use Rattle.std.specs.Int.Count.{count_trailing_zeros}
use Rattle.std.proofs.Math.ListN.{get_or-replicate, get_or-eq_default}
use Rattle.common.specs.Lists.{count}
use Rattle.common.specs.Bits.{bit, bit_lt, bit_of_zero, sub_same, sub_other}
use Rattle.bits.specs.Lowest.{Lowest, lowest_some}
use Rattle.line.specs.Layout.{line_bytes}
use Rattle.checks.specs.Limits.{max_rations}
use Rattle.plan_lines.specs.Lines.{line, part_at, feed_lines}
use Rattle.plan_lines.specs.Inputs.{tank_at, tanks_of, row_of, placing_of}
use Rattle.plan_lines.specs.Putting.{Put, putting_begin, putting_more, putting_room, putting_end, put_one}
use Rattle.plan_lines.specs.SetBits.{set_bits, set_bits_zero, set_bits_lowest, length_set_bits}
use Rattle.plan_lines.specs.FeedLaws.{word_lines}
use Rattle.plan_lines.proofs.FeedLaws.{length_word_lines, slot_lines_word, part_at_row_of, count_take_le}
use Rattle.plan_lines.specs.FeedSteps.{CanAddParts, PartsAdded, AddingParts, CanPutFeeding, FeedingPut, CanPutSlot, SlotPut, lines_of, CanPutFeedings, FeedingsPut}

-- Parts ------------------------------------------------------------------------------

module _ {word : ℕ} {old : List ℕ} (can : CanAddParts old) where
  pub parts_begin : word < 2 ^ 64 → AddingParts word word old old
  parts_begin h = record { long = can.long; word_fits = h; each = λ j. refl }

  module _ {rest : ℕ} {new : List ℕ} (p : AddingParts word rest old new) where
    pub parts_end : rest ≡ 0 → PartsAdded word old new
    parts_end e = record { long = p.long; each = λ j. omega (arith, p.each j, ap (λ w. bit w j) e, bit_of_zero j) }

    module _ {j : ℕ} (l : Lowest rest j) where
      pub parts_few : get_or new j 0 ≤ 96
      parts_few = omega (arith, p.each j, can.few j, bit_lt word j)

      pub parts_more : {rest' : ℕ} → rest' ≡ rest - 2 ^ j → AddingParts word rest' old (set new j (get_or new j 0 + 1))
      parts_more {rest'} r =
          record {
            long = rw length-set p.long;
            word_fits = omega (arith, p.word_fits);
            each = λ i. go i (dec_eq i j);
          }
        where
          go : (i : ℕ) → Dec (i ≡ j) → get_or (set new j (get_or new j 0 + 1)) i 0 + bit rest' i ≡ get_or old i 0 + bit word i
          go i (yes q) =
              rw (q, get_or-set_same new j (get_or new j 0 + 1) 0 (omega (arith, l.below, p.long)), r)
              (omega (arith, sub_same rest j l.one, p.each j))
          go i (no q) = rw (get_or-set_other new j i (get_or new j 0 + 1) 0 q, r, sub_other rest j i l.one q) (p.each i)

-- One slot ---------------------------------------------------------------------------

module _ {slot word : ℕ} {numbers parts : List ℕ} {at : ℕ} {old : List ℕ} (can : CanPutSlot old at slot word numbers parts) where
  pub slot_begin : word < 2 ^ 64 → SlotPut slot word numbers parts at old old 0 word
  slot_begin h = record { word_fits = h; putting = putting_begin at old _ can.room _ refl }

  module _ {n rest : ℕ} {new : List ℕ} (p : SlotPut slot word numbers parts at old new n rest) where
    pub slot_end : rest ≡ 0 → Put (word_lines slot numbers parts 1 (set_bits 0 64 word)) at old new n
    unfolding word_lines
    slot_end e = putting_end at old _ can.room p.putting (rw (e, set_bits_zero 0 64))

    -- a word has at most 64 feedings
    pub slot_few : n ≤ 64
    slot_few = omega (arith, p.putting.number, length_word_lines slot numbers parts 1 (set_bits 0 64 word), length_set_bits 0 64 word)

    module _ {j : ℕ} (l : Lowest rest j) where
      -- its line, and those of the other bits
      next : word_lines slot numbers parts (suc n) (set_bits 0 64 rest)
          ≡ (line slot (n + 1) (tank_at numbers j) (get_or parts j 0) ∷ []) ++ word_lines slot numbers parts (suc (n + 1)) (set_bits 0 64 (rest - 2 ^ j))
      unfolding word_lines
      next =
          ap (word_lines slot numbers parts (suc n)) (set_bits_lowest 64 0 rest p.word_fits (lowest_some l) ∙ bits (0 + count_trailing_zeros 64 rest) (count_trailing_zeros 64 rest) (omega arith) (sym l.least))
          ∙ rw (← add-one n)
        where
          bits : (y z : ℕ) → y ≡ j → z ≡ j → y ∷ set_bits 0 64 (rest - 2 ^ z) ≡ j ∷ set_bits 0 64 (rest - 2 ^ j)
          bits y z p q = rw (p, q)

      pub feeding_can : CanPutFeeding new (at + line_bytes * n) j numbers parts
      feeding_can =
          record {
            tanks = can.tanks;
            long = can.long;
            ration = l.below;
            room = omega (arith, putting_room at old _ can.room (line slot (n + 1) (tank_at numbers j) (get_or parts j 0) ∷ []) (word_lines slot numbers parts (suc (n + 1)) (set_bits 0 64 (rest - 2 ^ j))) p.putting next);
          }

      pub slot_more : {rest' : ℕ} {new' : List ℕ} → rest' ≡ rest - 2 ^ j → FeedingPut slot (n + 1) j numbers parts (at + line_bytes * n) new new'
          → SlotPut slot word numbers parts at old new' (n + 1) rest'
      slot_more {rest'} {new'} r f =
          record {
            word_fits = omega (arith, p.word_fits);
            putting =
                rw r
                (putting_more at old _ can.room (line slot (n + 1) (tank_at numbers j) (get_or parts j 0) ∷ []) _ 1 p.putting next
                (put_one (line slot (n + 1) (tank_at numbers j) (get_or parts j 0)) (at + line_bytes * n) new new' f));
          }

-- All slots --------------------------------------------------------------------------

module _ {slots : ℕ} {numbers words : List ℕ} {at : ℕ} {old : List ℕ} (can : CanPutFeedings old at slots numbers words) where
  pub feedings_begin : FeedingsPut slots numbers words (replicate max_rations 0) 0 at old old 0
  unfolding feed_lines
  feedings_begin =
      record {
        in_day = omega arith;
        long = refl;
        so_far = λ j l. get_or-replicate max_rations j 0 0 l;
        putting = putting_begin at old _ can.room _ (ap (λ k. lines_of slots numbers words 0 k) (all slots));
      }
    where
      all : (k : ℕ) → k ≡ k - 0
      all k = omega arith

  module _ {parts : List ℕ} {t n : ℕ} {new : List ℕ} (p : FeedingsPut slots numbers words parts t at old new n) where
    pub feedings_end : slots ≤ t → Put (feed_lines slots (tanks_of max_rations numbers) (placing_of slots max_rations words)) at old new n
    feedings_end h =
        putting_end at old _ can.room p.putting
        (ap (λ k. lines_of slots numbers words t k) none)
      where
        none : slots - t ≡ 0
        none = omega arith

    pub feedings_can_add : CanAddParts parts
    feedings_can_add = record { long = p.long; few = λ j. go j (dec_lt j max_rations) }
      where
        go : (j : ℕ) → Dec (j < max_rations) → get_or parts j 0 ≤ 96
        go j (yes l) = omega (arith, p.so_far j l, count_take_le (row_of slots words j) t, p.in_day, can.day)
        go j (no l) = omega (arith, get_or-eq_default parts 0 {n = j} (omega (arith, p.long)))

    module _ (h : t < slots) {parts' : List ℕ} (a : PartsAdded (get_or words t 0) parts parts') where
      parts_at : (j : ℕ) → j < max_rations → get_or parts' j 0 ≡ part_at t (row_of slots words j)
      parts_at j l = omega (arith, a.each j, p.so_far j l, part_at_row_of slots words t h (omega (arith, can.day, can.long)) j)

      -- the lines of a slot, and those of the others
      slot_next : lines_of slots numbers words t (slots - t)
          ≡ word_lines (t + 1) numbers parts' 1 (set_bits 0 64 (get_or words t 0))
          ++ lines_of slots numbers words (t + 1) (slots - (t + 1))
      slot_next =
          ap (λ k. lines_of slots numbers words t k) left
          ∙ rw (← add-one t)
          (ap (λ ls. ls ++ lines_of slots numbers words (t + 1) (slots - (t + 1)))
          (slot_lines_word slots words t h (omega (arith, can.day, can.long)) numbers parts' max_rations parts_at ∙ ap (λ s. word_lines s numbers parts' 1 (set_bits 0 64 (get_or words t 0))) (sym (add-one t))))
        where
          left : slots - t ≡ suc (slots - (t + 1))
          left = omega arith

      pub feedings_can_slot : CanPutSlot new (at + line_bytes * n) (t + 1) (get_or words t 0) numbers parts'
      feedings_can_slot =
          record {
            tanks = can.tanks;
            long = a.long;
            room = putting_room at old _ can.room (word_lines (t + 1) numbers parts' 1 (set_bits 0 64 (get_or words t 0))) (lines_of slots numbers words (t + 1) (slots - (t + 1))) p.putting slot_next;
          }

      pub feedings_more : {r : ℕ} {new' : List ℕ} → Put (word_lines (t + 1) numbers parts' 1 (set_bits 0 64 (get_or words t 0))) (at + line_bytes * n) new new' r
          → FeedingsPut slots numbers words parts' (t + 1) at old new' (n + r)
      unfolding part_at
      feedings_more {r} s =
          record {
            in_day = omega arith;
            long = a.long;
            so_far = λ j l. parts_at j l ∙ ap (λ k. count (take k (row_of slots words j))) (sym (add-one t));
            putting = putting_more at old _ can.room _ _ r p.putting slot_next s;
          }
