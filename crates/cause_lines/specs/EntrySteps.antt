-- How an entry is written, and how the listing goes on by one. Assumes nothing.
use Rattle.std.specs.Prelude.{◌≡◌, true, false}
use Rattle.std.proofs.Math.Path.{refl, sym, ap}
use Rattle.std.proofs.Common.{ap₂, ◌∙◌, subst, add-one, arith}
use mathlib.Core.List.{List, [], ◌∷◌, ◌++◌, map, map-append, append-nil}
use Prim.Native.Nat.{ℕ, suc, ◌+◌, ◌-◌, ◌*◌, ◌≤◌, ◌<◌}
use Rattle.std.specs.Int.Count.{ones}
use Rattle.std.proofs.Math.ListN.{length, length-append}
use Rattle.std.proofs.lemmas.List.{length-map}
use borrow.Author.Tests.{ltb-true, ltb-false, lt-ltb, le-ltb}
use Rattle.common.specs.Lists.{count}
use Rattle.common.specs.ListLaws.{count_le_length, flat_map_append}
use Rattle.common.specs.Buffers.{over, put_at}
use Rattle.common.specs.BufferLaws.{put_at_append, length_put_at}
use Rattle.line.specs.Layout.{line_bytes}
use Rattle.line.specs.Line.{write_line}
use Rattle.checks.specs.Limits.{max_slots}
use Rattle.schedules.specs.Tabulate.{length_tab}
use Rattle.placing.specs.declared.Cause.{Cause}
use Rattle.placing.specs.CauseCalls.{in_cause, number_of, slots_of, obstacle_of}
use Rattle.method.specs.Endings.{EndedStretch}
use Rattle.plan_lines.specs.Sizes.{causes_bytes}
use Rattle.plan_lines.specs.Lines.{Line, line, members_from, member_lines}
use Rattle.plan_lines.specs.Text.{write_lines}
use Rattle.plan_lines.specs.Putting.{Put, Putting, putting_begin, putting_more, putting_room, putting_end, put_one, length_write_lines}
use Rattle.plan_lines.specs.SetBits.{set_bits}
use Rattle.plan_lines.proofs.LengthLaws.{length_set_bits_ones}
use Rattle.listing.specs.Opening.{put_at_over}
use Rattle.listing.specs.HeldSteps.{length_member_lines}
use Rattle.cause_lines.specs.declared.CausedStretch.{CausedStretch}
use Rattle.cause_lines.specs.declared.Extent.{Extent}
use Rattle.cause_lines.specs.declared.SlotWords.{SlotWords}
use Rattle.cause_lines.specs.Entries.{entry_lines, entry_text, entries_text, fitting, causes_text, is_cut}
use Rattle.cause_lines.specs.FittingLaws.{length_both, length_one, fitting_all, cut_stays, more_cut}
use Rattle.cause_lines.specs.SlotCalls.{bit_lines, CanPutSlots, SlotsIn}
use Rattle.cause_lines.specs.SlotLaws.{bits_few}
use Rattle.cause_lines.specs.EntryCalls.{text_of, lines_with, CanPutEntry, EntryPut, Listing, SameStretch, CanAppend, Appended}

-- An entry ----------------------------------------------------------------------

module _ {out : List ℕ} {at n : ℕ} {s : CausedStretch} {w : SlotWords} (p : CanPutEntry out at s w n) where
  abbrev head : Line
  head = line s.blower s.last (number_of s.cause) n

  -- the lines behind the first
  abbrev slot_lines_lem : List Line
  slot_lines_lem = bit_lines 0 w.first ++ bit_lines 64 w.second

  begun : Putting (lines_with s w n) (lines_with s w n) at out out 0
  begun = putting_begin at out (lines_with s w n) p.room (lines_with s w n) refl

  pub entry_room : at + line_bytes ≤ length out
  entry_room = omega (arith, p.room)

  module _ {x : ℕ} {o₁ : List ℕ} (e : x ≡ number_of s.cause) (e₁ : o₁ ≡ put_at at (write_line s.blower s.last x n) out) where
    headed : Putting (lines_with s w n) slot_lines_lem at out o₁ (0 + 1)
    headed =
        putting_more at out (lines_with s w n) p.room (head ∷ []) slot_lines_lem 1 begun refl
        (put_one head (at + line_bytes * 0) out o₁ (e₁ ∙ ap₂ (λ (y k : ℕ). put_at k (write_line s.blower s.last y n) out) e (let i : at ≡ at + line_bytes * 0 = omega arith in i)))

    pub first_can : CanPutSlots o₁ (at + line_bytes) 0 w.first
    first_can =
        record {
          low = omega arith;
          room = omega (arith, putting_room at out (lines_with s w n) p.room (bit_lines 0 w.first) (bit_lines 64 w.second) headed refl);
        }

    module _ {o₂ : List ℕ} {m : ℕ} (q : Put (bit_lines 0 w.first) (at + line_bytes) o₁ o₂ m) where
      first_put : Putting (lines_with s w n) (bit_lines 64 w.second) at out o₂ ((0 + 1) + m)
      first_put =
          putting_more at out (lines_with s w n) p.room (bit_lines 0 w.first) (bit_lines 64 w.second) m headed refl
          (rw (← (let i : at + line_bytes ≡ at + line_bytes * (0 + 1) = omega arith in i)) q)

      pub first_few : m ≤ 64
      first_few = omega (arith, q.number, bits_few 0 w.first)

      pub second_can : CanPutSlots o₂ (at + line_bytes + line_bytes * m) 64 w.second
      second_can =
          record {
            low = omega arith;
            room = omega (arith, first_put.number, first_put.same_length, p.room);
          }

      pub entry_put : {o₃ : List ℕ} {k : ℕ} → Put (bit_lines 64 w.second) (at + line_bytes + line_bytes * m) o₂ o₃ k → EntryPut at s w n out o₃
      entry_put {o₃} {k} z =
          record {
            bytes =
                (putting_end at out (lines_with s w n) p.room {new = o₃}
                (putting_more at out (lines_with s w n) p.room (bit_lines 64 w.second) [] k first_put (sym (append-nil (bit_lines 64 w.second)))
                (rw (← (let i : at + line_bytes + line_bytes * m ≡ at + line_bytes * ((0 + 1) + m) = omega arith in i)) z))
                refl).text;
          }

-- The slots of a cause ----------------------------------------------------------

-- their number is that of the bits of its words
pub count_words : {w : SlotWords} {c : Cause} {slots : ℕ} → SlotsIn w c slots → ones w.first + ones w.second ≡ count (slots_of slots c)
unfolding member_lines
count_words {w} {c} {slots} p =
    omega (
      arith,
      length_member_lines 1 (slots_of slots c),
      length-map (members_from 1 (slots_of slots c)) (λ u. line u 0 0 0),
      ap length p.members ∙ length-append (set_bits 1 64 w.first) (set_bits 65 64 w.second),
      length_set_bits_ones 64 1 w.first p.first_fits,
      length_set_bits_ones 64 65 w.second p.second_fits,
    )

count_few : (slots : ℕ) (c : Cause) → slots ≤ max_slots → count (slots_of slots c) ≤ max_slots
count_few slots c d = omega (arith, count_le_length (slots_of slots c), length_tab slots (in_cause c))

pub words_few : {w : SlotWords} {c : Cause} {slots : ℕ} → slots ≤ max_slots → SlotsIn w c slots → ones w.first + ones w.second ≤ max_slots
words_few {c} {slots} d p = omega (arith, count_words p, count_few slots c d)

-- the lines put are those of the entry
lines_are : {slots : ℕ} (s : CausedStretch) {w : SlotWords} {n : ℕ} → SlotsIn w s.cause slots → n ≡ count (slots_of slots s.cause)
    → lines_with s w n ≡ entry_lines s.blower s.last (obstacle_of slots s.cause)
unfolding entry_lines member_lines
lines_are {slots} s {w} {n} p e =
    ap₂ (λ (k : ℕ) (ls : List Line). line s.blower s.last (number_of s.cause) k ∷ ls) e
    (sym (ap (map (λ u. line u 0 0 0)) p.members ∙ map-append (λ u. line u 0 0 0) (set_bits 1 64 w.first) (set_bits 65 64 w.second)))

-- its length
entry_length : (slots : ℕ) (s : CausedStretch) → length (text_of slots s) ≡ line_bytes * (count (slots_of slots s.cause) + 1)
unfolding entry_lines
entry_length slots s =
    length_write_lines (line s.blower s.last (number_of s.cause) (count (slots_of slots s.cause)) ∷ member_lines 1 (slots_of slots s.cause))
    ∙ ap (λ k. line_bytes * suc k) (length_member_lines 1 (slots_of slots s.cause)) ∙ ap (λ k. line_bytes * k) (sym (add-one (count (slots_of slots s.cause))))

-- The listing -------------------------------------------------------------------

pub listing_none : (old : List ℕ) → Listing [] old old (record { length = 0; cut = false })
unfolding causes_text fitting entries_text is_cut over
listing_none old = record { bytes = refl; size = refl; cut_is = refl }

module _ {es : List EndedStretch} {old new : List ℕ} {x : Extent} (p : Listing es old new x) where
  -- it is cut, and nothing is added
  pub listing_cut : x.cut ≡ true → (fs : List EndedStretch) → Listing (es ++ fs) old new x
  unfolding causes_text is_cut
  listing_cut c fs =
      record {
        bytes = p.bytes ∙ ap (λ l. over (entries_text l) old) (sym f);
        size = p.size ∙ ap (λ l. length (entries_text l)) (sym f);
        cut_is = c ∙ sym (lt-ltb causes_bytes (length (entries_text (es ++ fs))) (omega (arith, l, length_both es fs)));
      }
    where
      l : causes_bytes < length (entries_text es)
      l = ltb-true causes_bytes (length (entries_text es)) (sym p.cut_is ∙ c)

      f : fitting causes_bytes (es ++ fs) ≡ fitting causes_bytes es
      f = cut_stays causes_bytes es fs l

  module _ (e : EndedStretch) (c : x.cut ≡ false) where
    within_all : length (entries_text es) ≤ causes_bytes
    unfolding is_cut
    within_all = ltb-false causes_bytes (length (entries_text es)) (sym p.cut_is ∙ c)

    all : causes_text es ≡ entries_text es
    unfolding causes_text
    all = ap entries_text (fitting_all causes_bytes es within_all)

    size_all : x.length ≡ length (entries_text es)
    size_all = p.size ∙ ap length all

    length_next : length (entries_text (es ++ (e ∷ []))) ≡ x.length + length (entry_text e)
    length_next = omega (arith, length_both es (e ∷ []), length_one e, size_all)

    -- the entry does not fit
    listing_full : causes_bytes < x.length + length (entry_text e) → Listing (es ++ (e ∷ [])) old new (record { length = x.length; cut = true })
    unfolding causes_text is_cut
    listing_full l =
        record {
          bytes = p.bytes ∙ ap (λ l. over (entries_text l) old) (sym f);
          size = p.size ∙ ap (λ l. length (entries_text l)) (sym f);
          cut_is = sym (lt-ltb causes_bytes (length (entries_text (es ++ (e ∷ [])))) (omega (arith, l, length_next)));
        }
      where
        f : fitting causes_bytes (es ++ (e ∷ [])) ≡ fitting causes_bytes es
        f = more_cut causes_bytes es e within_all (omega (arith, l, size_all))

    -- it does
    listing_more : x.length + length (entry_text e) ≤ causes_bytes → causes_bytes ≤ length old → {new' : List ℕ} → new' ≡ put_at x.length (entry_text e) new
        → Listing (es ++ (e ∷ [])) old new' (record { length = x.length + length (entry_text e); cut = false })
    unfolding causes_text entries_text is_cut
    listing_more l o {new'} q =
        record {
          bytes =
              q ∙ ap (put_at x.length (entry_text e)) (p.bytes ∙ ap (λ l. over l old) all ∙ sym (put_at_over t old))
              ∙ ap (λ n. put_at n (entry_text e) (put_at 0 t old)) (size_all ∙ plus (length t))
              ∙ put_at_append 0 (length t) t (entry_text e) old refl (omega (arith, size_all))
              ∙ put_at_over (t ++ entry_text e) old ∙ ap (λ s. over s old) (sym added);
          size = omega (arith, size_all, ap length added, length-append t (entry_text e));
          cut_is = sym (le-ltb causes_bytes (length (entries_text (es ++ (e ∷ [])))) (omega (arith, l, length_next)));
        }
      where
        t : List ℕ
        t = entries_text es

        added : entries_text (fitting causes_bytes (es ++ (e ∷ []))) ≡ t ++ entry_text e
        added =
            ap entries_text (fitting_all causes_bytes (es ++ (e ∷ [])) (omega (arith, l, length_next)))
            ∙ flat_map_append entry_text es (e ∷ []) ∙ ap (λ l. t ++ l) (append-nil (entry_text e))

        plus : (n : ℕ) → n ≡ 0 + n
        plus n = omega arith

-- the entry of a stretch is the one that code writes
same_text : {slots : ℕ} {s : CausedStretch} {e : EndedStretch} → SameStretch slots s e → entry_text e ≡ text_of slots s
unfolding entry_text
same_text {slots} {s} {e} i =
    rw i.blower (rw i.last (rw i.cause refl))

module _ {out : List ℕ} {slots : ℕ} {x : Extent} {s : CausedStretch} (p : CanAppend out slots x s) where
  pub append_entry : {w : SlotWords} {n : ℕ} → SlotsIn w s.cause slots → n ≡ count (slots_of slots s.cause) → line_bytes * (n + 1) ≤ causes_bytes - x.length
      → CanPutEntry out x.length s w n
  append_entry {w} {n} i e h =
      record {
        last = p.last;
        few = omega (arith, e, count_few slots s.cause p.day);
        room = omega (arith, p.room, p.within, e, sym (length_write_lines (lines_with s w n)) ∙ ap (λ ls. length (write_lines ls)) (lines_are s i e) ∙ entry_length slots s);
      }

  pub append_cut : x.cut ≡ true → Appended x slots x s out out
  append_cut c = record { within = p.within; same_length = refl; more = λ es e old i r q. listing_cut q c (e ∷ []) }

  module _ (c : x.cut ≡ false) {n : ℕ} (k : n ≡ count (slots_of slots s.cause)) where
    pub append_full : causes_bytes - x.length < line_bytes * (n + 1) → Appended (record { length = x.length; cut = true }) slots x s out out
    append_full h =
        record {
          within = p.within;
          same_length = refl;
          more = λ es e old i r q. listing_full q e c (omega (arith, ap length (same_text i) ∙ entry_length slots s, k, p.within));
        }

    pub append_more : line_bytes * (n + 1) ≤ causes_bytes - x.length → {w : SlotWords} → SlotsIn w s.cause slots → {out' : List ℕ} → EntryPut x.length s w n out out'
        → Appended (record { length = x.length + line_bytes * (n + 1); cut = false }) slots x s out out'
    append_more h i {out'} put =
        let w : out' ≡ put_at x.length (text_of slots s) out = put.bytes ∙ ap (λ ls. put_at x.length (write_lines ls) out) (lines_are s i k) in
        let z : x.length + length (text_of slots s) ≤ causes_bytes = omega (arith, entry_length slots s, k, p.within) in
        record {
          within = omega (arith, p.within);
          same_length = ap length w ∙ length_put_at x.length (text_of slots s) out (omega (arith, z, p.room));
          more = λ es e old i r q.
              subst (λ n. Listing (es ++ (e ∷ [])) old out' (record { length = n; cut = false }))
              (let j : x.length + length (entry_text e) ≡ x.length + line_bytes * (n + 1) = omega (arith, ap length (same_text i) ∙ entry_length slots s, k) in j)
              (listing_more q e c (omega (arith, ap length (same_text i), z)) r (w ∙ ap (λ t. put_at x.length t out) (sym (same_text i))));
        }
