-- How a held sheet's listing is put: one slot more, then the head line. Assumes nothing.
use Rattle.std.specs.Prelude.{◌≡◌, Bool, true, false, cond, List, [], ◌∷◌, ◌++◌, map, ℕ, suc, ◌+◌, ◌*◌, ◌≤◌, ◌<◌, ltb, length, get_or, take}
use Rattle.std.proofs.Math.Path.{refl, sym, ap}
use Rattle.std.proofs.Common.{subst, ◌∙◌, add-one, arith, lt-ltb, le-ltb}
use Rattle.std.proofs.lemmas.List.{map-append}
use Rattle.std.proofs.Math.ListN.{length-map, length-take}
use Rattle.common.specs.Lists.{part, count}
use Rattle.common.specs.ListLaws.{part_cons, part_none, part_front, count_le_length}
use Rattle.line.specs.Layout.{line_bytes}
use Rattle.line.specs.Line.{write_line}
use Rattle.common.specs.Buffers.{put_at}
use Rattle.common.specs.BufferLaws.{length_put_at}
use Rattle.schedules.specs.Slots.{Slots}
use Rattle.plan_lines.specs.Sizes.{word_bytes, plan_bytes}
use Rattle.plan_lines.specs.Lines.{Line, line, members_from, member_lines, held_lines}
use Rattle.plan_lines.specs.Text.{write_lines, held_word, held_text}
use Rattle.plan_lines.specs.Inputs.{set_of}
use Rattle.plan_lines.specs.Putting.{Put, Putting, Room, putting_begin, putting_more, putting_room, putting_end, put_one, put_at_nothing, length_write_lines}
use Rattle.plan_lines.proofs.FrontLaws.{set_of_front}
use Rattle.listing.specs.Opening.{Written, listing_written, listing_length}
use Rattle.checks.specs.Refusals.{no_placing}

-- One slot ---------------------------------------------------------------------------

-- the line of a slot, where it is in the set
unfoldable pub member_of : ℕ → Bool → List Line
member_of t b = map (λ u. line u 0 0 0) (cond b (t ∷ []) [])

module _ (slot mark at : ℕ) (old : List ℕ) where
  pub member_none : mark ≡ 0 → Put (member_of slot (ltb 0 mark)) at old old 0
  unfolding member_of write_lines
  member_none e = rw (le-ltb 0 mark (omega arith)) (record { text = sym (put_at_nothing at old); number = refl })

  module _ (h : mark ≡ 0 → ⊥) where
    marked : ltb 0 mark ≡ true
    marked = lt-ltb 0 mark (omega arith)

    pub member_room : Room (member_of slot (ltb 0 mark)) at old → at + line_bytes ≤ length old
    unfolding member_of
    member_room r = omega (arith, rw marked at r)

    pub member_put : {new : List ℕ} → new ≡ put_at at (write_line slot 0 0 0) old → Put (member_of slot (ltb 0 mark)) at old new 1
    unfolding member_of
    member_put {new} e = rw marked (put_one (line slot 0 0 0) at old new e)

-- All slots --------------------------------------------------------------------------

-- the line of the first slot of a set, and those of the others
member_lines_cons : (t : ℕ) (b : Bool) (q : Slots) → member_lines t (b ∷ q) ≡ member_of t b ++ member_lines (suc t) q
unfolding member_lines members_from member_of
member_lines_cons t b q = map-append (λ u. line u 0 0 0) (cond b (t ∷ []) []) (members_from (suc t) q)

pub length_member_lines : (t : ℕ) (q : Slots) → length (member_lines t q) ≡ count q
unfolding member_lines members_from
length_member_lines t [] = refl
length_member_lines t (true ∷ q) = ap suc (length_member_lines (suc t) q)
length_member_lines t (false ∷ q) = length_member_lines (suc t) q

-- the set from place t on
abbrev set_from : (slots : ℕ) → (marks : List ℕ) → ℕ → Slots
set_from slots marks t = map (ltb 0) (part t slots marks)

pub record CanPutMembers (out : List ℕ) (at slots : ℕ) (marks : List ℕ) : Type 0 where
  pub day : slots ≤ 96
  pub long : slots ≤ length marks
  pub room : Room (member_lines 1 (set_of slots marks)) at out

-- the slots before slot t + 1 were put
pub record MembersPut (marks : List ℕ) (slots t at : ℕ) (old new : List ℕ) (n : ℕ) : Type 0 where
  pub in_day : t ≤ slots
  pub putting : Putting (member_lines 1 (set_of slots marks)) (member_lines (suc t) (set_from slots marks t)) at old new n

module _ {marks : List ℕ} {slots at : ℕ} {old : List ℕ} (can : CanPutMembers old at slots marks) where
  pub members_begin : MembersPut marks slots 0 at old old 0
  unfolding set_of
  members_begin =
      record {
        in_day = omega arith;
        putting = putting_begin at old _ can.room _ (ap (λ l. member_lines 1 (map (ltb 0) l)) (part_front marks slots));
      }

  module _ {t n : ℕ} {new : List ℕ} (p : MembersPut marks slots t at old new n) where
    next : t < slots → member_lines (suc t) (set_from slots marks t) ≡ member_of (t + 1) (ltb 0 (get_or marks t 0)) ++ member_lines (suc (t + 1)) (set_from slots marks (t + 1))
    next h =
        ap (λ l. member_lines (suc t) (map (ltb 0) l)) (part_cons marks t slots 0 h (omega (arith, can.day, can.long)))
        ∙ member_lines_cons (suc t) (ltb 0 (get_or marks t 0)) (set_from slots marks (t + 1))
        ∙ rw (← add-one t)

    pub members_room : t < slots → Room (member_of (t + 1) (ltb 0 (get_or marks t 0))) (at + line_bytes * n) new
    members_room h = putting_room at old _ can.room (member_of (t + 1) (ltb 0 (get_or marks t 0))) (member_lines (suc (t + 1)) (set_from slots marks (t + 1))) p.putting (next h)

    pub members_more : {r : ℕ} {new' : List ℕ} → t < slots → Put (member_of (t + 1) (ltb 0 (get_or marks t 0))) (at + line_bytes * n) new new' r
        → MembersPut marks slots (t + 1) at old new' (n + r)
    members_more {r} h s = record { in_day = omega arith; putting = putting_more at old _ can.room _ _ r p.putting (next h) s }

    pub members_end : slots ≤ t → Put (member_lines 1 (set_of slots marks)) at old new n
    unfolding member_lines members_from
    members_end h = putting_end at old _ can.room p.putting (ap (λ k. member_lines (suc t) (map (ltb 0) (part t k marks))) last ∙ ap (λ l. member_lines (suc t) (map (ltb 0) l)) (part_none marks t))
      where
        last : slots ≡ t
        last = omega (arith, p.in_day)

-- The listing ------------------------------------------------------------------------

pub record CanPutHeld (out : List ℕ) (slots : ℕ) (marks : List ℕ) : Type 0 where
  pub day : slots ≤ 96
  pub long : length marks ≡ 96
  pub room : plan_bytes ≤ length out

module _ {slots : ℕ} {marks old : List ℕ} (can : CanPutHeld old slots marks) where
  -- the slots shown are slots of the day
  members_few : length (member_lines 1 (set_of slots marks)) ≤ 96
  unfolding set_of
  members_few =
      omega (arith, length_member_lines 1 (set_of slots marks), count_le_length (set_of slots marks), length-map (take slots marks) (ltb 0), length-take slots marks, can.day)

  -- the marks of the day's slots alone are the same set
  same_set : set_of (length (take slots marks)) (take slots marks) ≡ set_of slots marks
  same_set = set_of_front slots marks (omega (arith, can.day, can.long))

  pub members_put : {at n : ℕ} {o o' : List ℕ} → Put (member_lines 1 (set_of (length (take slots marks)) (take slots marks))) at o o' n
      → Put (member_lines 1 (set_of slots marks)) at o o' n
  members_put {at} {n} {o} {o'} = subst (λ q. Put (member_lines 1 q) at o o' n) same_set

  pub held_can : {o₁ : List ℕ} → o₁ ≡ put_at 0 held_word old → CanPutMembers o₁ (word_bytes + line_bytes) (length (take slots marks)) (take slots marks)
  held_can e =
      record {
        day = omega (arith, length-take slots marks, can.day);
        long = omega arith;
        room = rw same_set (omega (arith, members_few, ap length e ∙ length_put_at 0 held_word old (omega (arith, can.room)), can.room));
      }

  module _ {o₁ o₂ : List ℕ} {n : ℕ} (e₁ : o₁ ≡ put_at 0 held_word old)
      (s : Put (member_lines 1 (set_of slots marks)) (word_bytes + line_bytes) o₁ o₂ n) where
    pub held_few : n ≤ 96
    held_few = omega (arith, s.number, members_few)

    pub held_room : word_bytes + line_bytes ≤ length o₂
    held_room =
        omega (
          arith,
          ap length e₁ ∙ length_put_at 0 held_word old (omega (arith, can.room)),
          ap length s.text
              ∙ length_put_at (word_bytes + line_bytes) (write_lines (member_lines 1 (set_of slots marks))) o₁
              (omega (arith, length_write_lines (member_lines 1 (set_of slots marks)), members_few, ap length e₁ ∙ length_put_at 0 held_word old (omega (arith, can.room)), can.room)),
          can.room,
        )

    counted : n ≡ count (set_of slots marks)
    counted = s.number ∙ length_member_lines 1 (set_of slots marks)

    pub held_written : (forced capacity : ℕ) (o₃ : List ℕ)
        → o₃ ≡ put_at word_bytes (write_line no_placing n forced capacity) o₂
        → Written (held_text (set_of slots marks) forced capacity) old o₃ (word_bytes + line_bytes * (n + 1))
    unfolding held_text held_lines
    held_written forced capacity o₃ e₃ =
        record {
          bytes =
              listing_written held_word refl old (line no_placing (count (set_of slots marks)) forced capacity) (member_lines 1 (set_of slots marks)) o₁ o₂ o₃ (omega (arith, members_few, can.room)) e₁ s.text
              (e₃ ∙ ap (λ k. put_at word_bytes (write_line no_placing k forced capacity) o₂) counted);
          size = sym (listing_length held_word refl old (line no_placing (count (set_of slots marks)) forced capacity ∷ member_lines 1 (set_of slots marks)) ∙ omega (arith, s.number));
        }
