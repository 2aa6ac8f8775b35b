-- The slots of a cause in two words: the bits of the words are its slots. How the lines of a word are put, bit by bit.
-- Assumes nothing.
use Rattle.std.specs.Prelude.{◌≡◌, refl, ◌≢◌, Bool, true, false, cond, List, [], ◌∷◌, ◌++◌, map, eqb, leb, ltb, length}
use Rattle.std.proofs.Common.{sym, ap₂, ◌∙◌, append_assoc, append-nil, mul_left_comm, mod-lt, mod-eq_of_lt, pow_pos, eq-eqb, ne_eqb, lt-ltb, le-ltb, leb-true, leb-false, ltb-true, ltb-false}
use Rattle.std.proofs.Math.Path.{ap}
use Prim.Native.Nat.{ℕ, zero, suc, ◌+◌, ◌-◌, ◌*◌, ◌/◌, ◌%◌, ◌^◌, ◌≤◌, ◌<◌, min}
use Rattle.std.proofs.Math.Nat.{pow-succ', mod-add-div', add-mul-mod_self_right, mod-mod_of_dvd, dvd-mul_right}
use native.Mathlib.Omega.{arith}
use Rattle.std.proofs.Math.Decide.{ℕ_discrete}
use Rattle.std.proofs.lemmas.List.{length-map}
use Rattle.std.proofs.Math.Pow.{pow-lt}
use Rattle.std.specs.Int.Count.{count_trailing_zeros}
use Rattle.common.specs.Bits.{bit, bit_zero, bit_suc, bit_of_zero, add_same, add_other}
use Rattle.bits.specs.Lowest.{Lowest}
use Rattle.line.specs.Layout.{line_bytes}
use Rattle.line.specs.Line.{write_line}
use Rattle.common.specs.Buffers.{put_at}
use Rattle.schedules.specs.Tabulate.{tab}
use Rattle.schedules.proofs.CauseLaws.{tab_cong}
use Rattle.placing.specs.declared.Cause.{Cause}
use Rattle.placing.specs.declared.Cause.TheVariants.{LowAboveHigh}
use Rattle.placing.specs.CauseCalls.{in_words, in_cause}
use Rattle.plan_lines.specs.Lines.{line, members_from}
use Rattle.plan_lines.specs.Putting.{Put, Putting, putting_begin, putting_more, putting_room, putting_end, put_one}
use Rattle.plan_lines.specs.SetBits.{set_bits, set_bits_zero, set_bits_past, set_bits_lowest, length_set_bits}
use Rattle.cause_lines.specs.declared.SlotWords.{SlotWords}
use Rattle.cause_lines.specs.SlotCalls.{bit_lines, CanPutSlots, DayWord, SlotWord, CauseWords, SlotsIn}

-- A set of slots by its bits ---------------------------------------------------------

-- the slots of a set whose places are the bits of a word
members_bits : (j n w : ℕ) → members_from j (tab n (λ i. eqb (bit w i) 1)) ≡ set_bits j n w
unfolding members_from set_bits
members_bits j zero w = refl
members_bits j (suc n) w =
    ap₂ (λ (x : ℕ) (l : List ℕ). cond (eqb x 1) (j ∷ []) [] ++ l) (bit_zero w)
    (ap (members_from (suc j)) (tab_cong n (λ i. eqb (bit w (suc i)) 1) (λ i. eqb (bit (w / 2) i) 1) (λ i _. ap (λ x. eqb x 1) (bit_suc w i)))
    ∙ members_bits (suc j) n (w / 2))

-- of a set in two parts
members_parts : (j n k : ℕ) (f : ℕ → Bool) → members_from j (tab (n + k) f) ≡ members_from j (tab n f) ++ members_from (j + n) (tab k (λ i. f (n + i)))
unfolding members_from
members_parts j zero k f =
    ap (λ m. members_from j (tab m f)) (zero_plus k)
    ∙ ap₂ (λ (m : ℕ) (q : List Bool). members_from m q) (plus_zero j) (tab_cong k f (λ i. f (0 + i)) (λ i _. ap f (sym (zero_plus i))))
  where
    zero_plus : (n : ℕ) → 0 + n ≡ n
    zero_plus n = omega arith

    plus_zero : (n : ℕ) → n ≡ n + 0
    plus_zero n = omega arith
members_parts j (suc n) k f =
    ap (λ m. members_from j (tab m f)) (suc_plus n k)
    ∙ ap (λ l. cond (f zero) (j ∷ []) [] ++ l) (members_parts (suc j) n k (λ t. f (suc t)))
    ∙ sym (append_assoc (cond (f zero) (j ∷ []) []) (members_from (suc j) (tab n (λ t. f (suc t)))) (members_from (suc j + n) (tab k (λ i. f (suc (n + i))))))
    ∙ ap₂ (λ (m : ℕ) (q : List Bool). (cond (f zero) (j ∷ []) [] ++ members_from (suc j) (tab n (λ t. f (suc t)))) ++ members_from m q)
    (next j n) (tab_cong k (λ i. f (suc (n + i))) (λ i. f (suc n + i)) (λ i _. ap f (sym (suc_plus n i))))
  where
    suc_plus : (n k : ℕ) → suc n + k ≡ suc (n + k)
    suc_plus n k = omega arith

    next : (j n : ℕ) → suc j + n ≡ j + suc n
    next j n = omega arith

-- a slot in two words
in_first : (a b t : ℕ) → t < 64 → in_words a b t ≡ eqb (bit a t) 1
in_first a b t l = ap (λ x. eqb (cond x (bit a t) (bit b (t - 64))) 1) (lt-ltb t 64 l)

in_second : (a b j : ℕ) → in_words a b (64 + j) ≡ eqb (bit b j) 1
in_second a b j =
    ap (λ x. eqb (cond x (bit a (64 + j)) (bit b ((64 + j) - 64))) 1) (le-ltb (64 + j) 64 (omega arith))
    ∙ ap (λ n. eqb (bit b n) 1) (let e : (64 + j) - 64 ≡ j = omega arith in e)

members_words : (a b slots : ℕ) → slots ≤ 96 → members_from 1 (tab slots (in_words a b)) ≡ set_bits 1 (min 64 (slots - 0)) a ++ set_bits 65 (min 64 (slots - 64)) b
unfolding set_bits
members_words a b slots h = go (leb slots 64) refl
  where
    go : (x : Bool) → leb slots 64 ≡ x → members_from 1 (tab slots (in_words a b)) ≡ set_bits 1 (min 64 (slots - 0)) a ++ set_bits 65 (min 64 (slots - 64)) b
    go true q =
        let l : slots ≤ 64 = leb-true slots 64 q in
        ap (members_from 1) (tab_cong slots (in_words a b) (λ t. eqb (bit a t) 1) (λ t k. in_first a b t (omega arith)))
        ∙ members_bits 1 slots a ∙ sym (append-nil (set_bits 1 slots a))
        ∙ ap₂ (λ (m n : ℕ). set_bits 1 m a ++ set_bits 65 n b) (let e : slots ≡ min 64 (slots - 0) = omega arith in e) (let e : 0 ≡ min 64 (slots - 64) = omega arith in e)
    go false q =
        let l : 64 < slots = leb-false slots 64 q in
        ap (λ n. members_from 1 (tab n (in_words a b))) (let e : slots ≡ 64 + (slots - 64) = omega arith in e)
        ∙ members_parts 1 64 (slots - 64) (in_words a b)
        ∙ ap₂ (λ (l m : List ℕ). l ++ m)
        (ap (members_from 1) (tab_cong 64 (in_words a b) (λ t. eqb (bit a t) 1) (λ t k. in_first a b t k)) ∙ members_bits 1 64 a)
        (ap (members_from 65) (tab_cong (slots - 64) (λ i. in_words a b (64 + i)) (λ i. eqb (bit b i) 1) (λ i _. in_second a b i)) ∙ members_bits 65 (slots - 64) b)
        ∙ ap₂ (λ (m n : ℕ). set_bits 1 m a ++ set_bits 65 n b) (let e : 64 ≡ min 64 (slots - 0) = omega arith in e) (let e : slots - 64 ≡ min 64 (slots - 64) = omega arith in e)

-- The words of a day -------------------------------------------------------------------

-- the lowest n + 1 bits of a word, halved, are the lowest n of its half
half : (n w : ℕ) → (w % 2 ^ suc n) / 2 ≡ (w / 2) % 2 ^ n
half n w = sym (ap (λ m. m % 2 ^ n) split ∙ add-mul-mod_self_right ((w % 2 ^ suc n) / 2) (w / 2 ^ suc n) (2 ^ n) ∙ mod-eq_of_lt below)
  where
    r : ℕ
    r = w % 2 ^ suc n

    double : 2 ^ suc n ≡ 2 * 2 ^ n
    double = pow-succ' 2 n

    whole : r + (w / 2 ^ suc n) * 2 ^ suc n ≡ w
    whole = mod-add-div' w (2 ^ suc n)

    twice : (q p : ℕ) → q * (2 * p) ≡ 2 * (q * p)
    twice q p = mul_left_comm q 2 p

    split : w / 2 ≡ r / 2 + (w / 2 ^ suc n) * 2 ^ n
    split = omega (arith, whole, ap (λ m. (w / 2 ^ suc n) * m) double ∙ twice (w / 2 ^ suc n) (2 ^ n))

    below : r / 2 < 2 ^ n
    below = omega (arith, mod-lt w {m = 2 ^ suc n} (pow_pos (suc n)), double)

set_bits_front : (j n w : ℕ) → set_bits j n (w % 2 ^ n) ≡ set_bits j n w
unfolding set_bits
set_bits_front j zero w = refl
set_bits_front j (suc n) w =
    ap₂ (λ (r : ℕ) (l : List ℕ). cond (eqb r 1) (j ∷ []) [] ++ l) low (ap (set_bits (suc j) n) (half n w) ∙ set_bits_front (suc j) n (w / 2))
  where
    low : (w % 2 ^ suc n) % 2 ≡ w % 2
    low = ap (λ m. (w % m) % 2) (pow-succ' 2 n) ∙ mod-mod_of_dvd 2 w (dvd-mul_right 2 (2 ^ n))

module _ (word from slots : ℕ) where
  pub day_none : slots ≤ from → DayWord 0 word from slots
  unfolding set_bits
  day_none h =
      record {
        fits = omega arith;
        same = set_bits_zero (suc from) 64 ∙ ap (λ n. set_bits (suc from) n word) (let e : 0 ≡ min 64 (slots - from) = omega arith in e);
      }

  pub day_all : word < 2 ^ 64 → 64 ≤ slots - from → DayWord word word from slots
  day_all f h = record { fits = f; same = ap (λ n. set_bits (suc from) n word) (let e : 64 ≡ min 64 (slots - from) = omega arith in e) }

  pub day_front : slots - from < 64 → {r : ℕ} → r ≡ word % 2 ^ (slots - from) → DayWord r word from slots
  day_front h {r} e =
      record {
        fits = omega (arith, below, pow-lt h);
        same =
            ap (set_bits (suc from) 64) e
            ∙ set_bits_past (suc from) (slots - from) 64 (word % 2 ^ (slots - from)) below (omega arith)
            ∙ set_bits_front (suc from) (slots - from) word
            ∙ ap (λ n. set_bits (suc from) n word) (let f : slots - from ≡ min 64 (slots - from) = omega arith in f);
      }
    where
      below : word % 2 ^ (slots - from) < 2 ^ (slots - from)
      below = mod-lt word (pow_pos (slots - from))

-- The words of a cause -----------------------------------------------------------------

not_one : (j : ℕ) → eqb (bit 0 j) 1 ≡ false
not_one j = ne_eqb (bit 0 j) 1 (λ e. omega (arith, bit_of_zero j))

module _ (slot from : ℕ) where
  pub slot_before : slot ≤ from → SlotWord 0 slot from
  slot_before h = record { bits = λ j _. not_one j ∙ sym (ne_eqb (suc (from + j)) slot (λ e. omega arith)) }

  pub slot_after : 64 ≤ slot - from - 1 → SlotWord 0 slot from
  slot_after h = record { bits = λ j l. not_one j ∙ sym (ne_eqb (suc (from + j)) slot (λ e. omega arith)) }

  pub slot_there : from < slot → {r : ℕ} → r ≡ 0 + 2 ^ (slot - from - 1) → SlotWord r slot from
  slot_there h {r} e = record { bits = λ j _. ap (λ w. eqb (bit w j) 1) e ∙ go j (ℕ_discrete j k) }
    where
      k : ℕ
      k = slot - from - 1

      go : (j : ℕ) → Dec (j ≡ k) → eqb (bit (0 + 2 ^ k) j) 1 ≡ eqb (suc (from + j)) slot
      go j (yes q) =
          eq-eqb (bit (0 + 2 ^ k) j) 1 (ap (bit (0 + 2 ^ k)) q ∙ add_same 0 k (bit_of_zero k)) ∙ sym (eq-eqb (suc (from + j)) slot (omega arith))
      go j (no q) =
          ne_eqb (bit (0 + 2 ^ k) j) 1 (λ i. omega (arith, add_other 0 k j (bit_of_zero k) q, bit_of_zero j))
          ∙ sym (ne_eqb (suc (from + j)) slot (λ i. q (omega arith)))

pub one_slot_lem : (c : Cause) (u : ℕ) {a b : ℕ} → c ≡ LowAboveHigh u → SlotWord a u 0 → SlotWord b u 64
    → CauseWords (record { first = a; second = b }) c
one_slot_lem c u {a} {b} e p q = record { set = λ t l. go t l (ltb t 64) refl ∙ sym (ap (λ x. in_cause x t) e) }
  where
    go : (t : ℕ) → t < 96 → (x : Bool) → ltb t 64 ≡ x → in_words a b t ≡ eqb (suc t) u
    go t l true i = let k : t < 64 = ltb-true t 64 i in in_first a b t k ∙ p.bits t k ∙ ap (λ n. eqb (suc n) u) (let f : 0 + t ≡ t = omega arith in f)
    go t l false i =
        let k : 64 ≤ t = ltb-false t 64 i in
        let f : t ≡ 64 + (t - 64) = omega arith in
        ap (in_words a b) f ∙ in_second a b (t - 64) ∙ q.bits (t - 64) (omega arith) ∙ ap (λ n. eqb (suc n) u) (sym f)

pub same_words : (c d : Cause) {a b : ℕ} → c ≡ d → ((t : ℕ) → in_words a b t ≡ in_cause d t) → CauseWords (record { first = a; second = b }) c
same_words c d e h = record { set = λ t _. h t ∙ sym (ap (λ x. in_cause x t) e) }

pub slots_in : {c : Cause} {slots : ℕ} {w r : SlotWords} → slots ≤ 96 → CauseWords w c → DayWord r.first w.first 0 slots → DayWord r.second w.second 64 slots
    → SlotsIn r c slots
slots_in {c} {slots} {w} {r} h p a b =
    record {
      first_fits = a.fits;
      second_fits = b.fits;
      members =
          ap (members_from 1) (tab_cong slots (in_cause c) (in_words w.first w.second) (λ t l. sym (p.set t (omega arith))))
          ∙ members_words w.first w.second slots h ∙ ap₂ (λ (l m : List ℕ). l ++ m) (sym a.same) (sym b.same);
    }

-- Putting the lines of a word ----------------------------------------------------------

-- a word has at most 64 lines
pub bits_few : (from word : ℕ) → length (bit_lines from word) ≤ 64
bits_few from word = omega (arith, length-map (set_bits (suc from) 64 word) (λ u. line u 0 0 0), length_set_bits (suc from) 64 word)

-- the lines of all bits but those of `rest` were put
pub record SlotsPut (from word at : ℕ) (old new : List ℕ) (n rest : ℕ) : Type 0 where
  pub rest_fits : rest < 2 ^ 64
  pub putting : Putting (bit_lines from word) (bit_lines from rest) at old new n

module _ (from word at : ℕ) (old : List ℕ) (can : CanPutSlots old at from word) where
  pub slots_begin : word < 2 ^ 64 → SlotsPut from word at old old 0 word
  slots_begin h = record { rest_fits = h; putting = putting_begin at old _ can.room _ refl }

  module _ (n rest : ℕ) (new : List ℕ) (p : SlotsPut from word at old new n rest) where
    pub slots_end : rest ≡ 0 → Put (bit_lines from word) at old new n
    slots_end e = putting_end at old _ can.room p.putting (rw (e, set_bits_zero (suc from) 64))

    pub slots_few : n ≤ 64
    slots_few = omega (arith, p.putting.number, bits_few from word)

    module _ (not_None : rest ≢ 0) (j : ℕ) (l : Lowest rest j) where
      -- the line of the lowest bit, and those of the others
      next : bit_lines from rest ≡ (line (from + j + 1) 0 0 0 ∷ []) ++ bit_lines from (rest - 2 ^ j)
      next =
          ap (map (λ u. line u 0 0 0)) (set_bits_lowest 64 (suc from) rest p.rest_fits not_None ∙ bits (suc from + count_trailing_zeros 64 rest) (count_trailing_zeros 64 rest) (omega (arith, l.least)) (sym l.least))
        where
          bits : (y z : ℕ) → y ≡ from + j + 1 → z ≡ j → y ∷ set_bits (suc from) 64 (rest - 2 ^ z) ≡ (from + j + 1) ∷ set_bits (suc from) 64 (rest - 2 ^ j)
          bits y z p q = rw (p, q)

      pub slots_room : (at + line_bytes * n) + line_bytes ≤ length new
      slots_room = omega (arith, putting_room at old _ can.room (line (from + j + 1) 0 0 0 ∷ []) (bit_lines from (rest - 2 ^ j)) p.putting next)

      pub slots_more : (rest' : ℕ) (new' : List ℕ) → rest' ≡ rest - 2 ^ j → new' ≡ put_at (at + line_bytes * n) (write_line (from + j + 1) 0 0 0) new
          → SlotsPut from word at old new' (n + 1) rest'
      slots_more rest' new' r f =
          record {
            rest_fits = omega (arith, p.rest_fits);
            putting =
                rw r
                (putting_more at old _ can.room (line (from + j + 1) 0 0 0 ∷ []) _ 1 p.putting next
                (put_one (line (from + j + 1) 0 0 0) (at + line_bytes * n) new new' f));
          }
