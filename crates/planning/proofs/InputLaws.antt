-- What the arrays given to the calls stand for, by place; and words whose bits are those of fewer rations stand for the plan of these alone. Assumes nothing.
use Rattle.std.specs.Prelude.{◌≡◌, refl, Bool, true, false, cond, List, [], ◌∷◌, ◌++◌, map, ℕ, zero, suc, ◌+◌, ◌-◌, ◌*◌, ◌^◌, ◌≤◌, ◌<◌, eqb, ltb, length, get_or, take, drop, replicate}
use Rattle.std.proofs.Common.{sym, ap, ap₂, ◌∙◌, arith, length-append, length-take, pow_mono, get_or-take, ext_get_or}
use Rattle.std.proofs.Math.Decide.{dec_lt}
use Rattle.std.proofs.lemmas.List.{length-map}
use Rattle.std.proofs.Math.ListN.{get_or-append, get_or-eq_default}
use Rattle.common.specs.Lists.{range, flat_map, zip_with}
use Rattle.common.specs.ListLaws.{length_map_range, get_d_map_range}
use Rattle.common.specs.Bits.{bit, bit_of_zero, bit_below}
use Rattle.line.specs.Layout.{fields}
use Rattle.checks.specs.Limits.{max_slots, max_rations}
use Rattle.checks.specs.Sheet.{Job, numbers_of}
use Rattle.common.specs.Buffers.{padded, over}
use Rattle.theory.specs.SumsOver.{one}
use Rattle.schedules.specs.Slots.{has}
use Rattle.schedules.specs.Schedules.{Schedule}
use Rattle.schedules.specs.Tabulate.{tab, tab_unique, get_d_map_below}
use Rattle.schedules.specs.AsFunctions.{Rows}
use Rattle.feedings.specs.CellChoice.{ScheduleWords}
use Rattle.plan_lines.specs.Lines.{Line, part_at, slot_lines, feed_lines, plan_lines}
use Rattle.plan_lines.specs.Text.{plan_text}
use Rattle.plan_lines.specs.PlacingForms.{word_of, words_of}
use Rattle.plan_lines.proofs.PlacingFormLaws.{bit_word_of, word_of_few, length_words_of, get_d_words_of, words_are, one_is}
use Rattle.plan_lines.specs.Inputs.{tank_at, tanks_of, row_of, placing_of, set_of}
use Rattle.plan_lines.specs.SetBits.{set_bits_past}
use Rattle.plan_lines.specs.FeedLaws.{word_lines}
use Rattle.plan_lines.proofs.FeedLaws.{slot_lines_word, has_row_of}
use Rattle.listing.specs.PlanSteps.{plan_of}

-- Sets and placings by place ---------------------------------------------------------

pub set_of_tab : (slots : ℕ) (marks : List ℕ) → slots ≤ length marks → set_of slots marks ≡ tab slots (λ t. ltb 0 (get_or marks t 0))
unfolding set_of
set_of_tab slots marks h =
    tab_unique false (map (ltb 0) (take slots marks)) slots (λ t. ltb 0 (get_or marks t 0)) (length-map (take slots marks) (ltb 0) ∙ rw length-take (omega arith))
    (λ t l. get_d_map_below (ltb 0) (take slots marks) t false 0 (rw length-take (omega arith)) ∙ ap (ltb 0) (get_or-take slots marks t 0 l))

length_row_of : (slots : ℕ) (words : List ℕ) (j : ℕ) → slots ≤ length words → length (row_of slots words j) ≡ slots
unfolding row_of
length_row_of slots words j h = length-map (take slots words) (λ w. eqb (bit w j) 1) ∙ rw length-take (omega arith)

-- The words hold a placing p of n rations, and no other bit.
pub record Holds (slots n : ℕ) (words : List ℕ) (p : Schedule) : Type 0 where
  pub rations : length p ≡ n
  pub rows : Rows slots p
  pub fed : (j t : ℕ) → j < n → t < slots → has (get_or p j []) t ≡ eqb (bit (get_or words t 0) j) 1
  pub few : (t : ℕ) → t < slots → get_or words t 0 < 2 ^ n

pub placing_of_holds : (slots n : ℕ) (words : List ℕ) (p : Schedule) → slots ≤ length words → Holds slots n words p → placing_of slots n words ≡ p
unfolding placing_of
placing_of_holds slots n words p there h = ext_get_or [] (map (row_of slots words) (range 0 n)) p (length_map_range (row_of slots words) n ∙ sym h.rations) (λ j l. row j (rw (length_map_range (row_of slots words) n) at l))
  where
    row : (j : ℕ) → j < n → get_or (map (row_of slots words) (range 0 n)) j [] ≡ get_or p j []
    row j l =
        get_d_map_range (row_of slots words) [] n j l
        ∙ ext_get_or false (row_of slots words j) (get_or p j []) (length_row_of slots words j there ∙ sym (h.rows j (omega (arith, h.rations))))
        (λ t k. let d : t < slots = rw (length_row_of slots words j there) at k in has_row_of slots words t d there j ∙ sym (h.fed j t l d))

-- The words of a placing --------------------------------------------------------------

one_mark : (b : Bool) → one b ≡ cond b 1 0
one_mark true = refl
one_mark false = refl

-- words that hold a placing are its words
pub words_of_lem : {n d : ℕ} {p : Schedule} {W : List ℕ} → ScheduleWords n d p W → length p ≡ n → Rows d p → W ≡ words_of p
words_of_lem {n} {d} {p} {W} h e rows = words_are p W h.long (λ t j l. at t j (dec_lt t d) (dec_lt j n))
  where
    none : (t j : ℕ) → bit (get_or W t 0) j ≡ 0 → has (get_or p j []) t ≡ false → bit (get_or W t 0) j ≡ cond (has (get_or p j []) t) 1 0
    none t j z f = z ∙ sym (ap (λ b. cond b 1 0) f)

    at : (t j : ℕ) → Dec (t < d) → Dec (j < n) → bit (get_or W t 0) j ≡ cond (has (get_or p j []) t) 1 0
    at t j (yes l) (yes m) = (h.rows t l).bits j m ∙ one_mark (has (get_or p j []) t)
    at t j (yes l) (no m) =
        let k : n ≤ j = omega arith in
        none t j (bit_below (get_or W t 0) j (omega (arith, (h.rows t l).few, pow_mono {i = n} {j = j} k)))
        (ap (λ c. has c t) (get_or-eq_default p [] {n = j} (omega (arith, e))))
    at t j (no l) (yes m) =
        none t j (ap (λ w. bit w j) (h.past t (omega arith)) ∙ bit_of_zero j)
        (get_or-eq_default (get_or p j []) false {n = t} (omega (arith, rows j (omega (arith, e)))))
    at t j (no l) (no m) =
        none t j (ap (λ w. bit w j) (h.past t (omega arith)) ∙ bit_of_zero j)
        (ap (λ c. has c t) (get_or-eq_default p [] {n = j} (omega (arith, e))))

-- where the day's words are those of a placing, they hold it
pub words_hold : (slots : ℕ) (p : Schedule) → Rows slots p → (words : List ℕ) → ((t : ℕ) → t < slots → get_or words t 0 ≡ word_of p t)
    → Holds slots (length p) words p
words_hold slots p rows words e =
    record {
      rations = refl;
      rows = rows;
      fed = λ j t l k. sym (ap (λ w. eqb (bit w j) 1) (e t k) ∙ ap (λ b. eqb b 1) (bit_word_of p t j) ∙ one_is (has (get_or p j []) t));
      few = λ t k. rw (e t k) (word_of_few p t);
    }

-- a placing is read back from its words, whatever lies after them
pub placing_of_words : (slots : ℕ) → slots ≤ max_slots → (p : Schedule) → Rows slots p → (old : List ℕ)
    → placing_of slots (length p) (over (words_of p) old) ≡ p
unfolding over
placing_of_words slots short p rows old =
    placing_of_holds slots (length p) (over (words_of p) old) p (omega (arith, length-append (words_of p) rest, length_words_of p)) (words_hold slots p rows (over (words_of p) old) word)
  where
    rest : List ℕ
    rest = drop (length (words_of p)) old

    word : (t : ℕ) → t < slots → get_or (words_of p ++ rest) t 0 ≡ word_of p t
    word t k = get_or-append (words_of p) rest 0 t (omega (arith, length_words_of p)) ∙ get_d_words_of p t (omega arith)

-- Tanks ------------------------------------------------------------------------------

-- the tanks of rations, from their flat numbers, whatever follows these
tanks_numbers_of : (js : List Job) (rest : List ℕ) (xs : List ℕ) (a : ℕ) → ((i : ℕ) → get_or xs (fields * a + i) 0 ≡ get_or (numbers_of js ++ rest) i 0)
    → map (tank_at xs) (range a (length js)) ≡ map (λ j. j.tank) js
unfolding numbers_of
tanks_numbers_of [] rest xs a h = refl
tanks_numbers_of (j ∷ js) rest xs a h =
    ap₂ (λ (t : ℕ) (ts : List ℕ). t ∷ ts) (ap (λ i. get_or xs i 0) (omega arith) ∙ h 0)
    (tanks_numbers_of js rest xs (suc a) (λ i. ap (λ k. get_or xs k 0) (omega arith) ∙ h (suc (suc (suc (suc i))))))

pub tanks_of_numbers_of : (size : ℕ) (js : List Job) → tanks_of (length js) (padded size (numbers_of js)) ≡ map (λ j. j.tank) js
unfolding tanks_of padded
tanks_of_numbers_of size js = tanks_numbers_of js (replicate (size - length (numbers_of js)) 0) (padded size (numbers_of js)) 0 (λ i. ap (λ k. get_or (numbers_of js ++ replicate (size - length (numbers_of js)) 0) k 0) (from_first i))
  where
    from_first : (i : ℕ) → fields * 0 + i ≡ i
    from_first i = omega arith

-- Fewer rations -----------------------------------------------------------------------

flat_map_range_cong : {f g : ℕ → List Line} (a n : ℕ) → ((k : ℕ) → k < a + n → f k ≡ g k) → flat_map f (range a n) ≡ flat_map g (range a n)
flat_map_range_cong a zero h = refl
flat_map_range_cong a (suc n) h = ap₂ (λ (x y : List Line). x ++ y) (h a (omega arith)) (flat_map_range_cong (suc a) n (λ k l. h k (omega arith)))

module _ (slots n m : ℕ) (numbers words : List ℕ) (there : slots ≤ length words) (fewer : n ≤ m) (few : (t : ℕ) → t < slots → get_or words t 0 < 2 ^ n) where
  slot_lines_fewer : (t : ℕ) → t < slots
      → slot_lines t (zip_with (λ a c. (a, c)) (tanks_of m numbers) (placing_of slots m words)) ≡ slot_lines t (zip_with (λ a c. (a, c)) (tanks_of n numbers) (placing_of slots n words))
  slot_lines_fewer t h =
      slot_lines_word slots words t h there numbers parts m (λ j k. part j k)
      ∙ ap (word_lines (suc t) numbers parts 1) (set_bits_past 0 n m (get_or words t 0) (few t h) fewer)
      ∙ sym (slot_lines_word slots words t h there numbers parts n (λ j k. part j (omega arith)))
    where
      parts : List ℕ
      parts = map (λ i. part_at t (row_of slots words i)) (range 0 m)

      part : (j : ℕ) → j < m → get_or parts j 0 ≡ part_at t (row_of slots words j)
      part j k = get_d_map_range (λ i. part_at t (row_of slots words i)) 0 m j k

  pub feed_lines_fewer : feed_lines slots (tanks_of m numbers) (placing_of slots m words) ≡ feed_lines slots (tanks_of n numbers) (placing_of slots n words)
  unfolding feed_lines
  feed_lines_fewer = flat_map_range_cong 0 slots (λ t k. slot_lines_fewer t (omega arith))

-- The plan of a sheet ------------------------------------------------------------------

-- The listing's text is that of the sheet's own rations, where the numbers are those of the sheet and the words hold the placing.
pub plan_text_holds : (slots m q : ℕ) (counts words : List ℕ) (js : List Job) (p : Schedule) → slots ≤ length words → length js ≤ max_rations
    → Holds slots (length js) words p
    → plan_text (plan_of slots m q counts (padded (fields * max_rations) (numbers_of js)) words)
    ≡ plan_text (record { slots = slots; blowers = m; wake = q; tanks = map (λ j. j.tank) js; counts = take slots counts; placing = p })
unfolding plan_text plan_lines plan_of
plan_text_holds slots m q counts words js p there most h = rw feeds
  where
    feeds : feed_lines slots (tanks_of max_rations (padded (fields * max_rations) (numbers_of js))) (placing_of slots max_rations words) ≡ feed_lines slots (map (λ j. j.tank) js) p
    feeds =
        feed_lines_fewer slots (length js) max_rations (padded (fields * max_rations) (numbers_of js)) words there most h.few
        ∙ ap₂ (λ (a : List ℕ) (c : Schedule). feed_lines slots a c) (tanks_of_numbers_of (fields * max_rations) js) (placing_of_holds slots (length js) words p there h)
