-- How the question about a share is asked, what marked slots show of a share, and how the two ends between which the
-- greatest share lies are moved. Assumes nothing.
use mathlib.Core.Path.{◌≡◌, sym, ap, ap₂, ◌∙◌, subst}
use mathlib.Core.Bool.{Bool, true, false}
use mathlib.Core.List.{List, []}
use Prim.Native.Nat.{ℕ, zero, suc, ◌+◌, ◌-◌, ◌*◌, ◌/◌, ◌%◌, ◌^◌, ◌≤◌, ◌<◌}
use native.Mathlib.Nat.{pow-zero, pow-succ', div-le_of_le-mul, div-mul-le_self}
use native.Mathlib.Omega.{arith}
use lib.IntN.{pos}
use lib.ListN.{length, replicate}
use lib.Pow.{pow_pos, pow_mono}
use lib.Signed.{lt_z}
use Rattle.common.specs.Bits.{one_shl}
use Rattle.common.specs.Buffers.{padded}
use Rattle.checks.specs.declared.Refusal.{Refusal}
use Rattle.checks.specs.Limits.{max_slots, max_blowers, max_rations}
use Rattle.checks.specs.Sheet.{Sheet}
use Rattle.sheet.specs.declared.Reading.{Reading}
use Rattle.sheet.specs.Calls.{accepted}
use Rattle.sheet.specs.OwnChecks.{ReadFrom, ReadSheet}
use Rattle.schedules.specs.Demands.{demands_of, no_low, full_high}
use Rattle.schedules.specs.Schedules.{window_of, feasible}
use Rattle.placing.specs.Rations.{demands_from, Rations}
use Rattle.placing.specs.Words.{WindowWords, VolumeBytes}
use Rattle.placing.specs.WordLaws.{windows_of_day, volumes_of_day, windows_same}
use Rattle.placing.specs.HeldSteps.{full_words, length_full}
use Rattle.placing.specs.Represents.{SomeDemands, HighWords, CanBeginAgain, BegunAgain}
use Rattle.placing.specs.BeginLaws.{holds_none}
use Rattle.placing.specs.FeasibilitySteps.{demand_words, ration_words, can_start}
use Rattle.placing.specs.ReadLaws.{SheetRead, sheet_read_lem}
use Rattle.cuts.specs.Cuts.{max_share, cut_sheet, feasible_sheet}
use Rattle.questions.specs.declared.ShortfallAnswer.{ShortfallAnswer}
use Rattle.questions.specs.ShortfallParts.{ReadShortfall}
use Rattle.questions.specs.CallLaws.{deficient_infeasible}
use Rattle.cuts.specs.Clauses.{CutFrom, CanAskShares, ShareAnswered, ReadPossible, ReadDeficient, ReadNone, Between, ReadBetween, CanHalve, ShareFound}
use Rattle.cuts.proofs.ShareLaws.{none_from, between_up, between_down, between_end}
use Rattle.cuts.proofs.CutDemandLaws.{windows_cut, length_cut}
use Rattle.cuts.proofs.ReadLaws.{cut_read}

-- ---- one question

module _ {r : Reading} (sheet : ReadSheet r) {H N F R : List ℕ} (may : CanAskShares r H N F R) (share : ℕ) (l : share ≤ max_share) {x : Reading} (cut : CutFrom share r x) where
  z : r.number ≡ 0
  z = sheet.zero

  module _ {own : List Refusal} {s : Sheet} (h : ReadFrom own s r) where
    a : SheetRead s r
    a = sheet_read_lem h z

    zero_cut : x.number ≡ 0
    unfolding accepted
    zero_cut = ap (λ y. y.number) (cut own s h)

    b : SheetRead (cut_sheet share s) x
    b = sheet_read_lem (cut_read h z share l (cut own s h)) zero_cut

    same_slots : x.slots ≡ r.slots
    unfolding cut_sheet
    same_slots = b.slots ∙ sym a.slots

    same_blowers : x.blowers ≡ r.blowers
    unfolding cut_sheet
    same_blowers = b.blowers ∙ sym a.blowers

    windows : WindowWords x.slots (demands_from x.slots x.rations x.numbers) may.words
    windows =
        subst (λ d. WindowWords d (demands_from x.slots x.rations x.numbers) may.words) (sym same_slots)
        (windows_same
        (ap length b.demands ∙ length_cut share s ∙ ap length (sym a.demands))
        (λ j k. ap (λ ds. window_of ds j) b.demands ∙ windows_cut share s j (rw a.demands at k) ∙ ap (λ ds. window_of ds j) (sym a.demands))
        (windows_of_day a.rations may.windows))

    module _ {N' : List ℕ} (v : VolumeBytes (demands_from max_slots x.rations x.numbers) N') where
      demands : SomeDemands x.slots may.words N'
      demands = ration_words b.rations windows (volumes_of_day b.rations v)

      high_bytes : HighWords x.slots (replicate x.slots x.blowers) H
      high_bytes =
          full_words x.slots x.blowers b.rations.short
          (may.highs ∙ ap₂ (λ d m. padded max_slots (replicate d m)) (sym same_slots) (sym same_blowers))

      answer : {can : Bool} {F' R' S : List ℕ} → BegunAgain can N N' H F R F' R' S → can ≡ feasible_sheet (cut_sheet share s)
      unfolding feasible_sheet no_low full_high
      answer q =
          q.answer may.words may.holds x.slots (demands_from x.slots x.rations x.numbers) (replicate x.slots x.blowers)
          (demand_words b.rations windows (volumes_of_day b.rations v)) high_bytes
          ∙ ap (λ ds. feasible x.slots ds (replicate x.slots 0) (replicate x.slots x.blowers)) b.demands
          ∙ ap₂ (λ d m. feasible d (demands_of (cut_sheet share s)) (replicate d 0) (replicate d m)) b.slots b.blowers

  h : ReadFrom sheet.some.own sheet.some.sheet r
  h = sheet.some.read

  pub cut_rations : Rations x.slots x.rations x.numbers
  cut_rations = (b h).rations

  module _ {N' : List ℕ} (v : VolumeBytes (demands_from max_slots x.rations x.numbers) N') where
    pub can_begin_share : CanBeginAgain N N' H F R
    can_begin_share =
        let long = length_full r.slots r.blowers (a h).rations.short may.highs in
        record { windows = may.words; holds = may.holds; start = can_start (demands h v) long }

    module _ {can : Bool} {F' R' S : List ℕ} (q : BegunAgain can N N' H F R F' R' S) where
      pub answered : ShareAnswered share r can S
      answered = record { answer = λ own s k. answer k v q; marks_long = q.marks_long }

      -- the words hold a placing of this share's volumes now
      pub ask_again : CanAskShares r H N' F' R'
      ask_again =
          record {
            highs = may.highs;
            words = may.words;
            windows = may.windows;
            holds = q.holds may.words may.holds;
          }

-- before the first question nothing is fed
pub ask_first : {r : Reading} {H W : List ℕ} → H ≡ padded max_slots (replicate r.slots r.blowers)
    → WindowWords max_slots (demands_from max_slots r.rations r.numbers) W
    → CanAskShares r H (replicate max_rations 0) (replicate max_slots 0) W
ask_first {W = W} h w = record { highs = h; words = W; windows = w; holds = holds_none w.long }

-- ---- marked slots

-- what the shortfall of the cut sheet says
pub deficient_is : {r : Reading} → ReadSheet r → (share : ℕ) → share ≤ max_share → {x : Reading} → CutFrom share r x → (marks : List ℕ) {a : ShortfallAnswer}
    → ReadShortfall x marks a → ReadDeficient share r marks (lt_z (pos 0) a.shortfall)
deficient_is {r} sheet share l {x} cut marks q own s h =
    ap (λ a. lt_z (pos 0) a.shortfall) (q [] (cut_sheet share s) (cut_read h sheet.zero share l (cut own s h)))

-- where the marked slots of the cut sheet have a shortfall above zero, it has no sound placing, nor has any greater
-- share
pub deficient_none : {r : Reading} → ReadSheet r → (share : ℕ) → share ≤ max_share → {x : Reading} → CutFrom share r x → (marks : List ℕ) {a : ShortfallAnswer}
    → ReadShortfall x marks a → lt_z (pos 0) a.shortfall ≡ true → ReadNone r share
unfolding feasible_sheet
deficient_none {r} sheet share l {x} cut marks q above own s h =
    let k = cut_read h sheet.zero share l (cut own s h) in
    none_from s share
    (deficient_infeasible k.checks marks (ap (λ a. lt_z (pos 0) a.shortfall) (sym (q [] (cut_sheet share s) k)) ∙ above))

-- ---- the two ends

module _ {r : Reading} (sheet : ReadSheet r) where
  pub sheet_rations : Rations r.slots r.rations r.numbers
  sheet_rations = (sheet_read_lem sheet.some.read sheet.zero).rations

  pub few_blowers : r.blowers ≤ max_blowers
  few_blowers = (sheet_read_lem sheet.some.read sheet.zero).blown

  -- no share is above 100
  pub none_beyond : ReadNone r (max_share + 1)
  none_beyond own s h share l k = absurd (omega arith)

  pub ends_begin : {low high : ℕ} → low < high → high ≤ max_share + 1 → ReadPossible r low → ReadNone r high → ReadBetween r low high
  ends_begin l k p n own s h = record { order = l; most = omega arith; possible = p own s h; none = n own s h }

  module _ {low high : ℕ} (b : ReadBetween r low high) where
    here : Between sheet.some.sheet low high
    here = b sheet.some.own sheet.some.sheet sheet.some.read

    pub ends_most : high ≤ max_share + 1
    ends_most = omega (arith, here.most)

    pub ends_apart : low < high
    ends_apart = here.order

    module _ (share : ℕ) {can : Bool} {marks : List ℕ} (q : ShareAnswered share r can marks) where
      pub ends_up : share < high → can ≡ true → ReadBetween r share high
      ends_up l e own s h = between_up s (b own s h) share l (sym (q.answer own s h) ∙ e)

      pub share_none : can ≡ false → ReadNone r share
      share_none e own s h = none_from s share (sym (q.answer own s h) ∙ e)

    pub ends_down : {high' : ℕ} → low < high' → high' ≤ high → ReadNone r high' → ReadBetween r low high'
    ends_down {high'} l k n own s h = between_down s (b own s h) high' l k (n own s h)

    pub ends_met : high ≤ suc low → ShareFound r low
    ends_met l own s h = between_end s (b own s h) l

-- ---- the questions left

-- while more than one share is left, so is a question, and one less can halve what it leaves
pub question_left : (left low : ℕ) {high : ℕ} → left ≤ 7 → low + 1 < high → high ≤ low + 2 ^ left
    → (1 ≤ left) × CanHalve ((1 * 2 ^ (left - 1)) % 2 ^ 32) low high × ((1 * 2 ^ (left - 1)) % 2 ^ 32 ≡ 2 ^ (left - 1))
question_left left low {high = high} l k m =
    let o = some left m in
    let e = one_shl {width = 32} (left - 1) (omega arith) in
    let next : left ≡ suc (left - 1) = omega arith in
    let p = ap (λ q. 2 ^ q) next ∙ pow-succ' 2 (left - 1) in
    (o, (omega (arith, e, pow_pos (left - 1)), omega (arith, e, pow_mono {i = left - 1} {j = 6} (omega arith)), omega (arith, e, p)), e)
  where
    some : (q : ℕ) → high ≤ low + 2 ^ q → 1 ≤ q
    some zero h = absurd (omega (arith, pow-zero 2))
    some (suc q) h = omega arith

-- ---- evenly spread

-- the share of the room that a greatest density leaves
pub share_of : (room most : ℕ) → room < most → (max_share * room / most ≤ max_share) × (max_share * room / most * most ≤ max_share * room)
share_of room most l = (div-le_of_le-mul most {m = max_share * room} {n = max_share} (omega arith), div-mul-le_self (max_share * room) most)
