-- The search asked about demands in words: the words of rations, and the lows raised one slot after another. Assumes
-- nothing.
use Rattle.std.specs.Prelude.{◌≡◌, refl, Bool, true, false, List, [], ◌∷◌, ◌++◌, ℕ, suc, ◌+◌, ◌-◌, ◌≤◌, ◌<◌, max, length, get_or, take, set, replicate}
use Rattle.std.proofs.Common.{sym, ap, ◌∙◌, subst, append-nil, append_assoc, add-one, arith, length-append, length-take, length-take-le, get_or-take, take-suc, get_or-append-add}
use Rattle.std.proofs.Math.Decide.{dec_lt}
use Rattle.std.proofs.lemmas.List.{length-replicate, get_or-replicate}
use Rattle.std.proofs.Math.ListN.{get_or-append}
use Rattle.std.proofs.Math.Seq.{set-append_seam}
use Rattle.checks.specs.Limits.{max_slots}
use Rattle.theory.specs.Placing.{size}
use Rattle.loads.specs.First.{CanStart}
use Rattle.loads.specs.StartLaws.{given_start}
use Rattle.schedules.specs.Schedules.{Demand, window_of, volume_of, AtMost, feasible}
use Rattle.schedules.proofs.Theorems.{infeasible_tighter}
use Rattle.schedules.specs.AsFunctions.{free, bound}
use Rattle.schedules.specs.Tabulate.{count_size}
use Rattle.placing.specs.Rations.{Rations, demands_from}
use Rattle.placing.specs.RationLaws.{length_demands_from, rations_in_range}
use Rattle.placing.specs.Words.{WindowWords, VolumeBytes}
use Rattle.placing.specs.declared.Words.{Words}
use Rattle.placing.specs.Represents.{raised, CanBegin, DemandWords, SomeDemands, HighWords}
use Rattle.placing.specs.WordCalls.{HeldIn, ReadyIn, BusiedIn, BegunIn}
use Rattle.placing.specs.WordCallLaws.{busied_held, begun_held}
use Rattle.placing.specs.StepLaws.{represents_ready, represents_feasible}

-- ---- the words of demands

module _ {slots n : ℕ} {numbers : List ℕ} (r : Rations slots n numbers) {W N : List ℕ}
    (w : WindowWords slots (demands_from slots n numbers) W) (v : VolumeBytes (demands_from slots n numbers) N) where
  pub demand_words : DemandWords slots (demands_from slots n numbers) W N
  demand_words =
      record {
        windows = (rations_in_range r).windows;
        given =
            record {
              long = w.long;
              short = r.short;
              most = omega (arith, length_demands_from slots n numbers, r.few);
              few = w.few;
              past = w.past;
              window = w.window;
              volume_at_lem = v.volume;
              no_volume = λ j l k. v.past j l;
            };
      }

  pub ration_words : SomeDemands slots W N
  ration_words = record { demands = demands_from slots n numbers; words = demand_words; fits = (rations_in_range r).fits }

module _ {slots : ℕ} {W N : List ℕ} (d : SomeDemands slots W N) where
  pub some_short : slots ≤ max_slots
  some_short = d.words.given.short

  fits : (j : ℕ) → j < length d.demands → volume_of d.demands j ≤ size slots (free d.demands j)
  fits j l =
      omega (
        arith,
        d.fits j l,
        count_size (window_of d.demands j),
        ap (λ k. size k (free d.demands j)) (d.words.windows.all_day j l),
      )

  pub can_start : {H : List ℕ} → length H ≡ max_slots → CanStart W N H
  can_start h = given_start d.words.given h fits

  pub can_begin : {H C : List ℕ} → length H ≡ max_slots → length C ≡ max_slots → CanBegin W N H C
  can_begin h c = record { start = can_start h; spares = c }

pub high_words : {slots : ℕ} {H : List ℕ} → slots ≤ max_slots → length H ≡ max_slots → HighWords slots (take slots H) H
high_words {slots} {H} s h =
    record { long = length-take-le slots H (omega arith); same = λ t l. sym (get_or-take slots H t 0 l) }

-- ---- lows raised one slot after another

-- the lows of the first t slots, 0 in the others
abbrev pub lows_to : (slots : ℕ) → List ℕ → ℕ → List ℕ
lows_to slots low t = take t low ++ replicate (slots - t) 0

module _ {slots : ℕ} (low : List ℕ) (k : slots ≤ length low) where
  pub length_lows_to : (t : ℕ) → t ≤ slots → length (lows_to slots low t) ≡ slots
  length_lows_to t l = simp (length-append, length-take, length-replicate) (omega arith)

  pub lows_to_next : (t : ℕ) → t < slots → raised (lows_to slots low t) t (get_or low t 0) ≡ lows_to slots low (t + 1)
  lows_to_next t l =
      ap (λ x. set (lows_to slots low t) t x) new
      ∙ ap (λ n. set (take t low ++ replicate n 0) t (get_or low t 0)) one_more
      ∙ ap (λ n. set (take t low ++ (0 ∷ replicate (slots - (t + 1)) 0)) n (get_or low t 0)) (sym (length-take-le t low (omega arith)))
      ∙ set-append_seam (take t low) 0 (replicate (slots - (t + 1)) 0) (get_or low t 0)
      ∙ sym (append_assoc (take t low) (get_or low t 0 ∷ []) (replicate (slots - (t + 1)) 0))
      ∙ ap (λ xs. xs ++ replicate (slots - (t + 1)) 0) (sym (take-suc low t 0 (omega arith)) ∙ ap (λ n. take n low) (sym (add-one t)))
    where
      one_more : slots - t ≡ suc (slots - (t + 1))
      one_more = omega arith

      none : bound (lows_to slots low t) t ≡ 0
      none =
          ap (get_or (take t low ++ replicate (slots - t) 0) t) (refl)
          ∙ ap (λ n. get_or (take t low ++ replicate (slots - t) 0) n 0) at_end_lem
          ∙ get_or-append-add (take t low) (replicate (slots - t) 0) 0 0
          ∙ get_or-replicate (slots - t) 0 0 0 (omega arith)
        where
          at_end_lem : t ≡ length (take t low) + 0
          at_end_lem = omega (arith, length-take-le t low (omega arith))

      new : max (get_or low t 0) (bound (lows_to slots low t) t) ≡ get_or low t 0
      new = omega (arith, none)

  lows_to_le : (t : ℕ) → t ≤ slots → AtMost slots (lows_to slots low t) (take slots low)
  lows_to_le t l u m = go (dec_lt u t)
    where
      front : u < t → get_or (lows_to slots low t) u 0 ≡ get_or low u 0
      front h = get_or-append (take t low) (replicate (slots - t) 0) 0 u (rw (length-take-le t low (omega arith)) h) ∙ get_or-take t low u 0 h

      go : Dec (u < t) → get_or (lows_to slots low t) u 0 ≤ get_or (take slots low) u 0
      go (yes h) = omega (arith, front h, get_or-take slots low u 0 m)
      go (no h) = omega (arith, zero_past)
        where
          place : u ≡ length (take t low) + (u - t)
          place = omega (arith, length-take-le t low (omega arith))

          zero_past : get_or (lows_to slots low t) u 0 ≡ 0
          zero_past =
              ap (λ n. get_or (take t low ++ replicate (slots - t) 0) n 0) place ∙ get_or-append-add (take t low) (replicate (slots - t) 0) (u - t) 0
              ∙ get_or-replicate (slots - t) (u - t) 0 0 (omega arith)

  pub lows_to_begin : replicate slots 0 ≡ lows_to slots low 0
  lows_to_begin = ap (λ n. replicate n 0) (all slots)
    where
      all : (n : ℕ) → n ≡ n - 0
      all n = omega arith

  pub lows_to_end : lows_to slots low slots ≡ take slots low
  lows_to_end = ap (λ n. take slots low ++ replicate n 0) (none slots) ∙ append-nil (take slots low)
    where
      none : (n : ℕ) → n - n ≡ 0
      none n = omega arith

-- the words hold a sound placing under the lows of the first t slots
abbrev pub RaisedTo : (slots : ℕ) (low : List ℕ) (t : ℕ) (w₀ w : Words) → Type 0
RaisedTo slots low t w₀ w =
    (ds : List Demand) (high : List ℕ) → HeldIn slots ds (replicate slots 0) high w₀ → HeldIn slots ds (lows_to slots low t) high w

-- what `raise_lows` ensures: whether a sound placing exists under these lows, of whatever day the words hold
abbrev pub LowsRaised : (r : Bool) (slots : ℕ) (low : List ℕ) → Words → Type 0
LowsRaised r slots low w = (ds : List Demand) (high : List ℕ) → HeldIn slots ds (replicate slots 0) high w → r ≡ feasible slots ds (take slots low) high

-- some day whose lows are 0
pub record LowDay (slots : ℕ) (w : Words) : Type 0 where
  pub demands : List Demand
  pub high : List ℕ
  pub under : HeldIn slots demands (replicate slots 0) high w

pub raised_begin : {slots : ℕ} {w : Words} (low : List ℕ) → slots ≤ length low → RaisedTo slots low 0 w w
raised_begin {slots} {w} low k ds high u = subst (λ l. HeldIn slots ds l high w) (lows_to_begin low k) u

module _ {slots : ℕ} {w₀ w : Words} (low : List ℕ) (k : slots ≤ length low) where
  module _ {t : ℕ} (l : t < slots) (p : RaisedTo slots low t w₀ w) where
    pub raised_ready : LowDay slots w₀ → ReadyIn w t
    raised_ready s = represents_ready (p s.demands s.high s.under).represents t l

    module _ {q : Bool} {w' : Words} (b : BusiedIn q w w' t (get_or low t 0)) where
      pub raised_next : q ≡ true → RaisedTo slots low (t + 1) w₀ w'
      raised_next e ds high u = subst (λ x. HeldIn slots ds x high w') (lows_to_next low k t l) (busied_held b e (p ds high u) l)

      pub raised_not : q ≡ false → (ds : List Demand) (high : List ℕ) → HeldIn slots ds (replicate slots 0) high w₀
          → false ≡ feasible slots ds (take slots low) high
      raised_not e ds high u =
          let s = (p ds high u).represents in
          sym (infeasible_tighter s.windows (lows_to slots low (t + 1)) high (take slots low) high (length_lows_to low k (t + 1) (omega arith)) s.highs
          (length-take-le slots low k) s.highs (lows_to_le low k (t + 1) (omega arith)) (λ u m. omega arith)
          (ap (λ x. feasible slots ds x high) (sym (lows_to_next low k t l)) ∙ sym (b.busied.answer slots ds _ high s l) ∙ e))

  pub raised_all : {t : ℕ} → t ≡ slots → RaisedTo slots low t w₀ w → (ds : List Demand) (high : List ℕ)
      → HeldIn slots ds (replicate slots 0) high w₀ → true ≡ feasible slots ds (take slots low) high
  raised_all {t} e p ds high u =
      sym (ap (λ x. feasible slots ds x high) (sym (ap (lows_to slots low) e ∙ lows_to_end low k)) ∙ represents_feasible (p ds high u).represents)

-- ---- the answer

module _ {slots : ℕ} {H W N : List ℕ} {w : Words} (low : List ℕ) (s : slots ≤ max_slots) (k : length low ≡ max_slots)
    (h : length H ≡ max_slots) {q : Bool} (b : BegunIn q W N H w)
    (ds : List Demand) (d : DemandWords slots ds W N) where
  pub begun_not : q ≡ false → false ≡ feasible slots ds (take slots low) (take slots H)
  begun_not e =
      sym (infeasible_tighter d.windows (replicate slots 0) (take slots H) (take slots low) (take slots H)
      (length-replicate slots 0) (high_words s h).long (length-take-le slots low (omega arith)) (high_words s h).long
      zeros (λ t l. omega arith)
      (sym (b.begun.answer slots ds (take slots H) d (high_words s h)) ∙ e))
    where
      zeros : AtMost slots (replicate slots 0) (take slots low)
      zeros t l = omega (arith, get_or-replicate {A = ℕ} slots t 0 0 l)

  pub begun_day : q ≡ true → HeldIn slots ds (replicate slots 0) (take slots H) w
  begun_day e = begun_held b e d (high_words s h)

  pub begun_low_day : q ≡ true → LowDay slots w
  begun_low_day e = record { demands = ds; high = take slots H; under = begun_day e }
