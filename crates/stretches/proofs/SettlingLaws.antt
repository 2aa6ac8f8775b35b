-- How the code of the method goes on by one slot and by one blower. Assumes nothing.
use Rattle.std.specs.Prelude.{◌≡◌, refl, Bool, true, not, List, get_or}
use Rattle.std.proofs.Common.{sym, ◌∙◌, add-one}
use Rattle.std.proofs.Math.Path.{ap, subst}
use Rattle.std.proofs.Math.Bool.{false}
use Prim.Native.Nat.{ℕ, zero, suc, ◌+◌, ◌-◌, ◌≤◌, ◌<◌}
use native.Mathlib.Omega.{arith}
use Rattle.schedules.specs.Schedules.{Demand}
use Rattle.placing.specs.declared.Words.{Words}
use Rattle.placing.specs.WordCalls.{ReadyIn, IdledIn, BusiedIn}
use Rattle.placing.specs.WordCallLaws.{idled_held, idled_kept, busied_held, busied_kept}
use Rattle.placing.specs.StepLaws.{represents_feasible, represents_ready}
use Rattle.method.specs.Method.{Bounds, FeasibleDay, feasible_under}
use Rattle.method.specs.Slotwise.{keep_at, settle_from, settle_each}
use Rattle.method.proofs.StepLaws.{other_possible, busy_at_stays, busy_at_changes}
use Rattle.stretches.specs.Settling.{Under, SomeDay, SomeSlot, Kept, Stepped, Settled, Left, LeftBlowers, Passing, PassingBlowers}

-- words that hold a day say that it has a sound placing
pub under_possible : {slots : ℕ} {ds : List Demand} {b : Bounds} {w : Words} → Under slots ds b w → FeasibleDay slots ds b
under_possible u =
    let r = u.represents in
    record { sized = record { each_low = r.lows; each_high = r.highs }; possible = represents_feasible r }

pub slot_ready : {t : ℕ} {w : Words} → SomeSlot t w → ReadyIn w t
slot_ready s = represents_ready s.day.under.represents _ s.inside

module _ {t k : ℕ} {w : Words} where
  pub kept_idle : {r : Bool} {w' : Words} → IdledIn r w w' t k → Kept r k false t w w'
  kept_idle i =
      record {
        answer = λ slots ds b u l. i.idled.answer slots ds b.low b.high u.represents l;
        yes = λ e slots ds b u l. idled_held i e u l;
        no = λ e slots ds b u l. idled_kept i e u l;
        others = i.idled.others;
      }

  pub kept_busy : {r : Bool} {w' : Words} → BusiedIn r w w' t k → Kept r k true t w w'
  kept_busy i =
      record {
        answer = λ slots ds b u l. i.busied.answer slots ds b.low b.high u.represents l;
        yes = λ e slots ds b u l. busied_held i e u l;
        no = λ e slots ds b u l. busied_kept i e u l;
        others = λ u n. ap (λ h. get_or h u 0) i.highs;
      }

  module _ {busy r : Bool} {w₁ : Words} (a : Kept r k busy t w w₁) where
    -- the blower stays as it is
    pub stays : r ≡ true → Stepped busy k busy t w w₁
    stays e =
        record {
          does = λ slots ds b u l. sym (busy_at_stays slots ds k busy t b (sym (a.answer slots ds b u l) ∙ e));
          keeps = λ slots ds b u l. a.yes e slots ds b u l;
          others = a.others;
        }

    module _ (e : r ≡ false) where
      pub cannot_stay : (slots : ℕ) (ds : List Demand) (b : Bounds) → Under slots ds b w → t < slots → feasible_under slots ds (keep_at k busy t b) ≡ false
      cannot_stay slots ds b u l = sym (a.answer slots ds b u l) ∙ e

      -- after a question that was answered no, some day's slot again
      pub slot_again : SomeSlot t w → SomeSlot t w₁
      slot_again s =
          record {
            slots = s.slots;
            day = record { demands = s.day.demands; bounds = s.day.bounds; under = a.no e _ _ _ s.day.under s.inside };
            inside = s.inside;
          }

      -- it can't, and so it can change over
      pub turns : {q : Bool} {w' : Words} → Kept q k (not busy) t w₁ w' → Stepped (not busy) k busy t w w'
      turns o =
          record {
            does = λ slots ds b u l. sym (busy_at_changes slots ds k busy t b (cannot_stay slots ds b u l));
            keeps = λ slots ds b u l.
                let v = a.no e slots ds b u l in
                o.yes (o.answer slots ds b v l ∙ other_possible u.represents.windows k busy t (under_possible u) l (cannot_stay slots ds b u l)) slots ds b v l;
            others = λ u n. o.others u n ∙ a.others u n;
          }

-- ---- the slots of a blower

module _ {slots k : ℕ} where
  pub left_begin : {ds : List Demand} {b : Bounds} {w : Words} → Under slots ds b w → Left slots k false 0 ds b w
  left_begin {ds} {b} u = record { bounds = b; under = u; same = ap (λ n. settle_from slots ds k false n 0 b) (all slots) }
    where
      all : (n : ℕ) → n ≡ n - 0
      all n = omega arith

  pub left_next : {busy r : Bool} {t : ℕ} {ds : List Demand} {b : Bounds} {w w' : Words} → t < slots → Left slots k busy t ds b w
      → Stepped r k busy t w w' → Left slots k r (t + 1) ds b w'
  unfolding settle_from
  left_next {busy} {r} {t} {ds} {b} l p s =
      let c = p.bounds in
      let d = s.does slots ds c p.under l in
      record {
        bounds = keep_at k r t c;
        under = s.keeps slots ds c p.under l;
        same =
            p.same ∙ ap (λ n. settle_from slots ds k busy n t c) one_more
            ∙ ap (λ x. settle_from slots ds k x (slots - (t + 1)) (suc t) (keep_at k x t c)) (sym d)
            ∙ ap (λ n. settle_from slots ds k r (slots - (t + 1)) n (keep_at k r t c)) (sym (add-one t));
      }
    where
      one_more : slots - t ≡ suc (slots - (t + 1))
      one_more = omega arith

  pub left_end : {busy : Bool} {t : ℕ} {ds : List Demand} {b : Bounds} {w : Words} → slots ≤ t → Left slots k busy t ds b w
      → Under slots ds (settle_from slots ds k false slots 0 b) w
  unfolding settle_from
  left_end {busy} {t} {ds} {b} {w} l p =
      subst (λ c. Under slots ds c w) (sym (p.same ∙ ap (λ n. settle_from slots ds k busy n t p.bounds) none)) p.under
    where
      none : slots - t ≡ zero
      none = omega arith

  pub passing_slot : {busy : Bool} {t : ℕ} {w₀ w : Words} → SomeDay slots w₀ → t < slots → Passing slots k busy t w₀ w → SomeSlot t w
  passing_slot s l p =
      let q = p s.demands s.bounds s.under in
      record { slots = slots; day = record { demands = s.demands; bounds = q.bounds; under = q.under }; inside = l }

-- ---- the blowers

module _ {slots m : ℕ} where
  pub blowers_begin : {ds : List Demand} {b : Bounds} {w : Words} → Under slots ds b w → LeftBlowers slots m m ds b w
  blowers_begin {b} u = record { bounds = b; under = u; same = refl }

  pub blowers_next : {k : ℕ} {ds : List Demand} {b : Bounds} {w w' : Words} → 0 < k → LeftBlowers slots m k ds b w
      → Settled slots k w w' → LeftBlowers slots m (k - 1) ds b w'
  unfolding settle_each
  blowers_next {k = zero} h p s = absurd (omega arith)
  blowers_next {k = suc k} {ds} {b} {w'} h p s =
      rw (pred k)
      (record {
        bounds = settle_from slots ds (suc k) false slots 0 p.bounds;
        under = s.settled ds p.bounds p.under;
        same = p.same;
      })
    where
      pred : (k : ℕ) → suc k - 1 ≡ k
      pred k = omega arith

  pub blowers_end : {k : ℕ} {ds : List Demand} {b : Bounds} {w : Words} → k ≡ 0 → LeftBlowers slots m k ds b w → Under slots ds (settle_each slots ds m b) w
  unfolding settle_each
  blowers_end {k} {ds} {b} {w} e p =
      subst (λ c. Under slots ds c w) (sym (p.same ∙ ap (λ n. settle_each slots ds n p.bounds) e)) p.under

  pub passing_day : {k : ℕ} {w₀ w : Words} → SomeDay slots w₀ → PassingBlowers slots m k w₀ w → SomeDay slots w
  passing_day s p =
      let q = p s.demands s.bounds s.under in
      record { demands = s.demands; bounds = q.bounds; under = q.under }
