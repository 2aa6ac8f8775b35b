-- How the listing of stretches goes on by one slot and by one blower. Assumes nothing.
use Rattle.std.specs.Prelude.{◌≡◌, refl, Bool, true, not, length, Ok, Err}
use Rattle.std.proofs.Math.Path.{sym, ap, subst}
use Rattle.std.proofs.Common.{◌∙◌, add-one}
use Rattle.std.proofs.Math.Bool.{false}
use mathlib.Core.List.{List, [], ◌∷◌, ◌++◌, append_assoc, append-nil}
use Prim.Native.Nat.{ℕ, zero, suc, ◌+◌, ◌-◌, ◌≤◌, ◌<◌}
use native.Mathlib.Omega.{arith}
use Rattle.schedules.specs.Schedules.{Demand}
use Rattle.placing.specs.declared.Cause.{Cause}
use Rattle.placing.specs.declared.Words.{Words}
use Rattle.method.specs.Method.{Bounds, feasible_under}
use Rattle.method.specs.Slotwise.{keep_at, settle_from}
use Rattle.method.proofs.StepLaws.{settle_from_stays, settle_from_changes}
use Rattle.method.specs.Endings.{EndedStretch}
use Rattle.method.specs.SlotwiseEndings.{ended_at, ended_from, ended_each}
use Rattle.stretches.specs.Settling.{Under, SomeDay, SomeSlot}
use Rattle.plan_lines.specs.Sizes.{causes_bytes}
use Rattle.cause_lines.specs.declared.CausedStretch.{CausedStretch}
use Rattle.cause_lines.specs.declared.Extent.{Extent}
use Rattle.cause_lines.specs.EntryCalls.{Listing, CanAppend, Appended}
use Rattle.cause_lines.specs.EntrySteps.{listing_none, listing_cut}
use Rattle.endings.specs.declared.Progress.{Progress}
use Rattle.endings.specs.Steps.{StepTaken}
use Rattle.endings.specs.ListingCalls.{Fits, ListedMore, Reached, CanAdvance, Advanced, CanList, BlowerListed, AllListed}

-- One step of the slotwise form ----------------------------------------------------

module _ (slots : ℕ) (ds : List Demand) (k : ℕ) (busy : Bool) (first n t : ℕ) (b : Bounds) where
  ended_from_stays : feasible_under slots ds (keep_at k busy t b) ≡ true
      → ended_from slots ds k busy first (suc n) t b ≡ ended_from slots ds k busy first n (suc t) (keep_at k busy t b)
  unfolding ended_from
  ended_from_stays e = rw e

  ended_from_ends : feasible_under slots ds (keep_at k busy t b) ≡ false
      → ended_from slots ds k busy first (suc n) t b
      ≡ ended_at slots ds k busy first t b ∷ ended_from slots ds k (not busy) (suc t) n (suc t) (keep_at k (not busy) t b)
  unfolding ended_from
  ended_from_ends e = rw e

one_more : (slots t : ℕ) → t < slots → slots - t ≡ suc (slots - (t + 1))
one_more slots t l = omega arith

module _ {slots k : ℕ} {ds : List Demand} {b : Bounds} {x₀ : Extent} {out₀ : List ℕ} where
  reached_begin : {w : Words} → Under slots ds b w → Reached slots k false 1 0 ds b x₀ out₀ w x₀ out₀
  reached_begin u =
      record {
        bounds = b;
        under = u;
        same = ap (λ n. settle_from slots ds k false n 0 b) (all slots);
        done = [];
        ends = ap (λ n. ended_from slots ds k false 1 n 0 b) (all slots);
        listed = λ us old r h. subst (λ vs. Listing vs old out₀ x₀) (sym (append-nil us)) h;
      }
    where
      all : (n : ℕ) → n ≡ n - 0
      all n = omega arith

  module _ {busy : Bool} {first t : ℕ} {w w' : Words} {x : Extent} {out : List ℕ} (m : t < slots)
      (p : Reached slots k busy first t ds b x₀ out₀ w x out) where
    reached_stays : StepTaken (Ok tt) k busy t w w' → Reached slots k busy first (t + 1) ds b x₀ out₀ w' x out
    reached_stays s =
        let c : Bounds = p.bounds in
        let q = s slots ds c p.under m in
        record {
          bounds = keep_at k busy t c;
          under = q.1;
          same =
              p.same ∙ ap (λ n. settle_from slots ds k busy n t c) (one_more slots t m) ∙ settle_from_stays slots ds k busy t c (slots - (t + 1)) q.0
              ∙ ap (λ n. settle_from slots ds k busy (slots - (t + 1)) n (keep_at k busy t c)) (sym (add-one t));
          done = p.done;
          ends =
              p.ends
              ∙ ap (λ vs. p.done ++ vs)
              (ap (λ n. ended_from slots ds k busy first n t c) (one_more slots t m) ∙ ended_from_stays slots ds k busy first (slots - (t + 1)) t c q.0
              ∙ ap (λ n. ended_from slots ds k busy first (slots - (t + 1)) n (keep_at k busy t c)) (sym (add-one t)));
          listed = p.listed;
        }

    reached_ends : {c : Cause} {r : Extent} {out' : List ℕ} → StepTaken (Err c) k busy t w w'
        → Appended r slots x (record { blower = k; first = first; last = t; cause = c }) out out'
        → Reached slots k (not busy) (t + 1) (t + 1) ds b x₀ out₀ w' r out'
    reached_ends {r = r} {out'} s a =
        let c : Bounds = p.bounds in
        let q = s slots ds c p.under m in
        let v : EndedStretch = ended_at slots ds k busy first t c in
        record {
          bounds = keep_at k (not busy) t c;
          under = q.2;
          same =
              p.same ∙ ap (λ n. settle_from slots ds k busy n t c) (one_more slots t m) ∙ settle_from_changes slots ds k busy t c (slots - (t + 1)) q.0
              ∙ ap (λ n. settle_from slots ds k (not busy) (slots - (t + 1)) n (keep_at k (not busy) t c)) (sym (add-one t));
          done = p.done ++ (v ∷ []);
          ends =
              p.ends
              ∙ ap (λ vs. p.done ++ vs)
              (ap (λ n. ended_from slots ds k busy first n t c) (one_more slots t m) ∙ ended_from_ends slots ds k busy first (slots - (t + 1)) t c q.0
              ∙ ap (λ n. v ∷ ended_from slots ds k (not busy) n (slots - (t + 1)) n (keep_at k (not busy) t c)) (sym (add-one t)))
              ∙ sym (append_assoc p.done (v ∷ []) _);
          listed = λ us old i h.
              subst (λ es. Listing es old out' r) (append_assoc us p.done (v ∷ []))
              (a.more (us ++ p.done) v old (record { blower = refl; first = refl; last = refl; cause = q.1 }) i (p.listed us old i h));
        }

  module _ {busy : Bool} {first t : ℕ} {w : Words} {x : Extent} {out : List ℕ} (m : slots ≤ t)
      (p : Reached slots k busy first t ds b x₀ out₀ w x out) where
    none : slots - t ≡ zero
    none = omega arith

    reached_settled : Under slots ds (settle_from slots ds k false slots 0 b) w
    unfolding settle_from
    reached_settled = subst (λ x. Under slots ds x w) (sym (p.same ∙ ap (λ n. settle_from slots ds k busy n t p.bounds) none)) p.under

    reached_listed : ListedMore (ended_from slots ds k false 1 slots 0 b) x₀ out₀ x out
    unfolding ended_from
    reached_listed us old r h =
        subst (λ vs. Listing (us ++ vs) old out x)
        (sym (p.ends ∙ ap (λ n. p.done ++ ended_from slots ds k busy first n t p.bounds) none ∙ append-nil p.done)) (p.listed us old r h)

-- `advance` -------------------------------------------------------------------------

module _ {slots t k : ℕ} {progress : Progress} {w : Words} {out : List ℕ} (p : CanAdvance slots t k progress w out) where
  pub advance_slot : SomeSlot t w
  advance_slot = record { slots = slots; day = p.day; inside = p.inside }

  pub advance_append : (s : CausedStretch) → s.last ≡ t → CanAppend out slots progress.extent s
  advance_append s e =
      record { day = p.fits.day; last = omega (arith, p.inside, p.fits.day); room = p.fits.room; within = p.fits.within }

  module _ {w' : Words} where
    pub advanced_stays : StepTaken (Ok tt) k progress.busy t w w' → Advanced progress slots t k progress w out w' out
    advanced_stays s = record { fits = p.fits; same_length = refl; goes = λ ds b x₀ out₀ q. reached_stays p.inside q s }

    pub advanced_ends : {c : Cause} {x' : Extent} {out' : List ℕ} → StepTaken (Err c) k progress.busy t w w'
        → Appended x' slots progress.extent (record { blower = k; first = progress.first; last = t; cause = c }) out out'
        → Advanced (record { busy = not progress.busy; first = t + 1; extent = x' }) slots t k progress w out w' out'
    advanced_ends s a =
        record {
          fits = record { day = p.fits.day; room = omega (arith, p.fits.room, a.same_length); within = a.within };
          same_length = a.same_length;
          goes = λ ds b x₀ out₀ q. reached_ends p.inside q s a;
        }

-- `list_blower` ------------------------------------------------------------------------

-- whatever day the words held at first, so much of it is settled and listed
abbrev pub ReachedFrom : (slots k t : ℕ) (progress : Progress) (x₀ : Extent) (w₀ : Words) (out₀ : List ℕ) (w : Words) (out : List ℕ) → Type 0
ReachedFrom slots k t progress x₀ w₀ out₀ w out =
    (ds : List Demand) (b : Bounds) → Under slots ds b w₀ → Reached slots k progress.busy progress.first t ds b x₀ out₀ w progress.extent out

pub record BlowerLoop (slots k t : ℕ) (progress : Progress) (x₀ : Extent) (w₀ : Words) (out₀ : List ℕ) (w : Words) (out : List ℕ) : Type 0 where
  pub passed : t ≤ slots
  pub blower : 1 ≤ k
  pub day : SomeDay slots w₀
  pub fits : Fits slots progress.extent out
  pub same_length : length out ≡ length out₀
  pub reached : ReachedFrom slots k t progress x₀ w₀ out₀ w out

module _ {slots k : ℕ} {x₀ : Extent} {w₀ : Words} {out₀ : List ℕ} where
  pub blower_begin : CanList slots x₀ w₀ out₀ → 1 ≤ k
      → BlowerLoop slots k 0 (record { busy = false; first = 1; extent = x₀ }) x₀ w₀ out₀ w₀ out₀
  blower_begin p o = record { passed = omega arith; blower = o; day = p.day; fits = p.fits; same_length = refl; reached = λ ds b u. reached_begin u }

  module _ {t : ℕ} {progress : Progress} {w : Words} {out : List ℕ} (p : BlowerLoop slots k t progress x₀ w₀ out₀ w out) where
    pub blower_advance : t < slots → CanAdvance slots t k progress w out
    blower_advance m =
        let q = p.reached p.day.demands p.day.bounds p.day.under in
        record {
          day = record { demands = p.day.demands; bounds = q.bounds; under = q.under };
          inside = m;
          blower = p.blower;
          fits = p.fits;
        }

    pub blower_next : {r : Progress} {w' : Words} {out' : List ℕ} → t < slots → Advanced r slots t k progress w out w' out'
        → BlowerLoop slots k (t + 1) r x₀ w₀ out₀ w' out'
    blower_next m a =
        record {
          passed = omega arith;
          blower = p.blower;
          day = p.day;
          fits = a.fits;
          same_length = a.same_length ∙ p.same_length;
          reached = λ ds b u. a.goes ds b x₀ out₀ (p.reached ds b u);
        }

    pub blower_end : slots ≤ t → BlowerListed progress.extent slots k x₀ w₀ out₀ w out
    blower_end m =
        record {
          fits = p.fits;
          same_length = p.same_length;
          settled = λ ds b u. reached_settled m (p.reached ds b u);
          listed = λ ds b u. reached_listed m (p.reached ds b u);
        }

-- `list_stretches` ---------------------------------------------------------------------

-- blowers from m down to k + 1 are settled and listed
pub record ReachedBlowers (slots m k : ℕ) (ds : List Demand) (b : Bounds) (out₀ : List ℕ) (w : Words) (x : Extent) (out : List ℕ) : Type 0 where
  pub bounds : Bounds
  pub under : Under slots ds bounds w
  pub done : List EndedStretch
  pub ends : ended_each slots ds m b ≡ done ++ ended_each slots ds k bounds
  pub listed : Listing done out₀ out x

pub record BlowersLoop (slots m k : ℕ) (x : Extent) (w₀ : Words) (out₀ : List ℕ) (w : Words) (out : List ℕ) : Type 0 where
  pub day : SomeDay slots w₀
  pub room : causes_bytes ≤ length out₀
  pub fits : Fits slots x out
  pub same_length : length out ≡ length out₀
  pub reached : (ds : List Demand) (b : Bounds) → Under slots ds b w₀ → ReachedBlowers slots m k ds b out₀ w x out

module _ {slots m : ℕ} {w₀ : Words} {out₀ : List ℕ} where
  pub blowers_begin : CanList slots (record { length = 0; cut = false }) w₀ out₀
      → BlowersLoop slots m m (record { length = 0; cut = false }) w₀ out₀ w₀ out₀
  blowers_begin p =
      record {
        day = p.day;
        room = p.fits.room;
        fits = p.fits;
        same_length = refl;
        reached = λ ds b u. record { bounds = b; under = u; done = []; ends = refl; listed = listing_none out₀ };
      }

  module _ {k : ℕ} {x : Extent} {w : Words} {out : List ℕ} (p : BlowersLoop slots m k x w₀ out₀ w out) where
    pub blowers_list : CanList slots x w out
    blowers_list =
        let q = p.reached p.day.demands p.day.bounds p.day.under in
        record { day = record { demands = p.day.demands; bounds = q.bounds; under = q.under }; fits = p.fits }

    -- the listing is cut: what is left to settle would not be listed
    pub blowers_cut : x.cut ≡ true → AllListed x slots m w₀ out₀ out
    blowers_cut c ds b u =
        let q = p.reached ds b u in
        subst (λ vs. Listing vs out₀ out x) (sym q.ends) (listing_cut q.listed c (ended_each slots ds k q.bounds))

    pub blowers_end : k ≡ 0 → AllListed x slots m w₀ out₀ out
    unfolding ended_each
    blowers_end e ds b u =
        let q = p.reached ds b u in
        subst (λ vs. Listing vs out₀ out x) (sym (q.ends ∙ ap (λ n. q.done ++ ended_each slots ds n q.bounds) e ∙ append-nil q.done)) q.listed

  pub blowers_next : {k : ℕ} {x r : Extent} {w : Words} {out : List ℕ} {w' : Words} {out' : List ℕ} → 0 < k
      → BlowersLoop slots m k x w₀ out₀ w out → BlowerListed r slots k x w out w' out'
      → BlowersLoop slots m (k - 1) r w₀ out₀ w' out'
  unfolding ended_each
  blowers_next {k = zero} h p a = absurd (omega arith)
  blowers_next {k = suc k} h p a =
      rw (pred k)
      (record {
        day = p.day;
        room = p.room;
        fits = a.fits;
        same_length = a.same_length ∙ p.same_length;
        reached = λ ds b u.
            let q = p.reached ds b u in
            record {
              bounds = settle_from slots ds (suc k) false slots 0 q.bounds;
              under = a.settled ds q.bounds q.under;
              done = q.done ++ ended_from slots ds (suc k) false 1 slots 0 q.bounds;
              ends = q.ends ∙ sym (append_assoc q.done (ended_from slots ds (suc k) false 1 slots 0 q.bounds) _);
              listed = a.listed ds q.bounds q.under q.done out₀ p.room q.listed;
            };
      })
    where
      pred : (k : ℕ) → suc k - 1 ≡ k
      pred k = omega arith
