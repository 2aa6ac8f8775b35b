-- The steps of the loop that writes windows into words, and what the bytes of all volumes are. Assumes nothing.
use Rattle.std.specs.Prelude.{◌≡◌, refl, ◌≢◌, Bool, true, false, ◌&&◌, List, ℕ, suc, ◌+◌, ◌-◌, ◌^◌, ◌≤◌, ◌<◌, leb, ltb, length, get_or, set, replicate}
use Rattle.std.proofs.Common.{sym, ap, ◌∙◌, add-zero, add-one, arith, length-set, get_or-set_same, get_or-set_other, le-leb, leb-true, lt-ltb, le-ltb, ltb-true, ltb-false}
use Rattle.std.proofs.Math.Nat.{pow-succ'}
use Rattle.std.proofs.Math.Decide.{ℕ_discrete}
use Rattle.std.proofs.lemmas.List.{length-replicate}
use Rattle.std.proofs.lemmas.Bool.{lt-leb}
use Rattle.common.specs.Bits.{bit, bit_below, add_same, add_other}
use Rattle.checks.specs.Limits.{max_slots, max_rations}
use Rattle.theory.specs.SumsOver.{one, pick}
use Rattle.schedules.specs.Slots.{has}
use Rattle.placing.specs.Rations.{release_at, deadline_at, volume_at, demands_from, Rations}
use Rattle.placing.specs.Words.{WindowWords, VolumeBytes, in_window, CanMark, Added, Marked}
use Rattle.placing.specs.RationLaws.{length_demands_from, window_of_demands_from, volume_of_demands_from}
use Rattle.common.specs.FillLaws.{get_d_zeros, FilledTo}
use Rattle.schedules.proofs.WindowLaws.{has_window}

-- One window --------------------------------------------------------------------

-- the slots of the window before slot t have x more
pub record AddedTo (x release deadline t : ℕ) (W W' : List ℕ) : Type 0 where
  pub from : release ≤ t + 1
  pub to : t ≤ deadline
  pub long : length W' ≡ max_slots
  pub words : (u : ℕ) → get_or W' u 0 ≡ get_or W u 0 + pick (leb release (suc u) && ltb u t) x

pick_false : (b : Bool) (x y : ℕ) → b ≡ false → x ≡ x + pick b y
pick_false b x y e = rw e (sym (add-zero x))

and_second_false : (a : Bool) {b : Bool} → (a ≡ true → b ≡ false) → (a && b) ≡ false
and_second_false true h = h refl
and_second_false false h = refl

module _ (W : List ℕ) (x release deadline : ℕ) (day : length W ≡ max_slots) (order : release ≤ deadline) (last : deadline ≤ max_slots) where
  pub add_begin : AddedTo x release deadline (release - 1) W W
  add_begin =
      record {
        from = omega arith;
        to = omega (arith, order);
        long = day;
        words = λ u.
            pick_false (leb release (suc u) && ltb u (release - 1)) (get_or W u 0) x
            (and_second_false (leb release (suc u)) (λ e. le-ltb u (release - 1) (omega (arith, leb-true release (suc u) e))));
      }

  module _ (t : ℕ) (W' : List ℕ) (m : AddedTo x release deadline t W W') where
    pub add_here : get_or W' t 0 ≡ get_or W t 0
    add_here =
        m.words t
        ∙ sym (pick_false (leb release (suc t) && ltb t t) (get_or W t 0) x (and_second_false (leb release (suc t)) (λ e. le-ltb t t (omega arith))))

    pub add_next : t < deadline → (r : ℕ) → r ≡ get_or W' t 0 + x → AddedTo x release deadline (t + 1) W (set W' t r)
    add_next l r e =
        record {
          from = omega (arith, m.from);
          to = omega arith;
          long = length-set W' t r ∙ m.long;
          words = λ u. go u (ℕ_discrete u t);
        }
      where
        same : (u : ℕ) → u ≢ t → ltb u t ≡ ltb u (t + 1)
        same u n = at (ltb u t) refl
          where
            at : (x : Bool) → ltb u t ≡ x → x ≡ ltb u (t + 1)
            at true p = sym (lt-ltb u (t + 1) (omega (arith, ltb-true u t p)))
            at false p = sym (le-ltb u (t + 1) (omega (arith, ltb-false u t p)))

        go : (u : ℕ) → Dec (u ≡ t) → get_or (set W' t r) u 0 ≡ get_or W u 0 + pick (leb release (suc u) && ltb u (t + 1)) x
        go u (yes p) =
            ap (λ k. get_or (set W' t r) k 0) p ∙ get_or-set_same W' t r 0 (omega (arith, m.long, last)) ∙ e
            ∙ rw (p, le-leb release (suc t) (omega (arith, m.from)), lt-ltb t (t + 1) (omega arith), add_here)
        go u (no n) =
            get_or-set_other W' t u r 0 n ∙ m.words u ∙ ap (λ b. get_or W u 0 + pick (leb release (suc u) && b) x) (same u n)

    pub add_end : deadline ≤ t → Added x release deadline W W'
    add_end l =
        let e : t ≡ deadline = omega (arith, m.to) in
        record { long = m.long; words = λ u. m.words u ∙ ap (λ b. get_or W u 0 + pick (leb release (suc u) && b) x) (same e u) }
      where
        same : t ≡ deadline → (u : ℕ) → ltb u t ≡ leb (suc u) deadline
        same e u = at (ltb u t) refl
          where
            at : (x : Bool) → ltb u t ≡ x → x ≡ leb (suc u) deadline
            at true p = sym (le-leb (suc u) deadline (omega (arith, ltb-true u t p)))
            at false p = sym (lt-leb (suc u) deadline (omega (arith, ltb-false u t p)))

-- the bit that is added is not there yet
pub mark_bit : (W : List ℕ) (j release deadline : ℕ) (h : CanMark W j release deadline) (t : ℕ) (W' : List ℕ)
    → AddedTo (2 ^ j) release deadline t W W' → (j < max_rations) × (bit (get_or W' t 0) j ≡ 0)
mark_bit W j release deadline h t W' m =
    (h.ration, rw (add_here W (2 ^ j) release deadline h.long h.order h.last t W' m) (bit_below (get_or W t 0) j (h.below t)))

-- All windows -------------------------------------------------------------------

-- the words have the windows of the rations before j, and no other bit
pub record WindowsTo (slots : ℕ) (numbers : List ℕ) (j : ℕ) (W : List ℕ) : Type 0 where
  pub long : length W ≡ max_slots
  pub few : (t : ℕ) → get_or W t 0 < 2 ^ j
  pub past : (t : ℕ) → slots ≤ t → get_or W t 0 ≡ 0
  pub window : (k t : ℕ) → k < j → bit (get_or W t 0) k ≡ one (in_window (release_at numbers k) (deadline_at numbers k) t)

pub windows_begin : (slots : ℕ) (numbers : List ℕ) → WindowsTo slots numbers 0 (replicate max_slots 0)
windows_begin slots numbers =
    record {
      long = length-replicate {A = ℕ} max_slots 0;
      few = λ t. omega (arith, get_d_zeros max_slots t);
      past = λ t l. get_d_zeros max_slots t;
      window = λ k t l. absurd (omega arith);
    }

module _ (slots n : ℕ) (numbers : List ℕ) (h : Rations slots n numbers) where
  module _ (j : ℕ) (l : j < n) (W : List ℕ) (w : WindowsTo slots numbers j W) where
    pub windows_can : CanMark W j (release_at numbers j) (deadline_at numbers j)
    windows_can =
        let r = h.each j l in
        record {
          long = w.long;
          ration = omega (arith, h.few);
          first = r.release;
          order = r.window;
          last = omega (arith, r.deadline, h.short);
          below = w.few;
        }

    pub windows_next : (W' : List ℕ) → Marked j (release_at numbers j) (deadline_at numbers j) W W' → WindowsTo slots numbers (j + 1) W'
    windows_next W' m =
        record {
          long = m.long;
          few = λ t. omega (arith, m.words t, w.few t, pick_le (in_window (release_at numbers j) (deadline_at numbers j) t) (2 ^ j), ap (λ k. 2 ^ k) (add-one j), pow-succ' 2 j);
          past = λ t p.
              m.words t
              ∙ sym (pick_false (in_window (release_at numbers j) (deadline_at numbers j) t) (get_or W t 0) (2 ^ j)
              (and_second_false (leb (release_at numbers j) (suc t)) (λ e. lt-leb (suc t) (deadline_at numbers j) (omega (arith, (h.each j l).deadline)))))
              ∙ w.past t p;
          window = λ k t p. ap (λ x. bit x k) (m.words t) ∙ at k t (ℕ_discrete k j) p;
        }
      where
        pick_le : (b : Bool) (x : ℕ) → pick b x ≤ x
        pick_le true x = omega arith
        pick_le false x = omega arith

        added : (t : ℕ) (b : Bool) → bit (get_or W t 0 + pick b (2 ^ j)) j ≡ one b
        added t true = add_same (get_or W t 0) j (bit_below (get_or W t 0) j (w.few t))
        added t false = ap (λ x. bit x j) (add-zero (get_or W t 0)) ∙ bit_below (get_or W t 0) j (w.few t)

        other : (t k : ℕ) → k ≢ j → (b : Bool) → bit (get_or W t 0 + pick b (2 ^ j)) k ≡ bit (get_or W t 0) k
        other t k n true = add_other (get_or W t 0) j k (bit_below (get_or W t 0) j (w.few t)) n
        other t k n false = ap (λ x. bit x k) (add-zero (get_or W t 0))

        at : (k t : ℕ) → Dec (k ≡ j) → k < j + 1
            → bit (get_or W t 0 + pick (in_window (release_at numbers j) (deadline_at numbers j) t) (2 ^ j)) k
            ≡ one (in_window (release_at numbers k) (deadline_at numbers k) t)
        at k t (yes e) p = rw e (added t (in_window (release_at numbers j) (deadline_at numbers j) t))
        at k t (no n) p = other t k n (in_window (release_at numbers j) (deadline_at numbers j) t) ∙ w.window k t (omega arith)

  pub windows_end : (j : ℕ) → j ≡ n → (W : List ℕ) → WindowsTo slots numbers j W → WindowWords slots (demands_from slots n numbers) W
  windows_end j e W w =
      let c = length_demands_from slots n numbers in
      record {
        long = w.long;
        few = λ t. omega (arith, w.few t, ap (λ k. 2 ^ k) (e ∙ sym c));
        past = w.past;
        window = λ k t l m.
            let p : k < n = rw c at l in
            ap one (ap (λ x. has x t) (window_of_demands_from slots n numbers k p) ∙ has_window slots (release_at numbers k) (deadline_at numbers k) t m)
            ∙ sym (w.window k t (omega arith));
      }

  -- Volumes -----------------------------------------------------------------------

  pub volumes_end : (j : ℕ) → j ≡ n → (N : List ℕ) → FilledTo max_rations (volume_at numbers) j N → VolumeBytes (demands_from slots n numbers) N
  volumes_end j e N v =
      let c = length_demands_from slots n numbers in
      record {
        long = v.long;
        volume = λ k l.
            let p : k < n = rw c at l in
            v.filled k (omega arith) ∙ sym (volume_of_demands_from slots n numbers k p);
        past = λ k l. v.past k (omega arith);
      }
