-- How two days are compared: one slot more of each. Assumes nothing.
use mathlib.Core.Path.{◌≡◌, sym, ap, ◌∙◌}
use mathlib.Core.Bool.{false, true}
use mathlib.Core.List.{List}
use Prim.Native.Nat.{ℕ, ◌+◌, ◌≤◌, ◌<◌}
use native.Mathlib.Decide.{ℕ_discrete as dec_eq}
use native.Mathlib.Omega.{arith}
use lib.ListN.{get_or}
use Rattle.plan_order.specs.declared.Order.{Order}
use Rattle.plan_order.specs.declared.Order.TheVariants.{Same}
use Rattle.plan_order.specs.Order.{order_of_numbers, then_by, order_of_tanks, order_of_slots}
use Rattle.plan_order.specs.Clauses.{differs, tanks_of_word, tanks_of_words}
use Rattle.plan_order.proofs.OrderLaws.{same_of, then_differs, numbers_ordered, places_same, first_differs}

-- the first t slots have the same lists
abbrev pub SameBefore : (t : ℕ) → (numbers fed others fed' : List ℕ) → Type 0
SameBefore t numbers fed others fed' =
    (u : ℕ) → u < t → order_of_tanks (tanks_of_word numbers (get_or fed u 0)) (tanks_of_word others (get_or fed' u 0)) ≡ Same

module _ (slots slots' : ℕ) (numbers fed others fed' : List ℕ) where
  abbrev order : Order
  order = then_by (order_of_numbers slots slots') (order_of_slots (tanks_of_words slots numbers fed) (tanks_of_words slots' others fed'))

  -- D differs
  pub slots_differ : {x : Order} → x ≡ order_of_numbers slots slots' → differs x ≡ true → x ≡ order
  slots_differ {x} e f = sym (ap (λ y. then_by y (order_of_slots (tanks_of_words slots numbers fed) (tanks_of_words slots' others fed'))) (sym e) ∙ then_differs x _ f)

  pub same_begin : SameBefore 0 numbers fed others fed'
  same_begin u l = absurd (omega (arith, l))

  pub same_more : {t : ℕ} → SameBefore t numbers fed others fed'
      → {x : Order} → x ≡ order_of_tanks (tanks_of_word numbers (get_or fed t 0)) (tanks_of_word others (get_or fed' t 0)) → differs x ≡ false
      → SameBefore (t + 1) numbers fed others fed'
  same_more {t} h {x} e f u l = go (dec_eq u t)
    where
      go : Dec (u ≡ t) → order_of_tanks (tanks_of_word numbers (get_or fed u 0)) (tanks_of_word others (get_or fed' u 0)) ≡ Same
      go (yes q) = rw q (sym e ∙ same_of x f)
      go (no q) = h u (omega arith)

  -- D is the same
  module _ {y : Order} (e : y ≡ order_of_numbers slots slots') (s : differs y ≡ false) where
    level : order_of_numbers slots slots' ≡ Same
    level = sym e ∙ same_of y s

    then_slots : order ≡ order_of_slots (tanks_of_words slots numbers fed) (tanks_of_words slots others fed')
    then_slots =
        ap (λ z. then_by z (order_of_slots (tanks_of_words slots numbers fed) (tanks_of_words slots' others fed'))) level
        ∙ ap (λ n. order_of_slots (tanks_of_words slots numbers fed) (tanks_of_words n others fed')) (sym (numbers_ordered.equal slots slots' level))

    pub lists_differ : {t : ℕ} → t < slots → SameBefore t numbers fed others fed'
        → {x : Order} → x ≡ order_of_tanks (tanks_of_word numbers (get_or fed t 0)) (tanks_of_word others (get_or fed' t 0)) → differs x ≡ true → x ≡ order
    lists_differ {t} l h {x} p f =
        sym
        (then_slots
        ∙ first_differs order_of_tanks (λ t. tanks_of_word numbers (get_or fed t 0)) (λ t. tanks_of_word others (get_or fed' t 0)) 0 slots t (omega arith) (omega arith) h (ap differs (sym p) ∙ f)
        ∙ sym p)

    pub same_end : {t : ℕ} → slots ≤ t → SameBefore t numbers fed others fed' → Same ≡ order
    same_end {t} l h =
        sym
        (then_slots
        ∙ places_same order_of_tanks (λ t. tanks_of_word numbers (get_or fed t 0)) (λ t. tanks_of_word others (get_or fed' t 0)) 0 slots (λ u k. h u (omega arith)))
