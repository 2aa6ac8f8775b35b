-- Laws of the order of numbers, lists and plans. Each is proved once for whatever is ordered. Assumes nothing.
use Rattle.std.specs.Prelude.{◌≡◌, ◌⊎◌, ◌↔◌, true, false}
use Rattle.std.specs.declared.cmp.Ordering.{Ordering}
use Rattle.std.specs.declared.cmp.Ordering.TheVariants.{Less, Equal, Greater}
use Rattle.std.specs.Ordering.{nat_cmp, is_ne}
use Rattle.std.proofs.Math.Path.{refl, ap, ap₂}
use Rattle.std.proofs.Common.{sym, ◌∙◌, inl, inr, true≢false, arith, lt-ltb, le-ltb, eq-eqb, ne_eqb}
use Rattle.std.proofs.lemmas.Bool.{false≢true}
use mathlib.Core.List.{List, [], ◌∷◌, map}
use Prim.Native.Nat.{ℕ, zero, suc, ◌+◌, ◌≤◌, ◌<◌}
use Rattle.std.proofs.Math.Decide.{ℕ_discrete as dec_eq}
use Rattle.common.specs.Lists.{range}
use Rattle.method.proofs.Cases.{lt_or_eq_or_gt}
use Rattle.plan_lines.specs.Lines.{Plan}
use Rattle.plan_order.specs.declared.Order.{Order}
use Rattle.plan_order.specs.declared.Order.TheVariants.{No, Same, Before, After}
use Rattle.plan_order.specs.Order.{order_number, order_of_numbers, then_by, order_of_lists, order_of_slots, fed_tanks}
use Rattle.plan_order.specs.Clauses.{as_order, differs}
use Rattle.plan_order.specs.TotalOrder.{ExactlyOne, TotalOrder}

-- The first that differs decides ------------------------------------------------------

-- the order of the two exchanged
abbrev turn : Order → Order
turn No = No
turn Same = Same
turn Before = After
turn After = Before

turn_then : (x y : Order) → then_by (turn x) (turn y) ≡ turn (then_by x y)
turn_then No y = refl
turn_then Same y = refl
turn_then Before y = refl
turn_then After y = refl

then_same : (x y : Order) → then_by x y ≡ Same → (x ≡ Same) × (y ≡ Same)
then_same No y e = absurd (omega (arith, ap order_number e))
then_same Same y e = (refl, e)
then_same Before y e = absurd (omega (arith, ap order_number e))
then_same After y e = absurd (omega (arith, ap order_number e))

then_answered : (x y : Order) → (x ≡ No → ⊥) → (y ≡ No → ⊥) → then_by x y ≡ No → ⊥
then_answered No y h k e = h refl
then_answered Same y h k e = k e
then_answered Before y h k e = omega (arith, ap order_number e)
then_answered After y h k e = omega (arith, ap order_number e)

-- Laws of an order, of numbers, of lists and of pairs alike -------------------------------

pub record Ordered {A : Type 0} (order : A → A → Order) : Type 0 where
  pub answered : (x y : A) → order x y ≡ No → ⊥
  pub itself : (x : A) → order x x ≡ Same
  pub equal : (x y : A) → order x y ≡ Same → x ≡ y
  pub exchanged : (x y : A) → order y x ≡ turn (order x y)
  pub transitive : (x y z : A) → order x y ≡ Before → order y z ≡ Before → order x z ≡ Before

-- of two things ordered one after the other, the second by whatever order
then_transitive : {A : Type 0} {order : A → A → Order} → Ordered order → (x y z : A) {u v w : Order} → (u ≡ Before → v ≡ Before → w ≡ Before)
    → then_by (order x y) u ≡ Before → then_by (order y z) v ≡ Before → then_by (order x z) w ≡ Before
then_transitive {A} {order} o x y z {u} {v} {w} h e f = go (order x y) (order y z) refl refl e f
  where
    go : (a b : Order) → order x y ≡ a → order y z ≡ b → then_by a u ≡ Before → then_by b v ≡ Before → then_by (order x z) w ≡ Before
    go No b p q e f = absurd (omega (arith, ap order_number e))
    go Same No p q e f = absurd (omega (arith, ap order_number f))
    go Same Same p q e f = rw (← o.equal y z q, p) (h e f)
    go Same Before p q e f = rw (o.equal x y p, q) refl
    go Same After p q e f = absurd (omega (arith, ap order_number f))
    go Before No p q e f = absurd (omega (arith, ap order_number f))
    go Before Same p q e f = rw (← o.equal y z q, p) refl
    go Before Before p q e f = rw (o.transitive x y z p q) refl
    go Before After p q e f = absurd (omega (arith, ap order_number f))
    go After b p q e f = absurd (omega (arith, ap order_number e))

-- Numbers ---------------------------------------------------------------------------

pub numbers_before : {x y : ℕ} → x < y → order_of_numbers x y ≡ Before
unfolding order_of_numbers
numbers_before {x} {y} l = rw (lt-ltb x y l)

pub numbers_after : {x y : ℕ} → y < x → order_of_numbers x y ≡ After
unfolding order_of_numbers
numbers_after {x} {y} l = rw (le-ltb x y (omega arith), lt-ltb y x l)

pub numbers_same : {x y : ℕ} → x ≡ y → order_of_numbers x y ≡ Same
unfolding order_of_numbers
numbers_same {x} {y} e = rw (le-ltb x y (omega arith), le-ltb y x (omega arith))

-- one number is less, or they are equal
abbrev Cases : ℕ → ℕ → Type 0
Cases x y = (x < y) ⊎ ((x ≡ y) ⊎ (y < x))

before_less : (x y : ℕ) → order_of_numbers x y ≡ Before → x < y
before_less x y e = go (lt_or_eq_or_gt x y)
  where
    go : Cases x y → x < y
    go (inl l) = l
    go (inr (inl l)) = absurd (omega (arith, ap order_number (sym (numbers_same l) ∙ e)))
    go (inr (inr l)) = absurd (omega (arith, ap order_number (sym (numbers_after l) ∙ e)))

pub numbers_ordered : Ordered order_of_numbers
numbers_ordered =
    record {
      answered = λ x y e. answered x y e (lt_or_eq_or_gt x y);
      itself = λ x. numbers_same refl;
      equal = λ x y e. equal x y e (lt_or_eq_or_gt x y);
      exchanged = λ x y. exchanged x y (lt_or_eq_or_gt x y);
      transitive = λ x y z e f. numbers_before (omega (arith, before_less x y e, before_less y z f));
    }
  where
    answered : (x y : ℕ) → order_of_numbers x y ≡ No → Cases x y → ⊥
    answered x y e (inl l) = omega (arith, ap order_number (sym (numbers_before l) ∙ e))
    answered x y e (inr (inl l)) = omega (arith, ap order_number (sym (numbers_same l) ∙ e))
    answered x y e (inr (inr l)) = omega (arith, ap order_number (sym (numbers_after l) ∙ e))

    equal : (x y : ℕ) → order_of_numbers x y ≡ Same → Cases x y → x ≡ y
    equal x y e (inl l) = absurd (omega (arith, ap order_number (sym (numbers_before l) ∙ e)))
    equal x y e (inr (inl l)) = l
    equal x y e (inr (inr l)) = absurd (omega (arith, ap order_number (sym (numbers_after l) ∙ e)))

    exchanged : (x y : ℕ) → Cases x y → order_of_numbers y x ≡ turn (order_of_numbers x y)
    exchanged x y (inl l) = numbers_after l ∙ ap turn (sym (numbers_before l))
    exchanged x y (inr (inl l)) = numbers_same (sym l) ∙ ap turn (sym (numbers_same l))
    exchanged x y (inr (inr l)) = numbers_before l ∙ ap turn (sym (numbers_after l))

-- what std's comparison of two numbers answers
pub compared : (x y : ℕ) → as_order (nat_cmp x y) ≡ order_of_numbers x y
compared x y = go (lt_or_eq_or_gt x y)
  where
    go : Cases x y → as_order (nat_cmp x y) ≡ order_of_numbers x y
    go (inl l) = rw (lt-ltb x y l) (sym (numbers_before l))
    go (inr (inl l)) = rw (le-ltb x y (omega arith), eq-eqb x y l) (sym (numbers_same l))
    go (inr (inr l)) = rw (le-ltb x y (omega arith), ne_eqb x y (λ e. omega arith)) (sym (numbers_after l))

pub ordering_differs : (x : Ordering) → differs (as_order x) ≡ is_ne x
ordering_differs Less = refl
ordering_differs Equal = refl
ordering_differs Greater = refl

-- Lists -------------------------------------------------------------------------------

module _ {A : Type 0} {order : A → A → Order} (o : Ordered order) where
  list_answered : (xs ys : List A) → order_of_lists order xs ys ≡ No → ⊥
  unfolding order_of_lists
  list_answered [] [] e = omega (arith, ap order_number e)
  list_answered [] (y ∷ ys) e = omega (arith, ap order_number e)
  list_answered (x ∷ xs) [] e = omega (arith, ap order_number e)
  list_answered (x ∷ xs) (y ∷ ys) e = then_answered (order x y) (order_of_lists order xs ys) (o.answered x y) (list_answered xs ys) e

  list_itself : (xs : List A) → order_of_lists order xs xs ≡ Same
  unfolding order_of_lists
  list_itself [] = refl
  list_itself (x ∷ xs) = rw (o.itself x) (list_itself xs)

  list_equal : (xs ys : List A) → order_of_lists order xs ys ≡ Same → xs ≡ ys
  unfolding order_of_lists
  list_equal [] [] e = refl
  list_equal [] (y ∷ ys) e = absurd (omega (arith, ap order_number e))
  list_equal (x ∷ xs) [] e = absurd (omega (arith, ap order_number e))
  list_equal (x ∷ xs) (y ∷ ys) e =
      let h = then_same (order x y) (order_of_lists order xs ys) e in
      ap₂ (λ (a : A) (l : List A). a ∷ l) (o.equal x y h.0) (list_equal xs ys h.1)

  list_exchanged : (xs ys : List A) → order_of_lists order ys xs ≡ turn (order_of_lists order xs ys)
  unfolding order_of_lists
  list_exchanged [] [] = refl
  list_exchanged [] (y ∷ ys) = refl
  list_exchanged (x ∷ xs) [] = refl
  list_exchanged (x ∷ xs) (y ∷ ys) = ap₂ then_by (o.exchanged x y) (list_exchanged xs ys) ∙ turn_then (order x y) (order_of_lists order xs ys)

  list_transitive : (xs ys zs : List A) → order_of_lists order xs ys ≡ Before → order_of_lists order ys zs ≡ Before → order_of_lists order xs zs ≡ Before
  unfolding order_of_lists
  list_transitive [] [] zs e f = absurd (omega (arith, ap order_number e))
  list_transitive [] (y ∷ ys) [] e f = absurd (omega (arith, ap order_number f))
  list_transitive [] (y ∷ ys) (z ∷ zs) e f = refl
  list_transitive (x ∷ xs) [] zs e f = absurd (omega (arith, ap order_number e))
  list_transitive (x ∷ xs) (y ∷ ys) [] e f = absurd (omega (arith, ap order_number f))
  list_transitive (x ∷ xs) (y ∷ ys) (z ∷ zs) e f = then_transitive o x y z (list_transitive xs ys zs) e f

  pub lists_ordered : Ordered (order_of_lists order)
  lists_ordered =
      record { answered = list_answered; itself = list_itself; equal = list_equal; exchanged = list_exchanged; transitive = list_transitive }

slots_ordered : Ordered order_of_slots
slots_ordered = lists_ordered (lists_ordered numbers_ordered)

-- Places of two lists of equal length ---------------------------------------------------

pub same_of : (x : Order) → differs x ≡ false → x ≡ Same
same_of No e = absurd (true≢false e)
same_of Same e = refl
same_of Before e = absurd (true≢false e)
same_of After e = absurd (true≢false e)

pub then_differs : (x y : Order) → differs x ≡ true → then_by x y ≡ x
then_differs No y e = refl
then_differs Same y e = absurd (false≢true e)
then_differs Before y e = refl
then_differs After y e = refl

module _ {A : Type 0} (order : A → A → Order) (f g : ℕ → A) where
  pub places_same : (a n : ℕ) → ((t : ℕ) → t < a + n → order (f t) (g t) ≡ Same) → order_of_lists order (map f (range a n)) (map g (range a n)) ≡ Same
  unfolding order_of_lists
  places_same a zero h = refl
  places_same a (suc n) h = rw (h a (omega arith)) (places_same (suc a) n (λ t l. h t (omega arith)))

  -- the first place that differs decides
  pub first_differs : (a n t : ℕ) → a ≤ t → t < a + n → ((u : ℕ) → u < t → order (f u) (g u) ≡ Same) → differs (order (f t) (g t)) ≡ true
      → order_of_lists order (map f (range a n)) (map g (range a n)) ≡ order (f t) (g t)
  unfolding order_of_lists
  first_differs a zero t l k h e = absurd (omega arith)
  first_differs a (suc n) t l k h e = go (dec_eq t a) (λ m. first_differs (suc a) n t m (omega arith) h e)
    where
      rest : Order
      rest = order_of_lists order (map f (range (suc a) n)) (map g (range (suc a) n))

      go : Dec (t ≡ a) → (suc a ≤ t → rest ≡ order (f t) (g t)) → then_by (order (f a) (g a)) rest ≡ order (f t) (g t)
      go (yes q) ih = ap (λ u. then_by (order (f u) (g u)) rest) (sym q) ∙ then_differs (order (f t) (g t)) rest e
      go (no q) ih = rw (h a (omega arith)) (ih (omega arith))

-- Plans -------------------------------------------------------------------------------

-- D, and the tanks fed in each slot
abbrev Day : Type 0
Day = ℕ × List (List ℕ)

abbrev pub day_of : Plan → Day
day_of p = (p.slots, fed_tanks p)

abbrev pub order_of_days : Day → Day → Order
order_of_days a b = then_by (order_of_numbers a.0 b.0) (order_of_slots a.1 b.1)

pub days_ordered : Ordered order_of_days
days_ordered =
    record {
      answered = λ a b. then_answered (order_of_numbers a.0 b.0) (order_of_slots a.1 b.1) (n.answered a.0 b.0) (s.answered a.1 b.1);
      itself = λ a. rw (n.itself a.0) (s.itself a.1);
      equal = λ a b e.
          let h = then_same (order_of_numbers a.0 b.0) (order_of_slots a.1 b.1) e in
          ap₂ (λ x y. (x, y)) (n.equal a.0 b.0 h.0) (s.equal a.1 b.1 h.1);
      exchanged = λ a b.
          ap₂ then_by (n.exchanged a.0 b.0) (s.exchanged a.1 b.1) ∙ turn_then (order_of_numbers a.0 b.0) (order_of_slots a.1 b.1);
      transitive = λ a b c e f. then_transitive n a.0 b.0 c.0 (s.transitive a.1 b.1 c.1) e f;
    }
  where
    n : Ordered order_of_numbers
    n = numbers_ordered

    s : Ordered order_of_slots
    s = slots_ordered

-- The laws make a total order -------------------------------------------------------------

-- of whatever is ordered by a key of it
module _ {A B : Type 0} {order : A → A → Order} (o : Ordered order) (key : B → A) where
  abbrev by : B → B → Order
  by x y = order (key x) (key y)

  exactly_one : (x y : B) → ExactlyOne (by x y ≡ Before) (by x y ≡ Same) (by x y ≡ After)
  exactly_one x y = (
    one (by x y) refl,
    λ h. omega (arith, ap order_number (sym h.0 ∙ h.1)),
    λ h. omega (arith, ap order_number (sym h.0 ∙ h.1)),
    λ h. omega (arith, ap order_number (sym h.0 ∙ h.1)),
  )
    where
      one : (z : Order) → by x y ≡ z → (by x y ≡ Before) ⊎ ((by x y ≡ Same) ⊎ (by x y ≡ After))
      one No e = absurd (o.answered (key x) (key y) e)
      one Same e = inr (inl e)
      one Before e = inl e
      one After e = inr (inr e)

  same_where_neither : (x y : B) → (by x y ≡ Same) ↔ ((¬ (by x y ≡ Before)) × (¬ (by y x ≡ Before)))
  same_where_neither x y = (
    λ e. (
      λ f. omega (arith, ap order_number (sym e ∙ f)),
      λ f. omega (arith, ap order_number (sym (ap turn e) ∙ sym (o.exchanged (key x) (key y)) ∙ f)),
    ),
    λ h. go (by x y) refl h,
  )
    where
      go : (z : Order) → by x y ≡ z → (¬ (by x y ≡ Before)) × (¬ (by y x ≡ Before)) → by x y ≡ Same
      go No e h = absurd (o.answered (key x) (key y) e)
      go Same e h = e
      go Before e h = absurd (h.0 e)
      go After e h = absurd (h.1 (o.exchanged (key x) (key y) ∙ ap turn e))

  pub total : TotalOrder B (λ x y. by x y ≡ Before) (λ x y. by x y ≡ Same) (λ x y. by x y ≡ After)
  total =
      record {
        exactly_one = exactly_one;
        not_before_itself = λ x e. omega (arith, ap order_number (sym (o.itself (key x)) ∙ e));
        transitive = λ x y z. o.transitive (key x) (key y) (key z);
        turned = λ x y. (λ e. o.exchanged (key x) (key y) ∙ ap turn e, λ e. o.exchanged (key y) (key x) ∙ ap turn e);
        same_transitive = λ x y z e f. ap (order (key x)) (sym (o.equal (key y) (key z) f)) ∙ e;
        same_where_neither = same_where_neither;
      }

-- the same order, said in other words
pub total_as : {B : Type 0} {before same after before' same' after' : B → B → Type 0} → TotalOrder B before same after
    → ((x y : B) → before x y ↔ before' x y) → ((x y : B) → same x y ↔ same' x y) → ((x y : B) → after x y ↔ after' x y) → TotalOrder B before' same' after'
total_as {B} {before} {same} {after} {before'} {same'} {after'} t f g h =
    record {
      exactly_one = λ x y.
          let e = t.exactly_one x y in (
            one x y e.0,
            λ z. e.1 ((f x y).1 z.0, (g x y).1 z.1),
            λ z. e.2 ((f x y).1 z.0, (h x y).1 z.1),
            λ z. e.3 ((g x y).1 z.0, (h x y).1 z.1),
          );
      not_before_itself = λ x b. t.not_before_itself x ((f x x).1 b);
      transitive = λ x y z b c. (f x z).0 (t.transitive x y z ((f x y).1 b) ((f y z).1 c));
      turned = λ x y. (λ b. (h y x).0 ((t.turned x y).0 ((f x y).1 b)), λ a. (f x y).0 ((t.turned x y).1 ((h y x).1 a)));
      same_transitive = λ x y z a b. (g x z).0 (t.same_transitive x y z ((g x y).1 a) ((g y z).1 b));
      same_where_neither = λ x y. (
        λ s. let n = (t.same_where_neither x y).0 ((g x y).1 s) in (λ b. n.0 ((f x y).1 b), λ b. n.1 ((f y x).1 b)),
        λ n. (g x y).0 ((t.same_where_neither x y).1 (λ b. n.0 ((f x y).0 b), λ b. n.1 ((f y x).0 b))),
      );
    }
  where
    one : (x y : B) → before x y ⊎ (same x y ⊎ after x y) → before' x y ⊎ (same' x y ⊎ after' x y)
    one x y (inl b) = inl ((f x y).0 b)
    one x y (inr (inl s)) = inr (inl ((g x y).0 s))
    one x y (inr (inr a)) = inr (inr ((h x y).0 a))

-- no two answers have the same number
pub number_tells : (x y : Order) → order_number x ≡ order_number y → x ≡ y
number_tells No No e = refl
number_tells No Same e = absurd (omega (arith, e))
number_tells No Before e = absurd (omega (arith, e))
number_tells No After e = absurd (omega (arith, e))
number_tells Same No e = absurd (omega (arith, e))
number_tells Same Same e = refl
number_tells Same Before e = absurd (omega (arith, e))
number_tells Same After e = absurd (omega (arith, e))
number_tells Before No e = absurd (omega (arith, e))
number_tells Before Same e = absurd (omega (arith, e))
number_tells Before Before e = refl
number_tells Before After e = absurd (omega (arith, e))
number_tells After No e = absurd (omega (arith, e))
number_tells After Same e = absurd (omega (arith, e))
number_tells After Before e = absurd (omega (arith, e))
number_tells After After e = refl
