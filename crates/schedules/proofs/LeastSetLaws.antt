-- The set contained in every set of greatest value f q − g q, where the meet of two sets of greatest value is one too:
-- it is of greatest value, and it is the only such set that every other contains. F and G are f and g of a set as a
-- function. Assumes nothing.
use Rattle.std.specs.Prelude.{◌≡◌, Bool, true, false, ℕ, ◌<◌, length, ℤ, ◌≤ℤ◌}
use Rattle.std.proofs.Common.{sym, ◌∙◌, arith}
use Rattle.std.proofs.Math.IntN.{sub_ℕ}
use Rattle.theory.specs.SumsOver as S
use Rattle.theory.proofs.LeastSet as T
use Rattle.theory.proofs.LeastSet.{LeastGreatest, least_unique}
use Rattle.schedules.specs.Slots.{Slots, has, meet}
use Rattle.schedules.specs.Shortfall.{in_every_greatest}
use Rattle.schedules.specs.Tabulate.{tab, length_tab, get_d_tab, tab_unique}
use Rattle.schedules.proofs.Differences.{sub_le}
use Rattle.schedules.proofs.GreatestLaws.{Greatest, length_meet, has_meet, length_in_every_greatest, in_every_greatest_in, in_every_greatest_greatest}

-- f is F of the set as a function, and F has to do with the day's slots alone
pub record AsFunction (slots : ℕ) (f : Slots → ℕ) (F : (ℕ → Bool) → ℕ) : Type 0 where
  pub is : (q : Slots) → length q ≡ slots → f q ≡ F (has q)
  pub cong : (A B : ℕ → Bool) → ((t : ℕ) → t < slots → A t ≡ B t) → F A ≡ F B

module _ {slots : ℕ} {f g : Slots → ℕ} {F G : (ℕ → Bool) → ℕ} (a : AsFunction slots f F) (b : AsFunction slots g G)
    (common : (A B : ℕ → Bool) → T.Greatest F G A → T.Greatest F G B → T.Greatest F G (S.meet A B)) where
  abbrev least : Slots
  least = in_every_greatest slots (λ q. sub_ℕ (f q) (g q))

  -- Greatest, of lists and of functions ---------------------------------------

  tab_as : (Q : ℕ → Bool) → (f (tab slots Q) ≡ F Q) × (g (tab slots Q) ≡ G Q)
  tab_as Q =
      (a.is (tab slots Q) (length_tab slots Q) ∙ a.cong _ _ (get_d_tab slots Q false), b.is (tab slots Q) (length_tab slots Q) ∙ b.cong _ _ (get_d_tab slots Q false))

  top_function : (q : Slots) → length q ≡ slots → Greatest slots f g q → T.Greatest F G (has q)
  top_function q e h Q = omega (arith, h (tab slots Q) (length_tab slots Q), tab_as Q, a.is q e, b.is q e)

  function_top : (q : Slots) → length q ≡ slots → T.Greatest F G (has q) → Greatest slots f g q
  function_top q e h r k = omega (arith, h (has r), a.is q e, b.is q e, a.is r k, b.is r k)

  top_cong : (A B : ℕ → Bool) → ((t : ℕ) → t < slots → A t ≡ B t) → T.Greatest F G A → T.Greatest F G B
  top_cong A B k h Q = omega (arith, h Q, a.cong A B k, b.cong A B k)

  top_meet : (p q : Slots) → length p ≡ slots → length q ≡ slots → Greatest slots f g p → Greatest slots f g q → Greatest slots f g (meet p q)
  top_meet p q m n x y =
      function_top (meet p q) (length_meet p q m n)
      (top_cong _ _ (λ t l. sym (has_meet p q m n t l)) (common (has p) (has q) (top_function p m x) (top_function q n y)))

  -- The least of them ---------------------------------------------------------

  pub length_least : length least ≡ slots
  length_least = length_in_every_greatest slots f g

  pub least_greatest : Greatest slots f g least
  least_greatest = in_every_greatest_greatest slots f g top_meet

  pub least_within : (q : Slots) → length q ≡ slots → Greatest slots f g q → (t : ℕ) → has least t ≡ true → has q t ≡ true
  least_within = in_every_greatest_in slots f g

  -- no set has a greater value, and one that has as much contains it
  pub value_le_least : (q : Slots) → length q ≡ slots → sub_ℕ (f q) (g q) ≤ℤ sub_ℕ (f least) (g least)
  value_le_least q e = (sub_le (f q) (g q) (f least) (g least)).1 (least_greatest q e)

  pub value_within : (q : Slots) → length q ≡ slots → sub_ℕ (f least) (g least) ≤ℤ sub_ℕ (f q) (g q)
      → (t : ℕ) → has least t ≡ true → has q t ≡ true
  value_within q e k = least_within q e (λ r l. omega (arith, least_greatest r l, (sub_le (f least) (g least) (f q) (g q)).0 k))

  -- a set as a function that is the least of greatest value is this one
  pub least_as : {R : ℕ → Bool} → LeastGreatest F G slots R → least ≡ tab slots R
  least_as {R} c = tab_unique false least slots R length_least (least_unique function c)
    where
      top : T.Greatest F G (has least)
      top = top_function least length_least least_greatest

      function : LeastGreatest F G slots (has least)
      function =
          record {
            greatest = top;
            least = λ Q e t l i.
                sym (get_d_tab slots Q false t l)
                ∙ least_within (tab slots Q) (length_tab slots Q)
                (function_top (tab slots Q) (length_tab slots Q) (top_cong _ _ (λ u m. sym (get_d_tab slots Q false u m)) (λ R. omega (arith, top R)))) t i;
          }
