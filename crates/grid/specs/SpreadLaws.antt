-- How a search spreads: one look, one sweep and one sweep after another. Assumes nothing.
use Rattle.std.specs.Prelude.{◌≡◌, refl, ◌≢◌, ◌⊎◌, List, ℕ, ◌+◌, ◌-◌, ◌≤◌, ◌<◌, set}
use Rattle.std.proofs.Common.{◌∙◌, inl, not-suc-le-zero, arith, below_more, length-set, get_or-set_same}
use Rattle.std.specs.Int.Bits.{bit_and}
use Rattle.common.specs.Bits.{bit}
use Rattle.grid.specs.Grid.{slots, at, load, Seen, Edge, Reach, here}
use Rattle.grid.specs.MarkLaws.{unmarked_set, unmarked_le, set_cases}
use Rattle.grid.specs.Search.{CanSweep, Looked, skip, mark, find, Spread, none, more, Swept, found, passed, CanSpread, Sought}
use Rattle.grid.specs.FrontLaws.{Front, y_number, some_number, mark_tree, front_spread, front_lost}

-- ---- `sweep`: its loop has looked at the slots below y

pub record Sweeping (F R H S₀ O₀ : List ℕ) (w₀ n₀ : ℕ) (S O : List ℕ) (w n y : ℕ) : Type 0 where
  pub within : y ≤ slots
  pub can : CanSweep F R H S O n
  pub spread : Spread F R H S₀ O₀ w₀ n₀ S O w n
  pub later : n₀ ≤ n
  pub quiet : n ≡ n₀ → (z : ℕ) → z < y → at S z ≡ 0 → bit_and w (at R z) ≡ 0

pub sweeping_start : {F R H S O : List ℕ} {w n : ℕ} → CanSweep F R H S O n → Sweeping F R H S O w n S O w n 0
sweeping_start c = record { within = omega arith; can = c; spread = none; later = omega arith; quiet = λ e z h. absurd (not-suc-le-zero h) }

pub sweeping_next :
    {F R H S₀ O₀ : List ℕ} {w₀ n₀ : ℕ} {S O : List ℕ} {w n y : ℕ} {S' O' : List ℕ} {w' n' e : ℕ} →
    Sweeping F R H S₀ O₀ w₀ n₀ S O w n y →
    y < slots →
    Looked F R H S O w n y S' O' w' n' e →
    slots ≤ e →
    Sweeping F R H S₀ O₀ w₀ n₀ S' O' w' n' (y + 1)
sweeping_next {R} {S} {w} {y} l h (skip q) k =
    record {
      within = omega arith;
      can = l.can;
      spread = l.spread;
      later = l.later;
      quiet = λ e. below_more (λ (z : ℕ). at S z ≡ 0 → bit_and w (at R z) ≡ 0) y (l.quiet e) q;
    }
sweeping_next {S} {O} {n} {y} l h (mark t f) k =
    let c = l.can in
    record {
      within = omega arith;
      can =
          record {
            fed = c.fed;
            rest = c.rest;
            highs = c.highs;
            marks = length-set S y 1 ∙ c.marks;
            orders = length-set O y (n + 1) ∙ c.orders;
            numbers = omega (arith, unmarked_set S y (omega (arith, c.marks)) t.new, c.numbers);
          };
      spread = more l.spread t f;
      later = omega (arith, l.later);
      quiet = λ e. absurd (omega (arith, l.later));
    }
sweeping_next l h (find t r) k = absurd (omega arith)

pub swept_found :
    {F R H S₀ O₀ : List ℕ} {w₀ n₀ : ℕ} {S O : List ℕ} {w n y : ℕ} {S' O' : List ℕ} {w' n' e : ℕ} →
    Sweeping F R H S₀ O₀ w₀ n₀ S O w n y →
    Looked F R H S O w n y S' O' w' n' e →
    e < slots →
    Swept F R H S₀ O₀ w₀ n₀ S' O' w' n' e
swept_found l (skip q) k = absurd (omega arith)
swept_found l (mark t f) k = absurd (omega arith)
swept_found l (find t r) k = found l.spread t r

pub swept_passed :
    {F R H S₀ O₀ : List ℕ} {w₀ n₀ : ℕ} {S O : List ℕ} {w n y : ℕ} →
    Sweeping F R H S₀ O₀ w₀ n₀ S O w n y →
    slots ≤ y →
    Swept F R H S₀ O₀ w₀ n₀ S O w n slots
swept_passed l h = passed l.spread (λ e z k. l.quiet e z (omega arith))

-- ---- `spread`

spread_later : {F R H S O : List ℕ} {w n : ℕ} {S' O' : List ℕ} {w' n' : ℕ} → Spread F R H S O w n S' O' w' n' → n ≤ n'
spread_later none = omega arith
spread_later (more s t h) = omega (arith, spread_later s)

spread_trans :
    {F R H S O : List ℕ} {w n : ℕ} {S₁ O₁ : List ℕ} {w₁ n₁ : ℕ} {S' O' : List ℕ} {w' n' : ℕ} →
    Spread F R H S O w n S₁ O₁ w₁ n₁ →
    Spread F R H S₁ O₁ w₁ n₁ S' O' w' n' →
    Spread F R H S O w n S' O' w' n'
spread_trans r none = r
spread_trans r (more s t h) = more (spread_trans r s) t h

-- one sweep more
pub spread_next :
    {F R H S O : List ℕ} {w n : ℕ} {S₁ O₁ : List ℕ} {w₁ n₁ : ℕ} {S' O' : List ℕ} {w' n' e : ℕ} →
    Spread F R H S O w n S₁ O₁ w₁ n₁ →
    Swept F R H S₁ O₁ w₁ n₁ S' O' w' n' e →
    slots ≤ e →
    Spread F R H S O w n S' O' w' n'
spread_next r (found s t h) k = absurd (omega (arith, t.slot))
spread_next r (passed s q) k = spread_trans r s

module _ {F R H S₀ O₀ : List ℕ} {x : ℕ} (p : CanSpread F R H S₀ O₀ x) where
  start_cases : (P : ℕ → ℕ → ℕ → Type 0) → P x 1 1 → ((u : ℕ) → u ≢ x → P u (at S₀ u) (at O₀ u)) → (u : ℕ) → P u (at (set S₀ x 1) u) (at (set O₀ x 1) u)
  start_cases = set_cases S₀ O₀ x 1 1 p.push.marks p.orders p.push.from

  x_number : at (set O₀ x 1) x ≡ 1
  x_number = get_or-set_same O₀ x 1 0 (omega (arith, p.orders, p.push.from))

  blank : {A : Type 0} (u : ℕ) → Seen O₀ u → A
  blank u q = absurd (omega (arith, p.blank u))

  pub front_start : Front F R H S₀ x (set S₀ x 1) (set O₀ x 1) (at F x) 1
  front_start =
      record {
        tree =
            record {
              marks = length-set S₀ x 1 ∙ p.push.marks;
              numbered =
                  record {
                    orders = length-set O₀ x 1 ∙ p.orders;
                    root = x_number;
                    first = start_cases (λ u a b. b ≡ 1 → u ≡ x) (λ e. refl) (λ u m e. blank u (omega arith));
                    parent =
                        start_cases
                        (λ u a b. 1 < b → (q : ℕ) × Seen (set O₀ x 1) q × (at (set O₀ x 1) q < b) × Edge F R q u)
                        (λ h. absurd (omega arith)) (λ u m h. blank u (omega arith));
                  };
              numbers =
                  omega (
                    arith,
                    unmarked_set S₀ x (omega (arith, p.push.marks, p.push.from)) p.push.new,
                    unmarked_le S₀,
                    p.push.marks,
                  );
              last = start_cases (λ u a b. b ≤ 1) (omega arith) (λ u m. omega (arith, p.blank u));
              grow = start_cases (λ u a b. Seen S₀ u → 0 < a) (λ q. omega arith) (λ u m q. q);
              new = start_cases (λ u a b. 0 < b → at S₀ u ≡ 0) (λ q. p.push.new) (λ u m. blank u);
              marked = start_cases (λ u a b. 0 < b → 0 < a) (λ q. omega arith) (λ u m. blank u);
              listed = start_cases (λ u a b. 0 < a → at S₀ u ≡ 0 → 0 < b) (λ q e. omega arith) (λ u m q e. absurd (omega arith));
              reach = start_cases (λ u a b. 0 < b → Reach F R x u) (λ q. here) (λ u m. blank u);
            };
        sound = λ k e. (x, omega (arith, x_number), e);
        complete =
            λ u k.
            start_cases (λ u a b. 0 < b → bit (at F u) k ≡ 1 → bit (at F x) k ≡ 1) (λ q e. e) (λ u m. blank u) u;
        full = start_cases (λ u a b. 0 < b → (u ≡ x) ⊎ (at H u ≤ load F u)) (λ q. inl refl) (λ u m. blank u);
      }

  module _ {S O : List ℕ} {w n : ℕ} (f : Front F R H S₀ x S O w n) where
    pub front_sweep : CanSweep F R H S O n
    front_sweep =
        record {
          fed = p.push.grid.fed;
          rest = p.push.grid.rest;
          highs = p.push.highs;
          marks = f.tree.marks;
          orders = f.tree.numbered.orders;
          numbers = f.tree.numbers;
        }

    -- a slot with room is found
    pub sought_found : {S' O' : List ℕ} {w' n' e : ℕ} → Swept F R H S O w n S' O' w' n' e → e < slots → Sought F R H S₀ S' O' x e
    sought_found (found s t r) k =
        let g = front_spread f s in
        let m = mark_tree g t in
        record {
          marks = m.marks;
          numbered = m.numbered;
          new = m.new;
          found = λ h. (omega (arith, y_number g t, some_number g t), r);
          lost = λ h. absurd (omega arith);
        }
    sought_found (passed s q) k = absurd (omega arith)

    -- a sweep marked nothing
    pub sought_lost : {S' O' : List ℕ} {w' n' e : ℕ} → Swept F R H S O w n S' O' w' n' e → slots ≤ e → n' ≡ n → Sought F R H S₀ S' O' x slots
    sought_lost (found s t r) k i = absurd (omega (arith, t.slot))
    sought_lost (passed s q) k i =
        let g = front_spread f s in
        record {
          marks = g.tree.marks;
          numbered = g.tree.numbered;
          new = g.tree.new;
          found = λ h. absurd (omega arith);
          lost = λ h. front_lost p.push.grid g (q i);
        }

    pub front_less : {S' O' : List ℕ} {w' n' e : ℕ} → Swept F R H S O w n S' O' w' n' e → slots ≤ e → n' ≢ n → slots - n' < slots - n
    front_less (found s t r) k i = absurd (omega (arith, t.slot))
    front_less (passed s q) k i = omega (arith, spread_later s, (front_spread f s).tree.numbers)
