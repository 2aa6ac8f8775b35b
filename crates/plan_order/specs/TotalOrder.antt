-- What it is for before, same and after to be a total order. Definitions only. Assumes nothing.
use Rattle.std.specs.Prelude.{◌⊎◌, ◌↔◌}

-- one of three, and no two of them
abbrev pub ExactlyOne : (A B C : Type 0) → Type 0
ExactlyOne A B C = (A ⊎ (B ⊎ C)) × (¬ (A × B)) × (¬ (A × C)) × (¬ (B × C))

pub record TotalOrder (A : Type 0) (before same after : A → A → Type 0) : Type 0 where
  pub exactly_one : (x y : A) → ExactlyOne (before x y) (same x y) (after x y)
  pub not_before_itself : (x : A) → ¬ before x x
  pub transitive : (x y z : A) → before x y → before y z → before x z
  -- one comes before the other exactly where the other comes after it
  pub turned : (x y : A) → before x y ↔ after y x
  pub same_transitive : (x y z : A) → same x y → same y z → same x z
  -- the same exactly when neither comes first
  pub same_where_neither : (x y : A) → same x y ↔ ((¬ before x y) × (¬ before y x))
