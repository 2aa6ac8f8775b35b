-- What one more column makes of a field: the laws of `extend` and of blanks, by which FieldLaws goes from column to column. Assumes nothing.
use Rattle.std.specs.Prelude.{◌≡◌, refl, Bool, true, false, ◌&&◌, cond, List, [], ◌∷◌, ◌++◌, ℕ, zero, suc, ◌+◌, ◌-◌, ◌*◌, ◌≤◌, ◌<◌, leb, eqb, length, replicate, Option, Some, None}
use Rattle.std.proofs.Common.{ap₂, arith, add-one, le-leb, leb-true, eqb-true, ne_eqb}
use Rattle.std.proofs.lemmas.List.{replicate-append-replicate}
use Rattle.std.proofs.lemmas.Bool.{eqb-false}
use Rattle.common.specs.Tests.{and_true}
use Rattle.line.specs.Layout.{blank}
use Rattle.line.specs.Field.{is_digit, digits, zero_alone, decimal, parse, digit, leading, columns}

-- One digit -------------------------------------------------------------------

pub is_digit_digit : (d : ℕ) → d < 10 → is_digit (digit d) ≡ true
unfolding is_digit
is_digit_digit d h = ap₂ ◌&&◌ (le-leb 48 (48 + d) (omega arith)) (le-leb (48 + d) 57 (omega arith))

pub digit_is_digit : (b : ℕ) → is_digit b ≡ true → (48 ≤ b) × (b ≤ 57)
unfolding is_digit
digit_is_digit b e =
    let h = and_true (leb 48 b) (leb b 57) e in
    (leb-true 48 b h.0, leb-true b 57 h.1)

-- nothing is no number
pub none≢some : {v : ℕ} → None ≡ Some v → ⊥
none≢some e = let n : ◌≡◌ {A = ℕ} 0 1 = cc in omega arith

-- One more column -------------------------------------------------------------

-- the field with one more byte after its last digit: nothing comes after a zero
unfoldable pub extend : Option ℕ → ℕ → Option ℕ
extend (Some zero) b = None
extend (Some (suc u)) b = cond (is_digit b) (Some (10 * suc u + (b - 48))) None
extend None b = None

-- every byte is a blank
unfoldable pub blanks : List ℕ → Bool
blanks [] = true
blanks (b ∷ bs) = eqb b blank && blanks bs

cond_extend : (t : Bool) (f g : Option ℕ) (b : ℕ) → g ≡ extend f b → cond t g None ≡ extend (cond t f None) b
unfolding extend
cond_extend true f g b e = e
cond_extend false f g b e = refl

pub digits_snoc : (v : ℕ) (bs : List ℕ) (b : ℕ) → 0 < v → digits v (bs ++ (b ∷ [])) ≡ extend (digits v bs) b
unfolding digits extend
digits_snoc zero [] b h = absurd (omega arith)
digits_snoc (suc v) [] b h = refl
digits_snoc v (c ∷ bs) b h =
    cond_extend (is_digit c) (digits (10 * v + (c - 48)) bs) (digits (10 * v + (c - 48)) (bs ++ (b ∷ []))) b (digits_snoc (10 * v + (c - 48)) bs b (omega arith))

zero_alone_snoc : (bs : List ℕ) (b : ℕ) → zero_alone (bs ++ (b ∷ [])) ≡ extend (zero_alone bs) b
unfolding zero_alone extend
zero_alone_snoc [] b = refl
zero_alone_snoc (c ∷ bs) b = refl

pub decimal_snoc : (c : ℕ) (bs : List ℕ) (b : ℕ) → decimal c (bs ++ (b ∷ [])) ≡ extend (decimal c bs) b
unfolding decimal extend
decimal_snoc c bs b = go (eqb c 48) (is_digit c) refl refl
  where
    go : (z d : Bool) → eqb c 48 ≡ z → is_digit c ≡ d
        → cond z (zero_alone (bs ++ (b ∷ []))) (cond d (digits (c - 48) (bs ++ (b ∷ []))) None)
        ≡ extend (cond z (zero_alone bs) (cond d (digits (c - 48) bs) None)) b
    go true d e i = zero_alone_snoc bs b
    go false false e i = refl
    go false true e i =
        let r = digit_is_digit c i in
        let n : c ≡ 48 → ⊥ = eqb-false c 48 e in
        digits_snoc (c - 48) bs b (omega arith)

pub parse_snoc : (bs : List ℕ) (b : ℕ) → parse (bs ++ (b ∷ [])) ≡ cond (blanks bs) (parse (b ∷ [])) (extend (parse bs) b)
unfolding parse blanks
parse_snoc [] b = refl
parse_snoc (c ∷ bs) b = go (eqb c blank) (parse_snoc bs b)
  where
    go : (t : Bool) → parse (bs ++ (b ∷ [])) ≡ cond (blanks bs) (parse (b ∷ [])) (extend (parse bs) b)
        → cond t (parse (bs ++ (b ∷ []))) (decimal c (bs ++ (b ∷ [])))
        ≡ cond (t && blanks bs) (parse (b ∷ [])) (extend (cond t (parse bs) (decimal c bs)) b)
    go true e = e
    go false e = decimal_snoc c bs b

-- Blanks ----------------------------------------------------------------------

pub blanks_faulty : (bs : List ℕ) → blanks bs ≡ true → parse bs ≡ None
unfolding parse blanks
blanks_faulty [] e = refl
blanks_faulty (b ∷ bs) e =
    let h = and_true (eqb b blank) (blanks bs) e in
    rw h.0 (blanks_faulty bs h.1)

pub blanks_replicate : (n : ℕ) → blanks (replicate n blank) ≡ true
unfolding blanks
blanks_replicate zero = refl
blanks_replicate (suc n) = blanks_replicate n

pub replicate_blanks : (bs : List ℕ) → blanks bs ≡ true → bs ≡ replicate (length bs) blank
unfolding blanks
replicate_blanks [] e = refl
replicate_blanks (b ∷ bs) e =
    let h = and_true (eqb b blank) (blanks bs) e in
    ap₂ (λ (x : ℕ) (xs : List ℕ). x ∷ xs) (eqb-true b blank h.0) (replicate_blanks bs h.1)

pub leading_zero : (n : ℕ) → leading n 0 ≡ replicate n blank
unfolding leading
leading_zero zero = refl
leading_zero (suc n) = rw (leading_zero n, replicate-append-replicate n 1 blank, add-one)

-- where a digit is left, the columns before it are those of a field
pub leading_columns : (n v : ℕ) → 0 < v → leading (suc n) v ≡ columns n v
unfolding leading columns
leading_columns n v h = rw (ne_eqb v 0 (omega arith))
