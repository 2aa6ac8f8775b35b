-- A field that is written is read back, and a field that is read is the one that is written, for any number of columns. Assumes nothing.
use Rattle.std.specs.Prelude.{◌≡◌, refl, ◌⊎◌, Bool, true, false, cond, List, [], ◌∷◌, ◌++◌, ℕ, zero, suc, ◌+◌, ◌-◌, ◌*◌, ◌/◌, ◌%◌, ◌^◌, ◌<◌, eqb, length, get_or, take, replicate, Option, Some, None}
use Rattle.std.proofs.Common.{sym, ap, ap₂, ◌∙◌, inl, inr, arith, add-one, mul_comm, pow-suc, length-append, take-suc, take_all, length-take-le, eqb-true, ne_eqb}
use Rattle.std.proofs.Math.Nat.{one-le-pow}
use Rattle.line.specs.Layout.{width, blank, newline}
use Rattle.line.specs.Field.{digits, zero_alone, decimal, parse, is_digit, digit, leading, columns, write_field}
use Rattle.line.specs.ColumnLaws.{is_digit_digit, digit_is_digit, none≢some, extend, blanks, parse_snoc, blanks_faulty, blanks_replicate, replicate_blanks, leading_zero, leading_columns}

-- Written, then read ------------------------------------------------------------

-- a digit alone, after blanks
parse_digit : (d : ℕ) → d < 10 → parse (digit d ∷ []) ≡ Some d
unfolding parse decimal digits zero_alone
parse_digit d h = rw (ne_eqb (48 + d) blank (omega arith), is_digit_digit d h) (go (eqb (48 + d) 48) refl)
  where
    go : (z : Bool) → eqb (48 + d) 48 ≡ z → cond z (Some 0) (Some (48 + d - 48)) ≡ Some d
    go true e = let z = eqb-true (48 + d) 48 e in ap Some (omega arith)
    go false e = ap Some (omega arith)

-- after the columns of u comes a digit
extend_digit : (u d : ℕ) → 0 < u → d < 10 → extend (Some u) (digit d) ≡ Some (10 * u + d)
unfolding extend
extend_digit zero d p h = absurd (omega arith)
extend_digit (suc u) d p h = rw (is_digit_digit d h) (ap Some (omega arith))

not_blanks : (bs : List ℕ) (u : ℕ) → parse bs ≡ Some u → blanks bs ≡ false
not_blanks bs u e = go (blanks bs) refl
  where
    go : (t : Bool) → blanks bs ≡ t → t ≡ false
    go true q = absurd (none≢some (sym (blanks_faulty bs q) ∙ e))
    go false q = refl

-- the columns that are left, then a digit
parse_last : (n q d : ℕ) → d < 10 → (0 < q → parse (leading n q) ≡ Some q) → parse (leading n q ++ (digit d ∷ [])) ≡ Some (10 * q + d)
parse_last n zero d h f =
    rw (leading_zero n, parse_snoc (replicate n blank) (48 + d), blanks_replicate n, parse_digit d h) (ap Some (omega arith))
parse_last n (suc u) d h f =
    let e : parse (leading n (suc u)) ≡ Some (suc u) = f (omega arith) in
    rw (parse_snoc (leading n (suc u)) (48 + d), not_blanks (leading n (suc u)) (suc u) e, e) (extend_digit (suc u) d (omega arith) h)

-- The field written for v in n + 1 columns is read as v.
pub parse_columns : (n v : ℕ) → v < 10 ^ suc n → parse (columns n v) ≡ Some v
unfolding columns
parse_columns zero v h = parse_last zero (v / 10) (v % 10) (omega arith) (λ p. absurd (omega arith)) ∙ ap Some (omega arith)
parse_columns (suc n) v h =
    parse_last (suc n) (v / 10) (v % 10) (omega arith) (λ p. rw (leading_columns n (v / 10) p) (parse_columns n (v / 10) (omega arith)))
    ∙ ap Some (omega arith)

-- Read, then written ------------------------------------------------------------

-- what the last column of a field that holds v tells: it is v's last digit, and the columns before it hold the others
pub record LastColumn (bs : List ℕ) (b v : ℕ) : Type 0 where
  pub byte : b ≡ digit (v % 10)
  pub before : ((v / 10 ≡ 0) × (blanks bs ≡ true)) ⊎ ((0 < v / 10) × (parse bs ≡ Some (v / 10)))

digit_parse : (b v : ℕ) → parse (b ∷ []) ≡ Some v → (b ≡ digit v) × (v < 10)
unfolding parse decimal digits zero_alone
digit_parse b v e = go (eqb b blank) (eqb b 48) (is_digit b) refl refl e
  where
    go : (t z d : Bool) → eqb b 48 ≡ z → is_digit b ≡ d → cond t None (cond z (Some 0) (cond d (Some (b - 48)) None)) ≡ Some v → (b ≡ digit v) × (v < 10)
    go true z d q i h = absurd (none≢some h)
    go false true d q i h =
        let n : v ≡ 0 = cc in
        let m = eqb-true b 48 q in
        omega arith
    go false false false q i h = absurd (none≢some h)
    go false false true q i h =
        let n : v ≡ b - 48 = cc in
        let r = digit_is_digit b i in
        omega arith

extend_value : (f : Option ℕ) (b v : ℕ) → extend f b ≡ Some v → (f ≡ Some (v / 10)) × (0 < v / 10) × (b ≡ digit (v % 10))
unfolding extend
extend_value None b v e = absurd (none≢some e)
extend_value (Some zero) b v e = absurd (none≢some e)
extend_value (Some (suc u)) b v e = go (is_digit b) refl e
  where
    go : (d : Bool) → is_digit b ≡ d → cond d (Some (10 * suc u + (b - 48))) None ≡ Some v → (Some (suc u) ≡ Some (v / 10)) × (0 < v / 10) × (b ≡ digit (v % 10))
    go false i h = absurd (none≢some h)
    go true i h =
        let n : v ≡ 10 * suc u + (b - 48) = cc in
        let r = digit_is_digit b i in
        (ap Some (omega arith), omega arith, omega arith)

pub parse_snoc_value : (bs : List ℕ) (b v : ℕ) → parse (bs ++ (b ∷ [])) ≡ Some v → LastColumn bs b v
parse_snoc_value bs b v e = go (blanks bs) refl (sym (parse_snoc bs b) ∙ e)
  where
    go : (t : Bool) → blanks bs ≡ t → cond t (parse (b ∷ [])) (extend (parse bs) b) ≡ Some v → LastColumn bs b v
    go true q h =
        let r = digit_parse b v h in
        record { byte = omega arith; before = inl (omega arith, q) }
    go false q h =
        let r = extend_value (parse bs) b v h in
        record { byte = r.2; before = inr (r.1, r.0) }

-- a list that is not empty, by its last element
pub snoc_of : (n : ℕ) (f : List ℕ) → length f ≡ suc n → f ≡ take n f ++ (get_or f n 0 ∷ [])
snoc_of n f l = sym (take_all (suc n) f (omega arith)) ∙ take-suc f n 0 (omega arith)

last_column : (n : ℕ) (f : List ℕ) (v : ℕ) → length f ≡ suc n → parse f ≡ Some v → LastColumn (take n f) (get_or f n 0) v
last_column n f v l e = parse_snoc_value (take n f) (get_or f n 0) v (ap parse (sym (snoc_of n f l)) ∙ e)

-- the columns before the last one, where they hold q
leading_parse : (n : ℕ) (bs : List ℕ) (q : ℕ) → length bs ≡ suc n → (parse bs ≡ Some q → bs ≡ columns n q)
    → ((q ≡ 0) × (blanks bs ≡ true)) ⊎ ((0 < q) × (parse bs ≡ Some q)) → bs ≡ leading (suc n) q
leading_parse n bs q l f (inl (z, e)) =
    replicate_blanks bs e ∙ ap (λ (k : ℕ). replicate k blank) l ∙ sym (leading_zero (suc n)) ∙ ap (leading (suc n)) (sym z)
leading_parse n bs q l f (inr (p, e)) = f e ∙ sym (leading_columns n q p)

columns_last : (n : ℕ) (f : List ℕ) (v : ℕ) → length f ≡ suc n → get_or f n 0 ≡ digit (v % 10) → take n f ≡ leading n (v / 10) → f ≡ columns n v
unfolding columns
columns_last n f v l b e = snoc_of n f l ∙ ap₂ (λ (bs : List ℕ) (c : ℕ). bs ++ (c ∷ [])) e b

-- A field of n + 1 columns that is read as v is the one written for v.
pub columns_parse : (n : ℕ) (f : List ℕ) (v : ℕ) → length f ≡ suc n → parse f ≡ Some v → f ≡ columns n v
unfolding leading
columns_parse zero f v l e = columns_last zero f v l (last_column zero f v l e).byte refl
columns_parse (suc n) f v l e =
    let c = last_column (suc n) f v l e in
    let k : length (take (suc n) f) ≡ suc n = length-take-le (suc n) f (omega arith) in
    columns_last
    (suc n)
    f
    v
    l
    c.byte
    (leading_parse n (take (suc n) f) (v / 10) k (columns_parse n (take (suc n) f) (v / 10) k) c.before)

-- What n + 1 columns hold has at most n + 1 digits.
pub parse_below : (n : ℕ) (f : List ℕ) (v : ℕ) → length f ≡ suc n → parse f ≡ Some v → v < 10 ^ suc n
unfolding parse
parse_below zero f v l e = go (last_column zero f v l e).before
  where
    go : ((v / 10 ≡ 0) × (blanks (take 0 f) ≡ true)) ⊎ ((0 < v / 10) × (parse (take 0 f) ≡ Some (v / 10))) → v < 10 ^ 1
    go (inl (z, b)) = omega (arith, z)
    go (inr (p, q)) = absurd (none≢some q)
parse_below (suc n) f v l e =
    go (last_column (suc n) f v l e).before (parse_below n (take (suc n) f) (v / 10) (length-take-le (suc n) f (omega arith)))
  where
    bs : List ℕ
    bs = take (suc n) f

    ten : 10 ^ suc (suc n) ≡ 10 * 10 ^ suc n
    ten = pow-suc 10 (suc n) ∙ mul_comm (10 ^ suc n) 10

    go : ((v / 10 ≡ 0) × (blanks bs ≡ true)) ⊎ ((0 < v / 10) × (parse bs ≡ Some (v / 10)))
        → (parse bs ≡ Some (v / 10) → v / 10 < 10 ^ suc n) → v < 10 ^ suc (suc n)
    go (inl (z, b)) h = omega (arith, z, ten, one-le-pow (suc n) 10 (omega arith))
    go (inr (p, q)) h = omega (arith, ten, h q)

-- The length of a field ----------------------------------------------------------

pub length_leading : (n v : ℕ) → length (leading n v) ≡ n
unfolding leading
length_leading zero v = refl
length_leading (suc n) v = simp (length-append, length_leading n (v / 10), add-one)

pub length_columns : (n v : ℕ) → length (columns n v) ≡ suc n
unfolding columns
length_columns n v = simp (length-append, length_leading n (v / 10), add-one)

-- Byte 10 -------------------------------------------------------------------------

-- no digit and no blank: what has byte 10 holds no number
digits_newline : (v : ℕ) (bs : List ℕ) (i : ℕ) → i < length bs → get_or bs i 0 ≡ newline → digits v bs ≡ None
unfolding digits is_digit
digits_newline v [] i l e = absurd (omega arith)
digits_newline v (b ∷ bs) zero l e = rw e refl
digits_newline v (b ∷ bs) (suc i) l e = go (is_digit b) (digits_newline (10 * v + (b - 48)) bs i (omega arith) e)
  where
    go : (d : Bool) → digits (10 * v + (b - 48)) bs ≡ None → cond d (digits (10 * v + (b - 48)) bs) None ≡ None
    go true h = h
    go false h = refl

decimal_newline : (b : ℕ) (bs : List ℕ) (i : ℕ) → i < length bs → get_or bs i 0 ≡ newline → decimal b bs ≡ None
unfolding decimal zero_alone
decimal_newline b [] i l e = absurd (omega arith)
decimal_newline b (c ∷ bs) i l e = go (eqb b 48) (is_digit b) (digits_newline (b - 48) (c ∷ bs) i l e)
  where
    go : (z d : Bool) → digits (b - 48) (c ∷ bs) ≡ None → cond z None (cond d (digits (b - 48) (c ∷ bs)) None) ≡ None
    go true d h = refl
    go false true h = h
    go false false h = refl

pub parse_newline : (bs : List ℕ) (i : ℕ) → i < length bs → get_or bs i 0 ≡ newline → parse bs ≡ None
unfolding parse decimal is_digit
parse_newline [] i l e = absurd (omega arith)
parse_newline (b ∷ bs) zero l e = rw e refl
parse_newline (b ∷ bs) (suc i) l e = go (eqb b blank) (parse_newline bs i (omega arith) e) (decimal_newline b bs i (omega arith) e)
  where
    go : (t : Bool) → parse bs ≡ None → decimal b bs ≡ None → cond t (parse bs) (decimal b bs) ≡ None
    go true h k = h
    go false h k = k

-- At the width of a line's field ---------------------------------------------------

pub parse_write_field : (v : ℕ) → v < 10 ^ width → parse (write_field v) ≡ Some v
unfolding write_field
parse_write_field v h = parse_columns (width - 1) v h

pub write_field_parse : (f : List ℕ) (v : ℕ) → length f ≡ width → parse f ≡ Some v → f ≡ write_field v
unfolding write_field
write_field_parse f v l e = columns_parse (width - 1) f v l e

pub parse_fits : (f : List ℕ) (v : ℕ) → length f ≡ width → parse f ≡ Some v → v < 10 ^ width
parse_fits f v l e = parse_below (width - 1) f v l e

pub length_write_field : (v : ℕ) → length (write_field v) ≡ width
unfolding write_field
length_write_field v = length_columns (width - 1) v
