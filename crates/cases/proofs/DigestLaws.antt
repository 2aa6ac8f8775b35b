-- The digest, an element at a time. Assumes nothing.
use Rattle.std.proofs.Common.{◌≡◌, ◌<◌, ◌+◌, ◌*◌, ◌%◌, ℕ, List, length, get_or, drop, sym, ◌∙◌, ap}
use Rattle.std.proofs.lemmas.List.{at_drop_more}
use Rattle.std.proofs.lemmas.Nat.{mul-mod}
use Rattle.std.proofs.Math.Nat.{mod-add-mod}
use Rattle.cases.specs.Buffers.{digest_after}

-- the remainder may be taken before
rest_before : (h r : ℕ) → (h % 65521 * 31 + r) % 65521 ≡ (h * 31 + r) % 65521
rest_before h r =
    sym (mod-add-mod (h % 65521 * 31) 65521 r) ∙ ap (λ z. (z + r) % 65521) (sym (mul-mod h 31 65521)) ∙ mod-add-mod (h * 31) 65521 r

-- one element more is in the digest
pub digest_step : {X : Type 0} (remainder : X → ℕ) (h r : ℕ) (x : X) (xs : List X) (i : ℕ) → i < length xs → x ≡ get_or xs i x → r ≡ remainder x
    → digest_after remainder ((h % 65521 * 31 + r) % 65521) (drop (i + 1) xs) ≡ digest_after remainder h (drop i xs)
digest_step remainder h r x xs i within read same =
    ap (λ d. digest_after remainder d (drop (i + 1) xs)) (rest_before h r ∙ ap (λ z. (h * 31 + z) % 65521) (same ∙ ap remainder read))
    ∙ sym (at_drop_more (digest_after remainder h) xs i x within)
