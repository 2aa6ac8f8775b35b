-- A set of slots, the numbers of its slots in rising order, and the set again. Assumes nothing.
use Rattle.std.specs.Prelude.{◌≡◌, refl, Bool, true, false, cond, List, [], ◌∷◌, ◌++◌, map, ℕ, suc, ◌+◌, ◌<◌, eqb, length}
use Rattle.std.proofs.Common.{sym, ap, ap₂, ◌∙◌, arith, eq-eqb, ne_eqb}
use Rattle.common.specs.Lists.{range, count, any, flat_map}
use Rattle.common.specs.ListLaws.{length_from}
use Rattle.schedules.specs.Slots.{Slots, has}
use Rattle.plan_lines.specs.Lines.{line, members_from, member_lines}
use Rattle.planning.specs.ReadListing.{slot_set}
use Rattle.planning.proofs.ListLaws.{map_range_cong, flat_map_range_cong, flat_map_range_suc}

pub length_members_from : (t : ℕ) (q : Slots) → length (members_from t q) ≡ count q
unfolding members_from
length_members_from t [] = refl
length_members_from t (true ∷ q) = ap suc (length_members_from (suc t) q)
length_members_from t (false ∷ q) = length_members_from (suc t) q

-- the slots from t on are not before it
before_members : (t s : ℕ) (q : Slots) → t < s → any (eqb t) (members_from s q) ≡ false
unfolding members_from
before_members t s [] l = refl
before_members t s (true ∷ q) l = rw (ne_eqb t s (λ e. omega arith)) (before_members t (suc s) q (omega arith))
before_members t s (false ∷ q) l = before_members t (suc s) q (omega arith)

-- slot s, where b says whether it is in the set, before slots that come after it
slot_first : (s : ℕ) (b : Bool) (q : Slots) → any (eqb s) (cond b (s ∷ []) [] ++ members_from (suc s) q) ≡ b
slot_first s true q = rw (eq-eqb s s refl)
slot_first s false q = before_members s (suc s) q (omega arith)

slot_later : (s t : ℕ) (b : Bool) (ts : List ℕ) → s < t → any (eqb t) (cond b (s ∷ []) [] ++ ts) ≡ any (eqb t) ts
slot_later s t true ts l = rw (ne_eqb t s (λ e. omega arith))
slot_later s t false ts l = refl

members_set : (s : ℕ) (q : Slots) → map (λ t. any (eqb t) (members_from s q)) (range s (length q)) ≡ q
unfolding members_from
members_set s [] = refl
members_set s (b ∷ q) =
    ap₂ (λ (x : Bool) (xs : Slots). x ∷ xs) (slot_first s b q)
    (map_range_cong (suc s) (length q) (λ t l k. slot_later s t b (members_from (suc s) q) l) ∙ members_set (suc s) q)

-- The set of the slots that are listed for a set of the day's slots is that set.
pub length_slot_set : (slots : ℕ) (ts : List ℕ) → length (slot_set slots ts) ≡ slots
unfolding slot_set
length_slot_set slots ts = length_from (λ t. any (eqb t) ts) 1 slots

pub slot_set_members : (slots : ℕ) (q : Slots) → length q ≡ slots → slot_set slots (members_from 1 q) ≡ q
unfolding slot_set
slot_set_members slots q e = ap (λ n. map (λ t. any (eqb t) (members_from 1 q)) (range 1 n)) (sym e) ∙ members_set 1 q

-- slot by slot
members_from_lem : (s : ℕ) (q : Slots) → flat_map (λ t. cond (has q t) ((s + t) ∷ []) []) (range 0 (length q)) ≡ members_from s q
unfolding members_from
members_from_lem s [] = refl
members_from_lem s (b ∷ q) =
    ap₂ (λ (x y : List ℕ). x ++ y) (first b)
    (flat_map_range_suc (λ t. cond (has (b ∷ q) t) ((s + t) ∷ []) []) 0 (length q)
    ∙ flat_map_range_cong 0 (length q) (λ t l k. ap (λ n. cond (has q t) (n ∷ []) []) (next t)) ∙ members_from_lem (suc s) q)
  where
    first : (b : Bool) → cond b ((s + 0) ∷ []) [] ≡ cond b (s ∷ []) []
    first b = ap (λ n. cond b (n ∷ []) []) (omega arith)

    next : (t : ℕ) → s + suc t ≡ suc s + t
    next t = omega arith

pub members_from_slots : (slots : ℕ) (q : Slots) → length q ≡ slots → flat_map (λ t. cond (has q t) (suc t ∷ []) []) (range 0 slots) ≡ members_from 1 q
members_from_slots slots q e =
    ap (λ n. flat_map (λ t. cond (has q t) (suc t ∷ []) []) (range 0 n)) (sym e)
    ∙ flat_map_range_cong 0 (length q) (λ t l k. ap (λ n. cond (has q t) (n ∷ []) []) (next t)) ∙ members_from_lem 1 q
  where
    next : (t : ℕ) → suc t ≡ 1 + t
    next t = omega arith

-- The lines of a set have its slots as their first numbers.
pub slots_member_lines : (t : ℕ) (q : Slots) → map (λ l. l.a) (member_lines t q) ≡ members_from t q
unfolding member_lines
slots_member_lines t q = go (members_from t q)
  where
    go : (ts : List ℕ) → map (λ l. l.a) (map (λ u. line u 0 0 0) ts) ≡ ts
    go [] = refl
    go (u ∷ ts) = ap (λ l. u ∷ l) (go ts)
