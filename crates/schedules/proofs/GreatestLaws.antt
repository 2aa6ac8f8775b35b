-- The slots that are in every set of greatest value: they are a set of greatest value themselves where two such sets have one in common.
-- A value is a difference f q − g q of two numbers of the set. Assumes nothing.
use Rattle.std.specs.Prelude.{◌≡◌, ◌↔◌, ◌⊎◌, Bool, true, false, ◌&&◌, ℕ, ◌+◌, ◌≤◌, ◌<◌, length, replicate, ℤ}
use Rattle.std.proofs.Math.Path.{refl}
use Rattle.std.proofs.Common.{sym, ◌∙◌, ap, subst, inl, inr, arith, ext_get_or}
use mathlib.Core.List.Memᴰ
use mathlib.Core.List.{List, [], ◌∷◌, foldr, Memᴰ}
use Rattle.std.proofs.Math.Decide.{dec_le}
use Rattle.std.proofs.lemmas.List.{length-replicate, get_or-replicate}
use Rattle.std.proofs.Math.IntN.{sub_ℕ}
use Rattle.std.specs.Int.Signed.{le_z}
use Rattle.common.specs.Lists.{keep}
use Rattle.common.specs.Tests.{and_true}
use Rattle.schedules.specs.Slots.{Slots, has, subsets, meet}
use Rattle.schedules.specs.Shortfall.{greatest, in_every_greatest}
use Rattle.schedules.proofs.ListLaws.{in_every, to_every, in_keep, to_keep}
use Rattle.schedules.specs.Tabulate.{length_zip_with, get_d_zip_with, has_below}
use Rattle.schedules.proofs.Differences.{le_z_sub}
use Rattle.schedules.proofs.EnumerationLaws.{subsets_mem}

-- What sets have in common ----------------------------------------------------

pub length_meet : {slots : ℕ} (a b : Slots) → length a ≡ slots → length b ≡ slots → length (meet a b) ≡ slots
length_meet a b p q = length_zip_with ◌&&◌ a b p q

pub has_meet : {slots : ℕ} (a b : Slots) → length a ≡ slots → length b ≡ slots → (t : ℕ) → t < slots → has (meet a b) t ≡ (has a t && has b t)
has_meet a b p q t l = get_d_zip_with ◌&&◌ a b false false false t (rw p l) (rw q l)

module _ (slots : ℕ) where
  -- a set and the whole day
  meet_all : (a : Slots) → length a ≡ slots → meet a (replicate slots true) ≡ a
  meet_all a p =
      ext_get_or false (meet a (replicate slots true)) a (length_meet a (replicate slots true) p (length-replicate slots true) ∙ sym p)
      (λ t l. let k : t < slots = rw (length_meet a (replicate slots true) p (length-replicate slots true)) at l in
      has_meet a (replicate slots true) p (length-replicate slots true) t k ∙ ap (λ b. has a t && b) (get_or-replicate slots t true false k) ∙ and_itself (has a t))
    where
      and_itself : (b : Bool) → (b && true) ≡ b
      and_itself true = refl
      and_itself false = refl

  abbrev common : List Slots → Slots
  common qs = foldr meet (replicate slots true) qs

  abbrev Sized : List Slots → Type 0
  Sized qs = (q : Slots) → Memᴰ q qs → length q ≡ slots

  length_common : (qs : List Slots) → Sized qs → length (common qs) ≡ slots
  length_common [] h = length-replicate slots true
  length_common (q ∷ qs) h = length_meet q (common qs) (h q (Memᴰ.head refl)) (length_common qs (λ r i. h r (Memᴰ.tail i)))

  common_in : (qs : List Slots) → Sized qs → (q : Slots) → Memᴰ q qs → (t : ℕ) → t < slots → has (common qs) t ≡ true → has q t ≡ true
  common_in [] h q m t l e = absurd (Memᴰ.not-nil m)
  common_in (r ∷ qs) h q m t l e = go (Memᴰ.cases_cons m) (common_in qs (λ r i. h r (Memᴰ.tail i)) q)
    where
      both : (has r t ≡ true) × (has (common qs) t ≡ true)
      both =
          and_true (has r t) (has (common qs) t)
          (sym (has_meet r (common qs) (h r (Memᴰ.head refl)) (length_common qs (λ r i. h r (Memᴰ.tail i))) t l) ∙ e)

      go : (q ≡ r) ⊎ Memᴰ q qs → (Memᴰ q qs → (t : ℕ) → t < slots → has (common qs) t ≡ true → has q t ≡ true) → has q t ≡ true
      go (inl p) ih = rw p both.0
      go (inr i) ih = ih i t l both.1

  -- what is kept by `meet` holds of what the members of a list that is not empty have in common
  common_keeps : (P : Slots → Type 0) → ((a b : Slots) → length a ≡ slots → length b ≡ slots → P a → P b → P (meet a b))
      → (q : Slots) (qs : List Slots) → Sized (q ∷ qs) → ((r : Slots) → Memᴰ r (q ∷ qs) → P r) → P (common (q ∷ qs))
  common_keeps P k q [] h f = subst P (sym (meet_all q (h q (Memᴰ.head refl)))) (f q (Memᴰ.head refl))
  common_keeps P k q (r ∷ qs) h f =
      k q (common (r ∷ qs)) (h q (Memᴰ.head refl)) (length_common (r ∷ qs) (λ s i. h s (Memᴰ.tail i)))
      (f q (Memᴰ.head refl)) (common_keeps P k r qs (λ s i. h s (Memᴰ.tail i)) (λ s i. f s (Memᴰ.tail i)))

-- Sets of greatest value ------------------------------------------------------

module _ (slots : ℕ) (f g : Slots → ℕ) where
  abbrev value : Slots → ℤ
  value q = sub_ℕ (f q) (g q)

  -- no set of the day's slots has a greater value
  abbrev pub Greatest : Slots → Type 0
  Greatest q = (r : Slots) → length r ≡ slots → f r + g q ≤ f q + g r

  pub greatest_iff : (q : Slots) → (greatest slots value q ≡ true) ↔ Greatest q
  unfolding greatest
  greatest_iff q = (
    λ e r l. (le_z_sub (f r) (g r) (f q) (g q)).0 (in_every (λ r. le_z (value r) (value q)) e ((subsets_mem slots r).1 l)),
    λ h. to_every (λ r. le_z (value r) (value q)) (subsets slots) (λ r i. (le_z_sub (f r) (g r) (f q) (g q)).1 (h r ((subsets_mem slots r).0 i))),
  )

  -- one of the sets has the greatest value
  best : (q : Slots) (qs : List Slots) → (r : Slots) × Memᴰ r (q ∷ qs) × ((s : Slots) → Memᴰ s (q ∷ qs) → f s + g r ≤ f r + g s)
  best q [] = (q, Memᴰ.head refl, λ s i. go s (Memᴰ.cases_cons i))
    where
      go : (s : Slots) → (s ≡ q) ⊎ Memᴰ s [] → f s + g q ≤ f q + g s
      go s (inl p) = rw p (omega arith)
      go s (inr i) = absurd (Memᴰ.not-nil i)
  best q (r ∷ qs) = go (best r qs)
    where
      go : (b : Slots) × Memᴰ b (r ∷ qs) × ((s : Slots) → Memᴰ s (r ∷ qs) → f s + g b ≤ f b + g s)
          → (b : Slots) × Memᴰ b (q ∷ r ∷ qs) × ((s : Slots) → Memᴰ s (q ∷ r ∷ qs) → f s + g b ≤ f b + g s)
      go (b, i, h) = at (dec_le (f q + g b) (f b + g q))
        where
          at : Dec (f q + g b ≤ f b + g q)
              → (b : Slots) × Memᴰ b (q ∷ r ∷ qs) × ((s : Slots) → Memᴰ s (q ∷ r ∷ qs) → f s + g b ≤ f b + g s)
          at (yes k) = (b, Memᴰ.tail i, λ s m. by s (Memᴰ.cases_cons m))
            where
              by : (s : Slots) → (s ≡ q) ⊎ Memᴰ s (r ∷ qs) → f s + g b ≤ f b + g s
              by s (inl p) = rw p k
              by s (inr m) = h s m
          at (no k) = (q, Memᴰ.head refl, λ s m. by s (Memᴰ.cases_cons m))
            where
              by : (s : Slots) → (s ≡ q) ⊎ Memᴰ s (r ∷ qs) → f s + g q ≤ f q + g s
              by s (inl p) = rw p (omega arith)
              by s (inr m) = omega (arith, h s m)

  some_greatest : (q : Slots) × (length q ≡ slots) × Greatest q
  some_greatest = go (subsets slots) refl
    where
      go : (l : List Slots) → subsets slots ≡ l → (q : Slots) × (length q ≡ slots) × Greatest q
      go [] e = absurd (Memᴰ.not-nil (rw e at ((subsets_mem slots (replicate slots false)).1 (length-replicate slots false))))
      go (q ∷ qs) e =
          let b = best q qs in
          (b.0, (subsets_mem slots b.0).0 (rw e b.1), λ r l. b.2 r (rw e at ((subsets_mem slots r).1 l)))

  abbrev tops : List Slots
  tops = keep (greatest slots value) (subsets slots)

  tops_sized : (q : Slots) → Memᴰ q tops → length q ≡ slots
  tops_sized q i = (subsets_mem slots q).0 (in_keep (greatest slots value) (subsets slots) i).0

  tops_greatest : (q : Slots) → Memᴰ q tops → Greatest q
  tops_greatest q i = (greatest_iff q).0 (in_keep (greatest slots value) (subsets slots) i).1

  in_tops : (q : Slots) → length q ≡ slots → Greatest q → Memᴰ q tops
  in_tops q l h = to_keep (greatest slots value) ((subsets_mem slots q).1 l) ((greatest_iff q).1 h)

  pub length_in_every_greatest : length (in_every_greatest slots value) ≡ slots
  unfolding in_every_greatest
  length_in_every_greatest = length_common slots tops tops_sized

  pub in_every_greatest_in : (q : Slots) → length q ≡ slots → Greatest q → (t : ℕ) → has (in_every_greatest slots value) t ≡ true → has q t ≡ true
  unfolding in_every_greatest
  in_every_greatest_in q l h t e =
      common_in slots tops tops_sized q (in_tops q l h) t (rw (length_common slots tops tops_sized) at (has_below (common slots tops) t e)) e

  pub in_every_greatest_greatest : ((a b : Slots) → length a ≡ slots → length b ≡ slots → Greatest a → Greatest b → Greatest (meet a b))
      → Greatest (in_every_greatest slots value)
  unfolding in_every_greatest
  in_every_greatest_greatest k = go tops refl
    where
      go : (l : List Slots) → tops ≡ l → Greatest (common slots l)
      go [] e = let b = some_greatest in absurd (Memᴰ.not-nil (rw e at (in_tops b.0 b.1 b.2)))
      go (q ∷ qs) e = common_keeps slots Greatest k q qs (λ r i. tops_sized r (rw e i)) (λ r i. tops_greatest r (rw e i))
