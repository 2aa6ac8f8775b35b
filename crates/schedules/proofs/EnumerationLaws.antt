-- The enumerations list exactly what they say: `choices` all sets of n slots of a window, `schedules` all placings that serve each demand,
-- `subsets` all sets of the day's slots. Assumes nothing.
use Rattle.std.specs.Prelude.{◌≡◌, refl, ◌↔◌, Bool, true, false, ℕ, zero, suc, ◌<◌, length, get_or}
use Rattle.std.proofs.Common.{sym, ap, subst, ⊎_elim, arith}
use Rattle.std.proofs.lemmas.Bool.{false≢true}
use mathlib.Core.List.Memᴰ
use mathlib.Core.List.{List, [], ◌∷◌, map, Memᴰ}
use Rattle.std.proofs.Math.Nat.{suc_inj}
use Rattle.common.specs.Lists.{count}
use Rattle.schedules.specs.Slots.{Slots, has, subsets}
use Rattle.schedules.specs.Schedules.{Demand, Schedule, Chosen, window_of, volume_of, choices, schedules}
use Rattle.schedules.proofs.ListLaws.{in_flat_map, to_flat_map}

-- what holds of each f a holds of each member of the mapped list
via_map : {A B : Type 0} (P : B → Type 0) (f : A → B) (l : List A) → ((a : A) → Memᴰ a l → P (f a)) → (b : B) → Memᴰ b (map f l) → P b
via_map P f l h b k = let w = Memᴰ.of_map f l k in subst P w.2 (h w.0 w.1)

-- Sets of n slots of a window -------------------------------------------------

chosen_skip : (b : Bool) (e : Slots) (n : ℕ) (c : Slots) → Chosen e n c → Chosen (b ∷ e) n (false ∷ c)
chosen_skip b e n c h = record { same_day = ap suc h.same_day; exactly = h.exactly; in_window = go }
  where
    go : (t : ℕ) → has (false ∷ c) t ≡ true → has (b ∷ e) t ≡ true
    go zero q = absurd (false≢true q)
    go (suc t) q = h.in_window t q

chosen_take : (e : Slots) (n : ℕ) (c : Slots) → Chosen e n c → Chosen (true ∷ e) (suc n) (true ∷ c)
chosen_take e n c h = record { same_day = ap suc h.same_day; exactly = ap suc h.exactly; in_window = go }
  where
    go : (t : ℕ) → has (true ∷ c) t ≡ true → has (true ∷ e) t ≡ true
    go zero q = refl
    go (suc t) q = h.in_window t q

choices_chosen : (e : Slots) (n : ℕ) (c : Slots) → Memᴰ c (choices e n) → Chosen e n c
unfolding choices
choices_chosen [] zero c k =
    subst (Chosen [] zero) (sym (Memᴰ.eq_of_singleton k)) (record { same_day = refl; exactly = refl; in_window = λ t q. q })
choices_chosen [] (suc n) c k = absurd (Memᴰ.not-nil k)
choices_chosen (false ∷ e) n c k =
    via_map (Chosen (false ∷ e) n) (λ c. false ∷ c) (choices e n) (λ a i. chosen_skip false e n a (choices_chosen e n a i)) c k
choices_chosen (true ∷ e) zero c k =
    via_map (Chosen (true ∷ e) zero) (λ c. false ∷ c) (choices e zero) (λ a i. chosen_skip true e zero a (choices_chosen e zero a i)) c k
choices_chosen (true ∷ e) (suc n) c k =
    ⊎_elim
    (via_map (Chosen (true ∷ e) (suc n)) (λ c. true ∷ c) (choices e n) (λ a i. chosen_take e n a (choices_chosen e n a i)) c)
    (via_map (Chosen (true ∷ e) (suc n)) (λ c. false ∷ c) (choices e (suc n)) (λ a i. chosen_skip true e (suc n) a (choices_chosen e (suc n) a i)) c)
    (Memᴰ.append_cases (map (λ c. true ∷ c) (choices e n)) k)

skip_choices : (b : Bool) (e : Slots) (n : ℕ) (c : Slots) → Memᴰ c (choices e n) → Memᴰ (false ∷ c) (choices (b ∷ e) n)
unfolding choices
skip_choices false e n c k = Memᴰ.map (λ c. false ∷ c) k
skip_choices true e zero c k = Memᴰ.map (λ c. false ∷ c) k
skip_choices true e (suc n) c k = Memᴰ.append_right (map (λ c. true ∷ c) (choices e n)) (Memᴰ.map (λ c. false ∷ c) k)

set_choices : (e c : Slots) → length c ≡ length e → ((t : ℕ) → has c t ≡ true → has e t ≡ true) → Memᴰ c (choices e (count c))
unfolding choices
set_choices [] [] q u = Memᴰ.head refl
set_choices [] (b ∷ c) q u = absurd (omega arith)
set_choices (b ∷ e) [] q u = absurd (omega arith)
set_choices (b ∷ e) (false ∷ c) q u = skip_choices b e (count c) c (set_choices e c (suc_inj q) (λ t. u (suc t)))
set_choices (true ∷ e) (true ∷ c) q u =
    Memᴰ.append_left (map (λ c. false ∷ c) (choices e (suc (count c)))) (Memᴰ.map (λ c. true ∷ c) (set_choices e c (suc_inj q) (λ t. u (suc t))))
set_choices (false ∷ e) (true ∷ c) q u = absurd (false≢true (u zero refl))

pub choices_mem : (e : Slots) (n : ℕ) (c : Slots) → Memᴰ c (choices e n) ↔ Chosen e n c
choices_mem e n c = (choices_chosen e n c, λ h. rw h.exactly at (set_choices e c h.same_day h.in_window))

-- Placings --------------------------------------------------------------------

-- p has for each demand a set of exactly its volume of slots of its window
pub record Served (ds : List Demand) (p : Schedule) : Type 0 where
  pub for_each : length p ≡ length ds
  pub served : (j : ℕ) → j < length ds → Chosen (window_of ds j) (volume_of ds j) (get_or p j [])

served_cons : (d : Demand) (ds : List Demand) (c : Slots) (p : Schedule) → Chosen d.window d.volume c → Served ds p → Served (d ∷ ds) (c ∷ p)
served_cons d ds c p h s = record { for_each = ap suc s.for_each; served = go }
  where
    go : (j : ℕ) → j < suc (length ds) → Chosen (window_of (d ∷ ds) j) (volume_of (d ∷ ds) j) (get_or (c ∷ p) j [])
    go zero l = h
    go (suc j) l = s.served j (omega arith)

schedules_served : (ds : List Demand) (p : Schedule) → Memᴰ p (schedules ds) → Served ds p
unfolding schedules
schedules_served [] p k =
    subst (Served []) (sym (Memᴰ.eq_of_singleton k)) (record { for_each = refl; served = λ j l. absurd (omega arith) })
schedules_served (d ∷ ds) p k =
    let r = in_flat_map (λ c. map (λ p. c ∷ p) (schedules ds)) (choices d.window d.volume) k in
    via_map (Served (d ∷ ds)) (λ p. r.0 ∷ p) (schedules ds)
    (λ q i. served_cons d ds r.0 q (choices_chosen d.window d.volume r.0 r.1) (schedules_served ds q i)) p r.2

served_schedules : (ds : List Demand) (p : Schedule) → Served ds p → Memᴰ p (schedules ds)
unfolding schedules
served_schedules [] [] s = Memᴰ.head refl
served_schedules [] (c ∷ p) s = absurd (omega (arith, s.for_each))
served_schedules (d ∷ ds) [] s = absurd (omega (arith, s.for_each))
served_schedules (d ∷ ds) (c ∷ p) s =
    to_flat_map (λ c. map (λ p. c ∷ p) (schedules ds)) ((choices_mem d.window d.volume c).1 (s.served zero (omega arith)))
    (Memᴰ.map (λ p. c ∷ p)
    (served_schedules ds p (record { for_each = suc_inj s.for_each; served = λ j l. s.served (suc j) (omega arith) })))

pub schedules_mem : (ds : List Demand) (p : Schedule) → Memᴰ p (schedules ds) ↔ Served ds p
schedules_mem ds p = (schedules_served ds p, served_schedules ds p)

-- Sets of the day's slots -----------------------------------------------------

subsets_length : (slots : ℕ) (q : Slots) → Memᴰ q (subsets slots) → length q ≡ slots
unfolding subsets
subsets_length zero q k = ap length (Memᴰ.eq_of_singleton k)
subsets_length (suc slots) q k =
    ⊎_elim
    (via_map (λ q. length q ≡ suc slots) (λ q. true ∷ q) (subsets slots) (λ a i. ap suc (subsets_length slots a i)) q)
    (via_map (λ q. length q ≡ suc slots) (λ q. false ∷ q) (subsets slots) (λ a i. ap suc (subsets_length slots a i)) q)
    (Memᴰ.append_cases (map (λ q. true ∷ q) (subsets slots)) k)

length_subsets : (slots : ℕ) (q : Slots) → length q ≡ slots → Memᴰ q (subsets slots)
unfolding subsets
length_subsets zero [] e = Memᴰ.head refl
length_subsets zero (b ∷ q) e = absurd (omega arith)
length_subsets (suc slots) [] e = absurd (omega arith)
length_subsets (suc slots) (true ∷ q) e =
    Memᴰ.append_left (map (λ q. false ∷ q) (subsets slots)) (Memᴰ.map (λ q. true ∷ q) (length_subsets slots q (suc_inj e)))
length_subsets (suc slots) (false ∷ q) e =
    Memᴰ.append_right (map (λ q. true ∷ q) (subsets slots)) (Memᴰ.map (λ q. false ∷ q) (length_subsets slots q (suc_inj e)))

pub subsets_mem : (slots : ℕ) (q : Slots) → Memᴰ q (subsets slots) ↔ (length q ≡ slots)
subsets_mem slots q = (subsets_length slots q, length_subsets slots q)
