-- A sound placing of a day that contains the kept feedings and no others before slot c is a sound placing of the rest,
-- with the kept feedings; so one exists exactly where the rest has one. Assumes nothing.
use Rattle.std.specs.Prelude.{◌≡◌, ◌↔◌, ◌⊎◌, Bool, ◌&&◌, ◌||◌, ℕ, zero, suc, ◌+◌, ◌-◌, ◌≤◌, ◌<◌, replicate}
use Rattle.std.proofs.Math.Path.{refl, sym, ap, subst}
use Rattle.std.proofs.Common.{◌∙◌, inl, inr, leb-true, leb-false, le-leb}
use Rattle.std.proofs.Math.Bool.{true, false, cond}
use Rattle.std.proofs.lemmas.Bool.{false≢true}
use mathlib.Core.List.{List, [], ◌∷◌}
use native.Mathlib.Omega.{arith}
use Rattle.std.proofs.Math.Dec.{leb}
use Rattle.std.proofs.Math.ListN.{length, get_or, get_or-replicate}
use Rattle.common.specs.Lists.{count}
use Rattle.common.specs.Tests.{and_true, or_true, false_of_not_true}
use Rattle.theory.specs.Sums.{sum, sum_cong, sum_split, sum_zero}
use Rattle.theory.specs.SumsOver.{one}
use Rattle.theory.specs.Placing as F
use Rattle.theory.specs.Placing.{size}
use Rattle.schedules.specs.Slots.{Slots, has}
use Rattle.schedules.specs.Schedules.{Demand, Schedule, Sound, Windows, no_demand, window_of, volume_of, load}
use Rattle.schedules.specs.Tabulate.{tab, length_tab, get_d_tab, tab_unique, count_size, count_tab, has_below}
use Rattle.schedules.specs.AsFunctions.{fed, free, listed, BoundedBy}
use Rattle.schedules.proofs.AsFunctions.{load_as, sound_bounded, bounded_sound}
use Rattle.schedules.specs.Rest.{rest_of, rest_demands, rest_high, KeptBefore, SameBefore, together, no_feedings}

-- a placing's feedings from slot c on
unfoldable pub later_part : (slots c rations : ℕ) → Schedule → Schedule
later_part slots c rations p = listed rations slots (λ j t. leb c (suc t) && fed p j t)

pub length_rest_demands : (slots c : ℕ) (ds : List Demand) (kept : Schedule) → length (rest_demands slots c ds kept) ≡ length ds
unfolding rest_demands
length_rest_demands slots c ds kept = length_tab (length ds) _

pub length_rest_high : (slots c : ℕ) (high : List ℕ) → length (rest_high slots c high) ≡ slots
unfolding rest_high
length_rest_high slots c high = length_tab slots _

module _ (slots c : ℕ) (ds : List Demand) (kept : Schedule) (j : ℕ) (l : j < length ds) where
  rest_at : get_or (rest_demands slots c ds kept) j no_demand ≡ rest_of slots c (get_or ds j no_demand) (get_or kept j [])
  unfolding rest_demands
  rest_at = get_d_tab (length ds) (λ j. rest_of slots c (get_or ds j no_demand) (get_or kept j [])) no_demand j l

  pub window_of_rest : window_of (rest_demands slots c ds kept) j ≡ tab slots (λ t. leb c (suc t) && has (window_of ds j) t)
  window_of_rest = ap (λ (d : Demand). d.window) rest_at

  pub volume_of_rest : volume_of (rest_demands slots c ds kept) j ≡ volume_of ds j - count (get_or kept j [])
  volume_of_rest = ap (λ (d : Demand). d.volume) rest_at

  free_rest : (t : ℕ) → t < slots → free (rest_demands slots c ds kept) j t ≡ (leb c (suc t) && free ds j t)
  free_rest t k = ap (λ (e : Slots). has e t) window_of_rest ∙ get_d_tab slots (λ t. leb c (suc t) && has (window_of ds j) t) false t k

pub windows_rest : (slots c : ℕ) (ds : List Demand) (kept : Schedule) → Windows slots (rest_demands slots c ds kept)
windows_rest slots c ds kept =
    record { all_day = λ j l. ap length (window_of_rest slots c ds kept j (rw (length_rest_demands slots c ds kept) at l)) ∙ length_tab slots _ }

one_both : (a b : Bool) → (a ≡ true → b ≡ true → ⊥) → one (a || b) ≡ one a + one b
one_both true true h = absurd (h refl refl)
one_both true false h = omega arith
one_both false b h = omega arith

module _ {slots c : ℕ} {ds : List Demand} {high : List ℕ} {kept : Schedule} (w : Windows slots ds) (m : KeptBefore slots c ds high kept) where
  abbrev n : ℕ
  n = length ds

  abbrev rest : List Demand
  rest = rest_demands slots c ds kept

  abbrev zeros : List ℕ
  zeros = replicate slots 0

  kept_volume : (j : ℕ) → j < n → size slots (fed kept j) ≡ count (get_or kept j [])
  kept_volume j l = ap (λ d. size d (fed kept j)) (sym (m.rows j l)) ∙ sym (count_size (get_or kept j []))

  kept_none : (j t : ℕ) → leb c (suc t) ≡ true → fed kept j t ≡ false
  kept_none j t e = go (fed kept j t) refl
    where
      go : (x : Bool) → fed kept j t ≡ x → x ≡ false
      go true q = absurd (omega (arith, m.before j t q, leb-true c (suc t) e))
      go false q = refl

  kept_load : (t : ℕ) → t < slots → get_or (load slots kept) t 0 ≡ F.count n (fed kept) t
  kept_load t l = load_as kept (λ j k. m.rows j (rw m.for_each at k)) t l ∙ ap (λ i. F.count i (fed kept) t) m.for_each

  high_at : (t : ℕ) → t < slots → get_or (rest_high slots c high) t 0 ≡ cond (leb c (suc t)) (get_or high t 0) 0
  unfolding rest_high
  high_at t l = get_d_tab slots (λ t. cond (leb c (suc t)) (get_or high t 0) 0) 0 t l

  -- The later part of a placing --------------------------------------------------

  module _ (p : Schedule) (s : Sound slots ds zeros high p) (same : SameBefore slots c n kept p) where
    parts : (j t : ℕ) → j < n → t < slots → one (fed p j t) ≡ one (fed kept j t) + one (leb c (suc t) && fed p j t)
    parts j t l k = go (leb c (suc t)) refl
      where
        go : (x : Bool) → leb c (suc t) ≡ x → one (fed p j t) ≡ one (fed kept j t) + one (x && fed p j t)
        go true e = omega (arith, ap one (kept_none j t e))
        go false e = omega (arith, ap one (same j t l k (leb-false c (suc t) e)))

    b : BoundedBy slots ds zeros high (fed p)
    b = sound_bounded w s

    later_bounded : BoundedBy slots rest zeros (rest_high slots c high) (λ j t. leb c (suc t) && fed p j t)
    unfolding F.count size
    later_bounded = rw (length_rest_demands slots c ds kept) (
      record {
        within = λ j l t k e. let q = and_true (leb c (suc t)) (fed p j t) e in free_rest slots c ds kept j l t k ∙ rw q.0 (b.0.within j l t k q.1);
        volume = λ j l.
            omega (
              arith,
              volume_of_rest slots c ds kept j l,
              kept_volume j l,
              b.0.volume j l,
              sum_split slots (λ t. one (fed p j t)) (λ t. one (fed kept j t)) (λ t. one (leb c (suc t) && fed p j t)) (λ t k. parts j t l k),
            );
      },
      λ t l. (omega (arith, get_or-replicate {A = ℕ} slots t 0 0 l), most t l (leb c (suc t)) refl),
    )
      where
        most : (t : ℕ) → t < slots → (x : Bool) → leb c (suc t) ≡ x → sum n (λ j. one (leb c (suc t) && fed p j t)) ≤ get_or (rest_high slots c high) t 0
        most t l true e =
            omega (
              arith,
              b.1 t l,
              high_at t l ∙ ap (λ x. cond x (get_or high t 0) 0) e,
              sum_cong {n = n} {f = λ j. one (leb c (suc t) && fed p j t)} {g = λ j. one (fed p j t)} (λ j k. ap (λ x. one (x && fed p j t)) e),
            )
        most t l false e =
            omega (
              arith,
              sum_cong {n = n} {f = λ j. one (leb c (suc t) && fed p j t)} {g = λ j. 0} (λ j k. ap (λ x. one (x && fed p j t)) e),
              sum_zero n,
            )

    -- is a sound placing of the rest
    pub later_sound : Sound slots rest zeros (rest_high slots c high) (later_part slots c n p)
    unfolding later_part
    later_sound =
        subst (λ i. Sound slots rest zeros (rest_high slots c high) (listed i slots (λ j t. leb c (suc t) && fed p j t))) (length_rest_demands slots c ds kept)
        (bounded_sound (windows_rest slots c ds kept) (λ j t. leb c (suc t) && fed p j t) later_bounded)

  -- A placing of the rest, with the kept feedings ---------------------------------

  module _ (q : Schedule) (s : Sound slots rest zeros (rest_high slots c high) q) where
    r : BoundedBy slots rest zeros (rest_high slots c high) (fed q)
    r = sound_bounded (windows_rest slots c ds kept) s

    in_rest : (j t : ℕ) → j < n → t < slots → fed q j t ≡ true → (leb c (suc t) ≡ true) × (free ds j t ≡ true)
    in_rest j t l k e =
        and_true (leb c (suc t)) (free ds j t) (sym (free_rest slots c ds kept j l t k) ∙ r.0.within j (rw (length_rest_demands slots c ds kept) l) t k e)

    apart : (j t : ℕ) → j < n → t < slots → one (fed kept j t || fed q j t) ≡ one (fed kept j t) + one (fed q j t)
    apart j t l k = one_both (fed kept j t) (fed q j t) (λ a e. false≢true (sym (kept_none j t (in_rest j t l k e).0) ∙ a))

    rest_load : (t : ℕ) → t < slots → F.count n (fed q) t ≤ get_or (rest_high slots c high) t 0
    rest_load t l = subst (λ i. F.count i (fed q) t ≤ get_or (rest_high slots c high) t 0) (length_rest_demands slots c ds kept) (r.1 t l).1

    together_bounded : BoundedBy slots ds zeros high (λ j t. fed kept j t || fed q j t)
    unfolding F.count size
    together_bounded = (
      record {
        within = λ j l t k e. fits j t l k (or_true (fed kept j t) (fed q j t) e);
        volume = λ j l.
            omega (
              arith,
              sum_split slots (λ t. one (fed kept j t || fed q j t)) (λ t. one (fed kept j t)) (λ t. one (fed q j t)) (λ t k. apart j t l k),
              kept_volume j l,
              r.0.volume j (rw (length_rest_demands slots c ds kept) l),
              volume_of_rest slots c ds kept j l,
              m.in_volume j l,
            );
      },
      λ t l. (omega (arith, get_or-replicate {A = ℕ} slots t 0 0 l), most t l (leb c (suc t)) refl),
    )
      where
        fits : (j t : ℕ) → j < n → t < slots → (fed kept j t ≡ true) ⊎ (fed q j t ≡ true) → free ds j t ≡ true
        fits j t l k (inl e) = m.in_window j t l e
        fits j t l k (inr e) = (in_rest j t l k e).1

        most : (t : ℕ) → t < slots → (x : Bool) → leb c (suc t) ≡ x → sum n (λ j. one (fed kept j t || fed q j t)) ≤ get_or high t 0
        most t l true e =
            omega (
              arith,
              sum_split n (λ j. one (fed kept j t || fed q j t)) (λ j. one (fed kept j t)) (λ j. one (fed q j t)) (λ j k. apart j t k l),
              sum_cong {n = n} {f = λ j. one (fed kept j t)} {g = λ j. 0} (λ j k. ap one (kept_none j t e)),
              sum_zero n,
              rest_load t l,
              high_at t l ∙ ap (λ x. cond x (get_or high t 0) 0) e,
            )
        most t l false e =
            omega (
              arith,
              sum_split n (λ j. one (fed kept j t || fed q j t)) (λ j. one (fed kept j t)) (λ j. one (fed q j t)) (λ j k. apart j t k l),
              kept_load t l,
              m.in_slot t l,
              rest_load t l,
              high_at t l ∙ ap (λ x. cond x (get_or high t 0) 0) e,
            )

    pub together_sound : Sound slots ds zeros high (together slots n kept q)
    unfolding together
    together_sound = bounded_sound w (λ j t. fed kept j t || fed q j t) together_bounded

    pub together_same : SameBefore slots c n kept (together slots n kept q)
    unfolding together
    together_same j t l k e =
        ap (λ (x : Slots). has x t) (get_d_tab n (λ j. tab slots (λ t. fed kept j t || fed q j t)) [] j l)
        ∙ get_d_tab slots (λ t. fed kept j t || fed q j t) false t k ∙ ap (λ x. fed kept j t || x) none ∙ or_none (fed kept j t)
      where
        or_none : (x : Bool) → (x || false) ≡ x
        or_none true = refl
        or_none false = refl

        none : fed q j t ≡ false
        none = go (fed q j t) refl
          where
            go : (x : Bool) → fed q j t ≡ x → x ≡ false
            go true f = absurd (omega (arith, leb-true c (suc t) (in_rest j t l k f).0, e))
            go false f = refl

  -- A sound placing that contains the kept feedings and no others before slot c exists exactly where the rest has a
  -- sound placing.
  pub rest_iff : ((p : Schedule) × Sound slots ds zeros high p × SameBefore slots c n kept p) ↔ ((q : Schedule) × Sound slots rest zeros (rest_high slots c high) q)
  rest_iff = (λ x. (later_part slots c n x.0, later_sound x.0 x.1 x.2), λ y. (together slots n kept y.0, together_sound y.0 y.1, together_same y.0 y.1))

-- The loads of a placing's later part --------------------------------------------

pub later_load : (slots c n : ℕ) (p : Schedule) → length p ≡ n → ((j : ℕ) → j < length p → length (get_or p j []) ≡ slots) → (t : ℕ) → t < slots
    → get_or (load slots (later_part slots c n p)) t 0 ≡ cond (leb c (suc t)) (get_or (load slots p) t 0) 0
unfolding later_part F.count
later_load slots c n p e rows t l =
    load_as (listed n slots S) listed_rows t l ∙ ap (λ i. F.count i (fed (listed n slots S)) t) (length_tab n (λ j. tab slots (S j)))
    ∙ sum_cong (λ j k. ap one (fed_later j k)) ∙ go (leb c (suc t)) refl
  where
    S : ℕ → ℕ → Bool
    S j t = leb c (suc t) && fed p j t

    listed_rows : (j : ℕ) → j < length (listed n slots S) → length (get_or (listed n slots S) j []) ≡ slots
    listed_rows j k = ap length (get_d_tab n (λ j. tab slots (S j)) [] j (rw (length_tab n (λ j. tab slots (S j))) at k)) ∙ length_tab slots (S j)

    fed_later : (j : ℕ) → j < n → fed (listed n slots S) j t ≡ S j t
    fed_later j k = ap (λ (x : Slots). has x t) (get_d_tab n (λ j. tab slots (S j)) [] j k) ∙ get_d_tab slots (S j) false t l

    go : (x : Bool) → leb c (suc t) ≡ x → sum n (λ j. one (S j t)) ≡ cond x (get_or (load slots p) t 0) 0
    go true q = sum_cong (λ j k. ap (λ x. one (x && fed p j t)) q) ∙ sym (load_as p rows t l ∙ ap (λ i. F.count i (fed p) t) e)
    go false q = sum_cong (λ j k. ap (λ x. one (x && fed p j t)) q) ∙ sum_zero n

-- A whole day: nothing is kept, and every slot is planned --------------------------

module _ {slots : ℕ} {ds : List Demand} (w : Windows slots ds) where
  abbrev none : Schedule
  none = no_feedings slots (length ds)

  none_at : (j : ℕ) → j < length ds → get_or none j [] ≡ tab slots (λ t. false)
  unfolding no_feedings
  none_at j l = get_d_tab (length ds) (λ j. tab slots (λ t. false)) [] j l

  none_length : length none ≡ length ds
  unfolding no_feedings
  none_length = length_tab (length ds) (λ j. tab slots (λ t. false))

  none_volume : (j : ℕ) → j < length ds → count (get_or none j []) ≡ 0
  unfolding size
  none_volume j l = ap count (none_at j l) ∙ count_tab slots (λ t. false) ∙ sum_zero slots

  -- nothing is fed
  none_fed : (j t : ℕ) → fed none j t ≡ true → ⊥
  none_fed j t e =
      let l : j < length ds = rw none_length at (get_d_below none j t e) in
      let r = ap (λ (q : Slots). has q t) (none_at j l) in
      let k = has_below (tab slots (λ t. false)) t (sym r ∙ e) in
      false≢true (sym (get_d_tab slots (λ t. false) false t (omega (arith, k, length_tab slots (λ (t : ℕ). false)))) ∙ sym r ∙ e)
    where
      -- a set that has a slot is not past the list's end
      get_d_below : (p : Schedule) (j t : ℕ) → has (get_or p j []) t ≡ true → j < length p
      get_d_below [] j t e = absurd (false≢true e)
      get_d_below (c ∷ p) zero t e = omega arith
      get_d_below (c ∷ p) (suc j) t e = omega (arith, get_d_below p j t e)

  pub none_kept : (high : List ℕ) → KeptBefore slots 0 ds high none
  unfolding F.count
  none_kept high =
      record {
        for_each = none_length;
        rows = rows;
        before = λ j t e. absurd (none_fed j t e);
        in_window = λ j t l e. absurd (none_fed j t e);
        in_volume = λ j l. omega (arith, none_volume j l);
        in_slot = λ t l. omega (arith, empty t l);
      }
    where
      rows : (j : ℕ) → j < length ds → length (get_or none j []) ≡ slots
      rows j l = ap length (none_at j l) ∙ length_tab slots (λ t. false)

      empty : (t : ℕ) → t < slots → get_or (load slots none) t 0 ≡ 0
      empty t l =
          load_as none (λ j k. rows j (rw none_length at k)) t l
          ∙ sum_cong (λ j k. ap one (false_of_not_true (fed none j t) (none_fed j t)))
          ∙ sum_zero (length none)

  pub rest_whole : rest_demands slots 0 ds none ≡ ds
  unfolding rest_demands
  rest_whole = sym (tab_unique no_demand ds (length ds) (λ j. rest_of slots 0 (get_or ds j no_demand) (get_or none j [])) refl at)
    where
      at : (j : ℕ) → j < length ds → get_or ds j no_demand ≡ rest_of slots 0 (get_or ds j no_demand) (get_or none j [])
      at j l = λ i. record { window = window_is i; volume = volume_is i }
        where
          window_is : window_of ds j ≡ tab slots (λ t. leb 0 (suc t) && has (window_of ds j) t)
          window_is = tab_unique false (window_of ds j) slots (λ t. leb 0 (suc t) && has (window_of ds j) t) (w.all_day j l) (λ t k. rw (le-leb 0 (suc t) (omega arith)))

          volume_is : volume_of ds j ≡ volume_of ds j - count (get_or none j [])
          volume_is = omega (arith, none_volume j l)

pub rest_high_whole : {slots : ℕ} (high : List ℕ) → length high ≡ slots → rest_high slots 0 high ≡ high
unfolding rest_high
rest_high_whole {slots} high h = sym (tab_unique 0 high slots (λ t. cond (leb 0 (suc t)) (get_or high t 0) 0) h (λ t k. rw (le-leb 0 (suc t) (omega arith))))

-- where nothing is kept, the feedings are those of the rest
pub together_none : {slots n : ℕ} (kept q : Schedule) → ((j t : ℕ) → fed kept j t ≡ false) → length q ≡ n
    → ((j : ℕ) → j < n → length (get_or q j []) ≡ slots) → together slots n kept q ≡ q
unfolding together
together_none {slots} {n} kept q none e rows =
    sym (tab_unique [] q n (λ j. tab slots (λ t. fed kept j t || fed q j t)) e (λ j l.
    tab_unique false (get_or q j []) slots (λ t. fed kept j t || fed q j t) (rows j l) (λ t k. sym (ap (λ x. x || fed q j t) (none j t)))))
