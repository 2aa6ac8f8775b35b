-- One job moved from a slot to another: the placing stays one, and two loads change by one. Assumes nothing.
use Rattle.std.specs.Prelude.{ℕ, ◌+◌, ◌<◌, ◌≡◌, refl, ◌⊎◌, ◌≢◌, Bool, true, false, ◌&&◌, cond, eqb}
use Rattle.std.proofs.Common.{sym, ◌∙◌, inl, inr, arith, eq-eqb, ne_eqb, eqb-true}
use Rattle.std.proofs.Math.Path.{ap}
use Rattle.std.proofs.lemmas.Bool.{false≢true}
use Rattle.std.proofs.Math.Decide.{ℕ_discrete}
use Rattle.theory.specs.Sums.{sum_cong, sum_change}
use Rattle.theory.specs.SumsOver.{one}
use Rattle.theory.specs.Placing.{size, Within, count, Placing}
use Rattle.theory.specs.Move.{upd, move, Shift}

-- One cell --------------------------------------------------------------------

module _ (S : ℕ → ℕ → Bool) (j t : ℕ) (b : Bool) where
  pub upd_same : upd S j t b j t ≡ b
  upd_same = rw (eq-eqb j j refl, eq-eqb t t refl)

  pub upd_row : (k u : ℕ) → k ≢ j → upd S j t b k u ≡ S k u
  upd_row k u h = rw (ne_eqb k j h)

  pub upd_col : (k u : ℕ) → u ≢ t → upd S j t b k u ≡ S k u
  upd_col k u h = rw (ne_eqb u t h) (go (eqb k j))
    where
      go : (x : Bool) → cond (x && false) b (S k u) ≡ S k u
      go true = refl
      go false = refl

  pub upd_true : (k u : ℕ) → upd S j t b k u ≡ true → ((k ≡ j) × (u ≡ t) × (b ≡ true)) ⊎ (S k u ≡ true)
  upd_true k u e = go (eqb k j) (eqb u t) refl refl e
    where
      go : (x y : Bool) → eqb k j ≡ x → eqb u t ≡ y → cond (x && y) b (S k u) ≡ true → ((k ≡ j) × (u ≡ t) × (b ≡ true)) ⊎ (S k u ≡ true)
      go true true p q e = inl (eqb-true k j p, eqb-true u t q, e)
      go true false p q e = inr e
      go false y p q e = inr e

  pub size_upd : (d : ℕ) → t < d → size d (upd S j t b j) + one (S j t) ≡ size d (S j) + one b
  unfolding size
  size_upd d l =
      rw upd_same at
      (sum_change d (λ u. one (upd S j t b j u)) (λ u. one (S j u)) t l (λ u m h. ap one (upd_col j u h)))

  pub size_upd_other : (d k : ℕ) → k ≢ j → size d (upd S j t b k) ≡ size d (S k)
  unfolding size
  size_upd_other d k h = sum_cong (λ u l. ap one (upd_row k u h))

  pub count_upd : (n : ℕ) → j < n → count n (upd S j t b) t + one (S j t) ≡ count n S t + one b
  unfolding count
  count_upd n l =
      rw upd_same at
      (sum_change n (λ k. one (upd S j t b k t)) (λ k. one (S k t)) j l (λ k m h. ap one (upd_row k t h)))

  pub count_upd_other : (n u : ℕ) → u ≢ t → count n (upd S j t b) u ≡ count n S u
  unfolding count
  count_upd_other n u h = sum_cong (λ k l. ap one (upd_col k u h))

-- A move --------------------------------------------------------------------

-- from a to u, and then from z to a
pub shift_trans : {n : ℕ} {S T U : ℕ → ℕ → Bool} {z a u : ℕ} → Shift n S T a u → Shift n T U z a → z ≢ a → z ≢ u → u ≢ a → Shift n S U z u
shift_trans {n} {S} {U} {z} {a} {u} p q za zu ua = record {
  from = q.from ∙ p.others z za zu;
  to = q.others u (λ e. zu (sym e)) ua ∙ p.to;
  others = λ w wz wu. go w wz wu (ℕ_discrete w a);
}
  where
    go : (w : ℕ) → w ≢ z → w ≢ u → Dec (w ≡ a) → count n U w ≡ count n S w
    go w wz wu (yes e) = rw e (omega arith)
    go w wz wu (no h) = q.others w wz h ∙ p.others w h wu

module _ {n d : ℕ} {free : ℕ → ℕ → Bool} {v : ℕ → ℕ} {S : ℕ → ℕ → Bool} (s : Placing n d free v S)
    {j t u : ℕ} (lj : j < n) (lt : t < d) (lu : u < d) (at : S j t ≡ true) (gap : S j u ≡ false) (may : free j u ≡ true) where
  apart : t ≢ u
  apart e = false≢true (sym gap ∙ ap (S j) (sym e) ∙ at)

  pub move_shift : Shift n S (move S j t u) t u
  move_shift = record {
    from = omega (arith, count_upd_other (upd S j t false) j u true n t apart, count_upd S j t false n lj, ap one at);
    to = omega (
      arith,
      count_upd (upd S j t false) j u true n lj,
      count_upd_other S j t false n u (λ e. apart (sym e)),
      ap one (upd_col S j t false j u (λ e. apart (sym e)) ∙ gap),
    );
    others = λ w a b. count_upd_other (upd S j t false) j u true n w b ∙ count_upd_other S j t false n w a;
  }

  pub move_placing : Placing n d free v (move S j t u)
  move_placing = record { within = within; volume = volume }
    where
      within : (k : ℕ) → k < n → Within d (move S j t u k) (free k)
      within k l w m e = go (upd_true (upd S j t false) j u true k w e)
        where
          old : ((k ≡ j) × (w ≡ t) × (false ≡ true)) ⊎ (S k w ≡ true) → free k w ≡ true
          old (inl x) = absurd (false≢true x.2)
          old (inr x) = s.within k l w m x

          go : ((k ≡ j) × (w ≡ u) × (true ≡ true)) ⊎ (upd S j t false k w ≡ true) → free k w ≡ true
          go (inl x) = rw (x.0, x.1) may
          go (inr x) = old (upd_true S j t false k w x)

      volume : (k : ℕ) → k < n → size d (move S j t u k) ≡ v k
      volume k l = go (ℕ_discrete k j)
        where
          go : Dec (k ≡ j) → size d (move S j t u k) ≡ v k
          go (yes e) =
              rw e (omega (
                arith,
                size_upd (upd S j t false) j u true d lu,
                size_upd S j t false d lt,
                s.volume j lj,
                ap one at,
                ap one (upd_col S j t false j u (λ e. apart (sym e)) ∙ gap),
              ))
          go (no h) = size_upd_other (upd S j t false) j u true d k h ∙ size_upd_other S j t false d k h ∙ s.volume k l
