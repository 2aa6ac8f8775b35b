-- The stretch at a place: it begins there, it ends where its state stops or with the day, and the others follow it.
-- Assumes nothing.
use Rattle.std.specs.Prelude.{◌≡◌, refl, Bool, true, false, cond, List, [], ◌∷◌, map, ℕ, suc, ◌+◌, ◌-◌, ◌≤◌, ◌<◌, leb, length, drop}
use Rattle.std.proofs.Common.{sym, ◌∙◌, arith, length-take}
use Rattle.std.proofs.Math.Path.{ap, subst}
use Rattle.std.proofs.Math.Seq.{take-length}
use Rattle.std.specs.Bool.{beq}
use Rattle.std.proofs.Math.ListN.{get_or}
use Rattle.std.proofs.lemmas.List.{length-map}
use Rattle.common.specs.Lists.{part}
use Rattle.method.specs.Intervals.{busy_in, intervals}
use Rattle.method.specs.FrontRunLaws.{stretch, front_run, busy_from, stretches_from, EndsAt}
use Rattle.method.proofs.FrontRunLaws.{ends_at_front_run, stretches_from_begin, stretches_from_end}
use Rattle.energy.specs.Energy.{listed, listed_for}
use Rattle.energy.specs.Usage.{no_stretch, stretch_at}
use Rattle.energy.specs.Listed.{ListedStretch}

front_run_le : (b : Bool) (bs : List Bool) → front_run b bs ≤ length bs
unfolding front_run
front_run_le b [] = omega arith
front_run_le b (c ∷ cs) = go (beq b c) (front_run_le b cs)
  where
    go : (same : Bool) → front_run b cs ≤ length cs → cond same (suc (front_run b cs)) 0 ≤ suc (length cs)
    go true l = omega arith
    go false l = omega arith

-- s is the stretch of blower k that begins in slot from + 1
pub record Found (q : ℕ) (counts : List ℕ) (slots k from : ℕ) (s : ListedStretch) : Type 0 where
  pub begins : s.first ≡ from + 1
  pub ends : EndsAt counts slots k from s.last
  pub is : s ≡ listed slots q k (stretch (from + 1) s.last (busy_in counts k from))

module _ {counts : List ℕ} {slots k from : ℕ} where
  pub stretch_at_ends : (q : ℕ) {last : ℕ} → EndsAt counts slots k from last
      → stretch_at q counts slots k from ≡ listed slots q k (stretch (from + 1) last (busy_in counts k from))
  unfolding stretch_at
  stretch_at_ends q e = ap (λ vs. get_or (map (listed slots q k) vs) 0 no_stretch) e.next

  -- a stretch that begins in the day ends in it
  end : slots ≤ length counts → from < slots → (last : ℕ) × EndsAt counts slots k from last
  end long h = (last, ends_at_front_run counts slots k from last (omega arith) (omega (arith, few)) long refl)
    where
      n : ℕ
      n = front_run (busy_in counts k from) (busy_from counts slots k (from + 1))

      last : ℕ
      last = n + (from + 1)

      few : n ≤ slots - (from + 1)
      few =
          omega (
            arith,
            front_run_le (busy_in counts k from) (busy_from counts slots k (from + 1)),
            length-map (part (from + 1) slots counts) (leb k),
            length-take (slots - (from + 1)) (drop (from + 1) counts),
          )

  -- a stretch found, and those left after it
  pub left_next : {q : ℕ} {s : ListedStretch} → Found q counts slots k from s
      → map (listed slots q k) (stretches_from counts slots k from) ≡ s ∷ map (listed slots q k) (stretches_from counts slots k s.last)
  left_next {q} {s} f =
      ap (map (listed slots q k)) f.ends.next
      ∙ ap (λ (x : ListedStretch). x ∷ map (listed slots q k) (stretches_from counts slots k s.last)) (sym f.is)

  pub found : {q : ℕ} {s : ListedStretch} → slots ≤ length counts → from < slots → s ≡ stretch_at q counts slots k from
      → Found q counts slots k from s
  unfolding listed
  found {q} {s} long h e =
      record {
        begins = ap (λ (x : ListedStretch). x.first) is;
        ends = subst (EndsAt counts slots k from) (sym last) at.1;
        is = is ∙ ap (λ n. listed slots q k (stretch (from + 1) n (busy_in counts k from))) (sym last);
      }
    where
      at : (last : ℕ) × EndsAt counts slots k from last
      at = end long h

      is : s ≡ listed slots q k (stretch (from + 1) at.0 (busy_in counts k from))
      is = e ∙ stretch_at_ends q at.1

      last : s.last ≡ at.0
      last = ap (λ (x : ListedStretch). x.last) is

module _ (counts : List ℕ) (q k : ℕ) where
  -- before slot 1 all are left
  pub left_begin : map (listed (length counts) q k) (stretches_from counts (length counts) k 0) ≡ listed_for q counts k
  unfolding listed_for
  left_begin =
      sym
      (ap (λ cs. map (listed (length counts) q k) (intervals cs k)) (sym (take-length counts))
      ∙ ap (map (listed (length counts) q k)) (stretches_from_begin counts (length counts) k))

  -- after the day's last slot none is
  pub left_end : (from : ℕ) → from ≡ length counts → map (listed (length counts) q k) (stretches_from counts (length counts) k from) ≡ []
  left_end from e = rw (e, stretches_from_end counts (length counts) k)
