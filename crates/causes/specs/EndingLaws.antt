-- The stretches of a problem that end before slot D, where it is a whole day and can be planned: they are those that
-- the method ends, each cause is the true one, the numbers of their entries fit their fields, and the entries are read
-- back from what is written. Assumes nothing.
use Rattle.std.specs.Prelude.{◌≡◌, ◌⊎◌, true, ℕ, zero, suc, ◌≤◌, take}
use Rattle.std.proofs.Common.{◌∙◌, subst, inl, inr, arith}
use mathlib.Core.List.Memᴰ
use mathlib.Core.List.{List, [], ◌∷◌, map, Memᴰ}
use Rattle.common.specs.Lists.{flat_map}
use Rattle.schedules.specs.Causes.{IsCause}
use Rattle.method.specs.Method.{bounds_under}
use Rattle.method.specs.Keeping.{stretches}
use Rattle.method.specs.Endings.{EndedStretch, Explained, settled_endings}
use Rattle.method.proofs.EndingLaws.{endings_by_method, endings_explained, endings_given, in_order_blower}
use Rattle.cause_lines.specs.Entries.{entries_text}
use Rattle.endings.specs.DayCauses.{day_endings}
use Rattle.planning.specs.Problem.{Problem, left, room, ProblemInRange, can_be_planned, settled_counts, counts_of}
use Rattle.planning.specs.ReadLaws.{FitLines}
use Rattle.planning.proofs.ProblemLaws.{windows_left, possible, counts_whole}
use Rattle.causes.specs.CauseCalls.{endings_of}
use Rattle.causes.specs.ReadCauses.{entries_in, entry_of}
use Rattle.causes.specs.ReadCauseLaws.{lines_for, InFields, fit_entries, entries_read}

in_take : (n : ℕ) (es : List EndedStretch) (e : EndedStretch) → Memᴰ e (take n es) → Memᴰ e es
in_take zero es e i = absurd (Memᴰ.not-nil i)
in_take (suc n) [] e i = i
in_take (suc n) (f ∷ es) e i = go (Memᴰ.cases_cons i) (in_take n es e)
  where
    go : (e ≡ f) ⊎ Memᴰ e (take n es) → (Memᴰ e (take n es) → Memᴰ e es) → Memᴰ e (f ∷ es)
    go (inl q) ih = Memᴰ.head q
    go (inr j) ih = Memᴰ.tail (ih j)

module _ (p : Problem) (g : ProblemInRange p) (whole : p.cut ≡ 0) (can : can_be_planned p ≡ true) where
  -- they are those of the counts that the method settles
  pub endings_whole : endings_of p ≡ day_endings p.sheet.slots p.sheet.blowers (left p) (room p)
  unfolding endings_of settled_counts
  endings_whole = rw (counts_whole p g can whole)

  pub ended_by_method_lem : endings_of p ≡ settled_endings p.sheet.slots (left p) p.sheet.blowers (bounds_under p.sheet.slots (room p))
  ended_by_method_lem = endings_whole ∙ endings_by_method (windows_left p g) p.sheet.blowers (possible p g can)

  pub ended_explained : (e : EndedStretch) → Memᴰ e (endings_of p) → Explained p.sheet.slots (left p) e
  ended_explained e i =
      endings_explained (windows_left p g) p.sheet.blowers (possible p g can) e (subst (Memᴰ e) endings_whole i)

  in_fields : (e : EndedStretch) → Memᴰ e (endings_of p) → InFields p.sheet.slots e
  unfolding endings_of
  in_fields e i =
      let x = ended_explained e i in
      let b = in_order_blower (stretches (counts_of p)) p.sheet.blowers (e.blower, e.stretch) (endings_given _ _ _ _ e i) in
      record {
        blower = omega (arith, b.1, g.values.head.blowers.le);
        last = x.before_end;
        cause = few x.true_cause;
        set = x.of_day;
      }
    where
      few : IsCause p.sheet.slots (left p) e.longer.low e.longer.high e.cause → e.cause.number ≤ 3
      few (inl c) = omega (arith, c.0)
      few (inr (inl c)) = omega (arith, c.0)
      few (inr (inr c)) = omega (arith, c.0)

  -- every number on the lines of their entries fits its field
  pub causes_fit : FitLines (flat_map lines_for (endings_of p))
  causes_fit = fit_entries g.values.head.slots.le (endings_of p) in_fields

  -- the entries of a front of them
  pub front_read : (n : ℕ) → entries_in (entries_text (take n (endings_of p))) ≡ map entry_of (take n (endings_of p))
  front_read n = entries_read g.values.head.slots.le (take n (endings_of p)) (λ e i. in_fields e (in_take n (endings_of p) e i))
