-- `practice::seeds::seed_faulty` meets its contract: test after test. Assumes nothing.
use Rattle.std.proofs.Common.{sym, ◌∙◌, arith, true≢false, eqb-true, ltb-true, ltb-false}
use borrow.Author.Tests.{not-false}
use Rattle.practice.specs.Practice.{max_seed}
use Rattle.practice.proofs.SeedLaws.{seed_other_length, seed_other_field, seed_too_great, seed_closed}
use Rattle.practice.proofs.seeds.seed_faulty.Goals as goal
use Rattle.practice.proofs.seeds.seed_faulty.Goals.{then-b, else-b, then-field_faulty, else-field_faulty}

pub returns-then-field_number-gt-MAX_SEED : goal.returns-then-field_number-gt-MAX_SEED
returns-then-field_number-gt-MAX_SEED c = c.if-field_number-gt-MAX_SEED.true ∙ elim c.if-field_faulty.branch [
  | then-field_faulty w ↦ elim c.if-b.branch [
    | then-b v ↦ seed_other_length c.args.b.now v.if-b.true
    | else-b v ↦ seed_other_field c.args.b.now v.if-b.false (sym v.field_faulty.ensures ∙ sym v.value-is ∙ w.if-field_faulty.true)
  ]
  | else-field_faulty w ↦ elim c.if-b.branch [
    | then-b v ↦ absurd (v.if-b.true (eqb-true _ _ (not-false _ (sym v.value-is ∙ w.if-field_faulty.false))))
    | else-b v ↦ seed_too_great c.args.b.now v.if-b.false (sym v.field_faulty.ensures ∙ sym v.value-is ∙ w.if-field_faulty.false)
        (omega (arith, w.field_number.ensures, ltb-true max_seed w.field_number.result (sym w.value-is ∙ c.if-field_number-gt-MAX_SEED.true)))
  ]
]

pub returns-else-field_number-gt-MAX_SEED : goal.returns-else-field_number-gt-MAX_SEED
returns-else-field_number-gt-MAX_SEED c = elim c.if-field_faulty.branch [
  | then-field_faulty w ↦ absurd (true≢false (sym w.if-field_faulty.true ∙ sym w.value-is ∙ c.if-field_number-gt-MAX_SEED.false))
  | else-field_faulty w ↦ elim c.if-b.branch [
    | then-b v ↦ absurd (v.if-b.true (eqb-true _ _ (not-false _ (sym v.value-is ∙ w.if-field_faulty.false))))
    | else-b v ↦ seed_closed c.args.b.now v.if-b.false (sym v.field_faulty.ensures ∙ sym v.value-is ∙ w.if-field_faulty.false)
        (omega (arith, w.field_number.ensures, ltb-false max_seed w.field_number.result (sym w.value-is ∙ c.if-field_number-gt-MAX_SEED.false)))
  ]
]
