-- `densities::density_sums` meets its contract: after j rations the sums are theirs. Assumes nothing.
use mathlib.Core.Path.{◌≡◌, sym, ap, ◌∙◌, subst}
use mathlib.Core.List.{List}
use Prim.Native.Nat.{ℕ, ◌+◌, ◌-◌}
use Rattle.placing.specs.Rations.{release_at, deadline_at, volume_at}
use Rattle.placing.specs.Words.{Added}
use Rattle.densities.specs.Densities.{density, density_of, CanAdd}
use Rattle.densities.proofs.DensityLaws.{sums_begin, sums_can, sums_next}
use native.Mathlib.Omega.{arith}
use Rattle.densities.proofs.density_sums.Goals as goal

-- the density that is added is that of ration j
density-is : (numbers : List ℕ) (j : ℕ) {d : ℕ} → d ≡ density (volume_at numbers j) (deadline_at numbers j + 1 - release_at numbers j) → d ≡ density_of numbers j
density-is numbers j e = e ∙ ap (density (volume_at numbers j)) (omega arith)

added_of : {d e release deadline : ℕ} {xs ys : List ℕ} → d ≡ e → Added d release deadline xs ys → Added e release deadline xs ys
added_of {release = release} {deadline} {xs} {ys} h = subst (λ d. Added d release deadline xs ys) h

pub loop-j-init : goal.loop-j-init
loop-j-init c = (omega arith, sums_begin c.args.numbers.now)

pub add_density-requires : goal.add_density-requires
add_density-requires c = subst (CanAdd c.loop-j.sums _ _) (sym (density-is c.args.numbers.now c.loop-j.j c.density_of-parts.ensures)) (sums_can c.requires c.loop-j.j (omega arith) c.loop-j.invariant.1)

pub loop-j-preserved : goal.loop-j-preserved
loop-j-preserved c = (omega arith, sums_next c.requires c.loop-j.j (omega arith) c.loop-j.invariant.1 (added_of (density-is c.args.numbers.now c.loop-j.j c.density_of-parts.ensures) c.add_density.ensures))
