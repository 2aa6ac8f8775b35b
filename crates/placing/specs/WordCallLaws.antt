-- The words after a question hold a sound placing under the bounds kept. Assumes nothing.
use Rattle.std.specs.Prelude.{◌≡◌, Bool, true, false, List, ℕ, ◌<◌, replicate}
use Rattle.std.proofs.Common.{sym, subst}
use Rattle.schedules.specs.Schedules.{Demand}
use Rattle.placing.specs.declared.Words.{Words}
use Rattle.placing.specs.Represents.{Represents, lowered, raised, DemandWords, HighWords}
use Rattle.placing.specs.WordCalls.{HeldIn, IdledIn, BusiedIn, BegunIn}

module _ {r : Bool} {w w' : Words} {t k slots : ℕ} {ds : List Demand} {low high : List ℕ} where
  pub idled_held : IdledIn r w w' t k → r ≡ true → HeldIn slots ds low high w → t < slots → HeldIn slots ds low (lowered high t k) w'
  idled_held i e h l =
      record {
        represents =
            subst (λ c. Represents slots ds low (lowered high t k) w'.fed w'.rest w'.high c) (sym i.spares)
            (i.idled.yes e slots ds low high h.represents l);
      }

  pub idled_kept : IdledIn r w w' t k → r ≡ false → HeldIn slots ds low high w → t < slots → HeldIn slots ds low high w'
  idled_kept i e h l =
      record {
        represents =
            subst (λ c. Represents slots ds low high w'.fed w'.rest w'.high c) (sym i.spares)
            (i.idled.no e slots ds low high h.represents l);
      }

  pub busied_held : BusiedIn r w w' t k → r ≡ true → HeldIn slots ds low high w → t < slots → HeldIn slots ds (raised low t k) high w'
  busied_held b e h l =
      record {
        represents =
            subst (λ g. Represents slots ds (raised low t k) high w'.fed w'.rest g w'.spare) (sym b.highs)
            (b.busied.yes e slots ds low high h.represents l);
      }

  pub busied_kept : BusiedIn r w w' t k → r ≡ false → HeldIn slots ds low high w → t < slots → HeldIn slots ds low high w'
  busied_kept b e h l =
      record {
        represents =
            subst (λ g. Represents slots ds low high w'.fed w'.rest g w'.spare) (sym b.highs)
            (b.busied.no e slots ds low high h.represents l);
      }

pub begun_held : {r : Bool} {W N H : List ℕ} {w : Words} {slots : ℕ} {ds : List Demand} {high : List ℕ}
    → BegunIn r W N H w → r ≡ true → DemandWords slots ds W N → HighWords slots high H → HeldIn slots ds (replicate slots 0) high w
begun_held {w} {slots} {ds} {high} b e d g =
    record {
      represents =
          subst (λ h. Represents slots ds (replicate slots 0) high w.fed w.rest h w.spare) (sym b.highs) (b.begun.yes e slots ds high d g);
    }
