-- What was written is read back, and what was read is written as the same bytes and is the record of a group of flagged motions.
use Rattle.std.specs.Prelude.{◌≡◌, refl, List, ◌++◌, ℕ, ◌≤◌, length}
use Rattle.std.proofs.lemmas.List.{length-map}
use Rattle.centering.specs.Letters.{byte_of}
use Rattle.centering.specs.declared.Centering.{Centering}
use Rattle.group_record.specs.Items.{Bytes}
use Rattle.group_record.specs.Editions.{framed}
use Rattle.group_record.specs.Rules.{holds, told_by}
use Rattle.group_record.specs.Outcomes.{Good, held-told, held-exactly}
use Rattle.magnetic_record.specs.SecondEdition.{MagneticItem, second_edition}
use Rattle.magnetic_record.specs.Reading.{magnetic_rules}
use Rattle.magnetic_record.specs.Groups.{InMagneticSet, MagneticAllowed, flagged_motion, motions_of}
use Rattle.magnetic_record.specs.Halves.{GoodMagnetic}
use Rattle.magnetic_record.specs.Acceptance.{IsMagneticItem, good-magnetic, magnetic_meaning}
use Rattle.magnetic_record.specs.MagneticGroups.{MagneticGroup, allowed-magnetic-group}

magnetic-good : (c : Centering) (items : List MagneticItem) → GoodMagnetic c items → Good magnetic_rules IsMagneticItem tt c items
magnetic-good c items g = record { each = λ i m. ((g.code i m, g.smallest i m), g.flag i m); ascend = g.ascend }

-- Good and allowed items, written, are read back, wherever the record stands at the end of a buffer.
pub magnetic-reads-back : (c : Centering) (items : List MagneticItem) → GoodMagnetic c items → MagneticAllowed c (motions_of items) → (front : List ℕ)
    → told_by magnetic_rules (front ++ framed second_edition (byte_of c) items) ≡ holds tt c items
unfolding magnetic_meaning
magnetic-reads-back c items g A front =
    let count : (1 ≤ length items) × (length items ≤ 96) = rw (length-map items flagged_motion) at A.count in
    held-told magnetic_rules magnetic_meaning _ tt c items
    (record { front = front; one = count.0; few = count.1; same_bytes = refl; good = magnetic-good c items g; allowed = A })

-- What was read is the record of a magnetic group, and is written as the bytes it was read from.
pub record MagneticReads (bytes : List ℕ) (c : Centering) (items : List MagneticItem) : Type 0 where
  pub front : List ℕ
  pub same_bytes : bytes ≡ front ++ framed second_edition (byte_of c) items
  pub good : GoodMagnetic c items
  pub allowed : MagneticAllowed c (motions_of items)
  pub group : MagneticGroup c (InMagneticSet c (motions_of items))

pub magnetic-written-again : (bytes : List ℕ) → Bytes bytes → (c : Centering) (items : List MagneticItem)
    → told_by magnetic_rules bytes ≡ holds tt c items → MagneticReads bytes c items
unfolding magnetic_meaning
magnetic-written-again bytes b c items e =
    let h = (held-exactly magnetic_rules magnetic_meaning bytes b tt c items).0 e in
    let g = good-magnetic c items h.good in
    record { front = h.front; same_bytes = h.same_bytes; good = g; allowed = h.allowed; group = allowed-magnetic-group c items g h.allowed }
