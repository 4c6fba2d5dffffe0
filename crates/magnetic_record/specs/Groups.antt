-- What the record of a magnetic group stands for: flagged motions of space. Their product combines flags by exclusive or; a list of them, with L added, is a
-- set; and which lists are allowed.
use mathlib.Core.List.{List, map, Memᴰ as Mem}
use Rattle.std.specs.Prelude.{◌≤◌, eqb, length}
use Rattle.laws.specs.Matrix.{Unimodular}
use Rattle.laws.specs.Motion.{SpaceMotion, compose, identity}
use Rattle.laws.specs.LatticeMaps.{MapsOnto}
use Rattle.group_growth.specs.Flagged.{Flagged, held, AlikeFlagged, times_flagged}
use Rattle.operation.specs.Meaning.{motion_of}
use Rattle.centering.specs.Letters.{points_of}
use Rattle.centering.specs.declared.Centering.{Centering}
use Rattle.group_record.specs.OperationItems.{operation_of_item}
use Rattle.group_record.specs.Groups.{Alike}
use Rattle.magnetic_record.specs.SecondEdition.{MagneticItem}

-- A motion with or without time reversal.
abbrev pub FlaggedMotion : Type 0
FlaggedMotion = Flagged SpaceMotion

-- The product of two.
abbrev pub compose_flagged : FlaggedMotion → FlaggedMotion → FlaggedMotion
compose_flagged = times_flagged compose

-- Two with one flag that differ by a translation of L.
abbrev pub Near : Centering → FlaggedMotion → FlaggedMotion → Type 0
Near c = AlikeFlagged (Alike c)

-- The set of flagged motions of a list: the listed ones with L added.
abbrev pub InMagneticSet : Centering → List FlaggedMotion → FlaggedMotion → Type 0
InMagneticSet c l m = (f : FlaggedMotion) × Mem f l × Near c m f

-- Which finite lists are allowed.
pub record MagneticAllowed (c : Centering) (l : List FlaggedMotion) : Type 0 where
  pub count : (1 ≤ length l) × (length l ≤ 96)
  pub determinant : (f : FlaggedMotion) → Mem f l → Unimodular f.element.rotation
  pub keeps : (f : FlaggedMotion) → Mem f l → MapsOnto (points_of c) f.element.rotation
  pub holds-identity : Mem (held identity) l
  pub product : (f g : FlaggedMotion) → Mem f l → Mem g l → (h : FlaggedMotion) × Mem h l × Near c (compose_flagged f g) h

-- The flagged motion of an item: the flag 1 is time reversal.
abbrev pub flagged_motion : MagneticItem → FlaggedMotion
flagged_motion i = record { element = motion_of (operation_of_item i.plain); flag = eqb i.flag 1 }

-- Those of a list.
abbrev pub motions_of : List MagneticItem → List FlaggedMotion
motions_of items = map flagged_motion items
