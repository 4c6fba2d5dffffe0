-- The record of `P 1a'`, byte by byte: the identity, and half a cell along x with time reversal. It holds the definitions of item, order and trailer against
-- the rules.
use Rattle.std.specs.Prelude.{◌≡◌, refl, true, [], ◌∷◌}
use Rattle.laws.specs.Lattice.{smallest, least_rank, rank, unrank}
use Rattle.laws.specs.Residue.{◌⊕◌}
use Rattle.laws.specs.Sorted.{sort, insert}
use Rattle.group_growth.specs.Flagged.{held, flagged_by}
use Rattle.operation.specs.Code.{code_of}
use Rattle.operation.specs.Product.{identity_operation}
use Rattle.operation.specs.declared.Operation.{Operation}
use Rattle.centering.specs.Lattices.{smallest_of}
use Rattle.centering.specs.declared.Centering.TheVariants.{P}
use Rattle.group_record.specs.Items.{bytes_of}
use Rattle.group_record.specs.Editions.{framed}
use Rattle.group_record.specs.FirstEdition.{item_bytes}
use Rattle.group_record.specs.Record.{smallest_operation}
use Rattle.magnetic_record.specs.SecondEdition.{magnetic_bytes}
use Rattle.magnetic_record.specs.Record.{magnetic_form, magnetic_record}

abbrev pub half_cell : Operation
half_cell = record { rotation = identity_operation.rotation; translation = record { x = 6; y = 0; z = 0 } }

-- 40 64 00 00 00 00 40 64 06 00 00 01 50 02 02 00 11
pub example : magnetic_record P (flagged_by true half_cell ∷ held identity_operation ∷ [])
    ≡ 64 ∷ 100 ∷ 0 ∷ 0 ∷ 0 ∷ 0 ∷ 64 ∷ 100 ∷ 6 ∷ 0 ∷ 0 ∷ 1 ∷ 80 ∷ 2 ∷ 2 ∷ 0 ∷ 17 ∷ []
unfolding magnetic_record framed magnetic_form smallest_operation smallest_of smallest least_rank rank unrank ◌⊕◌ sort insert code_of bytes_of magnetic_bytes
    item_bytes
example = refl
