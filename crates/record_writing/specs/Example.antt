-- The examples of R5.6: the record of `-P 1` in editions 1 and 3 and that of `P 1` in edition 3, byte by byte.
-- They hold the definitions of code, number, order and trailer against the paper.
use Rattle.std.specs.Prelude.{◌≡◌, refl, [], ◌∷◌}
use Rattle.laws.specs.Lattice.{smallest, least_rank, rank, unrank}
use Rattle.laws.specs.Residue.{◌⊕◌}
use Rattle.laws.specs.Sorted.{sort, insert}
use Rattle.operation.specs.Code.{code_of}
use Rattle.operation.specs.Product.{identity_operation}
use Rattle.operation.specs.declared.Operation.{Operation}
use Rattle.centering.specs.Lattices.{smallest_of}
use Rattle.centering.specs.declared.Centering.TheVariants.{P}
use Rattle.group_record.specs.Items.{bytes_of}
use Rattle.group_record.specs.ThirdEdition.{number_of_item, four_bytes, numbered_bytes}
use Rattle.group_record.specs.Record.{item_bytes, written_in, smallest_operation, listed_form, record_in, record_by, record_of}
use Rattle.group_record.specs.declared.Edition.TheVariants.{Third}

abbrev pub inversion : Operation
inversion =
    record {
      rotation = record { xx = 0; xy = 1; xz = 1; yx = 1; yy = 0; yz = 1; zx = 1; zy = 1; zz = 0 };
      translation = record { x = 0; y = 0; z = 0 };
    }

-- 0C 7E 00 00 00 40 64 00 00 00 50 01 02 00 0F
pub example : record_of P (identity_operation ∷ inversion ∷ []) ≡ 12 ∷ 126 ∷ 0 ∷ 0 ∷ 0 ∷ 64 ∷ 100 ∷ 0 ∷ 0 ∷ 0 ∷ 80 ∷ 1 ∷ 2 ∷ 0 ∷ 15 ∷ []
unfolding record_of record_in written_in listed_form smallest_operation smallest_of smallest least_rank rank unrank ◌⊕◌ sort insert code_of bytes_of item_bytes
example = refl

-- 00 54 52 80 01 B2 A3 00 50 03 02 00 0D
pub third-example : record_by Third P (identity_operation ∷ inversion ∷ []) ≡ 0 ∷ 84 ∷ 82 ∷ 128 ∷ 1 ∷ 178 ∷ 163 ∷ 0 ∷ 80 ∷ 3 ∷ 2 ∷ 0 ∷ 13 ∷ []
unfolding record_by record_in written_in listed_form smallest_operation smallest_of smallest least_rank rank unrank ◌⊕◌ sort insert code_of bytes_of
    numbered_bytes
    four_bytes number_of_item
third-example = refl

-- 01 B2 A3 00 50 03 01 00 09
pub shortest-example : record_by Third P (identity_operation ∷ []) ≡ 1 ∷ 178 ∷ 163 ∷ 0 ∷ 80 ∷ 3 ∷ 1 ∷ 0 ∷ 9 ∷ []
unfolding record_by record_in written_in listed_form smallest_operation smallest_of smallest least_rank rank unrank ◌⊕◌ sort insert code_of bytes_of
    numbered_bytes
    four_bytes number_of_item
shortest-example = refl
