-- A symbol's order, operations and doubles in numbers.
use Rattle.std.specs.Prelude.{cond, ℕ, ◌+◌, ◌*◌, ◌%◌, eqb, Float, Err, None, Ok, Option, Result, Some}
use Rattle.std.specs.Float.{binary64}
use Rattle.std.specs.Float.Ieee.{of_bits}
use Rattle.operation.specs.Code.{code_of}
use Rattle.operation.specs.declared.Operation.{Operation}
use Rattle.operation.specs.declared.doubles.Doubles.{Doubles}
use Rattle.symbol_group.specs.Refusals.{number_of, place_of}
use Rattle.symbol_group.specs.declared.refusal.Refusal.{Refusal}

abbrev pub packed_order : Result ℕ Refusal → ℕ
packed_order (Ok n) = n % 65536
packed_order (Err r) = number_of r * 65536 + place_of r % 65536

abbrev pub packed : Operation → ℕ
packed o =
    code_of o.rotation * 4096 + o.translation.x % 16 * 256 + o.translation.y % 16 * 16 + o.translation.z % 16

abbrev pub packed_operation : Result (Option Operation) Refusal → ℕ
packed_operation (Ok (Some o)) = packed o
packed_operation (Ok None) = 1
packed_operation (Err r) = 1

-- The double 2.0.
abbrev pub two : Float
two = of_bits binary64 4611686018427387904

abbrev pub component : ℕ → Doubles → Float
component axis d = cond (eqb axis 0) d.x (cond (eqb axis 1) d.y d.z)

abbrev pub component_of : ℕ → Result (Option Doubles) Refusal → Float
component_of axis (Ok (Some d)) = component axis d
component_of axis (Ok None) = two
component_of axis (Err r) = two
