-- The list of operations as R3.6 has it made: breadth first from the identity, right factor running over the generators
-- in order, first translation reached kept, modulo 12; with the index of each product, until nothing is left to multiply.
use Rattle.std.specs.Prelude.{Bool, List, ◌++◌, ℕ, ◌-◌, eqb, length, replicate, None, Option as Maybe, Some}
use Rattle.std.proofs.Math.Option.{Option, some, none}
use Rattle.laws.specs.Growth.{Growth, grown}
use Rattle.operation.specs.Code.{code_of}
use Rattle.operation.specs.Product.{identity_operation, product_of}
use Rattle.operation.specs.declared.Operation.{Operation}
use Rattle.centering.specs.Lattices.{congruent_of}
use Rattle.centering.specs.declared.Centering.{Centering}

-- The code of an operation's rotation.
abbrev pub turn_of : Operation → ℕ
turn_of f = code_of f.rotation

-- Whether two operations have the same rotation.
abbrev pub same_turn : Operation → Operation → Bool
same_turn f g = eqb (turn_of f) (turn_of g)

-- Whether their translations are in one class modulo L.
abbrev pub same_class : Centering → Operation → Operation → Bool
same_class c f g = congruent_of c f.translation g.translation

-- A product whose entries are in −1..1.
abbrev pub inside_of : Maybe Operation → Option Operation
inside_of (Some h) = some h
inside_of None = none

abbrev pub product_inside : Operation → Operation → Option Operation
product_inside f g = inside_of (product_of f g)

-- At most 48 operations, or none.
unfoldable pub growth : Centering → List Operation → Option (Growth Operation)
growth c gens = grown same_turn (same_class c) product_inside 48 identity_operation gens

-- ---- slots
-- A list at the front of n slots, the others all alike.
abbrev pub padded : {A : Type 0} → ℕ → A → List A → List A
padded n e l = l ++ replicate (n - length l) e
