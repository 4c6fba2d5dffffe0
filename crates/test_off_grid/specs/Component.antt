-- The index and the component that the way back from doubles refuses.
use Rattle.std.specs.Prelude.{ℕ, Float}
use Rattle.operation.specs.Answer.{Answer, given, refused}
use Rattle.operation.specs.declared.Translation.{Translation}

abbrev pub off_grid_index : Answer Translation Float → ℕ
off_grid_index (given t) = 3
off_grid_index (refused number place component) = place

abbrev pub off_grid_component : Float → Answer Translation Float → Float
off_grid_component x (given t) = x
off_grid_component x (refused number place component) = component
