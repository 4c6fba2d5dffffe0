-- How an entry answers: with what was asked for, or with a refusal of R8.
use Rattle.std.specs.Prelude.{ℕ}

-- A refusal carries its number, its place, and something of the type C: nothing for most numbers.
pub data Answer (A C : Type 0) : Type 0 where
  given : A → Answer A C
  refused : (number place : ℕ) → C → Answer A C

-- What the refusals that carry no more than number and place carry.
abbrev pub Nothing : Type 0
Nothing = Unit {0}
