-- A refusal's number has two digits at most, and so has its place: a place lies in the text, or is its length, and a longer text is refused at 80.
use Rattle.std.specs.Prelude.{◌≡◌, List, ℕ, ◌≤◌}
use Rattle.std.proofs.Common.{arith}
use Rattle.hall_symbol.specs.Answers.{symbol-count}
use Rattle.hall_symbol.specs.Told.{number-range, place-within}
use Rattle.space_group.specs.declared.refusal.Refusal.TheVariants.{Lattice as OffLattice, Rotations, Translations}
use Rattle.symbol_group.specs.Answers.{symbol_answer}
use Rattle.symbol_group.specs.Exactly.{text-exactly, lattice-exactly}
use Rattle.symbol_group.specs.Refusals.{number_of, place_of}
use Rattle.symbol_group.specs.declared.refusal.Refusal.{Refusal}
use Rattle.symbol_group.specs.declared.refusal.Refusal.TheVariants.{Text, Group as NoGroup}
use Rattle.symbol_group.specs.declared.Answer.TheVariants.{Refused}

module _ (bytes : List ℕ) where
  -- Refusals 1 to 14.
  pub place-small : (r : Refusal) → (symbol_answer bytes).answer ≡ Refused r → place_of r ≤ 80
  place-small (Text r) e = place-within bytes r ((text-exactly bytes r).0 e)
  place-small (NoGroup (OffLattice i)) e =
      let (c, gens, spells, off) = (lattice-exactly bytes i).0 e in
      let (some, few) = symbol-count bytes c gens spells in
      omega (arith, off.within)
  place-small (NoGroup Rotations) e = omega arith
  place-small (NoGroup Translations) e = omega arith

-- Numbers have two digits at most.
pub number_small : (r : Refusal) → number_of r ≤ 99
number_small (Text r) = let (some, few) = number-range r in omega arith
number_small (NoGroup (OffLattice i)) = omega arith
number_small (NoGroup Rotations) = omega arith
number_small (NoGroup Translations) = omega arith
