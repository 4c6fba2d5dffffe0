-- What is answered for generators with flags, as numbers: the list that they give product by product, at most 96, or the refusals 12 to 14.
use Rattle.std.specs.Prelude.{cond, List, [], map, ℕ, ltb, length, Err, Ok, Result}
use Rattle.group_growth.specs.Verdicts.{Verdict, listed, overgrown, torn, on_growth}
use Rattle.group_growth.specs.Flagged.{Flagged}
use Rattle.operation.specs.declared.Operation.{Operation}
use Rattle.centering.specs.declared.Centering.{Centering}
use Rattle.space_group.specs.Generated.{first_off}
use Rattle.space_group.specs.Traversal.{padded}
use Rattle.space_group.specs.NumberGrowth.{unit_number, number_growth}
use Rattle.space_group.specs.FlaggedGenerators.{flagged_number}
use Rattle.space_group.specs.declared.refusal.Refusal.{Refusal}
use Rattle.space_group.specs.declared.refusal.Refusal.TheVariants.{Lattice, Rotations, Translations}

-- A list, or a refusal.
pub data ListOutcome (A : Type 0) : Type 0 where
  group : List A → ListOutcome A
  refused : Refusal → ListOutcome A

-- 13 says that the list passes 96 or an entry leaves −1..1, 14 that two translations came for one rotation and flag.
abbrev pub of_verdict : {A : Type 0} → Verdict A → ListOutcome A
of_verdict (listed l steps) = group l
of_verdict overgrown = refused Rotations
of_verdict torn = refused Translations

-- 12 goes before both: a generator does not map L onto L.
abbrev pub after_off : {A : Type 0} → ℕ → ℕ → ListOutcome A → ListOutcome A
after_off off count answer = cond (ltb off count) (refused (Lattice off)) answer

-- The generators without their flags.
abbrev pub plain_of : List (Flagged Operation) → List Operation
plain_of gens = map (λ (g : Flagged Operation). g.element) gens

-- The numbers in list order, or why there are none.
unfoldable pub number_outcome : Centering → List (Flagged Operation) → ListOutcome ℕ
number_outcome c gens =
    let answer = of_verdict (on_growth (number_growth c 96 (map flagged_number gens))) in
    after_off (first_off c (plain_of gens)) (length gens) answer

-- How many are listed,
abbrev pub answer_by : {A : Type 0} → ListOutcome A → Result ℕ Refusal
answer_by (group l) = Ok (length l)
answer_by (refused r) = Err r

-- and the 96 slots: the list, and behind it the identity.
abbrev pub slots_by : ListOutcome ℕ → List ℕ
slots_by (group l) = padded 96 unit_number l
slots_by (refused r) = padded 96 unit_number []
