-- A translation is in its own class.
use Rattle.std.proofs.Common.{refl, sym, ◌∙◌, eq-eqb}
use Rattle.packed_operation.specs.Number.{translation_said}
use Rattle.space_group.specs.Places.{class-self}
use Rattle.space_group.proofs.traverse.agrees.Goals as goal

pub returns-then-p-listed : goal.returns-then-p-listed
returns-then-p-listed c =
    rw c.if-p-listed.true (eq-eqb c.args.listed c.args.listed refl ∙ sym (class-self c.args.c (translation_said c.args.listed)))
