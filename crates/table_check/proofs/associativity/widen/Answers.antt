-- The definition, image by image.
use mathlib.Core.Path.{refl}
use lib.Bits.{or_lt}
use Rattle.subgroup_laws.specs.Generators.{widened}
use Rattle.subgroup_laws.specs.Images.{image-below}
use Rattle.table_check.proofs.associativity.widen.Goals as goal

pub returns : goal.returns
unfolding widened
returns c =
    let right = c.image.ensures c.requires.0 c.requires.1 c.requires.2 c.requires.3 in
    let small = or_lt c.args.n c.args.s c.image.result c.requires.1 (rw right (image-below c.args.n _ c.args.s)) in
    rw (c.image-2.ensures c.requires.0 small c.requires.3 c.requires.2, right) refl
