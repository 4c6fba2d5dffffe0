-- What `is_point` finds of the difference.
use Rattle.laws.specs.Distinct.{has}
use Rattle.laws.specs.Lattice.{same_triple}
use Rattle.centering.specs.Letters.{points_of}
use mathlib.Core.Path.{◌∙◌, ap}
use Rattle.centering.specs.Lattices.{contains_of, triple_of, difference-origin}
use Rattle.centering.proofs.Centering.contains.Goals as goal

pub returns : goal.returns
unfolding contains_of
returns c =
    c.is_point.ensures ∙
    ap (λ u. has same_triple u (points_of c.args.self)) (ap triple_of c.difference.ensures
    ∙ difference-origin c.args.t)
