-- All points behind the first stay in the lattice exactly if all do.
use Rattle.std.proofs.Common.{rules, ◌∙◌}
use borrow.Author.Tests.{tests}
use Rattle.std.proofs.lemmas.Iterator.{YieldsList-from_slice}
use Rattle.std.proofs.lemmas.Iterator.Search.{all_from_yields_List}
use Rattle.operation.specs.Product.{rotated_of}
use Rattle.centering.specs.Lattices.{contains_of}
use Rattle.centering.specs.Keeps.{stays_in, stays-contains, keeps-start}
use Rattle.centering.specs.PointSearch.{others-pass}
use Rattle.centering.proofs.keeps_points.Goals as goal

pub returns : goal.returns
returns c =
    let a = c.args in
    all_from_yields_List (λ p. contains_of a.c (rotated_of a.r p)) _ _ _ c.all.ensures.ran (YieldsList-from_slice _ c.iter.ensures.rest)
    (λ x b q k. search (rules, tests))
    ∙ others-pass a.c _ c.lattice_points-found.ensures.points _ (stays_in a.c a.r) (stays-contains a.c a.r) ∙ keeps-start a.c a.r
