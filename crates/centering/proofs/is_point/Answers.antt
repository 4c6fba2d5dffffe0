-- The library's search through the four points finds a point exactly if there is one.
use Rattle.std.proofs.Common.{◌∙◌}
use Rattle.centering.specs.PointSearch.{found-among, same-flipped}
use Rattle.centering.proofs.is_point.Goals as goal

pub returns : goal.returns
returns c = c.contains.ensures.value ∙ found-among c.args.c _ c.lattice_points.ensures.points _ c.args.t (λ s. same-flipped s c.args.t)
