-- The least rank so far and those of the points that are left come to the least rank of all.
use Rattle.std.proofs.Common.{◌≡◌, ◌<◌, min, drop, map}
use Rattle.laws.specs.Lattice.{least_rank}
use Rattle.centering.specs.Lattices.{triple_of, lattice_points_of}
use Rattle.centering.proofs.Centering.smallest.Given as goal

abbrev pub invariant-loop-point : goal.invariant-loop-point
invariant-loop-point l =
    (l.least < 1728) × (l.point-items ≡ drop 1 (lattice_points_of l.fn.self).points)
    × (min l.least (least_rank (map triple_of (drop l.point-index l.point-items)) (triple_of l.fn.t))
    ≡ least_rank (map triple_of (lattice_points_of l.fn.self).points) (triple_of l.fn.t))
