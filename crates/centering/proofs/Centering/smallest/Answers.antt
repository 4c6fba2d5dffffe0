-- The first point's rank, then the lesser of the least so far and the next point's.
use Rattle.std.proofs.Common.{◌≡◌, ◌∙◌, List, ℕ, ap, ap₂, map, min, length, drop, get_or, take, arith}
use Rattle.operation.specs.declared.Translation.{Translation}
use Rattle.laws.specs.Lattice.{rank, least_rank}
use Rattle.laws.specs.Residue.{◌⊕◌}
use Rattle.centering.specs.declared.LatticePoints.{LatticePoints}
use Rattle.centering.specs.Lattices.{triple_of}
use Rattle.centering.specs.PointSearch.{rest-listed, least-first, least-next, least_end, least-smallest}
use Rattle.centering.proofs.Centering.smallest.Goals as goal

pub loop-point-init : goal.loop-point-init
loop-point-init c =
    let a = c.args in
    let rest = rest-listed a.self _ c.lattice_points.ensures.points in (
      c.moved_rank-least.ensures.1,
      rest,
      ap₂ min
          (c.moved_rank-least.ensures.0 ∙ ap (λ (p : LatticePoints). rank (triple_of a.t ⊕ triple_of (get_or p.points 0 _))) c.lattice_points.ensures.points)
          (ap (λ (l : List Translation). least_rank (map triple_of l) (triple_of a.t)) rest)
          ∙ least-first a.self (triple_of a.t) _,
    )

pub loop-point-preserved : goal.loop-point-preserved
loop-point-preserved c =
    let next = least-next (take 3 (drop 1 c.lattice_points.result.points)) (triple_of c.args.t) c.loop-point.point-index (omega arith) in
    let lesser = c.min-least.ensures in
    let moved = c.moved_rank.ensures in
    (omega arith, c.loop-point.invariant.1, omega arith)

pub returns : goal.returns
returns c =
    let l = take 3 (drop 1 c.lattice_points.result.points) in
    let end = least_end l (triple_of c.args.t) in
    let done : c.loop-point.point-index ≡ length l = omega arith in
    let least = ap (λ (n : ℕ). least_rank (map triple_of (drop n l)) (triple_of c.args.t)) done ∙ end in
    c.of_rank.ensures ∙ least-smallest c.args.self c.args.t _ (omega (arith, c.loop-point.invariant.2, c.loop-point.invariant.0, least))
