-- Each piece that is read is answered behind those before it, and at the end of the input all of it is.
use Rattle.hall.specs.Moved.{begun, moved-on, moved-whole}
use Rattle.hall.proofs.read_all.Goals as goal

pub loop-init : goal.loop-init
loop-init g c = begun _ _ c.fresh-kept.result c.fresh-kept.ensures

pub returns-in-End : goal.returns-in-End
returns-in-End g c =
    let (before, first) = c.loop.invariant in
    let ((piece, second), end) = c.in-End.ensures in
    moved-whole _ _ _ _ _ _ (moved-on _ _ _ _ _ _ _ _ _ before piece first second) end

pub loop-preserved : goal.loop-preserved
loop-preserved g c =
    let (before, first) = c.loop.invariant in
    let (piece, second) = c.in-More.ensures in
    (_, moved-on _ _ _ _ _ _ _ _ _ before piece first second)
