-- The two tests pass exactly if the three lanes stand for entries in −1..1; then a lane's low byte is the digit.
use mathlib.Core.Path.{sym, ◌∙◌, ap}
use Prim.Native.Nat.{ℕ, ◌+◌, ◌/◌, ◌%◌}
use native.Mathlib.Omega.{arith}
use Rattle.operation.specs.Lanes.{fours_of}
use Rattle.operation.specs.Columns.{lane, column-off, column-off-next, column-right}
use Rattle.operation.specs.Product.{column_times}
use Rattle.std.proofs.Common.{Some}
use Rattle.operation.proofs.product.column_times.Goals as goal
use Rattle.operation.proofs.product.column_times.Goals.{then-fours-via-then-fours, then-fours-via-else-fours+then-fours-2}

pub returns-then-fours : goal.returns-then-fours
unfolding column_times
returns-then-fours c =
    let a = c.args in
    let r = a.r in
    let raised = c.raised_column-raised.ensures.0 in
    elim c.then-fours.branch [
      | then-fours-via-then-fours w ↦ sym (column-off _ _ _ _ _ _
          (lane r.xx r.xy r.xz a.a a.b a.c (omega arith) (omega arith) (omega arith) (omega arith) (omega arith) (omega arith))
          (lane r.yx r.yy r.yz a.a a.b a.c (omega arith) (omega arith) (omega arith) (omega arith) (omega arith) (omega arith))
          (lane r.zx r.zy r.zz a.a a.b a.c (omega arith) (omega arith) (omega arith) (omega arith) (omega arith) (omega arith))
          (λ e. w.if-fours.true (c.fours.ensures ∙ ap fours_of raised ∙ e)))
      | then-fours-via-else-fours+then-fours-2 w ↦ sym (column-off-next _ _ _ _ _ _
          (lane r.xx r.xy r.xz a.a a.b a.c (omega arith) (omega arith) (omega arith) (omega arith) (omega arith) (omega arith))
          (lane r.yx r.yy r.yz a.a a.b a.c (omega arith) (omega arith) (omega arith) (omega arith) (omega arith) (omega arith))
          (lane r.zx r.zy r.zz a.a a.b a.c (omega arith) (omega arith) (omega arith) (omega arith) (omega arith) (omega arith))
          (λ e. w.if-fours-2.true (w.fours-else-fours.ensures ∙ ap (λ n. fours_of (n + 4398048608257)) raised ∙ e)))
    ]

pub returns : goal.returns
unfolding column_times
returns c =
    let a = c.args in
    let r = a.r in
    let raised = c.raised_column-raised.ensures.0 in
    ap (λ (n : ℕ). Some (record { x = n % 256; y = n / 2097152 % 256; z = n / 4398046511104 % 256 })) raised ∙
    column-right _ _ _ _ _ _
    (lane r.xx r.xy r.xz a.a a.b a.c (omega arith) (omega arith) (omega arith) (omega arith) (omega arith) (omega arith))
    (lane r.yx r.yy r.yz a.a a.b a.c (omega arith) (omega arith) (omega arith) (omega arith) (omega arith) (omega arith))
    (lane r.zx r.zy r.zz a.a a.b a.c (omega arith) (omega arith) (omega arith) (omega arith) (omega arith) (omega arith))
    (sym (ap fours_of raised) ∙ sym c.fours.ensures ∙ c.if-fours.false)
    (sym (ap (λ n. fours_of (n + 4398048608257)) raised) ∙ sym c.fours-else-fours.ensures ∙ c.if-fours-2.false)
