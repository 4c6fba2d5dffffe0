-- What the bytes are decides between 34 and the rest, the determinant between 42 and the rest, and the room is left to the last call.
use Rattle.std.proofs.lemmas.Bool.{not_from_false, not_from_true}
use mathlib.Core.Path.{sym, ◌∙◌}
use native.Mathlib.Omega.{arith}
use borrow.Author.Tests.{not-true, not-false}
use Rattle.five_bytes.specs.OneForm.{bytes-again}
use Rattle.operation_line.specs.Placed.{no-operation, no-determinant, by-room}
use Rattle.line_writing.proofs.write_line.Goals as goal

pub returns-in_default : goal.returns-in_default
returns-in_default c =
    no-operation c.args.bytes.now c.args.out.now (sym c.operation_in.ensures ∙ c.in_default.is)

pub returns-then-not-is_writable : goal.returns-then-not-is_writable
returns-then-not-is_writable c =
    no-determinant c.args.bytes.now c.args.out.now _
    (sym c.operation_in.ensures ∙ c.in-Some.is)
    (sym c.is_writable.ensures ∙ not-true _ (not_from_false _ c.if-not-is_writable.true))

pub write_fitting-requires : goal.write_fitting-requires
write_fitting-requires c =
    (bytes-again c.args.bytes.now _ (λ i. omega (arith, c.shared_slice_known-1.given i))
    (sym c.operation_in.ensures ∙ c.in-Some.is)).1

pub returns : goal.returns
returns c =
    by-room c.args.bytes.now c.args.out.now _ _ _
    (sym c.operation_in.ensures
    ∙ c.in-Some.is)
    (sym c.is_writable.ensures ∙ not-false _ (not_from_true _ c.if-not-is_writable.false))
    c.write_fitting.ensures
