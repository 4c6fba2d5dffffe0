-- One digit or two.
use native.Mathlib.Omega.{arith}
use lib.ListN.{length-set}
use Rattle.placed_text.specs.Placing.{put_byte, put_two, put-named}
use Rattle.operation_line.specs.Building.{one-digit, two_digits}
use Rattle.line_writing.proofs.put_numeral.Goals as goal

pub returns-then-n-lt10 : goal.returns-then-n-lt10
returns-then-n-lt10 c = put-named (one-digit c.args.n c.if-n-lt10.true) (put_byte c.args.out.now c.args.at _)

pub bounds-out-at-3 : goal.bounds-out-at-3
bounds-out-at-3 c = simp length-set (omega arith)

pub returns : goal.returns
returns c = put-named (two_digits c.args.n c.if-n-lt10.false) (put_two c.args.out.now c.args.at _ _)
