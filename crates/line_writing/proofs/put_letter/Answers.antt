-- Nothing for the entry 0; otherwise the sign, then the letter.
use mathlib.Core.Path.{sym, ap}
use native.Mathlib.Omega.{arith}
use lib.Dec.{eqb}
use Rattle.placed_text.specs.Placing.{put_byte, put-nothing, put_then, put-named}
use Rattle.operation_line.specs.Building.{letter_bytes, letter-signed, sign-short}
use Rattle.line_writing.proofs.put_letter.Goals as goal

pub returns-then-digit-eq1 : goal.returns-then-digit-eq1
returns-then-digit-eq1 c = put-named (sym (ap (letter_bytes c.args.first c.args.letter) c.if-digit-eq1.true)) (put-nothing c.args.out.now c.args.at)

pub bounds-out-next : goal.bounds-out-next
bounds-out-next c =
    omega (
      arith,
      c.put_sign-next.ensures.place,
      c.put_sign-next.auto.out,
      sign-short c.args.first (eqb c.args.digit 0),
    )

pub overflow_add-result : goal.overflow_add-result
overflow_add-result c =
    omega (
      arith,
      c.put_sign-next.ensures.place,
      sign-short c.args.first (eqb c.args.digit 0),
    )

pub returns : goal.returns
returns c =
    put-named (letter-signed c.args.first c.args.letter c.args.digit c.if-digit-eq1.false)
    (put_then c.put_sign-next.ensures (put_byte _ _ _))
