-- Three rows and three numbers, one behind the other; none is longer than its part of the line.
use native.Mathlib.Omega.{arith}
use Rattle.answer_text.specs.Lines.{line_parts, line-parts, plain-short}
use Rattle.placed_text.specs.Placing.{put_then, put-named}
use Rattle.answer_text.proofs.AnswerText.put_operation.Goals as goal

pub put_row-requires-2 : goal.put_row-requires-2
put_row-requires-2 c =
    let short = plain-short c.args.f c.requires.0 in
    omega (arith, c.requires.1, c.requires.0.digits, c.put_row.ensures.place)

pub put_row-requires-3 : goal.put_row-requires-3
put_row-requires-3 c =
    let short = plain-short c.args.f c.requires.0 in
    omega (arith, c.requires.1, c.requires.0.digits, c.put_row.ensures.place, c.put_row-2.ensures.place)

pub put_number-requires : goal.put_number-requires
put_number-requires c =
    let short = plain-short c.args.f c.requires.0 in
    omega (arith, c.requires.1, c.requires.0, c.put_row.ensures.place, c.put_row-2.ensures.place, c.put_row-3.ensures.place)

pub put_number-requires-2 : goal.put_number-requires-2
put_number-requires-2 c =
    let short = plain-short c.args.f c.requires.0 in
    omega (
      arith,
      c.requires.1,
      c.requires.0,
      c.put_row.ensures.place,
      c.put_row-2.ensures.place,
      c.put_row-3.ensures.place,
      c.put_number.ensures.place,
    )

pub put_number-requires-3 : goal.put_number-requires-3
put_number-requires-3 c =
    let short = plain-short c.args.f c.requires.0 in
    omega (
      arith,
      c.requires.1,
      c.requires.0,
      c.put_row.ensures.place,
      c.put_row-2.ensures.place,
      c.put_row-3.ensures.place,
      c.put_number.ensures.place,
      c.put_number-2.ensures.place,
    )

pub returns : goal.returns
unfolding line_parts
returns c =
    let parts =
    put_then c.put_row.ensures
    (put_then c.put_row-2.ensures
    (put_then c.put_row-3.ensures
    (put_then c.put_number.ensures
    (put_then c.put_number-2.ensures c.put_number-3.ensures)))) in
    put-named (line-parts c.args.f) parts
