-- The letter and the count on a line, and the operations behind it.
use native.Mathlib.Omega.{arith}
use Rattle.answer_text.specs.Words.{newline, line_of}
use Rattle.answer_text.specs.Lines.{number-word-short}
use Rattle.placed_text.specs.Placing.{put_then}
use Rattle.answer_text.proofs.AnswerText.put_group.Goals as goal

pub put_operations-requires : goal.put_operations-requires
put_operations-requires c =
    let short = number-word-short c.args.n newline (omega (arith, c.requires.0)) in (
      c.requires.0,
      omega (arith, c.requires.1),
      c.requires.2,
      omega (arith, c.requires.3, c.requires.0, c.put_bytes.ensures.place, c.put_number.ensures.place),
    )

pub returns : goal.returns
unfolding line_of
returns c = put_then (put_then c.put_bytes.ensures c.put_number.ensures) c.put_operations.ensures
