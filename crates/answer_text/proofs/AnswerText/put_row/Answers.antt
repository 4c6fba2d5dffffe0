-- Three words, one behind the other.
use native.Mathlib.Omega.{arith}
use Rattle.answer_text.specs.Lines.{row_words, entry-word-short}
use Rattle.placed_text.specs.Placing.{put_then}
use Rattle.answer_text.proofs.AnswerText.put_row.Goals as goal

pub put_entry-requires-2 : goal.put_entry-requires-2
put_entry-requires-2 c = omega (arith, c.requires, c.put_entry.ensures.place, entry-word-short c.args.first c.requires.0)

pub put_entry-requires-3 : goal.put_entry-requires-3
put_entry-requires-3 c =
    omega (
      arith,
      c.requires,
      c.put_entry.ensures.place,
      c.put_entry-2.ensures.place,
      entry-word-short c.args.first c.requires.0,
      entry-word-short c.args.second c.requires.1,
    )

pub returns : goal.returns
unfolding row_words
returns c = put_then c.put_entry.ensures (put_then c.put_entry-2.ensures c.put_entry-3.ensures)
