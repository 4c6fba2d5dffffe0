-- The symbol's line and the answer behind it are the text, and it fits.
use mathlib.Core.List.{[], ◌∷◌}
use native.Mathlib.Omega.{arith}
use lib.ListN.{take, length-take, length-append}
use Rattle.answer_text.specs.Words.{newline}
use Rattle.answer_text.specs.Answering.{answer-put}
use Rattle.placed_text.specs.Placing.{put_then}
use Rattle.answer_text.proofs.answer_text.Goals as goal

pub put_answer-requires : goal.put_answer-requires
put_answer-requires c =
    let line = c.args.line.now in
    omega (arith, c.put_symbol.ensures.place, length-append (take 80 line) (newline ∷ []), length-take 80 line)

pub returns : goal.returns
returns c = answer-put c.args.line.now _ _ (put_then c.put_symbol.ensures c.put_answer.ensures)
