-- The example of R9: the whole output for the two lines `-P 1` and `P 1a`.
use Rattle.std.specs.Prelude.{◌≡◌, [], ◌∷◌}
use Rattle.std.proofs.Common.{ap}
use Rattle.answer_text.specs.Example as text
use Rattle.lines.specs.Lines.{last_line, lines_from, in_a_row}
use Rattle.hall.specs.Output.{output_of}

pub example : output_of (text.lines_in ("-P 1" ∷ "P 1a" ∷ []))
    ≡ text.lines_in ("-P 1" ∷ "P 2" ∷ "-1 0 0 0 -1 0 0 0 -1 0 0 0" ∷ "1 0 0 0 1 0 0 0 1 0 0 0" ∷ "P 1a" ∷ "refused 14 0" ∷ [])
unfolding output_of last_line lines_from in_a_row
example = ap in_a_row text.example
