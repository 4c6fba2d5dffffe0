-- A text that grows: what stands in it stays, and more is written behind that.
use Rattle.std.specs.Prelude.{List, ℕ}
use Rattle.placed_text.specs.Placing.{Put}
use Rattle.answer_text.specs.declared.AnswerText.{AnswerText}

-- A text was written behind another.
abbrev pub Behind : AnswerText → List ℕ → AnswerText → Type 0
Behind before text after = Put before.bytes before.length text after.bytes after.length
