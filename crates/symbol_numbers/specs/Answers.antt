-- What the entries of the other rooms say where C asks for a part of it: a symbol's letter.
use Rattle.operation.specs.Answer.{Answer, given, refused, Nothing}
use Rattle.centering.specs.declared.Centering.{Centering}
use Rattle.symbol_group.specs.Refusals as symbol
use Rattle.symbol_group.specs.declared.Answer as symbol-answer
use Rattle.symbol_group.specs.declared.Answer.TheVariants as symbol-answers
use Rattle.symbol_group.specs.declared.SymbolGroup.{SymbolGroup}

-- The letter of a symbol's group.
abbrev pub letter_by : symbol-answer.Answer → Centering → Answer Centering Nothing
letter_by symbol-answers.Group c = given c
letter_by (symbol-answers.Refused r) c = refused (symbol.number_of r) (symbol.place_of r) tt

abbrev pub letter_answer : SymbolGroup → Answer Centering Nothing
letter_answer g = letter_by g.answer g.centering
