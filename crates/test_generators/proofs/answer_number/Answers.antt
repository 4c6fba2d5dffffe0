-- The case of the answer and what each call says of its parts.
use Rattle.test_generators.specs.Packed.{packed-symbol, packed-refused}
use Rattle.test_generators.proofs.answer_number.Goals as goal

pub returns-in-Symbol : goal.returns-in-Symbol
returns-in-Symbol c = packed-symbol c.args.symbol c.byte.result c.in-Symbol.is c.byte.ensures

pub returns-in-Refused : goal.returns-in-Refused
returns-in-Refused c = packed-refused c.args.symbol _ c.number-number.result c.place.result c.in-Refused.is c.number-number.ensures c.place.ensures
