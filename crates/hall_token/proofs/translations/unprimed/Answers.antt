-- The library's search for the byte of a prime.
use Rattle.std.proofs.Common.{not, ◌∙◌, ap}
use Rattle.hall_token.specs.Runs.{none-primed}
use Rattle.hall_token.proofs.translations.unprimed.Goals as goal

pub returns : goal.returns
returns c = ap not c.contains.ensures.value ∙ none-primed c.args.run.now
