-- What the library's search for a byte that fails the test gives.
use Rattle.std.proofs.Common.{rules, not, ◌∙◌}
use borrow.Author.Tests.{tests}
use Rattle.std.proofs.lemmas.Iterator.{YieldsList-from_slice}
use Rattle.std.proofs.lemmas.Iterator.Search.{position_from_yields_List}
use Rattle.hall_token.specs.Bytes.{run_byte_of}
use Rattle.hall_token.specs.Runs.{no_screw}
use Rattle.hall_token.specs.Offsets.{found-failing}
use Rattle.hall_token.proofs.offsets.digit_place.Goals as goal

pub returns : goal.returns
returns c =
    position_from_yields_List (λ b. not (no_screw (run_byte_of b))) _ _ _ c.position.ensures.ran (YieldsList-from_slice _ c.iter.ensures.rest)
    (λ x b q k. search (rules, tests))
    ∙ found-failing no_screw c.args.run.now
