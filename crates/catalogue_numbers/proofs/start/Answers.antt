-- Too few bytes, or the status is 0.
use mathlib.Core.Path.{refl, ◌∙◌}
use borrow.Author.Tests.{lt-ltb, le-ltb}
use lib.ListN.{length}
use Rattle.catalogue_numbers.specs.CatalogueState.{start-put}
use Rattle.catalogue_numbers.proofs.start.Goals as goal

pub returns-then-state-lt81 : goal.returns-then-state-lt81
returns-then-state-lt81 c =
    let state = c.args.state.now in
    let few = lt-ltb (length state) 81 c.if-state-lt81.true in
    (c.refused.ensures ∙ rw few refl, rw few refl)

pub returns : goal.returns
returns c =
    let state = c.args.state.now in
    let enough = le-ltb (length state) 81 c.if-state-lt81.false in
    (rw enough refl, rw enough (start-put state c.if-state-lt81.false))
