-- Too few bytes, or the catalogue that is found there, its answer, and the catalogue behind it.
use mathlib.Core.Path.{◌≡◌, refl, sym, ◌∙◌, ap, subst}
use lib.ListN.{length}
use borrow.Author.Tests.{lt-ltb, le-ltb}
use Rattle.catalogue.specs.Answers.{catalogue_answer}
use Rattle.catalogue.specs.declared.Catalogue.{Catalogue}
use Rattle.catalogue.specs.declared.Step.{Step}
use Rattle.catalogue_numbers.specs.CatalogueBounds.{Tellable, step-short}
use Rattle.catalogue_numbers.specs.Catalogues.{catalogue_in, put_back, step_number, step_of, room_of}
use Rattle.answer_numbers.specs.Packing.{packed, mapped}
use Rattle.catalogue_numbers.proofs.stepped.Goals as goal

pub returns-then-state-lt81 : goal.returns-then-state-lt81
returns-then-state-lt81 c =
    let state = c.args.state.now in
    let few = lt-ltb (length state) 81 c.if-state-lt81.true in
    (c.refused.ensures ∙ rw few refl, rw few refl, rw few refl)

pub answered-requires : goal.answered-requires
answered-requires c =
    let state = c.args.state.now in
    let piece = c.args.piece.now in
    let out = c.args.out.now in
    let ends = c.args.ends in
    let found = c.catalogue_in-before.ensures in
    let step : c.taken-step.result ≡ step_of ends (catalogue_in state) piece out = c.taken-step.ensures.0
    ∙ ap (λ (k : Catalogue). step_of ends k piece out) found in
    subst (λ (t : Step). Tellable t.answer) (sym step) (step-short ends (catalogue_in state) piece out)

pub returns : goal.returns
returns c =
    let state = c.args.state.now in
    let piece = c.args.piece.now in
    let out = c.args.out.now in
    let ends = c.args.ends in
    let found = c.catalogue_in-before.ensures in
    let enough = le-ltb (length state) 81 c.if-state-lt81.false in
    let step : c.taken-step.result ≡ step_of ends (catalogue_in state) piece out = c.taken-step.ensures.0
    ∙ ap (λ (k : Catalogue). step_of ends k piece out) found in (
      rw enough (c.answered.ensures ∙ ap (λ (t : Step). packed (mapped step_number (catalogue_answer t.answer))) step),
      rw enough (c.put_back.ensures ∙ ap (λ (t : Step). put_back t.catalogue state) step),
      rw enough (c.taken-step.ensures.1 ∙ ap (λ (k : Catalogue). room_of ends k piece out) found),
    )
