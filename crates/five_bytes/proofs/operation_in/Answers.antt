-- Five bytes and no others are looked at; then the coordinates decide, then the code.
use Rattle.std.proofs.lemmas.Bool.{not_from_false, not_from_true}
use Rattle.std.proofs.Common.{◌≡◌, ◌+◌, ◌*◌, length, arith}
use borrow.Author.Tests.{eq-eqb, not-true, not-false}
use mathlib.Core.Path.{sym, ◌∙◌, ap}
use Rattle.five_bytes.specs.FiveBytes.{five_bytes_of, translation_in, with_translation, wrong-length}
use Rattle.five_bytes.specs.OneForm.{code-decides}
use Rattle.operation.specs.Code.{decoded_of}
use Rattle.five_bytes.proofs.operation_in.Goals as goal

pub returns-in_default : goal.returns-in_default
returns-in_default c = wrong-length _ (λ five. omega arith)

pub returns-in_default-2 : goal.returns-in_default-2
returns-in_default-2 c = wrong-length _ (λ five. omega arith)

pub returns-then-not-below_twelve : goal.returns-then-not-below_twelve
unfolding five_bytes_of
returns-then-not-below_twelve c =
    let five : length c.args.bytes.now ≡ 5 = omega arith in
    simp (eq-eqb _ _ five, sym c.below_twelve.ensures ∙ not-true _ (not_from_false _ c.if-not-below_twelve.true))

pub returns : goal.returns
returns c =
    let bytes = c.args.bytes.now in
    let five : length bytes ≡ 5 = omega arith in
    c.with_translation.ensures
    ∙ ap (λ d. with_translation d (translation_in bytes)) (c.rotation_of_code.ensures ∙ λ i. decoded_of (c.from.ensures i * 256 + c.from-2.ensures i))
    ∙ code-decides bytes five (sym c.below_twelve.ensures ∙ not-false _ (not_from_true _ c.if-not-below_twelve.false))
