-- The answer, packed, and the lent buffer as it was left.
use Rattle.std.specs.Prelude.{Result, ℕ}
use mathlib.Core.Path.{sym, ◌∙◌, ap, subst}
use native.Mathlib.Omega.{arith}
use lib.ListN.{length}
use Rattle.record_report.specs.Compared.{compared_answer}
use Rattle.answer_numbers.specs.Packing.{packed}
use Rattle.record_numbers.specs.ComparisonBounds.{Tellable, compared-within}
use Rattle.record_numbers.proofs.comparison.compare_records.Goals as goal
use Rattle.record_report.specs.declared.Incomparable.{Incomparable}

pub packed_answer-requires : goal.packed_answer-requires
packed_answer-requires c =
    let within =
    compared-within c.args.first.now c.args.second.now (length c.args.out.now)
    (λ i. omega (arith, c.shared_slice_known-1.given i))
    (λ i. omega (arith, c.shared_slice_known-2-1.given i)) in
    subst Tellable (sym c.compare_records.ensures.0) within

pub returns : goal.returns
returns c =
    (c.packed_answer.ensures ∙ ap (λ (a : Result ℕ Incomparable). packed (compared_answer a)) c.compare_records.ensures.0, c.compare_records.ensures.1)
