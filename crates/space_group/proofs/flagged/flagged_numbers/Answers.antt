use Rattle.std.proofs.Common.{◌≡◌, ◌++◌, map, ℕ, false, length, take, drop, set, sym, ◌∙◌, ap, ap₂, arith}
use Rattle.std.proofs.Math.Seq.{take_all}
use Rattle.group_growth.specs.Flagged.{flagged_by}
use Rattle.operation.specs.Product.{identity_operation}
use Rattle.space_group.specs.NumberSlots.{filled_more}
use Rattle.space_group.specs.FlaggedGenerators.{with_flags, flagged_number, with-length, with_at}
use Rattle.space_group.proofs.flagged.flagged_numbers.Goals as goal

pub loop-i-preserved : goal.loop-i-preserved
loop-i-preserved c =
    let gens = c.args.generators.now in
    let flags = c.args.flags.now in
    let i = c.loop-i.i in
    let long = with-length gens flags in
    let next = c.flagged_number.ensures
    ∙ ap flagged_number (sym (with_at gens flags i _ _ (flagged_by false identity_operation) (omega arith) (omega arith))) in
    ap₂ (λ m x. set m i x) c.loop-i.invariant next
    ∙ filled_more flagged_number (with_flags gens flags) c.args.numbers.now i _ (omega arith) (omega arith)

pub returns : goal.returns
returns c =
    let gens = c.args.generators.now in
    let flags = c.args.flags.now in
    let all : c.loop-i.i ≡ length gens = omega arith in
    let long = with-length gens flags in
    c.loop-i.invariant ∙ ap (λ (i : ℕ). map flagged_number (take i (with_flags gens flags)) ++ drop i c.args.numbers.now) all
    ∙ ap (λ l. map flagged_number l ++ drop (length gens) c.args.numbers.now) (take_all (length gens) (with_flags gens flags) (omega arith))
