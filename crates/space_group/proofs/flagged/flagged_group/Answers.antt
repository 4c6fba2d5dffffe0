-- The first n of nine generators, or all of them; the identity is written behind the list.
use Rattle.std.proofs.Common.{set, sym, ◌∙◌, ap, rules, length-set}
use Rattle.space_group.specs.FlaggedSlots.{answered, flagged-told}
use Rattle.space_group.proofs.flagged.flagged_group.Goals as goal

pub returns-in-Ok : goal.returns-in-Ok
returns-in-Ok c =
    let part = c.fill.ensures.after (λ y h. search rules) in
    let both = flagged-told c.args.c c.args.n c.args.generators c.args.flags (search rules) (search rules) c.min-used.result c.min-used.ensures _
    c.flagged_numbers.ensures c.listed-ended.result (set c.args.numbers.now 0 9152337073407010) c.listed-ended.new.numbers _ _ c.listed-ended.ensures
    (simp length-set (search rules)) (search rules) c.unwrap_or.result c.unwrap_or.ensures _ part in
    (sym (ap answered c.in-Ok.is) ∙ both.0, both.1)

pub returns-in-Err : goal.returns-in-Err
returns-in-Err c =
    let part = c.fill.ensures.after (λ y h. search rules) in
    let both = flagged-told c.args.c c.args.n c.args.generators c.args.flags (search rules) (search rules) c.min-used.result c.min-used.ensures _
    c.flagged_numbers.ensures c.listed-ended.result (set c.args.numbers.now 0 9152337073407010) c.listed-ended.new.numbers _ _ c.listed-ended.ensures
    (simp length-set (search rules)) (search rules) c.unwrap_or.result c.unwrap_or.ensures _ part in
    (sym (ap answered c.in-Err.is) ∙ both.0, both.1)
