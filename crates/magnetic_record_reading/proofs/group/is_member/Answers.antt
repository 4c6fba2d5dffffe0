-- A conjunction: what the number says keeps the lattice, and then its products decide.
use mathlib.Core.Path.{◌≡◌, sym, ◌∙◌, ap}
use Rattle.operation.specs.declared.Operation.{Operation}
use Rattle.centering.specs.Keeps.{keeps_of}
use Rattle.group_record.specs.Reading.{keeps_item}
use Rattle.magnetic_record.specs.Reading.{flagged_member}
use Rattle.magnetic_record_reading.specs.Search.{item_at}
use Rattle.magnetic_record_reading.specs.Numbers.{keeps-said}
use Rattle.magnetic_record_reading.proofs.group.is_member.Goals as goal

pub returns-then-keeps : goal.returns-then-keeps
unfolding flagged_member
returns-then-keeps c =
    let kept : c.keeps.result ≡ keeps_item c.args.c (item_at c.args.bytes.now c.args.i).plain =
    c.keeps.ensures ∙ ap (λ (o : Operation). keeps_of c.args.c o.rotation) c.said.ensures
    ∙ keeps-said c.args.c (item_at c.args.bytes.now c.args.i) _ (c.requires.1 c.args.i c.requires.2) in
    rw (sym kept ∙ c.if-keeps.true) c.are_products.ensures

pub returns-else-keeps : goal.returns-else-keeps
unfolding flagged_member
returns-else-keeps c =
    let kept : c.keeps.result ≡ keeps_item c.args.c (item_at c.args.bytes.now c.args.i).plain =
    c.keeps.ensures ∙ ap (λ (o : Operation). keeps_of c.args.c o.rotation) c.said.ensures
    ∙ keeps-said c.args.c (item_at c.args.bytes.now c.args.i) _ (c.requires.1 c.args.i c.requires.2) in
    rw (sym kept ∙ c.if-keeps.false) c.if-keeps.false
