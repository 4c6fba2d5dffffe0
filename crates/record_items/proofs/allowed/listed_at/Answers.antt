use mathlib.Core.Path.{◌≡◌, sym, ◌∙◌}
use native.Mathlib.Omega.{arith}
use Rattle.group_record.specs.Record.{item_of}
use Rattle.group_record.specs.Reading.{alike_items}
use Rattle.group_record.specs.BothEditions.{edition_of, width_in, item-inside}
use Rattle.group_record.specs.Walk.{next-item, none_left}
use Rattle.record_items.specs.Items.{items_of, item_at}
use Rattle.group_record.specs.Closing.{place-next, place-stop, place_end}
use Rattle.record_items.proofs.allowed.listed_at.Goals as goal

pub loop-i-init : goal.loop-i-init
loop-i-init c = omega arith

pub alike-requires : goal.alike-requires
alike-requires c = item-inside c.args.edition c.loop-i.i c.args.n _ (omega arith) c.requires.1

pub returns-then-alike : goal.returns-then-alike
unfolding item_at
returns-then-alike c =
    let code = c.rotation_code-code.ensures in
    let found =
    sym (place-stop (alike_items c.args.c) (item_of c.args.f) (items_of c.args.edition c.args.n c.args.bytes.now) c.loop-i.i _
    (next-item (width_in c.args.edition) (edition_of c.args.edition).read c.args.n c.args.bytes.now c.loop-i.i (omega arith))
    (rw (← code) (sym c.alike.ensures ∙ c.if-alike.true))) ∙ c.loop-i.invariant in
    (found, omega arith)

pub loop-i-preserved : goal.loop-i-preserved
unfolding item_at
loop-i-preserved c =
    let code = c.rotation_code-code.ensures in
    sym (place-next (alike_items c.args.c) (item_of c.args.f) (items_of c.args.edition c.args.n c.args.bytes.now) c.loop-i.i _
    (next-item (width_in c.args.edition) (edition_of c.args.edition).read c.args.n c.args.bytes.now c.loop-i.i (omega arith))
    (rw (← code) (sym c.alike.ensures ∙ c.if-alike.false))) ∙ c.loop-i.invariant

pub returns : goal.returns
returns c =
    let all-passed : c.args.n ≡ c.loop-i.i = omega arith in (
      all-passed
          ∙ sym (place_end (alike_items c.args.c) (item_of c.args.f) (items_of c.args.edition c.args.n c.args.bytes.now) c.loop-i.i
          (none_left (width_in c.args.edition) (edition_of c.args.edition).read c.args.n c.args.bytes.now c.loop-i.i (omega arith) (omega arith)))
          ∙ c.loop-i.invariant,
      tt,
    )
