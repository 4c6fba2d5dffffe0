-- The item decides without the flag; then the flag does.
use mathlib.Core.Path.{sym, ◌∙◌, ap}
use Prim.Native.Nat.{ℕ}
use lib.Dec.{leb}
use Rattle.group_record.specs.Reading.{is_item}
use Rattle.magnetic_record_reading.specs.Search.{item_at, not_plain, by_flag}
use Rattle.magnetic_record_reading.proofs.reader.is_item.Goals as goal

pub returns-then-is_item : goal.returns-then-is_item
returns-then-is_item c =
    let item = c.is_item.ensures ∙ ap (is_item c.args.c) c.plain_at.ensures in
    ap (λ (n : ℕ). leb n 1) c.flag_at.ensures ∙ sym (by_flag c.args.c (item_at c.args.bytes.now c.args.i) (sym item ∙ c.if-is_item.true))

pub returns-else-is_item : goal.returns-else-is_item
returns-else-is_item c =
    let item = c.is_item.ensures ∙ ap (is_item c.args.c) c.plain_at.ensures in
    c.if-is_item.false ∙ sym (not_plain c.args.c (item_at c.args.bytes.now c.args.i) (sym item ∙ c.if-is_item.false))
