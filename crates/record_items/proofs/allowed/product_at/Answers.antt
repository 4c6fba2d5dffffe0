-- By cases of the product: its place is sought, and where there is none it is behind the last.
use mathlib.Core.Path.{sym, ◌∙◌, ap}
use Rattle.group_record.specs.Closing.{product_at}
use Rattle.record_items.specs.Items.{items_of, items-count}
use Rattle.record_items.proofs.allowed.product_at.Goals as goal

pub returns-in_default : goal.returns-in_default
returns-in_default c =
    let items = items_of c.args.edition c.args.n c.args.bytes.now in
    let outside = sym c.mul.ensures ∙ c.in_default.is in
    (sym (items-count c.args.edition c.args.n c.args.bytes.now) ∙ ap (product_at c.args.c items) (sym outside), tt)

pub returns : goal.returns
returns c =
    let inside = sym c.in-Some.is ∙ c.mul.ensures in
    (c.listed_at.ensures.0 ∙ ap (product_at c.args.c (items_of c.args.edition c.args.n c.args.bytes.now)) inside, c.listed_at.ensures.1)
