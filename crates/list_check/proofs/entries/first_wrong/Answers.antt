-- The search goes over the entries' numbers.
use borrow.Author.Rules.{rules}
use mathlib.Core.Path.{◌≡◌}
use mathlib.Core.Bool.{true, false}
use Rattle.std.proofs.lemmas.Iterator.{first_from_Range}
use Rattle.list_check.specs.Checked.{entry_count, wrong_at}
use Rattle.list_check.specs.Slots.{below-by}
use Rattle.list_check.proofs.entries.first_wrong.Goals as goal

pub returns : goal.returns
returns c =
    below-by (wrong_at c.args.list.now) (entry_count c.args.list.now) c.find.result
    (first_from_Range _ _ _ _ (λ i. wrong_at c.args.list.now i ≡ true) (λ i. wrong_at c.args.list.now i ≡ false) c.find.ensures.ran
    (λ x q k. search rules) (λ x q k. search rules))
