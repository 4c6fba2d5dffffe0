-- Where the code fits, the comparison with the smallest triple decides.
use native.Mathlib.Omega.{arith}
use mathlib.Core.Path.{◌∙◌}
use borrow.Author.Tests.{le-ltb}
use Rattle.laws.specs.Lattice.{same_triple}
use Rattle.group_record.specs.Reading.{is_item}
use Rattle.group_record.specs.ReadingTests.{item-by-smallest}
use Rattle.group_record.proofs.items.is_item.Goals as goal

pub returns-then-item-lt19683 : goal.returns-then-item-lt19683
unfolding same_triple
returns-then-item-lt19683 c = c.eq.ensures ∙ rw c.smallest.ensures (item-by-smallest _ _ (omega arith))

pub returns-else-item-lt19683 : goal.returns-else-item-lt19683
unfolding is_item
returns-else-item-lt19683 c = simp (le-ltb _ 19683 c.if-item-lt19683.false)
