-- By cases of the edition.
use mathlib.Core.Path.{◌≡◌, subst}
use Prim.Native.Nat.{ℕ, ◌+◌, ◌*◌, ◌≤◌}
use native.Mathlib.Omega.{arith}
use Rattle.group_record.specs.declared.Edition.{Edition}
use Rattle.group_record.specs.declared.Edition.TheVariants.{First, Third}
use Rattle.group_record.specs.BothEditions.{width_in}
use Rattle.record_items.specs.Items.{item_at}
use Rattle.record_items.proofs.items.item_at.Goals as goal

-- What is asked, of the edition that is told.
told-fits : (e k : Edition) (i size : ℕ) → e ≡ k → width_in e * i + width_in e ≤ size → width_in k * i + width_in k ≤ size
told-fits e k i size p h = subst (λ (d : Edition). width_in d * i + width_in d ≤ size) p h

pub overflow_mul-i : goal.overflow_mul-i
overflow_mul-i c = omega (arith, told-fits _ First _ _ c.in-First.is c.requires)

pub first_item-requires : goal.first_item-requires
first_item-requires c = omega (arith, told-fits _ First _ _ c.in-First.is c.requires)

pub overflow_mul-i-in-Third : goal.overflow_mul-i-in-Third
overflow_mul-i-in-Third c = omega (arith, told-fits _ Third _ _ c.in-Third.is c.requires)

pub third_item-requires : goal.third_item-requires
third_item-requires c = omega (arith, told-fits _ Third _ _ c.in-Third.is c.requires)

pub returns-in-First : goal.returns-in-First
unfolding item_at
returns-in-First c = rw c.in-First.is c.first_item.ensures

pub returns-in-Third : goal.returns-in-Third
unfolding item_at
returns-in-Third c = rw c.in-Third.is c.third_item.ensures
