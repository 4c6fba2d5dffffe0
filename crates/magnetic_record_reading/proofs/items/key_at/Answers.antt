-- Twice the code, and the flag.
use mathlib.Core.Path.{ap}
use native.Mathlib.Omega.{arith}
use Rattle.group_record.specs.declared.items.Item.{Item}
use Rattle.magnetic_record_reading.proofs.items.key_at.Goals as goal

pub returns : goal.returns
returns c = let code = ap (λ (i : Item). i.code) c.plain_at-item.ensures in omega (arith, code, c.flag_at.ensures)
