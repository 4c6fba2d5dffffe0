-- The key and the flag, which stand apart in the number.
use Prim.Native.Nat.{◌+◌, ◌*◌}
use Rattle.space_group.specs.NumberGrowth.{sign_of}
use Rattle.space_group.proofs.traverse.sign.Goals as goal

pub returns : goal.returns
unfolding sign_of
returns c = λ i. c.key.ensures.0 i + c.flag.ensures.0 i * 9223372036854775808
