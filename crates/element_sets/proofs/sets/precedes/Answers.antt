-- The tests are those of the definition.
use mathlib.Core.Path.{◌∙◌}
use native.Mathlib.Omega.{arith}
use borrow.Author.Tests.{lt-ltb, le-ltb}
use Rattle.std.proofs.Math.Decide.{dec_lt}
use Prim.Native.Nat.{ℕ}
use Rattle.std.proofs.Common.{◌≡◌}
use lib.Count.{ones}
use Rattle.std.specs.Prelude.{nat_lt}
use Rattle.laws.specs.ListOrder.{earlier}
use Rattle.element_sets.proofs.sets.precedes.Goals as goal

-- the counts decide, where they differ
by-count : (a b : ℕ) → (ones a ≡ ones b → ⊥) → nat_lt (ones b) (ones a) ≡ earlier 64 a b
unfolding earlier
by-count a b differ = elim (dec_lt (ones b) (ones a)) [
  | yes h ↦ simp (lt-ltb (ones b) (ones a) h)
  | no h ↦ simp (le-ltb (ones b) (ones a) (omega arith), lt-ltb (ones a) (ones b) (omega arith))
]

pub returns-then-p-q : goal.returns-then-p-q
returns-then-p-q c = by-count c.args.a c.args.b c.if-p-q.true

pub returns-then-d-lt64 : goal.returns-then-d-lt64
unfolding earlier
returns-then-d-lt64 c =
    c.contains.ensures c.if-d-lt64.true
    ∙ simp (le-ltb (ones c.args.b) (ones c.args.a) (omega arith), le-ltb (ones c.args.a) (ones c.args.b) (omega arith), lt-ltb _ _ c.if-d-lt64.true)

pub returns-else-d-lt64 : goal.returns-else-d-lt64
unfolding earlier
returns-else-d-lt64 c =
    simp (le-ltb (ones c.args.b) (ones c.args.a) (omega arith), le-ltb (ones c.args.a) (ones c.args.b) (omega arith), le-ltb _ _ c.if-d-lt64.false)
