-- The three tests in turn.
use native.Mathlib.Omega.{arith}
use mathlib.Core.Path.{◌≡◌, ◌∙◌}
use mathlib.Core.Bool.{false}
use lib.Dec.{leb}
use mathlib.Core.Logic.{inl, inr}
use borrow.Author.Tests.{le-leb, lt-leb}
use Rattle.record_items.specs.Rules.{items_there}
use Rattle.record_items.proofs.rules.are_there.Goals.{then-n-ge1, else-n-ge1}
use Rattle.record_items.proofs.rules.are_there.Goals as goal

pub returns-then-n-le48 : goal.returns-then-n-le48
unfolding items_there
returns-then-n-le48 c = simp (← c.items_length.ensures, le-leb 1 c.args.n (omega arith), le-leb c.args.n 48 (omega arith))

pub returns-else-n-le48 : goal.returns-else-n-le48
unfolding items_there
returns-else-n-le48 c =
    elim c.if-n-ge1.branch [
      | then-n-ge1 w ↦
          let none : leb c.args.n 48 ≡ false = elim c.if-n-le48.either [ inl h ↦ lt-leb c.args.n 48 h.1 | inr h ↦ absurd (omega (arith, w.if-n-ge1.true)) ] in
          w.t-5-is ∙ simp (le-leb 1 c.args.n w.if-n-ge1.true, none)
      | else-n-ge1 w ↦ w.t-5-is ∙ simp (lt-leb 1 c.args.n w.if-n-ge1.false)
    ]
