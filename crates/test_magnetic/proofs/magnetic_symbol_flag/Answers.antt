-- The flag at the index, as a number.
use mathlib.Core.Path.{◌∙◌, ap}
use borrow.Author.Tests.{le-ltb, lt-ltb}
use Rattle.magnetic_symbol.specs.declared.MagneticSymbol.{MagneticSymbol}
use Rattle.test_magnetic.specs.Packed.{packed_flag}
use Rattle.test_magnetic.proofs.magnetic_symbol_flag.Goals as goal

pub returns-then-index-ge9 : goal.returns-then-index-ge9
returns-then-index-ge9 c = simp (le-ltb _ _ c.if-index-ge9.true)

pub returns-then-flag : goal.returns-then-flag
returns-then-flag c =
    let index = c.args.index in
    ◌∙◌ {b = packed_flag c.new.result.flags index}
    (simp (lt-ltb _ _ c.if-index-ge9.false, c.if-flag.true))
    (ap (λ (m : MagneticSymbol). packed_flag m.flags index) c.new.ensures)

pub returns-else-flag : goal.returns-else-flag
returns-else-flag c =
    let index = c.args.index in
    ◌∙◌ {b = packed_flag c.new.result.flags index}
    (simp (lt-ltb _ _ c.if-index-ge9.false, c.if-flag.false))
    (ap (λ (m : MagneticSymbol). packed_flag m.flags index) c.new.ensures)
