-- The symbol's answer decides: a group has its table from its steps where the slots hold it, a refusal is passed on.
use native.Mathlib.Omega.{arith}
use Rattle.group_table.specs.StepTables.{cells_fit}
use Rattle.group_table.specs.SymbolSteps.{symbol-steps, symbol-short, symbol-filled, symbol-refused}
use Rattle.group_table.proofs.symbol.fill_cells.Goals as goal

pub overflow_mul-order : goal.overflow_mul-order
overflow_mul-order c = record {
  fits =
      let S =
      (symbol-steps c.args.text.now c.new-g.result c.new-g.ensures
      c.in-Group.is).traversed in
      omega (arith, cells_fit c.new-g.result.count c.new-g.result.generators c.new-g.result.steps S);
}

pub returns-then-cells-order : goal.returns-then-cells-order
returns-then-cells-order c =
    symbol-short c.args.text.now c.new-g.result
    c.new-g.ensures c.in-Group.is c.args.cells.now
    c.if-cells-order.true

pub fill_rows-requires : goal.fill_rows-requires
fill_rows-requires c = (
  symbol-steps c.args.text.now c.new-g.result
      c.new-g.ensures c.in-Group.is,
  omega (arith, c.if-cells-order.false),
)

pub returns-else-cells-order : goal.returns-else-cells-order
returns-else-cells-order c =
    symbol-filled c.args.text.now
    c.new-g.result c.new-g.ensures
    c.in-Group.is
    c.args.cells.now _
    (omega (arith, c.if-cells-order.false)) c.fill_rows.ensures

pub returns-in-Refused : goal.returns-in-Refused
returns-in-Refused c =
    symbol-refused c.args.text.now c.new-g.result
    c.new-g.ensures c.in-Refused.refusal c.in-Refused.is
    c.args.cells.now
