-- What the text decides stands over the slots of its generators' group.
use Rattle.symbol_group.specs.Slots.{symbol-laid}
use Rattle.symbol_group.proofs.SymbolGroup.new.Goals as goal

pub returns : goal.returns
returns c =
    symbol-laid c.args.text.now c.new-symbol.result c.new-symbol.ensures c.new-g.result c.new-g.ensures
    c.head_of-head.result c.head_of-head.ensures
