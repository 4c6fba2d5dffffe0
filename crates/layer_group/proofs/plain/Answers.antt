-- A text of over 80 bytes is refused as its copy would be; else the copy in capitals is read.
use mathlib.Core.Path.{sym, ◌∙◌, ap}
use lib.ListN.{length}
use Rattle.symbol_group.specs.Answers.{symbol_answer}
use Rattle.layer_group.specs.Slots.{capitalised-length, plain-long}
use Rattle.layer_group.proofs.plain.Goals as goal

pub returns-then-text-gt80 : goal.returns-then-text-gt80
returns-then-text-gt80 c = c.new.ensures ∙ plain-long c.args.text.now c.if-text-gt80.true

pub slice_bounds-new-end : goal.slice_bounds-new-end
slice_bounds-new-end c = sym (ap length c.capitals-copy.ensures ∙ capitalised-length c.args.text.now)

pub returns : goal.returns
returns c = c.new-2.ensures ∙ ap symbol_answer c.capitals-copy.ensures
