-- Each arm by the mode that it is of.
use mathlib.Core.Path.{sym, ◌∙◌, ap₂}
use Rattle.operation_line.specs.Numbers.{numbers_by}
use Rattle.operation_line.proofs.reader.step.Goals as goal

pub returns-in-Start : goal.returns-in-Start
returns-in-Start c =
    c.at_start.ensures ∙ ap₂ (numbers_by c.args.state) (sym c.in-Start.is) c.symbol_of-symbol.ensures

pub returns-in-Owed : goal.returns-in-Owed
returns-in-Owed c =
    c.begun.ensures ∙ ap₂ (numbers_by c.args.state) (sym c.in-Owed.is) c.symbol_of-symbol.ensures

pub returns-in-Told : goal.returns-in-Told
returns-in-Told c =
    c.after_term.ensures ∙ ap₂ (numbers_by c.args.state) (sym c.in-Told.is) c.symbol_of-symbol.ensures

pub returns-in-Numerator : goal.returns-in-Numerator
returns-in-Numerator c =
    c.after_numerator.ensures ∙ ap₂ (numbers_by c.args.state) (sym c.in-Numerator.is) c.symbol_of-symbol.ensures

pub returns-in-Behind : goal.returns-in-Behind
returns-in-Behind c =
    c.after_slash.ensures ∙ ap₂ (numbers_by c.args.state) (sym c.in-Behind.is) c.symbol_of-symbol.ensures

pub returns-in-Twelfth : goal.returns-in-Twelfth
returns-in-Twelfth c =
    c.after_one.ensures ∙ ap₂ (numbers_by c.args.state) (sym c.in-Twelfth.is) c.symbol_of-symbol.ensures
