-- The check of the table, then the answer on its group.
use mathlib.Core.Path.{sym, ◌∙◌}
use Rattle.table_check.specs.TableVerdict.{checked-table}
use Rattle.conjugation.proofs.normalizer.Goals as goal

pub normalizer_in-requires : goal.normalizer_in-requires
normalizer_in-requires c = checked-table _ _ _ (sym c.from_table.ensures ∙ c.in-Ok.is)

pub returns-in-Ok : goal.returns-in-Ok
returns-in-Ok c = c.normalizer_in.ensures ∙ simp (sym c.from_table.ensures ∙ c.in-Ok.is)

pub returns-in-Err : goal.returns-in-Err
returns-in-Err c = simp (sym c.from_table.ensures ∙ c.in-Err.is)
