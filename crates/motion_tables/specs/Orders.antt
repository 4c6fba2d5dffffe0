-- The order of a symbol's or a record's group is at most 48, so that the end of its table is a number of the machine.
use Rattle.std.specs.Prelude.{◌≡◌, List, ℕ, ◌*◌, ◌≤◌, Ok}
use Rattle.symbol_group.specs.Answers.{order_of}
use Rattle.group_record.specs.Acceptance.{Bytes}
use Rattle.subgroup_laws.specs.TableCells.{square-limit}
use Rattle.group_table.specs.Tables.{order_of_record}
use Rattle.group_table_theorems.specs.TableAnswers.{symbol-cells-group, record-cells-group}

pub symbol_end : (text : List ℕ) (n : ℕ) → order_of text ≡ Ok n → n * n ≤ 2304
symbol_end text n p = square-limit n (symbol-cells-group text n p).cells.limit

pub record-end : (bytes : List ℕ) → Bytes bytes → (n : ℕ) → order_of_record bytes ≡ Ok n → n * n ≤ 2304
record-end bytes b n p = square-limit n (record-cells-group bytes b n p).cells.limit
