-- The loop's invariant: the products passed are listed, so what is left decides.
use mathlib.Core.Path.{◌≡◌}
use lib.ListN.{drop}
use Rattle.laws.specs.Truth.{all}
use Rattle.magnetic_record.specs.Reading.{flagged_pair_listed}
use Rattle.magnetic_record_reading.specs.Search.{items_of, item_at}
use Rattle.magnetic_record_reading.proofs.group.are_products.Given as goal

abbrev pub invariant-loop-j : goal.invariant-loop-j
invariant-loop-j l =
    all (flagged_pair_listed (items_of l.n l.bytes) l.c (item_at l.bytes l.i)) (drop l.j (items_of l.n l.bytes))
    ≡ all (flagged_pair_listed (items_of l.n l.bytes) l.c (item_at l.bytes l.i)) (items_of l.n l.bytes)
