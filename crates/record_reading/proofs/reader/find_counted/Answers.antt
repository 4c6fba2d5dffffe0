-- Where the length fits, the items are tried on the rest of the buffer from the record's start; what is found there stands for the group that is read.
use Rattle.std.proofs.lemmas.Bool.{not_from_false, not_from_true}
use Rattle.laws.specs.LentParts.{tail-part}
use Rattle.group_record.specs.BothEditions.{width_in}
use Rattle.group_record.specs.Editions.{from_end}
use Rattle.group_record.specs.Outcomes.{length-test}
use Rattle.group_record.specs.Rules.{length_fits}
use Rattle.record_items.specs.Items.{items_of}
use Rattle.record_items.specs.Rules.{there-test}
use Rattle.record_reading.specs.Trailer.{read_counted, read_items, counted-fits, counted-fails}
use Rattle.record_reading.specs.Found.{nothing-found, stands-as, record-stands, items-there, items_refused, layers-barred, items-right}
use lib.ListN.{length, drop}
use borrow.Author.Tests.{not-true, not-false}
use native.Mathlib.Omega.{arith}
use Prim.Native.Nat.{◌+◌, ◌*◌, ◌-◌}
use mathlib.Core.Bool.{true}
use mathlib.Core.Path.{◌≡◌, sym, ◌∙◌}
use Rattle.record_reading.proofs.reader.find_counted.Goals as goal

pub returns-then-not-length_fits : goal.returns-then-not-length_fits
returns-then-not-length_fits c =
    nothing-found c.nothing.ensures
    (counted-fails c.args.edition c.args.sign c.args.bytes.now _ _ _ c.from_end-n.ensures
    c.from_end.ensures c.from_end-2.ensures
    (sym c.length_fits.ensures ∙ not-true c.length_fits.result (not_from_false _ c.if-not-length_fits.true)))

pub overflow_sub-start : goal.overflow_sub-start
overflow_sub-start c = let fits = (length-test _ _ _ _ _).0 (sym c.length_fits.ensures
    ∙ not-false c.length_fits.result (not_from_true _ c.if-not-length_fits.false)) in
    omega (arith, fits)

pub are_layers-requires : goal.are_layers-requires
are_layers-requires c =
    -- Count and length fit,
    let fits-at : length_fits (width_in c.args.edition) 48
    c.from_end-n.result
    (c.from_end.result * 256 + c.from_end-2.result)
    (length c.args.bytes.now) ≡ true =
    sym c.length_fits.ensures ∙ not-false c.length_fits.result (not_from_true _ c.if-not-length_fits.false) in
    let n = c.from_end-n.result in
    let stated = c.from_end.result * 256 + c.from_end-2.result in
    let lent = tail-part c.args.bytes.now (length c.args.bytes.now - stated) in
    let there = (there-test c.args.edition n _).0 (items-there c.args.edition n _ c.args.bytes.now _ lent (fits-at)) in
    (there.1, there.2)

pub returns-then-not-are_layers : goal.returns-then-not-are_layers
returns-then-not-are_layers c =
    let fits-at : length_fits (width_in c.args.edition) 48
    c.from_end-n.result
    (c.from_end.result * 256 + c.from_end-2.result)
    (length c.args.bytes.now) ≡ true =
    sym c.length_fits.ensures ∙ not-false c.length_fits.result (not_from_true _ c.if-not-length_fits.false) in
    -- so the items decide.
    let told_at : read_counted c.args.edition
    c.args.sign
    (from_end c.args.bytes.now 3)
    c.args.bytes.now
    ≡ read_items c.args.edition
    c.args.sign
    (items_of c.args.edition
    c.from_end-n.result
    (drop
    (length c.args.bytes.now
    - (c.from_end.result * 256 + c.from_end-2.result))
    c.args.bytes.now)) =
    counted-fits c.args.edition c.args.sign c.args.bytes.now _ _ _ c.from_end-n.ensures
    c.from_end.ensures c.from_end-2.ensures (fits-at) in
    let n = c.from_end-n.result in
    let stated = c.from_end.result * 256 + c.from_end-2.result in
    let lent = tail-part c.args.bytes.now (length c.args.bytes.now - stated) in
    nothing-found c.nothing-then-not-are_layers.ensures
    (told_at
    ∙ layers-barred c.args.edition c.args.sign n _ _ lent (items-there c.args.edition n _ c.args.bytes.now _ lent (fits-at))
    (rw (← c.lattice-c.ensures)
    (sym c.items_answer.ensures ∙ c.in_default.is))
    (rw (← c.is_small-small.ensures)
    (sym c.are_layers.ensures ∙ not-true c.are_layers.result (not_from_false _ c.if-not-are_layers.true))))

pub returns-in_default : goal.returns-in_default
returns-in_default c =
    let fits-at : length_fits (width_in c.args.edition) 48
    c.from_end-n.result
    (c.from_end.result * 256 + c.from_end-2.result)
    (length c.args.bytes.now) ≡ true =
    sym c.length_fits.ensures ∙ not-false c.length_fits.result (not_from_true _ c.if-not-length_fits.false) in
    let told_at : read_counted c.args.edition
    c.args.sign
    (from_end c.args.bytes.now 3)
    c.args.bytes.now
    ≡ read_items c.args.edition
    c.args.sign
    (items_of c.args.edition
    c.from_end-n.result
    (drop
    (length c.args.bytes.now
    - (c.from_end.result * 256 + c.from_end-2.result))
    c.args.bytes.now)) =
    counted-fits c.args.edition c.args.sign c.args.bytes.now _ _ _ c.from_end-n.ensures
    c.from_end.ensures c.from_end-2.ensures (fits-at) in
    let n = c.from_end-n.result in
    let stated = c.from_end.result * 256 + c.from_end-2.result in
    let lent = tail-part c.args.bytes.now (length c.args.bytes.now - stated) in
    let bounds = (length-test _ _ _ _ _).0 (fits-at) in
    stands-as (record-stands c.args.bytes.now c.args.edition c.args.sign n _ bounds.1 (omega (arith, bounds)))
    (told_at
    ∙ items-right c.args.edition c.args.sign n _ _ lent (items-there c.args.edition n _ c.args.bytes.now _ lent (fits-at))
    (rw (← c.lattice-c.ensures)
    (sym c.items_answer.ensures ∙ c.in_default.is))
    (rw (← c.is_small-small.ensures) (sym c.are_layers.ensures ∙ not-false c.are_layers.result (not_from_true _ c.if-not-are_layers.false))))

pub returns : goal.returns
returns c =
    let fits-at : length_fits (width_in c.args.edition) 48
    c.from_end-n.result
    (c.from_end.result * 256 + c.from_end-2.result)
    (length c.args.bytes.now) ≡ true =
    sym c.length_fits.ensures ∙ not-false c.length_fits.result (not_from_true _ c.if-not-length_fits.false) in
    let told_at : read_counted c.args.edition
    c.args.sign
    (from_end c.args.bytes.now 3)
    c.args.bytes.now
    ≡ read_items c.args.edition
    c.args.sign
    (items_of c.args.edition
    c.from_end-n.result
    (drop
    (length c.args.bytes.now
    - (c.from_end.result * 256 + c.from_end-2.result))
    c.args.bytes.now)) =
    counted-fits c.args.edition c.args.sign c.args.bytes.now _ _ _ c.from_end-n.ensures
    c.from_end.ensures c.from_end-2.ensures (fits-at) in
    let n = c.from_end-n.result in
    let stated = c.from_end.result * 256 + c.from_end-2.result in
    let lent = tail-part c.args.bytes.now (length c.args.bytes.now - stated) in
    nothing-found c.nothing-2.ensures
    (told_at
    ∙ items_refused c.args.edition c.args.sign n _ _ lent (items-there c.args.edition n _ c.args.bytes.now _ lent (fits-at)) _
    (rw (← c.lattice-c.ensures)
    (sym c.items_answer.ensures ∙ c.in-Refused.is)))
