-- Where the length fits, the items are tried on the rest of the buffer from the record's start.
use Rattle.std.proofs.lemmas.Bool.{not_from_false, not_from_true}
use mathlib.Core.Path.{sym, ◌∙◌}
use Prim.Native.Nat.{◌+◌, ◌*◌, ◌-◌}
use native.Mathlib.Omega.{arith}
use lib.ListN.{length, length-drop}
use borrow.Author.Tests.{not-true, not-false}
use Rattle.group_record.specs.Outcomes.{length-test}
use Rattle.laws.specs.LentParts.{tail-part}
use Rattle.magnetic_record_reading.specs.Search.{good-places}
use Rattle.magnetic_record_reading.specs.Trailer.{counted-fails, items-wrong, items-barred, items-right}
use Rattle.magnetic_record_reading.proofs.reader.read_counted.Goals as goal

pub returns-then-not-length_fits : goal.returns-then-not-length_fits
returns-then-not-length_fits c =
    let fails = sym c.length_fits.ensures ∙ not-true c.length_fits.result (not_from_false _ c.if-not-length_fits.true) in
    sym (counted-fails c.args.c c.args.bytes.now _ _ _ c.from_end-n.ensures c.from_end.ensures c.from_end-2.ensures fails)

pub overflow_sub-start : goal.overflow_sub-start
overflow_sub-start c =
    let fits = sym c.length_fits.ensures ∙ not-false c.length_fits.result (not_from_true _ c.if-not-length_fits.false) in
    omega (arith, (length-test _ _ _ _ _).0 fits)

pub are_items-requires : goal.are_items-requires
are_items-requires c =
    let fits = sym c.length_fits.ensures ∙ not-false c.length_fits.result (not_from_true _ c.if-not-length_fits.false) in
    let lent = tail-part c.args.bytes.now (length c.args.bytes.now - (c.from_end.result * 256 + c.from_end-2.result)) in
    let bounds = (length-test _ _ _ _ _).0 fits in
    (bounds.0, bounds.1, rw (lent, length-drop) (omega (arith, bounds)))

pub returns-then-not-are_items : goal.returns-then-not-are_items
returns-then-not-are_items c =
    let fits = sym c.length_fits.ensures ∙ not-false c.length_fits.result (not_from_true _ c.if-not-length_fits.false) in
    let lent = tail-part c.args.bytes.now (length c.args.bytes.now - (c.from_end.result * 256 + c.from_end-2.result)) in
    let wrong = sym c.are_items.ensures ∙ not-true c.are_items.result (not_from_false _ c.if-not-are_items.true) in
    sym (items-wrong c.args.c c.args.bytes.now _ _ _ c.from_end-n.ensures c.from_end.ensures c.from_end-2.ensures fits _ lent wrong)

pub is_group-requires : goal.is_group-requires
is_group-requires c =
    let fits = sym c.length_fits.ensures ∙ not-false c.length_fits.result (not_from_true _ c.if-not-length_fits.false) in
    let lent = tail-part c.args.bytes.now (length c.args.bytes.now - (c.from_end.result * 256 + c.from_end-2.result)) in
    let right = sym c.are_items.ensures ∙ not-false c.are_items.result (not_from_true _ c.if-not-are_items.false) in
    let bounds = (length-test _ _ _ _ _).0 fits in
    good-places _ _ c.args.c bounds.1 (rw (lent, length-drop) (omega (arith, bounds))) right

pub returns-then-not-is_group : goal.returns-then-not-is_group
returns-then-not-is_group c =
    let fits = sym c.length_fits.ensures ∙ not-false c.length_fits.result (not_from_true _ c.if-not-length_fits.false) in
    let lent = tail-part c.args.bytes.now (length c.args.bytes.now - (c.from_end.result * 256 + c.from_end-2.result)) in
    let right = sym c.are_items.ensures ∙ not-false c.are_items.result (not_from_true _ c.if-not-are_items.false) in
    let barred = sym c.is_group.ensures ∙ not-true c.is_group.result (not_from_false _ c.if-not-is_group.true) in
    sym (items-barred c.args.c c.args.bytes.now _ _ _ c.from_end-n.ensures c.from_end.ensures c.from_end-2.ensures fits _ lent right barred)

pub returns : goal.returns
returns c =
    let fits = sym c.length_fits.ensures ∙ not-false c.length_fits.result (not_from_true _ c.if-not-length_fits.false) in
    let lent = tail-part c.args.bytes.now (length c.args.bytes.now - (c.from_end.result * 256 + c.from_end-2.result)) in
    let right = sym c.are_items.ensures ∙ not-false c.are_items.result (not_from_true _ c.if-not-are_items.false) in
    let allowed = sym c.is_group.ensures ∙ not-false c.is_group.result (not_from_true _ c.if-not-is_group.false) in
    sym (items-right c.args.c c.args.bytes.now _ _ _ c.from_end-n.ensures c.from_end.ensures c.from_end-2.ensures fits _ lent right allowed)
