-- The length decides whether the entries are written.
use native.Mathlib.Omega.{arith}
use Rattle.record_report.specs.Cursors.{items_of, same_bytes}
use Rattle.record_report.specs.Writing.{no_room, with-room}
use Rattle.record_report.proofs.entries.report_entries.Goals as goal

pub returns-then-out-size : goal.returns-then-out-size
returns-then-out-size c =
    no_room (same_bytes (items_of c.args.n c.args.first.now) (items_of c.args.m c.args.second.now)) c.args.out.now
    c.report_length-size.result c.report_length-size.ensures c.if-out-size.true

pub put_entries-requires : goal.put_entries-requires
put_entries-requires c = (c.requires.0, c.requires.1, c.requires.2, c.requires.3, omega (arith, c.report_length-size.ensures, c.if-out-size.false))

pub returns : goal.returns
returns c =
    with-room (same_bytes (items_of c.args.n c.args.first.now) (items_of c.args.m c.args.second.now)) c.args.out.now
    c.report_length-size.result c.report_length-size.ensures _
    c.if-out-size.false c.put_entries.ensures
