-- Two stores at the front, if they fit.
use mathlib.Core.Path.{refl}
use Rattle.record_report.specs.Report.{letters_report}
use Rattle.record_report.specs.Writing.{no_room, with-room, put_two}
use Rattle.record_report.proofs.report_letters.Goals as goal

pub returns-then-out-lt2 : goal.returns-then-out-lt2
returns-then-out-lt2 c = no_room (letters_report c.args.letter c.args.other) c.args.out.now 2 refl c.if-out-lt2.true

pub returns : goal.returns
returns c =
    with-room (letters_report c.args.letter c.args.other) c.args.out.now 2 refl _ c.if-out-lt2.false
    (put_two c.args.out.now c.args.letter c.args.other c.if-out-lt2.false)
