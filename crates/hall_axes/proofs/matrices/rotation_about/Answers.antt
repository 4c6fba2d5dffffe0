-- The number of fold and axis, where they have one, holds their rotation; its octal digits are the entries.
use Rattle.std.specs.Prelude.{Some}
use Rattle.std.proofs.Common.{ap}
use Rattle.operation.specs.Meaning.{rotation≡}
use Rattle.hall_axes.specs.Packed.{turn-packed}
use Rattle.hall_axes.proofs.matrices.rotation_about.Goals as goal

pub returns-in_default : goal.returns-in_default
returns-in_default c = rw (turn-packed, ← c.packed_turn.ensures, c.in_default.is)

pub returns : goal.returns
returns c =
    rw (turn-packed, ← c.packed_turn.ensures, c.in-Some.is)
    (ap Some (rotation≡
    c.octal_digit.ensures
    c.octal_digit-2.ensures
    c.octal_digit-3.ensures
    c.octal_digit-4.ensures
    c.octal_digit-5.ensures
    c.octal_digit-6.ensures
    c.octal_digit-7.ensures
    c.octal_digit-8.ensures
    c.octal_digit-9.ensures))
