-- Each early return is a rule of the reading; the last call is what the letter leaves to be read.
use mathlib.Core.Path.{sym, ◌∙◌, ap}
use native.Mathlib.Omega.{arith}
use Rattle.centering.specs.Letters.{letter_of}
use Rattle.magnetic_record_reading.specs.Trailer.{too_short, other-number, no-letter, by-letter}
use Rattle.magnetic_record_reading.proofs.reader.read_record.Goals as goal

pub returns-then-size-lt10 : goal.returns-then-size-lt10
returns-then-size-lt10 c = sym (too_short c.args.bytes.now c.if-size-lt10.true)

pub returns-then-from_end-ne2 : goal.returns-then-from_end-ne2
returns-then-from_end-ne2 c =
    let long = c.if-size-lt10.false in
    sym (other-number c.args.bytes.now _ (omega (arith, long)) c.from_end.ensures c.if-from_end-ne2.true)

pub returns-in_default : goal.returns-in_default
returns-in_default c =
    let long = c.if-size-lt10.false in
    let letter = ap letter_of (sym c.from_end-2.ensures) ∙ sym c.from_byte.ensures ∙ c.in_default.is in
    sym (no-letter c.args.bytes.now _ (omega (arith, long)) c.from_end.ensures c.if-from_end-ne2.false letter)

pub returns : goal.returns
returns c =
    let long = c.if-size-lt10.false in
    let byte = ap letter_of (sym c.from_end-2.ensures) in
    let letter = byte ∙ sym c.from_byte.ensures ∙ c.in-Some.is in
    c.read_counted.ensures ∙ sym (by-letter c.args.bytes.now _ (omega (arith, long)) c.from_end.ensures c.if-from_end-ne2.false _ letter)
