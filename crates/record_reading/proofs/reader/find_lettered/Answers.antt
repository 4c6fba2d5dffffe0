-- A byte that is no letter's is refused; what the letter leaves to be read is read.
use mathlib.Core.Path.{sym, ◌∙◌, ap}
use Rattle.centering.specs.Letters.{letter_of}
use Rattle.group_record.specs.Editions.{from_end}
use Rattle.record_reading.specs.Found.{nothing-found, stands-as}
use Rattle.record_reading.specs.Trailer.{lettered-p, lettered-c, lettered-plain, lettered-none}
use Rattle.record_reading.proofs.reader.find_lettered.Goals as goal

pub returns-then-letter-eq112 : goal.returns-then-letter-eq112
returns-then-letter-eq112 c =
    stands-as c.find_counted.ensures
    (lettered-p c.args.edition (from_end c.args.bytes.now 5) c.args.bytes.now (sym c.from_end-letter.ensures ∙ c.if-letter-eq112.true))

pub returns-then-letter-eq99 : goal.returns-then-letter-eq99
returns-then-letter-eq99 c =
    let same = c.from_end-letter.ensures in
    stands-as c.find_counted-then-letter-eq99.ensures
    (lettered-c c.args.edition (from_end c.args.bytes.now 5) c.args.bytes.now (λ e. c.if-letter-eq112.false (same ∙ e)) (sym same ∙ c.if-letter-eq99.true))

pub returns-in_default : goal.returns-in_default
returns-in_default c =
    let same = c.from_end-letter.ensures in
    let letter = ap letter_of (sym same) ∙ sym c.from_byte.ensures ∙ c.in_default.is in
    nothing-found c.nothing.ensures
    (lettered-none c.args.edition (from_end c.args.bytes.now 5) c.args.bytes.now
    (λ e. c.if-letter-eq112.false (same ∙ e)) (λ e. c.if-letter-eq99.false (same ∙ e)) letter)

pub returns : goal.returns
returns c =
    let same = c.from_end-letter.ensures in
    let letter = ap letter_of (sym same) ∙ sym c.from_byte.ensures ∙ c.in-Some.is in
    stands-as c.find_counted-2.ensures
    (lettered-plain c.args.edition (from_end c.args.bytes.now 5) c.args.bytes.now
    (λ e. c.if-letter-eq112.false (same ∙ e)) (λ e. c.if-letter-eq99.false (same ∙ e)) _
    letter)
