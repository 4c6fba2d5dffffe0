-- Three letters and the fraction, one behind the other.
use mathlib.Core.Bool.{true}
use native.Mathlib.Omega.{arith}
use lib.Dec.{eqb}
use Rattle.placed_text.specs.Placing.{put-named}
use Rattle.operation_line.specs.declared.Letter.TheVariants.{X, Y, Z}
use Rattle.operation_line.specs.Writing.{letter_term, letters_of, row_terms}
use Rattle.operation_line.specs.Building.{letter-short, first-letter, put-letter-more, put-fraction-more}
use Rattle.line_writing.proofs.put_part.Goals as goal

pub put_letter-third-requires : goal.put_letter-third-requires
put_letter-third-requires c =
    omega (arith, c.requires.1, c.put_letter-second.ensures.place, c.put_letter-second.auto.out, letter-short true 120 c.args.x)

pub put_letter-last-requires : goal.put_letter-last-requires
put_letter-last-requires c =
    omega (
      arith,
      c.requires.1,
      c.put_letter-second.ensures.place,
      c.put_letter-second.auto.out,
      c.put_letter-third.ensures.place,
      c.put_letter-third.auto.out,
      letter-short true 120 c.args.x,
      letter-short (eqb c.put_letter-second.result c.args.at) 121 c.args.y,
    )

pub put_fraction-requires : goal.put_fraction-requires
put_fraction-requires c = (
  c.requires.0,
  omega (
    arith,
    c.requires.1,
    c.put_letter-second.ensures.place,
    c.put_letter-second.auto.out,
    c.put_letter-third.ensures.place,
    c.put_letter-third.auto.out,
    c.put_letter-last.ensures.place,
    c.put_letter-last.auto.out,
    letter-short true 120 c.args.x,
    letter-short (eqb c.put_letter-second.result c.args.at) 121 c.args.y,
    letter-short (eqb c.put_letter-third.result c.args.at) 122 c.args.z,
  ),
)

pub returns : goal.returns
unfolding row_terms letters_of
returns c =
    let x = letter_term X c.args.x in
    put-fraction-more _ c.args.k
    (put-letter-more _ Z c.args.z
    (put-letter-more x Y c.args.y (put-named (first-letter X c.args.x)
    c.put_letter-second.ensures)
    c.put_letter-third.ensures)
    c.put_letter-last.ensures)
    c.put_fraction.ensures
