-- Nothing for 0; otherwise the sign, the numerator, the bar and the denominator.
use mathlib.Core.Path.{sym, ap}
use mathlib.Core.Bool.{false}
use lib.ListN.{get_or, length-set}
use native.Mathlib.Omega.{arith}
use Rattle.placed_text.specs.Placing.{put_byte, put-nothing, put_then, put-named}
use Rattle.operation_line.specs.Writing.{numerators}
use Rattle.operation_line.specs.Building.{fraction_bytes, fraction-signed, sign-short, numeral-short, numerator-small, divisor-small}
use Rattle.line_writing.proofs.put_fraction.Goals as goal

pub returns-then-k-eq0 : goal.returns-then-k-eq0
returns-then-k-eq0 c = put-named (sym (ap (fraction_bytes c.args.first) c.if-k-eq0.true)) (put-nothing c.args.out.now c.args.at)

pub put_numeral-bar-requires : goal.put_numeral-bar-requires
put_numeral-bar-requires c =
    (numerator-small c.args.k c.requires.0, omega (arith, c.requires.1, c.put_sign-next.ensures.place, c.put_sign-next.auto.out, sign-short c.args.first false))

pub bounds-out-bar : goal.bounds-out-bar
bounds-out-bar c =
    omega (
      arith,
      c.requires.1,
      c.put_sign-next.ensures.place,
      c.put_sign-next.auto.out,
      c.put_numeral-bar.ensures.place,
      c.put_numeral-bar.auto.out,
      sign-short c.args.first false,
      numeral-short (get_or numerators c.args.k 0),
    )

pub overflow_add-bar : goal.overflow_add-bar
overflow_add-bar c =
    omega (
      arith,
      c.requires.1,
      c.put_sign-next.ensures.place,
      c.put_sign-next.auto.out,
      c.put_numeral-bar.ensures.place,
      c.put_numeral-bar.auto.out,
      sign-short c.args.first false,
      numeral-short (get_or numerators c.args.k 0),
    )

pub put_numeral-requires : goal.put_numeral-requires
put_numeral-requires c = (
  divisor-small c.args.k c.requires.0,
  simp length-set (omega (
    arith,
    c.requires.1,
    c.put_sign-next.ensures.place,
    c.put_sign-next.auto.out,
    c.put_numeral-bar.ensures.place,
    c.put_numeral-bar.auto.out,
    sign-short c.args.first false,
    numeral-short (get_or numerators c.args.k 0),
  )),
)

pub shape_of-out : goal.shape_of-out
shape_of-out c =
    omega (
      arith,
      simp length-set at c.put_numeral.auto.out,
      c.put_numeral-bar.auto.out,
      c.put_sign-next.auto.out,
    )

pub returns : goal.returns
returns c =
    put-named (fraction-signed c.args.first c.args.k c.if-k-eq0.false)
    (put_then c.put_sign-next.ensures
    (put_then c.put_numeral-bar.ensures
    (put_then (put_byte _ _ _) c.put_numeral.ensures)))
