-- `identify_rotation_type`: the digits of nine numbers have the type of the numbers. Assumes nothing.
use mathlib.Core.Path.{◌≡◌, ◌∙◌, ap}
use Prim.Native.Nat.{ℕ}
use mir.Facts.{to_z-of_z}
use mir.Syntax.{w32}
use mir.Val.{SFits, of_z, to_z}
use lib.IntN.{ℤ}
use Rattle.operation.specs.DigitDeterminant.{identified-by-digits}
use Rattle.operation.specs.Meaning.{digit_of}
use Rattle.operation.specs.RotationType.{rows}
use Rattle.operation.proofs.rotation_type.identify_rotation_type.Goals as goal

-- A number that was handed on comes as the number that its bits are read as.
digit-of : {d : ℕ} (e : ℤ) → SFits w32 e → d ≡ digit_of (to_z w32 (of_z w32 e)) → d ≡ digit_of e
digit-of e fits h = h ∙ ap digit_of (to_z-of_z fits)

pub returns : goal.returns
returns c =
    let entry = c.args in
    let fits = c.ranges in
    c.type_of_digits.ensures ∙ rw (
      digit-of entry.xx fits.xx c.digit.ensures,
      digit-of entry.xy fits.xy c.digit-2.ensures,
      digit-of entry.xz fits.xz c.digit-3.ensures,
      digit-of entry.yx fits.yx c.digit-4.ensures,
      digit-of entry.yy fits.yy c.digit-5.ensures,
      digit-of entry.yz fits.yz c.digit-6.ensures,
      digit-of entry.zx fits.zx c.digit-7.ensures,
      digit-of entry.zy fits.zy c.digit-8.ensures,
      digit-of entry.zz fits.zz c.digit-9.ensures,
    )
    (identified-by-digits (rows entry.xx entry.xy entry.xz entry.yx entry.yy entry.yz entry.zx entry.zy entry.zz))
