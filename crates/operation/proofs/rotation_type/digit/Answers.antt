-- `digit`: a signed number is matched by its bits, which `to_z-of_z` reads back; what is none of the three is outside −1..1. Assumes nothing.
use mathlib.Core.Path.{◌≡◌, refl, sym, ◌∙◌, ap}
use Prim.Native.Nat.{ℕ, zero, suc}
use mir.Facts.{to_z-of_z}
use mir.Syntax.{w32}
use mir.Val.{SFits, of_z, to_z}
use lib.IntN.{ℤ, pos, negsuc, one}
use Rattle.operation.specs.Meaning.{digit_of, digit_above}
use Rattle.operation.specs.DigitDeterminant.{digit-above, digit-below}
use Rattle.operation.proofs.rotation_type.digit.Goals as goal

-- A number has the digit of what its bits are read as.
by_bits : (e : ℤ) (bits : ℕ) → SFits w32 e → of_z w32 e ≡ bits → digit_of (to_z w32 bits) ≡ digit_of e
by_bits e bits fits h = ap digit_of (sym (ap (to_z w32) h) ∙ to_z-of_z fits)

-- A number with none of the three patterns has the digit 3.
outside : (e : ℤ) → (of_z w32 e ≡ 4294967295 → ⊥) → (of_z w32 e ≡ 0 → ⊥) → (of_z w32 e ≡ 1 → ⊥) → 3 ≡ digit_of e
outside (pos zero) h k l = absurd (k refl)
outside (pos (suc zero)) h k l = absurd (l refl)
outside (pos (suc (suc n))) h k l = sym (digit-above n)
outside (negsuc zero) h k l = absurd (h refl)
outside (negsuc (suc n)) h k l = sym (digit-below n)

pub returns-in-minus1 : goal.returns-in-minus1
unfolding digit_of digit_above one
returns-in-minus1 c = by_bits _ _ c.ranges.entry c.in-minus1.in-minus1-own.keys1

pub returns-in-0 : goal.returns-in-0
unfolding digit_of digit_above one
returns-in-0 c = by_bits _ _ c.ranges.entry c.in-0.in-0-own.keys2

pub returns-in-1 : goal.returns-in-1
unfolding digit_of digit_above one
returns-in-1 c = by_bits _ _ c.ranges.entry c.in-1.in-1-own.keys3

pub returns-in_default : goal.returns-in_default
returns-in_default c =
    let none = c.in_default.in_default-own.rest in
    outside c.args.entry none.0.0.1 none.0.1 none.1
