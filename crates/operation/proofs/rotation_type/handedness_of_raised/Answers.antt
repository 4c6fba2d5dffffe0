-- `handedness_of_raised`: 5 and 3 stand for 1 and −1, and a test at every other byte finds neither. Assumes nothing.
use mathlib.Core.Path.{◌≡◌, refl, sym, ap}
use mathlib.Core.Bool.{Bool, true, false, false≢true, ◌||◌}
use Prim.Native.Nat.{ℕ}
use native.Mathlib.Omega.{arith}
use borrow.Author.Tests.{ne_eqb}
use lib.Dec.{eqb}
use lib.IntN.{pos, ◌-ℤ◌, one}
use Rattle.operation.specs.Below.{all_below, below}
use Rattle.operation.specs.RotationType.{handedness_by}
use Rattle.operation.specs.declared.rotation_type.Handedness.{Handedness}
use Rattle.operation.specs.declared.rotation_type.Handedness.TheVariants.{Proper, Improper, Neither}
use Rattle.operation.proofs.rotation_type.handedness_of_raised.Goals as goal

-- The handedness that a raised determinant stands for.
unfoldable handedness_at : ℕ → Handedness
handedness_at raised = handedness_by (pos raised -ℤ pos 4)

-- Whether a handedness is neither.
is_neither : Handedness → Bool
is_neither Proper = false
is_neither Improper = false
is_neither Neither = true

-- What passes that test is neither.
is-neither : (h : Handedness) → is_neither h ≡ true → Neither ≡ h
unfolding is_neither
is-neither Proper e = absurd (false≢true e)
is-neither Improper e = absurd (false≢true e)
is-neither Neither e = refl

-- A key of the match, or a determinant with no handedness.
abbrev sign_or_neither : ℕ → Bool
sign_or_neither d = eqb d 5 || eqb d 3 || is_neither (handedness_at d)

-- Every byte is one or the other.
every_byte : all_below 256 sign_or_neither ≡ true
unfolding all_below handedness_at is_neither handedness_by one
every_byte = refl

pub returns-in-5 : goal.returns-in-5
unfolding handedness_at handedness_by one
returns-in-5 c = sym (ap handedness_at c.in-5.is)

pub returns-in-3 : goal.returns-in-3
unfolding handedness_at handedness_by one
returns-in-3 c = sym (ap handedness_at c.in-3.is)

pub returns-in_default : goal.returns-in_default
unfolding handedness_at
returns-in_default c =
    let d = c.args.raised in
    is-neither (handedness_at d)
    (simp (ne_eqb d 5 c.in_default.in_default-own.rest.0.1, ne_eqb d 3 c.in_default.in_default-own.rest.1) at (below 256 sign_or_neither every_byte d
    (omega arith)))
