-- `type_of_folded`: each key of the match has its pair in the table, and a test at every other key of a byte finds none. Assumes nothing.
use mathlib.Core.Path.{◌≡◌, refl, sym, ap}
use mathlib.Core.Bool.{Bool, true, false, false≢true, ◌||◌, ◌&&◌, and-eq-true_iff}
use Prim.Native.Nat.{ℕ}
use native.Mathlib.Omega.{arith}
use borrow.Author.Tests.{eqb-true, ne_eqb}
use lib.Dec.{eqb}
use Rattle.operation.specs.Answer.{Answer, Nothing, given, refused}
use Rattle.operation.specs.Below.{all_below, below}
use Rattle.operation.specs.DigitDeterminant.{trace_part, determinant_part}
use Rattle.operation.specs.RotationType.{type_answer, lookup, pairs, type_of, unknown}
use Rattle.operation.specs.declared.rotation_type.RotationType.{RotationType}
use Rattle.operation.proofs.rotation_type.type_of_folded.Goals as goal

-- The type that a key stands for.
unfoldable type_at : ℕ → Answer RotationType Nothing
type_at key = type_of (trace_part key) (determinant_part key)

-- Whether an answer is refusal 15.
is_unknown : Answer RotationType Nothing → Bool
is_unknown (given k) = false
is_unknown (refused n p u) = eqb n 15 && eqb p 0

-- An answer that passes that test is the refusal.
is-unknown : (a : Answer RotationType Nothing) → is_unknown a ≡ true → unknown ≡ a
unfolding is_unknown
is-unknown (given k) h = absurd (false≢true h)
is-unknown (refused n p u) h =
    let t = (and-eq-true_iff (eqb n 15) (eqb p 0)).0 h in
    rw (eqb-true n 15 t.0, eqb-true p 0 t.1)

-- A key of the match, or one that stands for no type.
abbrev key_or_unknown : ℕ → Bool
key_or_unknown k =
    eqb k 65 || eqb k 25 || eqb k 35 || eqb k 45 || eqb k 55 || eqb k 3 || eqb k 43 || eqb k 33 || eqb k 23 || eqb k 13 || is_unknown (type_at k)

-- Every byte is one or the other.
every-key : all_below 256 key_or_unknown ≡ true
unfolding all_below type_at is_unknown lookup pairs
every-key = refl

pub returns-in-65 : goal.returns-in-65
unfolding type_answer type_at lookup pairs
returns-in-65 c = sym (ap type_at c.in-65.is)

pub returns-in-25 : goal.returns-in-25
unfolding type_answer type_at lookup pairs
returns-in-25 c = sym (ap type_at c.in-25.is)

pub returns-in-35 : goal.returns-in-35
unfolding type_answer type_at lookup pairs
returns-in-35 c = sym (ap type_at c.in-35.is)

pub returns-in-45 : goal.returns-in-45
unfolding type_answer type_at lookup pairs
returns-in-45 c = sym (ap type_at c.in-45.is)

pub returns-in-55 : goal.returns-in-55
unfolding type_answer type_at lookup pairs
returns-in-55 c = sym (ap type_at c.in-55.is)

pub returns-in-3 : goal.returns-in-3
unfolding type_answer type_at lookup pairs
returns-in-3 c = sym (ap type_at c.in-3.is)

pub returns-in-43 : goal.returns-in-43
unfolding type_answer type_at lookup pairs
returns-in-43 c = sym (ap type_at c.in-43.is)

pub returns-in-33 : goal.returns-in-33
unfolding type_answer type_at lookup pairs
returns-in-33 c = sym (ap type_at c.in-33.is)

pub returns-in-23 : goal.returns-in-23
unfolding type_answer type_at lookup pairs
returns-in-23 c = sym (ap type_at c.in-23.is)

pub returns-in-13 : goal.returns-in-13
unfolding type_answer type_at lookup pairs
returns-in-13 c = sym (ap type_at c.in-13.is)

pub returns-in_default : goal.returns-in_default
unfolding type_answer type_at
returns-in_default c =
    let key = c.args.key in
    let none = c.in_default.in_default-own.rest in
    is-unknown (type_at key)
    (simp (
      ne_eqb key 65 none.0.0.0.0.0.0.0.0.0.1,
      ne_eqb key 25 none.0.0.0.0.0.0.0.0.1,
      ne_eqb key 35 none.0.0.0.0.0.0.0.1,
      ne_eqb key 45 none.0.0.0.0.0.0.1,
      ne_eqb key 55 none.0.0.0.0.0.1,
      ne_eqb key 3 none.0.0.0.0.1,
      ne_eqb key 43 none.0.0.0.1,
      ne_eqb key 33 none.0.0.1,
      ne_eqb key 23 none.0.1,
      ne_eqb key 13 none.1,
    ) at (below 256 key_or_unknown every-key key (omega arith)))
