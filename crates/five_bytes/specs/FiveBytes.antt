-- The five bytes of an operation, by R5.2: the rotation's code, high byte first, then x y z; and which bytes are so.
use Rattle.std.specs.Prelude.{◌≡◌, Bool, cond, ◌&&◌, List, [], ◌∷◌, ℕ, ◌+◌, ◌*◌, ◌/◌, ◌%◌, ◌<◌, ltb, eqb, length, get_or, None, Option, Some}
use Rattle.std.proofs.Common.{ne_eqb}
use Rattle.operation.specs.Code.{code_of, decoded_of}
use Rattle.operation.specs.Meaning.{Digits}
use Rattle.operation.specs.declared.Operation.{Operation}
use Rattle.operation.specs.declared.Translation.{Translation}
use Rattle.operation.specs.declared.Rotation.{Rotation}

-- The code, high byte first, then x y z.
unfoldable pub operation_bytes : Operation → List ℕ
operation_bytes f =
    code_of f.rotation / 256 ∷ code_of f.rotation % 256 ∷ f.translation.x ∷ f.translation.y ∷ f.translation.z ∷ []

-- What five bytes can say: entries in −1..1, and x, y, z below 12.
pub record Sayable (f : Operation) : Type 0 where
  pub digits : Digits f.rotation
  pub x : f.translation.x < 12
  pub y : f.translation.y < 12
  pub z : f.translation.z < 12

-- Each coordinate is at most 11.
unfoldable pub below_twelve : Translation → Bool
below_twelve t = ltb t.x 12 && ltb t.y 12 && ltb t.z 12

-- The number that the first two bytes make, and the coordinates behind them.
abbrev pub code_in : List ℕ → ℕ
code_in bytes = get_or bytes 0 0 * 256 + get_or bytes 1 0

abbrev pub translation_in : List ℕ → Translation
translation_in bytes = record { x = get_or bytes 2 0; y = get_or bytes 3 0; z = get_or bytes 4 0 }

-- A code that is no rotation's stands for no operation.
abbrev pub with_translation : Option Rotation → Translation → Option Operation
with_translation (Some r) t = Some (record { rotation = r; translation = t })
with_translation None t = None

-- Exactly five bytes, coordinates at most 11, a code at most 19682.
unfoldable pub five_bytes_of : List ℕ → Option Operation
five_bytes_of bytes =
    cond (eqb (length bytes) 5) (cond (below_twelve (translation_in bytes)) (with_translation (decoded_of (code_in bytes)) (translation_in bytes)) None) None

-- Bytes that are not five are wrong.
pub wrong-length : (bytes : List ℕ) → (length bytes ≡ 5 → ⊥) → None ≡ five_bytes_of bytes
unfolding five_bytes_of
wrong-length bytes other = simp (ne_eqb (length bytes) 5 other)
