-- The rotation code of R4.1: the sum of (entry+1)·3^(8−i) over the nine entries by rows, i from 0; and the way back.
use Rattle.std.specs.Prelude.{◌≡◌, cond, ℕ, ◌+◌, ◌*◌, ◌/◌, ◌%◌, ◌^◌, ◌<◌, ltb, None, Option, Some}
use Rattle.std.proofs.Common.{sym, ◌∙◌, ap, arith}
use Rattle.operation.specs.Meaning.{Digits, rotation≡}
use Rattle.operation.specs.declared.Rotation.{Rotation}

-- A digit is an entry plus one.
unfoldable pub code_of : Rotation → ℕ
code_of r =
    r.xx * 3 ^ 8 + r.xy * 3 ^ 7 + r.xz * 3 ^ 6 + (r.yx * 3 ^ 5 + r.yy * 3 ^ 4 + r.yz * 3 ^ 3) + (r.zx * 3 ^ 2 + r.zy * 3 ^ 1 + r.zz * 3 ^ 0)

-- The digits of a code.
unfoldable pub rotation_of : ℕ → Rotation
rotation_of c =
    record {
      xx = c / 3 ^ 8 % 3;
      xy = c / 3 ^ 7 % 3;
      xz = c / 3 ^ 6 % 3;
      yx = c / 3 ^ 5 % 3;
      yy = c / 3 ^ 4 % 3;
      yz = c / 3 ^ 3 % 3;
      zx = c / 3 ^ 2 % 3;
      zy = c / 3 ^ 1 % 3;
      zz = c % 3;
    }

-- A code is below 3⁹ = 19683.
abbrev pub decoded_of : ℕ → Option Rotation
decoded_of c = cond (ltb c 19683) (Some (rotation_of c)) None

-- A code is at most 19682.
pub code_lt : (r : Rotation) → Digits r → code_of r < 19683
unfolding code_of
code_lt r d = omega arith

-- The digits of a rotation's code are the rotation's.
pub rotation-code : (r : Rotation) → Digits r → rotation_of (code_of r) ≡ r
unfolding code_of rotation_of
rotation-code r d =
    rotation≡
    (omega arith)
    (omega arith)
    (omega arith)
    (omega arith)
    (omega arith)
    (omega arith)
    (omega arith)
    (omega arith)
    (omega arith)

pub rotation-digits : (c : ℕ) → Digits (rotation_of c)
unfolding rotation_of
rotation-digits c = omega arith

-- One digit taken off.
next-digit : (q c : ℕ) → q ≡ c / 3 → c ≡ q * 3 + c % 3
next-digit q c h = omega arith

-- A number put together again from its digits, lowest first.
put-together : (a b c d e f g h i : ℕ) (b' c' d' e' f' g' h' : ℕ) {n : ℕ} → n ≡ h' * 3 + i → h' ≡ g' * 3 + h → g' ≡ f' * 3 + g → f' ≡ e' * 3 + f
    → e' ≡ d' * 3 + e → d' ≡ c' * 3 + d → c' ≡ b' * 3 + c → b' ≡ a * 3 + b
    → a * 3 ^ 8 + b * 3 ^ 7 + c * 3 ^ 6 + (d * 3 ^ 5 + e * 3 ^ 4 + f * 3 ^ 3) + (g * 3 ^ 2 + h * 3 ^ 1 + i * 3 ^ 0) ≡ n
put-together a b c d e f g h i b' c' d' e' f' g' h' hh hg hf he hd hc hb ha = omega arith

-- The code of a code's digits is the code.
pub code-rotation : (c : ℕ) → c < 19683 → code_of (rotation_of c) ≡ c
unfolding code_of rotation_of
code-rotation c h =
    put-together _ _ _ _ _ _ _ _ _ (c / 3 ^ 7) (c / 3 ^ 6) (c / 3 ^ 5) (c / 3 ^ 4) (c / 3 ^ 3) (c / 3 ^ 2) (c / 3 ^ 1)
    (omega arith)
    (next-digit (c / 3 ^ 2) (c / 3 ^ 1) (omega arith))
    (next-digit (c / 3 ^ 3) (c / 3 ^ 2) (omega arith))
    (next-digit (c / 3 ^ 4) (c / 3 ^ 3) (omega arith))
    (next-digit (c / 3 ^ 5) (c / 3 ^ 4) (omega arith))
    (next-digit (c / 3 ^ 6) (c / 3 ^ 5) (omega arith))
    (next-digit (c / 3 ^ 7) (c / 3 ^ 6) (omega arith))
    (omega arith)

-- Rotations with one code are one rotation.
pub code-injective : (r s : Rotation) → Digits r → Digits s → code_of r ≡ code_of s → r ≡ s
code-injective r s d e p = sym (rotation-code r d) ∙ ap rotation_of p ∙ rotation-code s e
