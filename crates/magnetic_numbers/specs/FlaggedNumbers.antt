-- An operation and its flag as one number: the flag stands before the rotation's code, as a tenth digit of base 3. The number says both, and whoever reads
-- entries and twelfths from the number of a plain operation reads them from this one alike.
use Rattle.std.specs.Prelude.{◌≡◌, refl, Bool, true, false, ℕ, ◌+◌, ◌*◌, ◌/◌, ◌%◌, ◌≤◌, ◌<◌}
use Rattle.std.proofs.Common.{sym, ◌∙◌, ap, arith}
use Rattle.operation.specs.Code.{code_of, rotation_of, code_lt, rotation-code}
use Rattle.operation.specs.Meaning.{rotation≡}
use Rattle.operation.specs.declared.Operation.{Operation}
use Rattle.operation.specs.declared.Rotation.{Rotation}
use Rattle.packed_operation.specs.Number.{rotation_said, said_by}
use Rattle.packed_operation.specs.Rows.{Narrow, said-narrow}
use Rattle.hall_token.specs.Answers.{Reduced}
use Rattle.magnetic_group.specs.declared.FlaggedOperation.{FlaggedOperation}
use Rattle.answer_numbers.specs.Packing.{operation_number, Low, Numbers, operations}

-- A flag as a digit.
abbrev pub flag_digit : Bool → ℕ
flag_digit true = 1
flag_digit false = 0

-- Flag, code, then x, y, z in twelfths.
abbrev pub flagged_number : FlaggedOperation → ℕ
flagged_number f =
    let o = f.operation in
    (flag_digit f.flag * 19683 + code_of o.rotation) * 1728 + o.translation.x * 144 + o.translation.y * 12 + o.translation.z

-- The plain number with the flag in front.
pub flag-in-front : (f : FlaggedOperation) → flagged_number f ≡ flag_digit f.flag * 34012224 + operation_number f.operation
flag-in-front f = omega arith

pub with-flag : (f : FlaggedOperation) → f.flag ≡ true → flagged_number f ≡ 34012224 + operation_number f.operation
with-flag f e = let digit : flag_digit f.flag ≡ 1 = ap flag_digit e in omega (arith, flag-in-front f)

pub without-flag : (f : FlaggedOperation) → f.flag ≡ false → flagged_number f ≡ operation_number f.operation
without-flag f e = let digit : flag_digit f.flag ≡ 0 = ap flag_digit e in omega (arith, flag-in-front f)

-- ---- it says the operation and the flag
-- Operations with entries in −1..1 and coordinates below 12, flagged or not.
abbrev pub ReducedFlagged : FlaggedOperation → Type 0
ReducedFlagged f = Reduced f.operation

-- A flag is told by its digit,
flag-once : (a b : Bool) → flag_digit a ≡ flag_digit b → a ≡ b
flag-once true true e = refl
flag-once true false e = absurd (omega arith)
flag-once false true e = absurd (omega arith)
flag-once false false e = refl

flag-low : (a : Bool) → flag_digit a ≤ 1
flag-low true = omega arith
flag-low false = omega arith

-- and the plain number leaves it free.
plain-low : (o : Operation) → Reduced o → operation_number o < 34012224
plain-low o r = omega (arith, code_lt o.rotation r.digits)

number-low : (f : FlaggedOperation) → ReducedFlagged f → Low (flagged_number f)
number-low f r = omega (arith, flag-in-front f, flag-low f.flag, plain-low f.operation r)

number-once : (f g : FlaggedOperation) → ReducedFlagged f → ReducedFlagged g → flagged_number f ≡ flagged_number g → f ≡ g
number-once f g r s e =
    let low = plain-low f.operation r in
    let high = plain-low g.operation s in
    let both = sym (flag-in-front f) ∙ e ∙ flag-in-front g in
    let flags = flag-once f.flag g.flag (omega arith) in
    let plain = operations.once f.operation g.operation r s (omega arith) in
    λ i. record { operation = plain i; flag = flags i }

-- What a number of a list says is far below 64 bits, whatever its bits are.
code-narrow : (r : Rotation) → Narrow r → code_of r ≤ 29523
unfolding code_of
code-narrow r h = omega arith

below-sixteen : (n : ℕ) → n % 16 < 16
below-sixteen n = omega arith

parts_low : (a x y z : ℕ) → a ≤ 29523 → x < 16 → y < 16 → z < 16 → a * 1728 + x * 144 + y * 12 + z < 68719476736
parts_low a x y z ha hx hy hz = omega arith

pub said-low : (n : ℕ) → operation_number (said_by n) < 68719476736
said-low n =
    parts_low _ _ _ _ (code-narrow (rotation_said n) (said-narrow n)) (below-sixteen (n / 32768)) (below-sixteen (n / 32768 / 2097152))
    (below-sixteen (n / 32768 / 4398046511104))

-- So flagged operations are told by their numbers.
pub flagged_operations : Numbers ReducedFlagged flagged_number
flagged_operations = record { low = number-low; once = number-once }

-- ---- how it is read
-- The flag is what stands above 3⁹ · 1728,
pub flag-read : (f : FlaggedOperation) → ReducedFlagged f → flagged_number f / 34012224 ≡ flag_digit f.flag
flag-read f r = omega (arith, flag-in-front f, plain-low f.operation r)

-- nine digits are those of the code, whatever digit stands before them,
digits-below : (b c : ℕ) → rotation_of (b * 19683 + c) ≡ rotation_of c
unfolding rotation_of
digits-below b c =
    rotation≡
    (omega arith)
    (omega arith)
    (omega arith)
    (omega arith)
    (omega arith)
    (omega arith)
    (omega arith)
    (omega arith)
    (omega arith)

-- so that the entries are read as from the plain number,
pub entries-read : (f : FlaggedOperation) → ReducedFlagged f → rotation_of (flagged_number f / 1728) ≡ f.operation.rotation
entries-read f r =
    let front : flagged_number f / 1728 ≡ flag_digit f.flag * 19683 + code_of f.operation.rotation = omega arith in
    ap rotation_of front ∙ digits-below (flag_digit f.flag) (code_of f.operation.rotation) ∙ rotation-code f.operation.rotation r.digits

pub plain-entries-read : (o : Operation) → Reduced o → rotation_of (operation_number o / 1728) ≡ o.rotation
plain-entries-read o r =
    let front : operation_number o / 1728 ≡ code_of o.rotation = omega arith in
    ap rotation_of front ∙ rotation-code o.rotation r.digits

-- and so are the twelfths.
pub twelfths-read : (f : FlaggedOperation) → ReducedFlagged f
    → (flagged_number f / 144 % 12 ≡ f.operation.translation.x) × (flagged_number f / 12 % 12 ≡ f.operation.translation.y)
    × (flagged_number f % 12 ≡ f.operation.translation.z)
twelfths-read f r = (omega arith, omega arith, omega arith)
