-- What is answered for a line can be packed: what is read is an operation in range or a refusal at 64 at most, and a written line has at most 38 bytes.
use Rattle.std.specs.Prelude.{◌≡◌, refl, Bool, true, false, cond, List, ℕ, ltb, length, Err, None, Ok, Option, Result, Some}
use Rattle.std.proofs.Common.{arith}
use Rattle.operation.specs.declared.Operation.{Operation}
use Rattle.five_bytes.specs.FiveBytes.{five_bytes_of}
use Rattle.hall_token.specs.Answers.{Reduced}
use Rattle.operation_line.specs.Answers.{answer_of, answers-exact}
use Rattle.operation_line.specs.ReadBack.{read-sayable}
use Rattle.operation_line.specs.Reading.{read_line}
use Rattle.operation_line.specs.Placed.{line-short}
use Rattle.operation_line.specs.Writing.{written_line, writable, fitted_answer, written_answer, written_by, write_of}
use Rattle.answer_numbers.specs.Packing.{near, Within, Low}
use Rattle.operation_line.specs.declared.WritingRefusal.TheVariants.{Determinant, NoRoom}
use Rattle.operation_line.specs.declared.ReadingRefusal.TheVariants as read
use Rattle.operation_line.specs.declared.ReadingRefusal.{ReadingRefusal}

-- ---- read
read_by : (text : List ℕ) (a : Result Operation ReadingRefusal) → read_line text ≡ a → Within Reduced (answer_of a)
read_by text (Ok f) e =
    let said = (read-sayable text f e).0 in
    record { digits = said.digits; x = said.x; y = said.y; z = said.z }
read_by text (Err read.TooLong) e = near (omega arith) (omega arith) (omega arith)
read_by text (Err (read.Misspelt k)) e =
    let (short, offending) = (answers-exact text (Err (read.Misspelt k))).0 e in
    near (omega arith) (omega arith) (omega (arith, short, offending.within))
read_by text (Err read.Determinant) e = near (omega arith) (omega arith) (omega arith)

pub read-within : (text : List ℕ) → Within Reduced (answer_of (read_line text))
read-within text = read_by text (read_line text) refl

-- ---- written
by-room : (f : Operation) (t : Bool) → Within Low (written_answer (cond t (Err NoRoom) (Ok (length (written_line f)))))
by-room f true = near (omega arith) (omega arith) (omega arith)
by-room f false = omega (arith, line-short f)

by_turn : (f : Operation) (room : ℕ) (t : Bool) → Within Low (written_answer (cond t (fitted_answer (written_line f) room) (Err Determinant)))
by_turn f room true = by-room f (ltb room (length (written_line f)))
by_turn f room false = near (omega arith) (omega arith) (omega arith)

by_bytes : (five : Option Operation) (room : ℕ) → Within Low (written_answer (written_by five room))
by_bytes (Some f) room = by_turn f room (writable f)
by_bytes None room = near (omega arith) (omega arith) (omega arith)

pub written-within : (bytes : List ℕ) (room : ℕ) → Within Low (written_answer (write_of bytes room))
unfolding write_of
written-within bytes room = by_bytes (five_bytes_of bytes) room
