-- When a line is written and when each refusal is given, said of the five bytes of operations and their determinants; and what the lent buffer holds then.
use Rattle.std.specs.Prelude.{◌≡◌, refl, Bool, true, false, cond, List, ◌++◌, ℕ, ◌<◌, ◌≤◌, ltb, length, drop, Err, None, Ok, Option, Result, Some}
use Rattle.std.proofs.Common.{sym, ◌∙◌, ap, true≢false, arith, ltb-true, ltb-false, lt-ltb, le-ltb}
use Rattle.laws.specs.Matrix.{Unimodular}
use Rattle.laws.specs.Truth.{not-passing}
use Rattle.operation.specs.Answer.{Answer, given, refused, Nothing}
use Rattle.operation.specs.Meaning.{matrix_of}
use Rattle.operation.specs.declared.Operation.{Operation}
use Rattle.five_bytes.specs.FiveBytes.{operation_bytes, Sayable, five_bytes_of}
use Rattle.five_bytes.specs.OneForm.{Bytes, operation-again, bytes-again}
use Rattle.operation_line.specs.Writing.{written_line, writable, fitted_answer, fitted, written_answer, written_by, buffer_by, write_of, buffer_of}
use Rattle.operation_line.specs.WrittenLines.{writable-exactly}
use Rattle.operation_line.specs.declared.WritingRefusal.TheVariants.{Determinant, NoOperation, NoRoom}
use Rattle.operation_line.specs.declared.WritingRefusal.{WritingRefusal}

-- The bytes are those of an operation with entries in −1..1 and coordinates below 12.
pub record BytesOf (bytes : List ℕ) (f : Operation) : Type 0 where
  pub sayable : Sayable f
  pub same : bytes ≡ operation_bytes f

-- What is answered, in numbers, and what the lent buffer then is.
pub data Outcome (bytes out : List ℕ) : Answer ℕ Nothing → List ℕ → Type 0 where
  no-operation : ((f : Operation) → ¬ BytesOf bytes f) → Outcome bytes out (refused 34 0 tt) out
  no-determinant : (f : Operation) → BytesOf bytes f → ¬ Unimodular (matrix_of f.rotation) → Outcome bytes out (refused 42 0 tt) out
  no_room : (f : Operation) → BytesOf bytes f → Unimodular (matrix_of f.rotation) → length out < length (written_line f)
      → Outcome bytes out (refused 20 0 tt) out
  written : (f : Operation) → BytesOf bytes f → Unimodular (matrix_of f.rotation) → length (written_line f) ≤ length out
      → Outcome bytes out (given (length (written_line f))) (written_line f ++ drop (length (written_line f)) out)

-- ---- the definition is one of these,
fits : (bytes out : List ℕ) (f : Operation) → BytesOf bytes f → Unimodular (matrix_of f.rotation) → (t : Bool) → ltb (length out) (length (written_line f)) ≡ t
    → Outcome bytes out (written_answer (cond t (Err NoRoom) (Ok (length (written_line f)))))
    (cond t out (written_line f ++ drop (length (written_line f)) out))
fits bytes out f b u true h = no_room f b u (ltb-true _ _ h)
fits bytes out f b u false h = written f b u (ltb-false _ _ h)

turns : (bytes out : List ℕ) (f : Operation) → BytesOf bytes f → (t : Bool) → writable f ≡ t
    → Outcome bytes out (written_answer (cond t (fitted_answer (written_line f) (length out)) (Err Determinant))) (cond t (fitted (written_line f) out) out)
turns bytes out f b true h = fits bytes out f b ((writable-exactly f b.sayable).0 h) (ltb (length out) (length (written_line f))) refl
turns bytes out f b false h = no-determinant f b (λ u. true≢false (sym ((writable-exactly f b.sayable).1 u) ∙ h))

is_none : (f : Operation) → ¬ (Some f ≡ None)
is_none f e = let z : ◌≡◌ {A = ℕ} 1 0 = ap mark e in absurd (omega arith)
  where
    mark : Option Operation → ℕ
    mark (Some g) = 1
    mark None = 0

outcome-by : (bytes out : List ℕ) → Bytes bytes → (five : Option Operation) → five_bytes_of bytes ≡ five
    → Outcome bytes out (written_answer (written_by five (length out))) (buffer_by five out)
outcome-by bytes out g (Some f) e = let (same, sayable) = bytes-again bytes f g e in
    turns bytes out f (record { sayable = sayable; same = same }) (writable f) refl
outcome-by bytes out g None e = no-operation (λ f b. is_none f (sym (operation-again f b.sayable) ∙ ap five_bytes_of (sym b.same) ∙ e))

pub write-outcome : (bytes out : List ℕ) → Bytes bytes → Outcome bytes out (written_answer (write_of bytes (length out))) (buffer_of bytes out)
unfolding write_of buffer_of
write-outcome bytes out g = outcome-by bytes out g (five_bytes_of bytes) refl

-- ---- and nothing else is one of them
said : (bytes : List ℕ) (f : Operation) → BytesOf bytes f → five_bytes_of bytes ≡ Some f
said bytes f b = ap five_bytes_of b.same ∙ operation-again f b.sayable

none_said : (bytes : List ℕ) → Bytes bytes → ((f : Operation) → ¬ BytesOf bytes f) → (five : Option Operation) → five_bytes_of bytes ≡ five → five ≡ None
none_said bytes g h (Some f) e = let (same, sayable) = bytes-again bytes f g e in absurd (h f (record { sayable = sayable; same = same }))
none_said bytes g h None e = refl

pub only-outcome : (bytes out : List ℕ) → Bytes bytes → (answer : Answer ℕ Nothing) (after : List ℕ) → Outcome bytes out answer after
    → (answer ≡ written_answer (write_of bytes (length out))) × (after ≡ buffer_of bytes out)
unfolding write_of buffer_of
only-outcome bytes out g answer after (no-operation h) = rw (none_said bytes g h (five_bytes_of bytes) refl) (refl, refl)
only-outcome bytes out g answer after (no-determinant f b u) =
    rw (said bytes f b, not-passing (writable f) (λ t. u ((writable-exactly f b.sayable).0 t))) (refl, refl)
only-outcome bytes out g answer after (no_room f b u l) = rw (said bytes f b, (writable-exactly f b.sayable).1 u, lt-ltb _ _ l) (refl, refl)
only-outcome bytes out g answer after (written f b u l) = rw (said bytes f b, (writable-exactly f b.sayable).1 u, le-ltb _ _ l) (refl, refl)

-- Number, place and value determine the answer.
pub one_written : (a b : Result ℕ WritingRefusal) → written_answer a ≡ written_answer b → a ≡ b
one_written (Ok n) (Ok m) e = let same : n ≡ m = cc in ap Ok same
one_written (Ok n) (Err NoOperation) e = let z : ◌≡◌ {A = ℕ} 0 1 = cc in absurd (omega arith)
one_written (Ok n) (Err Determinant) e = let z : ◌≡◌ {A = ℕ} 0 1 = cc in absurd (omega arith)
one_written (Ok n) (Err NoRoom) e = let z : ◌≡◌ {A = ℕ} 0 1 = cc in absurd (omega arith)
one_written (Err NoOperation) (Ok n) e = let z : ◌≡◌ {A = ℕ} 0 1 = cc in absurd (omega arith)
one_written (Err NoOperation) (Err NoOperation) e = refl
one_written (Err NoOperation) (Err Determinant) e = let z : ◌≡◌ {A = ℕ} 34 42 = cc in absurd (omega arith)
one_written (Err NoOperation) (Err NoRoom) e = let z : ◌≡◌ {A = ℕ} 34 20 = cc in absurd (omega arith)
one_written (Err Determinant) (Ok n) e = let z : ◌≡◌ {A = ℕ} 0 1 = cc in absurd (omega arith)
one_written (Err Determinant) (Err NoOperation) e = let z : ◌≡◌ {A = ℕ} 42 34 = cc in absurd (omega arith)
one_written (Err Determinant) (Err Determinant) e = refl
one_written (Err Determinant) (Err NoRoom) e = let z : ◌≡◌ {A = ℕ} 42 20 = cc in absurd (omega arith)
one_written (Err NoRoom) (Ok n) e = let z : ◌≡◌ {A = ℕ} 0 1 = cc in absurd (omega arith)
one_written (Err NoRoom) (Err NoOperation) e = let z : ◌≡◌ {A = ℕ} 20 34 = cc in absurd (omega arith)
one_written (Err NoRoom) (Err Determinant) e = let z : ◌≡◌ {A = ℕ} 20 42 = cc in absurd (omega arith)
one_written (Err NoRoom) (Err NoRoom) e = refl
