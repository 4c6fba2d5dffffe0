-- There and back: what was written is read as the operation that it was written for, and what was read is written as a line that is read the same.
use Rattle.std.specs.Prelude.{◌≡◌, List, ℕ, length, take, drop, Ok}
use Rattle.std.proofs.Common.{sym, ◌∙◌, ap, subst, arith, take_at}
use Rattle.laws.specs.Matrix.{Unimodular}
use Rattle.operation.specs.Answer.{Answer, given, Nothing}
use Rattle.operation.specs.Meaning.{matrix_of}
use Rattle.operation.specs.declared.Operation as operation
use Rattle.five_bytes.specs.FiveBytes.{Sayable}
use Rattle.five_bytes.specs.OneForm.{Bytes}
use Rattle.operation_line.specs.Spelling.{Line, Spells}
use Rattle.operation_line.specs.Denoted.{translation_of_line, operation_of_line}
use Rattle.operation_line.specs.Reading.{read_line}
use Rattle.operation_line.specs.Held.{part_small}
use Rattle.operation_line.specs.Ended.{line-digits}
use Rattle.operation_line.specs.Answers.{answers-exact}
use Rattle.operation_line.specs.Writing.{written_line, written_answer, write_of, buffer_of}
use Rattle.operation_line.specs.Placed.{line-short}
use Rattle.operation_line.specs.WrittenLines.{written-spelt}
use Rattle.operation_line.specs.WritingAnswers.{BytesOf, Outcome, no-operation, no-determinant, no_room, written, write-outcome}

-- A line that is written is read as its operation.
pub read_back : (f : operation.Operation) → Sayable f → Unimodular (matrix_of f.rotation) → read_line (written_line f) ≡ Ok f
read_back f s u =
    let w = written-spelt f s u in
    (answers-exact (written_line f) (Ok f)).1 (record {
      short = omega (arith, line-short f);
      line = w.line;
      spells = w.spells;
      is = sym w.denotes;
      unimodular = u;
    })

-- An operation that is read can be said by five bytes: entries in −1..1, twelfths below 12.
pub spelt-sayable : (text : List ℕ) (l : Line) → Spells text l → Sayable (operation_of_line l)
unfolding operation_of_line translation_of_line
spelt-sayable text l s = record { digits = line-digits l; x = part_small s.of-x; y = part_small s.of-y; z = part_small s.of-z }

pub read-sayable : (text : List ℕ) (f : operation.Operation) → read_line text ≡ Ok f → Sayable f × Unimodular (matrix_of f.rotation)
read-sayable text f e =
    let r = (answers-exact text (Ok f)).0 e in
    (subst Sayable (sym r.is) (spelt-sayable text r.line r.spells), r.unimodular)

-- What was read, written and read again is the same operation.
pub write-back : (text : List ℕ) (f : operation.Operation) → read_line text ≡ Ok f → read_line (written_line f) ≡ Ok f
write-back text f e = let (s, u) = read-sayable text f e in read_back f s u

-- The same of the entries: what stands in the buffer after a success is read as the operation whose five bytes were given.
pub record ReadBack (bytes after : List ℕ) (n : ℕ) : Type 0 where
  pub operation : operation.Operation
  pub is : BytesOf bytes operation
  pub same : read_line (take n after) ≡ Ok operation

written_read : (bytes out : List ℕ) (answer : Answer ℕ Nothing) (after : List ℕ) (n : ℕ) → Outcome bytes out answer after → answer ≡ given n
    → ReadBack bytes after n
written_read bytes out answer after n (no-operation h) e = let z : ◌≡◌ {A = ℕ} 0 1 = cc in absurd (omega arith)
written_read bytes out answer after n (no-determinant f b u) e = let z : ◌≡◌ {A = ℕ} 0 1 = cc in absurd (omega arith)
written_read bytes out answer after n (no_room f b u l) e = let z : ◌≡◌ {A = ℕ} 0 1 = cc in absurd (omega arith)
written_read bytes out answer after n (written f b u l) e =
    let long : length (written_line f) ≡ n = cc in
    record {
      operation = f;
      is = b;
      same = ap read_line (take_at (written_line f) (drop (length (written_line f)) out) n long) ∙ read_back f b.sayable u;
    }

pub written-reads-back : (bytes out : List ℕ) (n : ℕ) → Bytes bytes → write_of bytes (length out) ≡ Ok n → ReadBack bytes (buffer_of bytes out) n
written-reads-back bytes out n g e =
    written_read bytes out (written_answer (write_of bytes (length out))) (buffer_of bytes out) n (write-outcome bytes out g) (ap written_answer e)
