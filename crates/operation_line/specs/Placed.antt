-- A line made aside and copied to a lent buffer: the answer and the whole buffer, case by case.
use Rattle.std.specs.Prelude.{◌≡◌, refl, true, false, List, ◌++◌, ℕ, ◌<◌, ◌≤◌, length, take, drop, Err, None, Ok, Result, Some}
use Rattle.std.proofs.Common.{sym, ◌∙◌, ap, ap₂, arith, lt-ltb, le-ltb, length-append, take_at}
use Rattle.operation.specs.declared.Operation.{Operation}
use Rattle.five_bytes.specs.FiveBytes.{five_bytes_of}
use Rattle.placed_text.specs.Placing.{Put, put_front}
use Rattle.operation_line.specs.Writing.{line_of, plain_line, written_line, fitted_answer, fitted, writable, write_of, buffer_of}
use Rattle.operation_line.specs.Building.{part-short}
use Rattle.operation_line.specs.declared.WritingRefusal.TheVariants.{Determinant, NoOperation, NoRoom}
use Rattle.operation_line.specs.declared.WritingRefusal.{WritingRefusal}

-- Three parts and two commas have at most 38 bytes.
pub line-short : (f : Operation) → length (written_line f) ≤ 38
unfolding written_line plain_line line_of
line-short f =
    let r = f.rotation in
    let t = f.translation in
    simp length-append (omega (
      arith,
      part-short r.xx r.xy r.xz t.x,
      part-short r.yx r.yy r.yz t.y,
      part-short r.zx r.zy r.zz t.z,
    ))

-- What is said of the answer and of the buffer behind it.
abbrev pub Fitted : List ℕ → List ℕ → Result ℕ WritingRefusal → List ℕ → Type 0
Fitted text out answer after = (answer ≡ fitted_answer text (length out)) × (after ≡ fitted text out)

module _ {aside line text : List ℕ} {size : ℕ} (made : Put aside 0 text line size) (short : length text ≤ length aside) where
  pub made-size : size ≡ length text
  made-size = omega (arith, made.place)

  made-text : take size line ≡ text
  made-text = ap (take size) (made.bytes ∙ put_front aside text short) ∙ take_at text (drop (length text) aside) size (sym made-size)

  pub no_room : (out : List ℕ) → length out < size → Fitted text out (Err NoRoom) out
  no_room out h = let less : length out < length text = omega (arith, made-size) in rw (lt-ltb (length out) (length text) less) (refl, refl)

  pub with-room : (out after : List ℕ) → size ≤ length out → after ≡ take size line ++ drop size out → Fitted text out (Ok size) after
  with-room out after h e =
      let enough : length text ≤ length out = omega (arith, made-size) in
      rw (le-ltb (length out) (length text) enough) (ap Ok made-size, e ∙ ap₂ (λ (l : List ℕ) (n : ℕ). l ++ drop n out) made-text made-size)

-- The whole answer: 34, 42, or by the room.
abbrev pub Written : List ℕ → List ℕ → Result ℕ WritingRefusal → List ℕ → Type 0
Written bytes out answer after = (answer ≡ write_of bytes (length out)) × (after ≡ buffer_of bytes out)

module _ (bytes out : List ℕ) where
  pub no-operation : five_bytes_of bytes ≡ None → Written bytes out (Err NoOperation) out
  unfolding write_of buffer_of
  no-operation e = rw e (refl, refl)

  pub no-determinant : (f : Operation) → five_bytes_of bytes ≡ Some f → writable f ≡ false → Written bytes out (Err Determinant) out
  unfolding write_of buffer_of
  no-determinant f e d = rw (e, d) (refl, refl)

  pub by-room : (f : Operation) (answer : Result ℕ WritingRefusal) (after : List ℕ) → five_bytes_of bytes ≡ Some f → writable f ≡ true
      → Fitted (written_line f) out answer after
      → Written bytes out answer after
  unfolding write_of buffer_of
  by-room f answer after e d h = rw (e, d) h
