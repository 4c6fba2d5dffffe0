-- The text for one line, by R9: the symbol, then letter and count and the record's operations in order, or the refusal.
use Rattle.std.specs.Prelude.{List, [], ◌∷◌, ◌++◌, map, ℕ, ◌-◌, ℤ, length, take, replicate}
use Prim.Native.String.{String}
use Prim.Native.Char.{code}
use Rattle.laws.specs.Motion.{SpaceMotion}
use Rattle.operation.specs.Meaning.{motion_of}
use Rattle.operation.specs.declared.Operation.{Operation}
use Rattle.centering.specs.Letters.{byte_of}
use Rattle.centering.specs.declared.Centering.{Centering}
use Rattle.symbol_group.specs.Answers.{symbol_answer}
use Rattle.symbol_group.specs.Refusals.{number_of, place_of}
use Rattle.symbol_group.specs.declared.refusal.Refusal.{Refusal}
use Rattle.symbol_group.specs.declared.Answer.{Answer}
use Rattle.symbol_group.specs.declared.Answer.TheVariants.{Group, Refused}
use Rattle.group_record.specs.Items.{bytes_of}
use Rattle.group_record.specs.Record.{listed_form}
use Rattle.answer_text.specs.Words.{newline, decimal, signed, line_of}
use Rattle.answer_text.specs.declared.AnswerText.{AnswerText}

-- A quoted text as bytes.
abbrev pub bytes : String → List ℕ
bytes String.[] = []
bytes (String.◌∷◌ c s) = code c ∷ bytes s

-- The numbers of an operation: the nine entries of its matrix by rows, then the three coordinates in twelfths.
abbrev pub numbers_of : SpaceMotion → List ℤ
numbers_of m =
    m.rotation.xx ∷ m.rotation.xy ∷ m.rotation.xz ∷
    m.rotation.yx ∷ m.rotation.yy ∷ m.rotation.yz ∷
    m.rotation.zx ∷ m.rotation.zy ∷ m.rotation.zz ∷
    m.translation.x ∷ m.translation.y ∷ m.translation.z ∷ []

-- An operation is a line of its numbers.
unfoldable pub operation_line : Operation → List ℕ
operation_line f = line_of (map signed (numbers_of (motion_of f)))

-- A group: its letter and how many operations follow, and a line for each.
unfoldable pub group_text : Centering → List Operation → List ℕ
group_text c l = line_of ((byte_of c ∷ []) ∷ decimal (length l) ∷ []) ++ bytes_of operation_line l

-- A refusal: its number and its place.
unfoldable pub refusal_text : Refusal → List ℕ
refusal_text r = line_of (bytes "refused" ∷ decimal (number_of r) ∷ decimal (place_of r) ∷ [])

-- The operations are those of the record, in its order.
abbrev pub answer_by : Answer → Centering → List Operation → List ℕ
answer_by Group c l = group_text c (listed_form c l)
answer_by (Refused r) c l = refusal_text r

-- What is answered for a line.
unfoldable pub answer_of : List ℕ → List ℕ
answer_of line =
    let g = symbol_answer line in answer_by g.answer g.centering (take g.count g.operations)

-- The symbol, at most its first 80 bytes, on a line of its own; then the answer.
unfoldable pub text_of : List ℕ → List ℕ
text_of line = take 80 line ++ (newline ∷ answer_of line)

-- The text in a buffer of fixed size: zeros stand behind it.
unfoldable pub text_answer : List ℕ → AnswerText
text_answer line =
    let text = text_of line in
    record { length = length text; bytes = text ++ replicate (1814 - length text) 0 }
