-- The record of a symbol's text, written from a stated place of a lent buffer: what is answered, and what the buffer holds afterwards.
use Rattle.std.specs.Prelude.{◌≡◌, Bool, cond, List, ℕ, length, take, Err, Ok, Result}
use Rattle.operation.specs.Answer as answer
use Rattle.symbol_group.specs.Answers.{symbol_answer}
use Rattle.symbol_group.specs.Refusals.{number_of, place_of}
use Rattle.symbol_group.specs.declared.refusal.Refusal.{Refusal}
use Rattle.symbol_group.specs.declared.Answer.{Answer}
use Rattle.symbol_group.specs.declared.Answer.TheVariants.{Group, Refused}
use Rattle.symbol_group.specs.declared.SymbolGroup.{SymbolGroup}
use Rattle.group_record.specs.Record.{record_of}
use Rattle.record_writing.specs.Places.{placed_in}
use Rattle.record_writing.specs.Copying.{room_for}
use Rattle.record_writing.specs.declared.Unwritten.TheVariants.{NoRoom, Refused as NotWritten}
use Rattle.record_writing.specs.declared.Unwritten.{Unwritten}

-- ---- the record
-- The record of a symbol's group: of its letter and its listed operations.
abbrev pub group_record : SymbolGroup → List ℕ
group_record g = record_of g.centering (take g.count g.operations)

-- The record of a text that is accepted.
unfoldable pub text_record : List ℕ → List ℕ
text_record text = group_record (symbol_answer text)

-- ---- the answer
-- The symbol's refusal goes first; then there is room, or 20.
abbrev pub written_by : Answer → ℕ → ℕ → ℕ → Result ℕ (Unwritten Refusal)
written_by Group n start size = cond (room_for start n size) (Ok n) (Err NoRoom)
written_by (Refused r) n start size = Err (NotWritten r)

-- What is answered for a text.
unfoldable pub symbol_record_of : List ℕ → List ℕ → ℕ → Result ℕ (Unwritten Refusal)
symbol_record_of text out start = written_by (symbol_answer text).answer (symbol_answer text).count start (length out)

-- Each answer in numbers: the count, or the refusal's number and place.
abbrev pub symbol_record_answer : Result ℕ (Unwritten Refusal) → answer.Answer ℕ answer.Nothing
symbol_record_answer (Ok n) = answer.given n
symbol_record_answer (Err NoRoom) = answer.refused 20 0 tt
symbol_record_answer (Err (NotWritten r)) = answer.refused (number_of r) (place_of r) tt

-- ---- the buffer
-- A symbol's refusal touches nothing.
abbrev pub placed_by : Answer → List ℕ → ℕ → List ℕ → List ℕ
placed_by Group out start bytes = placed_in out start bytes
placed_by (Refused r) out start bytes = out

-- What the lent buffer holds afterwards.
unfoldable pub symbol_buffer_of : List ℕ → List ℕ → ℕ → List ℕ
symbol_buffer_of text out start = placed_by (symbol_answer text).answer out start (text_record text)

-- ---- by the symbol's answer
module _ (text out : List ℕ) (start : ℕ) (g : SymbolGroup) (e : g ≡ symbol_answer text) where
  -- The answer to a symbol that is refused, and the buffer.
  pub refused-by : (r : Refusal) → g.answer ≡ Refused r → (Err (NotWritten r) ≡ symbol_record_of text out start) × (out ≡ symbol_buffer_of text out start)
  unfolding symbol_record_of symbol_buffer_of
  refused-by r a = (rw (← e, a), rw (← e, a))

  -- The answer to one that is accepted, by whether there was room, and the buffer.
  pub accepted-by : g.answer ≡ Group → (b : Bool) → b ≡ room_for start g.count (length out)
      → (left : List ℕ) → left ≡ placed_in out start (group_record g)
      → (cond b (Ok g.count) (Err NoRoom) ≡ symbol_record_of text out start) × (left ≡ symbol_buffer_of text out start)
  unfolding symbol_record_of symbol_buffer_of text_record
  accepted-by a b room left placed = (rw (room, ← e, a), rw (placed, ← e, a))
