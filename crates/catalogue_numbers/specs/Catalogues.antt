-- A catalogue in bytes that C lends, and the answer of a call on it as one number, by R12.
use Rattle.std.specs.Prelude.{Bool, true, false, cond, List, ◌∷◌, ◌++◌, ℕ, ◌+◌, ◌*◌, ltb, length, get_or, take, drop}
use Rattle.operation.specs.Answer.{Answer, given, refused, Nothing}
use Rattle.catalogue.specs.Answers.{fresh, piece_step, piece_room, end_step, end_room, Said, nothing, line, catalogue_answer}
use Rattle.catalogue.specs.declared.Catalogue.{Catalogue}
use Rattle.catalogue.specs.declared.Step.{Step}
use Rattle.answer_numbers.specs.Packing.{mapped}

-- How many bytes of the lent ones a catalogue has: its status, and 80 for the line that goes on.
abbrev pub state_length : ℕ
state_length = 81

-- Any such bytes are a catalogue,
abbrev pub catalogue_in : List ℕ → Catalogue
catalogue_in state = record { status = get_or state 0 0; bytes = take 80 (drop 1 state) }

-- and a catalogue is put back into them; what stands behind stays.
unfoldable pub put_back : Catalogue → List ℕ → List ℕ
put_back c state = c.status ∷ (c.bytes ++ drop state_length state)

-- ---- an answer as a number
-- What is said of a line: 0 for none; one more than the count; or one more than 256 times the number and the place.
abbrev pub said_number : Said → ℕ
said_number nothing = 0
said_number (line (given n)) = n + 1
said_number (line (refused number place _)) = number * 256 + place + 1

-- The bytes that were taken stand in the two lowest bytes, and what is said above them.
abbrev pub step_number : ℕ × Said → ℕ
step_number (taken, said) = taken + 65536 * said_number said

-- ---- the calls
-- Too few bytes are lent for a catalogue: 20, before everything else.
abbrev pub too_few : List ℕ → Bool
too_few state = ltb (length state) state_length

abbrev pub unless_few : List ℕ → Answer ℕ Nothing → Answer ℕ Nothing
unless_few state a = cond (too_few state) (refused 20 0 tt) a

-- A fresh start.
abbrev pub start_answer : List ℕ → Answer ℕ Nothing
start_answer state = unless_few state (given 0)

abbrev pub start_state : List ℕ → List ℕ
start_state state = cond (too_few state) state (put_back (fresh (catalogue_in state).bytes) state)

-- A step is that of a piece or, where the end is announced, that of the end, which looks at no piece.
abbrev pub step_of : Bool → Catalogue → List ℕ → List ℕ → Step
step_of true c piece out = end_step c out
step_of false c piece out = piece_step c piece out

abbrev pub room_of : Bool → Catalogue → List ℕ → List ℕ → List ℕ
room_of true c piece out = end_room c out
room_of false c piece out = piece_room c piece out

abbrev pub step_answer : Bool → List ℕ → List ℕ → List ℕ → Answer ℕ Nothing
step_answer ends state piece out = unless_few state (mapped step_number (catalogue_answer (step_of ends (catalogue_in state) piece out).answer))

abbrev pub step_state : Bool → List ℕ → List ℕ → List ℕ → List ℕ
step_state ends state piece out = cond (too_few state) state (put_back (step_of ends (catalogue_in state) piece out).catalogue state)

abbrev pub step_out : Bool → List ℕ → List ℕ → List ℕ → List ℕ
step_out ends state piece out = cond (too_few state) out (room_of ends (catalogue_in state) piece out)

-- A piece.
abbrev pub piece_answer : List ℕ → List ℕ → List ℕ → Answer ℕ Nothing
piece_answer state piece out = unless_few state (mapped step_number (catalogue_answer (piece_step (catalogue_in state) piece out).answer))

abbrev pub piece_state : List ℕ → List ℕ → List ℕ → List ℕ
piece_state state piece out = cond (too_few state) state (put_back (piece_step (catalogue_in state) piece out).catalogue state)

abbrev pub piece_out : List ℕ → List ℕ → List ℕ → List ℕ
piece_out state piece out = cond (too_few state) out (piece_room (catalogue_in state) piece out)

-- The end.
abbrev pub end_answer : List ℕ → List ℕ → Answer ℕ Nothing
end_answer state out = unless_few state (mapped step_number (catalogue_answer (end_step (catalogue_in state) out).answer))

abbrev pub end_state : List ℕ → List ℕ → List ℕ
end_state state out = cond (too_few state) state (put_back (end_step (catalogue_in state) out).catalogue state)

abbrev pub end_out : List ℕ → List ℕ → List ℕ
end_out state out = cond (too_few state) out (end_room (catalogue_in state) out)
