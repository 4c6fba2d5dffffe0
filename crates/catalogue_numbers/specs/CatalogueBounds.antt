-- What is answered on a catalogue can be packed: at most 4,096 bytes are taken, and what is said of a line is a count, or a number and a place, of a byte each.
use Rattle.std.specs.Prelude.{◌≡◌, refl, Bool, true, false, cond, List, [], ◌∷◌, ℕ, ◌≤◌, ltb, length, Err, Ok, Result}
use Rattle.std.proofs.Common.{ap, ap₂, arith, ltb-false}
use Rattle.operation.specs.Answer.{Answer, given, refused}
use Rattle.lines.specs.Lines.{last_line}
use Rattle.lines.specs.Feeding.{taken_of, handed_over, kept_behind, taken-within}
use Rattle.lines.specs.Keeping.{stored}
use Rattle.symbol_group.specs.Answers.{symbol_answer}
use Rattle.symbol_group.specs.Slots.{symbol-slots}
use Rattle.symbol_group.specs.declared.Answer as symbol-answer
use Rattle.symbol_group.specs.declared.Answer.TheVariants.{Group, Refused}
use Rattle.record_writing.specs.Copying.{room_for}
use Rattle.record_writing.specs.SymbolRecords.{written_by, symbol_record_of, symbol_record_answer}
use Rattle.catalogue.specs.Answers.{most_at_once, is_ended, keeping, line_so_far, ended_in, told_by, refusing, part_of, piece_step, end_step, Said, nothing, line, catalogue_answer}
use Rattle.catalogue.specs.declared.Catalogue.{Catalogue}
use Rattle.answer_numbers.specs.Packing.{Close, near, Within, Low, Numbers}
use Rattle.catalogue_numbers.specs.Catalogues.{said_number, step_number, step_of}
use Rattle.symbol_numbers.specs.SymbolBounds.{symbol-close}
use Rattle.catalogue.specs.declared.Refusal.TheVariants.{AfterEnd, LongPiece}
use Rattle.record_writing.specs.declared.Unwritten.TheVariants.{NoRoom}
use Rattle.catalogue.specs.declared.Progress.{Progress}
use Rattle.catalogue.specs.declared.Refusal.{Refusal}

-- What can be said of a line.
abbrev pub Short : Said → Type 0
Short nothing = Unit {0}
Short (line (given n)) = n ≤ 48
Short (line (refused number place _)) = Close number place

-- What a call answers that is not refused.
abbrev pub ShortStep : ℕ × Said → Type 0
ShortStep (taken, said) = (taken ≤ most_at_once) × Short said

-- An answer that can be packed.
abbrev pub Tellable : Result Progress Refusal → Type 0
Tellable a = Within ShortStep (catalogue_answer a)

-- ---- it can be told from its number
pub said-low : (s : Said) → Short s → said_number s ≤ 65361
said-low nothing h = omega arith
said-low (line (given n)) h = omega arith
said-low (line (refused number place _)) h = omega (arith, h.one_byte, h.at_most)

said-once : (s t : Said) → Short s → Short t → said_number s ≡ said_number t → s ≡ t
said-once nothing nothing h k e = refl
said-once nothing (line (given m)) h k e = absurd (omega arith)
said-once nothing (line (refused m q _)) h k e = absurd (omega arith)
said-once (line (given n)) nothing h k e = absurd (omega arith)
said-once (line (given n)) (line (given m)) h k e = ap (λ (i : ℕ). line (given i)) (omega arith)
said-once (line (given n)) (line (refused m q _)) h k e = absurd (omega (arith, k.some))
said-once (line (refused n p _)) nothing h k e = absurd (omega arith)
said-once (line (refused n p _)) (line (given m)) h k e = absurd (omega (arith, h.some))
said-once (line (refused n p _)) (line (refused m q _)) h k e =
    let numbers : n ≡ m = omega (arith, h.at_most, k.at_most) in
    let places : p ≡ q = omega (arith, h.at_most, k.at_most) in
    ap₂ (λ (i j : ℕ). line (refused i j tt)) numbers places

step-low : (s : ℕ × Said) → ShortStep s → Low (step_number s)
step-low (taken, said) h = omega (arith, h.0, said-low said h.1)

step-once : (s t : ℕ × Said) → ShortStep s → ShortStep t → step_number s ≡ step_number t → s ≡ t
step-once (taken, said) (other, told) h k e =
    let same : taken ≡ other = omega (arith, h.0, k.0) in
    let saids : said ≡ told = said-once said told h.1 k.1 (omega (arith, h.0, k.0)) in
    ap₂ (λ (n : ℕ) (s : Said). (n, s)) same saids

-- So two answers never share a number.
pub steps : Numbers ShortStep step_number
steps = record { low = step-low; once = step-once }

-- ---- what is answered is short
-- For a line, by the answer of its symbol's group, and by the room for the record.
record-by : (text : List ℕ) (start size : ℕ) (a : symbol-answer.Answer) → (symbol_answer text).answer ≡ a
    → Short (line (symbol_record_answer (written_by a (symbol_answer text).count start size)))
record-by text start size Group e = by-room (room_for start (symbol_answer text).count size)
  where
    by-room : (b : Bool) → Short (line (symbol_record_answer (cond b (Ok (symbol_answer text).count) (Err NoRoom))))
    by-room true = omega (arith, (symbol-slots text).0)
    by-room false = record { some = omega arith; one_byte = omega arith; at_most = omega arith }
record-by text start size (Refused r) e = symbol-close text r e

record-short : (text out : List ℕ) → Short (line (symbol_record_answer (symbol_record_of text out 0)))
unfolding symbol_record_of
record-short text out = record-by text 0 (length out) (symbol_answer text).answer refl

-- For what is handed over.
told-short : (taken : ℕ) (lines : List (List ℕ)) (out : List ℕ) → taken ≤ most_at_once → Tellable (told_by taken lines out)
told-short taken [] out h = (h, tt)
told-short taken (text ∷ lines) out h = (h, record-short text out)

-- For a piece,
pub piece-short : (c : Catalogue) (piece out : List ℕ) → Tellable (piece_step c piece out).answer
unfolding piece_step
piece-short c piece out =
    by_tests (ltb most_at_once (length piece)) (is_ended c) (keeping (stored c.bytes (kept_behind (line_so_far c) (part_of piece)))) refl
  where
    by_tests : (t u : Bool) (then : Catalogue) → ltb most_at_once (length piece) ≡ t
        → Tellable (cond t (refusing (Err LongPiece) c) (cond u (refusing (Err AfterEnd) c)
        (record { answer = told_by (taken_of piece) (handed_over (line_so_far c) (part_of piece)) out; catalogue = then }))).answer
    by_tests true u then e = near (omega arith) (omega arith) (omega arith)
    by_tests false true then e = near (omega arith) (omega arith) (omega arith)
    by_tests false false then e =
        let short = ltb-false most_at_once (length piece) e in
        told-short (taken_of piece) (handed_over (line_so_far c) (part_of piece)) out (omega (arith, taken-within piece))

-- and for the end.
pub end_short : (c : Catalogue) (out : List ℕ) → Tellable (end_step c out).answer
unfolding end_step
end_short c out = by-test (is_ended c) (ended_in c.bytes)
  where
    by-test : (t : Bool) (then : Catalogue)
        → Tellable (cond t (refusing (Err AfterEnd) c) (record { answer = told_by 0 (last_line (line_so_far c)) out; catalogue = then })).answer
    by-test true then = near (omega arith) (omega arith) (omega arith)
    by-test false then = told-short 0 (last_line (line_so_far c)) out (omega arith)

-- So for either.
pub step-short : (ends : Bool) (c : Catalogue) (piece out : List ℕ) → Tellable (step_of ends c piece out).answer
step-short true c piece out = end_short c out
step-short false c piece out = piece-short c piece out
