-- When a call is refused and what it leaves then; that a caller's calls come to an end; what is answered for a line over 80 bytes, and which room suffices.
use Rattle.std.specs.Prelude.{◌≡◌, refl, ◌↔◌, ◌⊎◌, Bool, true, false, cond, List, [], ◌∷◌, ◌++◌, ℕ, zero, suc, ◌+◌, ◌*◌, ◌<◌, ◌≤◌, ltb, length, drop, Err, Result}
use Rattle.std.proofs.Common.{sym, ◌∙◌, ap, subst, inl, inr, arith, length-append, length-drop, ltb-true, ltb-false}
use Rattle.hall_symbol.specs.declared.refusal.Refusal.TheVariants.{TooLong}
use Rattle.symbol_group.specs.Answers.{symbol_answer}
use Rattle.symbol_group.specs.declared.Answer as symbol-answer
use Rattle.symbol_group.specs.declared.Answer.TheVariants.{Group, Refused}
use Rattle.symbol_group.specs.declared.refusal.Refusal.TheVariants.{Text}
use Rattle.record_writing.specs.AcceptedSymbols.{symbol-writable}
use Rattle.record_writing.specs.Places.{room-there}
use Rattle.record_writing.specs.SymbolRecords.{symbol_record_of}
use Rattle.lines.specs.Lines.{lines_of, in_a_row, Unended, next, lines-spelled, spelled-lines}
use Rattle.lines.specs.Feeding.{taken_of, handed_over, taken-some}
use Rattle.catalogue.specs.Answers.{most_at_once, ended_status, line_so_far, fresh, told_by, refusing, part_of, piece_step, piece_room, end_step, end_room}
use Rattle.catalogue.specs.Steps.{long-piece, piece-after, piece-open, end_after, end-open}
use Rattle.catalogue.specs.Calls.{taken_by, heard, still_to_come, AllFit, Calls, ending, handing, answers_from, long-answer, Open, next-open, taken-told, still-fit, piece-next, cut-anywhere}
use Rattle.catalogue.specs.declared.Catalogue.{Catalogue}
use Rattle.catalogue.specs.declared.Step.{Step}
use Rattle.catalogue.specs.declared.Refusal.TheVariants.{AfterEnd, LongPiece}
use Rattle.record_writing.specs.declared.Unwritten.TheVariants.{NoRoom, Refused as NotWritten}
use Rattle.record_writing.specs.declared.Unwritten.{Unwritten}
use Rattle.symbol_group.specs.declared.refusal.Refusal.{Refusal}

-- ---- refusals
-- What was taken is no refusal.
pub never-refused : (taken : ℕ) (lines : List (List ℕ)) (out : List ℕ)
    → (told_by taken lines out ≡ Err LongPiece → ⊥) × (told_by taken lines out ≡ Err AfterEnd → ⊥)
never-refused taken [] out = ((λ e. let z : ◌≡◌ {A = ℕ} 0 1 = cc in absurd (omega arith)), λ e. let z : ◌≡◌ {A = ℕ} 0 1 = cc in absurd (omega arith))
never-refused taken (line ∷ lines) out = (
  (λ e. let z : ◌≡◌ {A = ℕ} 0 1 = cc in absurd (omega arith)),
  λ e. let z : ◌≡◌ {A = ℕ} 0 1 = cc in absurd
      (omega arith),
)

module _ (c : Catalogue) (piece out : List ℕ) where
  -- 45 for a piece over 4,096 bytes, whatever came before; the catalogue and the room stay.
  pub long-stays : most_at_once < length piece → (piece_step c piece out ≡ refusing (Err LongPiece) c) × (piece_room c piece out ≡ out)
  long-stays h = let (step, room) = long-piece c piece out h in (sym step, sym room)

  -- 46 for any other after the end; they stay too.
  pub ended-stays : length piece ≤ most_at_once → 81 < c.status → (piece_step c piece out ≡ refusing (Err AfterEnd) c) × (piece_room c piece out ≡ out)
  ended-stays short h = let (step, room) = piece-after c piece out short h in (sym step, sym room)

  by_tests : (t u : Bool) → ltb most_at_once (length piece) ≡ t → ltb 81 c.status ≡ u → (((piece_step c piece out).answer ≡ Err LongPiece) ↔ (most_at_once < length piece)) × (((piece_step c piece out).answer ≡ Err AfterEnd) ↔ ((length piece ≤ most_at_once) × (81 < c.status)))
  by_tests true u e f =
      let long = ltb-true most_at_once (length piece) e in
      let said : (piece_step c piece out).answer ≡ (Err LongPiece) = ap (λ (s : Step). s.answer) (long-stays long).0 in (
        ((λ a. long), λ h. said),
        ((λ a. let z : ◌≡◌ {A = ℕ} 0 1 = cc in absurd (omega arith)), λ h. absurd (omega (arith, h.0))),
      )
  by_tests false true e f =
      let short = ltb-false most_at_once (length piece) e in
      let over = ltb-true 81 c.status f in
      let said : (piece_step c piece out).answer ≡ (Err AfterEnd) = ap (λ (s : Step). s.answer) (ended-stays short over).0 in (
        ((λ a. let z : ◌≡◌ {A = ℕ} 0 1 = cc in absurd (omega arith)), λ h. absurd (omega arith)),
        ((λ a. (short, over)), λ h. said),
      )
  by_tests false false e f =
      let short = ltb-false most_at_once (length piece) e in
      let going = ltb-false 81 c.status f in
      let lines = handed_over (line_so_far c) (part_of piece) in
      let said : (piece_step c piece out).answer ≡ told_by (taken_of piece) lines out = ap (λ (s : Step). s.answer)
      (sym (piece-open c piece out short going).0) in
      let never = never-refused (taken_of piece) lines out in (
        ((λ a. absurd (never.0 (sym said ∙ a))), λ h. absurd (omega arith)),
        ((λ a. absurd (never.1 (sym said ∙ a))), λ h. absurd (omega (arith, h.1))),
      )

  -- Each of them exactly when, 45 first.
  pub long-exactly : ((piece_step c piece out).answer ≡ Err LongPiece) ↔ (most_at_once < length piece)
  long-exactly = (by_tests (ltb most_at_once (length piece)) (ltb 81 c.status) refl refl).0

  pub after-exactly : ((piece_step c piece out).answer ≡ Err AfterEnd) ↔ ((length piece ≤ most_at_once) × (81 < c.status))
  after-exactly = (by_tests (ltb most_at_once (length piece)) (ltb 81 c.status) refl refl).1

  -- A call on a piece that is not refused and holds a byte takes at least one: so a caller's loop ends.
  pub takes-some : length piece ≤ most_at_once → c.status ≤ 81 → 0 < length piece → 0 < taken_by (piece_step c piece out).answer
  takes-some short going some =
      let said = ap (λ (s : Step). taken_by s.answer) (sym (piece-open c piece out short going).0)
      ∙ taken-told (taken_of piece) (handed_over (line_so_far c) (part_of piece)) out in
      omega (arith, said, taken-some piece some)

module _ (c : Catalogue) (out : List ℕ) where
  -- An end after the end is refused too, and they stay.
  pub end_stays : 81 < c.status → (end_step c out ≡ refusing (Err AfterEnd) c) × (end_room c out ≡ out)
  end_stays h = let (step, room) = end_after c out h in (sym step, sym room)

  -- The end is announced: every piece and every end is refused from then on.
  pub ended-behind : (end_step c out).answer ≡ Err AfterEnd ⊎ ((end_step c out).catalogue.status ≡ ended_status)
  ended-behind = by-test (ltb 81 c.status) refl
    where
      by-test : (t : Bool) → ltb 81 c.status ≡ t → (end_step c out).answer ≡ Err AfterEnd ⊎ ((end_step c out).catalogue.status ≡ ended_status)
      by-test true e = inl (ap (λ (s : Step). s.answer) (end_stays (ltb-true 81 c.status e)).0)
      by-test false e = inr (ap (λ (s : Step). s.catalogue.status) (sym (end-open c out (ltb-false 81 c.status e)).0))

-- ---- a caller's calls come to an end
-- How much there is to hand in.
abbrev size : List (List ℕ) → ℕ
size pieces = length pieces + length (in_a_row pieces)

row-length : (piece : List ℕ) (pieces : List (List ℕ)) → length (in_a_row (piece ∷ pieces)) ≡ length piece + length (in_a_row pieces)
unfolding in_a_row
row-length piece pieces = length-append piece (in_a_row pieces)

-- It is less behind each call.
size_less : (taken : ℕ) (piece : List ℕ) (pieces : List (List ℕ)) → (0 < length piece → 0 < taken)
    → size (still_to_come taken piece pieces) < size (piece ∷ pieces)
size_less taken piece pieces some = by-test (ltb taken (length piece)) refl
  where
    by-test : (t : Bool) → ltb taken (length piece) ≡ t → size (cond t (drop taken piece ∷ pieces) pieces) < size (piece ∷ pieces)
    by-test true e =
        let less = ltb-true taken (length piece) e in
        let one = some (omega arith) in
        omega (arith, row-length piece pieces, row-length (drop taken piece) pieces, length-drop taken piece)
    by-test false e = omega (arith, row-length piece pieces)

module _ (rooms : ℕ → List ℕ) where
  -- There are such calls where there is at most so much.
  abbrev CallsWithin : ℕ → Type 0
  CallsWithin n = (c : Catalogue) → Open c → (i : ℕ) (pieces : List (List ℕ)) → AllFit pieces → size pieces ≤ n
      → (answers : List (Result ℕ (Unwritten Refusal) × List ℕ))
      × Calls rooms c i pieces answers

  ends_now : CallsWithin 0
  ends_now c O i [] fit few = (heard (end_step c (rooms i)).answer (end_room c (rooms i)), ending c i)
  ends_now c O i (piece ∷ pieces) fit few = absurd (omega arith)

  goes_on : (n : ℕ) → CallsWithin n → CallsWithin (suc n)
  goes_on n shorter c O i [] fit few = (heard (end_step c (rooms i)).answer (end_room c (rooms i)), ending c i)
  goes_on n shorter c O i (piece ∷ pieces) fit few =
      let step = piece_step c piece (rooms i) in
      let taken = taken_by step.answer in
      let less = size_less taken piece pieces (λ some. takes-some c piece (rooms i) fit.0 O.going some) in
      let then = subst Open (sym (piece-next rooms c O i piece fit.0)) (next-open c O piece) in
      let more = i + length (heard step.answer (piece_room c piece (rooms i))) in
      let (later, calls) = shorter step.catalogue then more (still_to_come taken piece pieces) (still-fit taken piece pieces fit) (omega arith) in
      (heard step.answer (piece_room c piece (rooms i)) ++ later, handing c i piece pieces later calls)

  calls-within : (n : ℕ) → CallsWithin n
  calls-within zero = ends_now
  calls-within (suc n) = goes_on n (calls-within n)

  -- However a catalogue is cut, there are such calls from a fresh start.
  pub calls-end : (bytes : List ℕ) → length bytes ≡ 80 → (pieces : List (List ℕ)) → AllFit pieces → (answers : List (Result ℕ (Unwritten Refusal) × List ℕ))
      × Calls rooms (fresh bytes) 0 pieces answers
  calls-end bytes places pieces fit =
      calls-within (size pieces) (fresh bytes) (record { going = omega arith; places = places }) 0 pieces fit (omega arith)

  -- ---- a line over 80 bytes
  -- It is answered 1 once, at its end, the room untouched, and reading resumes behind its byte 10.
  pub too-long-once : (bytes : List ℕ) → length bytes ≡ 80 → (pieces : List (List ℕ)) → AllFit pieces → (answers : List (Result ℕ (Unwritten Refusal) × List ℕ))
      → Calls rooms (fresh bytes) 0 pieces answers → (line text : List ℕ) → Unended line → 80 < length line → in_a_row pieces ≡ line ++ (10 ∷ text) → answers
      ≡ (Err (NotWritten (Text TooLong)), rooms 0) ∷ answers_from rooms 1 (lines_of text)
  too-long-once bytes places pieces fit answers calls line text u long e =
      let alike = long-answer line (rooms 0) long in
      cut-anywhere rooms bytes places pieces fit answers calls
      ∙ ap (λ (t : List ℕ). answers_from rooms 0 (lines_of t)) e
      ∙ ap (answers_from rooms 0) (spelled-lines (next line u (lines-spelled text)))
      ∙ ap (λ (a : Result ℕ (Unwritten Refusal) × List ℕ). a ∷ answers_from rooms 1 (lines_of text)) (λ j. (alike.0 j, alike.1 j))

-- ---- the room for one answer
-- 245 bytes always suffice.
pub room-suffices : (line room : List ℕ) → 245 ≤ length room → symbol_record_of line room 0 ≡ Err NoRoom → ⊥
unfolding symbol_record_of
room-suffices line room enough e = by_answer (symbol_answer line).answer refl
  where
    by_answer : (a : symbol-answer.Answer) → (symbol_answer line).answer ≡ a → ⊥
    by_answer Group g =
        let (few, there, listing) = symbol-writable line (symbol_answer line) refl g in
        let fits = room-there 0 (5 * (symbol_answer line).count + 5) (length room) (omega arith) (omega arith) in
        let said = rw (g, fits) at e in
        let z : ◌≡◌ {A = ℕ} 0 1 = cc in absurd (omega arith)
    by_answer (Refused r) g =
        let said = rw g at e in
        let z : ◌≡◌ {A = ℕ} 0 1 = cc in absurd (omega arith)
