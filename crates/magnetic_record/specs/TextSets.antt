-- What is written for a magnetic text: when it is, and when each refusal is given; it is read back; and two texts have one record exactly if their sets of
-- flagged motions are equal. The idea: a text spells one symbol, and of the symbol's generators it is known.
use Rattle.std.specs.Prelude.{◌≡◌, ◌⊎◌, ◌↔◌, Bool, not, List, ◌++◌, ℕ, ◌+◌, ◌*◌, ◌≤◌, ltb, length, take, Err, Ok, Result}
use Rattle.std.proofs.Math.Path.{refl, ap}
use Rattle.std.proofs.Common.{sym, ◌∙◌, ap₂, subst, arith, ltb-false, le-ltb}
use Rattle.std.proofs.Math.Bool.{true, false, cond}
use Rattle.group_growth.specs.Flagged.{Flagged}
use Rattle.operation.specs.Answer.{Answer, given, Nothing}
use Rattle.operation.specs.Answer.{refused as not-given}
use Rattle.operation.specs.declared.Operation.{Operation}
use Rattle.centering.specs.declared.Centering.{Centering}
use Rattle.hall_symbol.specs.Spelling.{Spells}
use Rattle.hall_symbol.specs.Agreement.{spells-once}
use Rattle.space_group.specs.FlaggedGenerators.{with_flags}
use Rattle.magnetic_symbol.specs.Reversals.{blanked}
use Rattle.magnetic_symbol.specs.Told.{MagneticSpells}
use Rattle.magnetic_symbol.specs.Texts.{taken-off-exactly}
use Rattle.magnetic_group.specs.Generated.{group, refused}
use Rattle.magnetic_group.specs.Symbols.{SymbolOutcome, made, misread, magnetic_outcome, made-spelled, symbol-list}
use Rattle.magnetic_group.specs.Answers.{order_by, order_answer}
use Rattle.magnetic_group.specs.SetOfMotions.{InFlaggedSet}
use Rattle.magnetic_group.specs.Told.{told}
use Rattle.group_record.specs.Editions.{total_length}
use Rattle.record_writing.specs.Places.{room_from, placed_in, placed_end}
use Rattle.group_record.specs.Rules.{holds, told_by}
use Rattle.record_writing.specs.WritingNumbers.{no_room, or_no_room, WantsRoom, no-room-exactly, room_as}
use Rattle.record_writing.specs.SymbolRecords.{symbol_record_answer}
use Rattle.magnetic_record.specs.Reading.{magnetic_rules}
use Rattle.magnetic_record.specs.Groups.{FlaggedMotion}
use Rattle.magnetic_record.specs.Record.{magnetic_form, magnetic_record}
use Rattle.magnetic_record.specs.SymbolRecords.{record-size, symbol-record-read, symbols-say-sets}
use Rattle.magnetic_record.specs.TextRecords.{record_by, magnetic_text_record, written_by, magnetic_record_of, placed_by, magnetic_buffer_of}
use Rattle.record_writing.specs.declared.Unwritten.TheVariants.{NoRoom, Refused as NotWritten}
use Rattle.record_writing.specs.declared.Unwritten.{Unwritten}
use Rattle.symbol_group.specs.declared.refusal.Refusal.{Refusal}

-- ---- in numbers
module _ (text out : List ℕ) (start : ℕ) where
  -- What is answered: the symbol's refusals as for its order, then 20 where fewer than 6n + 5 bytes stand from the start on, else the order.
  pub magnetic-record-told : symbol_record_answer (magnetic_record_of text out start) ≡ or_no_room 6 (told text) start (length out)
  unfolding magnetic_record_of told
  magnetic-record-told = by (magnetic_outcome text)
    where
      fits : (n : ℕ) (b : Bool) → symbol_record_answer (cond (not b) (Ok n) (Err NoRoom)) ≡ cond b no_room (given n)
      fits n true = refl
      fits n false = refl

      by : (o : SymbolOutcome) → symbol_record_answer (written_by o start (length out)) ≡ or_no_room 6 (order_answer (order_by o)) start (length out)
      by (made c (group operations steps)) =
          let n = length operations in
          rw (room_as (6 * n + 5) start (length out)) (fits n (ltb (length out) (start + (6 * n + 5))))
      by (made c (refused r)) = refl
      by (misread r) = refl

  -- So a refusal is the symbol's own, or 20 for want of room.
  pub magnetic-record-refused : (number place : ℕ) → (symbol_record_answer (magnetic_record_of text out start) ≡ not-given number place tt)
      ↔ ((told text ≡ not-given number place tt) ⊎ ((number ≡ 20) × (place ≡ 0) × WantsRoom 6 (told text) start (length out)))
  magnetic-record-refused number place = rw magnetic-record-told (no-room-exactly 6 (told text) start (length out) number place)

  -- A record of n operations is written exactly if the symbol has n and there are 6n + 5 bytes from the start on.
  pub magnetic-written-exactly : (n : ℕ) → (magnetic_record_of text out start ≡ Ok n) ↔ ((told text ≡ given n) × (start + (6 * n + 5) ≤ length out))
  magnetic-written-exactly n = (
    (λ e. by-room (told text) (sym magnetic-record-told ∙ ap symbol_record_answer e)),
    λ (e, h). from-answer (magnetic_record_of text out start) (magnetic-record-told ∙ room (told text) e h),
  )
    where
      by-room : (a : Answer ℕ Nothing) → or_no_room 6 a start (length out) ≡ given n → (a ≡ given n) × (start + (6 * n + 5) ≤ length out)
      by-room (not-given number place u) e = let z : ◌≡◌ {A = ℕ} 0 1 = cc in absurd (omega arith)
      by-room (given m) e = go (ltb (length out) (start + (6 * m + 5))) refl e
        where
          go : (b : Bool) → ltb (length out) (start + (6 * m + 5)) ≡ b → cond b no_room (given m) ≡ given n
              → (◌≡◌ {A = Answer ℕ Nothing} (given m) (given n)) × (start + (6 * n + 5) ≤ length out)
          go true t p = let z : ◌≡◌ {A = ℕ} 0 1 = cc in absurd (omega arith)
          go false t p = let same : m ≡ n = cc in (p, omega (arith, ltb-false (length out) (start + (6 * m + 5)) t))

      room : (a : Answer ℕ Nothing) → a ≡ given n → start + (6 * n + 5) ≤ length out → or_no_room 6 a start (length out) ≡ given n
      room a e h = rw (e, le-ltb (length out) (start + (6 * n + 5)) h)

      from-answer : (r : Result ℕ (Unwritten Refusal)) → symbol_record_answer r ≡ given n → r ≡ Ok n
      from-answer (Ok m) e = let same : m ≡ n = cc in ap Ok same
      from-answer (Err NoRoom) e = let z : ◌≡◌ {A = ℕ} 0 1 = cc in absurd (omega arith)
      from-answer (Err (NotWritten r)) e = let z : ◌≡◌ {A = ℕ} 0 1 = cc in absurd (omega arith)

-- ---- accepted texts
-- The text is accepted, and this is answered.
pub record AcceptedMagnetic (text : List ℕ) : Type 0 where
  pub letter : Centering
  pub operations : List (Flagged Operation)
  pub steps : List ℕ
  pub outcome : magnetic_outcome text ≡ made letter (group operations steps)

module _ (text : List ℕ) (A : AcceptedMagnetic text) where
  -- Its record is that of its list,
  pub text-record : magnetic_text_record text ≡ magnetic_record A.letter A.operations
  unfolding magnetic_text_record
  text-record = ap record_by A.outcome

  -- and is read, whatever stands before it.
  pub text-record-read : (front : List ℕ)
      → told_by magnetic_rules (front ++ magnetic_text_record text) ≡ holds tt A.letter (magnetic_form A.letter A.operations)
  text-record-read front =
      let (gs, fs, spells, _) = made-spelled text A.letter (group A.operations A.steps) A.outcome in
      let accepted = symbol-list text A.letter gs fs spells A.operations A.steps A.outcome in
      ap (λ (r : List ℕ). told_by magnetic_rules (front ++ r)) text-record
      ∙ symbol-record-read A.letter (with_flags gs fs) A.operations A.steps accepted front

-- Where n operations were written, the buffer up to the record's end is read as the symbol's group.
pub text-buffer-read : (text out : List ℕ) (start n : ℕ) → magnetic_record_of text out start ≡ Ok n
    → (A : AcceptedMagnetic text)
    × (told_by magnetic_rules (take (start + total_length 6 n) (magnetic_buffer_of text out start))
    ≡ holds tt A.letter (magnetic_form A.letter A.operations))
unfolding magnetic_record_of magnetic_buffer_of
text-buffer-read text out start n e = by (magnetic_outcome text) refl e
  where
    by : (o : SymbolOutcome) → magnetic_outcome text ≡ o → written_by o start (length out) ≡ Ok n
        → (A : AcceptedMagnetic text)
        × (told_by magnetic_rules (take (start + total_length 6 n) (placed_by o out start)) ≡ holds tt A.letter (magnetic_form A.letter A.operations))
    by (made c (refused r)) is p = let z : ◌≡◌ {A = ℕ} 0 1 = cc in absurd (omega arith)
    by (misread r) is p = let z : ◌≡◌ {A = ℕ} 0 1 = cc in absurd (omega arith)
    by (made c (group operations steps)) is p =
        let A : AcceptedMagnetic text = record { letter = c; operations = operations; steps = steps; outcome = is } in
        (A, go (room_from start (total_length 6 (length operations)) (length out)) refl p)
      where
        go : (b : Bool) → room_from start (total_length 6 (length operations)) (length out) ≡ b
            → cond {A = Result ℕ (Unwritten Refusal)} b (Ok (length operations)) (Err NoRoom) ≡ Ok n
            → told_by magnetic_rules (take (start + total_length 6 n) (placed_in out start (magnetic_record c operations)))
            ≡ holds tt c (magnetic_form c operations)
        go false room q = let z : ◌≡◌ {A = ℕ} 0 1 = cc in absurd (omega arith)
        go true room q =
            let A : AcceptedMagnetic text = record { letter = c; operations = operations; steps = steps; outcome = is } in
            let count : length operations ≡ n = cc in
            let end = placed_end out start (total_length 6 (length operations)) (magnetic_record c operations) (record-size c operations) room in
            ap (λ (k : ℕ). told_by magnetic_rules (take (start + total_length 6 k) (placed_in out start (magnetic_record c operations)))) (sym count)
            ∙ ap (told_by magnetic_rules) end
            ∙ ap (λ (r : List ℕ). told_by magnetic_rules (take start out ++ r)) (sym (text-record text A)) ∙ text-record-read text A (take start out)

-- ---- sets
-- A text spells one symbol with its flags.
magnetic-spells-once : (text : List ℕ) (c d : Centering) (gs hs : List Operation) (fs es : List Bool)
    → MagneticSpells text c gs fs → MagneticSpells text d hs es → (c ≡ d) × (with_flags gs fs ≡ with_flags hs es)
magnetic-spells-once text c d gs hs fs es S T =
    let (p, q) = (taken-off-exactly text S.copy fs).0 S.taken in
    let (r, s) = (taken-off-exactly text T.copy es).0 T.taken in
    let one : Spells (blanked text) c gs = subst (λ (t : List ℕ). Spells t c gs) p S.spells in
    let other : Spells (blanked text) d hs = subst (λ (t : List ℕ). Spells t d hs) r T.spells in
    let (letters, generators) = spells-once (blanked text) c d gs hs one other in
    (letters, ap₂ with_flags generators (q ∙ sym s))

-- The set of flagged motions of a text: it spells a symbol, and the motion is a finite product of its generators with their flags and translations by L.
abbrev pub InSetOfText : List ℕ → FlaggedMotion → Type 0
InSetOfText text m = (c : Centering) × (gs : List Operation) × (fs : List Bool) × MagneticSpells text c gs fs × InFlaggedSet c (with_flags gs fs) m

own-set : (text : List ℕ) (c : Centering) (gs : List Operation) (fs : List Bool) → MagneticSpells text c gs fs → (m : FlaggedMotion)
    → InSetOfText text m ↔ InFlaggedSet c (with_flags gs fs) m
own-set text c gs fs S m = (
  (λ (d, hs, es, T, inside).
      let (letters, generators) = magnetic-spells-once text d c hs gs es fs T S in
      subst (λ (l : List (Flagged Operation)). InFlaggedSet c l m) generators (subst (λ (x : Centering). InFlaggedSet x (with_flags hs es) m) letters inside)),
  λ inside. (c, gs, fs, S, inside),
)

-- Two accepted texts have one record exactly if their sets of flagged motions are equal.
pub texts-say-sets : (text other : List ℕ) → AcceptedMagnetic text → AcceptedMagnetic other
    → (magnetic_text_record text ≡ magnetic_text_record other) ↔ ((m : FlaggedMotion) → InSetOfText text m ↔ InSetOfText other m)
texts-say-sets text other A B =
    let (gs, fs, S, _) = made-spelled text A.letter (group A.operations A.steps) A.outcome in
    let (hs, es, T, _) = made-spelled other B.letter (group B.operations B.steps) B.outcome in
    let first = symbol-list text A.letter gs fs S A.operations A.steps A.outcome in
    let second = symbol-list other B.letter hs es T B.operations B.steps B.outcome in
    let (forth, back) =
    symbols-say-sets A.letter B.letter (with_flags gs fs) (with_flags hs es) A.operations B.operations A.steps B.steps first second in (
      (λ e m.
          let same = forth (sym (text-record text A) ∙ e ∙ text-record other B) m in (
            (λ s. (own-set other B.letter hs es T m).1 (same.0 ((own-set text A.letter gs fs S m).0 s))),
            λ s. (own-set text A.letter gs fs S m).1 (same.1 ((own-set other B.letter hs es T m).0 s)),
          )),
      λ same.
          let lists = back (λ m. (
            (λ s. (own-set other B.letter hs es T m).0 ((same m).0 ((own-set text A.letter gs fs S m).1 s))),
            λ s. (own-set text A.letter gs fs S m).0 ((same m).1 ((own-set other B.letter hs es T m).1 s)),
          )) in
          text-record text A ∙ lists ∙ sym (text-record other B),
    )
