-- The refusals of what writes records, by number and place, each exactly when: 30 to 35 as for the reading, then 20 for what is copied;
-- and for a symbol's record the symbol's own, 1 to 14, then 20. Number, place and value determine an answer.
use Rattle.std.specs.Prelude.{◌≡◌, refl, ◌⊎◌, ◌↔◌, Bool, true, false, cond, not, List, ℕ, ◌+◌, ◌*◌, ◌<◌, ltb, length, Err, Ok, Result}
use Rattle.std.proofs.Common.{ap, inl, inr, arith, ltb-true, lt-ltb, le-ltb}
use Rattle.std.proofs.Math.Decide.{dec_lt}
use Rattle.operation.specs.Answer.{Answer, given, refused, Nothing}
use Rattle.symbol_group.specs.Answers as symbol
use Rattle.symbol_group.specs.Answers.{symbol_answer, order_of, order_answer}
use Rattle.symbol_group.specs.declared.Answer as symbol-answer
use Rattle.symbol_group.specs.declared.Answer.TheVariants as symbol-answers
use Rattle.group_record.specs.BothEditions.{width_in}
use Rattle.group_record.specs.Reading.{refusal_number, order_by, record_order, read_of}
use Rattle.record_writing.specs.Places.{room_from, start-beyond, too-near-end, room-there}
use Rattle.record_writing.specs.Copying.{chosen_edition, copy_answer, copied_by, written_as}
use Rattle.record_writing.specs.SymbolRecords.{written_by, symbol_record_of, symbol_record_answer}
use Rattle.group_record.specs.declared.Edition.{Edition as Known}
use Rattle.group_record.specs.declared.Reading.{Reading}
use Rattle.group_record.specs.declared.Reading.TheVariants.{Accepted, Refused}
use Rattle.group_record.specs.declared.Refusal.{Refusal}
use Rattle.group_record.specs.declared.Refusal.TheVariants.{Short, WrongEdition, WrongLetter, WrongLength, WrongItem, NotAllowed}
use Rattle.group_record.specs.RefusalNumbers.{one-refusal}
use Rattle.record_writing.specs.declared.Unwritten.TheVariants.{NoRoom as CopyNoRoom, Refused as NotCopied}
use Rattle.record_writing.specs.declared.Unwritten.TheVariants as symbol-record
use Rattle.record_writing.specs.declared.Unwritten.{Unwritten}

-- ---- a record that is written
-- 20, at 0.
abbrev pub no_room : Answer ℕ Nothing
no_room = refused 20 0 tt

-- Refusals of what is to be written go first; then 20 where fewer bytes than n items and the trailer take stand from the start on; else the count.
abbrev pub or_no_room : ℕ → Answer ℕ Nothing → ℕ → ℕ → Answer ℕ Nothing
or_no_room width (given n) start size = cond (ltb size (start + (width * n + 5))) no_room (given n)
or_no_room width (refused number place c) start size = refused number place c

-- An answer is refused 20 for want of room: n operations were to be written, and fewer bytes than these take stand from the start on.
abbrev pub WantsRoom : ℕ → Answer ℕ Nothing → ℕ → ℕ → Type 0
WantsRoom width a start size = (n : ℕ) × (a ≡ given n) × (size < start + (width * n + 5))

-- 20 exactly so; every other refusal is that of what was to be written.
pub no-room-exactly : (width : ℕ) (a : Answer ℕ Nothing) (start size number place : ℕ)
    → (or_no_room width a start size ≡ refused number place tt) ↔ ((a ≡ refused number place tt) ⊎ ((number ≡ 20) × (place ≡ 0) × WantsRoom width a start size))
no-room-exactly width a start size number place = (forth a, back a)
  where
    short : (n : ℕ) (b : Bool) → ltb size (start + (width * n + 5)) ≡ b → cond b no_room (given n) ≡ refused number place tt
        → (◌≡◌ {A = Answer ℕ Nothing} (given n) (refused number place tt)) ⊎ ((number ≡ 20) × (place ≡ 0) × WantsRoom width (given n) start size)
    short n true t e = inr ((cc), (cc), (n, refl, ltb-true size (start + (width * n + 5)) t))
    short n false t e = inl e

    forth : (a : Answer ℕ Nothing) → or_no_room width a start size ≡ refused number place tt
        → (a ≡ refused number place tt) ⊎ ((number ≡ 20) × (place ≡ 0) × WantsRoom width a start size)
    forth (given n) e = short n (ltb size (start + (width * n + 5))) refl e
    forth (refused m p c) e = inl e

    back : (a : Answer ℕ Nothing) → (a ≡ refused number place tt) ⊎ ((number ≡ 20) × (place ≡ 0) × WantsRoom width a start size)
        → or_no_room width a start size ≡ refused number place tt
    back (refused m p c) (inl e) = e
    back (refused m p c) (inr (q, r, (n, e, h))) = let z : ◌≡◌ {A = ℕ} 0 1 = cc in absurd (omega arith)
    back (given n) (inl e) = let z : ◌≡◌ {A = ℕ} 0 1 = cc in absurd (omega arith)
    back (given n) (inr (q, r, (m, e, h))) =
        let same : n ≡ m = cc in
        rw (lt-ltb size (start + (width * n + 5)) (rw same h), q, r)

-- The test for room is this comparison.
pub room_as : (long start size : ℕ) → room_from start long size ≡ not (ltb size (start + long))
room_as long start size = elim (dec_lt size (start + long)) [
  | yes h ↦ rw (lt-ltb size (start + long) h) (short (dec_lt size start) h)
  | no h ↦ rw (le-ltb size (start + long) (omega arith)) (room-there start long size (omega arith) (omega arith))
]
  where
    short : Dec (size < start) → size < start + long → room_from start long size ≡ false
    short (yes b) h = start-beyond start long size b
    short (no b) h = too-near-end start long size (omega arith) (omega arith)

-- What a copy or a move answers: 30 to 35 as the reading does, then 20 by the edition that is written, else the count.
pub copy_told : (moved : Bool) (bytes out : List ℕ) (start : ℕ)
    → copy_answer (written_as moved bytes out start) ≡ or_no_room (width_in (chosen_edition moved (read_of bytes).edition)) (record_order (read_of bytes)) start
    (length out)
unfolding written_as
copy_told moved bytes out start = by (read_of bytes).answer (chosen_edition moved (read_of bytes).edition) (read_of bytes).count
  where
    fits : (chosen : Known) (n : ℕ) (b : Bool) → ltb (length out) (start + (width_in chosen * n + 5)) ≡ b
        → copy_answer (cond (not b) (Ok n) (Err CopyNoRoom)) ≡ cond b no_room (given n)
    fits chosen n true e = refl
    fits chosen n false e = refl

    by : (a : Reading) (chosen : Known) (n : ℕ)
        → copy_answer (copied_by a chosen n start (length out)) ≡ or_no_room (width_in chosen) (order_by a n) start (length out)
    by Accepted chosen n = rw (room_as (width_in chosen * n + 5) start (length out)) (fits chosen n (ltb (length out) (start + (width_in chosen * n + 5))) refl)
    by (Refused r) chosen n = refl

-- What is answered for a symbol's record: 1 to 14 as for the symbol's order, then 20, else the order.
pub symbol-record-told : (text out : List ℕ) (start : ℕ)
    → symbol_record_answer (symbol_record_of text out start) ≡ or_no_room 5 (order_answer (order_of text)) start (length out)
unfolding symbol_record_of order_of
symbol-record-told text out start = by (symbol_answer text).answer (symbol_answer text).count
  where
    fits : (n : ℕ) (b : Bool) → ltb (length out) (start + (5 * n + 5)) ≡ b
        → symbol_record_answer (cond (not b) (Ok n) (Err symbol-record.NoRoom)) ≡ cond b no_room (given n)
    fits n true e = refl
    fits n false e = refl

    by : (a : symbol-answer.Answer) (n : ℕ)
        → symbol_record_answer (written_by a n start (length out)) ≡ or_no_room 5 (order_answer (symbol.order_by a n)) start (length out)
    by symbol-answers.Group n = rw (room_as (5 * n + 5) start (length out)) (fits n (ltb (length out) (start + (5 * n + 5))) refl)
    by (symbol-answers.Refused r) n = refl

-- ---- number, place and value determine the answer
-- No refusal of a reading is 20.
not-twenty : (r : Refusal) → ¬ (refusal_number r ≡ 20)
not-twenty Short e = absurd (omega arith)
not-twenty WrongEdition e = absurd (omega arith)
not-twenty WrongLetter e = absurd (omega arith)
not-twenty WrongLength e = absurd (omega arith)
not-twenty WrongItem e = absurd (omega arith)
not-twenty NotAllowed e = absurd (omega arith)

-- Copies that are answered alike are one.
pub one-copy : (a b : Result ℕ (Unwritten Refusal)) → copy_answer a ≡ copy_answer b → a ≡ b
one-copy (Ok n) (Ok m) e = cc
one-copy (Ok n) (Err CopyNoRoom) e = let z : ◌≡◌ {A = ℕ} 0 1 = cc in absurd (omega arith)
one-copy (Ok n) (Err (NotCopied s)) e = let z : ◌≡◌ {A = ℕ} 0 1 = cc in absurd (omega arith)
one-copy (Err CopyNoRoom) (Ok m) e = let z : ◌≡◌ {A = ℕ} 0 1 = cc in absurd (omega arith)
one-copy (Err CopyNoRoom) (Err CopyNoRoom) e = refl
one-copy (Err CopyNoRoom) (Err (NotCopied s)) e = let same : refusal_number s ≡ 20 = cc in absurd (not-twenty s same)
one-copy (Err (NotCopied r)) (Ok m) e = let z : ◌≡◌ {A = ℕ} 0 1 = cc in absurd (omega arith)
one-copy (Err (NotCopied r)) (Err CopyNoRoom) e = let same : refusal_number r ≡ 20 = cc in absurd (not-twenty r same)
one-copy (Err (NotCopied r)) (Err (NotCopied s)) e = let same : refusal_number r ≡ refusal_number s = cc in ap (λ x. Err (NotCopied x)) (one-refusal r s same)
