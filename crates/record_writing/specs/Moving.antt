-- Records moved from one edition to the other: what is moved holds the same group, and moved twice it has the same bytes, from either side.
-- The idea: what was read is in the listed form and allowed, so every edition's record of it reads back.
use Rattle.std.specs.Prelude.{◌≡◌, ◌↔◌, Bool, true, false, cond, List, ◌++◌, map, ℕ, ◌+◌, ◌-◌, length, take, drop, replicate, Err, Ok, Result}
use Rattle.std.proofs.Math.Path.{refl, ap}
use Rattle.std.proofs.Common.{sym, ◌∙◌, subst, arith, take_at}
use Rattle.std.proofs.Math.Seq.{length-take-le}
use Rattle.laws.specs.Motion.{SpaceMotion}
use Rattle.operation.specs.Answer.{refused}
use Rattle.operation.specs.Meaning.{motion_of}
use Rattle.operation.specs.Product.{identity_operation}
use Rattle.operation.specs.declared.Operation.{Operation}
use Rattle.centering.specs.Letters.{byte_of}
use Rattle.symbol_group.specs.AcceptedTexts.{AcceptedText, accepted-text}
use Rattle.symbol_group.specs.Answers.{symbol_answer}
use Rattle.symbol_group.specs.declared.Answer.TheVariants.{Group}
use Rattle.group_record.specs.Items.{Bytes}
use Rattle.group_record.specs.OperationItems.{operation_of_item}
use Rattle.group_record.specs.declared.items.Item.{Item}
use Rattle.group_record.specs.BothEditions.{edition_of, width_in, other_edition, other-again}
use Rattle.group_record.specs.Record.{total_length, listed_form, written_in, record_in, record_by, signed_record}
use Rattle.group_record.specs.Rules.{Told, holds, told_by}
use Rattle.group_record.specs.Rules.{refused as not-held}
use Rattle.group_record.specs.Reading.{both_reading, both_rules, group_of, read_of, accepted_group, refused_group, slots}
use Rattle.group_record.specs.Groups.{InSet}
use Rattle.group_record.specs.ListedForm.{form-again, form-listing, listed-form}
use Rattle.group_record.specs.OneRecord.{record-in-length}
use Rattle.group_record.specs.Signs.{is_small, lattice_of, LayersIf}
use Rattle.group_record.specs.Acceptance.{tells-exactly}
use Rattle.record_writing.specs.RoundTrips.{reads-back-in, reads-back, read-writable, copied-bytes}
use Rattle.record_writing.specs.Places.{placed_in, placed_end, nothing_placed}
use Rattle.record_writing.specs.Copying.{room_by, chosen_edition, copy_answer, copied_by, written_as, moved_of, buffer_by, group_bytes, buffer_as, moved_buffer_of}
use Rattle.record_writing.specs.AcceptedSymbols.{accepted-listing, accepted-allowed}
use Rattle.record_writing.specs.SymbolSets.{InSetOf, text_record_in, record-of-list, record-of-list-in, third-records-say-sets}
use Rattle.record_writing.specs.SymbolRecords.{text_record}
use Rattle.group_record.specs.declared.Edition.{Edition as Known}
use Rattle.group_record.specs.declared.Edition.TheVariants.{First, Third}
use Rattle.group_record.specs.declared.Reading.{Reading}
use Rattle.group_record.specs.declared.Reading.TheVariants.{Accepted, Refused}
use Rattle.group_record.specs.declared.RecordGroup.{RecordGroup}
use Rattle.group_record.specs.declared.sign.Sign.{Sign}
use Rattle.group_record.specs.declared.sign.Sign.TheVariants.{Plain}
use Rattle.record_writing.specs.declared.Unwritten.{Unwritten}
use Rattle.record_writing.specs.declared.Unwritten.TheVariants.{NoRoom}
use Rattle.group_record.specs.declared.Refusal.{Refusal}

-- The operations that a reading holds.
abbrev pub held_operations : RecordGroup → List Operation
held_operations g = take g.count g.operations

-- A reading as one of another edition.
abbrev pub in_edition : Known → RecordGroup → RecordGroup
in_edition edition g = record { answer = g.answer; edition = edition; layer = g.layer; centering = g.centering; count = g.count; operations = g.operations }

-- The bytes that a record is moved to.
unfoldable pub moved_bytes : List ℕ → List ℕ
moved_bytes bytes = group_bytes (other_edition (read_of bytes).edition) (read_of bytes)

-- ---- what is moved
-- What is read is what is told.
read_told : (bytes : List ℕ) → read_of bytes ≡ group_of (told_by both_rules bytes)
unfolding read_of
read_told bytes = refl

-- The record of what is told, in any edition, reads back as the same group of that edition.
told-reads-in : (bytes : List ℕ) → Bytes bytes → (t : Told Item Sign Known) → told_by both_rules bytes ≡ t → (group_of t).answer ≡ Accepted
    → (edition : Known) (front : List ℕ)
    → read_of (front ++ group_bytes edition (group_of t)) ≡ in_edition edition (group_of t)
unfolding refused_group accepted_group slots signed_record
told-reads-in bytes b (not-held r) p a edition front = let z : ◌≡◌ {A = ℕ} 0 1 = cc in absurd (omega arith)
told-reads-in bytes b (holds k s items) p a edition front =
    let c = lattice_of s in
    let l = map operation_of_item items in
    let h = (tells-exactly both_reading bytes b k s l).0 (items, p, refl) in
    let same = form-again c h.form in
    rw (take_at l (replicate (48 - length l) identity_operation) (length l) refl)
    (reads-back-in edition s (form-listing c h.form) h.allowed (subst (LayersIf (is_small s)) (sym same) h.further) front
    ∙ ap (accepted_group edition s) same)

module _ (bytes : List ℕ) (b : Bytes bytes) (accepted : (read_of bytes).answer ≡ Accepted) where
  -- Its record in any edition reads back as the same, whatever stands before it.
  pub record-reads-in : (edition : Known) (front : List ℕ) → read_of (front ++ group_bytes edition (read_of bytes)) ≡ in_edition edition (read_of bytes)
  record-reads-in edition front =
      let same = read_told bytes in
      ap (λ (g : RecordGroup). read_of (front ++ group_bytes edition g)) same
      ∙ told-reads-in bytes b (told_by both_rules bytes) refl (ap (λ (g : RecordGroup). g.answer) (sym same) ∙ accepted) edition front
      ∙ ap (in_edition edition) (sym same)

  -- What is moved is read as the same letter, count and operations, in the other edition.
  pub moved-read : (front : List ℕ) → read_of (front ++ moved_bytes bytes) ≡ in_edition (other_edition (read_of bytes).edition) (read_of bytes)
  unfolding moved_bytes
  moved-read front = record-reads-in (other_edition (read_of bytes).edition) front

  -- So it holds the same set of motions.
  pub moved-set : (front : List ℕ) (m : SpaceMotion)
      → InSet (read_of bytes).centering (map motion_of (held_operations (read_of bytes))) m
      ↔ InSet (read_of (front ++ moved_bytes bytes)).centering (map motion_of (held_operations (read_of (front ++ moved_bytes bytes)))) m
  moved-set front m =
      let same = moved-read front in (
        (λ h. subst (λ (g : RecordGroup). InSet g.centering (map motion_of (held_operations g)) m) (sym same) h),
        λ h. subst (λ (g : RecordGroup). InSet g.centering (map motion_of (held_operations g)) m) same h,
      )

  -- Moved twice, it has the bytes that were read: the last ones of the buffer, of either edition.
  pub moved_twice : (front : List ℕ)
      → moved_bytes (front ++ moved_bytes bytes) ≡ drop (length bytes - total_length (width_in (read_of bytes).edition) (read_of bytes).count) bytes
  unfolding moved_bytes
  moved_twice front = back ∙ copied-bytes bytes b accepted
    where
      back : moved_bytes (front ++ moved_bytes bytes) ≡ group_bytes (read_of bytes).edition (read_of bytes)
      back =
          ap (λ (g : RecordGroup). group_bytes (other_edition g.edition) g) (record-reads-in (other_edition (read_of bytes).edition) front)
          ∙ ap (λ (e : Known). group_bytes e (read_of bytes)) (other-again (read_of bytes).edition)

  -- ---- as the entry left it
  -- How long what is moved is.
  moved_length : length (moved_bytes bytes) ≡ total_length (width_in (other_edition (read_of bytes).edition)) (read_of bytes).count
  unfolding moved_bytes
  moved_length =
      let g = read_of bytes in
      let count = length-take-le g.count g.operations (read-writable bytes g b refl accepted).there in
      record-in-length (edition_of (other_edition g.edition)) _ _ (held_operations g) ∙ ap (total_length (width_in (other_edition g.edition))) count

  -- Where n operations were written, the buffer up to the record's end is read as what was moved.
  pub moved-buffer-read : (out : List ℕ) (start n : ℕ) → moved_of bytes out start ≡ Ok n
      → read_of (take (start + total_length (width_in (other_edition (read_of bytes).edition)) n) (moved_buffer_of bytes out start))
      ≡ in_edition (other_edition (read_of bytes).edition) (read_of bytes)
  unfolding written_as buffer_as moved_bytes
  moved-buffer-read out start n e = by (read_of bytes).answer accepted e
    where
      other : Known
      other = other_edition (read_of bytes).edition

      by-room : (r : Bool) → room_by other start (read_of bytes).count (length out) ≡ r
          → cond {A = Result ℕ (Unwritten Refusal)} r (Ok (read_of bytes).count) (Err NoRoom) ≡ Ok n
          → read_of (take (start + total_length (width_in other) n) (placed_in out start (group_bytes other (read_of bytes))))
          ≡ in_edition other (read_of bytes)
      by-room true room w =
          let count : (read_of bytes).count ≡ n = cc in
          rw (← count, placed_end out start (total_length (width_in other) (read_of bytes).count) (group_bytes other (read_of bytes)) moved_length room)
          (record-reads-in other (take start out))
      by-room false room w = let z : ◌≡◌ {A = ℕ} 0 1 = cc in absurd (omega arith)

      by : (a : Reading) → a ≡ Accepted → copied_by a other (read_of bytes).count start (length out) ≡ Ok n
          → read_of (take (start + total_length (width_in other) n) (buffer_by a out start (group_bytes other (read_of bytes))))
          ≡ in_edition other (read_of bytes)
      by Accepted p w = by-room (room_by other start (read_of bytes).count (length out)) refl w
      by (Refused r) p w = let z : ◌≡◌ {A = ℕ} 0 1 = cc in absurd (omega arith)

-- ---- nothing is touched by a refusal
pub refused-untouched : (moved : Bool) (bytes out : List ℕ) (start number place : ℕ) → Bytes bytes
    → copy_answer (written_as moved bytes out start) ≡ refused number place tt → buffer_as moved bytes out start ≡ out
unfolding written_as buffer_as
refused-untouched moved bytes out start number place b e = by (read_of bytes).answer refl e
  where
    g : RecordGroup
    g = read_of bytes

    chosen : Known
    chosen = chosen_edition moved g.edition

    size : g.answer ≡ Accepted → length (group_bytes chosen g) ≡ total_length (width_in chosen) g.count
    size accepted =
        record-in-length (edition_of chosen) _ _ (held_operations g)
        ∙ ap (total_length (width_in chosen)) (length-take-le g.count g.operations (read-writable bytes g b refl accepted).there)

    by-room : g.answer ≡ Accepted → (r : Bool) → room_by chosen start g.count (length out) ≡ r
        → copy_answer (cond r (Ok g.count) (Err NoRoom)) ≡ refused number place tt
        → placed_in out start (group_bytes chosen g) ≡ out
    by-room a true room w = let z : ◌≡◌ {A = ℕ} 0 1 = cc in absurd (omega arith)
    by-room a false room w = nothing_placed out start (total_length (width_in chosen) g.count) (group_bytes chosen g) (size a) room

    by : (a : Reading) → g.answer ≡ a → copy_answer (copied_by a chosen g.count start (length out)) ≡ refused number place tt
        → buffer_by a out start (group_bytes chosen g) ≡ out
    by Accepted p w = by-room p (room_by chosen start g.count (length out)) refl w
    by (Refused r) p w = refl

-- ---- the records of symbols, moved
-- A symbol's record, moved, is its group's record in edition 3.
pub symbol-record-moved : (text front : List ℕ) → (symbol_answer text).answer ≡ Group → moved_bytes (front ++ text_record text) ≡ text_record_in Third text
unfolding moved_bytes accepted_group slots record_by record_in
symbol-record-moved text front a =
    ap (λ (g : RecordGroup). group_bytes (other_edition g.edition) g) read ∙ formed ∙ sym (record-of-list-in text A Third)
  where
    A : AcceptedText text
    A = accepted-text text a

    form : List Operation
    form = listed_form A.letter A.operations

    read : read_of (front ++ text_record text) ≡ accepted_group First (Plain A.letter) form
    read =
        ap (λ (bytes : List ℕ). read_of (front ++ bytes)) (record-of-list text A)
        ∙ reads-back A.letter (accepted-listing A.letter A.generators A.operations A.steps A.accepted)
        (accepted-allowed A.letter A.generators A.operations A.steps A.accepted) front

    formed : group_bytes (other_edition (accepted_group First (Plain A.letter) form).edition) (accepted_group First (Plain A.letter) form)
        ≡ record_by Third A.letter A.operations
    formed =
        ap (λ (l : List Operation). record_by Third A.letter l) (take_at form (replicate (48 - length form) identity_operation) (length form) refl)
        ∙ ap (written_in (edition_of Third) (byte_of A.letter))
        (form-again A.letter (listed-form A.letter (accepted-listing A.letter A.generators A.operations A.steps A.accepted)))

-- So for two accepted texts: one moved record, exactly if one set of motions.
pub moved-records-say-sets : (a b front other : List ℕ) → (symbol_answer a).answer ≡ Group → (symbol_answer b).answer ≡ Group
    → (moved_bytes (front ++ text_record a) ≡ moved_bytes (other ++ text_record b)) ↔ ((m : SpaceMotion) → InSetOf a m ↔ InSetOf b m)
moved-records-say-sets a b front other p q = (
  (λ e. (third-records-say-sets a b p q).0 (sym (symbol-record-moved a front p) ∙ e ∙ symbol-record-moved b other q)),
  λ same. symbol-record-moved a front p ∙ (third-records-say-sets a b p q).1 same ∙ sym (symbol-record-moved b other q),
)
