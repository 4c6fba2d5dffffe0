-- Every accepted symbol's record is read, as the symbol's group: whatever stands before it, and as the entry left it in the lent buffer.
use Rattle.std.specs.Prelude.{◌≡◌, ◌↔◌, Bool, true, false, cond, List, ◌++◌, map, ℕ, ◌+◌, ◌-◌, take, replicate, Err, Ok, Result}
use Rattle.std.proofs.Math.Path.{refl, sym, ap₂}
use Rattle.std.proofs.Common.{◌∙◌, ap, subst, arith}
use Rattle.std.proofs.Math.ListN.{length}
use Rattle.std.proofs.Math.Seq.{take_at}
use Rattle.laws.specs.Motion.{SpaceMotion}
use Rattle.operation.specs.Meaning.{motion_of}
use Rattle.operation.specs.Product.{identity_operation}
use Rattle.operation.specs.declared.Operation.{Operation}
use Rattle.symbol_group.specs.AcceptedTexts.{AcceptedText, accepted-text}
use Rattle.symbol_group.specs.Answers.{symbol_answer}
use Rattle.symbol_group.specs.declared.Answer.{Answer}
use Rattle.symbol_group.specs.declared.Answer.TheVariants.{Group, Refused}
use Rattle.group_record.specs.Record.{item_width, total_length, listed_form}
use Rattle.group_record.specs.Reading.{read_of, accepted_group, slots}
use Rattle.group_record.specs.Groups.{InSet}
use Rattle.group_record.specs.ListedForm.{form-length, form-set}
use Rattle.group_record.specs.OneRecord.{record-length}
use Rattle.record_writing.specs.RoundTrips.{reads-back}
use Rattle.record_writing.specs.Places.{placed_in, placed_end}
use Rattle.record_writing.specs.Copying.{room_for}
use Rattle.record_writing.specs.SymbolRecords.{text_record, written_by, symbol_record_of, placed_by, symbol_buffer_of}
use Rattle.record_writing.specs.AcceptedSymbols.{accepted-listing, accepted-allowed}
use Rattle.record_writing.specs.SymbolSets.{InSetOf, record-of-list, set-of-list}
use Rattle.group_record.specs.declared.Edition.TheVariants.{First}
use Rattle.group_record.specs.declared.Reading.TheVariants.{Accepted}
use Rattle.group_record.specs.declared.RecordGroup.{RecordGroup}
use Rattle.group_record.specs.declared.sign.Sign.TheVariants.{Plain}
use Rattle.record_writing.specs.declared.Unwritten.{Unwritten}
use Rattle.record_writing.specs.declared.Unwritten.TheVariants.{NoRoom}
use Rattle.symbol_group.specs.declared.refusal.Refusal.{Refusal}

-- What was read is the symbol's group: its letter, its count, its operations in the listed form, its set of motions.
pub record ReadsAs (text : List ℕ) (g : RecordGroup) : Type 0 where
  pub accepted : g.answer ≡ Accepted
  pub plain : g.layer ≡ false
  pub letter : g.centering ≡ (symbol_answer text).centering
  pub count : g.count ≡ (symbol_answer text).count
  pub operations : take g.count g.operations ≡ listed_form (symbol_answer text).centering (take (symbol_answer text).count (symbol_answer text).operations)
  pub set : (m : SpaceMotion) → InSet g.centering (map motion_of (take g.count g.operations)) m ↔ InSetOf text m

module _ (text : List ℕ) (A : AcceptedText text) where
  -- The operations as a record lists them.
  abbrev form : List Operation
  form = listed_form A.letter A.operations

  -- The slots hold them.
  form-slots : take (length form) (slots form) ≡ form
  unfolding slots
  form-slots = take_at form (replicate (48 - length form) identity_operation) (length form) refl

  -- Their set of motions is the text's.
  form-says : (m : SpaceMotion) → InSet A.letter (map motion_of form) m ↔ InSetOf text m
  form-says m = (
    (λ h. (set-of-list text A m).1 ((form-set A.letter A.operations m).0 h)),
    λ h. (form-set A.letter A.operations m).1 ((set-of-list text A m).0 h),
  )

  -- So what a record of them is read as is the symbol's group.
  form-reads : ReadsAs text (accepted_group First (Plain A.letter) form)
  unfolding accepted_group
  form-reads =
      record {
        accepted = refl;
        plain = refl;
        letter = sym A.same-letter;
        count = form-length A.letter A.operations ∙ sym A.same_count;
        operations = form-slots ∙ ap₂ listed_form (sym A.same-letter) (sym A.same-operations);
        set = λ m. rw form-slots (form-says m);
      }

  -- Whatever stands before the record.
  record-reads : (front : List ℕ) → read_of (front ++ text_record text) ≡ accepted_group First (Plain A.letter) form
  record-reads front =
      ap (λ (bytes : List ℕ). read_of (front ++ bytes)) (record-of-list text A)
      ∙ reads-back A.letter (accepted-listing A.letter A.generators A.operations A.steps A.accepted)
      (accepted-allowed A.letter A.generators A.operations A.steps A.accepted) front

-- Every accepted symbol's record is read as the symbol's group, whatever stands before it.
pub symbol-record-read : (text front : List ℕ) → (symbol_answer text).answer ≡ Group → ReadsAs text (read_of (front ++ text_record text))
symbol-record-read text front a = let A = accepted-text text a in subst (ReadsAs text) (sym (record-reads text A front)) (form-reads text A)

-- ---- as the entry left it
module _ (text out : List ℕ) (start n : ℕ) where
  -- An accepted text's count tells the length of its record.
  text-length : AcceptedText text → length (text_record text) ≡ total_length item_width (symbol_answer text).count
  text-length A = ap length (record-of-list text A) ∙ record-length A.letter A.operations ∙ ap (total_length item_width) (sym A.same_count)

  -- An accepted text is written where there is room,
  by-room : (symbol_answer text).answer ≡ Group → (b : Bool) → room_for start (symbol_answer text).count (length out) ≡ b
      → cond {A = Result ℕ (Unwritten Refusal)} b (Ok (symbol_answer text).count) (Err NoRoom) ≡ Ok n
      → ReadsAs text (read_of (take (start + total_length item_width n) (placed_in out start (text_record text))))
  by-room a true room e =
      let count : (symbol_answer text).count ≡ n = cc in
      rw (← count, placed_end out start (total_length item_width (symbol_answer text).count) (text_record text) (text-length (accepted-text text a)) room)
      (symbol-record-read text (take start out) a)
  by-room a false room e = let z : ◌≡◌ {A = ℕ} 0 1 = cc in absurd (omega arith)

  -- and a refused one nowhere.
  by_answer : (a : Answer) → (symbol_answer text).answer ≡ a → written_by a (symbol_answer text).count start (length out) ≡ Ok n
      → ReadsAs text (read_of (take (start + total_length item_width n) (placed_by a out start (text_record text))))
  by_answer Group a e = by-room a (room_for start (symbol_answer text).count (length out)) refl e
  by_answer (Refused r) a e = let z : ◌≡◌ {A = ℕ} 0 1 = cc in absurd (omega arith)

  -- Where n operations were written, the buffer up to the record's end is read as the symbol's group.
  pub symbol-buffer-read : symbol_record_of text out start ≡ Ok n
      → ReadsAs text (read_of (take (start + total_length item_width n) (symbol_buffer_of text out start)))
  unfolding symbol_record_of symbol_buffer_of
  symbol-buffer-read e = by_answer (symbol_answer text).answer refl e
