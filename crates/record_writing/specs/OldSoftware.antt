-- Software that knows edition 1 alone: what it answers to records of edition 3, and that it reads those of edition 1 as software does that knows both.
use Rattle.std.specs.Prelude.{◌≡◌, refl, ◌↔◌, List, ◌++◌, ℕ, ◌≤◌, length}
use Rattle.std.proofs.Common.{sym, ◌∙◌, append_assoc, arith, length-append}
use Rattle.std.proofs.Math.Path.{ap}
use Rattle.operation.specs.Answer.{refused}
use Rattle.operation.specs.declared.Operation.{Operation}
use Rattle.centering.specs.Letters.{byte_of}
use Rattle.centering.specs.declared.Centering.{Centering}
use Rattle.group_record.specs.Items.{Bytes, bytes_of}
use Rattle.group_record.specs.Editions.{trailer_bytes, from_end, from_end_lem}
use Rattle.group_record.specs.OperationItems.{item_of}
use Rattle.group_record.specs.BothEditions.{edition_of, width_in}
use Rattle.group_record.specs.Record.{listed_form, written_in, record_in, record_by}
use Rattle.group_record.specs.Rules.{told_by}
use Rattle.group_record.specs.Reading.{group_answer, refused_group, first_rules, read_of, read_first_of}
use Rattle.group_record.specs.OneRecord.{record-by-length}
use Rattle.group_record.specs.Acceptance.{first_meaning}
use Rattle.group_record.specs.RefusalNumbers.{Refuses, told-refused, group-number}
use Rattle.record_reading.specs.Trailer.{read-as-first, first_short, first-other-edition, first-by-letter}
use Rattle.group_record.specs.declared.Edition.{Edition as Known}
use Rattle.group_record.specs.declared.Edition.TheVariants.{First, Third}
use Rattle.group_record.specs.declared.Refusal.TheVariants.{Short, WrongEdition}

-- ---- each refusal exactly when
pub first-refused : (bytes : List ℕ) → Bytes bytes → (number place : ℕ)
    → (group_answer (read_first_of bytes) ≡ refused number place tt) ↔ ((place ≡ 0) × Refuses first_rules first_meaning bytes number)
unfolding read_first_of
first-refused bytes b number place = (
  (λ e. (told-refused first_rules first_meaning bytes b number place).0 ((group-number (λ (k : Unit {0}). First) (told_by first_rules bytes) number place).0
      e)),
  λ h. (group-number (λ (k : Unit {0}). First) (told_by first_rules bytes) number place).1 ((told-refused first_rules first_meaning bytes b number place).1 h),
)

-- ---- a record of edition 3
-- The edition's number stands four places before a record's end.
record-number : (edition : Known) (front : List ℕ) (c : Centering) (l : List Operation) → from_end (front ++ record_by edition c l) 4
    ≡ (edition_of edition).number
unfolding record_by record_in written_in
record-number edition front c l =
    let items = bytes_of (λ (f : Operation). (edition_of edition).write (item_of f)) (listed_form c l) in
    let trailer = trailer_bytes (width_in edition) (edition_of edition).number (byte_of c) (length (listed_form c l)) in
    ap (λ (bytes : List ℕ). from_end bytes 4) (sym (append_assoc front items trailer)) ∙ from_end_lem (front ++ items) trailer 4 1 refl (omega arith)

module _ (front : List ℕ) (c : Centering) (l : List Operation) (some : 1 ≤ length l) where
  -- It has nine bytes at least.
  third-length : 9 ≤ length (front ++ record_by Third c l)
  third-length = omega (arith, length-append front (record_by Third c l), record-by-length Third c l)

  -- Nine bytes alone are too short,
  pub old-short : length (front ++ record_by Third c l) ≡ 9 → read_first_of (front ++ record_by Third c l) ≡ refused_group Short
  old-short nine = first_short (front ++ record_by Third c l) (omega arith)

  -- and anything longer is of another edition.
  pub old-other : ¬ (length (front ++ record_by Third c l) ≡ 9) → read_first_of (front ++ record_by Third c l) ≡ refused_group WrongEdition
  old-other more =
      let number = record-number Third front c l in
      let bytes = front ++ record_by Third c l in
      first-other-edition bytes (from_end bytes 4) (omega (arith, third-length)) refl (λ (one : from_end bytes 4 ≡ 1). absurd (omega (arith, number, one)))

  -- In numbers: 30, or 31.
  pub old-thirty : length (front ++ record_by Third c l) ≡ 9 → group_answer (read_first_of (front ++ record_by Third c l)) ≡ refused 30 0 tt
  unfolding refused_group
  old-thirty nine = ap group_answer (old-short nine)

  pub old-thirty-one : ¬ (length (front ++ record_by Third c l) ≡ 9) → group_answer (read_first_of (front ++ record_by Third c l)) ≡ refused 31 0 tt
  unfolding refused_group
  old-thirty-one more = ap group_answer (old-other more)

-- ---- a record of edition 1
-- A buffer of ten bytes and edition 1 is read alike by both.
pub read_alike : (bytes : List ℕ) → 10 ≤ length bytes → from_end bytes 4 ≡ 1 → read_first_of bytes ≡ read_of bytes
read_alike bytes long one =
    first-by-letter bytes (from_end bytes 4) long refl one ∙ sym (read-as-first bytes (from_end bytes 4) (omega arith) refl one)
