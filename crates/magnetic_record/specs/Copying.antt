-- A copy of what was read, from a stated place of a lent buffer: what is answered, and what the buffer holds afterwards. What is accepted is copied as the
-- bytes that it was read from.
use Rattle.std.proofs.Math.Path.{◌≡◌, refl, ap, ap₂}
use Rattle.std.proofs.Common.{sym, ◌∙◌, arith, length-append, drop_at}
use Rattle.std.specs.Prelude.{Bool, not, ℕ, ◌+◌, ◌*◌, ◌-◌, ◌≤◌, ltb, Err, Ok, Result}
use Rattle.std.proofs.Math.Bool.{true, false, cond}
use mathlib.Core.List.{List, ◌++◌}
use Rattle.std.proofs.Math.ListN.{length, take, drop}
use Rattle.operation.specs.Answer.{given}
use Rattle.centering.specs.Letters.{byte_of}
use Rattle.centering.specs.declared.Centering.{Centering}
use Rattle.group_record.specs.Items.{Bytes}
use Rattle.group_record.specs.Editions.{total_length, framed, framed-length}
use Rattle.group_record.specs.Rules.{Told, holds, told_by}
use Rattle.group_record.specs.Rules.{refused as not-held}
use Rattle.record_writing.specs.Places.{room_from, placed_in, placed_end}
use Rattle.record_writing.specs.Copying.{copy_answer}
use Rattle.record_writing.specs.WritingNumbers.{no_room, or_no_room, room_as}
use Rattle.group_record.specs.declared.Refusal.{Refusal}
use Rattle.magnetic_record.specs.SecondEdition.{MagneticItem, second_edition}
use Rattle.magnetic_record.specs.Reading.{magnetic_rules}
use Rattle.magnetic_record.specs.RoundTrips.{magnetic-written-again}
use Rattle.magnetic_record.specs.Answers.{reading_by, reading_of, magnetic_order_answer}
use Rattle.record_writing.specs.declared.Unwritten.TheVariants.{NoRoom, Refused as NotCopied}
use Rattle.record_writing.specs.declared.Unwritten.{Unwritten}

-- The refusal of what was read goes first; then there is room for its record, or 20.
abbrev pub copied_by : Told MagneticItem Centering (Unit {0}) → ℕ → ℕ → Result ℕ (Unwritten Refusal)
copied_by (holds k c items) start size = cond (room_from start (total_length second_edition.width (length items)) size) (Ok (length items)) (Err NoRoom)
copied_by (not-held why) start size = Err (NotCopied why)

-- What is answered.
unfoldable pub magnetic_copied_of : List ℕ → List ℕ → ℕ → Result ℕ (Unwritten Refusal)
magnetic_copied_of bytes out start = copied_by (told_by magnetic_rules bytes) start (length out)

-- A refusal touches nothing.
abbrev pub copy_by : Told MagneticItem Centering (Unit {0}) → List ℕ → ℕ → List ℕ
copy_by (holds k c items) out start = placed_in out start (framed second_edition (byte_of c) items)
copy_by (not-held why) out start = out

-- What the lent buffer holds afterwards.
unfoldable pub magnetic_copy_buffer : List ℕ → List ℕ → ℕ → List ℕ
magnetic_copy_buffer bytes out start = copy_by (told_by magnetic_rules bytes) out start

-- ---- the bytes that are copied
-- The end of a buffer that is read: its record.
pub record RecordAtEnd (bytes : List ℕ) (n : ℕ) : Type 0 where
  pub letter : Centering
  pub items : List MagneticItem
  pub told : told_by magnetic_rules bytes ≡ holds tt letter items
  pub count : length items ≡ n
  pub long : total_length 6 n ≤ length bytes
  pub last : drop (length bytes - total_length 6 n) bytes ≡ framed second_edition (byte_of letter) items

module _ (bytes : List ℕ) where
  -- What is told stands at the end.
  end-bytes : (b : Bytes bytes) (c : Centering) (items : List MagneticItem) → told_by magnetic_rules bytes ≡ holds tt c items
      → (total_length 6 (length items) ≤ length bytes) × (drop (length bytes - total_length 6 (length items)) bytes ≡ framed second_edition (byte_of c) items)
  end-bytes b c items e =
      let R = magnetic-written-again bytes b c items e in
      let written = framed second_edition (byte_of c) items in
      let size : length written ≡ total_length 6 (length items) = framed-length second_edition (byte_of c) items in
      let whole : length bytes ≡ length R.front + length written = ap length R.same_bytes ∙ length-append R.front written in
      let place : length R.front ≡ length bytes - total_length 6 (length items) = omega arith in
      (omega arith, ap (drop (length bytes - total_length 6 (length items))) R.same_bytes ∙ drop_at R.front written _ place)

  at-end : (b : Bytes bytes) (c : Centering) (items : List MagneticItem) → told_by magnetic_rules bytes ≡ holds tt c items → RecordAtEnd bytes (length items)
  at-end b c items e =
      let (long, last) = end-bytes b c items e in
      record { letter = c; items = items; told = e; count = refl; long = long; last = last }

  abbrev order_in : Result (Centering × ℕ) Refusal → ℕ
  order_in (Ok r) = r.1
  order_in (Err why) = 0

  pub read-end : Bytes bytes → (c : Centering) (n : ℕ) → Ok (c, n) ≡ reading_of bytes → RecordAtEnd bytes n
  read-end b c n e = go (told_by magnetic_rules bytes) refl e
    where
      go : (t : Told MagneticItem Centering (Unit {0})) → told_by magnetic_rules bytes ≡ t → Ok (c, n) ≡ reading_by t → RecordAtEnd bytes n
      go (holds k d items) told p = let count : length items ≡ n = ap order_in (sym p) in rw (← count) (at-end b d items told)
      go (not-held why) told p = let z : ◌≡◌ {A = ℕ} 0 1 = cc in absurd (omega arith)

  module _ (out : List ℕ) (start : ℕ) where
    -- A refusal is answered, and the buffer stays.
    pub copy-refused : (why : Refusal) → Err why ≡ reading_of bytes
        → (Err (NotCopied why) ≡ magnetic_copied_of bytes out start) × (out ≡ magnetic_copy_buffer bytes out start)
    unfolding magnetic_copied_of magnetic_copy_buffer
    copy-refused why e = go (told_by magnetic_rules bytes) e
      where
        go : (t : Told MagneticItem Centering (Unit {0})) → Err why ≡ reading_by t
            → (Err (NotCopied why) ≡ copied_by t start (length out)) × (out ≡ copy_by t out start)
        go (holds k d items) p = let z : ◌≡◌ {A = ℕ} 0 1 = cc in absurd (omega arith)
        go (not-held other) p = let same : why ≡ other = cc in (ap (λ x. Err (NotCopied x)) same, refl)

    -- The end of the buffer, placed, is the copy.
    pub copy-placed : (n : ℕ) (E : RecordAtEnd bytes n) (last : List ℕ) → last ≡ drop (length bytes - total_length 6 n) bytes
        → (b : Bool) → b ≡ room_from start (length last) (length out) → (left : List ℕ) → left ≡ placed_in out start last
        → (cond b (Ok n) (Err NoRoom) ≡ magnetic_copied_of bytes out start) × (left ≡ magnetic_copy_buffer bytes out start)
    unfolding magnetic_copied_of magnetic_copy_buffer
    copy-placed n E last same b room left placed =
        let own : last ≡ framed second_edition (byte_of E.letter) E.items = same ∙ E.last in
        let size : length last ≡ total_length 6 (length E.items) = ap length own ∙ framed-length second_edition (byte_of E.letter) E.items in
        let fits = room ∙ ap (λ (k : ℕ). room_from start k (length out)) size in (
          ap₂ (λ (t : Bool) (k : ℕ). cond t (Ok k) (Err NoRoom)) fits (sym E.count)
              ∙ ap (λ (t : Told MagneticItem Centering (Unit {0})). copied_by t start (length out)) (sym E.told),
          placed ∙ ap (placed_in out start) own ∙ ap (λ (t : Told MagneticItem Centering (Unit {0})). copy_by t out start) (sym E.told),
        )

    -- Where n operations were copied, the bytes from the start on are those that were read.
    pub copied-same : Bytes bytes → (n : ℕ) → magnetic_copied_of bytes out start ≡ Ok n
        → take (start + total_length 6 n) (magnetic_copy_buffer bytes out start) ≡ take start out ++ drop (length bytes - total_length 6 n) bytes
    unfolding magnetic_copied_of magnetic_copy_buffer
    copied-same b n e = by (told_by magnetic_rules bytes) refl e
      where
        by : (t : Told MagneticItem Centering (Unit {0})) → told_by magnetic_rules bytes ≡ t → copied_by t start (length out) ≡ Ok n
            → take (start + total_length 6 n) (copy_by t out start) ≡ take start out ++ drop (length bytes - total_length 6 n) bytes
        by (not-held why) told p = let z : ◌≡◌ {A = ℕ} 0 1 = cc in absurd (omega arith)
        by (holds k c items) told p = go (room_from start (total_length 6 (length items)) (length out)) refl p
          where
            go : (r : Bool) → room_from start (total_length 6 (length items)) (length out) ≡ r
                → cond {A = Result ℕ (Unwritten Refusal)} r (Ok (length items)) (Err NoRoom) ≡ Ok n
                → take (start + total_length 6 n) (placed_in out start (framed second_edition (byte_of c) items))
                ≡ take start out ++ drop (length bytes - total_length 6 n) bytes
            go false room q = let z : ◌≡◌ {A = ℕ} 0 1 = cc in absurd (omega arith)
            go true room q =
                let count : length items ≡ n = cc in
                let written = framed second_edition (byte_of c) items in
                let end = placed_end out start (total_length 6 (length items)) written (framed-length second_edition (byte_of c) items) room in
                let same = end ∙ ap (λ (l : List ℕ). take start out ++ l) (sym (end-bytes b c items told).1) in
                rw (← count) same

    -- What is answered in numbers: 30 to 35 as for the order, then 20 where fewer than 6n + 5 bytes stand from the start on, else the order.
    pub magnetic-copy-told : copy_answer (magnetic_copied_of bytes out start) ≡ or_no_room 6 (magnetic_order_answer (reading_of bytes)) start (length out)
    unfolding magnetic_copied_of
    magnetic-copy-told = by (told_by magnetic_rules bytes)
      where
        fits : (n : ℕ) (b : Bool) → copy_answer (cond (not b) (Ok n) (Err NoRoom)) ≡ cond b no_room (given n)
        fits n true = refl
        fits n false = refl

        by : (t : Told MagneticItem Centering (Unit {0}))
            → copy_answer (copied_by t start (length out)) ≡ or_no_room 6 (magnetic_order_answer (reading_by t)) start (length out)
        by (holds k c items) =
            let n = length items in
            rw (room_as (6 * n + 5) start (length out)) (fits n (ltb (length out) (start + (6 * n + 5))))
        by (not-held why) = refl
