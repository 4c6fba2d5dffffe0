-- What a reader of magnetic records answers: the letter and the count of what is told, or the refusal. In numbers: the order, and the letter's byte; each of
-- 30 to 35 is given exactly when its rule says so, and the two answers together determine the reading.
use Rattle.std.specs.Prelude.{◌≡◌, refl, ◌↔◌, List, ℕ, ◌<◌, length, Err, Ok, Result, Some}
use Rattle.std.proofs.Common.{sym, ◌∙◌, ap, ap₂, arith}
use Rattle.operation.specs.Answer.{Answer, given, refused, Nothing}
use Rattle.centering.specs.Letters.{byte_of, letter_of}
use Rattle.centering.specs.LatticeLaws.{letter-by-byte}
use Rattle.centering.specs.declared.Centering.{Centering}
use Rattle.group_record.specs.Items.{Bytes}
use Rattle.group_record.specs.Rules.{Told, holds, told_by}
use Rattle.group_record.specs.Rules.{refused as not-held}
use Rattle.group_record.specs.Reading.{refusal_number}
use Rattle.group_record.specs.RefusalNumbers.{told_answer, Refuses, too_few, told-refused, one-refusal}
use Rattle.magnetic_record.specs.SecondEdition.{MagneticItem}
use Rattle.magnetic_record.specs.Reading.{magnetic_rules}
use Rattle.magnetic_record.specs.Acceptance.{magnetic_meaning}
use Rattle.group_record.specs.declared.Refusal.{Refusal}

-- ---- the answer
abbrev pub reading_by : Told MagneticItem Centering (Unit {0}) → Result (Centering × ℕ) Refusal
reading_by (holds k c items) = Ok (c, (length items))
reading_by (not-held why) = Err why

-- What a buffer is read as.
abbrev pub reading_of : List ℕ → Result (Centering × ℕ) Refusal
reading_of bytes = reading_by (told_by magnetic_rules bytes)

-- ---- in numbers
-- The order,
abbrev pub magnetic_order_answer : Result (Centering × ℕ) Refusal → Answer ℕ Nothing
magnetic_order_answer (Ok (c, n)) = given n
magnetic_order_answer (Err why) = refused (refusal_number why) 0 tt

-- and the letter, by its byte.
abbrev pub magnetic_letter_answer : Result (Centering × ℕ) Refusal → Answer ℕ Nothing
magnetic_letter_answer (Ok (c, n)) = given (byte_of c)
magnetic_letter_answer (Err why) = refused (refusal_number why) 0 tt

-- Letters with one byte are one.
one-letter : (c d : Centering) → byte_of c ≡ byte_of d → c ≡ d
one-letter c d e = let same : Some c ≡ Some d = sym (letter-by-byte c) ∙ ap letter_of e ∙ letter-by-byte d in cc

-- The two answers determine the reading.
pub one-magnetic-reading : (a b : Result (Centering × ℕ) Refusal) → magnetic_order_answer a ≡ magnetic_order_answer b
    → magnetic_letter_answer a ≡ magnetic_letter_answer b
    → a ≡ b
one-magnetic-reading (Ok (c, n)) (Ok (d, m)) e f =
    let count : n ≡ m = cc in
    let byte : byte_of c ≡ byte_of d = cc in
    ap₂ (λ (x : Centering) (k : ℕ). (Ok (x, k))) (one-letter c d byte) count
one-magnetic-reading (Ok (c, n)) (Err s) e f = let z : ◌≡◌ {A = ℕ} 0 1 = cc in absurd (omega arith)
one-magnetic-reading (Err r) (Ok (d, m)) e f = let z : ◌≡◌ {A = ℕ} 0 1 = cc in absurd (omega arith)
one-magnetic-reading (Err r) (Err s) e f = let same : refusal_number r ≡ refusal_number s = cc in ap Err (one-refusal r s same)

-- ---- each of 30 to 35 exactly when
-- Either answer has the number and the place that are told,
told-order : (t : Told MagneticItem Centering (Unit {0})) (number place : ℕ)
    → (magnetic_order_answer (reading_by t) ≡ refused number place tt) ↔ (told_answer t ≡ refused number place tt)
told-order (not-held why) number place = ((λ e. cc), λ e. cc)
told-order (holds k c items) number place = (
  (λ e. let z : ◌≡◌ {A = ℕ} 0 1 = cc in absurd (omega arith)),
  λ e. let z : ◌≡◌ {A = ℕ} 0 1 = cc in absurd (omega arith),
)

-- and the letter is refused where the order is.
pub letter-refused : (a : Result (Centering × ℕ) Refusal) (number place : ℕ)
    → (magnetic_letter_answer a ≡ refused number place tt) ↔ (magnetic_order_answer a ≡ refused number place tt)
letter-refused (Err why) number place = ((λ e. e), λ e. e)
letter-refused (Ok (c, n)) number place = (
  (λ e. let z : ◌≡◌ {A = ℕ} 0 1 = cc in absurd (omega arith)),
  λ e. let z : ◌≡◌ {A = ℕ} 0 1 = cc in absurd (omega arith),
)

-- A buffer is refused with a number exactly if that number's rule says so, and its place is 0.
pub magnetic-refused : (bytes : List ℕ) → Bytes bytes → (number place : ℕ)
    → (magnetic_order_answer (reading_of bytes) ≡ refused number place tt) ↔ ((place ≡ 0) × Refuses magnetic_rules magnetic_meaning bytes number)
magnetic-refused bytes b number place = (
  (λ e. (told-refused magnetic_rules magnetic_meaning bytes b number place).0 ((told-order (told_by magnetic_rules bytes) number place).0 e)),
  λ h. (told-order (told_by magnetic_rules bytes) number place).1 ((told-refused magnetic_rules magnetic_meaning bytes b number place).1 h),
)

-- So 30 is given exactly if there are under ten bytes.
pub magnetic-short-exactly : (bytes : List ℕ) → Bytes bytes → (magnetic_order_answer (reading_of bytes) ≡ refused 30 0 tt) ↔ (length bytes < 10)
magnetic-short-exactly bytes b = ((λ e. from ((magnetic-refused bytes b 30 0).0 e).1), λ h. (magnetic-refused bytes b 30 0).1 (refl, too_few h))
  where
    from : Refuses magnetic_rules magnetic_meaning bytes 30 → length bytes < 10
    from (too_few h) = h
