-- What is answered on two records can be packed: a report has at most 864 bytes, and refusals are 30 to 35, 60 to 65 and 20, at 0.
use Rattle.std.specs.Prelude.{◌≡◌, Bool, true, false, cond, List, ℕ, ltb, length, Err, Ok, Result}
use Rattle.std.proofs.Math.Path.{refl}
use Rattle.std.proofs.Common.{arith}
use Rattle.group_record.specs.Items.{Bytes}
use Rattle.group_record.specs.declared.Reading.{Reading}
use Rattle.group_record.specs.declared.Reading.TheVariants.{Accepted, Refused}
use Rattle.record_report.specs.Answers.{refused-range, refused-by, compared-given, compared-once}
use Rattle.record_report.specs.Compared.{compared_answer, compared_by, compared_of}
use Rattle.record_report.specs.Report.{report_of}
use Rattle.record_report.specs.Sheets.{reading_of, sheet_of}
use Rattle.record_report.specs.Yields.{report-short}
use Rattle.answer_numbers.specs.Packing.{near, packed, Within, Low, packed-once}
use Rattle.record_report.specs.declared.Incomparable.TheVariants.{NoRoom}
use Rattle.record_report.specs.declared.Incomparable.{Incomparable}

-- An answer that can be packed.
abbrev pub Tellable : Result ℕ Incomparable → Type 0
Tellable a = Within Low (compared_answer a)

module _ (first second : List ℕ) (room : ℕ) (b : Bytes first) (d : Bytes second) where
  abbrev report : List ℕ
  report = report_of (sheet_of first) (sheet_of second)

  fits : reading_of first ≡ Accepted → reading_of second ≡ Accepted → (t : Bool) → Tellable (cond t (Err NoRoom) (Ok (length report)))
  fits e k true = near (omega arith) (omega arith) (omega arith)
  fits e k false = let short = report-short first second (record { small = b; accepted = e }) (record { small = d; accepted = k }) in omega arith

  by-readings : (p q : Reading) → reading_of first ≡ p → reading_of second ≡ q → Tellable (compared_by p q report room)
  by-readings (Refused r) q e k = let (least, most) = refused-range (refused-by first b r e) in near (omega arith) (omega arith) (omega arith)
  by-readings Accepted (Refused r) e k = let (least, most) = refused-range (refused-by second d r k) in near (omega arith) (omega arith) (omega arith)
  by-readings Accepted Accepted e k = fits e k (ltb room (length report))

  -- The answer can be packed,
  pub compared-within : Tellable (compared_of first second room)
  unfolding compared_of
  compared-within = by-readings (reading_of first) (reading_of second) refl refl

-- and nothing is lost: two answers never share a number.
pub compare-told : (first second other another : List ℕ) (room place : ℕ) → Bytes first → Bytes second → Bytes other → Bytes another
    → packed (compared_answer (compared_of first second room)) ≡ packed (compared_answer (compared_of other another place))
    → compared_of first second room ≡ compared_of other another place
compare-told first second other another room place b d f g e =
    compared-once (compared_of first second room) (compared_of other another place) (compared-given first second room b d)
    (compared-given other another place f g)
    (packed-once (compared_answer (compared_of first second room)) (compared_answer (compared_of other another place)) (compared-within first second room b d)
    (compared-within other another place f g) e)
