-- What is answered, and what the lent buffer then holds: 30 to 35 of the first record, then those of the second with 30 more, then 20; else the report.
use Rattle.std.specs.Prelude.{cond, List, ◌++◌, ℕ, ◌+◌, ltb, length, drop, Err, Ok, Result}
use Rattle.operation.specs.Answer.{Answer, given, refused, Nothing}
use Rattle.group_record.specs.Reading.{refusal_number}
use Rattle.group_record.specs.declared.Reading.{Reading}
use Rattle.group_record.specs.declared.Reading.TheVariants.{Accepted, Refused}
use Rattle.record_report.specs.Sheets.{reading_of, sheet_of}
use Rattle.record_report.specs.Report.{report_of}
use Rattle.record_report.specs.declared.Incomparable.TheVariants.{First, NoRoom, Second}
use Rattle.record_report.specs.declared.Incomparable.{Incomparable}

-- Number, place and value of each case.
abbrev pub compared_answer : Result ℕ Incomparable → Answer ℕ Nothing
compared_answer (Ok size) = given size
compared_answer (Err (First r)) = refused (refusal_number r) 0 tt
compared_answer (Err (Second r)) = refused (refusal_number r + 30) 0 tt
compared_answer (Err NoRoom) = refused 20 0 tt

-- A report that fits stands from the start, and what is behind it stays; so does all if it does not fit.
abbrev pub fitted_answer : List ℕ → ℕ → Result ℕ Incomparable
fitted_answer report room = cond (ltb room (length report)) (Err NoRoom) (Ok (length report))

abbrev pub fitted : List ℕ → List ℕ → List ℕ
fitted report out = cond (ltb (length out) (length report)) out (report ++ drop (length report) out)

-- The report of two records.
abbrev pub report_in : List ℕ → List ℕ → List ℕ
report_in first second = report_of (sheet_of first) (sheet_of second)

-- The first record goes first, then the second, then the room.
abbrev pub compared_by : Reading → Reading → List ℕ → ℕ → Result ℕ Incomparable
compared_by (Refused r) b report room = Err (First r)
compared_by Accepted (Refused r) report room = Err (Second r)
compared_by Accepted Accepted report room = fitted_answer report room

abbrev pub buffer_by : Reading → Reading → List ℕ → List ℕ → List ℕ
buffer_by (Refused r) b report out = out
buffer_by Accepted (Refused r) report out = out
buffer_by Accepted Accepted report out = fitted report out

unfoldable pub compared_of : List ℕ → List ℕ → ℕ → Result ℕ Incomparable
compared_of first second room = compared_by (reading_of first) (reading_of second) (report_in first second) room

unfoldable pub buffer_of : List ℕ → List ℕ → List ℕ → List ℕ
buffer_of first second out = buffer_by (reading_of first) (reading_of second) (report_in first second) out
