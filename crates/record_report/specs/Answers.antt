-- What is answered in numbers, and what the lent buffer then holds, exactly when: 30 to 35 of the first record, then 60 to 65 of the second, then 20, else the
-- report. Number, place and value determine the answer.
use Rattle.std.proofs.Math.Path.{◌≡◌, refl, sym, ap}
use Rattle.std.proofs.Common.{◌∙◌, arith}
use Rattle.std.specs.Prelude.{Bool, true, false, cond, List, ◌++◌, ℕ, ◌+◌, ◌<◌, ◌≤◌, ltb, length, drop, Err, Ok, Result}
use borrow.Author.Tests.{ltb-true, ltb-false, lt-ltb, le-ltb}
use Rattle.operation.specs.Answer.{Answer, given, refused, Nothing}
use Rattle.group_record.specs.Acceptance.{first_meaning}
use Rattle.group_record.specs.Items.{Bytes}
use Rattle.group_record.specs.declared.items.Item.{Item}
use Rattle.group_record.specs.Reading.{refusal_number, first_rules, first_group_of, read_first_of, refused_group, accepted_group}
use Rattle.group_record.specs.RefusalNumbers.{Refuses, too_few, edition, letter, count-or-length, item, group, told_answer, told-refused, one-refusal}
use Rattle.group_record.specs.Rules.{Told, holds, told_by}
use Rattle.group_record.specs.Rules.{refused as not-held}
use Rattle.group_record.specs.declared.Reading.{Reading}
use Rattle.group_record.specs.declared.Reading.TheVariants.{Accepted, Refused}
use Rattle.group_record.specs.declared.Refusal.{Refusal}
use Rattle.group_record.specs.declared.sign.Sign.{Sign}
use Rattle.record_report.specs.Sheets.{reading_of, sheet_of}
use Rattle.record_report.specs.Report.{report_of}
use Rattle.record_report.specs.Compared.{compared_answer, compared_by, buffer_by, compared_of, buffer_of}
use Rattle.record_report.specs.Lent.{Read}
use Rattle.record_report.specs.declared.Incomparable.TheVariants.{First, NoRoom, Second}
use Rattle.record_report.specs.declared.Incomparable.{Incomparable}

-- ---- one record
-- By which number a record is refused here.
abbrev pub RefusedBy : List ℕ → ℕ → Type 0
RefusedBy bytes number = Refuses first_rules first_meaning bytes number

-- It is 30 to 35.
pub refused-range : {bytes : List ℕ} {number : ℕ} → RefusedBy bytes number → (30 ≤ number) × (number ≤ 35)
refused-range (too_few h) = (omega arith, omega arith)
refused-range (edition front l d n high low h p q) = (omega arith, omega arith)
refused-range (letter k front l n high low h p q) = (omega arith, omega arith)
refused-range (count-or-length k c front n high low h p q) = (omega arith, omega arith)
refused-range (item k c front body n one few wide p q) = (omega arith, omega arith)
refused-range (group k c front items one few p g q) = (omega arith, omega arith)

module _ (bytes : List ℕ) (b : Bytes bytes) where
  -- What is not read is refused by its rule,
  pub refused-by : (r : Refusal) → reading_of bytes ≡ Refused r → RefusedBy bytes (refusal_number r)
  unfolding reading_of read_first_of refused_group accepted_group
  refused-by r e = by (told_by first_rules bytes) refl e
    where
      by : (t : Told Item Sign (Unit {0})) → told_by first_rules bytes ≡ t → (first_group_of t).answer ≡ Refused r → RefusedBy bytes (refusal_number r)
      by (not-held s) p q =
          let same : s ≡ r = cc in
          ((told-refused first_rules first_meaning bytes b (refusal_number r) 0).0 (ap told_answer (p ∙ ap not-held same))).1
      by (holds k s items) p q = let z : ◌≡◌ {A = ℕ} 0 1 = cc in absurd (omega arith)

  -- and what a rule refuses is not read.
  pub rule-refuses : (number : ℕ) → RefusedBy bytes number → (r : Refusal) × (reading_of bytes ≡ Refused r) × (refusal_number r ≡ number)
  unfolding reading_of read_first_of refused_group
  rule-refuses number h = by (told_by first_rules bytes) refl ((told-refused first_rules first_meaning bytes b number 0).1 (refl, h))
    where
      by : (t : Told Item Sign (Unit {0})) → told_by first_rules bytes ≡ t → told_answer (told_by first_rules bytes) ≡ refused number 0 tt
          → (r : Refusal) × ((first_group_of (told_by first_rules bytes)).answer ≡ Refused r) × (refusal_number r ≡ number)
      by (not-held r) p e =
          let same : told_answer (not-held r) ≡ refused number 0 tt = sym (ap told_answer p) ∙ e in
          let numbers : refusal_number r ≡ number = cc in
          (r, ap (λ (t : Told Item Sign (Unit {0})). (first_group_of t).answer) p, numbers)
      by (holds k s items) p e =
          let same : told_answer (holds k s items) ≡ refused number 0 tt = sym (ap told_answer p) ∙ e in
          let z : ◌≡◌ {A = ℕ} 0 1 = cc in
          absurd (omega arith)

-- ---- two records
module _ (first second out : List ℕ) where
  abbrev report : List ℕ
  report = report_of (sheet_of first) (sheet_of second)

  -- What is answered, and the buffer then.
  pub data Outcome : Answer ℕ Nothing → List ℕ → Type 0 where
    first-refused : (number : ℕ) → RefusedBy first number → Outcome (refused number 0 tt) out
    second-refused : (number : ℕ) → Read first → RefusedBy second number → Outcome (refused (number + 30) 0 tt) out
    no_room : Read first → Read second → length out < length report → Outcome (refused 20 0 tt) out
    reported : Read first → Read second → length report ≤ length out → Outcome (given (length report)) (report ++ drop (length report) out)

  module _ (b : Bytes first) (d : Bytes second) where
    -- The definition is one of these,
    fits : Read first → Read second → (t : Bool) → ltb (length out) (length report) ≡ t → Outcome (compared_answer (cond t (Err NoRoom) (Ok (length report))))
        (cond t out (report ++ drop (length report) out))
    fits R S true e = no_room R S (ltb-true (length out) (length report) e)
    fits R S false e = reported R S (ltb-false (length out) (length report) e)

    outcome-by : (p q : Reading) → reading_of first ≡ p → reading_of second ≡ q → Outcome (compared_answer (compared_by p q report (length out)))
        (buffer_by p q report out)
    outcome-by (Refused r) q e k = first-refused (refusal_number r) (refused-by first b r e)
    outcome-by Accepted (Refused r) e k = second-refused (refusal_number r) (record { small = b; accepted = e }) (refused-by second d r k)
    outcome-by Accepted Accepted e k =
        fits (record { small = b; accepted = e }) (record { small = d; accepted = k }) (ltb (length out) (length report)) refl

    pub compare-outcome : Outcome (compared_answer (compared_of first second (length out))) (buffer_of first second out)
    unfolding compared_of buffer_of
    compare-outcome = outcome-by (reading_of first) (reading_of second) refl refl

    -- and nothing else is one of them.
    pub only-outcome : (answer : Answer ℕ Nothing) (after : List ℕ) → Outcome answer after
        → (answer ≡ compared_answer (compared_of first second (length out))) × (after ≡ buffer_of first second out)
    unfolding compared_of buffer_of
    only-outcome answer after (first-refused number h) =
        let (r, e, q) = rule-refuses first b number h in
        rw e (ap (λ (k : ℕ). refused k 0 tt) (sym q), refl)
    only-outcome answer after (second-refused number R h) =
        let (r, e, q) = rule-refuses second d number h in
        rw (R.accepted, e) (ap (λ (k : ℕ). refused (k + 30) 0 tt) (sym q), refl)
    only-outcome answer after (no_room R S h) = rw (R.accepted, S.accepted, lt-ltb (length out) (length report) h) (refl, refl)
    only-outcome answer after (reported R S h) = rw (R.accepted, S.accepted, le-ltb (length out) (length report) h) (refl, refl)

-- ---- number, place and value determine the answer
-- An answer that is given: a refusal of a record is 30 to 35.
abbrev pub Given : Result ℕ Incomparable → Type 0
Given (Ok size) = Unit {0}
Given (Err (First r)) = (30 ≤ refusal_number r) × (refusal_number r ≤ 35)
Given (Err (Second r)) = (30 ≤ refusal_number r) × (refusal_number r ≤ 35)
Given (Err NoRoom) = Unit {0}

pub compared-given : (first second : List ℕ) (room : ℕ) → Bytes first → Bytes second → Given (compared_of first second room)
unfolding compared_of
compared-given first second room b d = by (reading_of first) (reading_of second) refl refl
  where
    fits : (t : Bool) → Given (cond t (Err NoRoom) (Ok (length (report_of (sheet_of first) (sheet_of second)))))
    fits true = tt
    fits false = tt

    by : (p q : Reading) → reading_of first ≡ p → reading_of second ≡ q → Given (compared_by p q (report_of (sheet_of first) (sheet_of second)) room)
    by (Refused r) q e k = refused-range (refused-by first b r e)
    by Accepted (Refused r) e k = refused-range (refused-by second d r k)
    by Accepted Accepted e k = fits (ltb room (length (report_of (sheet_of first) (sheet_of second))))

pub compared-once : (a b : Result ℕ Incomparable) → Given a → Given b → compared_answer a ≡ compared_answer b → a ≡ b
compared-once (Ok n) (Ok m) h k e = cc
compared-once (Ok n) (Err (First s)) h k e = let z : ◌≡◌ {A = ℕ} 0 1 = cc in absurd (omega arith)
compared-once (Ok n) (Err (Second s)) h k e = let z : ◌≡◌ {A = ℕ} 0 1 = cc in absurd (omega arith)
compared-once (Ok n) (Err NoRoom) h k e = let z : ◌≡◌ {A = ℕ} 0 1 = cc in absurd (omega arith)
compared-once (Err (First r)) (Ok m) h k e = let z : ◌≡◌ {A = ℕ} 0 1 = cc in absurd (omega arith)
compared-once (Err (First r)) (Err (First s)) h k e = let q : refusal_number r ≡ refusal_number s = cc in ap (λ x. Err (First x)) (one-refusal r s q)
compared-once (Err (First r)) (Err (Second s)) h k e = let q : refusal_number r ≡ refusal_number s + 30 = cc in absurd (omega arith)
compared-once (Err (First r)) (Err NoRoom) h k e = let q : refusal_number r ≡ 20 = cc in absurd (omega arith)
compared-once (Err (Second r)) (Ok m) h k e = let z : ◌≡◌ {A = ℕ} 0 1 = cc in absurd (omega arith)
compared-once (Err (Second r)) (Err (First s)) h k e = let q : refusal_number r + 30 ≡ refusal_number s = cc in absurd (omega arith)
compared-once (Err (Second r)) (Err (Second s)) h k e =
    let q : refusal_number r + 30 ≡ refusal_number s + 30 = cc in
    let p : refusal_number r ≡ refusal_number s = omega arith in
    ap (λ x. Err (Second x)) (one-refusal r s p)
compared-once (Err (Second r)) (Err NoRoom) h k e = let q : refusal_number r + 30 ≡ 20 = cc in absurd (omega arith)
compared-once (Err NoRoom) (Ok m) h k e = let z : ◌≡◌ {A = ℕ} 0 1 = cc in absurd (omega arith)
compared-once (Err NoRoom) (Err (First s)) h k e = let q : 20 ≡ refusal_number s = cc in absurd (omega arith)
compared-once (Err NoRoom) (Err (Second s)) h k e = let q : 20 ≡ refusal_number s + 30 = cc in absurd (omega arith)
compared-once (Err NoRoom) (Err NoRoom) h k e = refl
