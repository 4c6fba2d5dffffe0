-- Number, place and value determine an answer on the group of a symbol or a record, and its number and place say whether the text, the record or its group is
-- refused, and why, as they do in the three rooms of these: their numbers are apart.
use Rattle.std.specs.Prelude.{◌≡◌, ℕ, ◌<◌, ◌≤◌, Err, Ok, Result}
use Rattle.std.proofs.Common.{ap, ap₂, arith}
use Rattle.symbol_group.specs.Refusals as symbol
use Rattle.symbol_group.specs.Told as symbol-told
use Rattle.symbol_group.specs.declared.refusal.Refusal as symbol-refusal
use Rattle.group_record.specs.Reading.{refusal_number}
use Rattle.group_record.specs.RefusalNumbers.{one-refusal}
use Rattle.group_record.specs.declared.Refusal as record-refusal
use Rattle.group_record.specs.declared.Refusal.TheVariants as record-refusals
use Rattle.finite_group.specs.Answers as group
use Rattle.table_check.specs.declared.Refusal as group-refusal
use Rattle.table_check.specs.declared.Refusal.TheVariants as group-refusals
use Rattle.table_answers.specs.Once.{number-once}
use Rattle.motion_tables.specs.Answers.{symbol_refusal, record_refusal, table_refusal, motion_answer}
use Rattle.motion_tables.specs.declared.Refusal.{Refusal}

-- the numbers of tables
group-number : (r : group-refusal.Refusal) → (21 ≤ group.number_of r) × (group.number_of r ≤ 29)
unfolding group.number_of
group-number group-refusals.Order = (omega arith, omega arith)
group-number group-refusals.Cells = (omega arith, omega arith)
group-number group-refusals.Identity = (omega arith, omega arith)
group-number group-refusals.Inverse = (omega arith, omega arith)
group-number group-refusals.Associativity = (omega arith, omega arith)
group-number group-refusals.Slots = (omega arith, omega arith)
group-number group-refusals.Subgroup = (omega arith, omega arith)
group-number group-refusals.Element = (omega arith, omega arith)
group-number group-refusals.Normalizer = (omega arith, omega arith)

-- the numbers of records are none of the others
symbol_low : (r : symbol-refusal.Refusal) → symbol.number_of r < 20
symbol_low r = omega (arith, symbol-told.number-limit r)

record-high : (r : record-refusal.Refusal) → 30 ≤ refusal_number r
record-high record-refusals.Short = omega arith
record-high record-refusals.WrongEdition = omega arith
record-high record-refusals.WrongLetter = omega arith
record-high record-refusals.WrongLength = omega arith
record-high record-refusals.WrongItem = omega arith
record-high record-refusals.NotAllowed = omega arith

-- what can be refused
pub data Reason : Type 0 where
  of_text : symbol-refusal.Refusal → Reason
  of_record : record-refusal.Refusal → Reason
  of_group : group-refusal.Refusal → Reason

abbrev pub in_numbers : Reason → Refusal
in_numbers (of_text r) = symbol_refusal r
in_numbers (of_record r) = record_refusal r
in_numbers (of_group r) = table_refusal r

told-once : (r s : Reason) → (in_numbers r).number ≡ (in_numbers s).number → (in_numbers r).place ≡ (in_numbers s).place → r ≡ s
told-once (of_text r) (of_text s) e p = ap of_text (symbol-told.told-once r s e p)
told-once (of_text r) (of_record s) e p = absurd (omega (arith, symbol_low r, record-high s))
told-once (of_text r) (of_group s) e p = absurd (omega (arith, symbol_low r, group-number s))
told-once (of_record r) (of_text s) e p = absurd (omega (arith, symbol_low s, record-high r))
told-once (of_record r) (of_record s) e p = ap of_record (one-refusal r s e)
told-once (of_record r) (of_group s) e p = absurd (omega (arith, group-number s, record-high r))
told-once (of_group r) (of_text s) e p = absurd (omega (arith, symbol_low s, group-number r))
told-once (of_group r) (of_record s) e p = absurd (omega (arith, group-number r, record-high s))
told-once (of_group r) (of_group s) e p = ap of_group (number-once r s e)

pub reason-once : (r s : Reason) → in_numbers r ≡ in_numbers s → r ≡ s
reason-once r s e = told-once r s (ap (λ (t : Refusal). t.number) e) (ap (λ (t : Refusal). t.place) e)

pub answer-once : (a b : Result ℕ Refusal) → motion_answer a ≡ motion_answer b → a ≡ b
answer-once (Ok v) (Ok w) e = let same : v ≡ w = cc in ap Ok same
answer-once (Ok v) (Err r) e = let z : ◌≡◌ {A = ℕ} 0 1 = cc in absurd (omega arith)
answer-once (Err r) (Ok w) e = let z : ◌≡◌ {A = ℕ} 0 1 = cc in absurd (omega arith)
answer-once (Err r) (Err s) e =
    let number : r.number ≡ s.number = cc in
    let place : r.place ≡ s.place = cc in
    ap₂ (λ (n p : ℕ). Err (record { number = n; place = p })) number place
