-- What is said of a list as one number, and that it can be packed: an entry's index is below 48, a missing code at most 19682, and places are at most 80.
use Rattle.std.specs.Prelude.{◌≡◌, refl, List, ℕ, ◌+◌, ◌<◌, Err, Ok, Result}
use Rattle.std.proofs.Common.{ap, arith}
use Rattle.operation.specs.Code.{code_lt}
use Rattle.list_check.specs.Checked.{checked_of}
use Rattle.list_check.specs.Exactly.{entry-exactly, missing-exactly, range-exactly, symbol-first}
use Rattle.list_check.specs.Told.{Said, yes, entry, missing, checked_answer, checked-once}
use Rattle.list_check.specs.declared.refusal.Refusal.TheVariants.{Symbol, Length, Entry as WrongEntry}
use Rattle.answer_numbers.specs.Packing.{near, packed, mapped, Within, Low, Numbers, loses-nothing}
use Rattle.symbol_numbers.specs.SymbolBounds.{symbol-told}
use Rattle.list_check.specs.declared.Verdict.TheVariants.{Entry, Missing, Yes}
use Rattle.list_check.specs.declared.Verdict.{Verdict}
use Rattle.list_check.specs.declared.refusal.Refusal.{Refusal}

-- Yes is 0; an entry's index stands above 65536, and a missing code above 131072.
abbrev pub said_number : Said → ℕ
said_number yes = 0
said_number (entry i) = 65536 + i
said_number (missing code) = 131072 + code

-- What can be said: one of at most 48 entries, or a code.
abbrev pub Sayable : Said → Type 0
Sayable yes = Unit {0}
Sayable (entry i) = i < 48
Sayable (missing code) = code < 19683

said-low : (s : Said) → Sayable s → Low (said_number s)
said-low yes h = omega arith
said-low (entry i) h = omega arith
said-low (missing code) h = omega arith

said-once : (s t : Said) → Sayable s → Sayable t → said_number s ≡ said_number t → s ≡ t
said-once yes yes h k e = refl
said-once yes (entry j) h k e = absurd (omega arith)
said-once yes (missing d) h k e = absurd (omega arith)
said-once (entry i) yes h k e = absurd (omega arith)
said-once (entry i) (entry j) h k e = let same : i ≡ j = omega arith in ap entry same
said-once (entry i) (missing d) h k e = absurd (omega arith)
said-once (missing c) yes h k e = absurd (omega arith)
said-once (missing c) (entry j) h k e = absurd (omega arith)
said-once (missing c) (missing d) h k e = let same : c ≡ d = omega arith in ap missing same

-- What is said is told by its number.
pub saids : Numbers Sayable said_number
saids = record { low = said-low; once = said-once }

-- By the answer.
by_answer : (text list : List ℕ) (a : Result Verdict Refusal) → checked_of text list ≡ a → Within Sayable (checked_answer a)
by_answer text list (Ok Yes) e = tt
by_answer text list (Ok (Entry i)) e =
    let (c, gens, accepted, (well, off)) = (entry-exactly text list i).0 e in
    let few = well.0.0 in
    let within = off.within in
    omega arith
by_answer text list (Ok (Missing code)) e =
    let (c, gens, accepted, (well, lowest)) = (missing-exactly text list code).0 e in
    let small = code_lt lowest.rotation lowest.lacking.digits in
    let same = lowest.its-code in
    omega arith
by_answer text list (Err (Symbol r)) e = symbol-told text r ((symbol-first text list r).0 e)
by_answer text list (Err Length) e = near (omega arith) (omega arith) (omega arith)
by_answer text list (Err (WrongEntry i)) e =
    let (c, gens, accepted, wrong) = (range-exactly text list i).0 e in
    let few = wrong.right-length.0 in
    let within = wrong.within in
    near (omega arith) (omega arith) (omega arith)

-- The answer can be packed,
pub checked-within : (text list : List ℕ) → Within Sayable (checked_answer (checked_of text list))
checked-within text list = by_answer text list (checked_of text list) refl

-- and nothing is lost: two answers never share a number.
pub check-told : (text list other others : List ℕ)
    → packed (mapped said_number (checked_answer (checked_of text list))) ≡ packed (mapped said_number (checked_answer (checked_of other others)))
    → checked_of text list ≡ checked_of other others
check-told text list other others e =
    checked-once (checked_of text list) (checked_of other others)
    (loses-nothing saids (checked_answer (checked_of text list)) (checked_answer (checked_of other others)) (checked-within text list)
    (checked-within other others) e)
