-- What is answered for a symbol's text and a list of five-byte operations, by (xii) of the requests: the symbol's refusal, 43, 44; and then the first entry
-- that is foreign or repeated, the lowest missing code, or yes.
use Rattle.std.specs.Prelude.{Bool, true, false, cond, not, ◌&&◌, ◌||◌, List, ℕ, zero, suc, ◌*◌, ◌/◌, ◌%◌, min, eqb, leb, ltb, length, get_or, take, drop, Err, None, Ok, Option, Result, Some}
use Rattle.operation.specs.Product.{identity_operation}
use Rattle.operation.specs.declared.Operation.{Operation}
use Rattle.five_bytes.specs.FiveBytes.{five_bytes_of}
use Rattle.centering.specs.declared.Centering.{Centering}
use Rattle.subgroup_laws.specs.Bounded.{some, first}
use Rattle.space_group.specs.Traversal.{turn_of, same_turn, same_class}
use Rattle.symbol_group.specs.Answers.{symbol_answer}
use Rattle.symbol_group.specs.declared.Answer.{Answer}
use Rattle.symbol_group.specs.declared.Answer.TheVariants.{Group, Refused as NoGroup}
use Rattle.symbol_group.specs.declared.SymbolGroup.{SymbolGroup}
use Rattle.list_check.specs.declared.refusal.Refusal.TheVariants.{Symbol, Length, Entry as WrongEntry}
use Rattle.list_check.specs.declared.Verdict.TheVariants.{Entry, Missing, Yes}
use Rattle.list_check.specs.declared.Verdict.{Verdict}
use Rattle.list_check.specs.declared.refusal.Refusal.{Refusal}

-- ---- the entries
-- A list is a multiple of five bytes, and at most 240.
unfoldable pub length_fits : ℕ → Bool
length_fits size = leb size 240 && eqb (size % 5) 0

abbrev pub entry_count : List ℕ → ℕ
entry_count list = length list / 5

-- The five bytes of entry i.
unfoldable pub bytes_at : List ℕ → ℕ → List ℕ
bytes_at list i = take 5 (drop (5 * i) list)

abbrev pub is_wrong : Option Operation → Bool
is_wrong (Some o) = false
is_wrong None = true

-- A wrong entry has no operation; the identity stands in, and no list that is compared has it.
abbrev pub operation_by : Option Operation → Operation
operation_by (Some o) = o
operation_by None = identity_operation

-- Whether the code of entry i is over 19682 or a coordinate over 11.
unfoldable pub wrong_at : List ℕ → ℕ → Bool
wrong_at list i = is_wrong (five_bytes_of (bytes_at list i))

-- The operation of entry i.
unfoldable pub entry_at : List ℕ → ℕ → Operation
entry_at list i = operation_by (five_bytes_of (bytes_at list i))

-- ---- entries and operations
-- One operation modulo the lattice: one rotation, and translations in one class.
unfoldable pub alike : Centering → Operation → Operation → Bool
alike c f g = same_turn f g && same_class c f g

-- An entry is foreign if no operation of the group is alike to it,
unfoldable pub foreign_at : Centering → ℕ → (ℕ → Operation) → (ℕ → Operation) → ℕ → Bool
foreign_at c count operation entry i = not (some (λ k. alike c (entry i) (operation k)) count)

-- and repeated if an entry further left is.
unfoldable pub repeated_at : Centering → (ℕ → Operation) → ℕ → Bool
repeated_at c entry i = some (λ j. alike c (entry i) (entry j)) i

unfoldable pub off_at : Centering → ℕ → (ℕ → Operation) → (ℕ → Operation) → ℕ → Bool
off_at c count operation entry i = foreign_at c count operation entry i || repeated_at c entry i

-- An operation of the group is missing if no entry is alike to it.
unfoldable pub missing_at : Centering → ℕ → (ℕ → Operation) → (ℕ → Operation) → ℕ → Bool
missing_at c n entry operation k = not (some (λ i. alike c (operation k) (entry i)) n)

-- ---- the answer
-- The codes end with 19682.
abbrev pub no_code : ℕ
no_code = 19683

-- The lowest code among those below n that pass a test, or that which is none.
unfoldable pub lowest : (ℕ → Bool) → (ℕ → ℕ) → ℕ → ℕ
lowest test code zero = no_code
lowest test code (suc n) = cond (test n) (min (code n) (lowest test code n)) (lowest test code n)

abbrev pub missing_answer : ℕ → Result Verdict Refusal
missing_answer code = cond (ltb code no_code) (Ok (Missing code)) (Ok Yes)

-- The first of n entries that is off; or, if none is, the lowest missing code; or yes.
unfoldable pub entries_answer : Centering → ℕ → (ℕ → Operation) → ℕ → (ℕ → Operation) → Result Verdict Refusal
entries_answer c count operation n entry =
    let off = first (off_at c count operation entry) n in
    cond (ltb off n) (Ok (Entry off)) (missing_answer (lowest (missing_at c n entry operation) (λ k. turn_of (operation k)) count))

-- 43 goes before 44, and every entry is looked at for 44 before any is named.
unfoldable pub list_answer : Centering → ℕ → (ℕ → Operation) → List ℕ → Result Verdict Refusal
list_answer c count operation list =
    let wrong = first (wrong_at list) (entry_count list) in
    cond (length_fits (length list))
    (cond (ltb wrong (entry_count list)) (Err (WrongEntry wrong)) (entries_answer c count operation (entry_count list) (entry_at list)))
    (Err Length)

-- Slot k of the operations of a group.
unfoldable pub slot_at : List Operation → ℕ → Operation
slot_at operations k = get_or operations k identity_operation

-- The symbol's refusal goes first.
abbrev pub checked_by : Answer → SymbolGroup → List ℕ → Result Verdict Refusal
checked_by Group g list = list_answer g.centering g.count (slot_at g.operations) list
checked_by (NoGroup r) g list = Err (Symbol r)

unfoldable pub checked_of : List ℕ → List ℕ → Result Verdict Refusal
checked_of text list = checked_by (symbol_answer text).answer (symbol_answer text) list
