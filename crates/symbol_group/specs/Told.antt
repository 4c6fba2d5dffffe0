-- What is answered for a text, by number and place: the list, an operation or a translation exactly if the text is accepted, and each refusal, 1 to 14,
-- 17 and 28, exactly if its rule holds. Number, place and value determine the answer.
use Rattle.std.specs.Prelude.{◌≡◌, refl, ◌⊎◌, ◌↔◌, List, ℕ, ◌≤◌, ◌<◌, length, get_or, take, Err, None, Ok, Option, Result, Some}
use Rattle.std.proofs.Common.{sym, ◌∙◌, ap, ap₂, arith, length-take-le, get_or-take, lt-ltb, le-ltb}
use Rattle.std.proofs.Math.Decide.{dec_lt}
use Rattle.operation.specs.Answer as answer
use Rattle.operation.specs.Doubles.{doubles_of}
use Rattle.operation.specs.Product.{identity_operation}
use Rattle.operation.specs.declared.Operation.{Operation}
use Rattle.operation.specs.declared.doubles.Doubles.{Doubles}
use Rattle.centering.specs.declared.Centering.{Centering}
use Rattle.hall_symbol.specs.Reader as reader
use Rattle.hall_symbol.specs.Spelling.{Spells}
use Rattle.hall_symbol.specs.Told as text
use Rattle.symbol_group.specs.TextNumbers.{OfText, text-number, apart, at_most}
use Rattle.hall_symbol.specs.Refusals as text-numbers
use Rattle.space_group.specs.Generated.{AllKeep, FewRotations, SmallRotations, OneTranslation, Outcome, group, refused, outcome_of}
use Rattle.space_group_theorems.specs.Acceptance.{FirstOff, Accepted}
use Rattle.space_group.specs.Refusals as generator-numbers
use Rattle.space_group.specs.Told as generators
use Rattle.space_group_theorems.specs.Witnesses.{ManyRotations, LargeRotation, TwoTranslations, rotations-refused, translations-refused}
use Rattle.space_group.specs.declared.refusal.Refusal.TheVariants.{Lattice, Rotations, Translations}
use Rattle.symbol_group.specs.Refusals.{number_of, place_of}
use Rattle.symbol_group.specs.Answers.{outcome_answer, reading_answer, symbol_answer, order_by, order_of, operation_by, operation_at, translation_of_found, translation_at, operations_by, operations_answer, order_answer, operation_answer, translation_answer}
use Rattle.symbol_group.specs.Slots.{symbol-slots}
use Rattle.symbol_group.specs.Exactly.{symbol-small, group-exactly, lattice-exactly, generators-refused}
use Rattle.symbol_group.specs.AcceptedTexts.{accepted-text}
use Rattle.symbol_group.specs.declared.refusal.Refusal.{Refusal}
use Rattle.symbol_group.specs.declared.refusal.Refusal.TheVariants.{Text, Group as NoGroup}
use Rattle.symbol_group.specs.declared.Answer.{Answer}
use Rattle.symbol_group.specs.declared.Answer.TheVariants.{Group, Refused}

-- ---- number, place and value
-- The numbers of a symbol's refusals are at most 17.
pub number-limit : (r : Refusal) → number_of r ≤ 17
number-limit (Text r) = at_most (text-numbers.number_of r) (text-number r)
number-limit (NoGroup r) = omega (arith, (generators.number-range r).1)

-- Number and place determine the refusal.
pub told-once : (r s : Refusal) → number_of r ≡ number_of s → place_of r ≡ place_of s → r ≡ s
told-once (Text r) (Text s) p q = ap Text (text.told-once r s p q)
told-once (Text r) (NoGroup s) p q =
    absurd (apart (text-numbers.number_of r) (generator-numbers.number_of s) (text-number r) (generators.number-range s) p)
told-once (NoGroup r) (Text s) p q =
    absurd (apart (text-numbers.number_of s) (generator-numbers.number_of r) (text-number s) (generators.number-range r) (sym p))
told-once (NoGroup r) (NoGroup s) p q = ap NoGroup (generators.told-once r s p q)

-- Equal numbers and places of two answers.
same-refusal : {A : Type 0} (r s : Refusal)
    → ◌≡◌ {A = answer.Answer A answer.Nothing} (answer.refused (number_of r) (place_of r) tt) (answer.refused (number_of s) (place_of s) tt)
    → r ≡ s
same-refusal r s e = let p : number_of r ≡ number_of s = cc in let q : place_of r ≡ place_of s = cc in told-once r s p q

-- No refusal of a symbol is 28.
not-past : {A : Type 0} (r : Refusal) → ◌≡◌ {A = answer.Answer A answer.Nothing} (answer.refused (number_of r) (place_of r) tt) (answer.refused 28 0 tt) → ⊥
not-past r e = let p : number_of r ≡ 28 = cc in omega (arith, number-limit r)

-- Number, place and value determine each answer.
pub answer-once : (a b : Answer) (l m : List Operation) → operations_by a l ≡ operations_by b m → (a ≡ b) × (a ≡ Group → l ≡ m)
answer-once Group Group l m e = (refl, λ _. cc)
answer-once Group (Refused s) l m e = let z : ◌≡◌ {A = ℕ} 0 1 = cc in absurd (omega arith)
answer-once (Refused r) Group l m e = let z : ◌≡◌ {A = ℕ} 0 1 = cc in absurd (omega arith)
answer-once (Refused r) (Refused s) l m e = (ap Refused (same-refusal r s e), λ f. let z : ◌≡◌ {A = ℕ} 0 1 = cc in absurd (omega arith))

pub order-once : (a b : Result ℕ Refusal) → order_answer a ≡ order_answer b → a ≡ b
order-once (Ok n) (Ok m) e = let z : n ≡ m = cc in ap Ok z
order-once (Ok n) (Err s) e = let z : ◌≡◌ {A = ℕ} 0 1 = cc in absurd (omega arith)
order-once (Err r) (Ok m) e = let z : ◌≡◌ {A = ℕ} 0 1 = cc in absurd (omega arith)
order-once (Err r) (Err s) e = ap Err (same-refusal r s e)

pub operation-once : (a b : Result (Option Operation) Refusal) → operation_answer a ≡ operation_answer b → a ≡ b
operation-once (Ok (Some o)) (Ok (Some q)) e = let z : o ≡ q = cc in ap (λ x. Ok (Some x)) z
operation-once (Ok (Some o)) (Ok None) e = let z : ◌≡◌ {A = ℕ} 0 1 = cc in absurd (omega arith)
operation-once (Ok (Some o)) (Err s) e = let z : ◌≡◌ {A = ℕ} 0 1 = cc in absurd (omega arith)
operation-once (Ok None) (Ok (Some q)) e = let z : ◌≡◌ {A = ℕ} 0 1 = cc in absurd (omega arith)
operation-once (Ok None) (Ok None) e = refl
operation-once (Ok None) (Err s) e = absurd (not-past s (sym e))
operation-once (Err r) (Ok (Some q)) e = let z : ◌≡◌ {A = ℕ} 0 1 = cc in absurd (omega arith)
operation-once (Err r) (Ok None) e = absurd (not-past r e)
operation-once (Err r) (Err s) e = ap Err (same-refusal r s e)

pub translation-once : (a b : Result (Option Doubles) Refusal) → translation_answer a ≡ translation_answer b → a ≡ b
translation-once (Ok (Some o)) (Ok (Some q)) e = let z : o ≡ q = cc in ap (λ x. Ok (Some x)) z
translation-once (Ok (Some o)) (Ok None) e = let z : ◌≡◌ {A = ℕ} 0 1 = cc in absurd (omega arith)
translation-once (Ok (Some o)) (Err s) e = let z : ◌≡◌ {A = ℕ} 0 1 = cc in absurd (omega arith)
translation-once (Ok None) (Ok (Some q)) e = let z : ◌≡◌ {A = ℕ} 0 1 = cc in absurd (omega arith)
translation-once (Ok None) (Ok None) e = refl
translation-once (Ok None) (Err s) e = absurd (not-past s (sym e))
translation-once (Err r) (Ok (Some q)) e = let z : ◌≡◌ {A = ℕ} 0 1 = cc in absurd (omega arith)
translation-once (Err r) (Ok None) e = absurd (not-past r e)
translation-once (Err r) (Err s) e = ap Err (same-refusal r s e)

-- ---- the group
-- What is answered for a text: its operations in list order, or its refusal.
unfoldable pub told : List ℕ → answer.Answer (List Operation) answer.Nothing
told text = operations_answer (symbol_answer text)

-- By the answer.
by-given : (a : Answer) (l operations : List Operation) → (operations_by a l ≡ answer.given operations) ↔ ((a ≡ Group) × (l ≡ operations))
by-given Group l operations = ((λ e. (refl, cc)), λ (_, p). ap answer.given p)
by-given (Refused r) l operations = (
  (λ e. let z : ◌≡◌ {A = ℕ} 0 1 = cc in absurd (omega arith)),
  λ (e, _). let z : ◌≡◌ {A = ℕ} 0 1 = cc in absurd (omega arith),
)

by-refused : (a : Answer) (l : List Operation) (r : Refusal) → (operations_by a l ≡ answer.refused (number_of r) (place_of r) tt) ↔ (a ≡ Refused r)
by-refused Group l r = ((λ e. let z : ◌≡◌ {A = ℕ} 0 1 = cc in absurd (omega arith)), λ e. let z : ◌≡◌ {A = ℕ} 0 1 = cc in absurd (omega arith))
by-refused (Refused q) l r = ((λ e. ap Refused (same-refusal q r e)), λ e. let z : q ≡ r = cc in ap (λ r. answer.refused (number_of r) (place_of r) tt) z)

-- A refusal of the text, as the reader tells it. Generators have none of its numbers.
outcome-later : (c : Centering) (m : ℕ) (o : Outcome) (n k : ℕ) → OfText n → ¬ (operations_answer (outcome_answer c m o) ≡ answer.refused n k tt)
outcome-later c m (group operations steps) n k h e = let z : ◌≡◌ {A = ℕ} 0 1 = cc in omega arith
outcome-later c m (refused r) n k h e =
    let p : generator-numbers.number_of r ≡ n = cc in
    apart n (generator-numbers.number_of r) h (generators.number-range r) (sym p)

by-text : (s : reader.Reading) (n k : ℕ) → OfText n → (operations_answer (reading_answer s) ≡ answer.refused n k tt) ↔ text.Tells (reader.answer_of s) n k
by-text (reader.symbol c gens) n k h = (
  (λ e. absurd (outcome-later c (length gens) (outcome_of c gens) n k h e)),
  λ (r, e, _, _). let z : ◌≡◌ {A = ℕ} 0 1 = cc in absurd (omega arith),
)
by-text (reader.refusal r) n k h = (
  (λ e. (r, refl, cc, cc)),
  λ (s, e, p, q). let z : r ≡ s = cc in ap₂ (λ n k. answer.refused n k tt) (ap text-numbers.number_of z ∙ p) (ap text-numbers.place_of z ∙ q),
)

module _ (bytes : List ℕ) where
  -- A list is given exactly if the text spells a symbol and R3.5 accepts its generators,
  pub given-exactly : ((operations : List Operation) × (told bytes ≡ answer.given operations))
      ↔ ((c : Centering) × (gens : List Operation) × Spells bytes c gens × (AllKeep c gens × FewRotations gens × SmallRotations gens × OneTranslation c gens))
  unfolding told
  given-exactly = (
    (λ (operations, e). (group-exactly bytes).0 ((by-given (symbol_answer bytes).answer _ operations).0 e).0),
    λ h. (_, (by-given (symbol_answer bytes).answer (take (symbol_answer bytes).count (symbol_answer bytes).operations) _).1 ((group-exactly bytes).1 h, refl)),
  )

  -- and it is the list of those generators.
  pub given-list : (operations : List Operation) → told bytes ≡ answer.given operations
      → (c : Centering) × (gens : List Operation) × (steps : List ℕ) × Spells bytes c gens × Accepted c gens operations steps
  unfolding told
  given-list operations e =
      let (a, p) = (by-given (symbol_answer bytes).answer _ operations).0 e in
      let T = accepted-text bytes a in
      (T.letter, T.generators, T.steps, T.spells, rw (sym T.same-operations ∙ p) at T.accepted)

  -- 1 to 11 and 17 at k: exactly if the reader tells them so.
  pub text-told : (n k : ℕ) → OfText n → (told bytes ≡ answer.refused n k tt) ↔ text.Tells (reader.answer_of (reader.read_symbol bytes)) n k
  unfolding told symbol_answer
  text-told n k h = by-text (reader.read_symbol bytes) n k h

  -- 12 at i: exactly if the text spells a symbol and generator i is the first that does not map L onto L.
  pub twelve-exactly : (i : ℕ) → (told bytes ≡ answer.refused 12 i tt) ↔ ((c : Centering) × (gens : List Operation) × Spells bytes c gens × FirstOff c gens i)
  unfolding told
  twelve-exactly i = (
    (λ e. (lattice-exactly bytes i).0 ((by-refused (symbol_answer bytes).answer _ (NoGroup (Lattice i))).0 e)),
    λ h. (by-refused (symbol_answer bytes).answer _ (NoGroup (Lattice i))).1 ((lattice-exactly bytes i).1 h),
  )

  -- 13 at 0: exactly if the text spells a symbol, every generator maps L onto L, and over 48 rotations are generated or one with an entry outside −1..1.
  pub thirteen-exactly : (told bytes ≡ answer.refused 13 0 tt)
      ↔ ((c : Centering) × (gens : List Operation) × Spells bytes c gens × (AllKeep c gens × (ManyRotations gens ⊎ LargeRotation gens)))
  unfolding told
  thirteen-exactly = (
    (λ e.
        let (c, gens, s, h) = (generators-refused bytes Rotations).0 ((by-refused (symbol_answer bytes).answer _ (NoGroup Rotations)).0 e) in
        (c, gens, s, (rotations-refused c gens (symbol-small bytes c gens s)).0 h)),
    λ (c, gens, s, h).
        let shown = (rotations-refused c gens (symbol-small bytes c gens s)).1 h in
        (by-refused (symbol_answer bytes).answer _ (NoGroup Rotations)).1 ((generators-refused bytes Rotations).1 (c, gens, s, shown)),
  )

  -- 14 at 0: exactly if the text spells a symbol, every generator maps L onto L, at most 48 rotations with entries in −1..1 are generated, and two generated
  -- motions with one rotation have their translations apart modulo L.
  pub fourteen-exactly : (told bytes ≡ answer.refused 14 0 tt)
      ↔ ((c : Centering) × (gens : List Operation) × Spells bytes c gens × (AllKeep c gens × FewRotations gens × SmallRotations gens × TwoTranslations c gens))
  unfolding told
  fourteen-exactly = (
    (λ e.
        let (c, gens, s, h) = (generators-refused bytes Translations).0 ((by-refused (symbol_answer bytes).answer _ (NoGroup Translations)).0 e) in
        (c, gens, s, (translations-refused c gens (symbol-small bytes c gens s)).0 h)),
    λ (c, gens, s, h).
        let shown = (translations-refused c gens (symbol-small bytes c gens s)).1 h in
        (by-refused (symbol_answer bytes).answer _ (NoGroup Translations)).1 ((generators-refused bytes Translations).1 (c, gens, s, shown)),
  )

-- ---- the order
-- A refusal's number and place are those of the answer.
same-told : {A B : Type 0} (r : Refusal) (n k : ℕ)
    → ◌≡◌ {A = answer.Answer A answer.Nothing} (answer.refused (number_of r) (place_of r) tt) (answer.refused n k tt)
    → ◌≡◌ {A = answer.Answer B answer.Nothing} (answer.refused (number_of r) (place_of r) tt) (answer.refused n k tt)
same-told r n k e = let p : number_of r ≡ n = cc in let q : place_of r ≡ k = cc in ap₂ (λ n k. answer.refused n k tt) p q

order-given : (a : Answer) (count : ℕ) (l : List Operation) → length l ≡ count → (n : ℕ) → (order_answer (order_by a count) ≡ answer.given n)
    ↔ ((operations : List Operation) × (operations_by a l ≡ answer.given operations) × (length operations ≡ n))
order-given Group count l long n = (
  (λ e. let z : count ≡ n = cc in (l, refl, long ∙ z)),
  λ (operations, e, p). let z : l ≡ operations = cc in ap answer.given (sym long ∙ ap length z ∙ p),
)
order-given (Refused r) count l long n = (
  (λ e. let z : ◌≡◌ {A = ℕ} 0 1 = cc in absurd (omega arith)),
  λ (_, e, _). let z : ◌≡◌ {A = ℕ} 0 1 = cc in absurd (omega arith),
)

order-not : (a : Answer) (count : ℕ) (l : List Operation) (n k : ℕ) → (order_answer (order_by a count) ≡ answer.refused n k tt)
    ↔ (operations_by a l ≡ answer.refused n k tt)
order-not Group count l n k = ((λ e. let z : ◌≡◌ {A = ℕ} 0 1 = cc in absurd (omega arith)), λ e. let z : ◌≡◌ {A = ℕ} 0 1 = cc in absurd (omega arith))
order-not (Refused r) count l n k = (same-told r n k, same-told r n k)

module _ (bytes : List ℕ) where
  -- As many operations as the answer counts.
  counted : length (take (symbol_answer bytes).count (symbol_answer bytes).operations) ≡ (symbol_answer bytes).count
  counted = let (few, slots) = symbol-slots bytes in length-take-le (symbol_answer bytes).count (symbol_answer bytes).operations (omega arith)

  -- The order is the length of the list,
  pub order-told : (n : ℕ) → (order_answer (order_of bytes) ≡ answer.given n)
      ↔ ((operations : List Operation) × (told bytes ≡ answer.given operations) × (length operations ≡ n))
  unfolding told order_of
  order-told n = order-given (symbol_answer bytes).answer (symbol_answer bytes).count _ counted n

  -- or the refusal of the group.
  pub order-refused : (n k : ℕ) → (order_answer (order_of bytes) ≡ answer.refused n k tt) ↔ (told bytes ≡ answer.refused n k tt)
  unfolding told order_of
  order-refused n k = order-not (symbol_answer bytes).answer (symbol_answer bytes).count (take (symbol_answer bytes).count (symbol_answer bytes).operations) n k

-- ---- an operation
module _ (count : ℕ) (slots : List Operation) (fits : count ≤ length slots) (i : ℕ) where
  -- The list has as many operations as are counted,
  long : length (take count slots) ≡ count
  long = length-take-le count slots fits

  -- so an index inside finds one of it,
  operation-given : (a : Answer) (o : Operation) → (operation_answer (operation_by a count slots i) ≡ answer.given o)
      ↔ ((operations : List Operation) × (operations_by a (take count slots) ≡ answer.given operations) × (i < length operations)
      × (get_or operations i identity_operation ≡ o))
  operation-given Group o = elim (dec_lt i count) [
    | yes h ↦ rw (lt-ltb i count h) (
      (λ e. let z : get_or slots i identity_operation ≡ o = cc in (
        take count slots,
        refl,
        omega (arith, long),
        get_or-take count slots i identity_operation h
            ∙ z,
      )),
      λ (operations, e, _, p).
          let z : take count slots ≡ operations = cc in
          ap answer.given (sym (get_or-take count slots i identity_operation h) ∙ ap (λ l. get_or l i identity_operation) z ∙ p),
    )
    | no h ↦ rw (le-ltb i count (omega arith)) (
      (λ e. let z : ◌≡◌ {A = ℕ} 0 1 = cc in absurd (omega arith)),
      λ (operations, e, below, _). let z : take count slots ≡ operations = cc in absurd (omega (arith, long, ap length z)),
    )
  ]
  operation-given (Refused r) o = (
    (λ e. let z : ◌≡◌ {A = ℕ} 0 1 = cc in absurd (omega arith)),
    λ (_, e, _, _). let z : ◌≡◌ {A = ℕ} 0 1 = cc in absurd (omega arith),
  )

  -- an index past it is refused 28,
  operation-past : (a : Answer) → (operation_answer (operation_by a count slots i) ≡ answer.refused 28 0 tt)
      ↔ ((operations : List Operation) × (operations_by a (take count slots) ≡ answer.given operations) × (length operations ≤ i))
  operation-past Group = elim (dec_lt i count) [
    | yes h ↦ rw (lt-ltb i count h) (
      (λ e. let z : ◌≡◌ {A = ℕ} 0 1 = cc in absurd (omega arith)),
      λ (operations, e, past). let z : take count slots ≡ operations = cc in absurd (omega (arith, long, ap length z)),
    )
    | no h ↦ rw (le-ltb i count (omega arith)) ((λ e. (take count slots, refl, omega (arith, long))), λ _. refl)
  ]
  operation-past (Refused r) = ((λ e. absurd (not-past r e)), λ (_, e, _). let z : ◌≡◌ {A = ℕ} 0 1 = cc in absurd (omega arith))

  -- and all else is the refusal of the group.
  operation-not : (a : Answer) (n k : ℕ) → n ≤ 17 → (operation_answer (operation_by a count slots i) ≡ answer.refused n k tt)
      ↔ (operations_by a (take count slots) ≡ answer.refused n k tt)
  operation-not Group n k h = (
    (λ e. absurd (elim (dec_lt i count) [
      | yes b ↦ let f = rw (lt-ltb i count b) at e in let z : ◌≡◌ {A = ℕ} 0 1 = cc in omega arith
      | no b ↦ let f = rw (le-ltb i count (omega arith)) at e in let z : n ≡ 28 = cc in omega arith
    ])),
    λ e. let z : ◌≡◌ {A = ℕ} 0 1 = cc in absurd (omega arith),
  )
  operation-not (Refused r) n k h = (same-told r n k, same-told r n k)

-- ---- a translation
translation-given : (f : Result (Option Operation) Refusal) (d : Doubles) → (translation_answer (translation_of_found f) ≡ answer.given d)
    ↔ ((o : Operation) × (operation_answer f ≡ answer.given o) × (doubles_of o.translation ≡ d))
translation-given (Ok (Some o)) d = (
  (λ e. let z : doubles_of o.translation ≡ d = cc in (o, refl, z)),
  λ (q, e, p). let z : o ≡ q = cc in ap answer.given (ap (λ (o : Operation). doubles_of o.translation) z ∙ p),
)
translation-given (Ok None) d = ((λ e. let z : ◌≡◌ {A = ℕ} 0 1 = cc in absurd (omega arith)), λ (_, e, _). let z : ◌≡◌ {A = ℕ} 0 1 = cc in absurd (omega arith))
translation-given (Err r) d = (
  (λ e. let z : ◌≡◌ {A = ℕ} 0 1 = cc in absurd (omega arith)),
  λ (_, e, _). let z : ◌≡◌ {A = ℕ} 0 1 = cc in absurd (omega arith),
)

translation-not : (f : Result (Option Operation) Refusal) (n k : ℕ)
    → (translation_answer (translation_of_found f) ≡ answer.refused n k tt) ↔ (operation_answer f ≡ answer.refused n k tt)
translation-not (Ok (Some o)) n k = (
  (λ e. let z : ◌≡◌ {A = ℕ} 0 1 = cc in absurd (omega arith)),
  λ e. let z : ◌≡◌ {A = ℕ} 0 1 = cc in absurd (omega arith),
)
translation-not (Ok None) n k = (
  (λ e. let p : 28 ≡ n = cc in let q : 0 ≡ k = cc in ap₂ (λ n k. answer.refused n k tt) p q),
  λ e. let p : 28 ≡ n = cc in let q : 0 ≡ k = cc in ap₂ (λ n k. answer.refused n k tt) p q,
)
translation-not (Err r) n k = (same-told r n k, same-told r n k)

-- ---- by the text
module _ (bytes : List ℕ) (i : ℕ) where
  -- The answer's slots hold what it counts.
  fitting : (symbol_answer bytes).count ≤ length (symbol_answer bytes).operations
  fitting = let (few, slots) = symbol-slots bytes in omega arith

  -- Operation i is given exactly if the list has one at i, and it is that,
  pub operation-told : (o : Operation) → (operation_answer (operation_at bytes i) ≡ answer.given o)
      ↔ ((operations : List Operation) × (told bytes ≡ answer.given operations) × (i < length operations) × (get_or operations i identity_operation ≡ o))
  unfolding told operation_at
  operation-told o = operation-given (symbol_answer bytes).count (symbol_answer bytes).operations fitting i (symbol_answer bytes).answer o

  -- 28 at 0: exactly if the text has a list and it ends at i or before,
  pub twenty-eight-exactly : (operation_answer (operation_at bytes i) ≡ answer.refused 28 0 tt)
      ↔ ((operations : List Operation) × (told bytes ≡ answer.given operations) × (length operations ≤ i))
  unfolding told operation_at
  twenty-eight-exactly = operation-past (symbol_answer bytes).count (symbol_answer bytes).operations fitting i (symbol_answer bytes).answer

  -- and 1 to 17 exactly if the group is refused so.
  pub operation-refused : (n k : ℕ) → n ≤ 17 → (operation_answer (operation_at bytes i) ≡ answer.refused n k tt) ↔ (told bytes ≡ answer.refused n k tt)
  unfolding told operation_at
  operation-refused n k h = operation-not (symbol_answer bytes).count (symbol_answer bytes).operations fitting i (symbol_answer bytes).answer n k h

  -- A translation is that of the operation,
  pub translation-told : (d : Doubles) → (translation_answer (translation_at bytes i) ≡ answer.given d)
      ↔ ((o : Operation) × (operation_answer (operation_at bytes i) ≡ answer.given o) × (doubles_of o.translation ≡ d))
  unfolding translation_at
  translation-told d = translation-given (operation_at bytes i) d

  -- and refused as the operation is, 28 included.
  pub translation-refused : (n k : ℕ) → (translation_answer (translation_at bytes i) ≡ answer.refused n k tt)
      ↔ (operation_answer (operation_at bytes i) ≡ answer.refused n k tt)
  unfolding translation_at
  translation-refused n k = translation-not (operation_at bytes i) n k
