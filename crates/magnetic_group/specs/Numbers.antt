-- The list of a magnetic symbol as numbers: they say the operations that are answered, in their order; and how the answers are put together from them.
use Rattle.std.proofs.Math.Path.{◌≡◌, sym, ap}
use Rattle.std.specs.Prelude.{refl, ℕ, ◌-◌, ◌≤◌, ◌<◌, eqb, get_or, replicate, Err, None, Ok, Result, Some}
use Rattle.std.proofs.Common.{◌∙◌, arith, lt-ltb, le-ltb}
use mathlib.Core.List.{List, map}
use Rattle.std.proofs.Math.Decide.{dec_lt}
use Rattle.std.proofs.Math.ListN.{length, length-map, get_or-append}
use Rattle.group_growth.specs.Verdicts.{Verdict, listed, overgrown, torn, image_verdict, on_growth}
use Rattle.group_growth.specs.Acceptance.{listed-length}
use Rattle.group_growth.specs.Flagged.{Flagged, held, image_flagged}
use Rattle.operation.specs.Product.{identity_operation, operation_of}
use Rattle.operation.specs.declared.Operation.{Operation}
use Rattle.packed_operation.specs.Number.{said_by, flag_of}
use Rattle.centering.specs.declared.Centering.{Centering}
use Rattle.hall_symbol.specs.declared.Answer as text-type
use Rattle.hall_symbol.specs.declared.Answer.TheVariants as text
use Rattle.hall_symbol.specs.declared.refusal.Refusal as reading
use Rattle.space_group.specs.Generated.{first_off}
use Rattle.space_group.specs.Slots.{none-off-digits}
use Rattle.space_group.specs.Traversal.{padded}
use Rattle.space_group.specs.NumberGrowth.{flagged_said, unit_number, number_growth}
use Rattle.laws.specs.Indices.{image-at}
use Rattle.space_group.specs.FlaggedGenerators.{flagged_number}
use Rattle.space_group.specs.FlaggedOutcomes as numbers
use Rattle.space_group.specs.FlaggedOutcomes.{ListOutcome, number_outcome, answer_by, slots_by, plain_of}
use Rattle.space_group.specs.FlaggedSlots.{numbers-off, numbers-grown}
use Rattle.space_group.specs.FlaggedSaid.{numbers-verdict}
use Rattle.space_group.specs.declared.refusal.Refusal.TheVariants.{Lattice}
use Rattle.symbol_group.specs.declared.refusal.Refusal.{Refusal}
use Rattle.symbol_group.specs.declared.refusal.Refusal.TheVariants.{Text, Group as NoGroup}
use Rattle.magnetic_symbol.specs.Answer.{magnetic_answer}
use Rattle.magnetic_symbol.specs.declared.MagneticSymbol.{MagneticSymbol}
use Rattle.magnetic_group.specs.Generated.{flagged_motions, flagged_growth, MagneticOutcome, group, refused, verdict_of, of_verdict, answered, outcome_of}
use Rattle.magnetic_group.specs.Acceptance.{group-listed}
use Rattle.magnetic_group.specs.Symbols.{SymbolOutcome, made, misread, on_symbol, magnetic_outcome}
use Rattle.magnetic_group.specs.Answers.{refused_answer, made_answer, group_by, generators_of, slots_of, order_by, letter_by, beside_flag, operation_by}
use Rattle.magnetic_group.specs.declared.Answer.TheVariants.{Group, Refused}
use Rattle.magnetic_group.specs.declared.MagneticGroup.{MagneticGroup}
use Rattle.space_group.specs.declared.refusal.Refusal.{Refusal as GroupRefusal}

-- ---- what the numbers say
-- The list of an outcome, or its refusal.
abbrev pub list_of : MagneticOutcome → ListOutcome (Flagged Operation)
list_of (group operations steps) = numbers.group operations
list_of (refused r) = numbers.refused r

-- The same, said of images.
abbrev pub image_list : {A B : Type 0} → (A → B) → ListOutcome A → ListOutcome B
image_list f (numbers.group l) = numbers.group (map f l)
image_list f (numbers.refused r) = numbers.refused r

verdict-image : {A : Type 0} (f : A → Flagged Operation) (v : Verdict A) → image_list f (numbers.of_verdict v) ≡ list_of (of_verdict (image_verdict f v))
verdict-image f (listed l steps) = refl
verdict-image f overgrown = refl
verdict-image f torn = refl

module _ (c : Centering) (gens : List (Flagged Operation)) where
  outcome-off : first_off c (plain_of gens) < length (plain_of gens) → outcome_of c gens ≡ refused (Lattice (first_off c (plain_of gens)))
  unfolding outcome_of
  outcome-off h = rw (lt-ltb (first_off c (plain_of gens)) (length (plain_of gens)) h)

  outcome-answered : length (plain_of gens) ≤ first_off c (plain_of gens) → outcome_of c gens ≡ answered (verdict_of c gens)
  unfolding outcome_of
  outcome-answered h = rw (le-ltb (first_off c (plain_of gens)) (length (plain_of gens)) h)

  -- The numbers say what is answered of flagged motions.
  pub numbers-say : image_list flagged_said (number_outcome c gens) ≡ list_of (outcome_of c gens)
  numbers-say = elim (dec_lt (first_off c (plain_of gens)) (length (plain_of gens))) [
    | yes h ↦
        ap (image_list flagged_said) (numbers-off c gens (omega (arith, length-map gens (λ (g : Flagged Operation). g.element)))) ∙ ap list_of
        (sym (outcome-off h))
    | no h ↦
        let all : length (plain_of gens) ≤ first_off c (plain_of gens) = omega arith in
        ap (image_list flagged_said) (numbers-grown c gens (omega (arith, length-map gens (λ (g : Flagged Operation). g.element))))
        ∙ verdict-image flagged_said (on_growth (number_growth c 96 (map flagged_number gens)))
        ∙ ap (λ v. list_of (of_verdict v)) (numbers-verdict c gens (none-off-digits c (plain_of gens) all)) ∙ ap list_of (sym (outcome-answered all))
  ]

  -- There are at most 96.
  outcome-few : (operations : List (Flagged Operation)) (steps : List ℕ) → outcome_of c gens ≡ group operations steps → length operations ≤ 96
  outcome-few operations steps e = elim (dec_lt (first_off c (plain_of gens)) (length (plain_of gens))) [
    | yes h ↦ let both = sym (outcome-off h) ∙ e in let z : ◌≡◌ {A = ℕ} 0 1 = cc in absurd (omega arith)
    | no h ↦
        let all : length (plain_of gens) ≤ first_off c (plain_of gens) = omega arith in
        let (l, q, p) = group-listed (verdict_of c gens) operations steps (sym (outcome-answered all) ∙ e) in
        omega (arith, ap length p, length-map l (image_flagged operation_of), listed-length (flagged_growth c) (flagged_motions gens) 96 l steps q)
  ]

  answer-image : {A B : Type 0} (f : A → B) (o : ListOutcome A) → answer_by (image_list f o) ≡ answer_by o
  answer-image f (numbers.group l) = rw (length-map l f) refl
  answer-image f (numbers.refused r) = refl

  -- So they are as many, or there is the same refusal.
  made-group : (a : Result ℕ GroupRefusal) → a ≡ answer_by (number_outcome c gens) → made_answer c a ≡ group_by (made c (outcome_of c gens))
  made-group a e =
      ap (made_answer c) (e ∙ sym (answer-image flagged_said (number_outcome c gens)) ∙ ap answer_by numbers-say) ∙ by-outcome (outcome_of c gens)
    where
      by-outcome : (o : MagneticOutcome) → made_answer c (answer_by (list_of o)) ≡ group_by (made c o)
      by-outcome (group operations steps) = refl
      by-outcome (refused r) = refl

-- ---- the group of a text
module _ (bytes : List ℕ) (m : MagneticSymbol) (e : m ≡ magnetic_answer bytes) where
  outcome-is : magnetic_outcome bytes ≡ on_symbol m.symbol.answer m
  unfolding magnetic_outcome
  outcome-is = ap (λ (m : MagneticSymbol). on_symbol m.symbol.answer m) (sym e)

  -- It is no symbol,
  pub list-misread : (r : reading.Refusal) → m.symbol.answer ≡ text.Refused r → refused_answer (Text r) ≡ group_by (magnetic_outcome bytes)
  list-misread r a = sym (ap group_by (outcome-is ∙ ap (λ t. on_symbol t m) a))

  -- or it is one.
  pub list-made : m.symbol.answer ≡ text.Symbol → (answer : Result ℕ GroupRefusal) → answer ≡ answer_by (number_outcome m.symbol.centering (generators_of m))
      → made_answer m.symbol.centering answer ≡ group_by (magnetic_outcome bytes)
  list-made a answer told = made-group m.symbol.centering (generators_of m) answer told ∙ sym (ap group_by (outcome-is ∙ ap (λ t. on_symbol t m) a))

  pub list-slots : (slots : List ℕ) → slots ≡ slots_by (number_outcome m.symbol.centering (generators_of m)) → slots ≡ slots_of bytes
  unfolding slots_of
  list-slots slots h = h ∙ ap (λ (m : MagneticSymbol). slots_by (number_outcome m.symbol.centering (generators_of m))) e

-- ---- order and letter
module _ (bytes : List ℕ) (g : MagneticGroup) (e : g ≡ group_by (magnetic_outcome bytes)) where
  order-by : (o : SymbolOutcome) → g ≡ group_by o → g.answer ≡ Group → (Ok g.count ≡ order_by o) × (Ok g.centering ≡ letter_by o)
  order-by (made c (group operations steps)) p a = (ap (λ (g : MagneticGroup). Ok g.count) p, ap (λ (g : MagneticGroup). Ok g.centering) p)
  order-by (made c (refused r)) p a = let b = sym (ap (λ (g : MagneticGroup). g.answer) p) ∙ a in let z : ◌≡◌ {A = ℕ} 0 1 = cc in absurd (omega arith)
  order-by (misread r) p a = let b = sym (ap (λ (g : MagneticGroup). g.answer) p) ∙ a in let z : ◌≡◌ {A = ℕ} 0 1 = cc in absurd (omega arith)

  refused-by : (o : SymbolOutcome) → g ≡ group_by o → (r : Refusal) → g.answer ≡ Refused r
      → (Err r ≡ order_by o) × (Err r ≡ letter_by o) × ((i : ℕ) → Err r ≡ operation_by o i)
  refused-by (made c (group operations steps)) p r a =
      let b = sym (ap (λ (g : MagneticGroup). g.answer) p) ∙ a in let z : ◌≡◌ {A = ℕ} 0 1 = cc in absurd (omega arith)
  refused-by (made c (refused q)) p r a =
      let b = sym (ap (λ (g : MagneticGroup). g.answer) p) ∙ a in
      let z : NoGroup q ≡ r = cc in
      (ap Err (sym z), ap Err (sym z), λ i. ap Err (sym z))
  refused-by (misread q) p r a =
      let b = sym (ap (λ (g : MagneticGroup). g.answer) p) ∙ a in
      let z : Text q ≡ r = cc in
      (ap Err (sym z), ap Err (sym z), λ i. ap Err (sym z))

  pub order-given : g.answer ≡ Group → Ok g.count ≡ order_by (magnetic_outcome bytes)
  order-given a = (order-by (magnetic_outcome bytes) e a).0

  pub letter-given : g.answer ≡ Group → Ok g.centering ≡ letter_by (magnetic_outcome bytes)
  letter-given a = (order-by (magnetic_outcome bytes) e a).1

  module _ (r : Refusal) (a : g.answer ≡ Refused r) where
    pub order-refused : Err r ≡ order_by (magnetic_outcome bytes)
    order-refused = (refused-by (magnetic_outcome bytes) e r a).0

    pub letter-refused : Err r ≡ letter_by (magnetic_outcome bytes)
    letter-refused = (refused-by (magnetic_outcome bytes) e r a).1

    pub operation-refused : (i : ℕ) → Err r ≡ operation_by (magnetic_outcome bytes) i
    operation-refused = (refused-by (magnetic_outcome bytes) e r a).2

-- ---- the operations
-- A list in slots: its numbers say the operations that are answered, and behind them stands the identity.
pub record Listed (bytes : List ℕ) (count : ℕ) (slots : List ℕ) : Type 0 where
  pub letter : Centering
  pub operations : List (Flagged Operation)
  pub steps : List ℕ
  pub outcome : magnetic_outcome bytes ≡ made letter (group operations steps)
  pub found : List ℕ
  pub said : operations ≡ map flagged_said found
  pub stands : slots ≡ padded 96 unit_number found
  pub counted : count ≡ length found
  pub few : count ≤ 96

-- The slots of a text with a group hold it.
module _ (bytes : List ℕ) (g : MagneticGroup) (slots : List ℕ) (a : g.answer ≡ Group) where
  abbrev read : MagneticSymbol
  read = magnetic_answer bytes

  abbrev c : Centering
  c = read.symbol.centering

  never : (r : Refusal) → g ≡ refused_answer r → Listed bytes g.count slots
  never r p = let b = sym (ap (λ (g : MagneticGroup). g.answer) p) ∙ a in let z : ◌≡◌ {A = ℕ} 0 1 = cc in absurd (omega arith)

  by-list : (o : ListOutcome ℕ) → number_outcome c (generators_of read) ≡ o → (q : MagneticOutcome) → outcome_of c (generators_of read) ≡ q
      → image_list flagged_said o ≡ list_of q → magnetic_outcome bytes ≡ made c q → slots ≡ slots_of bytes → g ≡ group_by (made c q)
      → Listed bytes g.count slots
  unfolding slots_of
  by-list (numbers.group l) n (group operations steps) k p is h e =
      let z : map flagged_said l ≡ operations = cc in
      let counted = ap (λ (g : MagneticGroup). g.count) e in
      record {
        letter = c;
        operations = operations;
        steps = steps;
        outcome = is;
        found = l;
        said = sym z;
        stands = h ∙ ap slots_by n;
        counted = counted ∙ ap length (sym z) ∙ length-map l flagged_said;
        few = omega (arith, counted, outcome-few c (generators_of read) operations steps k);
      }
  by-list (numbers.refused r) n (group operations steps) k p is h e = let z : ◌≡◌ {A = ℕ} 0 1 = cc in absurd (omega arith)
  by-list o n (refused r) k p is h e = never (NoGroup r) e

  by-text : (t : text-type.Answer) → read.symbol.answer ≡ t → g ≡ group_by (magnetic_outcome bytes) → slots ≡ slots_of bytes → Listed bytes g.count slots
  by-text text.Symbol t e h =
      let is = outcome-is bytes read refl ∙ ap (λ t. on_symbol t read) t in
      by-list (number_outcome c (generators_of read)) refl (outcome_of c (generators_of read)) refl (numbers-say c (generators_of read)) is h
      (e ∙ ap group_by is)
  by-text (text.Refused r) t e h = never (Text r) (e ∙ ap group_by (outcome-is bytes read refl ∙ ap (λ t. on_symbol t read) t))

  pub slots-listed : g ≡ group_by (magnetic_outcome bytes) → slots ≡ slots_of bytes → Listed bytes g.count slots
  slots-listed = by-text read.symbol.answer refl

module _ (bytes : List ℕ) (count : ℕ) (slots : List ℕ) (L : Listed bytes count slots) where
  -- None is answered past the end,
  pub operation-past : (i : ℕ) → count ≤ i → Ok None ≡ operation_by (magnetic_outcome bytes) i
  operation-past i h =
      let long : length L.operations ≤ i = omega (arith, ap length L.said, length-map L.found flagged_said, L.counted) in
      rw (L.outcome, le-ltb i (length L.operations) long) refl

  -- and before it those that the numbers say.
  pub operation-given : (i d : ℕ) → i < count → (o : Operation) → o ≡ said_by (get_or slots i d) → (bit : ℕ) → bit ≡ flag_of (get_or slots i d)
      → Ok (Some (record { operation = o; flag = eqb bit 1 })) ≡ operation_by (magnetic_outcome bytes) i
  operation-given i d h o said bit flag =
      let inside : i < length L.found = omega (arith, L.counted) in
      let long : i < length L.operations = omega (arith, ap length L.said, length-map L.found flagged_said, L.counted) in
      let slot : get_or slots i d ≡ get_or L.found i d =
      ap (λ l. get_or l i d) L.stands ∙ get_or-append L.found (replicate (96 - length L.found) unit_number) d i inside in
      let own : get_or L.operations i (held identity_operation) ≡ flagged_said (get_or L.found i d) =
      ap (λ l. get_or l i (held identity_operation)) L.said ∙ image-at flagged_said L.found i d (held identity_operation) inside in
      let first = said ∙ ap said_by slot in
      let second = ap (λ b. eqb b 1) (flag ∙ ap flag_of slot) in
      (λ k. Ok (Some (record { operation = first k; flag = second k }))) ∙ ap (λ f. Ok (Some (beside_flag f))) (sym own)
      ∙ sym (rw (L.outcome, lt-ltb i (length L.operations) long) refl)
