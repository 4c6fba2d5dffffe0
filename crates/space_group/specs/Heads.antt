-- An answer but for its slots, and what the slots then hold: the operations as numbers, and the indices.
use Rattle.std.specs.Prelude.{◌≡◌, refl, Bool, true, false, List, [], ◌++◌, map, ℕ, ◌≤◌, length, take, drop, replicate, Result, Ok, Err, is_err}
use Rattle.std.specs.Result.{result_unwrap_or}
use Rattle.std.proofs.Common.{sym, ◌∙◌, ap, ap₂, subst, arith, take_at}
use Rattle.std.proofs.lemmas.Bool.{false≢true}
use Rattle.std.proofs.Math.Decide.{dec_lt}
use Rattle.std.proofs.Math.Option
use Rattle.std.proofs.Math.Option.{Option, some, none}
use Rattle.std.proofs.lemmas.List.{length-map}
use Rattle.laws.specs.Growth.{Growth, image_growth}
use Rattle.group_growth.specs.Verdicts.{on_growth}
use Rattle.operation.specs.Product.{identity_operation}
use Rattle.operation.specs.declared.Operation.{Operation}
use Rattle.packed_operation.specs.Number.{said_by}
use Rattle.centering.specs.declared.Centering.{Centering}
use Rattle.centering.specs.declared.Centering.TheVariants.{P}
use Rattle.space_group.specs.Generated.{first_off, Outcome, group, refused, of_verdict, outcome_of}
use Rattle.space_group.specs.Traversal.{padded}
use Rattle.space_group.specs.NumberGrowth.{unit_number, number_growth, generator_number, growth-numbers}
use Rattle.space_group.specs.NumberSlots.{of_growth, Lists, front-padded, held-front}
use Rattle.space_group.specs.Listings.{numbers_listing, listing-off, listing-grown}
use Rattle.space_group.specs.Slots.{answer_of, group_answer, none-off-digits, outcome-off, outcome-growth}
use Rattle.space_group.specs.declared.refusal.Refusal.{Refusal}
use Rattle.space_group.specs.declared.refusal.Refusal.TheVariants.{Rotations, Translations}
use Rattle.space_group.specs.declared.Answer.TheVariants.{Group, Refused}
use Rattle.space_group.specs.declared.SpaceGroup.{SpaceGroup}
use Rattle.space_group.specs.declared.group.Head.{Head}

abbrev pub refused_head : Refusal → Head
refused_head r = record { answer = Refused r; centering = P; count = 0; generators = 0 }

abbrev pub head_of : Centering → ℕ → Outcome → Head
head_of c n (group operations steps) = record { answer = Group; centering = c; count = length operations; generators = n }
head_of c n (refused r) = refused_head r

abbrev pub operations_of : Outcome → List Operation
operations_of (group operations steps) = operations
operations_of (refused r) = []

abbrev pub steps_of : Outcome → List ℕ
steps_of (group operations steps) = steps
steps_of (refused r) = []

-- The head of what was listed.
abbrev pub head_by : Centering → ℕ → Result ℕ Refusal → Head
head_by c n (Ok count) = record { answer = Group; centering = c; count = count; generators = n }
head_by c n (Err r) = refused_head r

-- How many operations there are, or why there are none.
abbrev pub count_of : Outcome → Result ℕ Refusal
count_of (group operations steps) = Ok (length operations)
count_of (refused r) = Err r

pub record Laid (o : Outcome) (ended : Result ℕ Refusal) (numbers steps : List ℕ) : Type 0 where
  pub told : ended ≡ count_of o
  pub few : result_unwrap_or ended 0 ≤ 48
  pub said : map said_by (take (result_unwrap_or ended 0) numbers) ≡ operations_of o
  pub noted : steps ≡ padded 432 0 (steps_of o)

head-count : (c : Centering) (n : ℕ) (ended : Result ℕ Refusal) → (head_by c n ended).count ≡ result_unwrap_or ended 0
head-count c n (Ok count) = refl
head-count c n (Err r) = refl

head-outcome : (c : Centering) (n : ℕ) (o : Outcome) → head_by c n (count_of o) ≡ head_of c n o
head-outcome c n (group operations steps) = refl
head-outcome c n (refused r) = refl

-- The list fits the slots.
pub head-few : (c : Centering) (n : ℕ) (o : Outcome) (ended : Result ℕ Refusal) (numbers steps : List ℕ) → Laid o ended numbers steps
    → (head : Head) → head ≡ head_by c n ended → head.count ≤ 48
head-few c n o ended numbers steps L head h = rw (h, head-count c n ended) L.few

-- The answer is the head with its slots.
pub answer-laid : (c : Centering) (n : ℕ) (o : Outcome) (ended : Result ℕ Refusal) (numbers steps : List ℕ) → Laid o ended numbers steps
    → (head : Head) → head ≡ head_by c n ended
    → (operations : List Operation) → operations ≡ map said_by (take head.count numbers) ++ drop head.count (replicate 48 identity_operation)
    → ◌≡◌ {A = SpaceGroup}
    (record { answer = head.answer; centering = head.centering; count = head.count; operations = operations; generators = head.generators; steps = steps })
    (answer_of c n o)
answer-laid c n o ended numbers steps L head made operations laid =
    by_outcome o (made ∙ ap (head_by c n) L.told ∙ head-outcome c n o) (rw (made, head-count c n ended) L.said) L.noted
  where
    by_outcome : (o : Outcome) → head ≡ head_of c n o → map said_by (take head.count numbers) ≡ operations_of o → steps ≡ padded 432 0 (steps_of o)
        → ◌≡◌ {A = SpaceGroup}
        (record { answer = head.answer; centering = head.centering; count = head.count; operations = operations; generators = head.generators; steps = steps })
        (answer_of c n o)
    by_outcome (group listed places) h said noted =
        let list : operations ≡ padded 48 identity_operation listed =
        laid ∙ ap (λ l. l ++ drop head.count (replicate 48 identity_operation)) said
        ∙ front-padded head.count 48 identity_operation listed (ap (λ (h : Head). h.count) h) in
        λ i. record {
          answer = (h i).answer;
          centering = (h i).centering;
          count = (h i).count;
          operations = list i;
          generators = (h i).generators;
          steps = noted i;
        }
    by_outcome (refused r) h said noted =
        let list : operations ≡ padded 48 identity_operation [] =
        laid ∙ ap (λ l. l ++ drop head.count (replicate 48 identity_operation)) said
        ∙ front-padded head.count 48 identity_operation [] (ap (λ (h : Head). h.count) h) in
        λ i. record {
          answer = (h i).answer;
          centering = (h i).centering;
          count = (h i).count;
          operations = list i;
          generators = (h i).generators;
          steps = noted i;
        }

-- As many generators as there are.
pub answer-group : (c : Centering) (n : ℕ) (gens : List Operation) → n ≡ length gens → answer_of c n (outcome_of c gens) ≡ group_answer c gens
unfolding group_answer
answer-group c n gens e = ap (λ (m : ℕ). answer_of c m (outcome_of c gens)) e

-- ---- what the growth of the numbers comes to
module _ (c : Centering) (gens : List Operation) (h : length gens ≤ first_off c gens) where
  abbrev pub numbers_grown : Option (Growth ℕ)
  numbers_grown = number_growth c 48 (map generator_number gens)

  by-numbers : (o : Option (Growth ℕ)) → numbers_grown ≡ o → outcome_of c gens ≡ of_verdict (on_growth (Option.map (image_growth said_by) o))
  by-numbers o e =
      outcome-growth c gens h ∙ ap (λ p. of_verdict (on_growth p)) (growth-numbers c gens (none-off-digits c gens h) ∙ ap (Option.map (image_growth said_by)) e)

  pub numbers-unbounded : numbers_grown ≡ none → outcome_of c gens ≡ refused Rotations
  numbers-unbounded e = by-numbers none e

  pub numbers-torn : (s : Growth ℕ) → numbers_grown ≡ some s → s.steady ≡ false → outcome_of c gens ≡ refused Translations
  numbers-torn s e t = by-numbers (some s) e ∙ rw t

  pub numbers-group : (s : Growth ℕ) → numbers_grown ≡ some s → s.steady ≡ true → outcome_of c gens ≡ group (map said_by s.found) s.steps
  numbers-group s e t = by-numbers (some s) e ∙ rw t

-- ---- what is laid
-- What is answered of a list of numbers.
abbrev pub outcome_by : Result (Growth ℕ) Refusal → Outcome
outcome_by (Ok s) = group (map said_by s.found) s.steps
outcome_by (Err r) = refused r

module _ (c : Centering) (gens : List Operation) where
  grown-says : length gens ≤ first_off c gens → (o : Option (Growth ℕ)) → number_growth c 48 (map generator_number gens) ≡ o
      → outcome_of c gens ≡ outcome_by (of_growth o)
  grown-says h none e = numbers-unbounded c gens h e
  grown-says h (some s) e = by-test s.steady refl
    where
      by-test : (b : Bool) → s.steady ≡ b → outcome_of c gens ≡ outcome_by (of_growth (some s))
      by-test true t = rw t (numbers-group c gens h s e t)
      by-test false t = rw t (numbers-torn c gens h s e t)

  pub listing-says : outcome_of c gens ≡ outcome_by (numbers_listing c 48 gens (map generator_number gens))
  listing-says = elim (dec_lt (first_off c gens) (length gens)) [
    | yes h ↦ outcome-off c gens h ∙ sym (ap outcome_by (listing-off c 48 gens (map generator_number gens) h))
    | no h ↦
        let low : length gens ≤ first_off c gens = omega arith in
        grown-says low (number_growth c 48 (map generator_number gens)) refl ∙ sym (ap outcome_by (listing-grown c 48 gens (map generator_number gens) low))
  ]

module _ (o : Result (Growth ℕ) Refusal) (ended : Result ℕ Refusal) (before numbers noughts steps : List ℕ)
    (E : Lists o ended before numbers noughts steps) (slots : before ≡ replicate 48 unit_number) (clear : noughts ≡ replicate 432 0) where
  -- A refusal, the indices cleared.
  pub laid-refused : is_err ended ≡ true → (left : List ℕ) → left ≡ replicate 432 0 → Laid (outcome_by o) ended numbers left
  laid-refused t left noted = by_answer o E
    where
      by_answer : (o : Result (Growth ℕ) Refusal) → Lists o ended before numbers noughts steps → Laid (outcome_by o) ended numbers left
      by_answer (Ok s) e = absurd (false≢true (ap is_err (sym e.0) ∙ t))
      by_answer (Err r) e = rw e (record { told = refl; few = omega arith; said = refl; noted = noted })

  -- A group.
  pub laid-group : is_err ended ≡ false → Laid (outcome_by o) ended numbers steps
  laid-group t = by_answer o E
    where
      by_answer : (o : Result (Growth ℕ) Refusal) → Lists o ended before numbers noughts steps → Laid (outcome_by o) ended numbers steps
      by_answer (Ok s) e =
          let long : length before ≡ 48 = ap length slots in
          rw e.0 (record {
            told = ap (λ (n : ℕ). Ok n) (sym (length-map s.found said_by));
            few = omega (arith, e.1.few);
            said = ap (map said_by) (held-front s ended before numbers noughts steps e.1);
            noted = e.1.noted ∙ ap (λ l. s.steps ++ drop (length s.steps) l) clear ∙ front-padded (length s.steps) 432 0 s.steps refl;
          })
      by_answer (Err r) e = absurd (false≢true (sym t ∙ ap is_err e))

module _ (c : Centering) (gens : List Operation) (factors : List ℕ) (made : factors ≡ map generator_number gens ++ drop (length gens) (replicate 9 0))
    (ended : Result ℕ Refusal) (before numbers noughts steps : List ℕ)
    (E : Lists (numbers_listing c (length before) gens (take (length gens) factors)) ended before numbers noughts steps)
    (slots : before ≡ replicate 48 unit_number) (clear : noughts ≡ replicate 432 0) where
  abbrev list : Result (Growth ℕ) Refusal
  list = numbers_listing c (length before) gens (take (length gens) factors)

  says : outcome_by list ≡ outcome_of c gens
  says =
      let front = ap (take (length gens)) made
      ∙ take_at (map generator_number gens) (drop (length gens) (replicate 9 0)) (length gens) (length-map gens generator_number) in
      ap₂ (λ (w : ℕ) (l : List ℕ). outcome_by (numbers_listing c w gens l)) (ap length slots) front ∙ sym (listing-says c gens)

  pub refused-answer : is_err ended ≡ true → (left : List ℕ) → left ≡ replicate 432 0 → Laid (outcome_of c gens) ended numbers left
  refused-answer t left noted =
      subst (λ o. Laid o ended numbers left) says (laid-refused list ended before numbers noughts steps E slots clear t left noted)

  pub group-answer : is_err ended ≡ false → Laid (outcome_of c gens) ended numbers steps
  group-answer t = subst (λ o. Laid o ended numbers steps) says (laid-group list ended before numbers noughts steps E slots clear t)
