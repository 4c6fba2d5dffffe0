-- What is answered for a layer symbol's text, by number and place: a list exactly if the text spells a layer symbol that is accepted and every motion of its set
-- is one of a layer; 19 exactly at the first listed operation that is none; every other refusal exactly as for the text with its capital letter.
use Rattle.std.specs.Prelude.{◌≡◌, refl, ◌↔◌, Bool, true, false, cond, ℕ, zero, suc, ◌≤◌, ◌<◌, ltb, get_or, take}
use Rattle.std.proofs.Common.{sym, ◌∙◌, ap, subst, arith, length-take-le, lt-ltb, le-ltb, ltb-true, ltb-false}
use mathlib.Core.List.Memᴰ.{head as here}
use mathlib.Core.List.Memᴰ.{tail as there}
use mathlib.Core.List.{List, [], ◌∷◌, Memᴰ as Mem}
use Rattle.std.proofs.Math.ListN.{length}
use Rattle.laws.specs.Motion.{SpaceMotion}
use Rattle.laws.specs.MotionsModulo.{motions-keyed}
use Rattle.laws.specs.Truth.{clash}
use Rattle.laws.specs.Indices.{member-at}
use Rattle.operation.specs.Answer as answer
use Rattle.operation.specs.Meaning.{motion_of, Digits}
use Rattle.operation.specs.Entries.{digits-entries}
use Rattle.operation.specs.Product.{identity_operation}
use Rattle.operation.specs.declared.Operation.{Operation}
use Rattle.centering.specs.Letters.{points_of}
use Rattle.centering.specs.Lattices.{points}
use Rattle.centering.specs.declared.Centering.{Centering}
use Rattle.hall_symbol.specs.Reader.{symbol, refusal}
use Rattle.hall_symbol.specs.Spelling.{Spells}
use Rattle.hall_symbol.specs.Agreement.{symbol-exactly, refusal-exactly}
use Rattle.hall_symbol.specs.declared.refusal.Refusal as text-refusal
use Rattle.hall_symbol.specs.declared.refusal.Refusal.TheVariants as text-variants
use Rattle.space_group.specs.Generated.{AllKeep, FewRotations, SmallRotations, OneTranslation, refused, outcome_of}
use Rattle.space_group.specs.Refusals as generator-numbers
use Rattle.space_group.specs.declared.refusal.Refusal as generators
use Rattle.space_group_theorems.specs.Acceptance.{Accepted}
use Rattle.space_group_theorems.specs.Members.{rotation-generated, translation-below}
use Rattle.space_group_theorems.specs.SetOfMotions.{InGeneratedSet, set-exactly}
use Rattle.symbol_group.specs.Answers.{symbol_answer}
use Rattle.symbol_group.specs.Answers as plain
use Rattle.symbol_group.specs.Slots.{symbol-slots}
use Rattle.symbol_group.specs.AcceptedTexts.{accepted-text}
use Rattle.symbol_group.specs.Exactly.{group-exactly, text-exactly, generators-refused}
use Rattle.symbol_group.specs.Refusals as plain-numbers
use Rattle.symbol_group.specs.Told as plain-told
use Rattle.symbol_group.specs.declared.refusal.Refusal as plain-refusal
use Rattle.symbol_group.specs.declared.refusal.Refusal.TheVariants.{Text, Group as NoGroup}
use Rattle.symbol_group.specs.declared.SymbolGroup.{SymbolGroup}
use Rattle.symbol_group.specs.declared.Answer as plain-answers
use Rattle.symbol_group.specs.declared.Answer.TheVariants as plain-answer
use Rattle.layer_group.specs.Capitals.{capitalised}
use Rattle.layer_group.specs.Layers.{LayerMotion, is_layer, front}
use Rattle.layer_group.specs.Motions.{test-exactly, alike-layer}
use Rattle.layer_group.specs.Spelling.{OfLayer, LayerSpells, LayerRefuses, LayerWrong, layer-reads, layer-letter}
use Rattle.layer_group.specs.Answers.{refused_answer, layered_by, layer_answer, operations_answer}
use Rattle.layer_group.specs.declared.refusal.Refusal.TheVariants.{NoLayer}
use Rattle.layer_group.specs.declared.Answer.TheVariants.{Group}
use Rattle.layer_group.specs.declared.LayerGroup.{LayerGroup}

-- What a layer symbol's text is told: its operations in list order, or number and place.
unfoldable pub told : List ℕ → answer.Answer (List Operation) answer.Nothing
told text = operations_answer (layer_answer text)

-- ---- the front of a list
front-within : (l : List Operation) → front l ≤ length l
unfolding front
front-within [] = omega arith
front-within (o ∷ l) = go (is_layer o) (front-within l)
  where
    go : (x : Bool) → front l ≤ length l → cond x (suc (front l)) zero ≤ suc (length l)
    go true h = omega arith
    go false h = omega arith

-- All pass where it is the whole,
front-all : (l : List Operation) → length l ≤ front l → (o : Operation) → Mem o l → is_layer o ≡ true
unfolding front
front-all (p ∷ l) h o m = go (is_layer p) refl h m (λ k. front-all l k o)
  where
    go : (x : Bool) → is_layer p ≡ x → suc (length l) ≤ cond x (suc (front l)) zero → Mem o (p ∷ l) → (length l ≤ front l → Mem o l → is_layer o ≡ true)
        → is_layer o ≡ true
    go true e h (here q) later = ap is_layer q ∙ e
    go true e h (there m) later = later (omega arith) m
    go false e h m later = absurd (omega arith)
front-all [] h o m = elim m [ ]

all-front : (l : List Operation) → ((o : Operation) → Mem o l → is_layer o ≡ true) → length l ≤ front l
unfolding front
all-front [] h = omega arith
all-front (p ∷ l) h = let later = all-front l (λ o m. h o (there m)) in rw (h p (here refl)) (omega arith)

-- and else it ends at the first that does not.
pub record FirstNot (l : List Operation) (i : ℕ) : Type 0 where
  pub within : i < length l
  pub off : is_layer (get_or l i identity_operation) ≡ false
  pub before : (j : ℕ) → j < i → is_layer (get_or l j identity_operation) ≡ true

front-first : (l : List Operation) → front l < length l → FirstNot l (front l)
unfolding front
front-first [] h = absurd (omega arith)
front-first (p ∷ l) h = go (is_layer p) refl h (front-first l)
  where
    go : (x : Bool) → is_layer p ≡ x → cond x (suc (front l)) zero < suc (length l) → (front l < length l → FirstNot l (front l))
        → FirstNot (p ∷ l) (cond x (suc (front l)) zero)
    go true e h later = let F = later (omega arith) in record { within = h; off = F.off; before = each F }
      where
        each : FirstNot l (front l) → (j : ℕ) → j < suc (front l) → is_layer (get_or (p ∷ l) j identity_operation) ≡ true
        each F zero k = e
        each F (suc j) k = F.before j (omega arith)
    go false e h later = record { within = h; off = e; before = λ j k. absurd (omega arith) }

first-front : (l : List Operation) (i : ℕ) → FirstNot l i → front l ≡ i
unfolding front
first-front [] i F = absurd (omega (arith, F.within))
first-front (p ∷ l) zero F = rw F.off refl
first-front (p ∷ l) (suc i) F =
    let later = first-front l i (record { within = omega (arith, F.within); off = F.off; before = λ j k. F.before (suc j) (omega arith) }) in
    rw (F.before 0 (omega arith)) (ap suc later)

-- ---- by the plain symbol's answer
-- The list where all pass, 19 where one does not, and every refusal as it was.
abbrev by_test : Bool → List Operation → answer.Answer (List Operation) answer.Nothing
by_test x l = cond x (answer.refused 19 (front l) tt) (answer.given l)

abbrev listed : plain-answers.Answer → List Operation → answer.Answer (List Operation) answer.Nothing
listed plain-answer.Group l = by_test (ltb (front l) (length l)) l
listed (plain-answer.Refused r) l = answer.refused (plain-numbers.number_of r) (plain-numbers.place_of r) tt

by_answer : (a : plain-answers.Answer) (c : Centering) (n : ℕ) (operations : List Operation) → n ≤ length operations
    → operations_answer (layered_by a c n operations) ≡ listed a (take n operations)
by_answer plain-answer.Group c n operations h =
    let long : length (take n operations) ≡ n = length-take-le n operations h in
    rw long (go (ltb (front (take n operations)) n))
  where
    go : (x : Bool) → operations_answer (cond x (refused_answer (NoLayer (front (take n operations))))
        (record { answer = Group; centering = c; count = n; operations = operations })) ≡ by_test x (take n operations)
    go true = refl
    go false = refl
by_answer (plain-answer.Refused r) c n operations h = refl

module _ (text : List ℕ) where
  abbrev g : SymbolGroup
  g = symbol_answer (capitalised text)

  told-listed : told text ≡ listed g.answer (take g.count g.operations)
  unfolding told layer_answer
  told-listed =
      let s = symbol-slots (capitalised text) in
      by_answer g.answer g.centering g.count g.operations (omega arith)

-- The plain symbol's answer in the same way.
given_by : (a : plain-answers.Answer) (l operations : List Operation) → (listed a l ≡ answer.given operations) ↔
    ((a ≡ plain-answer.Group) × (length l ≤ front l) × (l ≡ operations))
given_by plain-answer.Group l operations = (forth (ltb (front l) (length l)) refl, λ (_, h, e). rw (le-ltb (front l) (length l) h) (ap answer.given e))
  where
    forth : (x : Bool) → ltb (front l) (length l) ≡ x → by_test x l ≡ answer.given operations → (plain-answer.Group ≡ plain-answer.Group)
        × (length l ≤ front l) × (l ≡ operations)
    forth true p e = let z : ◌≡◌ {A = ℕ} 0 1 = cc in absurd (omega arith)
    forth false p e = (refl, ltb-false (front l) (length l) p, cc)
given_by (plain-answer.Refused r) l operations = (
  (λ e. let z : ◌≡◌ {A = ℕ} 0 1 = cc in absurd (omega arith)),
  λ (e, _, _). let z : ◌≡◌ {A = ℕ} 0 1 = cc in absurd (omega arith),
)

-- 19 at i,
nineteen-by : (a : plain-answers.Answer) (l : List Operation) (i : ℕ) → (listed a l ≡ answer.refused 19 i tt) ↔
    ((a ≡ plain-answer.Group) × (front l < length l) × (front l ≡ i))
nineteen-by plain-answer.Group l i = (
  forth (ltb (front l) (length l)) refl,
  λ (_, h, e). rw (lt-ltb (front l) (length l) h) (ap (λ k. answer.refused 19 k tt) e),
)
  where
    forth : (x : Bool) → ltb (front l) (length l) ≡ x → by_test x l ≡ answer.refused 19 i tt → (plain-answer.Group ≡ plain-answer.Group) × (front l < length l)
        × (front l ≡ i)
    forth true p e = (refl, ltb-true (front l) (length l) p, cc)
    forth false p e = let z : ◌≡◌ {A = ℕ} 0 1 = cc in absurd (omega arith)
nineteen-by (plain-answer.Refused r) l i = (
  (λ e. let z : plain-numbers.number_of r ≡ 19 = cc in absurd (omega (arith, plain-told.number-limit r))),
  λ (e, _, _). let z : ◌≡◌ {A = ℕ} 0 1 = cc in absurd (omega arith),
)

-- and any other number.
other-by : (a : plain-answers.Answer) (l : List Operation) (n k : ℕ) → n ≤ 17
    → (listed a l ≡ answer.refused n k tt) ↔ (plain.operations_by a l ≡ answer.refused n k tt)
other-by plain-answer.Group l n k h = (forth (ltb (front l) (length l)), λ e. let z : ◌≡◌ {A = ℕ} 0 1 = cc in absurd (omega arith))
  where
    forth : (x : Bool) → by_test x l ≡ answer.refused n k tt → plain.operations_by plain-answer.Group l ≡ answer.refused n k tt
    forth true e = let z : 19 ≡ n = cc in absurd (omega arith)
    forth false e = e
other-by (plain-answer.Refused r) l n k h = ((λ e. e), λ e. e)

-- The plain symbol's answer in numbers.
plain-given : (a : plain-answers.Answer) (l operations : List Operation)
    → (plain.operations_by a l ≡ answer.given operations) ↔ ((a ≡ plain-answer.Group) × (l ≡ operations))
plain-given plain-answer.Group l operations = ((λ e. (refl, cc)), λ (_, p). ap answer.given p)
plain-given (plain-answer.Refused r) l operations = (
  (λ e. let z : ◌≡◌ {A = ℕ} 0 1 = cc in absurd (omega arith)),
  λ (e, _). let z : ◌≡◌ {A = ℕ} 0 1 = cc in absurd (omega arith),
)

same-refusal : {A : Type 0} (r s : plain-refusal.Refusal)
    → ◌≡◌ {A = answer.Answer A answer.Nothing} (answer.refused (plain-numbers.number_of r) (plain-numbers.place_of r) tt)
    (answer.refused (plain-numbers.number_of s) (plain-numbers.place_of s) tt)
    → r ≡ s
same-refusal r s e =
    let p : plain-numbers.number_of r ≡ plain-numbers.number_of s = cc in
    let q : plain-numbers.place_of r ≡ plain-numbers.place_of s = cc in
    plain-told.told-once r s p q

plain-refused : (a : plain-answers.Answer) (l : List Operation) (r : plain-refusal.Refusal)
    → (plain.operations_by a l ≡ answer.refused (plain-numbers.number_of r) (plain-numbers.place_of r) tt) ↔ (a ≡ plain-answer.Refused r)
plain-refused plain-answer.Group l r = ((λ e. let z : ◌≡◌ {A = ℕ} 0 1 = cc in absurd (omega arith)), λ e. let z : ◌≡◌ {A = ℕ} 0 1 = cc in absurd (omega arith))
plain-refused (plain-answer.Refused q) l r = (
  (λ e. ap plain-answer.Refused (same-refusal q r e)),
  λ e. let z : q ≡ r = cc in ap (λ r. answer.refused (plain-numbers.number_of r) (plain-numbers.place_of r) tt) z,
)

-- ---- the set of motions
-- The listed operation at i is the first whose motion is none of a layer.
pub record FirstOff (operations : List Operation) (i : ℕ) : Type 0 where
  pub within : i < length operations
  pub off : ¬ LayerMotion (motion_of (get_or operations i identity_operation))
  pub before : (j : ℕ) → j < i → LayerMotion (motion_of (get_or operations j identity_operation))

module _ (c : Centering) (gens operations : List Operation) (steps : List ℕ) (A : Accepted c gens operations steps) where
  -- The test of a listed operation is the rule for its motion.
  pub listed-exactly : (o : Operation) → Mem o operations → (is_layer o ≡ true) ↔ LayerMotion (motion_of o)
  listed-exactly o m =
      let digits : Digits o.rotation = (digits-entries o.rotation).1 (A.small _ (rotation-generated c gens operations steps A o m)) in
      test-exactly o digits (translation-below c gens operations steps A o m).2

  -- All listed operations pass exactly if all motions of the set are of a layer.
  pub all-exactly : OfLayer c → (length operations ≤ front operations) ↔ ((f : SpaceMotion) → InGeneratedSet c gens f → LayerMotion f)
  all-exactly l = (
    (λ h f s.
        let (o, m, near) = (set-exactly c gens operations steps A f).0 s in
        alike-layer c l f (motion_of o) near ((listed-exactly o m).0 (front-all operations h o m))),
    λ h. all-front operations (λ o m. (listed-exactly o m).1 (h (motion_of o) ((set-exactly c gens operations steps A (motion_of o)).1
        (o, m, (motions-keyed (points_of c) (points c)).alike-reflexive (motion_of o))))),
  )

  -- The first that does not pass is the first whose motion is none of a layer.
  first-not-off : (i : ℕ) → FirstNot operations i → FirstOff operations i
  first-not-off i F =
      record {
        within = F.within;
        off = λ L. clash (is_layer (get_or operations i identity_operation)) ((listed-exactly _ (member-at operations i identity_operation F.within)).1 L)
            F.off;
        before = λ j k. (listed-exactly _ (member-at operations j identity_operation (omega (arith, F.within)))).0 (F.before j k);
      }

  first-off-not : (i : ℕ) → FirstOff operations i → FirstNot operations i
  first-off-not i F =
      record {
        within = F.within;
        off = go (is_layer (get_or operations i identity_operation)) refl;
        before = λ j k. (listed-exactly _ (member-at operations j identity_operation (omega (arith, F.within)))).1 (F.before j k);
      }
    where
      go : (x : Bool) → is_layer (get_or operations i identity_operation) ≡ x → is_layer (get_or operations i identity_operation) ≡ false
      go true e = absurd (F.off ((listed-exactly _ (member-at operations i identity_operation F.within)).0 e))
      go false e = e

-- Said of equal letters and generators.
all_moved : (c d : Centering) (gens hens : List Operation) → c ≡ d → gens ≡ hens
    → ((f : SpaceMotion) → InGeneratedSet c gens f → LayerMotion f) → (f : SpaceMotion) → InGeneratedSet d hens f → LayerMotion f
all_moved c d gens hens p q h f s = h f (rw (p, q) s)

-- ---- by the text
module _ (text : List ℕ) where
  -- The copy in capitals spells what the text spells as a layer symbol.
  pub spells-exactly : (c : Centering) (gens : List Operation) → Spells (capitalised text) c gens ↔ LayerSpells text c gens
  spells-exactly c gens = (
    (λ s. (layer-reads text (symbol c gens)).0 ((symbol-exactly (capitalised text) c gens).1 s)),
    λ s. (symbol-exactly (capitalised text) c gens).0 ((layer-reads text (symbol c gens)).1 s),
  )

  -- A list is given exactly if the text spells a layer symbol, its generators are accepted, and every motion of its set is one of a layer.
  pub layer-exactly : ((operations : List Operation) × (told text ≡ answer.given operations))
      ↔ ((c : Centering) × (gens : List Operation) × LayerSpells text c gens
      × (AllKeep c gens × FewRotations gens × SmallRotations gens × OneTranslation c gens)
      × ((f : SpaceMotion) → InGeneratedSet c gens f → LayerMotion f))
  layer-exactly = (forth, back)
    where
      forth : ((operations : List Operation) × (told text ≡ answer.given operations)) → (c : Centering) × (gens : List Operation) × LayerSpells text c gens
          × (AllKeep c gens × FewRotations gens × SmallRotations gens × OneTranslation c gens)
          × ((f : SpaceMotion) → InGeneratedSet c gens f → LayerMotion f)
      forth (operations, e) =
          let (a, all, _) = (given_by (symbol_answer (capitalised text)).answer (take (symbol_answer (capitalised text)).count
          (symbol_answer (capitalised text)).operations) operations).0 (sym (told-listed text) ∙ e) in
          let T = accepted-text (capitalised text) a in
          let s = (spells-exactly T.letter T.generators).0 T.spells in
          let A = T.accepted in (
            T.letter,
            T.generators,
            s,
            (A.keep, A.few, A.small, A.one),
            (all-exactly T.letter T.generators T.operations T.steps A (layer-letter text T.letter T.generators s)).0 (rw T.same-operations at all),
          )

      back : ((c : Centering) × (gens : List Operation) × LayerSpells text c gens
          × (AllKeep c gens × FewRotations gens × SmallRotations gens × OneTranslation c gens)
          × ((f : SpaceMotion) → InGeneratedSet c gens f → LayerMotion f)) → (operations : List Operation) × (told text ≡ answer.given operations)
      back (c, gens, s, accepted, layer) =
          let p = (spells-exactly c gens).1 s in
          let a = (group-exactly (capitalised text)).1 (c, gens, p, accepted) in
          let T = accepted-text (capitalised text) a in
          let same : symbol c gens ≡ symbol T.letter T.generators = sym ((symbol-exactly (capitalised text) c gens).1 p)
          ∙ (symbol-exactly (capitalised text) T.letter T.generators).1 T.spells in
          let letter : c ≡ T.letter = cc in
          let generators : gens ≡ T.generators = cc in
          let all = (all-exactly T.letter T.generators T.operations T.steps T.accepted (subst OfLayer letter (layer-letter text c gens s))).1
          (all_moved c T.letter gens T.generators letter generators layer) in
          (_, told-listed text ∙ (given_by (symbol_answer (capitalised text)).answer (take (symbol_answer (capitalised text)).count (symbol_answer (capitalised text)).operations) _).1 (a, rw T.same-operations all, refl))

  -- It is the list of the text with the capital letter.
  pub layer-list : (operations : List Operation) → told text ≡ answer.given operations → plain-told.told (capitalised text) ≡ answer.given operations
  unfolding plain-told.told
  layer-list operations e =
      let (a, _, p) = (given_by (symbol_answer (capitalised text)).answer (take (symbol_answer (capitalised text)).count
      (symbol_answer (capitalised text)).operations) operations).0 (sym (told-listed text) ∙ e) in
      (plain-given (symbol_answer (capitalised text)).answer _ operations).1 (a, p)

  -- 19 at i: exactly if the text with the capital letter has a list, and operation i is the first of it whose motion is none of a layer.
  pub nineteen-exactly : (i : ℕ) → (told text ≡ answer.refused 19 i tt)
      ↔ ((operations : List Operation) × (plain-told.told (capitalised text) ≡ answer.given operations) × FirstOff operations i)
  unfolding plain-told.told
  nineteen-exactly i = (forth, back)
    where
      by : (listed (symbol_answer (capitalised text)).answer (take (symbol_answer (capitalised text)).count (symbol_answer (capitalised text)).operations)
          ≡ answer.refused 19 i tt)
          ↔ (((symbol_answer (capitalised text)).answer ≡ plain-answer.Group)
          × (front (take (symbol_answer (capitalised text)).count (symbol_answer (capitalised text)).operations) < length
          (take (symbol_answer (capitalised text)).count (symbol_answer (capitalised text)).operations))
          × (front (take (symbol_answer (capitalised text)).count (symbol_answer (capitalised text)).operations) ≡ i))
      by = nineteen-by (symbol_answer (capitalised text)).answer (take (symbol_answer (capitalised text)).count (symbol_answer (capitalised text)).operations) i

      forth : told text ≡ answer.refused 19 i tt → (operations : List Operation)
          × (plain.operations_answer (symbol_answer (capitalised text)) ≡ answer.given operations) × FirstOff operations i
      forth e =
          let (a, below, at_i) = by.0 (sym (told-listed text) ∙ e) in
          let T = accepted-text (capitalised text) a in
          let F = front-first T.operations (rw T.same-operations at below) in
          let p : front T.operations ≡ i = ap front (sym T.same-operations) ∙ at_i in (
            T.operations,
            (plain-given (symbol_answer (capitalised text)).answer _ T.operations).1 (a, T.same-operations),
            first-not-off T.letter T.generators T.operations T.steps T.accepted i (subst (FirstNot T.operations) p F),
          )

      back : ((operations : List Operation) × (plain.operations_answer (symbol_answer (capitalised text)) ≡ answer.given operations) × FirstOff operations i)
          → told text ≡ answer.refused 19 i tt
      back (operations, e, F) =
          let (a, p) = (plain-given (symbol_answer (capitalised text)).answer _ operations).0 e in
          let T = accepted-text (capitalised text) a in
          let same : operations ≡ T.operations = sym p ∙ T.same-operations in
          let N = first-off-not T.letter T.generators T.operations T.steps T.accepted i (subst (λ l. FirstOff l i) same F) in
          let at_i = first-front T.operations i N in
          let below : front T.operations < length T.operations = omega (arith, at_i, N.within) in
          told-listed text ∙ by.1 (a, rw T.same-operations below, ap front T.same-operations ∙ at_i)

  -- Each other refusal, 1 to 14 and 17: exactly that of the text with the capital letter.
  pub refused-exactly : (n k : ℕ) → n ≤ 17 → (told text ≡ answer.refused n k tt) ↔ (plain-told.told (capitalised text) ≡ answer.refused n k tt)
  unfolding plain-told.told
  refused-exactly n k h =
      let by = other-by (symbol_answer (capitalised text)).answer (take (symbol_answer (capitalised text)).count (symbol_answer (capitalised text)).operations)
      n k h in
      ((λ e. by.0 (sym (told-listed text) ∙ e)), λ e. told-listed text ∙ by.1 e)

  -- A refusal of the text itself: exactly if its rule holds, said of the text as a layer symbol.
  pub text-refused : (r : text-refusal.Refusal) → (told text ≡ answer.refused (plain-numbers.number_of (Text r)) (plain-numbers.place_of (Text r)) tt) ↔ LayerRefuses text r
  unfolding plain-told.told
  text-refused r =
      let as_plain = refused-exactly (plain-numbers.number_of (Text r)) (plain-numbers.place_of (Text r)) (plain-told.number-limit (Text r)) in
      let by = plain-refused (symbol_answer (capitalised text)).answer (take (symbol_answer (capitalised text)).count
      (symbol_answer (capitalised text)).operations) (Text r) in (
        (λ e. (layer-reads text (refusal r)).0 ((refusal-exactly (capitalised text) r).1 ((text-exactly (capitalised text) r).0 (by.0 (as_plain.0 e))))),
        λ h. as_plain.1 (by.1 ((text-exactly (capitalised text) r).1 ((refusal-exactly (capitalised text) r).0 ((layer-reads text (refusal r)).1 h)))),
      )

  -- 4 at k: exactly if the first token, which stands at k, is neither p nor c, with or without `-`.
  pub four-exactly : (k : ℕ) → (told text ≡ answer.refused 4 k tt) ↔ LayerWrong text k
  four-exactly k = text-refused (text-variants.Lattice k)

  -- 12 to 14: exactly if the text spells a layer symbol whose generators are refused so.
  pub generators-exactly : (r : generators.Refusal) → (told text ≡ answer.refused (generator-numbers.number_of r) (generator-numbers.place_of r) tt)
      ↔ ((c : Centering) × (gens : List Operation) × LayerSpells text c gens × (outcome_of c gens ≡ refused r))
  unfolding plain-told.told
  generators-exactly r =
      let as_plain = refused-exactly (generator-numbers.number_of r) (generator-numbers.place_of r) (plain-told.number-limit (NoGroup r)) in
      let by = plain-refused (symbol_answer (capitalised text)).answer (take (symbol_answer (capitalised text)).count
      (symbol_answer (capitalised text)).operations) (NoGroup r) in (
        (λ e. let (c, gens, s, h) = (generators-refused (capitalised text) r).0 (by.0 (as_plain.0 e)) in (c, gens, (spells-exactly c gens).0 s, h)),
        λ (c, gens, s, h). as_plain.1 (by.1 ((generators-refused (capitalised text) r).1 (c, gens, (spells-exactly c gens).1 s, h))),
      )

-- ---- the group of the text with the capital letter
-- By the test of its operations.
abbrev pub passing : Bool → Centering → ℕ → List Operation → LayerGroup
passing x c n l = cond x (refused_answer (NoLayer (front (take n l)))) (record { answer = Group; centering = c; count = n; operations = l })

slots-by : (a : plain-answers.Answer) (c : Centering) (n : ℕ) (l : List Operation) → (layered_by a c n l).answer ≡ Group → (a ≡ plain-answer.Group)
    × ((layered_by a c n l).centering ≡ c) × ((layered_by a c n l).count ≡ n) × ((layered_by a c n l).operations ≡ l)
slots-by plain-answer.Group c n l e = go (ltb (front (take n l)) n) e
  where
    go : (x : Bool) → (passing x c n l).answer ≡ Group → (plain-answer.Group ≡ plain-answer.Group) × ((passing x c n l).centering ≡ c)
        × ((passing x c n l).count ≡ n) × ((passing x c n l).operations ≡ l)
    go true e = let z : ◌≡◌ {A = ℕ} 0 1 = cc in absurd (omega arith)
    go false e = (refl, refl, refl, refl)
slots-by (plain-answer.Refused r) c n l e = let z : ◌≡◌ {A = ℕ} 0 1 = cc in absurd (omega arith)

-- An accepted layer symbol has the lattice, the order and the list of the text with the capital letter, which is accepted too: so the table of products modulo
-- the lattice that is made of these is one and the same.
pub layer-table : (text : List ℕ) → (layer_answer text).answer ≡ Group
    → ((symbol_answer (capitalised text)).answer ≡ plain-answer.Group) × ((layer_answer text).centering ≡ (symbol_answer (capitalised text)).centering)
    × ((layer_answer text).count ≡ (symbol_answer (capitalised text)).count) × ((layer_answer text).operations ≡ (symbol_answer (capitalised text)).operations)
unfolding layer_answer
layer-table text e = let g = symbol_answer (capitalised text) in slots-by g.answer g.centering g.count g.operations e
