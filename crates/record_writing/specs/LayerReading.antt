-- A layer symbol's record is read as the layer symbol's group, with its small letter; and old software, which knows capital letters alone, answers 32.
-- The idea: listed motions of a layer stay such in the listed form, so nothing bars the record.
use Rattle.std.specs.Prelude.{◌≡◌, ◌↔◌, true, List, ◌++◌, map, ℕ, ◌+◌, ◌-◌, ◌≤◌, replicate}
use Rattle.std.proofs.Math.Path.{refl, sym}
use Rattle.std.proofs.Common.{◌∙◌, ap, ap₂, subst, inl, inr, true≢false, append_assoc, arith, length-append}
use Rattle.std.proofs.Math.ListN.{length, take}
use Rattle.std.proofs.lemmas.List.{length-map}
use Rattle.std.proofs.Math.Seq.{take_at}
use Rattle.laws.specs.Motion.{SpaceMotion}
use Rattle.laws.specs.MotionsModulo.{motions-keyed}
use Rattle.operation.specs.Answer as answer
use Rattle.operation.specs.Meaning.{motion_of}
use Rattle.operation.specs.Product.{identity_operation}
use Rattle.operation.specs.declared.Operation.{Operation}
use Rattle.centering.specs.Letters.{points_of}
use Rattle.centering.specs.Lattices.{points}
use Rattle.centering.specs.declared.Centering.{Centering}
use Rattle.space_group_theorems.specs.SetOfMotions as generated
use Rattle.symbol_group.specs.AcceptedTexts.{AcceptedText}
use Rattle.layer_group.specs.Answers.{layer_answer, small_of}
use Rattle.layer_group.specs.Capitals.{capitalised}
use Rattle.layer_group.specs.Layers.{LayerMotion}
use Rattle.layer_group.specs.Motions.{alike-layer}
use Rattle.layer_group.specs.Spelling.{OfLayer, layer-letter}
use Rattle.layer_group.specs.Told.{told, spells-exactly, layer-exactly, layer-table}
use Rattle.layer_group.specs.declared.Answer.TheVariants.{Group}
use Rattle.group_record.specs.Items.{bytes_of, bytes-length}
use Rattle.group_record.specs.Rules.{told_by}
use Rattle.group_record.specs.Rules.{refused as not-held}
use Rattle.group_record.specs.FirstEdition.{item_width, item-wide, first_edition}
use Rattle.group_record.specs.Record.{item_of, listed_form, written_in, record_in, signed_record}
use Rattle.group_record.specs.Reading.{rules_of, old_reading, read_of, accepted_group, slots}
use Rattle.group_record.specs.Outcomes.{wrong-letter, outcome-told}
use Rattle.group_record.specs.Acceptance.{meaning_of}
use Rattle.group_record.specs.RefusalNumbers.{told_answer}
use Rattle.group_record.specs.Signs.{is_small, lattice_of, AllOfLayer}
use Rattle.group_record.specs.Groups.{InSet, Allowed, Listing}
use Rattle.group_record.specs.ListedForm.{form-length, form-member, form-set, smallest-alike}
use Rattle.record_writing.specs.RoundTrips.{reads-back-in}
use Rattle.record_writing.specs.AcceptedSymbols.{accepted-listing, accepted-allowed}
use Rattle.record_writing.specs.SymbolSets.{set-of-list}
use Rattle.hall_symbol.specs.Agreement.{spells-once}
use Rattle.record_writing.specs.LayerRecords.{small_record, capital-byte, layer_text_record, InLayerSet, capital-set, capital-accepted, layer-record-of-list}
use Rattle.group_record.specs.declared.Edition.TheVariants.{First}
use Rattle.group_record.specs.declared.Reading.TheVariants.{Accepted}
use Rattle.group_record.specs.declared.RecordGroup.{RecordGroup}
use Rattle.group_record.specs.declared.Refusal.TheVariants.{WrongLetter}
use Rattle.group_record.specs.declared.sign.Sign.{Sign}
use Rattle.group_record.specs.declared.sign.Sign.TheVariants.{Plain, SmallP, SmallC}

-- What was read is the layer symbol's group: its small letter, its count, its operations in the listed form, its set of motions.
pub record LayerReadsAs (text : List ℕ) (g : RecordGroup) : Type 0 where
  pub accepted : g.answer ≡ Accepted
  pub layer : g.layer ≡ true
  pub letter : g.centering ≡ (layer_answer text).centering
  pub count : g.count ≡ (layer_answer text).count
  pub operations : take g.count g.operations ≡ listed_form (layer_answer text).centering (take (layer_answer text).count (layer_answer text).operations)
  pub set : (m : SpaceMotion) → InSet g.centering (map motion_of (take g.count g.operations)) m ↔ InLayerSet text m

-- ---- small letters
-- Each lattice of layers has its small letter.
small-sign : (c : Centering) → OfLayer c → (s : Sign) × (is_small s ≡ true) × (lattice_of s ≡ c)
small-sign c (inl e) = (SmallP, refl, sym e)
small-sign c (inr e) = (SmallC, refl, sym e)

-- Motions of a layer stay such in the listed form.
form-layers : (c : Centering) → OfLayer c → (l : List Operation) → AllOfLayer l → AllOfLayer (listed_form c l)
form-layers c o l layers f m =
    let (g, n, e) = form-member c l m in
    subst (λ (h : Operation). LayerMotion (motion_of h)) e (alike-layer c o _ (motion_of g) (smallest-alike c g) (layers g n))

-- Under its small letter a record of a layer is read.
small-reads : (s : Sign) → is_small s ≡ true → {l : List Operation} → Listing l → Allowed (lattice_of s) (map motion_of l)
    → AllOfLayer (listed_form (lattice_of s) l) → (front : List ℕ)
    → read_of (front ++ small_record (lattice_of s) l) ≡ accepted_group First s (listed_form (lattice_of s) l)
unfolding small_record signed_record
small-reads SmallP e L A layers front = reads-back-in First SmallP L A layers front
small-reads SmallC e L A layers front = reads-back-in First SmallC L A layers front
small-reads (Plain c) e L A layers front = absurd (true≢false (sym e))

-- ---- the text
module _ (text : List ℕ) (a : (layer_answer text).answer ≡ Group) where
  abbrev A : AcceptedText (capitalised text)
  A = capital-accepted text a

  of_layer : OfLayer A.letter
  of_layer = layer-letter text A.letter A.generators ((spells-exactly text A.letter A.generators).0 A.spells)

  -- It has a list,
  listed : (operations : List Operation) × (told text ≡ answer.given operations)
  unfolding told
  listed = (take (layer_answer text).count (layer_answer text).operations, rw a)

  -- whose motions are those of a layer.
  all-layers : AllOfLayer A.operations
  all-layers f m =
      let (c, gens, s, _, layers) = (layer-exactly text).0 listed in
      let (p, q) = spells-once (capitalised text) c A.letter gens A.generators ((spells-exactly text c gens).1 s) A.spells in
      let near = (motions-keyed (points_of A.letter) (points A.letter)).alike-reflexive (motion_of f) in
      layers (motion_of f) (rw (p, q) ((generated.set-exactly A.letter A.generators A.operations A.steps A.accepted (motion_of f)).1 (f, m, near)))

  abbrev form : List Operation
  form = listed_form A.letter A.operations

  form-slots : take (length form) (slots form) ≡ form
  unfolding slots
  form-slots = take_at form (replicate (48 - length form) identity_operation) (length form) refl

  form-says : (m : SpaceMotion) → InSet A.letter (map motion_of form) m ↔ InLayerSet text m
  form-says m =
      let listed = set-of-list (capitalised text) A m in
      let formed = form-set A.letter A.operations m in
      ((λ h. (capital-set text m).1 (listed.1 (formed.0 h))), λ h. formed.1 (listed.0 ((capital-set text m).0 h)))

  -- What is read of the form is the layer symbol's group.
  form-reads : (s : Sign) → is_small s ≡ true → lattice_of s ≡ A.letter → LayerReadsAs text (accepted_group First s form)
  unfolding accepted_group
  form-reads s small lattice =
      let (_, letters, counts, lists) = layer-table text a in
      record {
        accepted = refl;
        layer = small;
        letter = lattice ∙ sym (letters ∙ A.same-letter);
        count = form-length A.letter A.operations ∙ sym (counts ∙ A.same_count);
        operations = form-slots ∙ sym (ap₂ listed_form (letters ∙ A.same-letter) (ap₂ take counts lists ∙ A.same-operations));
        set = λ m. rw (form-slots, lattice) (form-says m);
      }

  record-reads : (s : Sign) → is_small s ≡ true → lattice_of s ≡ A.letter → (front : List ℕ)
      → read_of (front ++ layer_text_record text) ≡ accepted_group First s form
  record-reads s small lattice front =
      ap (λ (bytes : List ℕ). read_of (front ++ bytes)) (layer-record-of-list text a)
      ∙ subst (λ (c : Centering). Allowed c (map motion_of A.operations) → AllOfLayer (listed_form c A.operations)
      → read_of (front ++ small_record c A.operations) ≡ accepted_group First s (listed_form c A.operations)) lattice
      (λ allowed layers. small-reads s small (accepted-listing A.letter A.generators A.operations A.steps A.accepted) allowed layers front)
      (accepted-allowed A.letter A.generators A.operations A.steps A.accepted) (form-layers A.letter of_layer A.operations all-layers)

  -- An accepted layer symbol's record is read as the symbol's group, with its small letter, whatever stands before it.
  pub layer-record-read : (front : List ℕ) → LayerReadsAs text (read_of (front ++ layer_text_record text))
  layer-record-read front =
      let (s, small, lattice) = small-sign A.letter of_layer in
      subst (LayerReadsAs text) (sym (record-reads s small lattice front)) (form-reads s small lattice)

-- ---- old software
-- The letter p or c of a record is none that the lattices have.
pub old-letter : (front : List ℕ) (c : Centering) (l : List Operation) → 1 ≤ length l
    → told_by (rules_of old_reading) (front ++ small_record c l) ≡ not-held WrongLetter
unfolding small_record record_in written_in
old-letter front c l some =
    outcome-told (rules_of old_reading) (meaning_of old_reading) _ _
    (wrong-letter tt (front ++ body) (small_of c) (length (listed_form c l)) _ _ enough (sym (append_assoc front body _))
    (λ d e. absurd (omega (arith, capital-byte c, capital-byte d, e))))
  where
    body : List ℕ
    body = bytes_of (λ (f : Operation). first_edition.write (item_of f)) (listed_form c l)

    enough : 10 ≤ length (front ++ body) + 5
    enough =
        let size = bytes-length item_width (λ (f : Operation). first_edition.write (item_of f)) (λ (f : Operation). item-wide (item_of f)) (listed_form c l) in
        omega (arith, length-append front body, size, form-length c l)

-- So old software answers 32 to the record of an accepted layer symbol, whatever stands before it.
pub layer-old-software : (text front : List ℕ) → (layer_answer text).answer ≡ Group
    → told_answer (told_by (rules_of old_reading) (front ++ layer_text_record text)) ≡ answer.refused 32 0 tt
layer-old-software text front a =
    let T = capital-accepted text a in
    let allowed = accepted-allowed T.letter T.generators T.operations T.steps T.accepted in
    ap told_answer
    (ap (λ (bytes : List ℕ). told_by (rules_of old_reading) (front ++ bytes)) (layer-record-of-list text a)
    ∙ old-letter front T.letter T.operations (omega (arith, allowed.count, length-map T.operations motion_of)))
