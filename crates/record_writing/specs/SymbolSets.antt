-- Records say the set, in each edition: for two accepted symbols the records are equal byte for byte exactly when the two sets of motions are equal.
-- The idea: the set of an accepted symbol is its listed operations with L added, and for such sets it is known.
use Rattle.std.specs.Prelude.{◌≡◌, refl, ◌↔◌, ℕ, take}
use Rattle.std.proofs.Common.{sym, ◌∙◌}
use Rattle.std.proofs.Math.Path.{ap₂}
use mathlib.Core.List.Memᴰ.{map as mem-map}
use mathlib.Core.List.Memᴰ.{of_map as mem-of-map}
use mathlib.Core.List.{List, map, Memᴰ as Mem}
use Rattle.laws.specs.Motion.{SpaceMotion}
use Rattle.operation.specs.Meaning.{motion_of}
use Rattle.operation.specs.declared.Operation.{Operation}
use Rattle.centering.specs.declared.Centering.{Centering}
use Rattle.hall_symbol.specs.Spelling.{Spells}
use Rattle.hall_symbol.specs.Agreement.{spells-once}
use Rattle.space_group_theorems.specs.SetOfMotions as generated
use Rattle.symbol_group.specs.AcceptedTexts.{AcceptedText, accepted-text}
use Rattle.symbol_group.specs.Answers.{symbol_answer}
use Rattle.symbol_group.specs.declared.Answer.TheVariants.{Group}
use Rattle.group_record.specs.Record.{record_by, record_of}
use Rattle.group_record.specs.Groups.{Alike, InSet}
use Rattle.group_record.specs.OneRecord.{one-record-by}
use Rattle.record_writing.specs.SymbolRecords.{text_record}
use Rattle.record_writing.specs.AcceptedSymbols.{accepted-listing, accepted-identity}
use Rattle.group_record.specs.declared.Edition.{Edition as Known}
use Rattle.group_record.specs.declared.Edition.TheVariants.{First, Third}

-- The set of motions of a text: it spells a symbol, and the motion is a finite product of the symbol's generators and translations by L.
abbrev pub InSetOf : List ℕ → SpaceMotion → Type 0
InSetOf text m = (c : Centering) × (gens : List Operation) × Spells text c gens × generated.InGeneratedSet c gens m

-- The record of a text's group in an edition.
unfoldable pub text_record_in : Known → List ℕ → List ℕ
text_record_in edition text = let g = symbol_answer text in record_by edition g.centering (take g.count g.operations)

-- In edition 1 it is what is written for a symbol.
pub text-record : (text : List ℕ) → text_record_in First text ≡ text_record text
unfolding text_record_in text_record record_by record_of
text-record text = refl

module _ (text : List ℕ) (A : AcceptedText text) where
  -- The record of an accepted text is that of its listed operations.
  pub record-of-list-in : (edition : Known) → text_record_in edition text ≡ record_by edition A.letter A.operations
  unfolding text_record_in
  record-of-list-in edition = ap₂ (record_by edition) A.same-letter A.same-operations

  pub record-of-list : text_record text ≡ record_of A.letter A.operations
  unfolding text_record
  record-of-list = ap₂ record_of A.same-letter A.same-operations

  -- Its set of motions is its listed operations with L added.
  pub set-of-list : (m : SpaceMotion) → InSetOf text m ↔ InSet A.letter (map motion_of A.operations) m
  set-of-list m = (forth, back)
    where
      exactly : generated.InGeneratedSet A.letter A.generators m ↔ ((o : Operation) × Mem o A.operations × Alike A.letter m (motion_of o))
      exactly = generated.set-exactly A.letter A.generators A.operations A.steps A.accepted m

      forth : InSetOf text m → InSet A.letter (map motion_of A.operations) m
      forth (c, gens, s, h) =
          let (p, q) = spells-once text c A.letter gens A.generators s A.spells in
          let (o, k, near) = exactly.0 (rw (p, q) at h) in
          (motion_of o, mem-map motion_of k, near)

      back : InSet A.letter (map motion_of A.operations) m → InSetOf text m
      back (f, h, near) =
          let (o, k, e) = mem-of-map motion_of A.operations h in
          (A.letter, A.generators, A.spells, exactly.1 (o, k, rw e near))

-- For two accepted texts: one record in an edition, exactly if one set of motions.
pub records-in-say-sets : (edition : Known) (a b : List ℕ) → (symbol_answer a).answer ≡ Group → (symbol_answer b).answer ≡ Group
    → (text_record_in edition a ≡ text_record_in edition b) ↔ ((m : SpaceMotion) → InSetOf a m ↔ InSetOf b m)
records-in-say-sets edition a b p q = (
  (λ e m. (
    (λ h. (set-of-list b B m).1 ((one.0 (sym (record-of-list-in a A edition) ∙ e ∙ record-of-list-in b B edition) m).0 ((set-of-list a A m).0 h))),
    λ h. (set-of-list a A m).1 ((one.0 (sym (record-of-list-in a A edition) ∙ e ∙ record-of-list-in b B edition) m).1 ((set-of-list b B m).0 h)),
  )),
  λ same. record-of-list-in a A edition ∙ one.1 (λ m. (
    (λ h. (set-of-list b B m).0 ((same m).0 ((set-of-list a A m).1 h))),
    λ h. (set-of-list a A m).0 ((same m).1 ((set-of-list b B m).1 h)),
  )) ∙ sym (record-of-list-in b B edition),
)
  where
    A : AcceptedText a
    A = accepted-text a p

    B : AcceptedText b
    B = accepted-text b q

    one : (record_by edition A.letter A.operations ≡ record_by edition B.letter B.operations) ↔
        ((m : SpaceMotion) → InSet A.letter (map motion_of A.operations) m ↔ InSet B.letter (map motion_of B.operations) m)
    one =
        one-record-by edition A.letter B.letter A.operations B.operations
        (accepted-listing A.letter A.generators A.operations A.steps A.accepted)
        (accepted-listing B.letter B.generators B.operations B.steps B.accepted)
        (accepted-identity A.letter A.generators A.operations A.steps A.accepted)
        (accepted-identity B.letter B.generators B.operations B.steps B.accepted)

-- In edition 1, as it is written for a symbol;
pub records-say-sets : (a b : List ℕ) → (symbol_answer a).answer ≡ Group → (symbol_answer b).answer ≡ Group
    → (text_record a ≡ text_record b) ↔ ((m : SpaceMotion) → InSetOf a m ↔ InSetOf b m)
records-say-sets a b p q = (
  (λ e. (records-in-say-sets First a b p q).0 (text-record a ∙ e ∙ sym (text-record b))),
  λ same. sym (text-record a) ∙ (records-in-say-sets First a b p q).1 same ∙ text-record b,
)

-- and in edition 3.
pub third-records-say-sets : (a b : List ℕ) → (symbol_answer a).answer ≡ Group → (symbol_answer b).answer ≡ Group
    → (text_record_in Third a ≡ text_record_in Third b) ↔ ((m : SpaceMotion) → InSetOf a m ↔ InSetOf b m)
third-records-say-sets = records-in-say-sets Third
