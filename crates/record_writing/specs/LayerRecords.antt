-- The record of a layer symbol's text: its bytes under the small letter, and what they say. For two layer symbols
-- they are equal exactly when the sets of motions are, and no layer symbol has the record of a plain one.
use Rattle.std.proofs.Math.Path.{◌≡◌, refl}
use Rattle.std.proofs.Common.{sym, ◌∙◌, ap, ap₂, arith}
use Rattle.std.specs.Prelude.{◌↔◌, Bool, List, map, ℕ, ◌≤◌, length, take, Err, Ok, Result}
use Rattle.std.proofs.Math.Bool.{cond}
use Rattle.laws.specs.Motion.{SpaceMotion}
use Rattle.operation.specs.Answer as answer
use Rattle.operation.specs.Meaning.{motion_of}
use Rattle.operation.specs.declared.Operation.{Operation}
use Rattle.centering.specs.Letters.{byte_of}
use Rattle.centering.specs.LatticeLaws.{byte-injective}
use Rattle.centering.specs.declared.Centering.{Centering}
use Rattle.centering.specs.declared.Centering.TheVariants.{P, A, B, C, I, R, F, H}
use Rattle.space_group_theorems.specs.SetOfMotions as generated
use Rattle.symbol_group.specs.AcceptedTexts.{AcceptedText, accepted-text}
use Rattle.symbol_group.specs.Answers.{symbol_answer}
use Rattle.symbol_group.specs.declared.SymbolGroup.{SymbolGroup}
use Rattle.layer_group.specs.Answers.{layer_answer, order_by, order_of, small_of}
use Rattle.layer_group.specs.Capitals.{capitalised}
use Rattle.layer_group.specs.Spelling.{LayerSpells}
use Rattle.layer_group.specs.Told.{spells-exactly, layer-table}
use Rattle.layer_group.specs.Refusals.{number_of, place_of}
use Rattle.layer_group.specs.declared.Answer.{Answer}
use Rattle.layer_group.specs.declared.Answer.TheVariants.{Group, Refused}
use Rattle.layer_group.specs.declared.LayerGroup.{LayerGroup}
use Rattle.layer_group.specs.declared.refusal.Refusal.{Refusal}
use Rattle.group_record.specs.Editions.{from_end, framed-letter}
use Rattle.group_record.specs.FirstEdition.{first_edition}
use Rattle.group_record.specs.Record.{item_of, listed_form, record_in, record_of}
use Rattle.record_writing.specs.Places.{placed_in}
use Rattle.record_writing.specs.Copying.{room_for}
use Rattle.group_record.specs.Groups.{InSet, Listing}
use Rattle.group_record.specs.OneRecord.{one-record-in, written-items}
use Rattle.record_writing.specs.SymbolRecords.{text_record}
use Rattle.record_writing.specs.AcceptedSymbols.{symbol-writable, accepted-listing, accepted-identity}
use Rattle.record_writing.specs.SymbolSets.{InSetOf, set-of-list}
use Rattle.record_writing.specs.declared.Unwritten.TheVariants.{NoRoom, Refused as NotWritten}
use Rattle.record_writing.specs.declared.Unwritten.{Unwritten}

-- The record of operations under the small letter.
unfoldable pub small_record : Centering → List Operation → List ℕ
small_record c l = record_in first_edition (small_of c) c l

-- The record of a layer symbol's group, and of a text that is accepted.
abbrev pub layer_group_record : LayerGroup → List ℕ
layer_group_record g = small_record g.centering (take g.count g.operations)

unfoldable pub layer_text_record : List ℕ → List ℕ
layer_text_record text = layer_group_record (layer_answer text)

-- ---- what is answered
-- The layer symbol's refusal goes first; then there is room, or 20.
abbrev pub layer_written_by : Answer → ℕ → ℕ → ℕ → Result ℕ (Unwritten Refusal)
layer_written_by Group n start size = cond (room_for start n size) (Ok n) (Err NoRoom)
layer_written_by (Refused r) n start size = Err (NotWritten r)

unfoldable pub layer_record_of : List ℕ → List ℕ → ℕ → Result ℕ (Unwritten Refusal)
layer_record_of text out start = layer_written_by (layer_answer text).answer (layer_answer text).count start (length out)

-- Each answer in numbers: the count, or the refusal's number and place.
abbrev pub layer_record_answer : Result ℕ (Unwritten Refusal) → answer.Answer ℕ answer.Nothing
layer_record_answer (Ok n) = answer.given n
layer_record_answer (Err NoRoom) = answer.refused 20 0 tt
layer_record_answer (Err (NotWritten r)) = answer.refused (number_of r) (place_of r) tt

-- What the lent buffer holds afterwards: a refusal touches nothing.
abbrev pub layer_placed_by : Answer → List ℕ → ℕ → List ℕ → List ℕ
layer_placed_by Group out start bytes = placed_in out start bytes
layer_placed_by (Refused r) out start bytes = out

unfoldable pub layer_buffer_of : List ℕ → List ℕ → ℕ → List ℕ
layer_buffer_of text out start = layer_placed_by (layer_answer text).answer out start (layer_text_record text)

-- ---- by what the symbol's order says
module _ (text : List ℕ) where
  order-given : (n : ℕ) → order_of text ≡ Ok n → ((layer_answer text).answer ≡ Group) × ((layer_answer text).count ≡ n)
  unfolding order_of
  order-given n e = by (layer_answer text).answer refl e
    where
      by : (a : Answer) → (layer_answer text).answer ≡ a → order_by a (layer_answer text).count ≡ Ok n
          → ((layer_answer text).answer ≡ Group) × ((layer_answer text).count ≡ n)
      by Group p q = (p, cc)
      by (Refused r) p q = let z : ◌≡◌ {A = ℕ} 0 1 = cc in absurd (omega arith)

  -- A refused symbol is not written.
  pub record-refused : (out : List ℕ) (start : ℕ) (r : Refusal) → order_of text ≡ Err r
      → (Err (NotWritten r) ≡ layer_record_of text out start) × (out ≡ layer_buffer_of text out start)
  unfolding order_of layer_record_of layer_buffer_of
  record-refused out start r e = by (layer_answer text).answer refl e
    where
      by : (a : Answer) → (layer_answer text).answer ≡ a → order_by a (layer_answer text).count ≡ Err r
          → (Err (NotWritten r) ≡ layer_written_by (layer_answer text).answer (layer_answer text).count start (length out))
          × (out ≡ layer_placed_by (layer_answer text).answer out start (layer_text_record text))
      by Group p q = let z : ◌≡◌ {A = ℕ} 0 1 = cc in absurd (omega arith)
      by (Refused t) p q = let same : t ≡ r = cc in (rw p (ap (λ x. Err (NotWritten x)) (sym same)), rw p refl)

  module _ (n : ℕ) (order : order_of text ≡ Ok n) (g : SymbolGroup) (e : g ≡ symbol_answer (capitalised text)) where
    -- The list of the text with the capital letter may be written,
    pub layer-writable : (n ≤ 48) × (n ≤ length g.operations) × Listing (take n g.operations)
    layer-writable =
        let (a, count) = order-given n order in
        let (group, _, counts, _) = layer-table text a in
        let same : n ≡ g.count = sym count ∙ counts ∙ sym (ap (λ (h : SymbolGroup). h.count) e) in
        rw same (symbol-writable (capitalised text) g e (ap (λ (h : SymbolGroup). h.answer) e ∙ group))

    -- and is what is written under the small letter, if there is room.
    pub record-written : (out : List ℕ) (start : ℕ) (b : Bool) → b ≡ room_for start n (length out)
        → (left : List ℕ) → left ≡ placed_in out start (record_in first_edition (small_of g.centering) g.centering (take n g.operations))
        → (cond b (Ok n) (Err NoRoom) ≡ layer_record_of text out start) × (left ≡ layer_buffer_of text out start)
    unfolding layer_record_of layer_buffer_of layer_text_record small_record
    record-written out start b room left placed =
        let (a, count) = order-given n order in
        let (_, letters, _, lists) = layer-table text a in
        (rw (a, count) (ap (λ (x : Bool). cond x (Ok n) (Err NoRoom)) room), rw (a, letters, count, lists, ← e) placed)

-- ---- what it says
-- The set of motions of a layer text: it spells a layer symbol, and the motion is a finite product of the symbol's generators and translations by L.
abbrev pub InLayerSet : List ℕ → SpaceMotion → Type 0
InLayerSet text m = (c : Centering) × (gens : List Operation) × LayerSpells text c gens × generated.InGeneratedSet c gens m

-- It is that of the text with the capital letter.
pub capital-set : (text : List ℕ) (m : SpaceMotion) → InLayerSet text m ↔ InSetOf (capitalised text) m
capital-set text m = (
  (λ (c, gens, s, h). (c, gens, (spells-exactly text c gens).1 s, h)),
  λ (c, gens, s, h). (c, gens, (spells-exactly text c gens).0 s, h),
)

-- An accepted layer text, by the text with the capital letter.
pub capital-accepted : (text : List ℕ) → (layer_answer text).answer ≡ Group → AcceptedText (capitalised text)
capital-accepted text a = accepted-text (capitalised text) (layer-table text a).0

pub layer-record-of-list : (text : List ℕ) (a : (layer_answer text).answer ≡ Group) → let A = capital-accepted text a in
    layer_text_record text ≡ small_record A.letter A.operations
unfolding layer_text_record
layer-record-of-list text a =
    let A = capital-accepted text a in
    let (_, letters, counts, lists) = layer-table text a in
    ap₂ small_record (letters ∙ A.same-letter) (ap₂ take counts lists ∙ A.same-operations)

small-injective : (c d : Centering) → small_of c ≡ small_of d → c ≡ d
small-injective c d e = byte-injective c d (omega arith)

-- For two accepted layer texts: one record, exactly if one set of motions.
pub layer-records-say-sets : (a b : List ℕ) → (layer_answer a).answer ≡ Group → (layer_answer b).answer ≡ Group
    → (layer_text_record a ≡ layer_text_record b) ↔ ((m : SpaceMotion) → InLayerSet a m ↔ InLayerSet b m)
unfolding small_record
layer-records-say-sets a b p q = (
  (λ e m.
      let same = one.0 (sym (layer-record-of-list a p) ∙ e ∙ layer-record-of-list b q) m in (
        (λ h. (says b q m).1 (same.0 ((says a p m).0 h))),
        λ h. (says a p m).1 (same.1 ((says b q m).0 h)),
      )),
  λ same. layer-record-of-list a p ∙ one.1 (λ m. (
    (λ h. (says b q m).0 ((same m).0 ((says a p m).1 h))),
    λ h. (says a p m).0 ((same m).1 ((says b q m).1 h)),
  )) ∙ sym (layer-record-of-list b q),
)
  where
    A : AcceptedText (capitalised a)
    A = capital-accepted a p

    B : AcceptedText (capitalised b)
    B = capital-accepted b q

    says : (text : List ℕ) (e : (layer_answer text).answer ≡ Group) (m : SpaceMotion)
        → InLayerSet text m ↔ InSet (capital-accepted text e).letter (map motion_of (capital-accepted text e).operations) m
    says text e m =
        let listed = set-of-list (capitalised text) (capital-accepted text e) m in
        ((λ h. listed.0 ((capital-set text m).0 h)), λ h. (capital-set text m).1 (listed.1 h))

    one : (small_record A.letter A.operations ≡ small_record B.letter B.operations)
        ↔ ((m : SpaceMotion) → InSet A.letter (map motion_of A.operations) m ↔ InSet B.letter (map motion_of B.operations) m)
    one =
        one-record-in first_edition (λ item h. tt) (small_of A.letter) (small_of B.letter) A.letter B.letter A.operations B.operations
        (small-injective A.letter B.letter) (ap small_of)
        (accepted-listing A.letter A.generators A.operations A.steps A.accepted)
        (accepted-listing B.letter B.generators B.operations B.steps B.accepted)
        (accepted-identity A.letter A.generators A.operations A.steps A.accepted)
        (accepted-identity B.letter B.generators B.operations B.steps B.accepted)

-- ---- layer symbols and plain ones
-- The letter stands five bytes before the end of a record.
record-letter : (letter : ℕ) (c : Centering) (l : List Operation) → from_end (record_in first_edition letter c l) 5 ≡ letter
unfolding record_in
record-letter letter c l =
    ap (λ (bytes : List ℕ). from_end bytes 5) (written-items first_edition letter (listed_form c l))
    ∙ framed-letter first_edition letter (map item_of (listed_form c l))

-- A capital letter's byte is 65 to 90.
pub capital-byte : (c : Centering) → (65 ≤ byte_of c) × (byte_of c ≤ 90)
capital-byte P = (omega arith, omega arith)
capital-byte A = (omega arith, omega arith)
capital-byte B = (omega arith, omega arith)
capital-byte C = (omega arith, omega arith)
capital-byte I = (omega arith, omega arith)
capital-byte R = (omega arith, omega arith)
capital-byte F = (omega arith, omega arith)
capital-byte H = (omega arith, omega arith)

-- No layer symbol's record is a plain one's, whatever the two texts are.
pub layer-plain-apart : (layer text : List ℕ) → ¬ (layer_text_record layer ≡ text_record text)
unfolding layer_text_record text_record small_record record_of
layer-plain-apart layer text e =
    let g = layer_answer layer in
    let h = symbol_answer text in
    let letters = sym (record-letter (small_of g.centering) g.centering (take g.count g.operations))
    ∙ ap (λ (bytes : List ℕ). from_end bytes 5) e ∙ record-letter (byte_of h.centering) h.centering (take h.count h.operations) in
    omega (arith, letters, capital-byte g.centering, capital-byte h.centering)
