-- What the answer, slot by slot, says of the text: it loses nothing of the reading, so that each answer is given exactly if its rule holds.
use Rattle.std.specs.Prelude.{◌≡◌, refl, ◌↔◌, Bool, true, false, List, [], ◌∷◌, ◌++◌, map, ℕ, ◌+◌, ◌-◌, ◌≤◌, length, take, replicate, Ok}
use Rattle.std.proofs.Common.{sym, ◌∙◌, ap, append_assoc, arith, length-append}
use Rattle.std.proofs.lemmas.List.{length-replicate, length-map}
use Rattle.std.proofs.Math.Seq.{take-append_seam}
use Rattle.laws.specs.Residue.{residue-lt}
use Rattle.operation.specs.Product.{identity_operation}
use Rattle.operation.specs.declared.Translation.{Translation}
use Rattle.operation.specs.declared.Operation.{Operation}
use Rattle.centering.specs.declared.Centering.{Centering}
use Rattle.hall_token.specs.Answers.{Reduced, read-reduced, answers-exact}
use Rattle.hall_axes.specs.declared.Previous.{Previous}
use Rattle.hall_symbol.specs.Generators.{leading, shift_by, shifted_coordinate, shifted, slots}
use Rattle.hall_symbol.specs.Reader.{Reading, symbol, refusal, read_symbol, answer_of}
use Rattle.hall_symbol.specs.Spelling.{lattice_spelling, Begins, lattice, rotation, Spells, Refuses, Says}
use Rattle.hall_symbol.specs.Agreement.{symbol-exactly, refusal-exactly, read-says}
use Rattle.hall_symbol.specs.declared.refusal.Refusal.{Refusal}
use Rattle.hall_symbol.specs.declared.Answer.TheVariants.{Symbol, Refused}
use Rattle.hall_symbol.specs.declared.HallSymbol.{HallSymbol}

-- ---- nothing is lost
-- The slots up to the count are the generators.
pub slots-listed : (gs : List Operation) → take (length gs) (slots gs) ≡ gs
slots-listed gs = take-append_seam gs (replicate (9 - length gs) identity_operation)

-- A reading's answer determines the reading.
pub answer-once : (r s : Reading) → answer_of r ≡ answer_of s → r ≡ s
answer-once (symbol c gs) (symbol d hs) e =
    let letters : c ≡ d = ap (λ (h : HallSymbol). h.centering) e in
    let counts : length gs ≡ length hs = ap (λ (h : HallSymbol). h.count) e in
    let same : slots gs ≡ slots hs = ap (λ (h : HallSymbol). h.generators) e in
    let lists : gs ≡ hs = sym (slots-listed gs) ∙ ap (λ (n : ℕ). take n (slots gs)) counts ∙ ap (take (length hs)) same ∙ slots-listed hs in
    rw (letters, lists)
answer-once (symbol c gs) (refusal r) e =
    let other : Symbol ≡ Refused r = ap (λ (h : HallSymbol). h.answer) e in
    let z : ◌≡◌ {A = ℕ} 0 1 = cc in
    absurd (omega arith)
answer-once (refusal r) (symbol c gs) e =
    let other : Refused r ≡ Symbol = ap (λ (h : HallSymbol). h.answer) e in
    let z : ◌≡◌ {A = ℕ} 0 1 = cc in
    absurd (omega arith)
answer-once (refusal r) (refusal s) e =
    let other : Refused r ≡ Refused s = ap (λ (h : HallSymbol). h.answer) e in
    let same : r ≡ s = cc in
    ap refusal same

-- The answer is a symbol's exactly if the text spells it.
pub answer-spells : (text : List ℕ) (c : Centering) (gs : List Operation) → (answer_of (read_symbol text) ≡ answer_of (symbol c gs)) ↔ Spells text c gs
answer-spells text c gs =
    ((λ e. (symbol-exactly text c gs).0 (answer-once (read_symbol text) (symbol c gs) e)), λ h. ap answer_of ((symbol-exactly text c gs).1 h))

-- The answer is a refusal exactly if the refusal's rule holds of the text.
pub answer-refuses : (text : List ℕ) (r : Refusal) → (answer_of (read_symbol text) ≡ answer_of (refusal r)) ↔ Refuses text r
answer-refuses text r =
    ((λ e. (refusal-exactly text r).0 (answer-once (read_symbol text) (refusal r) e)), λ h. ap answer_of ((refusal-exactly text r).1 h))

-- The refusal alone says as much.
pub answer-refused : (text : List ℕ) (r : Refusal) → ((answer_of (read_symbol text)).answer ≡ Refused r) ↔ Refuses text r
answer-refused text r = (
  (λ e. (refusal-exactly text r).0 (go (read_symbol text) e)),
  λ h. ap (λ (s : Reading). (answer_of s).answer)
      ((refusal-exactly text r).1 h),
)
  where
    go : (s : Reading) → (answer_of s).answer ≡ Refused r → s ≡ refusal r
    go (symbol c gs) e = let z : ◌≡◌ {A = ℕ} 0 1 = cc in absurd (omega arith)
    go (refusal q) e = let same : q ≡ r = cc in ap refusal same

-- ---- the count
leading-few : (inverted : Bool) → length (leading inverted) ≤ 1
leading-few true = omega arith
leading-few false = omega arith

-- As many generators as N tokens, and one more with the inversion.
begins-count : (text : List ℕ) {c : Centering} {found : List Operation} {previous : Previous} {p : ℕ} {s : List ℕ} → Begins text c found previous p s
    → (previous.count ≤ length found) × (length found ≤ previous.count + 1) × (previous.count ≤ 8)
begins-count text (lattice inverted c fit cut) = let few = leading-few inverted in (omega arith, omega arith, omega arith)
begins-count text (rotation {found = found} o f a begins cut start few says) =
    let (low, high, most) = begins-count text begins in
    let longer = length-append found (o ∷ []) in
    (omega arith, omega arith, omega arith)

-- A symbol has 1 to 9 generators.
pub symbol-count : (text : List ℕ) (c : Centering) (gs : List Operation) → Spells text c gs → (1 ≤ length gs) × (length gs ≤ 9)
symbol-count text c gs h =
    let (low, high, most) = begins-count text h.begins in
    let same : length gs ≡ length h.found = ap length h.generators ∙ length-map h.found (shifted (shift_by h.v)) in
    let some = h.some in
    (omega arith, omega arith)

-- There are nine slots in every answer.
pub nine-slots : (text : List ℕ) → length (answer_of (read_symbol text)).generators ≡ 9
nine-slots text = go (read_symbol text) (read-says text)
  where
    go : (r : Reading) → Says text r → length (answer_of r).generators ≡ 9
    go (symbol c gs) h =
        let (low, high) = symbol-count text c gs h in
        let rest = length-replicate (9 - length gs) identity_operation in
        length-append gs (replicate (9 - length gs) identity_operation) ∙ omega arith
    go (refusal r) h = refl

-- ---- the place
-- The place up to which a text begins well is the length of what stands before the rest.
pub begins-place : (text : List ℕ) {c : Centering} {found : List Operation} {previous : Previous} {p : ℕ} {s : List ℕ} → Begins text c found previous p s
    → (before : List ℕ) × (text ≡ before ++ s) × (length before ≡ p)
begins-place text (lattice {w} {after} inverted c fit cut) =
    let t = lattice_spelling inverted c in
    (w ++ t, cut.text ∙ sym (append_assoc w t after), length-append w t)
begins-place text (rotation {p = p} {s} {w} {t} {after} o f a begins cut start few says) =
    let (before, split, long) = begins-place text begins in (
      before ++ (w ++ t),
      split ∙ ap (λ (l : List ℕ). before ++ l) (cut.text ∙ sym (append_assoc w t after)) ∙ sym (append_assoc before (w ++ t) after),
      length-append before (w ++ t) ∙ omega (arith, length-append w t),
    )

-- ---- the generators
-- Every one has entries in −1..1 and a translation 0 to 11.
abbrev pub AllReduced : List Operation → Type 0
AllReduced [] = Unit {0}
AllReduced (o ∷ os) = Reduced o × AllReduced os

reduced-snoc : (os : List Operation) (o : Operation) → AllReduced os → Reduced o → AllReduced (os ++ (o ∷ []))
reduced-snoc [] o h k = (k, tt)
reduced-snoc (a ∷ os) o h k = (h.0, reduced-snoc os o h.1 k)

leading-reduced : (inverted : Bool) → AllReduced (leading inverted)
leading-reduced true = (
  record {
    digits = omega arith;
    x = omega arith;
    y = omega arith;
    z = omega arith;
  },
  tt,
)
leading-reduced false = tt

begins-reduced : (text : List ℕ) {c : Centering} {found : List Operation} {previous : Previous} {p : ℕ} {s : List ℕ} → Begins text c found previous p s
    → AllReduced found
begins-reduced text (lattice inverted c fit cut) = leading-reduced inverted
begins-reduced text (rotation {found = found} {previous} {t = t} o f a begins cut start few says) =
    reduced-snoc found o (begins-reduced text begins) (read-reduced t previous o f a ((answers-exact t previous (Ok (o, f, a))).1 says))

generator-reduced : (v : Translation) (o : Operation) → Reduced o → Reduced (shifted v o)
unfolding shifted shifted_coordinate
generator-reduced v o r = record { digits = r.digits; x = residue-lt _; y = residue-lt _; z = residue-lt _ }

shifted-reduced : (v : Translation) (os : List Operation) → AllReduced os → AllReduced (map (shifted v) os)
shifted-reduced v [] h = tt
shifted-reduced v (o ∷ os) h = (generator-reduced v o h.0, shifted-reduced v os h.1)

pub symbol-reduced : (text : List ℕ) (c : Centering) (gs : List Operation) → Spells text c gs → AllReduced gs
symbol-reduced text c gs h = rw h.generators (shifted-reduced (shift_by h.v) h.found (begins-reduced text h.begins))
