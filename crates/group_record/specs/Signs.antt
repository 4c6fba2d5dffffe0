-- The letters of records: those of the lattices, and p and c of layer groups, whose lattices are those of P and C (R14). Under a small letter every
-- operation must be one of a layer.
use Rattle.std.specs.Prelude.{◌≡◌, refl, ◌↔◌, Bool, true, false, cond, ℕ, eqb, None, Option as Maybe, Some}
use Rattle.std.proofs.Common.{sym, ◌∙◌, ap, inl, inr, true≢false, arith, eqb-true}
use mathlib.Core.List.{List, Memᴰ as Mem}
use Rattle.std.proofs.Math.Option.{Option, none, some}
use Rattle.laws.specs.Truth.{all, all_true}
use Rattle.operation.specs.Entries.{digits-entries}
use Rattle.operation.specs.Meaning.{motion_of}
use Rattle.operation.specs.declared.Operation.{Operation}
use Rattle.centering.specs.Letters.{letters, byte_of, letter_of}
use Rattle.centering.specs.LatticeLaws.{letter-by-byte, among-byte}
use Rattle.centering.specs.declared.Centering.{Centering}
use Rattle.centering.specs.declared.Centering.TheVariants.{P, A, B, C, I, R, F, H}
use Rattle.layer_group.specs.Answers.{small_of}
use Rattle.layer_group.specs.Layers.{LayerMotion, is_layer}
use Rattle.layer_group.specs.Motions.{test-exactly}
use Rattle.layer_group.specs.Spelling.{OfLayer}
use Rattle.group_record.specs.Groups.{Form}
use Rattle.group_record.specs.Rules.{Spelled}
use Rattle.group_record.specs.declared.sign.Sign.{Sign}
use Rattle.group_record.specs.declared.sign.Sign.TheVariants.{Plain, SmallP, SmallC}

-- A letter is told by whether it is small and by its lattice.
abbrev pub is_small : Sign → Bool
is_small (Plain c) = false
is_small SmallP = true
is_small SmallC = true

abbrev pub lattice_of : Sign → Centering
lattice_of (Plain c) = c
lattice_of SmallP = P
lattice_of SmallC = C

pub sign-told : (s t : Sign) → is_small s ≡ is_small t → lattice_of s ≡ lattice_of t → s ≡ t
sign-told (Plain c) (Plain d) p q = ap Plain q
sign-told (Plain c) SmallP p q = absurd (true≢false (sym p))
sign-told (Plain c) SmallC p q = absurd (true≢false (sym p))
sign-told SmallP (Plain d) p q = absurd (true≢false p)
sign-told SmallC (Plain d) p q = absurd (true≢false p)
sign-told SmallP SmallP p q = refl
sign-told SmallC SmallC p q = refl
sign-told SmallP SmallC p q = let z : byte_of P ≡ byte_of C = ap byte_of q in absurd (omega arith)
sign-told SmallC SmallP p q = let z : byte_of C ≡ byte_of P = ap byte_of q in absurd (omega arith)

-- The lattice of a small letter is that of a layer.
pub small-lattice : (s : Sign) → is_small s ≡ true → OfLayer (lattice_of s)
small-lattice (Plain c) e = absurd (true≢false (sym e))
small-lattice SmallP e = inl refl
small-lattice SmallC e = inr refl

-- ---- bytes
-- The letter that a byte spells.
abbrev pub letter_in : Maybe Centering → Option Centering
letter_in (Some c) = some c
letter_in None = none

pub spelled-letter : (b : ℕ) (c : Centering) (a : Maybe Centering) → letter_of b ≡ a → letter_in a ≡ some c → b ≡ byte_of c
unfolding letter_of
spelled-letter b c (Some d) e q = let same : d ≡ c = cc in among-byte b letters d e ∙ ap byte_of same
spelled-letter b c None e q = let z : ◌≡◌ {A = ℕ} 0 1 = cc in absurd (omega arith)

-- The letters of the lattices.
abbrev pub lattice_letters : Spelled byte_of
lattice_letters =
    record { from = λ b. letter_in (letter_of b); there = λ c. ap letter_in (letter-by-byte c); back = λ b c e. spelled-letter b c (letter_of b) refl e }

abbrev pub letter_byte : Bool → Centering → ℕ
letter_byte true c = small_of c
letter_byte false c = byte_of c

abbrev pub sign_byte : Sign → ℕ
sign_byte s = letter_byte (is_small s) (lattice_of s)

-- How a byte is read: p, c, or the letter of a lattice.
abbrev pub plain_in : Maybe Centering → Option Sign
plain_in (Some c) = some (Plain c)
plain_in None = none

unfoldable pub sign_of : ℕ → Option Sign
sign_of b = cond (eqb b 112) (some SmallP) (cond (eqb b 99) (some SmallC) (plain_in (letter_of b)))

pub sign-there : (s : Sign) → sign_of (sign_byte s) ≡ some s
unfolding sign_of
sign-there (Plain P) = ap plain_in (letter-by-byte P)
sign-there (Plain A) = ap plain_in (letter-by-byte A)
sign-there (Plain B) = ap plain_in (letter-by-byte B)
sign-there (Plain C) = ap plain_in (letter-by-byte C)
sign-there (Plain I) = ap plain_in (letter-by-byte I)
sign-there (Plain R) = ap plain_in (letter-by-byte R)
sign-there (Plain F) = ap plain_in (letter-by-byte F)
sign-there (Plain H) = ap plain_in (letter-by-byte H)
sign-there SmallP = refl
sign-there SmallC = refl

pub sign-back : (b : ℕ) (s : Sign) → sign_of b ≡ some s → b ≡ sign_byte s
unfolding sign_of
sign-back b s e = by-p (eqb b 112) refl e
  where
    by-letter : (a : Maybe Centering) → letter_of b ≡ a → plain_in a ≡ some s → b ≡ sign_byte s
    by-letter (Some c) p q = let same : Plain c ≡ s = cc in spelled-letter b c (Some c) p refl ∙ ap sign_byte same
    by-letter None p q = let z : ◌≡◌ {A = ℕ} 0 1 = cc in absurd (omega arith)

    by-c : (t : Bool) → eqb b 99 ≡ t → cond t (some SmallC) (plain_in (letter_of b)) ≡ some s → b ≡ sign_byte s
    by-c true p q = let same : SmallC ≡ s = cc in eqb-true b 99 p ∙ ap sign_byte same
    by-c false p q = by-letter (letter_of b) refl q

    by-p : (t : Bool) → eqb b 112 ≡ t → cond t (some SmallP) (cond (eqb b 99) (some SmallC) (plain_in (letter_of b))) ≡ some s → b ≡ sign_byte s
    by-p true p q = let same : SmallP ≡ s = cc in eqb-true b 112 p ∙ ap sign_byte same
    by-p false p q = by-c (eqb b 99) refl q

abbrev pub record_signs : Spelled sign_byte
record_signs = record { from = sign_of; there = sign-there; back = sign-back }

-- ---- the rule of layers
-- Every operation is one of a layer.
abbrev pub AllOfLayer : List Operation → Type 0
AllOfLayer l = (f : Operation) → Mem f l → LayerMotion (motion_of f)

-- It is asked under a small letter.
abbrev pub layers_if : Bool → List Operation → Bool
layers_if true l = all is_layer l
layers_if false l = true

abbrev pub LayersIf : Bool → List Operation → Type 0
LayersIf true l = AllOfLayer l
LayersIf false l = Unit {0}

pub layers-test : (small : Bool) (c : Centering) (l : List Operation) → Form c l → (layers_if small l ≡ true) ↔ LayersIf small l
layers-test true c l form = (
  (λ e f m. (listed f m).0 ((all_true is_layer l).0 e f m)),
  λ h. (all_true is_layer l).1 (λ f m. (listed f m).1 (h f m)),
)
  where
    listed : (f : Operation) → Mem f l → (is_layer f ≡ true) ↔ LayerMotion (motion_of f)
    listed f m = test-exactly f ((digits-entries f.rotation).1 (form.entries f m)) (form.smallest f m).below.2
layers-test false c l form = ((λ e. tt), λ u. refl)
