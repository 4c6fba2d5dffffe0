-- The bytes of an N token, as R1.5 lists them: folds, marks, axis letters, and what may stand in the run after them.
use Rattle.std.specs.Prelude.{◌≡◌, refl, Bool, true, false, cond, ◌&&◌, List, [], ◌∷◌, ℕ, eqb, Option, Some, None}
use Rattle.std.proofs.Math.Bool.{and-eq-true_iff}
use Rattle.std.proofs.Common.{sym, ◌∙◌, true≢false, eqb-true, eq-eqb, ne_eqb}
use Rattle.hall_axes.specs.declared.Fold.{Fold}
use Rattle.hall_axes.specs.declared.Fold.TheVariants.{One, Two, Three, Four, Six}
use Rattle.hall_axes.specs.declared.Mark.{Mark}
use Rattle.hall_axes.specs.declared.Mark.TheVariants.{Unmarked, Single, Double}
use Rattle.hall_axes.specs.declared.Direction.TheVariants.{X, Y, Z, Diagonal}
use Rattle.hall_token.specs.declared.RunByte.{RunByte}
use Rattle.hall_token.specs.declared.RunByte.TheVariants.{Screw, Letter, Prime, Foreign}
use Rattle.hall_axes.specs.declared.Direction.{Direction}

-- A byte and what it says.
pub record Entry (A : Type 0) : Type 0 where
  pub byte : ℕ
  pub says : A

infix 70 ◌says◌
abbrev pub ◌says◌ : {A : Type 0} → ℕ → A → Entry A
b says a = record { byte = b; says = a }

-- What a byte says by a table, or `other` where the table does not have it.
unfoldable pub value_at : {A : Type 0} → A → List (Entry A) → ℕ → A
value_at other [] b = other
value_at other (e ∷ es) b = cond (eqb b e.byte) e.says (value_at other es b)

abbrev pub folds : List (Entry (Option Fold))
folds = 49 says Some One ∷ 50 says Some Two ∷ 51 says Some Three ∷ 52 says Some Four ∷ 54 says Some Six ∷ []

-- `^` and `=`
abbrev pub marks : List (Entry Mark)
marks = 94 says Single ∷ 61 says Double ∷ []

-- x y z `*`
abbrev pub axis_letters : List (Entry (Option Direction))
axis_letters = 120 says Some X ∷ 121 says Some Y ∷ 122 says Some Z ∷ 42 says Some Diagonal ∷ []

abbrev pub twelfths : ℕ → ℕ → ℕ → RunByte
twelfths a b c = Letter (record { x = a; y = b; z = c })

-- Digits 1 to 6, letters a b c n u v w d with their translations in twelfths, and `'`.
abbrev pub run_bytes : List (Entry RunByte)
run_bytes =
    49 says Screw 1 ∷ 50 says Screw 2 ∷ 51 says Screw 3 ∷ 52 says Screw 4 ∷ 53 says Screw 5 ∷ 54 says Screw 6
    ∷ 97 says twelfths 6 0 0 ∷ 98 says twelfths 0 6 0 ∷ 99 says twelfths 0 0 6 ∷ 110 says twelfths 6 6 6
    ∷ 117 says twelfths 3 0 0 ∷ 118 says twelfths 0 3 0 ∷ 119 says twelfths 0 0 3 ∷ 100 says twelfths 3 3 3
    ∷ 39 says Prime ∷ []

unfoldable pub fold_of : ℕ → Option Fold
fold_of b = value_at Option.None folds b

unfoldable pub mark_of : ℕ → Mark
mark_of b = value_at Unmarked marks b

unfoldable pub letter_of : ℕ → Option Direction
letter_of b = value_at None axis_letters b

unfoldable pub run_byte_of : ℕ → RunByte
run_byte_of b = value_at Foreign run_bytes b

-- ---- a table's rule

-- A test of a byte with what it says, at each entry of a table.
unfoldable pub passes : {A : Type 0} → (ℕ → A → Bool) → List (Entry A) → Bool
passes test [] = true
passes test (e ∷ es) = test e.byte e.says && passes test es

-- A test that each entry passes, and every byte with `other`, is passed by every byte with what it says.
pub value_at-passes : {A : Type 0} (test : ℕ → A → Bool) (other : A) (es : List (Entry A)) → ((b : ℕ) → test b other ≡ true) → passes test es ≡ true
    → (b : ℕ) → test b (value_at other es b) ≡ true
unfolding value_at passes
value_at-passes test other [] o p b = o b
value_at-passes test other (e ∷ es) o p b = go (eqb b e.byte) refl (value_at-passes test other es o
    ((and-eq-true_iff (test e.byte e.says) (passes test es)).0 p).1 b)
  where
    go : (t : Bool) → eqb b e.byte ≡ t → test b (value_at other es b) ≡ true → test b (cond (eqb b e.byte) e.says (value_at other es b)) ≡ true
    go true h below = rw h (rw (eqb-true b e.byte h) ((and-eq-true_iff (test e.byte e.says) (passes test es)).0 p).0)
    go false h below = rw h below

-- Which of two bytes is tested against the other says nothing.
pub eqb-flipped : (a b : ℕ) → eqb a b ≡ eqb b a
eqb-flipped a b = go (eqb a b) refl
  where
    go : (t : Bool) → eqb a b ≡ t → eqb a b ≡ eqb b a
    go true e = e ∙ sym (eq-eqb b a (sym (eqb-true a b e)))
    go false e = e ∙ sym (ne_eqb b a (λ h. true≢false (sym (eq-eqb a b (sym h)) ∙ e)))
