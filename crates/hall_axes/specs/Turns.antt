-- The twenty matrices are what their names say, and no others are: the table has a rotation for a fold and an axis exactly if it turns about that axis by
-- that fold. The table's rotations pass the test of the rule, and so does no other matrix with entries in −1..1: both are computed.
use Rattle.std.specs.Prelude.{◌≡◌, refl, Bool, true, false, cond, ◌&&◌, List, [], ◌∷◌, ℕ, zero, suc, ◌-◌, ◌≤◌, eqb, length, neg_ℤ, ◌*ℤ◌, Some}
use Rattle.std.proofs.Common.{sym, ◌∙◌, ap, arith, eqb-true}
use Rattle.std.proofs.Math.Bool.{and-eq-true_iff}
use Rattle.std.proofs.Math.IntN.{one}
use Rattle.laws.specs.Integer.{nought, ◌⊖◌}
use Rattle.laws.specs.Matrix.{times, act, origin, unit, determinant, scaled, matrix≡}
use Rattle.laws.specs.SameMatrix.{same_row, same_matrix}
use Rattle.operation.specs.Meaning.{entry_of, matrix_of, Digits}
use Rattle.operation.specs.declared.Rotation.{Rotation}
use Rattle.hall_axes.specs.declared.Fold.{Fold}
use Rattle.hall_axes.specs.declared.Fold.TheVariants.{One, Two, Three, Four, Six}
use Rattle.hall_axes.specs.declared.Mark.{Mark}
use Rattle.hall_axes.specs.declared.Mark.TheVariants.{Unmarked, Single, Double}
use Rattle.hall_axes.specs.declared.Direction.{Direction}
use Rattle.hall_axes.specs.declared.Direction.TheVariants.{X, Y, Z, Diagonal}
use Rattle.hall_axes.specs.declared.Axis.{Axis}
use Rattle.hall_axes.specs.Axes.{fold_number}
use Rattle.hall_axes.specs.Matrices.{Listed, turns, mark_number, direction_number, is_for, turn_among, turn_of, signed}
use Rattle.hall_axes.specs.Turning.{axis_vector, power, metric, transposed, volume, TurnsAbout}
use Rattle.hall_axes.specs.TurnTest.{same_vector, row_digits, all_digits, isometric, none_unit, of_order, nonnegative, positive_at, positive, about, identity_axis, turns_right, turns-exact}

-- ---- the table

all_right : List Listed → Bool
all_right [] = true
all_right (t ∷ ts) = turns_right t.fold t.about t.rotation && all_right ts

pub twenty-turns : length turns ≡ 20
unfolding turns
twenty-turns = refl

-- All twenty pass.
all_right_lem : all_right turns ≡ true
unfolding all_right turns_right turns all_digits row_digits same_row same_matrix same_vector isometric of_order none_unit nonnegative positive positive_at
    about identity_axis power metric transposed volume axis_vector matrix_of entry_of determinant times act origin unit one nought ◌⊖◌
all_right_lem = refl

-- Folds, marks and directions are told apart by their numbers.
numbered_fold : ℕ → Fold
numbered_fold zero = One
numbered_fold (suc zero) = One
numbered_fold (suc (suc zero)) = Two
numbered_fold (suc (suc (suc zero))) = Three
numbered_fold (suc (suc (suc (suc zero)))) = Four
numbered_fold (suc (suc (suc (suc (suc n))))) = Six

fold-again : (f : Fold) → numbered_fold (fold_number f) ≡ f
unfolding numbered_fold
fold-again One = refl
fold-again Two = refl
fold-again Three = refl
fold-again Four = refl
fold-again Six = refl

numbered_mark : ℕ → Mark
numbered_mark zero = Unmarked
numbered_mark (suc zero) = Single
numbered_mark (suc (suc n)) = Double

mark-again : (m : Mark) → numbered_mark (mark_number m) ≡ m
unfolding numbered_mark
mark-again Unmarked = refl
mark-again Single = refl
mark-again Double = refl

numbered_direction : ℕ → Direction
numbered_direction zero = X
numbered_direction (suc zero) = Y
numbered_direction (suc (suc zero)) = Z
numbered_direction (suc (suc (suc n))) = Diagonal

direction-again : (d : Direction) → numbered_direction (direction_number d) ≡ d
unfolding numbered_direction
direction-again X = refl
direction-again Y = refl
direction-again Z = refl
direction-again Diagonal = refl

-- What is listed for a fold and an axis has that fold and that axis.
listed-for : (f : Fold) (a : Axis) (t : Listed) → is_for f a t ≡ true → (f ≡ t.fold) × (a ≡ t.about)
unfolding is_for
listed-for f a t e =
    let first = (and-eq-true_iff (eqb (fold_number f) (fold_number t.fold)) (eqb (mark_number a.mark) (mark_number t.about.mark) && eqb
    (direction_number a.direction) (direction_number t.about.direction))).0 e in
    let rest = (and-eq-true_iff (eqb (mark_number a.mark) (mark_number t.about.mark)) (eqb (direction_number a.direction)
    (direction_number t.about.direction))).0 first.1 in
    let f≡ = sym (fold-again f) ∙ ap numbered_fold (eqb-true _ _ first.0) ∙ fold-again t.fold in
    let m≡ = sym (mark-again a.mark) ∙ ap numbered_mark (eqb-true _ _ rest.0) ∙ mark-again t.about.mark in
    let d≡ = sym (direction-again a.direction) ∙ ap numbered_direction (eqb-true _ _ rest.1) ∙ direction-again t.about.direction in
    (f≡, λ i. record { mark = m≡ i; direction = d≡ i })

among-right : (f : Fold) (a : Axis) (r : Rotation) (ts : List Listed) → all_right ts ≡ true → turn_among f a ts ≡ Some r → TurnsAbout f a r
unfolding all_right turn_among
among-right f a r [] h e = let z : ◌≡◌ {A = ℕ} 0 1 = cc in absurd (omega arith)
among-right f a r (t ∷ ts) h e = go (is_for f a t) refl (among-right f a r ts both.1)
  where
    both : (turns_right t.fold t.about t.rotation ≡ true) × (all_right ts ≡ true)
    both = (and-eq-true_iff (turns_right t.fold t.about t.rotation) (all_right ts)).0 h

    go : (b : Bool) → is_for f a t ≡ b → (turn_among f a ts ≡ Some r → TurnsAbout f a r) → TurnsAbout f a r
    go true i below =
        let same-fold-axis = listed-for f a t i in
        let r≡ : t.rotation ≡ r = cc (sym (ap (λ (c : Bool). cond c (Some t.rotation) (turn_among f a ts)) i) ∙ e) in
        rw (same-fold-axis.0, same-fold-axis.1, ← r≡) ((turns-exact t.fold t.about t.rotation).0 both.0)
    go false i below = below (sym (ap (λ (c : Bool). cond c (Some t.rotation) (turn_among f a ts)) i) ∙ e)

-- What the table gives to a fold and an axis is a rotation of that fold about that axis.
pub turn-rule : (f : Fold) (a : Axis) (r : Rotation) → turn_of f a ≡ Some r → TurnsAbout f a r
unfolding turn_of
turn-rule f a r e = among-right f a r turns all_right_lem e

-- ---- the sign

entry-negated : (d : ℕ) → d ≤ 2 → entry_of (2 - d) ≡ neg_ℤ one *ℤ entry_of d
unfolding entry_of one
entry-negated zero h = refl
entry-negated (suc zero) h = refl
entry-negated (suc (suc zero)) h = refl
entry-negated (suc (suc (suc n))) h = absurd (omega arith)

-- A `-` negates every entry.
pub signed-matrix : (r : Rotation) → Digits r → matrix_of (signed true r) ≡ scaled (neg_ℤ one) (matrix_of r)
unfolding matrix_of signed scaled
signed-matrix r d =
    matrix≡
    (entry-negated r.xx d.xx)
    (entry-negated r.xy d.xy)
    (entry-negated r.xz d.xz)
    (entry-negated r.yx d.yx)
    (entry-negated r.yy d.yy)
    (entry-negated r.yz d.yz)
    (entry-negated r.zx d.zx)
    (entry-negated r.zy d.zy)
    (entry-negated r.zz d.zz)

-- With or without a `-`, the entries stay in −1..1.
pub signed-digits : (n : Bool) (r : Rotation) → Digits r → Digits (signed n r)
unfolding signed
signed-digits true r d = omega arith
signed-digits false r d = d
