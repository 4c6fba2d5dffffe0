-- The table has every turn: a matrix with entries in −1..1 that turns about an axis by a fold is the one listed for them, and no other can stand there.
-- The columns of such a matrix are as long as the edges that they are the images of, which leaves few enough to try them all.
use Rattle.std.specs.Prelude.{◌≡◌, refl, ◌↔◌, Bool, true, false, ◌&&◌, ℕ, zero, suc, ◌≤◌, T, eqb, ℤ, None, Option, Some}
use Rattle.std.proofs.Common.{sym, ap, true≢false, arith, eqb-true}
use Rattle.std.proofs.Math.Bool.{and-eq-true_iff}
use mathlib.Core.List.Memᴰ.{head as here}
use mathlib.Core.List.Memᴰ.{tail as there}
use mathlib.Core.List.{List, [], ◌∷◌, Memᴰ as Mem}
use Rattle.std.proofs.Math.IntN.{one}
use Rattle.laws.specs.Integer.{nought, ◌⊖◌}
use Rattle.laws.specs.Matrix.{Matrix, Vector, dot, times, act, origin, unit, determinant}
use Rattle.laws.specs.Truth.{all, all-member, T_true, true-T}
use Rattle.laws.specs.SameMatrix.{same_integer, same_row, same_matrix, integer-exact}
use Rattle.operation.specs.Meaning.{entry_of, matrix_of, rotation≡}
use Rattle.operation.specs.declared.Rotation.{Rotation}
use Rattle.hall_axes.specs.declared.Fold.{Fold}
use Rattle.hall_axes.specs.declared.Fold.TheVariants.{One, Two, Three, Four, Six}
use Rattle.hall_axes.specs.declared.Mark.{Mark}
use Rattle.hall_axes.specs.declared.Mark.TheVariants.{Unmarked, Single, Double}
use Rattle.hall_axes.specs.declared.Direction.{Direction}
use Rattle.hall_axes.specs.declared.Direction.TheVariants.{X, Y, Z, Diagonal}
use Rattle.hall_axes.specs.declared.Axis.{Axis}
use Rattle.hall_axes.specs.Axes.{axis}
use Rattle.hall_axes.specs.Matrices.{rows, turns, is_for, turn_among, turn_of}
use Rattle.hall_axes.specs.Turning.{vector, axis_vector, power, metric, transposed, volume, TurnsAbout}
use Rattle.hall_axes.specs.TurnTest.{same_vector, row_digits, all_digits, isometric, none_unit, of_order, nonnegative, positive_at, positive, about, identity_axis, turns_right, isometric-exact, turns-exact}
use Rattle.hall_axes.specs.Turns.{turn-rule}

-- ---- a test of every digit, and of every column of three

each_digit : (ℕ → Bool) → Bool
each_digit test = test 0 && (test 1 && test 2)

each-digit : (test : ℕ → Bool) → each_digit test ≡ true → (d : ℕ) → d ≤ 2 → test d ≡ true
unfolding each_digit
each-digit test e d h = go d h
  where
    first : (test 0 ≡ true) × (test 1 && test 2 ≡ true)
    first = (and-eq-true_iff (test 0) (test 1 && test 2)).0 e

    rest : (test 1 ≡ true) × (test 2 ≡ true)
    rest = (and-eq-true_iff (test 1) (test 2)).0 first.1

    go : (d : ℕ) → d ≤ 2 → test d ≡ true
    go zero k = first.0
    go (suc zero) k = rest.0
    go (suc (suc zero)) k = rest.1
    go (suc (suc (suc n))) k = absurd (omega arith)

each_column : (ℕ → ℕ → ℕ → Bool) → Bool
each_column test = each_digit (λ a. each_digit (λ b. each_digit (λ c. test a b c)))

each-column : (test : ℕ → ℕ → ℕ → Bool) → each_column test ≡ true → (a b c : ℕ) → a ≤ 2 → b ≤ 2 → c ≤ 2 → test a b c ≡ true
unfolding each_column
each-column test e a b c h k l =
    let first = each-digit (λ a. each_digit (λ b. each_digit (λ c. test a b c))) e a h in
    each-digit (λ c. test a b c) (each-digit (λ b. each_digit (λ c. test a b c)) first b k) c l

-- A test that is asked only where another one passes.
asked : Bool → (Unit {0} → Bool) → Bool
asked true test = test tt
asked false test = true

asked-true : (t : Bool) (test : Unit {0} → Bool) → asked t test ≡ true → t ≡ true → test tt ≡ true
unfolding asked
asked-true true test e h = e
asked-true false test e h = absurd (true≢false (sym h))

-- ---- the columns

abbrev column : ℕ → ℕ → ℕ → Vector
column a b c = vector (entry_of a) (entry_of b) (entry_of c)

-- The product of two vectors by a metric.
abbrev inner : Matrix → Vector → Vector → ℤ
inner G v w =
    let x = dot G.xx G.xy G.xz w.x w.y w.z in
    let y = dot G.yx G.yy G.yz w.x w.y w.z in
    let z = dot G.zx G.zy G.zz w.x w.y w.z in
    dot v.x v.y v.z x y z

-- ---- every matrix that passes is listed

same_rotation : Rotation → Rotation → Bool
same_rotation r s =
    (eqb r.xx s.xx && (eqb r.xy s.xy && eqb r.xz s.xz))
    && ((eqb r.yx s.yx && (eqb r.yy s.yy && eqb r.yz s.yz))
    && (eqb r.zx s.zx && (eqb r.zy s.zy && eqb r.zz s.zz)))

three-digits : (a b c x y z : ℕ) → eqb a x && (eqb b y && eqb c z) ≡ true → (a ≡ x) × (b ≡ y) × (c ≡ z)
three-digits a b c x y z e =
    let first = (and-eq-true_iff (eqb a x) (eqb b y && eqb c z)).0 e in
    let rest = (and-eq-true_iff (eqb b y) (eqb c z)).0 first.1 in
    (eqb-true a x first.0, eqb-true b y rest.0, eqb-true c z rest.1)

same-rotation : (r s : Rotation) → same_rotation r s ≡ true → r ≡ s
unfolding same_rotation
same-rotation r s e =
    let first = (and-eq-true_iff (eqb r.xx s.xx &&
    (eqb r.xy s.xy && eqb r.xz s.xz)) ((eqb r.yx s.yx && (eqb r.yy s.yy && eqb r.yz s.yz)) && (eqb r.zx s.zx &&
    (eqb r.zy s.zy && eqb r.zz s.zz)))).0 e in
    let rest = (and-eq-true_iff (eqb r.yx s.yx && (eqb r.yy s.yy && eqb r.yz s.yz)) (eqb r.zx s.zx &&
    (eqb r.zy s.zy && eqb r.zz s.zz))).0 first.1 in
    let p = three-digits r.xx r.xy r.xz s.xx s.xy s.xz first.0 in
    let q = three-digits r.yx r.yy r.yz s.yx s.yy s.yz rest.0 in
    let t = three-digits r.zx r.zy r.zz s.zx s.zy s.zz rest.1 in
    rotation≡ p.0 p.1 p.2 q.0 q.1 q.2 t.0 t.1 t.2

is_given : Option Rotation → Rotation → Bool
is_given (Some s) r = same_rotation s r
is_given None r = false

is-given : (t : Option Rotation) (r : Rotation) → is_given t r ≡ true → t ≡ Some r
unfolding is_given
is-given (Some s) r e = ap Some (same-rotation s r e)
is-given None r e = absurd (true≢false (sym e))

-- A rotation that turns about an axis by a fold is the one listed for them, for every fold and axis.
abbrev folds : List Fold
folds = One ∷ Two ∷ Three ∷ Four ∷ Six ∷ []

abbrev axes : List Axis
axes =
    axis Unmarked X ∷ axis Unmarked Y ∷ axis Unmarked Z ∷ axis Unmarked Diagonal
    ∷ axis Single X ∷ axis Single Y ∷ axis Single Z ∷ axis Single Diagonal
    ∷ axis Double X ∷ axis Double Y ∷ axis Double Z ∷ axis Double Diagonal
    ∷ []

fold-listed : (f : Fold) → Mem f folds
fold-listed One = here refl
fold-listed Two = there (here refl)
fold-listed Three = there (there (here refl))
fold-listed Four = there (there (there (here refl)))
fold-listed Six = there (there (there (there (here refl))))

axis-listed : (m : Mark) (d : Direction) → Mem (axis m d) axes
axis-listed Unmarked X = here refl
axis-listed Unmarked Y = there (here refl)
axis-listed Unmarked Z = there (there (here refl))
axis-listed Unmarked Diagonal = there (there (there (here refl)))
axis-listed Single X = there (there (there (there (here refl))))
axis-listed Single Y = there (there (there (there (there (here refl)))))
axis-listed Single Z = there (there (there (there (there (there (here refl))))))
axis-listed Single Diagonal = there (there (there (there (there (there (there (here refl)))))))
axis-listed Double X = there (there (there (there (there (there (there (there (here refl))))))))
axis-listed Double Y = there (there (there (there (there (there (there (there (there (here refl)))))))))
axis-listed Double Z = there (there (there (there (there (there (there (there (there (there (here refl))))))))))
axis-listed Double Diagonal = there (there (there (there (there (there (there (there (there (there (there (here refl)))))))))))

only_for : Rotation → Fold → Axis → Bool
only_for r f a = asked (turns_right f a r) (λ u. is_given (turn_of f a) r)

only_named : Rotation → Bool
only_named r = all (λ f. all (only_for r f) axes) folds

-- The matrices that keep a metric, tried column by column: the second and the third only where those before them are as long as they should be.
third_columns : Matrix → ℕ → ℕ → ℕ → ℕ → ℕ → ℕ → Bool
third_columns G xx yx zx xy yy zy =
    each_column (λ xz yz zz.
    asked (same_integer (inner G (column xz yz zz) (column xz yz zz)) G.zz) (λ u.
    asked (isometric G (matrix_of (rows xx xy xz yx yy yz zx zy zz))) (λ w. only_named (rows xx xy xz yx yy yz zx zy zz))))

second_columns : Matrix → ℕ → ℕ → ℕ → Bool
second_columns G xx yx zx =
    each_column (λ xy yy zy.
    asked (same_integer (inner G (column xx yx zx) (column xy yy zy)) G.xy) (λ u.
    asked (same_integer (inner G (column xy yy zy) (column xy yy zy)) G.yy) (λ w. third_columns G xx yx zx xy yy zy)))

only_listed : Matrix → Bool
only_listed G =
    each_column (λ xx yx zx. asked (same_integer (inner G (column xx yx zx) (column xx yx zx)) G.xx) (λ u. second_columns G xx yx zx))

-- The cube and the three nets of hexagons.
metrics : List Matrix
metrics = metric One Unmarked Z ∷ metric Three Unmarked X ∷ metric Three Unmarked Y ∷ metric Three Unmarked Z ∷ []

metric-listed : (f : Fold) (m : Mark) (d : Direction) → Mem (metric f m d) metrics
unfolding metrics metric
metric-listed One m d = here refl
metric-listed Two m d = here refl
metric-listed Three Unmarked X = there (here refl)
metric-listed Three Unmarked Y = there (there (here refl))
metric-listed Three Unmarked Z = there (there (there (here refl)))
metric-listed Three Unmarked Diagonal = here refl
metric-listed Three Single d = here refl
metric-listed Three Double d = here refl
metric-listed Four m d = here refl
metric-listed Six Unmarked X = there (here refl)
metric-listed Six Unmarked Y = there (there (here refl))
metric-listed Six Unmarked Z = there (there (there (here refl)))
metric-listed Six Unmarked Diagonal = here refl
metric-listed Six Single d = here refl
metric-listed Six Double d = here refl

-- No other matrix passes.
only-listed : T (all only_listed metrics)
unfolding all metrics only_listed second_columns third_columns each_column each_digit asked only_for only_named is_given same_rotation turn_of turn_among
    is_for turns turns_right all_digits row_digits same_row same_matrix same_vector isometric of_order none_unit nonnegative positive positive_at about
    identity_axis power metric transposed volume axis_vector matrix_of entry_of determinant times act origin unit one nought ◌⊖◌
only-listed = tt

listed-turn : (f : Fold) (a : Axis) (r : Rotation) → TurnsAbout f a r → turn_of f a ≡ Some r
unfolding only_listed second_columns third_columns only_named only_for matrix_of transposed times
listed-turn f a r h =
    let G = metric f a.mark a.direction in
    let kept = h.keeps-metric in
    let d = h.digits in
    let every = T_true (all-member only_listed only-listed (metric-listed f a.mark a.direction)) in
    let first = each-column _ every r.xx r.yx r.zx d.xx d.yx d.zx in
    let long = asked-true _ _ first ((integer-exact _ G.xx).1 (ap (λ (A : Matrix). A.xx) kept)) in
    let second = each-column _ long r.xy r.yy r.zy d.xy d.yy d.zy in
    let upright = asked-true _ _ second ((integer-exact _ G.xy).1 (ap (λ (A : Matrix). A.xy) kept)) in
    let long-too = asked-true _ _ upright ((integer-exact _ G.yy).1 (ap (λ (A : Matrix). A.yy) kept)) in
    let third = each-column _ long-too r.xz r.yz r.zz d.xz d.yz d.zz in
    let right = asked-true _ _ third ((integer-exact _ G.zz).1 (ap (λ (A : Matrix). A.zz) kept)) in
    let named = true-T (asked-true _ _ right ((isometric-exact G (matrix_of r)).1 (kept, h.proper))) in
    let only = all-member (only_for r f) (all-member (λ f. all (only_for r f) axes) named (fold-listed f)) (axis-listed a.mark a.direction) in
    is-given (turn_of f a) r (asked-true (turns_right f a r) _ (T_true only) ((turns-exact f a r).1 h))

-- The table has a rotation for a fold and an axis exactly if it turns about that axis by that fold.
pub turn-exactly : (f : Fold) (a : Axis) (r : Rotation) → (turn_of f a ≡ Some r) ↔ TurnsAbout f a r
turn-exactly f a r = (turn-rule f a r, listed-turn f a r)

-- So there is at most one.
pub one-turn : (f : Fold) (a : Axis) (r s : Rotation) → TurnsAbout f a r → TurnsAbout f a s → r ≡ s
one-turn f a r s h k =
    let e = listed-turn f a r h in
    let g = listed-turn f a s k in
    cc
