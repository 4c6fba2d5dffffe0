-- The rule of a turn as one test of nine digits, and that the test decides the rule: so a table is held to the rule by computing.
use Rattle.std.specs.Prelude.{◌≡◌, refl, ◌≢◌, ◌↔◌, Bool, true, false, cond, not, ◌&&◌, ℕ, zero, suc, ◌-◌, ◌<◌, ◌≤◌, eqb, leb, ℤ, pos, negsuc}
use Rattle.std.proofs.Common.{sym, ap, ⊎_elim, true≢false, arith, eq-or-lt_of_le, leb-true, le-leb}
use Rattle.std.proofs.Math.Bool.{and-eq-true_iff}
use Rattle.std.proofs.Math.IntN.{one}
use Rattle.laws.specs.Matrix.{Matrix, Vector, times, act, origin, unit, determinant, vector≡}
use Rattle.laws.specs.SameMatrix.{same_integer, integer-exact, same_row, row_same, same_row_lem, same_matrix, matrix-exact}
use Rattle.laws.specs.Truth.{T_true, true-T}
use Rattle.operation.specs.Meaning.{matrix_of, Digits}
use Rattle.operation.specs.declared.Rotation.{Rotation}
use Rattle.hall_axes.specs.declared.Fold.{Fold}
use Rattle.hall_axes.specs.declared.Fold.TheVariants.{One, Two, Three, Four, Six}
use Rattle.hall_axes.specs.declared.Mark.TheVariants.{Unmarked}
use Rattle.hall_axes.specs.declared.Direction.{Direction}
use Rattle.hall_axes.specs.declared.Direction.TheVariants.{X, Y, Z, Diagonal}
use Rattle.hall_axes.specs.declared.Axis.{Axis}
use Rattle.hall_axes.specs.Axes.{fold_number, plain, plain_z, plain-z}
use Rattle.hall_axes.specs.Turning.{axis_vector, along, power, metric, transposed, volume, TurnsAbout}

-- ---- equality of vectors as a test

unfoldable pub same_vector : Vector → Vector → Bool
same_vector v w = same_row v.x v.y v.z w.x w.y w.z

-- ---- tests, and what each stands for

vector-exact : (v w : Vector) → (same_vector v w ≡ true) ↔ (v ≡ w)
unfolding same_vector
vector-exact v w = (
  (λ e. let h = same_row_lem v.x v.y v.z w.x w.y w.z (true-T e) in vector≡ h.0 h.1 h.2),
  λ p. T_true (rw p (row_same w.x w.y w.z)),
)

not-exact : (t : Bool) → (not t ≡ true) ↔ (t ≢ true)
not-exact true = ((λ e. absurd (true≢false (sym e))), λ h. absurd (h refl))
not-exact false = ((λ e h. true≢false (sym h)), λ h. refl)

unfoldable pub row_digits : ℕ → ℕ → ℕ → Bool
row_digits a b c = leb a 2 && (leb b 2 && leb c 2)

row-digits : (a b c : ℕ) → row_digits a b c ≡ true → (a ≤ 2) × (b ≤ 2) × (c ≤ 2)
unfolding row_digits
row-digits a b c e =
    let first = (and-eq-true_iff (leb a 2) (leb b 2 && leb c 2)).0 e in
    let rest = (and-eq-true_iff (leb b 2) (leb c 2)).0 first.1 in
    (leb-true a 2 first.0, leb-true b 2 rest.0, leb-true c 2 rest.1)

digits-row : (a b c : ℕ) → a ≤ 2 → b ≤ 2 → c ≤ 2 → row_digits a b c ≡ true
unfolding row_digits
digits-row a b c h k l = rw (le-leb a 2 h, le-leb b 2 k, le-leb c 2 l)

unfoldable pub all_digits : Rotation → Bool
all_digits r = row_digits r.xx r.xy r.xz && (row_digits r.yx r.yy r.yz && row_digits r.zx r.zy r.zz)

digits-exact : (r : Rotation) → (all_digits r ≡ true) ↔ Digits r
unfolding all_digits
digits-exact r = (
  (λ e.
      let first = (and-eq-true_iff (row_digits r.xx r.xy r.xz) (row_digits r.yx r.yy r.yz && row_digits r.zx r.zy r.zz)).0 e in
      let rest = (and-eq-true_iff (row_digits r.yx r.yy r.yz) (row_digits r.zx r.zy r.zz)).0 first.1 in
      let p = row-digits r.xx r.xy r.xz first.0 in
      let q = row-digits r.yx r.yy r.yz rest.0 in
      let s = row-digits r.zx r.zy r.zz rest.1 in
      record { xx = p.0; xy = p.1; xz = p.2; yx = q.0; yy = q.1; yz = q.2; zx = s.0; zy = s.1; zz = s.2 }),
  λ d. rw (
    digits-row r.xx r.xy r.xz d.xx d.xy d.xz,
    digits-row r.yx r.yy r.yz d.yx d.yy d.yz,
    digits-row r.zx r.zy r.zz d.zx d.zy d.zz,
  ),
)

-- Lengths, angles and hands stay.
unfoldable pub isometric : Matrix → Matrix → Bool
isometric G A = same_matrix (times (transposed A) (times G A)) G && same_integer (determinant A) one

pub isometric-exact : (G A : Matrix) → (isometric G A ≡ true) ↔ ((times (transposed A) (times G A) ≡ G) × (determinant A ≡ one))
unfolding isometric
isometric-exact G A =
    let metric-test = matrix-exact (times (transposed A) (times G A)) G in
    let hand-test = integer-exact (determinant A) one in
    let both = and-eq-true_iff (same_matrix (times (transposed A) (times G A)) G) (same_integer (determinant A) one) in
    ((λ e. (metric-test.0 (both.0 e).0, hand-test.0 (both.0 e).1)), λ h. both.1 (metric-test.1 h.0, hand-test.1 h.1))

-- None of the powers 1 to n is the identity.
unfoldable pub none_unit : ℕ → Matrix → Bool
none_unit zero A = true
none_unit (suc n) A = not (same_matrix (power (suc n) A) unit) && none_unit n A

none-unit : (n : ℕ) (A : Matrix) → none_unit n A ≡ true → (k : ℕ) → 0 < k → k ≤ n → power k A ≢ unit
unfolding none_unit
none-unit zero A e k h l = absurd (omega arith)
none-unit (suc n) A e k h l =
    let both = (and-eq-true_iff (not (same_matrix (power (suc n) A) unit)) (none_unit n A)).0 e in
    ⊎_elim
    (λ (i : k ≡ suc n). rw i (λ u. (not-exact (same_matrix (power (suc n) A) unit)).0 both.0 ((matrix-exact (power (suc n) A) unit).1 u)))
    (λ (i : k < suc n). none-unit n A both.1 k h (omega arith))
    (eq-or-lt_of_le l)

unit-none : (n : ℕ) (A : Matrix) → ((k : ℕ) → 0 < k → k ≤ n → power k A ≢ unit) → none_unit n A ≡ true
unfolding none_unit
unit-none zero A h = refl
unit-none (suc n) A h =
    (and-eq-true_iff (not (same_matrix (power (suc n) A) unit)) (none_unit n A)).1 (
      (not-exact (same_matrix (power (suc n) A) unit)).1 (λ e. h (suc n) (omega arith) (omega arith) ((matrix-exact (power (suc n) A) unit).0 e)),
      unit-none n A (λ k i l. h k i (omega arith)),
    )

-- n times is a full turn, and no fewer times.
unfoldable pub of_order : ℕ → Matrix → Bool
of_order n A = same_matrix (power n A) unit && none_unit (n - 1) A

order-exact : (n : ℕ) (A : Matrix) → (of_order n A ≡ true) ↔ ((power n A ≡ unit) × ((k : ℕ) → 0 < k → k < n → power k A ≢ unit))
unfolding of_order
order-exact n A =
    let full-test = matrix-exact (power n A) unit in
    let both = and-eq-true_iff (same_matrix (power n A) unit) (none_unit (n - 1) A) in (
      (λ e. (full-test.0 (both.0 e).0, λ k h l. none-unit (n - 1) A (both.0 e).1 k h (omega arith))),
      λ h. both.1 (full-test.1 h.0, unit-none (n - 1) A (λ k i l. h.1 k i (omega arith))),
    )

unfoldable pub nonnegative : ℤ → Bool
nonnegative (pos n) = true
nonnegative (negsuc n) = false

nonnegative-exact : (a : ℤ) → (nonnegative a ≡ true) ↔ ((n : ℕ) × (a ≡ pos n))
unfolding nonnegative
nonnegative-exact (pos n) = ((λ e. (n, refl)), λ h. refl)
nonnegative-exact (negsuc n) = ((λ e. absurd (true≢false (sym e))), λ h. ap nonnegative h.1)

-- A direction that is turned the positive way about v.
unfoldable pub positive_at : Vector → Matrix → Direction → Bool
positive_at v A d = nonnegative (volume v (axis_vector Unmarked d) (act A (axis_vector Unmarked d)))

unfoldable pub positive : Vector → Matrix → Bool
positive v A = positive_at v A X && (positive_at v A Y && (positive_at v A Z && positive_at v A Diagonal))

positive-exact : (v : Vector) (A : Matrix) → (positive v A ≡ true) ↔ ((d : Direction) → (n : ℕ)
    × (volume v (axis_vector Unmarked d) (act A (axis_vector Unmarked d)) ≡ pos n))
unfolding positive positive_at
positive-exact v A = ((λ e d. (at d).0 (each e d)), λ h. rw ((at X).1 (h X), (at Y).1 (h Y), (at Z).1 (h Z), (at Diagonal).1 (h Diagonal)))
  where
    at : (d : Direction) → (positive_at v A d ≡ true) ↔ ((n : ℕ) × (volume v (axis_vector Unmarked d) (act A (axis_vector Unmarked d)) ≡ pos n))
    at d = nonnegative-exact (volume v (axis_vector Unmarked d) (act A (axis_vector Unmarked d)))

    each : positive v A ≡ true → (d : Direction) → positive_at v A d ≡ true
    each e d = go d
      where
        first : (positive_at v A X ≡ true) × (positive_at v A Y && (positive_at v A Z && positive_at v A Diagonal) ≡ true)
        first = (and-eq-true_iff (positive_at v A X) (positive_at v A Y && (positive_at v A Z && positive_at v A Diagonal))).0 e

        second : (positive_at v A Y ≡ true) × (positive_at v A Z && positive_at v A Diagonal ≡ true)
        second = (and-eq-true_iff (positive_at v A Y) (positive_at v A Z && positive_at v A Diagonal)).0 first.1

        third : (positive_at v A Z ≡ true) × (positive_at v A Diagonal ≡ true)
        third = (and-eq-true_iff (positive_at v A Z) (positive_at v A Diagonal)).0 second.1

        go : (d : Direction) → positive_at v A d ≡ true
        go X = first.0
        go Y = second.0
        go Z = third.0
        go Diagonal = third.1

-- There is an axis, it stays, and a, b, c turn about it the positive way.
unfoldable pub about : Vector → Matrix → Bool
about v A = not (same_vector v origin) && (same_vector (act A v) v && positive v A)

about-exact : (v : Vector) (A : Matrix) → (about v A ≡ true) ↔ ((v ≢ origin) × (act A v ≡ v)
    × ((d : Direction) → (n : ℕ) × (volume v (axis_vector Unmarked d) (act A (axis_vector Unmarked d)) ≡ pos n)))
unfolding about
about-exact v A =
    let axis-test = vector-exact v origin in
    let kept_test = vector-exact (act A v) v in
    let first = and-eq-true_iff (not (same_vector v origin)) (same_vector (act A v) v && positive v A) in
    let second = and-eq-true_iff (same_vector (act A v) v) (positive v A) in (
      (λ e. (
        (λ z. (not-exact (same_vector v origin)).0 (first.0 e).0 (axis-test.1 z)),
        kept_test.0 (second.0 (first.0 e).1).0,
        (positive-exact v A).0 (second.0 (first.0 e).1).1,
      )),
      λ h. first.1 ((not-exact (same_vector v origin)).1 (λ e. h.0 (axis-test.0 e)), second.1 (kept_test.1 h.1, (positive-exact v A).1 h.2)),
    )

-- Fold 1 is about plain z.
unfoldable pub identity_axis : Fold → Axis → Bool
identity_axis f a = cond (eqb (fold_number f) 1) (plain_z a.mark a.direction) true

identity-exact : (f : Fold) (a : Axis) → (identity_axis f a ≡ true) ↔ (f ≡ One → a ≡ plain Z)
unfolding identity_axis
identity-exact One a = let z = plain-z a.mark a.direction in ((λ e h. z.0 e), λ h. z.1 (h refl))
identity-exact Two a = ((λ e h. let z : ◌≡◌ {A = ℕ} 2 1 = ap fold_number h in absurd (omega arith)), λ h. refl)
identity-exact Three a = ((λ e h. let z : ◌≡◌ {A = ℕ} 3 1 = ap fold_number h in absurd (omega arith)), λ h. refl)
identity-exact Four a = ((λ e h. let z : ◌≡◌ {A = ℕ} 4 1 = ap fold_number h in absurd (omega arith)), λ h. refl)
identity-exact Six a = ((λ e h. let z : ◌≡◌ {A = ℕ} 6 1 = ap fold_number h in absurd (omega arith)), λ h. refl)

-- The whole rule.
unfoldable pub turns_right : Fold → Axis → Rotation → Bool
turns_right f a r =
    all_digits r
    && (about (along a) (matrix_of r)
    && (isometric (metric f a.mark a.direction) (matrix_of r) && (of_order (fold_number f) (matrix_of r) && identity_axis f a)))

pub turns-exact : (f : Fold) (a : Axis) (r : Rotation) → (turns_right f a r ≡ true) ↔ TurnsAbout f a r
unfolding turns_right
turns-exact f a r =
    let A = matrix_of r in
    let G = metric f a.mark a.direction in
    let v = along a in
    let n = fold_number f in
    let first = and-eq-true_iff (all_digits r) (about v A && (isometric G A && (of_order n A && identity_axis f a))) in
    let second = and-eq-true_iff (about v A) (isometric G A && (of_order n A && identity_axis f a)) in
    let third = and-eq-true_iff (isometric G A) (of_order n A && identity_axis f a) in
    let last = and-eq-true_iff (of_order n A) (identity_axis f a) in (
      (λ e.
          let (d, rest) = first.0 e in
          let (b, rest) = second.0 rest in
          let (g, rest) = third.0 rest in
          let (o, i) = last.0 rest in
          record {
            digits = (digits-exact r).0 d;
            has-axis = ((about-exact v A).0 b).0;
            keeps-axis = ((about-exact v A).0 b).1;
            keeps-metric = ((isometric-exact G A).0 g).0;
            proper = ((isometric-exact G A).0 g).1;
            full-turn = ((order-exact n A).0 o).0;
            no-sooner = ((order-exact n A).0 o).1;
            positive = ((about-exact v A).0 b).2;
            identity-about-z = (identity-exact f a).0 i;
          }),
      λ h.
          first.1 (
            (digits-exact r).1 h.digits,
            second.1 (
              (about-exact v A).1 (h.has-axis, h.keeps-axis, h.positive),
              third.1 (
                (isometric-exact G A).1 (h.keeps-metric, h.proper),
                last.1 ((order-exact n A).1 (h.full-turn, h.no-sooner), (identity-exact f a).1 h.identity-about-z),
              ),
            ),
          ),
    )
