-- A run passed byte by byte from a sum so far: what the code's loop over the letters keeps, and that it comes to the translation rules.
use Rattle.std.specs.Prelude.{◌≡◌, refl, Bool, true, false, cond, not, ◌&&◌, List, ◌∷◌, ℕ, suc, ◌+◌, ◌*◌, ◌/◌, ◌%◌, ◌<◌, ◌≤◌, leb, length, get_or, drop, Option, Some}
use Rattle.std.proofs.Common.{sym, ◌∙◌, ap, true≢false, zero-add, add-one, arith, drop-cons, leb-true, le-ltb, lt-ltb}
use Rattle.std.proofs.Math.Bool.{and-eq-true_iff}
use Rattle.std.proofs.Math.Seq.{drop-length}
use Rattle.std.proofs.lemmas.Bool.{not-true, not-false}
use Rattle.operation.specs.declared.Translation.{Translation}
use Rattle.hall_axes.specs.declared.Fold.{Fold}
use Rattle.hall_axes.specs.declared.Fold.TheVariants.{One, Two, Three, Four, Six}
use Rattle.hall_axes.specs.declared.Axis.{Axis}
use Rattle.hall_token.specs.declared.RunByte.{RunByte}
use Rattle.hall_token.specs.declared.RunByte.TheVariants.{Screw, Letter, Prime, Foreign}
use Rattle.hall_axes.specs.Axes.{fold_number, plain_z}
use Rattle.hall_token.specs.Bytes.{run_bytes, run_byte_of, passes, value_at-passes}
use Rattle.hall_token.specs.Front.{rest, front, nothing}
use Rattle.hall_token.specs.Runs.{every, no_screw, every-stop}
use Rattle.hall_token.specs.Translations.{letter_vector, screw_digit, screw_right, front_right, digits_right, sum_x, sum_y, sum_z, rise, translation_of, moved_by}

abbrev pub triple : ℕ → ℕ → ℕ → Translation
triple a b c = record { x = a; y = b; z = c }

-- The letters of a run added to (x, y, z), or a digit among them.
unfoldable pub letters_from : List ℕ → ℕ → ℕ → ℕ → Option Translation
letters_from run x y z = cond (every no_screw run) (Some (triple ((x + sum_x run) % 12) ((y + sum_y run) % 12) ((z + sum_z run) % 12))) Option.None

-- ---- one byte

-- A letter's translation has coordinates of at most 6 twelfths, by one test over the table.
small_test : ℕ → RunByte → Bool
small_test b v = leb (letter_vector v).x 6 && (leb (letter_vector v).y 6 && leb (letter_vector v).z 6)

vector-small : (b : ℕ) → ((letter_vector (run_byte_of b)).x ≤ 6) × ((letter_vector (run_byte_of b)).y ≤ 6) × ((letter_vector (run_byte_of b)).z ≤ 6)
unfolding small_test passes run_byte_of
vector-small b =
    let v = letter_vector (run_byte_of b) in
    let first = (and-eq-true_iff (leb v.x 6) (leb v.y 6 && leb v.z 6)).0 (value_at-passes small_test Foreign run_bytes (λ c. refl) refl b) in
    let rest = (and-eq-true_iff (leb v.y 6) (leb v.z 6)).0 first.1 in
    (leb-true v.x 6 first.0, leb-true v.y 6 rest.0, leb-true v.z 6 rest.1)

-- A remainder taken early changes nothing.
early-remainder : (x v s : ℕ) → (x + (v + s)) % 12 ≡ ((x + v) % 12 + s) % 12
early-remainder x v s = omega arith

-- ---- the loop

pub letters-end : (run : List ℕ) (x y z : ℕ) → x < 12 → y < 12 → z < 12 → letters_from (drop (length run) run) x y z ≡ Some (triple x y z)
unfolding letters_from every sum_x sum_y sum_z
letters-end run x y z hx hy hz =
    rw drop-length
    (ap Some (λ i. triple (below x hx i) (below y hy i) (below z hz i)))
  where
    below : (n : ℕ) → n < 12 → (n + 0) % 12 ≡ n
    below n h = omega arith

-- At a digit the run is refused.
pub letters-stop : (run : List ℕ) (i x y z : ℕ) → i < length run → no_screw (run_byte_of (get_or run i 0)) ≡ false → letters_from (drop i run) x y z
    ≡ Option.None
unfolding letters_from
letters-stop run i x y z h e = rw (every-stop no_screw run i h e)

letters-cons : (b : ℕ) (bs : List ℕ) (x y z : ℕ) → no_screw (run_byte_of b) ≡ true
    → letters_from (b ∷ bs) x y z ≡ letters_from bs ((x + (letter_vector (run_byte_of b)).x) % 12) ((y + (letter_vector (run_byte_of b)).y) % 12)
    ((z + (letter_vector
    (run_byte_of b)).z) % 12)
unfolding letters_from every sum_x sum_y sum_z
letters-cons b bs x y z e =
    rw e
    (λ i. cond (every no_screw bs) (Some (triple
    (early-remainder x (letter_vector (run_byte_of b)).x (sum_x bs) i)
    (early-remainder y (letter_vector (run_byte_of b)).y (sum_y bs) i)
    (early-remainder z (letter_vector (run_byte_of b)).z (sum_z bs) i))) Option.None)

-- Any other byte, which says v, adds its translation u.
pub letters-next : (run : List ℕ) (i x y z : ℕ) (v : RunByte) (u : Translation) → i < length run → no_screw (run_byte_of (get_or run i 0)) ≡ true
    → v ≡ run_byte_of (get_or run i 0) → u ≡ letter_vector v
    → letters_from (drop i run) x y z ≡ letters_from (drop (i + 1) run) ((x + u.x) % 12) ((y + u.y) % 12) ((z + u.z) % 12)
letters-next run i x y z v u h e w k = rw (k, w, add-one i, drop-cons run i 0) (letters-cons (get_or run i 0) (drop (suc i) run) x y z e)

-- That translation is small.
pub vector-bound : (run : List ℕ) (i : ℕ) (v : RunByte) (u : Translation) → v ≡ run_byte_of (get_or run i 0) → u ≡ letter_vector v → (u.x ≤ 6) × (u.y ≤ 6)
    × (u.z ≤ 6)
vector-bound run i v u w k = rw (k, w) (vector-small (get_or run i 0))

-- ---- the front

pub no_digit : (v : RunByte) → no_screw v ≡ true → screw_digit v ≡ 0
no_digit (Screw s) h = absurd (true≢false (sym h))
no_digit (Letter t) h = refl
no_digit Prime h = refl
no_digit Foreign h = refl

pub no-rise : (f : Fold) → 12 * 0 / fold_number f ≡ 0
no-rise One = refl
no-rise Two = refl
no-rise Three = refl
no-rise Four = refl
no-rise Six = refl

-- A run that starts with no digit is its letters.
pub moved-letters : (f : Fold) (a : Axis) (b : ℕ) (bs : List ℕ) → no_screw (run_byte_of b) ≡ true → moved_by f a (b ∷ bs) ≡ letters_from (b ∷ bs) 0 0 0
unfolding moved_by letters_from digits_right front_right every translation_of rise
moved-letters f a b bs e = simp (e, no_digit (run_byte_of b) e, no-rise, zero-add)

-- A wrong digit in front refuses the run.
pub moved-wrong : (f : Fold) (a : Axis) (b : ℕ) (bs : List ℕ) → no_screw (run_byte_of b) ≡ false → screw_right f a (screw_digit (run_byte_of b)) ≡ false
    → moved_by f a (b ∷ bs) ≡ Option.None
unfolding moved_by digits_right front_right
moved-wrong f a b bs e h = rw (e, h)

-- A right one rises by 12s/fold, and the letters after it are added.
pub moved-screw : (f : Fold) (a : Axis) (b : ℕ) (bs : List ℕ) → no_screw (run_byte_of b) ≡ false → screw_right f a (screw_digit (run_byte_of b)) ≡ true
    → moved_by f a (b ∷ bs) ≡ letters_from bs 0 0 (12 * screw_digit (run_byte_of b) / fold_number f)
unfolding moved_by letters_from digits_right front_right translation_of rise sum_x sum_y sum_z
moved-screw f a b bs e h = rw (e, h) (go (run_byte_of b) e)
  where
    go : (v : RunByte) → no_screw v ≡ false → cond (every no_screw bs) (Some
        (triple (((letter_vector v).x + sum_x bs) % 12) (((letter_vector v).y + sum_y bs) % 12)
        ((12 * screw_digit v / fold_number f + ((letter_vector v).z + sum_z bs)) % 12))) Option.None
        ≡ cond (every no_screw bs) (Some (triple ((0 + sum_x bs) % 12) ((0 + sum_y bs) % 12) ((12 * screw_digit v / fold_number f + sum_z bs) % 12)))
        Option.None
    go (Screw s) i = simp zero-add
    go (Letter t) i = absurd (true≢false i)
    go Prime i = absurd (true≢false i)
    go Foreign i = absurd (true≢false i)

-- ---- the same of a run's first byte, which says v, with t for its test

pub moved_nothing : (f : Fold) (a : Axis) (run : List ℕ) → length run ≡ 0 → moved_by f a run ≡ Some (triple 0 0 0)
unfolding moved_by digits_right translation_of sum_x sum_y sum_z rise
moved_nothing f a run h = ap (moved_by f a) (nothing run h)

pub front-letters : (f : Fold) (a : Axis) (run : List ℕ) (v : RunByte) (t : Bool) → (length run ≡ 0 → ⊥) → v ≡ run_byte_of (get_or run 0 0) → t ≡ no_screw v
    → t ≡ true → moved_by f a run ≡ letters_from run 0 0 0
front-letters f a run v t h w e n =
    ap (moved_by f a) (front run h)
    ∙ moved-letters f a (get_or run 0 0) (rest run) (ap no_screw (sym w) ∙ sym e ∙ n)
    ∙ ap (λ (l : List ℕ). letters_from l 0 0 0) (sym (front run h))

pub front-wrong : (f : Fold) (a : Axis) (run : List ℕ) (v : RunByte) (t : Bool) → (length run ≡ 0 → ⊥) → v ≡ run_byte_of (get_or run 0 0) → t ≡ no_screw v
    → t ≡ false → screw_right f a (screw_digit v) ≡ false → moved_by f a run ≡ Option.None
front-wrong f a run v t h w e n r =
    ap (moved_by f a) (front run h)
    ∙ moved-wrong f a (get_or run 0 0) (rest run) (ap no_screw (sym w) ∙ sym e ∙ n) (ap (λ (x : RunByte). screw_right f a (screw_digit x)) (sym w) ∙ r)

pub front-screw : (f : Fold) (a : Axis) (run : List ℕ) (v : RunByte) (t : Bool) → (length run ≡ 0 → ⊥) → v ≡ run_byte_of (get_or run 0 0) → t ≡ no_screw v
    → t ≡ false → screw_right f a (screw_digit v) ≡ true → moved_by f a run ≡ letters_from (rest run) 0 0 (12 * screw_digit v / fold_number f)
front-screw f a run v t h w e n r =
    ap (moved_by f a) (front run h)
    ∙ moved-screw f a (get_or run 0 0) (rest run) (ap no_screw (sym w) ∙ sym e ∙ n) (ap (λ (x : RunByte). screw_right f a (screw_digit x)) (sym w) ∙ r)
    ∙ ap (λ (x : RunByte). letters_from (rest run) 0 0 (12 * screw_digit x / fold_number f)) (sym w)

-- ---- the digit's test, with z for that of the axis

pub off-axis : (f : Fold) (a : Axis) (s : ℕ) (z : Bool) → z ≡ plain_z a.mark a.direction → not z ≡ true → screw_right f a s ≡ false
unfolding screw_right
off-axis f a s z e n = rw (sym e ∙ not-true z n)

pub too_large : (f : Fold) (a : Axis) (s : ℕ) (z : Bool) → z ≡ plain_z a.mark a.direction → not z ≡ false → fold_number f ≤ s → screw_right f a s ≡ false
unfolding screw_right
too_large f a s z e n h = rw (sym e ∙ not-false z n, le-ltb s (fold_number f) h)

pub right-digit : (f : Fold) (a : Axis) (s : ℕ) (z : Bool) → z ≡ plain_z a.mark a.direction → not z ≡ false → s < fold_number f → screw_right f a s ≡ true
unfolding screw_right
right-digit f a s z e n h = rw (sym e ∙ not-false z n, lt-ltb s (fold_number f) h)

-- A digit below the fold rises by less than a cell.
pub rise-lt : (f : Fold) (s : ℕ) → s < fold_number f → 12 * s / fold_number f < 12
rise-lt One s h = omega arith
rise-lt Two s h = omega arith
rise-lt Three s h = omega arith
rise-lt Four s h = omega arith
rise-lt Six s h = omega arith

pub fold-range : (f : Fold) → (1 ≤ fold_number f) × (fold_number f ≤ 6)
fold-range One = (omega arith, omega arith)
fold-range Two = (omega arith, omega arith)
fold-range Three = (omega arith, omega arith)
fold-range Four = (omega arith, omega arith)
fold-range Six = (omega arith, omega arith)
