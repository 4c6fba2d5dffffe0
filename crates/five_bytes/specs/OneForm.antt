-- Five bytes and the operation they say determine one another: every operation with entries in −1..1 and coordinates below 12 is said by its bytes and no
-- others.
use Rattle.std.specs.Prelude.{◌≡◌, refl, Bool, true, false, ◌&&◌, List, [], ◌∷◌, ℕ, ◌+◌, ◌*◌, ◌/◌, ◌%◌, ◌<◌, ltb, length, get_or, None, Option, Some}
use Rattle.std.proofs.Common.{sym, ◌∙◌, ap, ap₂, arith, ltb-true, lt-ltb, eq-eqb, ne_eqb}
use Rattle.std.proofs.Math.Bool.{and-eq-true_iff}
use Rattle.operation.specs.Code.{code_of, rotation_of, decoded_of, code_lt, rotation-code, rotation-digits, code-rotation}
use Rattle.operation.specs.declared.Operation.{Operation}
use Rattle.operation.specs.declared.Translation.{Translation}
use Rattle.five_bytes.specs.FiveBytes.{operation_bytes, Sayable, below_twelve, code_in, translation_in, with_translation, five_bytes_of}

-- Bytes are numbers below 256.
abbrev pub Bytes : List ℕ → Type 0
Bytes bytes = (i : ℕ) → get_or bytes i 0 < 256

-- Operations are equal where their parts are.
pub operation≡ : {f g : Operation} → f.rotation ≡ g.rotation → f.translation ≡ g.translation → f ≡ g
operation≡ p q = λ i. record { rotation = p i; translation = q i }

-- The test on coordinates says that they are below 12.
pub twelve-below : (t : Translation) → t.x < 12 → t.y < 12 → t.z < 12 → below_twelve t ≡ true
unfolding below_twelve
twelve-below t x y z = rw (lt-ltb t.x 12 x, lt-ltb t.y 12 y, lt-ltb t.z 12 z) refl

-- With the first two below 12 the last decides.
pub twelve-last : (t : Translation) → t.x < 12 → t.y < 12 → ltb t.z 12 ≡ below_twelve t
unfolding below_twelve
twelve-last t x y = rw (lt-ltb t.x 12 x, lt-ltb t.y 12 y) refl

pub below_twelve_lem : (t : Translation) → below_twelve t ≡ true → (t.x < 12) × (t.y < 12) × (t.z < 12)
unfolding below_twelve
below_twelve_lem t h =
    let (p, s) = (and-eq-true_iff (ltb t.x 12 && ltb t.y 12) (ltb t.z 12)).0 h in
    let (q, r) = (and-eq-true_iff (ltb t.x 12) (ltb t.y 12)).0 p in
    (ltb-true _ 12 q, ltb-true _ 12 r, ltb-true _ 12 s)

-- Of five bytes with coordinates below 12 the code decides.
pub code-decides : (bytes : List ℕ) → length bytes ≡ 5 → below_twelve (translation_in bytes) ≡ true
    → with_translation (decoded_of (code_in bytes)) (translation_in bytes) ≡ five_bytes_of bytes
unfolding five_bytes_of
code-decides bytes five below = rw (eq-eqb (length bytes) 5 five, below) refl

-- A code below 3⁹ is a rotation's.
decoded-inside : (c : ℕ) (t : Translation) → c < 19683 → with_translation (decoded_of c) t ≡ Some (record { rotation = rotation_of c; translation = t })
decoded-inside c t h = rw (lt-ltb c 19683 h) refl

-- Any two bytes that make a code that fits, with coordinates below 12, say the operation of that code.
pub five-said : (p q x y z : ℕ) → p * 256 + q < 19683 → x < 12 → y < 12 → z < 12
    → five_bytes_of (p ∷ q ∷ x ∷ y ∷ z ∷ []) ≡ Some (record { rotation = rotation_of (p * 256 + q); translation = record { x = x; y = y; z = z } })
unfolding five_bytes_of
five-said p q x y z h i j k =
    rw (twelve-below (record { x = x; y = y; z = z }) i j k) (decoded-inside (p * 256 + q) _ h)

-- The five bytes of an operation say it.
pub operation-again : (f : Operation) → Sayable f → five_bytes_of (operation_bytes f) ≡ Some f
unfolding operation_bytes
operation-again f s =
    let whole : code_of f.rotation / 256 * 256 + code_of f.rotation % 256 ≡ code_of f.rotation = omega arith in
    five-said _ _ _ _ _ (omega (arith, code_lt f.rotation s.digits)) s.x s.y s.z
    ∙ ap Some (operation≡ (ap rotation_of whole ∙ rotation-code f.rotation s.digits) refl)

-- What five bytes say.
abbrev Said : List ℕ → Operation → Type 0
Said bytes f = (bytes ≡ operation_bytes f) × Sayable f

code-said : (p q c : ℕ) → q < 256 → c ≡ p * 256 + q → (p ≡ c / 256) × (q ≡ c % 256)
code-said p q c h e = (omega arith, omega arith)

is-injective : (f g : Operation) → Some f ≡ Some g → f ≡ g
is-injective f g e = ap unwrapped e
  where
    unwrapped : Option Operation → Operation
    unwrapped (Some h) = h
    unwrapped None = f

wrong-is-none : (f : Operation) → None ≡ Some f → ⊥
wrong-is-none f e = let z : ◌≡◌ {A = ℕ} 0 1 = ap mark e in absurd (omega arith)
  where
    mark : Option Operation → ℕ
    mark (Some h) = 1
    mark None = 0

-- Bytes that say an operation are its five bytes.
inside-said : (p q x y z : ℕ) (f : Operation) → q < 256 → p * 256 + q < 19683 → x < 12 → y < 12 → z < 12 → five_bytes_of (p ∷ q ∷ x ∷ y ∷ z ∷ []) ≡ Some f
    → Said (p ∷ q ∷ x ∷ y ∷ z ∷ []) f
unfolding operation_bytes
inside-said p q x y z f low h i j k e = rw (← same) (bytes, record { digits = rotation-digits (p * 256 + q); x = i; y = j; z = k })
  where
    said : Operation
    said = record { rotation = rotation_of (p * 256 + q); translation = record { x = x; y = y; z = z } }

    same : said ≡ f
    same = is-injective said f (sym (five-said p q x y z h i j k) ∙ e)

    bytes : (p ∷ q ∷ x ∷ y ∷ z ∷ []) ≡ operation_bytes said
    bytes =
        let (high, small) = code-said p q (code_of (rotation_of (p * 256 + q))) low (code-rotation (p * 256 + q) h) in
        ap₂ (λ (a b : ℕ). a ∷ b ∷ x ∷ y ∷ z ∷ []) high small

-- Whatever a test answers.
by-test : {P : Type 0} (t : Bool) → (t ≡ true → P) → (t ≡ false → P) → P
by-test true passed failed = passed refl
by-test false passed failed = failed refl

five-bytes-said : (p q x y z : ℕ) (f : Operation) → q < 256 → five_bytes_of (p ∷ q ∷ x ∷ y ∷ z ∷ []) ≡ Some f → Said (p ∷ q ∷ x ∷ y ∷ z ∷ []) f
unfolding five_bytes_of
five-bytes-said p q x y z f low e =
    by-test (below_twelve t)
    (λ b.
    let (i, j, k) = below_twelve_lem t b in
    by-test (ltb (p * 256 + q) 19683) (λ l. inside-said p q x y z f low (ltb-true _ 19683 l) i j k e) (λ l. absurd (wrong-is-none f (rw (b, l) at e))))
    (λ b. absurd (wrong-is-none f (rw b at e)))
  where
    t : Translation
    t = record { x = x; y = y; z = z }

pub bytes-again : (bytes : List ℕ) (f : Operation) → Bytes bytes → five_bytes_of bytes ≡ Some f → (bytes ≡ operation_bytes f) × Sayable f
unfolding five_bytes_of
bytes-again [] f g e = absurd (wrong-is-none f e)
bytes-again (a ∷ []) f g e = absurd (wrong-is-none f e)
bytes-again (a ∷ b ∷ []) f g e = absurd (wrong-is-none f e)
bytes-again (a ∷ b ∷ c ∷ []) f g e = absurd (wrong-is-none f e)
bytes-again (a ∷ b ∷ c ∷ d ∷ []) f g e = absurd (wrong-is-none f e)
bytes-again (p ∷ q ∷ x ∷ y ∷ z ∷ []) f g e = five-bytes-said p q x y z f (g 1) e
bytes-again (a ∷ b ∷ c ∷ d ∷ e ∷ h ∷ l) f g k =
    let longer : length (a ∷ b ∷ c ∷ d ∷ e ∷ h ∷ l) ≡ 5 → ⊥ = λ n. absurd (omega arith) in
    absurd (wrong-is-none f (rw (ne_eqb _ 5 longer) at k))
