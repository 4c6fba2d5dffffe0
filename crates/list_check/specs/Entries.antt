-- The entries of a list as numbers: which are in range, which lists are well formed, and what operation an entry in range says.
use Rattle.std.specs.Prelude.{◌≡◌, refl, ◌⊎◌, ◌↔◌, true, ◌&&◌, List, ℕ, ◌+◌, ◌*◌, ◌-◌, ◌%◌, ◌≤◌, ◌<◌, eqb, leb, ltb, length, get_or, take, drop, Some}
use Rattle.std.proofs.Common.{sym, ◌∙◌, inl, inr, true≢false, add-zero, eq-eqb, ne_eqb, eqb-true, le-leb, leb-true, lt-ltb, ltb-true, length-take, length-drop, get_or-take, get_or-drop}
use Rattle.std.proofs.Math.Path.{ap}
use Rattle.std.proofs.Math.Bool.{false}
use native.Mathlib.Omega.{arith}
use Rattle.std.proofs.Math.Decide.{dec_le}
use Rattle.std.proofs.lemmas.Bool.{lt-leb}
use Rattle.operation.specs.Code.{rotation_of, rotation-digits}
use Rattle.operation.specs.Meaning.{Digits}
use Rattle.five_bytes.specs.FiveBytes.{below_twelve, code_in, translation_in, five_bytes_of}
use Rattle.five_bytes.specs.OneForm.{twelve-below, below_twelve_lem}
use Rattle.laws.specs.Truth.{and_both, both-and, and-fails, and-fails-left, passes-or-fails}
use Rattle.list_check.specs.Checked.{length_fits, entry_count, bytes_at, is_wrong, wrong_at, entry_at}

-- ---- which lists are well formed
-- The code of entry i, high byte first, is at most 19682, and each coordinate at most 11.
pub record InRange (list : List ℕ) (i : ℕ) : Type 0 where
  pub code : get_or list (5 * i) 0 * 256 + get_or list (5 * i + 1) 0 ≤ 19682
  pub x : get_or list (5 * i + 2) 0 ≤ 11
  pub y : get_or list (5 * i + 3) 0 ≤ 11
  pub z : get_or list (5 * i + 4) 0 ≤ 11

-- The length is a multiple of five, and at most 240.
abbrev pub RightLength : List ℕ → Type 0
RightLength list = (length list ≤ 240) × (length list % 5 ≡ 0)

-- The length is right, and every entry is in range.
abbrev pub WellFormed : List ℕ → Type 0
WellFormed list = RightLength list × ((i : ℕ) → i < entry_count list → InRange list i)

-- 43: the length is no multiple of five, or over 240.
abbrev pub WrongLength : List ℕ → Type 0
WrongLength list = (¬ (length list % 5 ≡ 0)) ⊎ (240 < length list)

-- 44 at i: the length is right, and i is the first entry with a code or a coordinate out of range.
pub record FirstWrong (list : List ℕ) (i : ℕ) : Type 0 where
  pub right-length : RightLength list
  pub within : i < entry_count list
  pub out : ¬ (InRange list i)
  pub before : (j : ℕ) → j < i → InRange list j

-- ---- the length
pub length-right : (list : List ℕ) → (length_fits (length list) ≡ true) ↔ RightLength list
unfolding length_fits
length-right list = (
  (λ e. let (p, q) = and_both (leb (length list) 240) (eqb (length list % 5) 0) e in (leb-true _ 240 p, eqb-true _ 0 q)),
  λ (p, q). both-and (leb (length list) 240) (eqb (length list % 5) 0) (le-leb _ 240 p) (eq-eqb _ 0 q),
)

pub length-wrong : (list : List ℕ) → (length_fits (length list) ≡ false) ↔ WrongLength list
unfolding length_fits
length-wrong list = (forth, back)
  where
    forth : (leb (length list) 240 && eqb (length list % 5) 0) ≡ false → WrongLength list
    forth e = elim (dec_le (length list) 240) [
      | yes h ↦ inl (λ q. true≢false (sym (both-and (leb (length list) 240) (eqb (length list % 5) 0) (le-leb _ 240 h) (eq-eqb _ 0 q)) ∙ e))
      | no h ↦ inr (omega arith)
    ]

    back : WrongLength list → (leb (length list) 240 && eqb (length list % 5) 0) ≡ false
    back (inl h) = and-fails (leb (length list) 240) (eqb (length list % 5) 0) (ne_eqb _ 0 h)
    back (inr h) = and-fails-left (leb (length list) 240) (eqb (length list % 5) 0) (lt-leb _ 240 h)

-- ---- five bytes
-- What they are, by their numbers.
right-five : (bytes : List ℕ) → length bytes ≡ 5 → code_in bytes < 19683 → (translation_in bytes).x < 12 → (translation_in bytes).y < 12
    → (translation_in bytes).z < 12
    → five_bytes_of bytes ≡ Some (record { rotation = rotation_of (code_in bytes); translation = translation_in bytes })
unfolding five_bytes_of
right-five bytes long h x y z = rw (eq-eqb (length bytes) 5 long, twelve-below (translation_in bytes) x y z, lt-ltb (code_in bytes) 19683 h) refl

five-right : (bytes : List ℕ) → length bytes ≡ 5 → is_wrong (five_bytes_of bytes) ≡ false
    → (code_in bytes < 19683) × ((translation_in bytes).x < 12) × ((translation_in bytes).y < 12) × ((translation_in bytes).z < 12)
unfolding five_bytes_of
five-right bytes long e = elim (passes-or-fails (below_twelve (translation_in bytes))) [
  | inl b ↦ elim (passes-or-fails (ltb (code_in bytes) 19683)) [
    | inl l ↦ let (x, y, z) = below_twelve_lem (translation_in bytes) b in (ltb-true (code_in bytes) 19683 l, x, y, z)
    | inr l ↦ absurd (true≢false (rw (eq-eqb (length bytes) 5 long, b, l) at e))
  ]
  | inr b ↦ absurd (true≢false (rw (eq-eqb (length bytes) 5 long, b) at e))
]

-- ---- an entry
module _ (list : List ℕ) (i : ℕ) (inside : 5 * i + 5 ≤ length list) where
  five-long : length (bytes_at list i) ≡ 5
  unfolding bytes_at
  five-long = simp (length-take, length-drop) (omega arith)

  byte_at : (k : ℕ) → k < 5 → get_or (bytes_at list i) k 0 ≡ get_or list (5 * i + k) 0
  unfolding bytes_at
  byte_at k h = rw (get_or-take, get_or-drop)

  first_byte : get_or (bytes_at list i) 0 0 ≡ get_or list (5 * i) 0
  first_byte = byte_at 0 (omega arith) ∙ ap (λ (k : ℕ). get_or list k 0) (add-zero (5 * i))

  -- An entry in range says the operation of its code and coordinates,
  pub entry-said : InRange list i → five_bytes_of (bytes_at list i)
      ≡ Some (record { rotation = rotation_of (code_in (bytes_at list i)); translation = translation_in (bytes_at list i) })
  entry-said r =
      let a = first_byte in
      let b = byte_at 1 (omega arith) in
      let x = byte_at 2 (omega arith) in
      let y = byte_at 3 (omega arith) in
      let z = byte_at 4 (omega arith) in
      let code = r.code in
      let hx = r.x in
      let hy = r.y in
      let hz = r.z in
      right-five (bytes_at list i) five-long (omega arith) (omega arith) (omega arith) (omega arith)

  -- so its entries are in −1..1;
  pub entry-digits : InRange list i → Digits (entry_at list i).rotation
  unfolding entry_at
  entry-digits r = rw (entry-said r) (rotation-digits (code_in (bytes_at list i)))

  -- and what is not in range is wrong.
  pub entry-right : (wrong_at list i ≡ false) ↔ InRange list i
  unfolding wrong_at
  entry-right = (forth, λ r. ap is_wrong (entry-said r))
    where
      forth : is_wrong (five_bytes_of (bytes_at list i)) ≡ false → InRange list i
      forth e =
          let (h, x, y, z) = five-right (bytes_at list i) five-long e in
          let a = first_byte in
          let b = byte_at 1 (omega arith) in
          let p = byte_at 2 (omega arith) in
          let q = byte_at 3 (omega arith) in
          let s = byte_at 4 (omega arith) in
          record { code = omega arith; x = omega arith; y = omega arith; z = omega arith }

  pub entry-wrong : (wrong_at list i ≡ true) ↔ (¬ (InRange list i))
  entry-wrong = (
    (λ e r. true≢false (sym e ∙ entry-right.1 r)),
    λ out. elim (passes-or-fails (wrong_at list i)) [ inl e ↦ e | inr e ↦ absurd (out (entry-right.0 e)) ],
  )

-- The part of a list from five times the index is the entry's bytes.
pub part-is : (list : List ℕ) (i : ℕ) → take (5 * i + 5 - 5 * i) (drop (5 * i) list) ≡ bytes_at list i
unfolding bytes_at
part-is list i = let five : 5 * i + 5 - 5 * i ≡ 5 = omega arith in ap (λ (k : ℕ). take k (drop (5 * i) list)) five

-- Each entry stands within a list of the right length.
pub entry-inside : (list : List ℕ) → RightLength list → (i : ℕ) → i < entry_count list → 5 * i + 5 ≤ length list
entry-inside list (few, whole) i h = omega arith
