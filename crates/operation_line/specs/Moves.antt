-- What a line's operation does: at every integer vector, in twelfths, the three parts take the values of the motion, modulo 12.
-- Letters are coordinates, so letters, signs and rows are tied to motions and to no convention of the code.
use Rattle.std.specs.Prelude.{◌≡◌, refl, Bool, true, false, ℕ, ◌+◌, ◌*◌, ◌-◌, ◌/◌, ◌%◌, eqb, pos, neg_ℤ, ◌+ℤ◌, ◌*ℤ◌, Ok}
use Rattle.std.proofs.Math.Path.{sym, ap}
use Rattle.std.proofs.Common.{◌∙◌, arith, eqb-true}
use mathlib.Core.List.{List, [], ◌∷◌}
use Rattle.std.proofs.lemmas.Bool.{not-false}
use Rattle.std.proofs.Math.IntN.{ℤ, one}
use Rattle.laws.specs.Integer.{ring, nought}
use Rattle.laws.specs.Matrix.{Vector, dot, act, plus}
use Rattle.laws.specs.Motion.{SpaceMotion}
use Rattle.laws.specs.Residue.{residue, residue-add, residue-neg, residue-pos, triple≡, reduced}
use Rattle.operation.specs.Meaning.{entry_of, matrix_of, vector_of, motion_of}
use Rattle.operation.specs.declared.Operation as operation
use Rattle.operation_line.specs.declared.Letter.{Letter}
use Rattle.operation_line.specs.declared.Letter.TheVariants.{X, Y, Z}
use Rattle.operation_line.specs.Spelling.{Body, letter, fraction, Term, signed, Proper, used, Terms, blank, unsigned, then, Line, Spells}
use Rattle.operation_line.specs.Denoted.{sign_digit, digit_then, digit_in, fraction_twelfths, twelfths_then, twelfths_in, rotation_of_line, translation_of_line, operation_of_line, coordinate, body_value, signed_value, value_at}
use Rattle.operation_line.specs.Reading.{read_line}
use Rattle.operation_line.specs.Held.{used-letter, used-twelfths, range, Propers, terms-proper}
use Rattle.operation_line.specs.Answers.{answers-exact}

-- The three parts' values.
abbrev pub values_at : Vector → Line → Vector
values_at v l = record { x = value_at v l.x; y = value_at v l.y; z = value_at v l.z }

-- Where a motion takes a vector: Rv + t.
abbrev pub moved_by : SpaceMotion → Vector → Vector
moved_by f v = plus (act f.rotation v) f.translation

-- ---- one part

-- Each letter, and a fraction, stands at most once.
abbrev Once : List Term → Type 0
Once [] = Unit {0}
Once (t ∷ ts) = Proper t.body × (used t.body ts ≡ false) × Propers ts × Once ts

unused : (b : Body) → used b [] ≡ false
unfolding used
unused b = refl

terms-once : {q : List ℕ} {ts : List Term} → Terms q ts → Once ts
terms-once (blank h) = tt
terms-once (unsigned h b proper k) = (proper, unused b, tt, tt)
terms-once (then h n g b proper fresh k) = (proper, fresh, terms-proper h, terms-once h)

-- The entries of the digits 0, 1 and 2.
entry-minus : entry_of 0 ≡ neg_ℤ one
unfolding entry_of one
entry-minus = refl

entry-none : entry_of 1 ≡ nought
unfolding entry_of one nought
entry-none = refl

entry-plus : entry_of 2 ≡ one
unfolding entry_of one
entry-plus = refl

pos-none : pos 0 ≡ nought
unfolding nought
pos-none = refl

-- The digit of a sign times a number is the number with that sign.
sign-times : (n : Bool) (x : ℤ) → entry_of (sign_digit n) *ℤ x ≡ signed_value n x
sign-times true x = rw entry-minus (simp ring)
sign-times false x = rw entry-plus (simp ring)

-- A summand taken to the front, and 0 left in its place.
module _ (a s x p q t : ℤ) (is : a *ℤ x ≡ s) where
  first : a *ℤ x +ℤ p +ℤ q +ℤ t ≡ s +ℤ (nought *ℤ x +ℤ p +ℤ q +ℤ t)
  first = rw is (simp ring)

  second : p +ℤ a *ℤ x +ℤ q +ℤ t ≡ s +ℤ (p +ℤ nought *ℤ x +ℤ q +ℤ t)
  second = rw is (simp ring)

  third : p +ℤ q +ℤ a *ℤ x +ℤ t ≡ s +ℤ (p +ℤ q +ℤ nought *ℤ x +ℤ t)
  third = rw is (simp ring)

module _ (v : Vector) where
  -- One coordinate of Rv + t, by the terms' row and twelfths.
  abbrev row_at : List Term → ℤ
  row_at ts = dot (entry_of (digit_in X ts)) (entry_of (digit_in Y ts)) (entry_of (digit_in Z ts)) v.x v.y v.z +ℤ pos (twelfths_in ts)

  row-none : row_at [] ≡ pos 0
  unfolding digit_in twelfths_in
  row-none = simp (entry-none, pos-none, ring)

  -- A letter that is new to the part adds its coordinate, with its sign.
  letter-added : (n : Bool) (l : Letter) (ts : List Term) → digit_in l ts ≡ 1 → row_at (signed n (letter l) ∷ ts) ≡ signed_value n (coordinate l v) +ℤ row_at ts
  unfolding digit_in digit_then twelfths_in twelfths_then
  letter-added n X ts e =
      let sign = entry_of (sign_digit n) in
      rw (e, entry-none)
      (first sign (signed_value n v.x) v.x (entry_of (digit_in Y ts) *ℤ v.y) (entry_of (digit_in Z ts) *ℤ v.z) (pos (twelfths_in ts)) (sign-times n v.x))
  letter-added n Y ts e =
      let sign = entry_of (sign_digit n) in
      rw (e, entry-none)
      (second sign (signed_value n v.y) v.y (entry_of (digit_in X ts) *ℤ v.x) (entry_of (digit_in Z ts) *ℤ v.z) (pos (twelfths_in ts)) (sign-times n v.y))
  letter-added n Z ts e =
      let sign = entry_of (sign_digit n) in
      rw (e, entry-none)
      (third sign (signed_value n v.z) v.z (entry_of (digit_in X ts) *ℤ v.x) (entry_of (digit_in Y ts) *ℤ v.y) (pos (twelfths_in ts)) (sign-times n v.z))

  -- −x and 12 − x are one modulo 12.
  fraction-residue : (n : Bool) (p q : ℕ) → Proper (fraction p q) → residue (pos (fraction_twelfths n p q)) ≡ residue (signed_value n (pos (12 * p / q)))
  fraction-residue true p q h =
      let r = range p q h in
      residue-pos (12 - 12 * p / q) ∙ sym (residue-neg (pos (12 * p / q)) ∙ ap (λ (k : ℕ). (12 - k) % 12) (residue-pos (12 * p / q)) ∙ omega arith)
  fraction-residue false p q h = refl

  fraction-added : (n : Bool) (p q : ℕ) (ts : List Term) → Proper (fraction p q) → twelfths_in ts ≡ 0
      → residue (row_at (signed n (fraction p q) ∷ ts)) ≡ residue (signed_value n (pos (12 * p / q)) +ℤ row_at ts)
  unfolding digit_in digit_then twelfths_in twelfths_then
  fraction-added n p q ts proper e =
      rw e
      (residue-add (row ts) (pos (fraction_twelfths n p q)) ∙ ap (λ (k : ℕ). (residue (row ts) + k) % 12) (fraction-residue n p q proper)
      ∙ sym (residue-add (row ts) (signed_value n (pos (12 * p / q)))) ∙ ap residue (simp (pos-none, ring)))
    where
      row : List Term → ℤ
      row ts = dot (entry_of (digit_in X ts)) (entry_of (digit_in Y ts)) (entry_of (digit_in Z ts)) v.x v.y v.z

  body-added : (n : Bool) (b : Body) (ts : List Term) → Proper b → used b ts ≡ false → Propers ts
      → residue (row_at (signed n b ∷ ts)) ≡ residue (signed_value n (body_value v b) +ℤ row_at ts)
  body-added n (letter l) ts proper fresh below =
      ap residue (letter-added n l ts (eqb-true (digit_in l ts) 1 (not-false (eqb (digit_in l ts) 1) (sym (used-letter l ts) ∙ fresh))))
  body-added n (fraction p q) ts proper fresh below =
      fraction-added n p q ts proper (eqb-true (twelfths_in ts) 0 (not-false (eqb (twelfths_in ts) 0) (sym (used-twelfths p q ts below) ∙ fresh)))

  -- A part's value is its coordinate of Rv + t, modulo 12.
  part-moves : (ts : List Term) → Once ts → residue (value_at v ts) ≡ residue (row_at ts)
  unfolding value_at
  part-moves [] h = ap residue (sym row-none)
  part-moves (t ∷ ts) (proper, fresh, below, h) =
      let value = signed_value t.negative (body_value v t.body) in
      residue-add value (value_at v ts) ∙ ap (λ (k : ℕ). (residue value + k) % 12) (part-moves ts h) ∙ sym (residue-add value (row_at ts))
      ∙ sym (body-added t.negative t.body ts proper fresh below)

-- ---- lines

-- At every vector the parts of a line take the values of Rv + t, modulo 12, where (R, t) is the motion of its operation.
pub line-moves : (text : List ℕ) (l : Line) → Spells text l → (v : Vector) → reduced (values_at v l) ≡ reduced (moved_by (motion_of (operation_of_line l)) v)
unfolding motion_of operation_of_line matrix_of vector_of rotation_of_line translation_of_line act plus
line-moves text l h v =
    triple≡
    (part-moves v l.x (terms-once h.of-x.spelt))
    (part-moves v l.y (terms-once h.of-y.spelt))
    (part-moves v l.z (terms-once h.of-z.spelt))

-- So does the operation that is read.
pub read-moves : (text : List ℕ) (f : operation.Operation) → read_line text ≡ Ok f
    → (l : Line) × Spells text l × ((v : Vector) → reduced (values_at v l) ≡ reduced (moved_by (motion_of f) v))
read-moves text f e =
    let h = (answers-exact text (Ok f)).0 e in
    (h.line, h.spells, λ v. line-moves text h.line h.spells v ∙ ap (λ (g : operation.Operation). reduced (moved_by (motion_of g) v)) (sym h.is))
