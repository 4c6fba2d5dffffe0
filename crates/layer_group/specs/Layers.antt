-- The layer rules, said of motions of space: zero in the four entries that mix z with x or y, and where the zz entry is 1 a whole number of cells along z;
-- and the test of an operation's digits that decides them.
use Rattle.std.specs.Prelude as std
use Rattle.std.specs.List.{position, position_or_len}
use Rattle.std.specs.Prelude.{◌≡◌, refl, Bool, true, false, cond, ◌&&◌, ◌||◌, not, List, [], ◌∷◌, ℕ, zero, suc, ◌+◌, ◌≤◌, ◌<◌, eqb, length}
use Rattle.std.proofs.Common.{sym, ◌∙◌, arith, lt-ltb, le-ltb}
use Rattle.std.proofs.Math.Decide.{dec_lt}
use Rattle.std.proofs.Math.IntN.{one}
use Rattle.laws.specs.Integer.{nought}
use Rattle.laws.specs.Motion.{SpaceMotion}
use Rattle.laws.specs.Residue.{residue}
use Rattle.operation.specs.declared.Operation.{Operation}

-- A motion of a layer. Twelve twelfths are a cell, so a whole number of cells leaves no residue.
pub record LayerMotion (f : SpaceMotion) : Type 0 where
  pub xz : f.rotation.xz ≡ nought
  pub yz : f.rotation.yz ≡ nought
  pub zx : f.rotation.zx ≡ nought
  pub zy : f.rotation.zy ≡ nought
  pub z : f.rotation.zz ≡ one → residue f.translation.z ≡ 0

-- The test: the digit 1 stands for the entry 0, and 2 for 1.
unfoldable pub is_layer : Operation → Bool
is_layer o =
    eqb o.rotation.xz 1 && (eqb o.rotation.yz 1 && (eqb o.rotation.zx 1 && (eqb o.rotation.zy 1 && (not (eqb o.rotation.zz 2) || eqb o.translation.z 0))))

-- How many operations of a list pass it before the first that does not.
unfoldable pub front : List Operation → ℕ
front [] = zero
front (o ∷ l) = cond (is_layer o) (suc (front l)) zero

-- ---- the search
-- The index of the first operation that does not pass it.
abbrev pub off_position : List Operation → std.Option ℕ
off_position l = position (λ o. not (is_layer o)) l

off-front : (l : List Operation) → position_or_len (λ o. not (is_layer o)) l ≡ front l
unfolding front
off-front [] = refl
off-front (o ∷ l) = by-test (is_layer o) (off-front l)
  where
    by-test : (b : Bool) → position_or_len (λ o. not (is_layer o)) l ≡ front l
        → cond (not (not b)) (1 + position_or_len (λ o. not (is_layer o)) l) 0 ≡ cond b (suc (front l)) 0
    by-test true e = omega (arith, e)
    by-test false e = refl

-- As the search finds one,
pub front-found : (l : List Operation) (i : ℕ) → off_position l ≡ std.Some i → (front l ≡ i) × (i < length l)
front-found l i e = elim (dec_lt (front l) (length l)) [
  | yes h ↦
      let found : off_position l ≡ std.Some (front l) = rw (off-front l, lt-ltb (front l) (length l) h) refl in
      let both : std.Some (front l) ≡ std.Some i = sym found ∙ e in
      let same : front l ≡ i = cc in
      (same, omega arith)
  | no h ↦
      let low : length l ≤ front l = omega arith in
      let missed : off_position l ≡ std.None = rw (off-front l, le-ltb (front l) (length l) low) refl in
      let both : ◌≡◌ {A = std.Option ℕ} std.None (std.Some i) = sym missed ∙ e in
      absurd (cc)
]

-- or none.
pub front-missed : (l : List Operation) → off_position l ≡ std.None → length l ≤ front l
front-missed l e = elim (dec_lt (front l) (length l)) [
  | yes h ↦
      let found : off_position l ≡ std.Some (front l) = rw (off-front l, lt-ltb (front l) (length l) h) refl in
      let both : ◌≡◌ {A = std.Option ℕ} std.None (std.Some (front l)) = sym e ∙ found in
      absurd (cc)
  | no h ↦ omega arith
]
