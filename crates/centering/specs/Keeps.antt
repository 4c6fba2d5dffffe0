-- Which rotations map L onto L (R3): decided by the determinant and by where the points go, shown to be the rule about all of L.
use Rattle.std.specs.Prelude.{◌≡◌, refl, ◌↔◌, Bool, true, false, ◌&&◌, List, ◌∷◌, map, ℕ, zero, suc, ◌+◌, ◌<◌, ◌≤◌, T, leb, length, get_or, drop}
use Rattle.std.proofs.Math.Path.{sym, ap}
use Rattle.std.proofs.Common.{◌∙◌, inl, inr, arith, add-one, leb→le}
use Rattle.std.proofs.lemmas.Bool.{false≢true}
use Rattle.std.proofs.Math.Bool.{and-eq-true_iff}
use mathlib.Core.List.Memᴰ.{cast as mem-cast}
use Rattle.std.proofs.Math.Seq.{drop-cons, drop-length}
use Rattle.laws.specs.Integer.{nought}
use Rattle.laws.specs.Matrix.{Matrix, act, origin, act-origin, Unimodular}
use Rattle.laws.specs.Residue.{residue, Triple, reduced, lifted, turned, reduced-again}
use Rattle.laws.specs.Distinct.{has, Mem→has, equality-equivalence}
use Rattle.laws.specs.Lattice.{same_triple, triple-decides, zero_triple, filled}
use Rattle.laws.specs.LatticeMaps.{MapsOnto, keeps_points, maps-onto}
use Rattle.laws.specs.Truth.{all, all-member, and_left, and_right, holds}
use Rattle.operation.specs.Meaning.{matrix_of, vector_of}
use Rattle.operation.specs.Entries.{Entries, all-entries}
use Rattle.operation.specs.Product.{rotated_of}
use Rattle.operation.specs.RotationType.{handedness_of, proper-determinant, improper-determinant, determinant-proper, determinant-improper, is_turn}
use Rattle.operation.specs.declared.Rotation.{Rotation}
use Rattle.operation.specs.declared.Translation.{Translation}
use Rattle.operation.specs.declared.rotation_type.Handedness.{Handedness}
use Rattle.operation.specs.declared.rotation_type.Handedness.TheVariants.{Proper, Improper, Neither}
use Rattle.centering.specs.Letters.{letters, points_of}
use Rattle.centering.specs.Lattices.{listed, points, triple_of, translation_of, lattice_points_of, contains_of}
use Rattle.centering.specs.declared.Centering.{Centering}
use Rattle.centering.specs.declared.LatticePoints.{LatticePoints}

unfoldable pub keeps_of : Centering → Rotation → Bool
keeps_of c r = is_turn (handedness_of (matrix_of r)) && keeps_points (points_of c) (matrix_of r)

-- `keeps` says whether the rotation has its entries in −1..1 and maps L onto L.
turn-unimodular : (A : Matrix) (h : Handedness) → handedness_of A ≡ h → is_turn h ≡ true → Entries A × Unimodular A
turn-unimodular A Proper e t = let p = proper-determinant A e in ((all-entries A).0 p.0, inl p.1)
turn-unimodular A Improper e t = let p = improper-determinant A e in ((all-entries A).0 p.0, inr p.1)
turn-unimodular A Neither e t = absurd (false≢true t)

unimodular-turn : (A : Matrix) → Entries A → Unimodular A → is_turn (handedness_of A) ≡ true
unimodular-turn A e (inl d) = rw (determinant-proper A ((all-entries A).1 e) d)
unimodular-turn A e (inr d) = rw (determinant-improper A ((all-entries A).1 e) d)

pub keeps-lattice : (c : Centering) (r : Rotation) → (keeps_of c r ≡ true) ↔ (Entries (matrix_of r) × MapsOnto (points_of c) (matrix_of r))
unfolding keeps_of
keeps-lattice c r =
    let onto = maps-onto (points_of c) (points c) (matrix_of r) in (
      (λ h.
          let (t, k) = (and-eq-true_iff (is_turn (handedness_of (matrix_of r))) _).0 h in
          let (e, u) = turn-unimodular (matrix_of r) (handedness_of (matrix_of r)) refl t in
          (e, onto.1 (u, holds.1 k))),
      λ (e, m).
          let (u, k) = onto.0 m in
          let kept : keeps_points (points_of c) (matrix_of r) ≡ true = holds.0 k in
          rw (unimodular-turn (matrix_of r) e u, kept),
    )

-- ---- the search through the points
-- Where the code looks for the image of a point, and what it is to find there.
unfoldable pub stays_in : Centering → Rotation → Triple → Bool
stays_in c r p = has same_triple (turned (matrix_of r) p) (points_of c)

pub stays-contains : (c : Centering) (r : Rotation) (t : Translation) → contains_of c (rotated_of r t) ≡ stays_in c r (triple_of t)
unfolding contains_of rotated_of stays_in turned vector_of
stays-contains c r t = ap (λ u. has same_triple u (points_of c)) (reduced-again (act (matrix_of r) (lifted (triple_of t))))

zero-stays : (R : Matrix) → turned R zero_triple ≡ zero_triple
unfolding turned origin nought residue
zero-stays R = ap reduced (act-origin R)

stays-zero : (c : Centering) (r : Rotation) → stays_in c r zero_triple ≡ true
unfolding stays_in
stays-zero c r =
    holds.0 (Mem→has same_triple (equality-equivalence same_triple triple-decides) (mem-cast (zero-stays (matrix_of r)) (points c).holds-zero))

filled_at : (n : ℕ) (l : List Triple) (i : ℕ) (d : Translation) → i < length l → triple_of (get_or (map translation_of (filled n l)) i d)
    ≡ get_or l i zero_triple
unfolding filled
filled_at zero (p ∷ l) zero d h = refl
filled_at zero (p ∷ l) (suc i) d h = filled_at zero l i d (omega arith)
filled_at (suc n) (p ∷ l) zero d h = refl
filled_at (suc n) (p ∷ l) (suc i) d h = filled_at n l i d (omega arith)
filled_at zero mathlib.Core.List.[] i d h = elim h [ ]
filled_at (suc n) mathlib.Core.List.[] i d h = elim h [ ]

module _ {A : Type 0} (test : A → Bool) (l : List A) (z : A) where
  -- One test less to make; a test that fails; none left.
  pub all-step : (i : ℕ) → i < length l → test (get_or l i z) ≡ true → all test (drop i l) ≡ all test (drop (i + 1) l)
  unfolding all
  all-step i h e = rw (add-one i, drop-cons l i z, e)

  pub all-fails : (i : ℕ) → i < length l → test (get_or l i z) ≡ false → all test (drop i l) ≡ false
  unfolding all
  all-fails i h e = rw (drop-cons l i z, e)

  pub all_done : all test (drop (length l) l) ≡ true
  unfolding all
  all_done = rw drop-length

-- (0,0,0) comes first, and there are at most four points.
first-test : T (all (λ c. same_triple (get_or (points_of c) 0 zero_triple) zero_triple && (leb 1 (length (points_of c)) && leb (length (points_of c)) 4))
    letters)
unfolding all same_triple
first-test = tt

module _ (c : Centering) where
  first_of : T (same_triple (get_or (points_of c) 0 zero_triple) zero_triple && (leb 1 (length (points_of c)) && leb (length (points_of c)) 4))
  first_of = all-member (λ c. same_triple (get_or (points_of c) 0 zero_triple) zero_triple &&
      (leb 1 (length (points_of c)) && leb (length (points_of c)) 4)) first-test (listed c)

  first-zero : get_or (points_of c) 0 zero_triple ≡ zero_triple
  first-zero = triple-decides.exact _ zero_triple (and_left (same_triple (get_or (points_of c) 0 zero_triple) zero_triple) _ first_of)

  pub count-range : (1 ≤ length (points_of c)) × (length (points_of c) ≤ 4)
  count-range =
      let t = and_right (same_triple (get_or (points_of c) 0 zero_triple) zero_triple) _ first_of in
      (leb→le 1 _ (and_left (leb 1 (length (points_of c))) _ t), leb→le _ 4 (and_right (leb 1 (length (points_of c))) _ t))

  -- The search may begin behind the first point.
  pub keeps-start : (r : Rotation) → all (stays_in c r) (drop 1 (points_of c)) ≡ keeps_points (points_of c) (matrix_of r)
  unfolding keeps_points stays_in
  keeps-start r =
      sym (all-step (stays_in c r) (points_of c) zero_triple 0 count-range.0 (ap (stays_in c r) first-zero ∙ stays-zero c r))

  -- The points of the code's list.
  pub point_at : (p : LatticePoints) → p ≡ lattice_points_of c → (i : ℕ) (d : Translation) → i < length (points_of c)
      → triple_of (get_or p.points i d) ≡ get_or (points_of c) i zero_triple
  unfolding lattice_points_of
  point_at p e i d h =
      ap (λ (q : LatticePoints). triple_of (get_or q.points i d)) e ∙ filled_at 4 (points_of c) i d h

  pub count-is : (p : LatticePoints) → p ≡ lattice_points_of c → p.count ≡ length (points_of c)
  unfolding lattice_points_of
  count-is p e = ap (λ (q : LatticePoints). q.count) e
