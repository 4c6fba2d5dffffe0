-- What a record holds is a group: with L added it is closed under products and inverses, and its pure translations are exactly L.
-- The idea for inverses: to multiply the finitely many rotations by one of them is an injection, so it reaches the identity.
use Rattle.std.specs.Prelude.{◌≡◌, ◌↔◌, ℕ, T, pos}
use Rattle.std.proofs.Math.Path.{sym, ap}
use Rattle.std.proofs.Common.{◌∙◌, ap₂, eqb→eq}
use mathlib.Core.List.Memᴰ.{cast as mem-cast}
use mathlib.Core.List.Memᴰ.{map as mem-map}
use mathlib.Core.List.Memᴰ.{of_map as mem-of-map}
use mathlib.Core.List.{List, map, Memᴰ as Mem}
use Rattle.std.proofs.Math.Dec.{eqb_refl}
use Rattle.laws.specs.Integer.{ring}
use Rattle.laws.specs.Matrix.{Matrix, Vector, times, act, plus, opposite, unit, inverse, Unimodular, times-assoc, unit-times, act-times, act-unit, act-plus, act-opposite, plus_comm, plus-opposite, times-inverse, inverse-times}
use Rattle.laws.specs.Motion.{SpaceMotion, compose, identity, product, translation_by}
use Rattle.laws.specs.Distinct.{has, has-member, has-respects, Mem→has, injection-onto}
use Rattle.laws.specs.Lattice.{InLattice, in-plus, in-opposite}
use Rattle.laws.specs.LatticeMaps.{MapsInto, MapsOnto}
use Rattle.laws.specs.MotionsModulo.{less-origin}
use Rattle.operation.specs.Code.{code_of}
use Rattle.operation.specs.Composed.{identity-motion}
use Rattle.operation.specs.Entries.{Entries, digits-entries, digits-again}
use Rattle.operation.specs.Meaning.{matrix_of, vector_of, motion_of, digits_of}
use Rattle.operation.specs.Product.{identity_operation, operation_of}
use Rattle.operation.specs.declared.Operation.{Operation}
use Rattle.operation.specs.declared.Translation.{Translation}
use Rattle.centering.specs.Letters.{points_of}
use Rattle.centering.specs.Lattices.{points}
use Rattle.centering.specs.declared.Centering.{Centering}
use Rattle.group_record.specs.Groups.{Alike, InSet, Allowed, same_code, Listing}
use Rattle.group_record.specs.ListedForm.{operation≡, matrix-injective, code-matrix, code-equivalence, told-by-rotation, alike-reflexive, alike-transitive}
use Rattle.group_record.specs.OneRecord.{pure-translations}

-- ---- products of motions that differ by translations of L
-- The difference of two products' translations.
difference-moved : (R : Matrix) (u v s t : Vector)
    → plus (plus (act R u) s) (opposite (plus (act R v) t)) ≡ plus (act R (plus u (opposite v))) (plus s (opposite t))
unfolding plus opposite act
difference-moved R u v s t = simp ring

-- Products of alike motions are alike, where the left factor keeps L.
pub compose-alike : (c : Centering) (f g h k : SpaceMotion) → MapsInto (points_of c) f.rotation → Alike c f g → Alike c h k
    → Alike c (compose f h) (compose g k)
unfolding product
compose-alike c f g h k into (p, q) (r, s) =
    (ap₂ times p r, rw (← p, difference-moved f.rotation h.translation k.translation f.translation g.translation) both)
  where
    both : InLattice (points_of c)
        (plus (act f.rotation (plus h.translation (opposite k.translation))) (plus f.translation (opposite g.translation)))
    both = in-plus (points_of c) (points c) _ _ (into _ s) q

-- ---- the inverse of a motion
unfoldable pub inverse_motion : SpaceMotion → SpaceMotion
inverse_motion f = record { rotation = inverse f.rotation; translation = opposite (act (inverse f.rotation) f.translation) }

-- Motions are equal where their parts are.
motion≡ : {f g : SpaceMotion} → f.rotation ≡ g.rotation → f.translation ≡ g.translation → f ≡ g
motion≡ p q = λ i. record { rotation = p i; translation = q i }

-- The inverse is one on the right,
pub compose-inverse : (f : SpaceMotion) → Unimodular f.rotation → compose f (inverse_motion f) ≡ identity
unfolding product inverse_motion
compose-inverse f u =
    motion≡ (times-inverse f.rotation u)
    (ap (λ v. plus v f.translation)
    (act-opposite f.rotation _
    ∙ ap opposite (sym (act-times f.rotation (inverse f.rotation) f.translation) ∙ ap (λ A. act A f.translation) (times-inverse f.rotation u)
    ∙ act-unit f.translation))
    ∙ plus_comm (opposite f.translation) f.translation ∙ plus-opposite f.translation)

-- and on the left.
pub inverse-compose : (f : SpaceMotion) → Unimodular f.rotation → compose (inverse_motion f) f ≡ identity
unfolding product inverse_motion
inverse-compose f u = motion≡ (inverse-times f.rotation u) (plus-opposite (act (inverse f.rotation) f.translation))

-- A right inverse of a rotation is its inverse; a left factor cancels.
times-cancel : (A X Y : Matrix) → Unimodular A → times A X ≡ times A Y → X ≡ Y
times-cancel A X Y u e = sym (back X) ∙ ap (times (inverse A)) e ∙ back Y
  where
    back : (Z : Matrix) → times (inverse A) (times A Z) ≡ Z
    back Z = sym (times-assoc (inverse A) A Z) ∙ ap (λ B. times B Z) (inverse-times A u) ∙ unit-times Z

-- A right inverse of a rotation is its inverse.
inverse-unique : (A X : Matrix) → Unimodular A → times A X ≡ unit → inverse A ≡ X
inverse-unique A X u e = times-cancel A (inverse A) X u (times-inverse A u ∙ sym e)

-- How the inverse's translation differs from that of a right inverse.
inverse-sum : (B A : Matrix) (u t : Vector) → times B A ≡ unit → plus (opposite (act B t)) (opposite u) ≡ opposite (act B (plus (act A u) t))
unfolding plus opposite
inverse-sum B A u t e =
    swap u (act B t) ∙ ap (λ v. opposite (plus v (act B t))) (sym (act-unit u) ∙ ap (λ C. act C u) (sym e) ∙ act-times B A u)
    ∙ ap opposite (sym (act-plus B (act A u) t))
  where
    swap : (v w : Vector) → plus (opposite w) (opposite v) ≡ opposite (plus v w)
    swap v w = simp ring

-- ---- the identity's operation
-- A natural is told by its integer.
pos-injective : (a b : ℕ) → pos a ≡ pos b → a ≡ b
pos-injective a b e = cc

-- Translations are equal where their coordinates are.
translation≡ : {s t : Translation} → s.x ≡ t.x → s.y ≡ t.y → s.z ≡ t.z → s ≡ t
translation≡ p q r = λ i. record { x = p i; y = q i; z = r i }

-- A translation is told by its vector.
vector-injective : (s t : Translation) → vector_of s ≡ vector_of t → s ≡ t
unfolding vector_of
vector-injective s t e =
    translation≡ (pos-injective _ _ (ap (λ (v : Vector). v.x) e)) (pos-injective _ _ (ap (λ (v : Vector). v.y) e))
    (pos-injective _ _ (ap (λ (v : Vector). v.z) e))

-- The identity operation's matrix.
unit-matrix : matrix_of identity_operation.rotation ≡ unit
unfolding motion_of
unit-matrix = ap (λ (f : SpaceMotion). f.rotation) identity-motion

-- An operation with entries in −1..1 is told by its motion.
pub motion-injective : (f g : Operation) → Entries (matrix_of f.rotation) → motion_of f ≡ motion_of g → f ≡ g
unfolding motion_of
motion-injective f g d e =
    let same : matrix_of f.rotation ≡ matrix_of g.rotation = ap (λ (m : SpaceMotion). m.rotation) e in
    operation≡ (matrix-injective f.rotation g.rotation d (rw same at d) same)
    (vector-injective f.translation g.translation (ap (λ (m : SpaceMotion). m.translation) e))

-- A listing with the identity motion holds the identity operation.
pub identity-listed : {l : List Operation} → Listing l → Mem identity (map motion_of l) → Mem identity_operation l
identity-listed {l} L m =
    let (f, k, e) = mem-of-map motion_of l m in
    mem-cast (sym (motion-injective f identity_operation (L.entries f k) (e ∙ sym identity-motion))) k

-- One rotation has one code.
same_code_lem : (f g : Operation) → f.rotation ≡ g.rotation → T (same_code f g)
same_code_lem f g e = rw e (eqb_refl (code_of g.rotation))

-- What has an operation's rotation is had by a list that holds the operation.
has-at : {l : List Operation} (f h : Operation) → Mem h l → f.rotation ≡ h.rotation → T (has same_code f l)
has-at {l} f h m e = has-respects same_code code-equivalence f h l (same_code_lem f h e) (Mem→has same_code code-equivalence m)

-- ---- a set of motions that is a group with the translations of L
pub record SpaceGroup (c : Centering) (Inside : SpaceMotion → Type 0) : Type 0 where
  pub holds-identity : Inside identity
  pub product : (f g : SpaceMotion) → Inside f → Inside g → Inside (compose f g)
  pub inverse : (f : SpaceMotion) → Inside f → (g : SpaceMotion) × Inside g × (compose f g ≡ identity) × (compose g f ≡ identity)
  pub translations : (v : Vector) → Inside (translation_by v) ↔ InLattice (points_of c) v

-- What makes a group of a list with L added, however long it is: all that is asked of an allowed one but its length.
pub record Closed (c : Centering) (l : List SpaceMotion) : Type 0 where
  pub determinant : (f : SpaceMotion) → Mem f l → Unimodular f.rotation
  pub keeps : (f : SpaceMotion) → Mem f l → MapsOnto (points_of c) f.rotation
  pub holds-identity : Mem identity l
  pub product : (f g : SpaceMotion) → Mem f l → Mem g l → (h : SpaceMotion) × Mem h l × Alike c (compose f g) h

module _ (c : Centering) {l : List Operation} (L : Listing l) (A : Closed c (map motion_of l)) where
  -- The listed operation of a product.
  listed-product : (f g : Operation) → Mem f l → Mem g l → (h : Operation) × Mem h l × Alike c (compose (motion_of f) (motion_of g)) (motion_of h)
  listed-product f g m k =
      let (p, n, a) = A.product (motion_of f) (motion_of g) (mem-map motion_of m) (mem-map motion_of k) in
      let (h, o, e) = mem-of-map motion_of l n in
      (h, o, cast h p e a)
    where
      cast : (h : Operation) (p : SpaceMotion) → motion_of h ≡ p → Alike c (compose (motion_of f) (motion_of g)) p
          → Alike c (compose (motion_of f) (motion_of g)) (motion_of h)
      cast h p e a = rw e a

  -- The product of f and x as an operation: its rotation is listed.
  multiplied : Operation → Operation → Operation
  multiplied f x = operation_of (compose (motion_of f) (motion_of x))

  -- It is that of the listed product.
  multiplied-rotation : (f x h : Operation) → Mem h l → Alike c (compose (motion_of f) (motion_of x)) (motion_of h) → (multiplied f x).rotation ≡ h.rotation
  unfolding multiplied operation_of motion_of
  multiplied-rotation f x h m a = ap digits_of a.0 ∙ digits-again h.rotation ((digits-entries h.rotation).1 (L.entries h m))

  -- Listed rotations have determinant 1 or −1,
  unimodular : (f : Operation) → Mem f l → Unimodular (matrix_of f.rotation)
  unfolding motion_of
  unimodular f m = A.determinant (motion_of f) (mem-map motion_of m)

  -- and map L into L.
  into : (f : Operation) → Mem f l → MapsInto (points_of c) (matrix_of f.rotation)
  unfolding motion_of
  into f m = (A.keeps (motion_of f) (mem-map motion_of m)).0

  -- Two listed right factors with one product have one rotation.
  rotations-cancel : (f x y g h : Operation) → Mem f l → Mem x l → Mem y l → Alike c (compose (motion_of f) (motion_of x)) (motion_of g)
      → Alike c (compose (motion_of f) (motion_of y)) (motion_of h) → g.rotation ≡ h.rotation → x.rotation ≡ y.rotation
  unfolding motion_of product
  rotations-cancel f x y g h m k n p q e =
      matrix-injective x.rotation y.rotation (L.entries x k) (L.entries y n)
      (times-cancel (matrix_of f.rotation) _ _ (unimodular f m) (p.0 ∙ ap matrix_of e ∙ sym q.0))

  -- Each listed operation has a listed one that makes a translation of L of it.
  right-inverse : (f : Operation) → Mem f l → (x : Operation) × Mem x l × Alike c (compose (motion_of f) (motion_of x)) identity
  right-inverse f m =
      let one = identity-listed L A.holds-identity in
      let hit =
      injection-onto same_code code-equivalence (multiplied f) l injective L.distinct inside identity_operation (Mem→has same_code code-equivalence one) in
      let (y, k, s) = has-member same_code identity_operation (map (multiplied f) l) hit in
      let (x, n, e) = mem-of-map (multiplied f) l k in
      let (h, o, a) = listed-product f x m n in (
        x,
        n,
        reached x h o one a (eqb→eq (code_of identity_operation.rotation) (code_of y.rotation) s ∙ ap (λ (g : Operation). code_of g.rotation) (sym e)),
      )
    where
      inside : (x : Operation) → Mem x l → T (has same_code (multiplied f x) l)
      inside x k = let (h, o, a) = listed-product f x m k in has-at (multiplied f x) h o (multiplied-rotation f x h o a)

      injective : (x y : Operation) → Mem x l → Mem y l → T (same_code (multiplied f x) (multiplied f y)) → T (same_code x y)
      injective x y k n t =
          let (h, o, a) = listed-product f x m k in
          let (g, p, b) = listed-product f y m n in
          let codes : code_of h.rotation ≡ code_of g.rotation =
          ap code_of (sym (multiplied-rotation f x h o a)) ∙ eqb→eq (code_of (multiplied f x).rotation) (code_of (multiplied f y).rotation) t
          ∙ ap code_of (multiplied-rotation f y g p b) in
          same_code_lem x y (rotations-cancel f x y h g m k n a b (code-matrix h.rotation g.rotation (L.entries h o) (L.entries g p) codes))

      reached : (x h : Operation) → Mem h l → Mem identity_operation l → Alike c (compose (motion_of f) (motion_of x)) (motion_of h)
          → code_of identity_operation.rotation ≡ code_of (multiplied f x).rotation → Alike c (compose (motion_of f) (motion_of x)) identity
      reached x h o one a e =
          let rotations : h.rotation ≡ identity_operation.rotation =
          code-matrix h.rotation identity_operation.rotation (L.entries h o) (L.entries identity_operation one)
          (ap code_of (sym (multiplied-rotation f x h o a)) ∙ sym e) in
          alike_at x h (ap motion_of (told-by-rotation L o one rotations) ∙ identity-motion) a
        where
          alike_at : (x h : Operation) → motion_of h ≡ identity → Alike c (compose (motion_of f) (motion_of x)) (motion_of h)
              → Alike c (compose (motion_of f) (motion_of x)) identity
          alike_at x h q a = rw q at a

  -- The inverse of a motion of the set is in the set.
  inverse-alike : (f : SpaceMotion) (g x : Operation) → Mem g l → Mem x l → Alike c f (motion_of g) → Alike c (compose (motion_of g) (motion_of x)) identity
      → Unimodular f.rotation → MapsInto (points_of c) f.rotation → Alike c (inverse_motion f) (motion_of x)
  unfolding inverse_motion motion_of product
  inverse-alike f g x m k a b u maps =
      let near : Alike c (compose f (motion_of x)) identity =
      alike-transitive c (compose f (motion_of x)) (compose (motion_of g) (motion_of x)) identity
      (compose-alike c f (motion_of g) (motion_of x) (motion_of x) maps a (alike-reflexive c (motion_of x))) b in
      let turned = inverse-unique f.rotation (matrix_of x.rotation) u near.0 in
      let moved : InLattice (points_of c) (plus (act f.rotation (vector_of x.translation)) f.translation) = rw (less-origin _) at near.1 in
      let back : InLattice (points_of c) (act (inverse f.rotation) (plus (act f.rotation (vector_of x.translation)) f.translation)) =
      rw turned (into x k _ moved) in (
        turned,
        rw (inverse-sum (inverse f.rotation) f.rotation (vector_of x.translation) f.translation (inverse-times f.rotation u))
            (in-opposite (points_of c) (points c) _ back),
      )

  -- With L added, they are a group whose translations are L.
  pub closed-group : SpaceGroup c (InSet c (map motion_of l))
  closed-group =
      record {
        holds-identity = (identity, A.holds-identity, alike-reflexive c identity);
        product = products;
        inverse = inverses;
        translations = pure-translations c L (identity-listed L A.holds-identity);
      }
    where
      products : (f g : SpaceMotion) → InSet c (map motion_of l) f → InSet c (map motion_of l) g → InSet c (map motion_of l) (compose f g)
      products f g (h, m, a) (k, n, b) =
          let (p, o, q) = A.product h k m n in
          let maps : MapsInto (points_of c) f.rotation = rw a.0 (A.keeps h m).0 in
          (p, o, alike-transitive c (compose f g) (compose h k) p (compose-alike c f h g k maps a b) q)

      inverses : (f : SpaceMotion) → InSet c (map motion_of l) f
          → (g : SpaceMotion) × InSet c (map motion_of l) g × (compose f g ≡ identity) × (compose g f ≡ identity)
      inverses f (h, m, a) =
          let (g, n, e) = mem-of-map motion_of l m in
          let (x, k, b) = right-inverse g n in
          let turns : Unimodular f.rotation = rw a.0 (A.determinant h m) in
          let maps : MapsInto (points_of c) f.rotation = rw a.0 (A.keeps h m).0 in
          let near = cast h g e a in (
            inverse_motion f,
            (motion_of x, mem-map motion_of k, inverse-alike f g x n k near b turns maps),
            compose-inverse f turns,
            inverse-compose f turns,
          )
        where
          cast : (h : SpaceMotion) (g : Operation) → motion_of g ≡ h → Alike c f h → Alike c f (motion_of g)
          cast h g e a = rw e a

-- With L added, allowed operations are a group whose translations are L.
pub allowed-group : (c : Centering) {l : List Operation} → Listing l → Allowed c (map motion_of l) → SpaceGroup c (InSet c (map motion_of l))
allowed-group c L A =
    closed-group c L (record { determinant = A.determinant; keeps = A.keeps; holds-identity = A.holds-identity; product = A.product })
