-- The steps of an accepted symbol: with n generators, index i·n + j holds the index of the member that is, modulo L, member i times generator j.
use Rattle.std.specs.Prelude.{◌≡◌}
use Rattle.std.proofs.Common.{sym, ◌∙◌, subst, get_or-append-add}
use Rattle.std.proofs.Math.Path.{ap}
use mathlib.Core.List.{List, [], ◌∷◌, map, Memᴰ as Mem}
use Prim.Native.Nat.{ℕ, zero, suc, ◌+◌, ◌*◌, ◌<◌}
use native.Mathlib.Omega.{arith}
use Rattle.std.proofs.Math.Nat.{suc-mul}
use Rattle.std.proofs.Math.ListN.{length, get_or, length-map, length-append, get_or-append}
use Rattle.laws.specs.Motion.{SpaceMotion, compose, identity}
use Rattle.laws.specs.Closure.{step}
use Rattle.laws.specs.SameMatrix.{same_rotation, same-rotation}
use Rattle.laws.specs.MotionsModulo.{Alike, motions-keyed}
use Rattle.laws.specs.Growth.{place}
use Rattle.laws.specs.GrowthClosure.{place-lt, place_same, steps_from}
use Rattle.laws.specs.Indices.{member-at, image-at}
use Rattle.operation.specs.Meaning.{motion_of}
use Rattle.operation.specs.Product.{identity_operation, operation_of}
use Rattle.operation.specs.declared.Operation.{Operation}
use Rattle.centering.specs.Letters.{points_of}
use Rattle.centering.specs.Lattices.{points}
use Rattle.centering.specs.declared.Centering.{Centering}
use Rattle.space_group.specs.Generated.{motions, Generated, is_small, same_vector_class}
use Rattle.space_group.specs.OperationGrowth.{operation-alike}
use Rattle.space_group_theorems.specs.Acceptance.{Accepted, lists, motions-keep}
use Rattle.space_group_theorems.specs.Members.{one_class, member-small, generated-keeps, alike-keeps}

module _ (c : Centering) (gens : List SpaceMotion) (l : List SpaceMotion) where
  -- The indices of the products of some motions with the generators.
  abbrev indices : List SpaceMotion → List ℕ
  indices = steps_from same_rotation (same_vector_class c) is_small compose gens l

  -- There are as many as products.
  indices-length : (xs : List SpaceMotion) → length (indices xs) ≡ length xs * length gens
  unfolding steps_from
  indices-length [] = omega arith
  indices-length (x ∷ xs) =
      length-append (map (λ g. place same_rotation (compose x g) l) gens) (indices xs)
      ∙ omega (arith, length-map gens (λ g. place same_rotation (compose x g) l), indices-length xs, suc-mul (length xs) (length gens))

  -- The product of motion i and generator j has its index at i·n + j.
  index_at : (xs : List SpaceMotion) (i j : ℕ) → i < length xs → j < length gens
      → get_or (indices xs) (i * length gens + j) 0 ≡ place same_rotation (compose (get_or xs i identity) (get_or gens j identity)) l
  unfolding steps_from
  index_at [] i j h k = absurd (omega arith)
  index_at (x ∷ xs) zero j h k =
      let first = map (λ g. place same_rotation (compose x g) l) gens in
      let at : 0 * length gens + j ≡ j = omega arith in
      rw at (get_or-append first (indices xs) 0 j (omega (arith, length-map gens (λ g. place same_rotation (compose x g) l)))
      ∙ image-at (λ g. place same_rotation (compose x g) l) gens j identity 0 k)
  index_at (x ∷ xs) (suc i) j h k =
      let first = map (λ g. place same_rotation (compose x g) l) gens in
      let at : suc i * length gens + j ≡ length first + (i * length gens + j) =
      omega (arith, suc-mul i (length gens), length-map gens (λ g. place same_rotation (compose x g) l)) in
      rw at (get_or-append-add first (indices xs) (i * length gens + j) 0 ∙ index_at xs i j (omega arith) k)

module _ (c : Centering) (gens operations : List Operation) (steps : List ℕ) (A : Accepted c gens operations steps) where
  -- There are as many steps as products.
  pub steps-length : length steps ≡ length operations * length gens
  steps-length =
      ap length A.steps-are ∙ indices-length c (motions gens) A.list A.list
      ∙ rw (A.operations-are, length-map A.list operation_of, length-map gens motion_of)

  -- Member i of the list, and what it is made of.
  member_of : (i : ℕ) → i < length A.list
      → (get_or operations i identity_operation ≡ operation_of (get_or A.list i identity)) × Generated gens (get_or A.list i identity)
  member_of i h = (
    ap (λ (l : List Operation). get_or l i identity_operation) A.operations-are ∙ image-at operation_of A.list i identity identity_operation h,
    (lists gens A.list A.listed).sound (get_or A.list i identity) (member-at A.list i identity h),
  )

  member_alike : (i : ℕ) → i < length A.list → Alike (points_of c) (get_or A.list i identity) (motion_of (get_or operations i identity_operation))
  member_alike i h =
      let (e, r) = member_of i h in
      subst (λ o. Alike (points_of c) (get_or A.list i identity) (motion_of o)) (sym e)
      (operation-alike c (get_or A.list i identity) (member-small c gens operations steps A (get_or A.list i identity) r))

  -- The list is as long as what it is made of.
  same_length : length operations ≡ length A.list
  same_length = ap length A.operations-are ∙ length-map A.list operation_of

  module _ (i j : ℕ) (h : i < length operations) (k : j < length gens) where
    -- The factors as motions.
    abbrev left : SpaceMotion
    left = get_or A.list i identity

    abbrev right : SpaceMotion
    right = motion_of (get_or gens j identity_operation)

    -- The index that is noted.
    noted : ℕ
    noted = place same_rotation (compose left right) A.list

    right_is : get_or (motions gens) j identity ≡ right
    right_is = image-at motion_of gens j identity_operation identity k

    noted-is : get_or steps (i * length gens + j) 0 ≡ noted
    unfolding noted
    noted-is =
        let at = index_at c (motions gens) A.list A.list i j (omega (arith, same_length)) (omega (arith, length-map gens motion_of)) in
        ap (λ (l : List ℕ). get_or l (i * length gens + j) 0) A.steps-are ∙ rw (right_is, length-map gens motion_of) at at

    left-generated : Generated gens left
    left-generated = (member_of i (omega (arith, same_length))).1

    right-member : Mem right (motions gens)
    right-member = subst (λ g. Mem g (motions gens)) right_is (member-at (motions gens) j identity (omega (arith, length-map gens motion_of)))

    product-generated : Generated gens (compose left right)
    product-generated = step left-generated right-member

    -- It is that of a member,
    noted-lt : noted < length A.list
    unfolding noted
    noted-lt = place-lt same_rotation (compose left right) A.list ((lists gens A.list A.listed).complete (compose left right) product-generated)

    -- whose motion is alike to the product.
    noted-alike : Alike (points_of c) (compose left right) (get_or A.list noted identity)
    unfolding noted
    noted-alike =
        let y = get_or A.list noted identity in
        let same =
        place_same same_rotation (compose left right) A.list identity
        ((lists gens A.list A.listed).complete (compose left right) product-generated) in
        one_class c gens operations steps A (compose left right) y product-generated (member_of noted noted-lt).1 (same-rotation (compose left right) y same)

    -- So is the product of the operations.
    factors-alike : Alike (points_of c) (compose left right) (compose (motion_of (get_or operations i identity_operation)) right)
    factors-alike =
        let M = motions-keyed (points_of c) (points c) in
        let near = member_alike i (omega (arith, same_length)) in
        let keep = generated-keeps c gens operations steps A left left-generated in
        let keep-right = motions-keep c gens A.keep right right-member in
        M.alike_right left (motion_of (get_or operations i identity_operation)) right keep
        (alike-keeps c gens operations steps A left (motion_of (get_or operations i identity_operation)) near keep) keep-right near

    -- Member i times generator j is, modulo L, the member whose index is noted.
    pub step_right : (get_or steps (i * length gens + j) 0 < length operations)
        × Alike (points_of c) (compose (motion_of (get_or operations i identity_operation)) right)
        (motion_of (get_or operations (get_or steps (i * length gens + j) 0) identity_operation))
    step_right =
        let M = motions-keyed (points_of c) (points c) in
        let o = motion_of (get_or operations i identity_operation) in
        let y = get_or A.list noted identity in
        let target = motion_of (get_or operations noted identity_operation) in
        let first = M.alike-symmetric (compose left right) (compose o right) factors-alike in
        let second = M.alike-transitive (compose o right) (compose left right) y first noted-alike in
        (omega (arith, noted-is, noted-lt, same_length), rw noted-is (M.alike-transitive (compose o right) y target second (member_alike noted noted-lt)))
