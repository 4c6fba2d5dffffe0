-- What the product's answer says of motions of space: inside, it is the composed motion modulo 12; outside, an entry of the composed rotation has left −1..1.
use Rattle.std.specs.Prelude.{◌≡◌, refl, ◌↔◌, Bool, true, false, cond, ℕ, ◌<◌, None, Some}
use Rattle.std.proofs.Common.{sym, ◌∙◌, true≢false, arith}
use Rattle.std.proofs.Math.IntN.{one}
use Rattle.laws.specs.Integer.{nought}
use Rattle.laws.specs.Matrix.{unit, origin}
use Rattle.laws.specs.Motion.{SpaceMotion, compose, identity}
use Rattle.laws.specs.Residue.{residue-lt, residue-again, reduced}
use Rattle.operation.specs.Meaning.{entry_of, matrix_of, vector_of, motion_of, all_inside}
use Rattle.operation.specs.Product.{identity_operation, product_of, operation_of}
use Rattle.operation.specs.Entries.{Entries, all-entries, digits-stand}
use Rattle.operation.specs.declared.Operation.{Operation}

-- The identity operation is the identity.
pub identity-motion : motion_of identity_operation ≡ identity
unfolding motion_of matrix_of vector_of entry_of unit origin one nought
identity-motion = refl

-- The operation of a motion with entries in −1..1 has that motion's matrix, and its translation modulo 12.
pub record Reduces (m : SpaceMotion) (h : Operation) : Type 0 where
  pub rotation : matrix_of h.rotation ≡ m.rotation
  pub translation : reduced (vector_of h.translation) ≡ reduced m.translation
  pub small : (h.translation.x < 12) × (h.translation.y < 12) × (h.translation.z < 12)

pub operation-reduces : (m : SpaceMotion) → Entries m.rotation → Reduces m (operation_of m)
unfolding operation_of vector_of
operation-reduces m e =
    record {
      rotation = digits-stand m.rotation e;
      translation = simp residue-again;
      small = (residue-lt m.translation.x, residue-lt m.translation.y, residue-lt m.translation.z);
    }

-- What a choice between the two answers says of the test.
chosen-inside : (b : Bool) (h k : Operation) → cond b (Some k) None ≡ Some h → (b ≡ true) × (k ≡ h)
chosen-inside true h k e = (refl, cc)
chosen-inside false h k e = let z : ◌≡◌ {A = ℕ} 0 1 = cc in absurd (omega arith)

chosen-outside : (b : Bool) (k : Operation) → cond b (Some k) None ≡ None → b ≡ false
chosen-outside true k e = let z : ◌≡◌ {A = ℕ} 0 1 = cc in absurd (omega arith)
chosen-outside false k e = refl

-- Some: the answer is the composed motion, its translation modulo 12.
pub product_inside_lem : (f g h : Operation) → product_of f g ≡ Some h
    → Entries (compose (motion_of f) (motion_of g)).rotation × Reduces (compose (motion_of f) (motion_of g)) h
unfolding product_of
product_inside_lem f g h e =
    let m = compose (motion_of f) (motion_of g) in
    let (t, k) = chosen-inside (all_inside m.rotation) h (operation_of m) e in
    let entries = (all-entries m.rotation).0 t in
    (entries, rw k at (operation-reduces m entries))

-- None: exactly if an entry of the composed rotation has left −1..1.
pub product-outside : (f g : Operation) → (product_of f g ≡ None) ↔ ¬ Entries (compose (motion_of f) (motion_of g)).rotation
unfolding product_of
product-outside f g =
    let m = compose (motion_of f) (motion_of g) in (
      (λ e entries. true≢false (sym ((all-entries m.rotation).1 entries) ∙ chosen-outside (all_inside m.rotation) (operation_of m) e)),
      λ n. from (all_inside m.rotation) refl n,
    )
  where
    from : (b : Bool) → all_inside (compose (motion_of f) (motion_of g)).rotation ≡ b → ¬ Entries (compose (motion_of f) (motion_of g)).rotation
        → cond b (Some (operation_of (compose (motion_of f) (motion_of g)))) None ≡ None
    from true t n = absurd (n ((all-entries _).0 t))
    from false t n = refl
