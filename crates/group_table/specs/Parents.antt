-- Breadth first, every operation but the first was found from an earlier one: a step that stands before its own steps leads to it.
use Rattle.std.specs.Prelude.{◌≡◌, Bool, ℕ, ◌+◌, ◌*◌, ◌-◌, ◌<◌}
use Rattle.std.proofs.Math.Path.{sym, ap}
use Rattle.std.proofs.Common.{◌∙◌, arith, length-append, get_or-append-add}
use Rattle.std.proofs.Math.Option.{some}
use mathlib.Core.List.Memᴰ.{of_map as mem-of-map}
use mathlib.Core.List.{List, ◌∷◌, ◌++◌, append-nil, Memᴰ as Mem}
use Rattle.std.proofs.Math.Nat.{suc-mul, mul-le-mul_right}
use Rattle.std.proofs.Math.Decide.{dec_lt}
use Rattle.std.proofs.Math.ListN.{length, get_or, length-map, get_or-append, get_or-map}
use Rattle.std.proofs.Math.Seq.{get_or-append_seam}
use Rattle.laws.specs.Matrix.{times}
use Rattle.laws.specs.Motion.{compose, identity}
use Rattle.laws.specs.Closure.{closure, closure-keeps, Kept, fresh-candidate, regroup}
use Rattle.laws.specs.SameMatrix.{same_rotation}
use Rattle.laws.specs.MotionsModulo.{compose-rotation}
use Rattle.laws.specs.Indices.{member-at, member-index}
use Rattle.operation.specs.Meaning.{motion_of}
use Rattle.operation.specs.Product.{identity_operation, operation_of}
use Rattle.operation.specs.declared.Operation.{Operation}
use Rattle.centering.specs.declared.Centering.{Centering}
use Rattle.space_group.specs.Generated.{motions, listing}
use Rattle.space_group.specs.OperationGrowth.{operation-rotation, identity-operation}
use Rattle.space_group_theorems.specs.Acceptance.{Accepted, lists}
use Rattle.space_group_theorems.specs.Members.{member-small}
use Rattle.space_group_theorems.specs.Steps.{step_right}
use Rattle.group_record.specs.Groups.{Listing}
use Rattle.group_table.specs.OperationTables.{motion_at, rotation-index}

-- ---- in any closure
module _ {A G : Type 0} (same : A → A → Bool) (◌·◌ : A → G → A) (unit : A) (gens : List G) where
  infixl 70 ◌·◌
  -- Every listed element but the first is an earlier one times a generator.
  abbrev pub Descends : List A → Type 0
  Descends l = (j : ℕ) → 0 < j → j < length l → (p : ℕ) × (g : G) × (p < j) × Mem g gens × (get_or l p unit · g ≡ get_or l j unit)

  -- Taking the steps of an element keeps that.
  descends-kept : Kept same ◌·◌ unit gens (λ taken waiting. Descends (taken ++ waiting))
  descends-kept taken waiting r x f h = rw (regroup taken waiting r x) both
    where
      -- What was found before.
      found : List A
      found = taken ++ x ∷ waiting

      -- What is found last comes from x.
      last : (k : ℕ) → k < length r
          → (p : ℕ) × (g : G) × (p < length found + k) × Mem g gens × (get_or (found ++ r) p unit · g ≡ get_or (found ++ r) (length found + k) unit)
      last k b =
          let (g, m, e) = mem-of-map (λ g. x · g) gens (fresh-candidate same f (member-at r k unit b)) in
          let short : length taken < length found = simp length-append (omega arith) in
          let at_x : get_or (found ++ r) (length taken) unit ≡ x = get_or-append found r unit (length taken) short ∙ get_or-append_seam taken x waiting unit in
          (length taken, g, omega arith, m, rw (at_x, get_or-append-add found r k unit) e)

      -- What was found before has its parents already.
      both : Descends (found ++ r)
      both j a b = elim (dec_lt j (length found)) [
        | yes k ↦ let (p, g, lt, m, e) = h j a k in
            (p, g, lt, m, rw (get_or-append found r unit p (omega arith), get_or-append found r unit j k) e)
        | no k ↦ let at : length found + (j - length found) ≡ j = omega arith in
            rw at at (last (j - length found) (omega (arith, length-append found r)))
      ]

  -- So it holds of the closure.
  pub closure-descends : (n : ℕ) (l : List A) → closure same ◌·◌ unit gens n ≡ some l → Descends l
  closure-descends n l e =
      rw append-nil at (closure-keeps same ◌·◌ unit gens (λ taken waiting. Descends (taken ++ waiting)) descends-kept (λ j a b. absurd (omega arith)) n l e)

-- ---- in an accepted symbol's list
module _ (c : Centering) (gens operations : List Operation) (steps : List ℕ) (A : Accepted c gens operations steps) (L : Listing operations) where
  -- An operation has the rotation of the motion that it is made of.
  rotation-at : (i : ℕ) → i < length operations → (motion_at c operations i).rotation ≡ (get_or A.list i identity).rotation
  unfolding motion_of
  rotation-at i h =
      let f = get_or A.list i identity in
      let made : get_or operations i identity_operation ≡ operation_of f =
      rw (← (identity-operation c), A.operations-are) (get_or-map operation_of A.list i identity) in
      let within : i < length A.list = omega (arith, ap length A.operations-are, length-map A.list operation_of) in
      rw made
      (operation-rotation f (member-small c gens operations steps A f ((lists gens A.list A.listed).sound f (member-at A.list i identity within))))

  -- A product of motions that is listed has its index noted at the step.
  step-to : (p j k : ℕ) → p < length operations → j < length operations → k < length gens
      → compose (get_or A.list p identity) (motion_at c gens k) ≡ get_or A.list j identity → get_or steps (p * length gens + k) 0 ≡ j
  step-to p j k h b w e =
      let (below, near) = step_right c gens operations steps A p k h w in
      let noted = get_or steps (p * length gens + k) 0 in
      let right = motion_at c gens k in
      rotation-index c L noted j below b
      (sym near.0
      ∙ compose-rotation (motion_at c operations p) right
      ∙ ap (λ R. times R right.rotation) (rotation-at p h)
      ∙ sym (compose-rotation (get_or A.list p identity) right)
      ∙ ap (λ f. f.rotation) e
      ∙ sym (rotation-at j b))

  -- To each operation but the first a step leads that stands before the operation's own.
  pub parent-step : (j : ℕ) → 0 < j → j < length operations → (t : ℕ) × (t < j * length gens) × (get_or steps t 0 ≡ j)
  unfolding listing
  parent-step j a b =
      let size = ap length A.operations-are ∙ length-map A.list operation_of in
      let (p, g, lt, m, e) = closure-descends same_rotation compose identity (motions gens) 48 A.list A.listed j a (omega arith) in
      let (k, h, q) = member-index (motion_of identity_operation) m in
      let w : k < length gens = omega (arith, length-map gens motion_of) in
      let right : motion_at c gens k ≡ g = sym (get_or-map motion_of gens k identity_operation) ∙ q in
      (p * length gens + k, omega (arith, suc-mul p (length gens), mul-le-mul_right (length gens) lt), step-to p j k (omega arith) b w (rw right e))
