-- The set of motions of an accepted symbol, all finite products of generators and translations by L, is the listed operations with L added.
use Rattle.std.specs.Prelude.{◌≡◌, refl, ◌↔◌, ℕ}
use Rattle.std.proofs.Common.{sym, ◌∙◌, ap, subst}
use mathlib.Core.List.{List, Memᴰ as Mem}
use Rattle.laws.specs.Matrix.{Vector, times, act, unit, plus, opposite, times-unit, plus_assoc, plus_comm, plus-opposite, plus-origin}
use Rattle.laws.specs.Motion.{SpaceMotion, product, compose, identity, translation_by}
use Rattle.laws.specs.Lattice.{InLattice}
use Rattle.laws.specs.MotionsModulo.{Alike, Keeps}
use Rattle.group_growth.specs.WholeSet as growing
use Rattle.group_growth.specs.WholeSet.{Freedom}
use Rattle.operation.specs.Meaning.{motion_of}
use Rattle.operation.specs.declared.Operation.{Operation}
use Rattle.centering.specs.Letters.{points_of}
use Rattle.centering.specs.declared.Centering.{Centering}
use Rattle.space_group.specs.Generated.{motions}
use Rattle.space_group.specs.OperationGrowth.{motion_growth, operation_forms}
use Rattle.space_group_theorems.specs.Acceptance.{Accepted, accepted-whole, motions-keep}
use Rattle.space_group_theorems.specs.Members.{listed-member, member-listed}

-- The least set with the identity and closed under a generator, or a translation by a vector of L, as right factor.
pub data InGeneratedSet (c : Centering) (gens : List Operation) : SpaceMotion → Type 0 where
  origin : InGeneratedSet c gens identity
  by-generator : {f g : SpaceMotion} → InGeneratedSet c gens f → Mem g (motions gens) → InGeneratedSet c gens (compose f g)
  by-lattice : {f : SpaceMotion} (v : Vector) → InGeneratedSet c gens f → InLattice (points_of c) v → InGeneratedSet c gens (compose f (translation_by v))

-- A sum less one of its summands.
sum_less : (v w : Vector) → plus (plus v w) (opposite w) ≡ v
sum_less v w = plus_assoc v w (opposite w) ∙ ap (plus v) (plus-opposite w) ∙ plus-origin v

-- A difference and what was taken away.
less-sum : (v w : Vector) → plus (plus v (opposite w)) w ≡ v
less-sum v w = plus_assoc v (opposite w) w ∙ ap (plus v) (plus_comm (opposite w) w ∙ plus-opposite w) ∙ plus-origin v

-- A motion with the rotation of g, reached from g by a translation.
translated : (f g : SpaceMotion) (v : Vector) → f.rotation ≡ g.rotation → act g.rotation v ≡ plus f.translation (opposite g.translation)
    → compose g (translation_by v) ≡ f
unfolding product
translated f g v p e =
    let turn : times g.rotation unit ≡ f.rotation = times-unit g.rotation ∙ sym p in
    let moved : plus (act g.rotation v) g.translation ≡ f.translation =
    ap (λ w. plus w g.translation) e ∙ less-sum f.translation g.translation in
    λ i. record { rotation = turn i; translation = moved i }

-- ---- what is free
-- A translation by a vector of L.
abbrev pub LatticeTranslation : Centering → SpaceMotion → Type 0
LatticeTranslation c t = (v : Vector) × InLattice (points_of c) v × (t ≡ translation_by v)

module _ (c : Centering) where
  -- A translation by a vector of L changes a motion that keeps L only modulo L.
  translated-alike : (f : SpaceMotion) (v : Vector) → Keeps (points_of c) f → InLattice (points_of c) v → Alike (points_of c) (compose f (translation_by v)) f
  unfolding product
  translated-alike f v keep m = (times-unit f.rotation, rw (sum_less (act f.rotation v) f.translation) (keep.0 v m))

  -- A motion alike to one that keeps L is that one times a translation by a vector of L.
  pub translations-free : Freedom (motion_growth c) (LatticeTranslation c)
  translations-free = record {
    free-alike = λ f t keep (v, m, e). rw e (translated-alike f v keep m);
    alike-free = λ f g keep (p, class).
        let (v, m, e) = keep.1 (plus f.translation (opposite g.translation)) class in
        (translation_by v, (v, m, refl), translated f g v p e);
  }

  module _ (gens : List Operation) where
    -- The set is that of the generators and what is free.
    in-growing : {f : SpaceMotion} → InGeneratedSet c gens f → growing.InWholeSet (motion_growth c) (LatticeTranslation c) (motions gens) f
    in-growing origin = growing.origin
    in-growing (by-generator s m) = growing.by-generator (in-growing s) m
    in-growing (by-lattice v s m) = growing.by-free (in-growing s) (v, m, refl)

    growing-in : {f : SpaceMotion} → growing.InWholeSet (motion_growth c) (LatticeTranslation c) (motions gens) f → InGeneratedSet c gens f
    growing-in growing.origin = origin
    growing-in (growing.by-generator s m) = by-generator (growing-in s) m
    growing-in (growing.by-free {x} s (v, m, e)) = subst (λ t. InGeneratedSet c gens (compose x t)) (sym e) (by-lattice v (growing-in s) m)

module _ (c : Centering) (gens operations : List Operation) (steps : List ℕ) (A : Accepted c gens operations steps) where
  -- The set of motions is the listed operations with L added.
  pub set-exactly : (f : SpaceMotion) → InGeneratedSet c gens f ↔ ((o : Operation) × Mem o operations × Alike (points_of c) f (motion_of o))
  set-exactly f =
      let exactly =
      growing.set-exactly (motion_growth c) (LatticeTranslation c) (motions gens) (translations-free c) (motions-keep c gens A.keep) 48 A.list steps
      (accepted-whole c gens operations steps A) (operation_forms c) f in (
        (λ s. let (o, m, near) = exactly.0 (in-growing c gens s) in (o, listed-member c gens operations steps A o m, near)),
        λ (o, m, near). growing-in c gens (exactly.1 (o, member-listed c gens operations steps A o m, near)),
      )
