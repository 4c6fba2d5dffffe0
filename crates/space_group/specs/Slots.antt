-- The answers slot by slot, and how they come from the growth of the list.
use Rattle.std.specs.Prelude.{◌≡◌, refl, Bool, true, false, cond, List, [], ◌∷◌, map, ℕ, zero, suc, ◌≤◌, ◌<◌, length, replicate}
use Rattle.std.proofs.Common.{sym, ◌∙◌, ap, inl, inr, arith, lt-ltb, le-ltb}
use Rattle.std.proofs.Math.Option.{Option, some, none}
use mathlib.Core.List.Memᴰ.{cases_cons}
use mathlib.Core.List.Memᴰ.{not-nil}
use Rattle.std.proofs.Math.Decide.{dec_lt}
use Rattle.std.proofs.lemmas.List.{length-map}
use Rattle.laws.specs.Motion.{SpaceMotion, compose, identity}
use Rattle.laws.specs.Closure.{closure}
use Rattle.laws.specs.SameMatrix.{same_rotation}
use Rattle.group_growth.specs.Verdicts as verdicts
use Rattle.group_growth.specs.Verdicts.{Verdict, listed, overgrown, torn, image_verdict, on_growth}
use Rattle.group_growth.specs.Growing.{verdict}
use Rattle.group_growth.specs.Acceptance.{listed-length}
use Rattle.operation.specs.Entries.{digits-entries}
use Rattle.operation.specs.Product.{identity_operation, operation_of}
use Rattle.operation.specs.declared.Operation.{Operation}
use Rattle.centering.specs.Keeps.{keeps_of, keeps-lattice}
use Rattle.centering.specs.declared.Centering.{Centering}
use Rattle.centering.specs.declared.Centering.TheVariants.{P}
use Rattle.space_group.specs.Generated.{motions, first_off, listing, is_small, same_vector_class, Outcome, group, refused, of_verdict, on_list, on_listing, outcome_of}
use Rattle.space_group.specs.Traversal.{growth, padded}
use Rattle.space_group.specs.OperationGrowth.{motion_growth, growth-answers}
use Rattle.space_group.specs.NumberGrowth.{AllDigits}
use Rattle.space_group.specs.declared.refusal.Refusal.{Refusal}
use Rattle.space_group.specs.declared.refusal.Refusal.TheVariants.{Lattice, Rotations, Translations}
use Rattle.space_group.specs.declared.Answer.TheVariants.{Group, Refused}
use Rattle.space_group.specs.declared.SpaceGroup.{SpaceGroup}

-- A refusal carries number and place and no other data: letter P, no operations, no generators.
abbrev pub refused_answer : Refusal → SpaceGroup
refused_answer r =
    record {
      answer = Refused r;
      centering = P;
      count = 0;
      operations = replicate 48 identity_operation;
      generators = 0;
      steps = replicate 432 0;
    }

-- The answer of n generators.
abbrev pub answer_of : Centering → ℕ → Outcome → SpaceGroup
answer_of c n (group operations steps) =
    record {
      answer = Group;
      centering = c;
      count = length operations;
      operations = padded 48 identity_operation operations;
      generators = n;
      steps = padded 432 0 steps;
    }
answer_of c n (refused r) = refused_answer r

-- The answer of a list of generators.
unfoldable pub group_answer : Centering → List Operation → SpaceGroup
group_answer c gens = answer_of c (length gens) (outcome_of c gens)

-- Where none is off, the digits of all are 0, 1 and 2.
digits-next : (c : Centering) (f : Operation) (gens : List Operation) (b : Bool) → keeps_of c f.rotation ≡ b
    → suc (length gens) ≤ cond b (suc (first_off c gens)) zero → (length gens ≤ first_off c gens → AllDigits gens) → AllDigits (f ∷ gens)
digits-next c f gens true q h rest g m = elim (cases_cons m) [
  | inl e ↦ rw e ((digits-entries f.rotation).1 ((keeps-lattice c f.rotation).0 q).0)
  | inr o ↦ rest (omega arith) g o
]
digits-next c f gens false q h rest g m = absurd (omega arith)

pub none-off-digits : (c : Centering) (gens : List Operation) → length gens ≤ first_off c gens → AllDigits gens
unfolding first_off
none-off-digits c [] h g m = absurd (not-nil m)
none-off-digits c (f ∷ gens) h g m = digits-next c f gens (keeps_of c f.rotation) refl h (none-off-digits c gens) g m

-- ---- from the growth to the outcome
-- What is answered of the motions.
abbrev pub verdict_of : Centering → List Operation → Verdict SpaceMotion
verdict_of c gens = verdict (motion_growth c) 48 (motions gens)

listing-verdict : (c : Centering) (gens : List Operation) (o : Option (List SpaceMotion))
    → on_listing c gens o ≡ of_verdict (image_verdict operation_of (verdicts.on_listing same_rotation (same_vector_class c) is_small compose (motions gens) o))
unfolding on_list
listing-verdict c gens none = refl
listing-verdict c gens (some l) = refl

module _ (c : Centering) (gens : List Operation) where
  -- A generator is off.
  pub outcome-off : first_off c gens < length gens → outcome_of c gens ≡ refused (Lattice (first_off c gens))
  unfolding outcome_of
  outcome-off h = rw (lt-ltb (first_off c gens) (length gens) h)

  -- None is: it goes by the motions,
  pub outcome-verdict : length gens ≤ first_off c gens → outcome_of c gens ≡ of_verdict (image_verdict operation_of (verdict_of c gens))
  unfolding outcome_of listing
  outcome-verdict h = rw (le-ltb (first_off c gens) (length gens) h) (listing-verdict c gens (closure same_rotation compose identity (motions gens) 48))

  -- and so by the growth of the operations.
  pub outcome-growth : length gens ≤ first_off c gens → outcome_of c gens ≡ of_verdict (on_growth (growth c gens))
  outcome-growth h = outcome-verdict h ∙ ap of_verdict (growth-answers c gens)

-- ---- what an outcome was made of
-- A group is a list of motions,
pub group-listed : (v : Verdict SpaceMotion) (operations : List Operation) (steps : List ℕ) → of_verdict (image_verdict operation_of v) ≡ group operations steps
    → (l : List SpaceMotion) × (v ≡ listed l steps) × (operations ≡ map operation_of l)
group-listed (listed l others) operations steps e =
    let p : map operation_of l ≡ operations = cc in
    let q : others ≡ steps = cc in
    (l, ap (listed l) q, sym p)
group-listed overgrown operations steps e = let z : ◌≡◌ {A = ℕ} 0 1 = cc in absurd (omega arith)
group-listed torn operations steps e = let z : ◌≡◌ {A = ℕ} 0 1 = cc in absurd (omega arith)

-- 13 is one refusal,
pub rotations-overgrown : (v : Verdict SpaceMotion) → of_verdict (image_verdict operation_of v) ≡ refused Rotations → v ≡ overgrown
rotations-overgrown (listed l steps) e = let z : ◌≡◌ {A = ℕ} 0 1 = cc in absurd (omega arith)
rotations-overgrown overgrown e = refl
rotations-overgrown torn e = let z : ◌≡◌ {A = ℕ} 0 1 = cc in absurd (omega arith)

-- 14 is the other,
pub translations-torn : (v : Verdict SpaceMotion) → of_verdict (image_verdict operation_of v) ≡ refused Translations → v ≡ torn
translations-torn (listed l steps) e = let z : ◌≡◌ {A = ℕ} 0 1 = cc in absurd (omega arith)
translations-torn overgrown e = let z : ◌≡◌ {A = ℕ} 0 1 = cc in absurd (omega arith)
translations-torn torn e = refl

-- and 12 is neither.
pub never-lattice : (v : Verdict SpaceMotion) (i : ℕ) → ¬ (of_verdict (image_verdict operation_of v) ≡ refused (Lattice i))
never-lattice (listed l steps) i e = let z : ◌≡◌ {A = ℕ} 0 1 = cc in omega arith
never-lattice overgrown i e = let z : ◌≡◌ {A = ℕ} 0 1 = cc in omega arith
never-lattice torn i e = let z : ◌≡◌ {A = ℕ} 0 1 = cc in omega arith

-- There are never more than 48.
pub outcome-few : (c : Centering) (gens operations : List Operation) (steps : List ℕ) → outcome_of c gens ≡ group operations steps → length operations ≤ 48
outcome-few c gens operations steps p = elim (dec_lt (first_off c gens) (length gens)) [
  | yes h ↦ let both = sym (outcome-off c gens h) ∙ p in let z : ◌≡◌ {A = ℕ} 0 1 = cc in absurd (omega arith)
  | no h ↦
      let (l, q, e) = group-listed (verdict_of c gens) operations steps (sym (outcome-verdict c gens (omega arith)) ∙ p) in
      omega (arith, ap length e, length-map l operation_of, listed-length (motion_growth c) (motions gens) 48 l steps q)
]
