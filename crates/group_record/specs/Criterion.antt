-- Which products decide that every product is listed: those with some right factors. If each listed operation times g, and times h, is listed modulo L,
-- then so it is for each listed operation times their product.
use Rattle.std.proofs.Common.{sym, subst}
use mathlib.Core.List.{List, Memᴰ as Mem}
use Rattle.laws.specs.Matrix.{times, act, plus, unit, origin}
use Rattle.laws.specs.Motion.{SpaceMotion, compose, product-assoc, matrices-act}
use Rattle.laws.specs.LatticeMaps.{MapsInto}
use Rattle.operation.specs.Meaning.{motion_of}
use Rattle.operation.specs.declared.Operation.{Operation}
use Rattle.centering.specs.Letters.{points_of}
use Rattle.centering.specs.declared.Centering.{Centering}
use Rattle.group_record.specs.Groups.{Alike}
use Rattle.group_record.specs.ListedForm.{alike-reflexive, alike-symmetric, alike-transitive}
use Rattle.group_record.specs.GroupLaws.{compose-alike}

-- Every product with h as right factor is listed modulo L.
abbrev pub Right : Centering → List Operation → Operation → Type 0
Right c l h = (f : Operation) → Mem f l → (k : Operation) × Mem k l × Alike c (compose (motion_of f) (motion_of h)) (motion_of k)

-- Every listed rotation maps L into L.
abbrev pub KeepsInto : Centering → List Operation → Type 0
KeepsInto c l = (f : Operation) → Mem f l → MapsInto (points_of c) (motion_of f).rotation

module _ (c : Centering) (l : List Operation) (into : KeepsInto c l) where
  -- So it is for what is alike to a product of two such: f(gh) is (fg)h, and fg is a listed k.
  pub right-times : (g h p : Operation) → Right c l g → Right c l h → Alike c (compose (motion_of g) (motion_of h)) (motion_of p) → Right c l p
  right-times g h p G H near f m =
      let (k, n, a) = G f m in
      let (j, o, b) = H k n in
      let x = motion_of f in
      let gh = compose (motion_of g) (motion_of h) in
      let fg = compose x (motion_of g) in
      let fp = compose x (motion_of p) in
      let first : Alike c fp (compose x gh) =
      compose-alike c x x (motion_of p) gh (into f m) (alike-reflexive c x) (alike-symmetric c gh (motion_of p) near) in
      let regrouped : Alike c fp (compose fg (motion_of h)) =
      subst (λ (q : SpaceMotion). Alike c fp q) (sym (product-assoc times plus act unit origin matrices-act x (motion_of g) (motion_of h))) first in
      let second : Alike c (compose fg (motion_of h)) (compose (motion_of k) (motion_of h)) =
      compose-alike c fg (motion_of k) (motion_of h) (motion_of h) (subst (MapsInto (points_of c)) (sym a.0) (into k n)) a (alike-reflexive c (motion_of h)) in
      let third = alike-transitive c (compose fg (motion_of h)) (compose (motion_of k) (motion_of h)) (motion_of j) second b in
      (j, o, alike-transitive c fp (compose fg (motion_of h)) (motion_of j) regrouped third)
