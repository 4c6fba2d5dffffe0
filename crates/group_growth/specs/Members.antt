-- The list that is answered, member by member: the unit first, each generated key once and nothing else; by their forms, any product and an inverse of
-- each member are listed, up to what is alike.
use Rattle.std.proofs.Common.{subst}
use mathlib.Core.List.Memᴰ.{map as mem-map}
use mathlib.Core.List.Memᴰ.{of_map as mem-of-map}
use mathlib.Core.List.{List, map, Memᴰ as Mem}
use Rattle.std.specs.Prelude.{ℕ, ◌≤◌, T, length}
use Rattle.laws.specs.Distinct.{Distinct, has-member}
use Rattle.laws.specs.Closure.{start, closure-length, ListsReached, reached-product, reached-ok}
use Rattle.laws.specs.Keyed.{key-inverse-left, key-inverse-right}
use Rattle.group_growth.specs.Growing.{Growing, OkGenerators, Generated}
use Rattle.group_growth.specs.Acceptance.{Whole, key-kept, lists, one-to-key}
use Rattle.group_growth.specs.Forms.{Forms, distinct-forms}

module _ (S : Growing) (gens : List S.Element) (ok : OkGenerators S gens) where
  open S use {Element, same, product, unit, Alike, Ok, keyed, ok-alike}

  -- What is generated is Ok,
  pub generated-ok : (x : Element) → Generated S gens x → Ok x
  generated-ok x r = reached-ok Ok product unit keyed.monoid gens ok r

  -- and so are its products generated.
  pub generated-product : (x y : Element) → Generated S gens x → Generated S gens y → Generated S gens (product x y)
  generated-product x y r t = reached-product Ok product unit keyed.monoid gens ok r t

  -- Products of what is alike are alike.
  pub alike-product : (x y z w : Element) → Ok x → Ok y → Ok z → Ok w → Alike x z → Alike y w → Alike (product x y) (product z w)
  alike-product x y z w ok-x ok-y ok-z ok-w p q =
      keyed.alike-transitive (product x y) (product x w) (product z w) (keyed.alike-left x y w ok-x ok-y ok-w q) (keyed.alike_right x z w ok-x ok-z ok-w p)

  module _ (limit : ℕ) (l : List Element) (steps : List ℕ) (W : Whole S gens limit l steps) where
    -- ---- the elements
    pub reached : ListsReached same product unit gens l
    reached = lists S gens (key-kept S gens ok) limit l W.is-listing

    -- There are at most as many as the limit.
    pub at_most : length l ≤ limit
    at_most = closure-length same product unit gens limit l W.is-listing

    -- Every generated key is there.
    pub key-there : (x : Element) → Generated S gens x → (y : Element) × Mem y l × T (same x y)
    key-there x r = has-member same x l (reached.complete x r)

    -- Two generated elements of one key are alike.
    pub one_class : (x y : Element) → Generated S gens x → Generated S gens y → T (same x y) → Alike x y
    one_class = one-to-key S gens ok limit l W.is-listing W.one

    -- Each generated element has a generated left inverse, by key,
    left-inverse : (y : Element) → Generated S gens y → (x : Element) × Generated S gens x × T (same (product x y) unit)
    left-inverse = key-inverse-left same Alike Ok product unit keyed gens ok reached

    -- which is a right inverse.
    other-side : (y x : Element) → Generated S gens y → Generated S gens x → T (same (product x y) unit) → T (same (product y x) unit)
    other-side = key-inverse-right same Alike Ok product unit keyed gens ok

    -- ---- their forms
    module _ (F : Forms S) where
      open F use {Form, form, meaning, same_form, form-alike}

      -- The list as it is held.
      abbrev pub forms : List Form
      forms = map form l

      -- No two forms have one key.
      pub forms-once : Distinct same_form forms
      forms-once = distinct-forms S F reached.distinct (λ x m. W.all-fine x (reached.sound x m))

      -- What is alike to a generated element is alike to a member.
      pub near-member : (x y : Element) → Alike x y → Generated S gens y → (b : Form) × Mem b forms × Alike x (meaning b)
      near-member x y near r =
          let (z, m, s) = key-there y r in
          let t = reached.sound z m in
          let close = keyed.alike-transitive y z (meaning (form z)) (one_class y z r t s) (form-alike z (W.all-fine z t)) in
          (form z, mem-map form m, keyed.alike-transitive x y (meaning (form z)) near close)

      -- A member is alike to a generated element.
      pub member-near : (b : Form) → Mem b forms → (x : Element) × Generated S gens x × Alike x (meaning b)
      member-near b m =
          let (x, k, p) = mem-of-map form l m in
          let r = reached.sound x k in
          (x, r, subst (λ b. Alike x (meaning b)) p (form-alike x (W.all-fine x r)))

      -- A product of two members is alike to a member.
      pub product-member : (b d : Form) → Mem b forms → Mem d forms → (e : Form) × Mem e forms × Alike (product (meaning b) (meaning d)) (meaning e)
      product-member b d m k =
          let (x, r, near) = member-near b m in
          let (y, t, close) = member-near d k in
          let ok-x = generated-ok x r in
          let ok-y = generated-ok y t in
          let ok-b = ok-alike x (meaning b) near ok-x in
          let ok-d = ok-alike y (meaning d) close ok-y in
          let bd = product (meaning b) (meaning d) in
          let together = alike-product x y (meaning b) (meaning d) ok-x ok-y ok-b ok-d near close in
          near-member bd (product x y) (keyed.alike-symmetric (product x y) bd together) (generated-product x y r t)

      -- Each member has an inverse among the members, on either side.
      pub inverse-member : (b : Form) → Mem b forms
          → (d : Form) × Mem d forms × Alike (product (meaning d) (meaning b)) unit × Alike (product (meaning b) (meaning d)) unit
      inverse-member b m =
          let M = keyed in
          let (y, r, close) = member-near b m in
          let (x, t, p) = left-inverse y r in
          let left = one_class (product x y) unit (generated-product x y t r) start p in
          let right = one_class (product y x) unit (generated-product y x r t) start (other-side y x r t p) in
          let (d, k, near) = near-member x x (M.alike-reflexive x) t in
          let ok-x = generated-ok x t in
          let ok-y = generated-ok y r in
          let ok-b = ok-alike y (meaning b) close ok-y in
          let ok-d = ok-alike x (meaning d) near ok-x in
          let db = product (meaning d) (meaning b) in
          let bd = product (meaning b) (meaning d) in
          let near-db = alike-product x y (meaning d) (meaning b) ok-x ok-y ok-d ok-b near close in
          let near-bd = alike-product y x (meaning b) (meaning d) ok-y ok-x ok-b ok-d close near in (
            d,
            k,
            M.alike-transitive db (product x y) unit (M.alike-symmetric (product x y) db near-db) left,
            M.alike-transitive bd (product y x) unit (M.alike-symmetric (product y x) bd near-bd) right,
          )
