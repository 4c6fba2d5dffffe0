-- Elements by their forms, as a program holds them: what tells forms apart and multiplies them, and that the growth of the forms, product by product,
-- answers what is answered of the elements.
use Rattle.std.proofs.Math.Path.{◌≡◌, refl}
use Rattle.std.proofs.Common.{sym, ◌∙◌, ap, arith}
use Rattle.std.specs.Prelude.{Bool, ℕ, ◌≤◌}
use Rattle.std.proofs.Math.Bool.{true, false, cond}
use Rattle.std.proofs.Math.Option
use Rattle.std.proofs.Math.Option.{Option, some, none, bind}
use mathlib.Core.List.Memᴰ.{head as here}
use mathlib.Core.List.Memᴰ.{tail as there}
use mathlib.Core.List.{List, [], ◌∷◌, map, Memᴰ as Mem}
use Rattle.std.proofs.Math.Dec.{T}
use Rattle.laws.specs.Distinct.{has, Distinct, nil, cons}
use Rattle.laws.specs.Growth.{Growth, grown, image_growth, Image, grown-image}
use Rattle.laws.specs.GrowthClosure.{allowed, described, steps_from, steady_from, grown-closure}
use Rattle.laws.specs.Truth.{all, T_true, true-T}
use Rattle.group_growth.specs.Verdicts.{listed, overgrown, torn, image_verdict, on_listing, on_growth}
use Rattle.group_growth.specs.Growing.{Growing, listing, fine_product, verdict}
use Rattle.group_growth.specs.Acceptance.{KeyKept}

-- An element that passes the test is alike to what its form means; tests of forms, and products of forms where they are allowed, are those of the elements.
pub record Forms (S : Growing) : Type 1 where
  pub Form : Type 0
  pub form : S.Element → Form
  pub meaning : Form → S.Element
  pub same_form : Form → Form → Bool
  pub alike_form : Form → Form → Bool
  pub times : Form → Form → Option Form
  pub form-alike : (x : S.Element) → T (S.fine x) → S.Alike x (meaning (form x))
  pub same-form : (x y : S.Element) → T (S.fine x) → T (S.fine y) → S.same x y ≡ same_form (form x) (form y)
  pub alike-form : (x y : S.Element) → T (S.fine x) → T (S.fine y) → S.alike x y ≡ alike_form (form x) (form y)
  pub times-form : (x : S.Element) (b : Form) → T (S.fine x)
      → times (form x) b ≡ Option.map form (fine_product S x (meaning b))

module _ (S : Growing) (F : Forms S) where
  open S use {Element, same, alike, fine, product, unit, keyed, alike-decided, fine-key, fine-unit}
  open F use {Form, form, meaning, same_form, alike_form, times, same-form, alike-form, times-form}

  -- ---- lists of forms
  -- A list has an element's key exactly if the list of the forms has the form's.
  has-form : (x : Element) (l : List Element) → T (fine x) → ((y : Element) → Mem y l → T (fine y))
      → has same_form (form x) (map form l) ≡ has same x l
  unfolding has
  has-form x [] t h = refl
  has-form x (y ∷ l) t h = rw (← (same-form x y t (h y (here refl))), has-form x l t (λ z m. h z (there m)))

  -- The forms of elements with different keys are told apart.
  pub distinct-forms : {l : List Element} → Distinct same l → ((y : Element) → Mem y l → T (fine y)) → Distinct same_form (map form l)
  distinct-forms nil h = nil
  distinct-forms (cons {x} {l} new d) h =
      cons (λ (t : T (has same_form (form x) (map form l))). new (rw (has-form x l (h x (here refl)) (λ y m. h y (there m))) at t))
      (distinct-forms d (λ y m. h y (there m)))

  -- ---- growth
  -- A product that is allowed passes the test.
  product-fine : (x p g : Element) → T (fine x) → fine_product S x g ≡ some p → T (fine p)
  unfolding allowed
  product-fine x p g t e = by-test (fine (product x g)) refl e
    where
      by-test : (b : Bool) → fine (product x g) ≡ b → cond b (some (product x g)) none ≡ some p → T (fine p)
      by-test true q r = let z : product x g ≡ p = cc in rw (← z) (true-T q)
      by-test false q r = let z : ◌≡◌ {A = ℕ} 0 1 = cc in absurd (omega arith)

  -- Tests and products go over to forms.
  forms-image : Image same alike same_form alike_form (fine_product S) times form meaning (λ x. T (fine x))
  forms-image = record { same-image = same-form; alike-image = alike-form; product-image = times-form; product-fine = product-fine }

  -- The growth that ends with the list, if its members pass the test.
  abbrev pub grown_from : List Element → Option (List Element) → Option (Growth Element)
  grown_from gens o = bind o (λ l. cond (all fine l) (some (described same alike fine product gens l)) none)

  -- An element is alike to itself by the test.
  alike_self : (x : Element) → alike x x ≡ true
  alike_self x = T_true ((alike-decided x x (keyed.key-equivalence.reflexive x)).1 (keyed.alike-reflexive x))

  -- What the list answers is what its growth does.
  by_tests : (l : List Element) (steps : List ℕ) (a b : Bool) → image_verdict form (cond a (cond b (listed l steps) torn) overgrown)
      ≡ on_growth (Option.map (image_growth form) (cond a (some (record { found = l; steps = steps; steady = b })) none))
  by_tests l steps true true = refl
  by_tests l steps true false = refl
  by_tests l steps false b = refl

  listing-growth : (gens : List Element) (o : Option (List Element))
      → image_verdict form (on_listing same alike fine product gens o) ≡ on_growth (Option.map (image_growth form) (grown_from gens o))
  unfolding bind
  listing-growth gens none = refl
  listing-growth gens (some l) =
      by_tests l (steps_from same alike fine product gens l l) (all fine l) (steady_from same alike fine product gens l l)

  module _ (limit : ℕ) (positive : 1 ≤ limit) (gens : List Form) (kept : KeyKept S (map meaning gens)) where
    -- The growth of the forms is the list of the elements, if its members pass the test, by their forms.
    pub growth-listing : grown same_form alike_form times limit (form unit) gens
        ≡ Option.map (image_growth form) (grown_from (map meaning gens) (listing S limit (map meaning gens)))
    growth-listing =
        grown-image same alike same_form alike_form (fine_product S) times form meaning (λ x. T (fine x)) forms-image limit unit gens (true-T fine-unit)
        ∙ ap (Option.map (image_growth form))
        (grown-closure same alike fine product limit keyed.key-equivalence alike_self unit (map meaning gens) fine-unit fine-key kept positive)

    -- So it answers what is answered of the elements.
    pub growth-verdict : image_verdict form (verdict S limit (map meaning gens)) ≡ on_growth (grown same_form alike_form times limit (form unit) gens)
    growth-verdict = listing-growth (map meaning gens) (listing S limit (map meaning gens)) ∙ ap on_growth (sym growth-listing)
