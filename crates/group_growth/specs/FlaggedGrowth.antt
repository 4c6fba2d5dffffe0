-- Growth with a flag: what is alike has one flag, and the test of elements does not look at it. Where all generators hold the flag at 0, all is answered as
-- without it; and to forget the flags takes what is generated onto what the generators without them generate.
use Rattle.std.specs.Prelude.{◌≡◌, Bool, true, false, cond, ℕ, ◌≤◌, T, length, get_or}
use Rattle.std.proofs.Math.Path.{refl, ap, ap₂}
use Rattle.std.proofs.Common.{sym, ◌∙◌}
use Rattle.std.proofs.Math.Bool.{◌&&◌}
use Rattle.std.proofs.Math.Option
use Rattle.std.proofs.Math.Option.{Option, some, none}
use mathlib.Core.List.Memᴰ.{map as mem-map}
use mathlib.Core.List.Memᴰ.{of_map as mem-of-map}
use mathlib.Core.List.{List, [], ◌∷◌, ◌++◌, map}
use Rattle.std.proofs.Math.ListN.{get_or-map}
use Rattle.laws.specs.Closure.{start, step}
use Rattle.laws.specs.Growth.{place}
use Rattle.laws.specs.GrowthClosure.{allowed, agrees, steps_from, steady_from}
use Rattle.laws.specs.Truth.{all}
use Rattle.group_growth.specs.Verdicts.{listed, overgrown, torn, image_verdict, image-listed, on_listing}
use Rattle.group_growth.specs.Growing.{Growing, OkGenerators, listing, fine_product, verdict, Generated}
use Rattle.group_growth.specs.Acceptance.{key-kept, limit-raised, limit-lowered}
use Rattle.group_growth.specs.Forms.{Forms}
use Rattle.group_growth.specs.WholeSet.{Freedom}
use Rattle.group_growth.specs.Flagged.{xor, xor-right, same_flag, Flagged, flagged≡, flagged_by, image_flagged, held, same_flagged, AlikeFlagged, OkFlagged, times_flagged, key-flag, key-element, keyed-with-flag, held-closure}

-- ---- the instance
abbrev pub with_flag : Growing → Growing
with_flag S = record {
  Element = Flagged S.Element;
  same = same_flagged S.same;
  alike = λ x y. S.alike x.element y.element;
  fine = λ x. S.fine x.element;
  product = times_flagged S.product;
  unit = held S.unit;
  Alike = AlikeFlagged S.Alike;
  Ok = OkFlagged S.Ok;
  keyed = keyed-with-flag S.same S.Alike S.Ok S.product S.unit S.keyed;
  ok-alike = λ x y (p, near) h. S.ok-alike x.element y.element near h;
  alike-decided = λ x y s.
      let decided = S.alike-decided x.element y.element (key-element S.same x y s) in
      ((λ t. (key-flag S.same x y s, decided.0 t)), λ (p, near). decided.1 near);
  fine-key = λ x y s. S.fine-key x.element y.element (key-element S.same x y s);
  fine-unit = S.fine-unit;
}

-- ---- forms
-- The flag of a product stands beside the product of the elements, if that is allowed.
flagged-choice : {A B : Type 0} (f : A → B) (b c : Bool) (p : A)
    → Option.map (flagged_by c) (Option.map f (cond b (some p) none)) ≡ Option.map (image_flagged f) (cond b (some (flagged_by c p)) none)
flagged-choice f true c p = refl
flagged-choice f false c p = refl

-- The product of forms, with the flag of both.
abbrev pub flagged_times : {B : Type 0} → (B → B → Option B) → Flagged B → Flagged B → Option (Flagged B)
flagged_times times a b = Option.map (flagged_by (xor a.flag b.flag)) (times a.element b.element)

pub flagged-times : (S : Growing) (F : Forms S) (x : Flagged S.Element) (b : Flagged F.Form) → T (S.fine x.element)
    → flagged_times F.times (image_flagged F.form x) b
    ≡ Option.map (image_flagged F.form) (fine_product (with_flag S) x (image_flagged F.meaning b))
unfolding allowed
flagged-times S F x b t =
    let p = S.product x.element (F.meaning b.element) in
    let c = xor x.flag b.flag in
    ap (Option.map (flagged_by c)) (F.times-form x.element b.element t) ∙ flagged-choice F.form (S.fine p) c p

-- A form with a flag is the form of the element, and the flag.
abbrev pub forms_with_flag : (S : Growing) → Forms S → Forms (with_flag S)
forms_with_flag S F = record {
  Form = Flagged F.Form;
  form = image_flagged F.form;
  meaning = image_flagged F.meaning;
  same_form = same_flagged F.same_form;
  alike_form = λ a b. F.alike_form a.element b.element;
  times = flagged_times F.times;
  form-alike = λ x t. (refl, F.form-alike x.element t);
  same-form = λ x y s t. ap (λ b. same_flag x.flag y.flag && b) (F.same-form x.element y.element s t);
  alike-form = λ x y s t. F.alike-form x.element y.element s t;
  times-form = flagged-times S F;
}

-- ---- generators that hold the flag at 0
module _ (S : Growing) where
  open S use {Element, same, alike, fine, product, unit}
  open with_flag S use {same as sameWith, alike as alikeWith, fine as fineWith, product as timesWith}

  -- The place of an element among others that hold the flag at 0.
  place-held : (x : Element) (l : List Element) → place (same_flagged same) (held x) (map held l) ≡ place same x l
  unfolding place
  place-held x [] = refl
  place-held x (y ∷ l) = rw (place-held x l)

  fine-held : (l : List Element) → all (λ y. fine y.element) (map held l) ≡ all fine l
  unfolding all
  fine-held [] = refl
  fine-held (x ∷ l) = rw (fine-held l)

  agrees-held : (l : List Element) (p : Element)
      → agrees sameWith alikeWith fineWith timesWith (map held l) (held p) ≡ agrees same alike fine product l p
  unfolding agrees
  agrees-held l p =
      ap (alike p)
      (ap (λ i. (get_or (map held l) i (held p)).element) (place-held p l) ∙ ap (λ (x : Flagged Element). x.element) (get_or-map held l (place same p l) p))

  module _ (l : List Element) where
    places-held : (x : Element) (gens : List Element)
        → map (λ g. place (same_flagged same) (times_flagged product (held x) g) (map held l)) (map held gens) ≡ map (λ g. place same (product x g) l) gens
    places-held x [] = refl
    places-held x (g ∷ gens) = ap₂ (λ a r. a ∷ r) (place-held (product x g) l) (places-held x gens)

    steps-held : (gens xs : List Element) → steps_from sameWith alikeWith fineWith timesWith (map held gens) (map held l) (map held xs)
        ≡ steps_from same alike fine product gens l xs
    unfolding steps_from
    steps-held gens [] = refl
    steps-held gens (x ∷ xs) = ap₂ (λ a r. a ++ r) (places-held x gens) (steps-held gens xs)

    one-steady : (x : Element) (gens : List Element)
        → all (λ g. agrees sameWith alikeWith fineWith timesWith (map held l) (times_flagged product (held x) g)) (map held gens)
        ≡ all (λ g. agrees same alike fine product l (product x g)) gens
    unfolding all
    one-steady x [] = refl
    one-steady x (g ∷ gens) = ap₂ ◌&&◌ (agrees-held l (product x g)) (one-steady x gens)

    steady-held : (gens xs : List Element) → steady_from sameWith alikeWith fineWith timesWith (map held gens) (map held l) (map held xs)
        ≡ steady_from same alike fine product gens l xs
    unfolding steady_from all
    steady-held gens [] = refl
    steady-held gens (x ∷ xs) = ap₂ ◌&&◌ (one-steady x gens) (steady-held gens xs)

  by_tests : (l : List Element) (steps : List ℕ) (a b : Bool)
      → image_verdict held (cond a (cond b (listed l steps) torn) overgrown) ≡ cond a (cond b (listed (map held l) steps) torn) overgrown
  by_tests l steps true true = refl
  by_tests l steps true false = refl
  by_tests l steps false b = refl

  listing-held : (gens : List Element) (o : Option (List Element)) → image_verdict held (on_listing same alike fine product gens o)
      ≡ on_listing sameWith alikeWith fineWith timesWith (map held gens) (Option.map (map held) o)
  listing-held gens none = refl
  listing-held gens (some l) =
      rw (fine-held l, steady-held l gens l, steps-held l gens l)
      (by_tests l (steps_from same alike fine product gens l l) (all fine l) (steady_from same alike fine product gens l l))

  -- Under one limit, what is answered with the flag held at 0 is what is answered without it.
  pub held-verdict : (limit : ℕ) (gens : List Element) → image_verdict held (verdict S limit gens) ≡ verdict (with_flag S) limit (map held gens)
  held-verdict limit gens =
      listing-held gens (listing S limit gens)
      ∙ ap (on_listing sameWith alikeWith fineWith timesWith (map held gens)) (held-closure same product unit gens limit)

  held-ok : (gens : List Element) → OkGenerators S gens → OkGenerators (with_flag S) (map held gens)
  held-ok gens ok g m = let (x, k, p) = mem-of-map held gens m in rw (← p) (ok x k)

  -- A list that is answered without the flag is answered with it, under any limit as high,
  pub held-listed : (gens l : List Element) (steps : List ℕ) (limit higher : ℕ) → limit ≤ higher → verdict S limit gens ≡ listed l steps
      → verdict (with_flag S) higher (map held gens) ≡ listed (map held l) steps
  held-listed gens l steps limit higher h p =
      limit-raised (with_flag S) (map held gens) limit (map held l) steps higher h (sym (held-verdict limit gens) ∙ ap (image_verdict held) p)

  -- and the other way round, where it is no longer than the limit.
  pub listed-held : (gens : List Element) → OkGenerators S gens → (k : List (Flagged Element)) (steps : List ℕ) (limit higher : ℕ) → length k ≤ limit
      → verdict (with_flag S) higher (map held gens) ≡ listed k steps → (l : List Element) × (verdict S limit gens ≡ listed l steps) × (k ≡ map held l)
  listed-held gens ok k steps limit higher h p =
      let kept = key-kept (with_flag S) (map held gens) (held-ok gens ok) in
      image-listed held (verdict S limit gens) k steps (held-verdict limit gens ∙ limit-lowered (with_flag S) (map held gens) higher kept k steps limit h p)

-- ---- what is free
-- It holds the flag at 0.
abbrev pub FreeFlagged : {A : Type 0} → (A → Type 0) → Flagged A → Type 0
FreeFlagged Free t = (t.flag ≡ false) × Free t.element

-- So the whole set is that of the list, with flags as without.
pub free-with-flag : (S : Growing) (Free : S.Element → Type 0) → Freedom S Free → Freedom (with_flag S) (FreeFlagged Free)
free-with-flag S Free D = record {
  free-alike = λ x t ok (p, f). (ap (xor x.flag) p ∙ xor-right x.flag, D.free-alike x.element t.element ok f);
  alike-free = λ x y ok (p, near).
      let (t, f, e) = D.alike-free x.element y.element ok near in
      (held t, (refl, f), flagged≡ (times_flagged S.product y (held t)) x e (xor-right y.flag ∙ sym p));
}

-- ---- flags forgotten
module _ (S : Growing) (gens : List (Flagged S.Element)) where
  open S use {Element, product, unit}

  -- The generators without their flags.
  abbrev pub unflagged : List Element
  unflagged = map (λ g. g.element) gens

  -- What is generated is, without its flag, generated by these,
  pub forgotten : {x : Flagged Element} → Generated (with_flag S) gens x → Generated S unflagged x.element
  forgotten start = start
  forgotten (step r m) = step (forgotten r) (mem-map (λ g. g.element) m)

  -- and all that these generate comes so.
  pub recalled : {y : Element} → Generated S unflagged y → (x : Flagged Element) × Generated (with_flag S) gens x × (x.element ≡ y)
  recalled start = (held unit, start, refl)
  recalled (step r m) =
      let (x, t, p) = recalled r in
      let (g, k, q) = mem-of-map (λ g. g.element) gens m in
      (times_flagged product x g, step t k, ap₂ product p q)
