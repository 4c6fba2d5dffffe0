-- What is answered of generators, in any monoid whose elements have keys. The elements are listed breadth first from the unit, one to each key, up to a
-- limit; each has to pass a test, and each product with a generator has to be alike to the listed element of its key.
use Rattle.std.specs.Prelude.{◌≡◌, Bool, cond, List, map, ℕ}
use Rattle.std.proofs.Common.{sym, ap, arith}
use Rattle.std.proofs.Math.Option.{Option, some, none}
use Rattle.laws.specs.Closure.{closure}
use Rattle.laws.specs.Growth.{Growth}
use Rattle.laws.specs.GrowthClosure.{steps_from, steady_from}
use Rattle.laws.specs.Truth.{all}

-- The elements in list order and the index of each product with a generator; or that the list passes the limit or an element fails the test; or that
-- two elements of one key are not alike.
pub data Verdict (A : Type 0) : Type 0 where
  listed : List A → List ℕ → Verdict A
  overgrown : Verdict A
  torn : Verdict A

-- The same, said of images of the elements.
abbrev pub image_verdict : {A B : Type 0} → (A → B) → Verdict A → Verdict B
image_verdict f (listed l steps) = listed (map f l) steps
image_verdict f overgrown = overgrown
image_verdict f torn = torn

-- Images that are listed are those of listed elements.
pub image-listed : {A B : Type 0} (f : A → B) (v : Verdict A) (k : List B) (steps : List ℕ) → image_verdict f v ≡ listed k steps
    → (l : List A) × (v ≡ listed l steps) × (k ≡ map f l)
image-listed f (listed l others) k steps e =
    let p : map f l ≡ k = cc in
    let q : others ≡ steps = cc in
    (l, ap (listed l) q, sym p)
image-listed f overgrown k steps e = let z : ◌≡◌ {A = ℕ} 0 1 = cc in absurd (omega arith)
image-listed f torn k steps e = let z : ◌≡◌ {A = ℕ} 0 1 = cc in absurd (omega arith)

module _ {A : Type 0} (same alike : A → A → Bool) (fine : A → Bool) (◌·◌ : A → A → A) where
  infixl 70 ◌·◌
  -- Of the list: that an element fails the test goes before that a step from the list does not come back to it.
  abbrev pub on_list : List A → List A → Verdict A
  on_list gens l =
      let steps = steps_from same alike fine ◌·◌ gens l l in
      let steady = steady_from same alike fine ◌·◌ gens l l in
      let answer = cond steady (listed l steps) torn in
      cond (all fine l) answer overgrown

  abbrev pub on_listing : List A → Option (List A) → Verdict A
  on_listing gens none = overgrown
  on_listing gens (some l) = on_list gens l

  -- Of generators, up to a limit.
  abbrev pub verdict : A → ℕ → List A → Verdict A
  verdict unit limit gens = on_listing gens (closure same ◌·◌ unit gens limit)

-- What a growth answers, product by product.
abbrev pub on_growth : {A : Type 0} → Option (Growth A) → Verdict A
on_growth none = overgrown
on_growth (some s) = cond s.steady (listed s.found s.steps) torn
