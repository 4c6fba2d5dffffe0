-- The list order, said without a procedure: each listed element is the product along the least word over the generators, shorter first and then by the
-- generators' indices, that leads to its key, and the list ascends by these words. Only one list is so.
use Rattle.std.specs.Prelude.{◌≡◌, refl, Bool, ℕ, T}
use Rattle.std.proofs.Common.{sym, ◌∙◌, ap}
use Rattle.std.proofs.Math.Option.{some}
use mathlib.Core.List.Memᴰ.{of_map as mem-of-map}
use mathlib.Core.List.{List, map, Memᴰ as Mem}
use Rattle.laws.specs.Distinct.{Equivalence}
use Rattle.laws.specs.OrderedClosure.{AtMost}
use Rattle.laws.specs.Words.{Word, Shortlex, product as along-word, ShortlexList, shortlex-list-unique}
use Rattle.laws.specs.ShortlexClosure.{closure-shortlex}
use Rattle.group_growth.specs.Growing.{Growing, OkGenerators, listing}
use Rattle.group_growth.specs.Acceptance.{Whole, KeyKept, key-kept}

module _ {A B G : Type 0} (same : A → A → Bool) (◌·◌ : A → G → A) (unit : A) (gens : List G) (form : A → B) where
  infixl 70 ◌·◌
  -- Forms of elements in the order of the least words that lead to their keys, each key once.
  pub record WordOrdered (forms : List B) : Type 0 where
    pub list : List A
    pub ordered : ShortlexList same ◌·◌ unit gens list
    pub forms-are : forms ≡ map form list

  -- Only one list is so.
  pub word-order-unique : Equivalence same → (l m : List B) → WordOrdered l → WordOrdered m → l ≡ m
  word-order-unique E l m U W = U.forms-are ∙ ap (map form) (shortlex-list-unique same ◌·◌ unit gens E U.ordered W.ordered) ∙ sym W.forms-are

  -- Each form is that of the product along a word that comes before every other word that leads to its key.
  pub least-word : {forms : List B} → WordOrdered forms → (b : B) → Mem b forms
      → (w : Word) × (x : A) × (along-word ◌·◌ unit gens w ≡ some x) × (form x ≡ b)
      × ((v : Word) (y : A) → along-word ◌·◌ unit gens v ≡ some y → T (same y x) → AtMost Shortlex w v)
  least-word W b m =
      let (x, k, p) = mem-of-map form W.list (rw W.forms-are at m) in
      let (w, L) = W.ordered.each x k in
      (w, x, L.spells, p, L.least)

module _ (S : Growing) (gens : List S.Element) where
  open S use {Element, same, product, unit, keyed}

  -- The list is in this order,
  pub listing-ordered : KeyKept S gens → (limit : ℕ) (l : List Element) → listing S limit gens ≡ some l → ShortlexList same product unit gens l
  listing-ordered kept limit l e = ((closure-shortlex same product unit gens keyed.key-equivalence kept limit l).0 e).0

  -- and so are its forms.
  pub word-ordered : OkGenerators S gens → {B : Type 0} (form : Element → B) (limit : ℕ) (l : List Element) (steps : List ℕ) → Whole S gens limit l steps
      → WordOrdered same product unit gens form (map form l)
  word-ordered ok form limit l steps W =
      record { list = l; ordered = listing-ordered (key-kept S gens ok) limit l W.is-listing; forms-are = refl }
