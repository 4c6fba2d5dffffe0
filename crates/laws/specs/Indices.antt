-- Members of lists by their indices, and what stands at an index of a list's image.
use Rattle.std.specs.Prelude.{◌≡◌, refl, Bool, ℕ, zero, suc, ◌<◌, T, length, get_or}
use Rattle.std.proofs.Common.{sym, ap, ◌∙◌, arith}
use mathlib.Core.List.Memᴰ.{head as here}
use mathlib.Core.List.Memᴰ.{tail as there}
use mathlib.Core.List.{List, [], ◌∷◌, map, Memᴰ as Mem}
use Rattle.std.proofs.lemmas.List.{length-map}
use Rattle.std.proofs.Math.ListN.{get_or-map}
use Rattle.laws.specs.Distinct.{Distinct, nil, cons, Equivalence, Mem→has, has-respects}

-- what stands at an index inside a list is a member of it,
pub member-at : {A : Type 0} (l : List A) (i : ℕ) (d : A) → i < length l → Mem (get_or l i d) l
member-at [] i d h = absurd (omega arith)
member-at (x ∷ l) zero d h = here refl
member-at (x ∷ l) (suc i) d h = there (member-at l i d (omega arith))

-- and every member stands at one
pub member-index : {A : Type 0} {x : A} {l : List A} (d : A) → Mem x l → (i : ℕ) × (i < length l) × (get_or l i d ≡ x)
member-index d (here p) = (0, omega arith, sym p)
member-index d (there m) = let (i, h, p) = member-index d m in (suc i, omega arith, p)

-- inside a list it does not matter what would stand past its end
pub at-any : {A : Type 0} (l : List A) (i : ℕ) (d e : A) → i < length l → get_or l i d ≡ get_or l i e
at-any [] i d e h = absurd (omega arith)
at-any (x ∷ l) zero d e h = refl
at-any (x ∷ l) (suc i) d e h = at-any l i d e (omega arith)

-- what stands in the image of a list
pub image-at : {A B : Type 0} (f : A → B) (l : List A) (i : ℕ) (d : A) (e : B) → i < length l → get_or (map f l) i e ≡ f (get_or l i d)
image-at f l i d e h = at-any (map f l) i e (f d) (omega (arith, length-map l f)) ∙ get_or-map f l i d

module _ {A : Type 0} (same : A → A → Bool) (E : Equivalence same) where
  -- in a list without repeats equivalents stand at one index
  pub distinct-index : {l : List A} → Distinct same l → (d : A) (i j : ℕ) → i < length l → j < length l → T (same (get_or l i d) (get_or l j d)) → i ≡ j
  distinct-index nil d i j h k s = absurd (omega arith)
  distinct-index (cons new D) d zero zero h k s = refl
  distinct-index (cons {x} {l} new D) d zero (suc j) h k s =
      absurd (new (has-respects same E x (get_or l j d) l s (Mem→has same E (member-at l j d (omega arith)))))
  distinct-index (cons {x} {l} new D) d (suc i) zero h k s =
      absurd (new (has-respects same E x (get_or l i d) l (E.symmetric _ _ s) (Mem→has same E (member-at l i d (omega arith)))))
  distinct-index (cons new D) d (suc i) (suc j) h k s = ap suc (distinct-index D d i j (omega arith) (omega arith) s)
