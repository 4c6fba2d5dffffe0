-- Lists up to an equivalence that a Boolean test decides: membership, lists without repeats, and how the lengths of two such
-- lists compare. A finite set is a list without repeats; where the test decides equality, membership is the ordinary one.
use Rattle.std.specs.Prelude.{◌≡◌, ◌⊎◌, ◌↔◌, Bool, true, ◌||◌, ◌≤◌, T, eqb, length}
use Rattle.std.proofs.Math.Path.{refl, ap}
use Rattle.std.proofs.Common.{sym, ◌∙◌, zero-le, arith, eqb→eq, length-append}
use Rattle.std.proofs.Math.Logic.{inl, inr}
use Rattle.std.proofs.Math.Bool.{false}
use mathlib.Core.List.Memᴰ.{cast as mem-cast}
use mathlib.Core.List.Memᴰ.{head as here}
use mathlib.Core.List.Memᴰ.{of_map as mem-of-map}
use mathlib.Core.List.Memᴰ.{tail as there}
use mathlib.Core.List.{List, [], ◌∷◌, ◌++◌, map, Memᴰ as Mem}
use Rattle.std.proofs.Math.Dec.{eqb_refl}
use Rattle.std.proofs.lemmas.List.{length-map}
use Rattle.laws.specs.Truth.{decided, holds, or_left, or_right, or_cases}

-- ---- membership up to the test

module _ {A : Type 0} (same : A → A → Bool) where
  -- x is equivalent to a member
  unfoldable pub has : A → List A → Bool
  has x [] = false
  has x (y ∷ l) = let rest = has x l in same x y || rest

  -- no member is equivalent to a later one
  pub data Distinct : List A → Type 0 where
    nil : Distinct []
    cons : {x : A} {l : List A} → ¬ T (has x l) → Distinct l → Distinct (x ∷ l)

  -- the test is an equivalence
  pub record Equivalence : Type 0 where
    pub reflexive : (x : A) → T (same x x)
    pub symmetric : (x y : A) → T (same x y) → T (same y x)
    pub transitive : (x y z : A) → T (same x y) → T (same y z) → T (same x z)

  -- the test decides equality
  pub record DecidesEquality : Type 0 where
    pub reflexive : (x : A) → T (same x x)
    pub exact : (x y : A) → T (same x y) → x ≡ y

  -- what the first of two lists has, both together have
  pub has_append_left : (x : A) (l m : List A) → T (has x l) → T (has x (l ++ m))
  unfolding has
  has_append_left x (y ∷ l) m t = elim (or_cases (same x y) (has x l) t)
      [ inl h ↦ or_left (same x y) _ h | inr h ↦ or_right (same x y) _ (has_append_left x l m h) ]
  has_append_left x [] m t = elim t [ ]

  -- what the second of two lists has, both together have
  pub has_append_right : (x : A) (l m : List A) → T (has x m) → T (has x (l ++ m))
  unfolding has
  has_append_right x [] m t = t
  has_append_right x (y ∷ l) m t = or_right (same x y) _ (has_append_right x l m t)

  -- what two lists together have, one of them has
  pub has_append_cases : (x : A) (l m : List A) → T (has x (l ++ m)) → T (has x l) ⊎ T (has x m)
  unfolding has
  has_append_cases x [] m t = inr t
  has_append_cases x (y ∷ l) m t = elim (or_cases (same x y) (has x (l ++ m)) t) [
    | inl h ↦ inl (or_left (same x y) _ h)
    | inr h ↦ elim (has_append_cases x l m h) [ inl k ↦ inl (or_right (same x y) _ k) | inr k ↦ inr k ]
  ]

  -- a list that has x holds an equivalent of x at some place
  pub has_split : (x : A) (l : List A) → T (has x l) → (before after : List A) × (y : A) × (l ≡ before ++ y ∷ after) × T (same x y)
  unfolding has
  has_split x (y ∷ l) t = elim (or_cases (same x y) (has x l) t) [
    | inl h ↦ ([], l, y, refl, h)
    | inr h ↦ let (before, after, z, p, s) = has_split x l h in (y ∷ before, after, z, ap (λ r. y ∷ r) p, s)
  ]
  has_split x [] t = elim t [ ]

  -- a list that has x has a member equivalent to x
  pub has-member : (x : A) (l : List A) → T (has x l) → (y : A) × Mem y l × T (same x y)
  unfolding has
  has-member x (y ∷ l) t = elim (or_cases (same x y) (has x l) t)
      [ inl h ↦ (y, here refl, h) | inr h ↦ let (z, m, s) = has-member x l h in (z, there m, s) ]
  has-member x [] t = elim t [ ]

  -- two lists without repeats that share nothing make one
  pub distinct_append : {l m : List A} → Distinct l → Distinct m → ((x : A) → Mem x l → ¬ T (has x m)) → Distinct (l ++ m)
  distinct_append nil e apart = e
  distinct_append {m} (cons {x} {l} h d) e apart = cons
      (λ t. elim (has_append_cases x l m t) [ inl u ↦ h u | inr u ↦ apart x (here refl) u ])
      (distinct_append d e (λ y k. apart y (there k)))

  -- f takes no two members of l to equivalents, unless they are equivalent
  abbrev pub Injective : (A → A) → List A → Type 0
  Injective f l = (x y : A) → Mem x l → Mem y l → T (same (f x) (f y)) → T (same x y)

  -- ---- laws of an equivalence

  module _ (E : Equivalence) where
    -- a list has its members
    pub Mem→has : {x : A} {l : List A} → Mem x l → T (has x l)
    unfolding has
    Mem→has {x} (here {x = y} p) = or_left (same x y) _ (rw p (E.reflexive y))
    Mem→has {x} (there {x = y} m) = or_right (same x y) _ (Mem→has m)

    -- what has y has every equivalent of y
    pub has-respects : (x y : A) (l : List A) → T (same x y) → T (has y l) → T (has x l)
    unfolding has
    has-respects x y (z ∷ l) h t = elim (or_cases (same y z) (has y l) t)
        [ inl k ↦ or_left (same x z) _ (E.transitive x y z h k) | inr k ↦ or_right (same x z) _ (has-respects x y l h k) ]
    has-respects x y [] h t = elim t [ ]

    -- in a list without repeats two equivalent members are equal
    pub distinct-equal : {l : List A} → Distinct l → {x y : A} → Mem x l → Mem y l → T (same x y) → x ≡ y
    distinct-equal (cons h d) (here p) (here q) s = p ∙ sym q
    distinct-equal (cons {x = z} {l} h d) {x} {y} (here p) (there k) s = absurd (h (has-respects z y l (rw p at s) (Mem→has k)))
    distinct-equal (cons {x = z} {l} h d) {x} {y} (there m) (here q) s = absurd (h (has-respects z x l (rw q at (E.symmetric x y s)) (Mem→has m)))
    distinct-equal (cons h d) (there m) (there k) s = distinct-equal d m k s
    distinct-equal nil {x = x} {y = y} x10 _ s = elim x10 [ ]

    -- a list without repeats may be lengthened by what it does not have
    pub distinct_snoc : {l : List A} → Distinct l → (x : A) → ¬ T (has x l) → Distinct (l ++ x ∷ [])
    unfolding has
    distinct_snoc {l} d x new = distinct_append d (cons (λ t. t) nil)
        (λ y m t. elim (or_cases (same y x) false t) [ inl s ↦ new (has-respects x y l (E.symmetric y x s) (Mem→has m)) | inr f ↦ f ])

    -- taking y out of a list takes out only equivalents of y
    has-without : (x y : A) {z : A} {m : List A} → ¬ T (has x m) → (before after : List A) → T (same x y) → Mem z m
        → T (has z (before ++ y ∷ after)) → T (has z (before ++ after))
    unfolding has
    has-without x y {z} {m} new before after s k t = elim (has_append_cases z before (y ∷ after) t) [
      | inl u ↦ has_append_left z before after u
      | inr u ↦ elim (or_cases (same z y) (has z after) u) [
        | inl v ↦ absurd (new (has-respects x z m (E.transitive x y z s (E.symmetric z y v)) (Mem→has k)))
        | inr v ↦ has_append_right z before after v
      ]
    ]

    -- pigeonhole: a list without repeats whose members all are in l is no longer than l
    pub pigeonhole : {m : List A} → Distinct m → (l : List A) → ((x : A) → Mem x m → T (has x l)) → length m ≤ length l
    pigeonhole nil l inside = zero-le
    pigeonhole (cons {x} {l = m} new d) l inside =
        let (before, after, y, p, s) = has_split x l (inside x (here refl)) in
        let shorter = pigeonhole d (before ++ after) (λ z k. has-without x y new before after s k (rw p at (inside z (there k)))) in
        rw p (simp length-append (omega (arith, simp length-append at shorter)))

    -- two lists without repeats that have each other's members are equally long
    pub same_length : {l m : List A} → Distinct l → Distinct m → ((x : A) → Mem x l → T (has x m)) → ((x : A) → Mem x m → T (has x l)) → length l ≡ length m
    same_length {l} {m} d e into back = omega (arith, pigeonhole d m into, pigeonhole e l back)

    -- the image of a list without repeats under an injection is without repeats
    pub distinct-map : (f : A → A) {l : List A} → Injective f l → Distinct l → Distinct (map f l)
    distinct-map f injective nil = nil
    distinct-map f injective (cons {x} {l} new d) = cons (λ t. new (back t)) (distinct-map f (λ a b m k. injective a b (there m) (there k)) d)
      where
        back : T (has (f x) (map f l)) → T (has x l)
        back t =
            let (y, m, s) = has-member (f x) (map f l) t in
            let (a, k, p) = mem-of-map f l m in
            has-respects x a l (injective x a (here refl) (there k) (rw p s)) (Mem→has k)

    -- an injection of a list without repeats into itself is onto
    pub injection-onto : (f : A → A) (l : List A) → Injective f l → Distinct l
        → ((x : A) → Mem x l → T (has (f x) l)) → (z : A) → T (has z l) → T (has z (map f l))
    injection-onto f l injective d into z h = elim (decided (has z (map f l))) [
      | inl t ↦ t
      | inr t ↦ absurd (omega (arith, length-map l f, pigeonhole (cons t (distinct-map f injective d)) l inside))
    ]
      where
        inside : (x : A) → Mem x (z ∷ map f l) → T (has x l)
        inside x (here p) = rw p h
        inside x (there m) = let (a, k, p) = mem-of-map f l m in rw (← p) (into a k)

  -- ---- a test that decides equality

  module _ (D : DecidesEquality) where
    -- equality is an equivalence
    pub equality-equivalence : Equivalence
    equality-equivalence = record {
      reflexive = D.reflexive;
      symmetric = λ x y s. rw (D.exact x y s) (D.reflexive y);
      transitive = λ x y z s t. rw (D.exact x y s) t;
    }

    -- a list has only its members
    pub has→Mem : {x : A} {l : List A} → T (has x l) → Mem x l
    has→Mem {x} {l} t = let (y, m, s) = has-member x l t in mem-cast (D.exact x y s) m

    -- to be had by a list is to be a member
    pub has↔Mem : {x : A} {l : List A} → T (has x l) ↔ Mem x l
    has↔Mem = (has→Mem, Mem→has equality-equivalence)

-- the test of natural numbers decides their equality
pub eqb-decides : DecidesEquality eqb
eqb-decides = record { reflexive = eqb_refl; exact = eqb→eq }

-- the test of natural numbers is an equivalence
pub eqb-equivalence : Equivalence eqb
eqb-equivalence = equality-equivalence eqb eqb-decides

-- the test of membership as an equation, with the member that is found
pub has-true : {A : Type 0} (same : A → A → Bool) (x : A) (l : List A) → (has same x l ≡ true) ↔ ((y : A) × Mem y l × (same x y ≡ true))
unfolding has
has-true {A} same x l = ((λ e. let (y, m, t) = has-member same x l (holds.1 e) in (y, m, holds.0 t)), λ (y, m, e). holds.0 (found l m (holds.1 e)))
  where
    found : (l : List A) {y : A} → Mem y l → T (same x y) → T (has same x l)
    found (z ∷ l) (here e) t = or_left (same x z) _ (rw e at t)
    found (z ∷ l) (there m) t = or_right (same x z) _ (found l m t)
    found [] {y = y} x3 t = elim x3 [ ]
