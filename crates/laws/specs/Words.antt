-- Words over the generators, and the order that they give a list: each listed element is the product along the least word that
-- leads to its class, and the list ascends by these words. Only one list is so. The closure is, by ShortlexClosure.
use Rattle.std.specs.Prelude.{◌≡◌, refl, ◌⊎◌, ◌↔◌, ◌≢◌, Bool, ℕ, zero, suc, ◌<◌, T, length}
use Rattle.std.proofs.Common.{sym, ◌∙◌, ap, inl, inr, arith}
use Rattle.std.proofs.Math.Option.{Option, some, some-injective, bind, bind-eq-some_iff}
use mathlib.Core.List.Memᴰ.{cast as mem-cast}
use mathlib.Core.List.Memᴰ.{head as here}
use mathlib.Core.List.Memᴰ.{tail as there}
use mathlib.Core.List.{List, [], ◌∷◌, ◌++◌, Memᴰ as Mem}
use Rattle.std.proofs.Math.Decide.{dec_lt}
use Rattle.std.proofs.Math.ListN.{get_elem?}
use Rattle.laws.specs.Distinct.{has, Equivalence, has-member}
use Rattle.laws.specs.Closure.{Reached, start, step}
use Rattle.laws.specs.Sorted.{StrictOrder, Sorted, unique}
use Rattle.laws.specs.OrderedClosure.{AtMost}

-- ---- words and their order

-- the positions of the generators, in the order in which they are multiplied
abbrev pub Word : Type 0
Word = List ℕ

-- at the first place where they differ the first word has the lower position
pub data LowerAtDifference : Word → Word → Type 0 where
  differ : {i j : ℕ} {w v : Word} → i < j → LowerAtDifference (i ∷ w) (j ∷ v)
  agree : {i j : ℕ} {w v : Word} → i ≡ j → LowerAtDifference w v → LowerAtDifference (i ∷ w) (j ∷ v)

-- shorter first, then by the position at the first difference
abbrev pub Shortlex : Word → Word → Type 0
Shortlex w v = (length w < length v) ⊎ ((length w ≡ length v) × LowerAtDifference w v)

-- no word differs from itself
difference-irreflexive : (w : Word) → ¬ LowerAtDifference w w
difference-irreflexive (i ∷ w) (differ h) = omega arith
difference-irreflexive (i ∷ w) (agree p d) = difference-irreflexive w d
difference-irreflexive [] x' = elim x' [ ]

-- of two differences the earlier decides
difference-transitive : {w v u : Word} → LowerAtDifference w v → LowerAtDifference v u → LowerAtDifference w u
difference-transitive (differ {i} h) (differ {j = k} l) = let below : i < k = omega arith in differ below
difference-transitive (differ {i} h) (agree {j = k} q e) = let below : i < k = omega arith in differ below
difference-transitive (agree {i} p d) (differ {j = k} l) = let below : i < k = omega arith in differ below
difference-transitive (agree p d) (agree q e) = agree (p ∙ q) (difference-transitive d e)

-- what stands behind a difference does not matter
pub difference-append : {w v : Word} → LowerAtDifference w v → (a b : Word) → LowerAtDifference (w ++ a) (v ++ b)
difference-append (differ h) a b = differ h
difference-append (agree p d) a b = agree p (difference-append d a b)

-- what two words start with in common does not matter
pub difference-prefix : (w : Word) {a b : Word} → LowerAtDifference a b → LowerAtDifference (w ++ a) (w ++ b)
difference-prefix [] d = d
difference-prefix (i ∷ w) d = agree refl (difference-prefix w d)

-- two different words of one length have a first difference
difference-total : (w v : Word) → length w ≡ length v → w ≢ v → LowerAtDifference w v ⊎ LowerAtDifference v w
difference-total [] [] p h = absurd (h refl)
difference-total [] (j ∷ v) p h = absurd (omega arith)
difference-total (i ∷ w) [] p h = absurd (omega arith)
difference-total (i ∷ w) (j ∷ v) p h = elim (dec_lt i j) [
  | yes lower ↦ inl (differ lower)
  | no not_lower ↦ elim (dec_lt j i) [
    | yes higher ↦ inr (differ higher)
    | no not-higher ↦
        let e : i ≡ j = omega arith in
        elim (difference-total w v (omega arith) (λ q. h (cc))) [ inl d ↦ inl (agree e d) | inr d ↦ inr (agree (sym e) d) ]
  ]
]

-- the order of words is strict
pub shortlex-strict : StrictOrder Shortlex
shortlex-strict = record { irreflexive = irreflexive; transitive = transitive }
  where
    irreflexive : (w : Word) → ¬ Shortlex w w
    irreflexive w (inl h) = omega arith
    irreflexive w (inr (p, d)) = difference-irreflexive w d

    transitive : (w v u : Word) → Shortlex w v → Shortlex v u → Shortlex w u
    transitive w v u (inl h) (inl k) = inl (omega arith)
    transitive w v u (inl h) (inr (q, e)) = inl (omega arith)
    transitive w v u (inr (p, d)) (inl k) = inl (omega arith)
    transitive w v u (inr (p, d)) (inr (q, e)) = inr (p ∙ q, difference-transitive d e)

-- two words that are each at most the other are equal
shortlex-antisymmetric : (w v : Word) → AtMost Shortlex w v → AtMost Shortlex v w → w ≡ v
shortlex-antisymmetric w v (inl p) k = p
shortlex-antisymmetric w v (inr h) (inl p) = sym p
shortlex-antisymmetric w v (inr h) (inr k) = absurd (shortlex-strict.irreflexive w (shortlex-strict.transitive w v w h k))

-- ---- positions

-- a member has a position
pub member-position : {G : Type 0} {g : G} {gens : List G} → Mem g gens → (i : ℕ) × (get_elem? gens i ≡ some g)
member-position (here p) = (zero, ap some (sym p))
member-position (there m) = let (i, p) = member-position m in (suc i, p)

-- what has a position is a member
pub position-member : {G : Type 0} (gens : List G) (i : ℕ) {g : G} → get_elem? gens i ≡ some g → Mem g gens
position-member [] i p = let h : ◌≡◌ {A = ℕ} 0 1 = cc in absurd (omega arith)
position-member (h ∷ gens) zero {g} p = let e : g ≡ h = cc in here e
position-member (h ∷ gens) (suc i) p = there (position-member gens i p)

-- ---- products along words

module _ {A G : Type 0} (◌·◌ : A → G → A) (unit : A) (gens : List G) where
  infixl 70 ◌·◌
  -- x multiplied by the generators of a word, one after the other; none if a position is that of no generator
  unfoldable pub along : A → Word → Option A
  along x [] = some x
  along x (i ∷ w) = bind (get_elem? gens i) (λ g. along (x · g) w)

  -- the product along a word
  abbrev pub product : Word → Option A
  product w = along unit w

  -- what a word leads to from what is reached is reached
  along-reached : {x : A} → Reached ◌·◌ unit gens x → (w : Word) {y : A} → along x w ≡ some y → Reached ◌·◌ unit gens y
  unfolding along
  along-reached {x} r [] {y} p = let h : x ≡ y = cc in rw h at r
  along-reached {x = x} r (i ∷ w) {y = y} p =
      let (g, e, q) = (bind-eq-some_iff (get_elem? gens i) (λ g. along (x · g) w)).0 p in
      along-reached {x = x · ((bind-eq-some_iff {B = A} (get_elem? gens i) (λ g'. along (x · g') w) {x = y}).0 p).0} (step r (position-member gens i e)) w q

  -- a word with one more position
  pub along-snoc : (x : A) (w : Word) {y : A} → along x w ≡ some y → (i : ℕ) {g : G} → get_elem? gens i ≡ some g → along x (w ++ i ∷ []) ≡ some (y · g)
  unfolding along
  along-snoc x [] {y} p i {g} q = (bind-eq-some_iff (get_elem? gens i) (λ g. along (x · g) [])).1 (g, q, cc)
  along-snoc x (j ∷ w) p i q =
      let (h, e, r) = (bind-eq-some_iff (get_elem? gens j) (λ g. along (x · g) w)).0 p in
      (bind-eq-some_iff (get_elem? gens j) (λ g. along (x · g) (w ++ i ∷ []))).1 (h, e, along-snoc (x · h) w r i q)

  -- what is reached is a product along some word
  reached-word : {x : A} → Reached ◌·◌ unit gens x → (w : Word) × (product w ≡ some x)
  unfolding along
  reached-word start = ([], refl)
  reached-word (step {x} {g} r m) =
      let (w, p) = reached-word r in
      let (i, q) = member-position m in
      (w ++ i ∷ [], along-snoc unit w p i q)

  -- the reached elements are the products along words
  pub reached-by-words : (x : A) → Reached ◌·◌ unit gens x ↔ ((w : Word) × (product w ≡ some x))
  reached-by-words x = (reached-word, λ (w, p). along-reached start w p)

-- ---- the order of a list by least words

module _ {A G : Type 0} (same : A → A → Bool) (◌·◌ : A → G → A) (unit : A) (gens : List G) where
  infixl 70 ◌·◌
  -- x is the product along w, and no word before w has a product equivalent to x
  pub record LeastWord (x : A) (w : Word) : Type 0 where
    pub spells : product ◌·◌ unit gens w ≡ some x
    pub least : (v : Word) (y : A) → product ◌·◌ unit gens v ≡ some y → T (same y x) → AtMost Shortlex w v

  -- the least word of x comes before that of y
  abbrev pub Earlier : A → A → Type 0
  Earlier x y = (w v : Word) × LeastWord x w × LeastWord y v × Shortlex w v

  -- each element is the product along the least word that leads to its class, the list ascends by these words,
  -- and every class that is reached is there
  pub record ShortlexList (l : List A) : Type 0 where
    pub each : (x : A) → Mem x l → (w : Word) × LeastWord x w
    pub ascending : Sorted Earlier l
    pub complete : (x : A) → Reached ◌·◌ unit gens x → T (has same x l)

  module _ (E : Equivalence same) where
    -- equivalent elements have the same least word
    least-word-unique : {x y : A} {w v : Word} → T (same x y) → LeastWord x w → LeastWord y v → w ≡ v
    least-word-unique {x} {y} {w} {v} s leastX leastY =
        shortlex-antisymmetric w v (leastX.least v y leastY.spells (E.symmetric x y s)) (leastY.least w x leastX.spells s)

    -- to come earlier is a strict order
    earlier-strict : StrictOrder Earlier
    earlier-strict = record {
      irreflexive = λ x (w, v, leastX, leastY, h). shortlex-strict.irreflexive v (rw (least-word-unique (E.reflexive x) leastX leastY) at h);
      transitive = λ x y z (w, v, leastX, leastY, h) (a, u, again, leastZ, k).
          (w, u, leastX, leastZ, shortlex-strict.transitive w v u h (rw (least-word-unique (E.reflexive y) again leastY) at k));
    }

    -- of two such lists each holds the members of the other
    shortlex-inside : {l m : List A} → ShortlexList l → ShortlexList m → (x : A) → Mem x l → Mem x m
    shortlex-inside {m} L M x k =
        let (w, leastX) = L.each x k in
        let (y, n, s) = has-member same x m (M.complete x ((reached-by-words ◌·◌ unit gens x).1 (w, leastX.spells))) in
        let (v, leastY) = M.each y n in
        let spells-y = rw (← (least-word-unique s leastX leastY)) at leastY.spells in
        mem-cast (some-injective x y (sym leastX.spells ∙ spells-y)) n

    -- only one list is in this order
    pub shortlex-list-unique : {l m : List A} → ShortlexList l → ShortlexList m → l ≡ m
    shortlex-list-unique L M = unique Earlier earlier-strict L.ascending M.ascending (shortlex-inside L M) (shortlex-inside M L)
