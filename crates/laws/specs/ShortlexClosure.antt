-- The breadth-first closure is the list in the order of least words. The idea: the closure of the pairs of an element and its
-- word, told apart by the element, ascends by the words, and its elements are the closure of the elements.
use Rattle.std.proofs.Math.Path.{◌≡◌, refl, ap}
use Rattle.std.proofs.Common.{sym, ◌∙◌, inl, inr, arith, length-append}
use Rattle.std.specs.Prelude.{◌↔◌, Bool, T, length}
use Rattle.std.proofs.Math.Option.{some, bind-eq-some_iff, map-eq-some_iff}
use mathlib.Core.List.Memᴰ.{head as here}
use mathlib.Core.List.Memᴰ.{map as mem-map}
use mathlib.Core.List.Memᴰ.{of_map as mem-of-map}
use mathlib.Core.List.Memᴰ.{tail as there}
use mathlib.Core.List.{List, [], ◌∷◌, ◌++◌, map, map-map, append-nil, Memᴰ as Mem}
use Prim.Native.Nat.{ℕ, zero, suc, ◌≤◌, ◌<◌}
use Rattle.std.proofs.Math.ListN.{get_elem?}
use Rattle.std.proofs.Math.Seq.{append_snoc}
use Rattle.laws.specs.Distinct.{Equivalence, distinct-equal}
use Rattle.laws.specs.Closure.{Reached, start, step, closure, closure-length, closure-distinct, closure-sound, closure-complete, closure-bounded, Congruence}
use Rattle.laws.specs.Keyed.{KeyMap, closure-key}
use Rattle.laws.specs.Sorted.{Sorted, sorted-nil, sorted-cons, sorted-map}
use Rattle.laws.specs.OrderedClosure.{AtMost, StepOrder, closure-sorted, closure-least}
use Rattle.laws.specs.Words.{Word, differ, Shortlex, shortlex-strict, difference-append, difference-prefix, position-member, along, product, along-snoc, reached-by-words, LeastWord, Earlier, ShortlexList, shortlex-list-unique}

-- ---- generators with their positions

-- the first of two generators stands before the second
abbrev LowerPosition : {G : Type 0} → ℕ × G → ℕ × G → Type 0
LowerPosition p q = p.0 < q.0

module _ {G : Type 0} where
  -- one position later
  abbrev later : ℕ × G → ℕ × G
  later p = (suc p.0, p.1)

  -- a list's members with their positions
  unfoldable numbered : List G → List (ℕ × G)
  numbered [] = []
  numbered (g ∷ gens) = (zero, g) ∷ map later (numbered gens)

  -- each stands where its position says
  numbered-position : (gens : List G) {p : ℕ × G} → Mem p (numbered gens) → get_elem? gens p.0 ≡ some p.1
  unfolding numbered
  numbered-position (g ∷ gens) (here e) = rw e
  numbered-position (g ∷ gens) (there m) =
      let (q, k, e) = mem-of-map later (numbered gens) m in
      rw (← e) (numbered-position gens k)
  numbered-position [] {p = p} x' = elim x' [ ]

  -- each place is numbered
  position-numbered : (gens : List G) (i : ℕ) (g : G) → get_elem? gens i ≡ some g → Mem (i, g) (numbered gens)
  unfolding numbered
  position-numbered [] i g p = let h : ◌≡◌ {A = ℕ} 0 1 = cc in absurd (omega arith)
  position-numbered (h ∷ gens) zero g p = let e : g ≡ h = cc in here (ap (λ x. (zero, x)) e)
  position-numbered (h ∷ gens) (suc i) g p = there (mem-map later (position-numbered gens i g p))

  -- without the positions the list is as it was
  numbered-members : (gens : List G) → map (λ p. p.1) (numbered gens) ≡ gens
  unfolding numbered
  numbered-members [] = refl
  numbered-members (g ∷ gens) = ap (λ r. g ∷ r) (map-map (λ p. p.1) later (numbered gens) ∙ numbered-members gens)

  -- the positions ascend
  numbered-sorted : (gens : List G) → Sorted LowerPosition (numbered gens)
  unfolding numbered
  numbered-sorted [] = sorted-nil
  numbered-sorted (g ∷ gens) = sorted-cons {x = (zero, g)}
      (λ p m. let (q, k, e) = mem-of-map later (numbered gens) m in rw (← e) (omega arith))
      (sorted-map LowerPosition LowerPosition later (λ p q h. omega arith) (numbered-sorted gens))

-- ---- the closure of the pairs of an element and its word

module _ {A G : Type 0} (same : A → A → Bool) (◌·◌ : A → G → A) (unit : A) (gens : List G) where
  infixl 70 ◌·◌
  -- told apart by the element
  abbrev same-element : A × Word → A × Word → Bool
  same-element p q = same p.0 q.0

  -- a step lengthens the word by the position of the generator
  abbrev step-word : A × Word → ℕ × G → A × Word
  step-word p q = (p.0 · q.1, p.1 ++ q.0 ∷ [])

  -- ordered by the word
  abbrev WordBefore : A × Word → A × Word → Type 0
  WordBefore p q = Shortlex p.1 q.1

  -- reached together
  abbrev ReachedWith : A × Word → Type 0
  ReachedWith = Reached step-word (unit, []) (numbered gens)

  -- the closure of the pairs
  abbrev PairClosure : ℕ → List (A × Word) → Type 0
  PairClosure n pairs = closure same-element step-word (unit, []) (numbered gens) n ≡ some pairs

  -- the word of a pair that is reached spells its element
  pair-spells : {p : A × Word} → ReachedWith p → product ◌·◌ unit gens p.1 ≡ some p.0
  unfolding along
  pair-spells start = refl
  pair-spells (step {x = p} {g = q} r m) = along-snoc ◌·◌ unit gens unit p.1 (pair-spells r) q.0 (numbered-position gens m)

  -- an element is reached together with each word that leads to it
  along-pair : {x : A} {u : Word} → ReachedWith (x, u) → (w : Word) {y : A} → along ◌·◌ unit gens x w ≡ some y → ReachedWith (y, u ++ w)
  unfolding along
  along-pair {x} {u} r [] {y} p = let h : x ≡ y = cc in rw (← h, append-nil) r
  along-pair {x = x} {u = u} r (i ∷ w) {y = y} p =
      let (g, e, q) = (bind-eq-some_iff (get_elem? gens i) (λ g. along ◌·◌ unit gens (x · g) w)).0 p in
      rw (append_snoc u i w) at (along-pair {x = (step-word (x, u) (
        i,
        ((bind-eq-some_iff {B = A} (get_elem? gens i) (λ g'. along ◌·◌ unit gens (x · g') w) {x = y}).0 p).0,
      )).0} (step r (position-numbered gens i g e)) w q)

  -- the element of a pair that is reached is reached
  pair-element : {p : A × Word} → ReachedWith p → Reached ◌·◌ unit gens p.0
  pair-element {p} r = (reached-by-words ◌·◌ unit gens p.0).1 (p.1, pair-spells r)

  -- the steps of pairs go by the order of words
  pair-order : StepOrder step-word WordBefore LowerPosition
  pair-order = record {
    transitive = λ p q r. shortlex-strict.transitive p.1 q.1 r.1;
    forward = λ p g. inl (simp length-append (omega arith));
    keeps = λ p q g h before. elim before [
      | inl shorter ↦ inl (simp length-append (omega arith))
      | inr (e, d) ↦ inr (simp length-append (omega arith), difference-append d (g.0 ∷ []) (h.0 ∷ []))
    ];
    by-generator = λ p g h lower. inr (simp length-append (omega arith), difference-prefix p.1 (differ lower));
  }

  -- pairs are told apart, and multiplied, by their elements
  pair-key : KeyMap same-element same (λ p. p.0) (λ q. q.1) step-word ◌·◌
  pair-key = record { same_key = λ p q. refl; step-key = λ p q. refl }

  -- where the closure of the elements ends, it is the elements of the closure of the pairs
  pair-closure : (n : ℕ) (l : List A) → closure same ◌·◌ unit gens n ≡ some l → (pairs : List (A × Word)) × PairClosure n pairs × (map (λ p. p.0) pairs ≡ l)
  pair-closure n l p =
      let keys = closure-key same-element same (λ p. p.0) (λ q. q.1) step-word ◌·◌ pair-key (unit, []) (numbered gens) n in
      (map-eq-some_iff (map (λ p. p.0)) (closure same-element step-word (unit, []) (numbered gens) n)).0 (rw (numbered-members gens) at keys ∙ p)

  -- pairs that ascend by least words have elements that do
  pairs-ascending : {pairs : List (A × Word)} → ((p : A × Word) → Mem p pairs → LeastWord same ◌·◌ unit gens p.0 p.1)
      → Sorted WordBefore pairs → Sorted (Earlier same ◌·◌ unit gens) (map (λ p. p.0) pairs)
  pairs-ascending least sorted-nil = sorted-nil
  pairs-ascending least (sorted-cons {x = p} {l} first s) = sorted-cons before (pairs-ascending (λ q k. least q (there k)) s)
    where
      before : (y : A) → Mem y (map (λ p. p.0) l) → Earlier same ◌·◌ unit gens p.0 y
      before y m = let (q, k, e) = mem-of-map (λ p. p.0) l m in rw (← e) (p.1, q.1, least p (here refl), least q (there k), first q k)

  module _ (E : Equivalence same) (congruence : Congruence same ◌·◌ unit gens) (n : ℕ) where
    -- pairs are told apart by an equivalence
    pair-equivalence : Equivalence same-element
    pair-equivalence = record {
      reflexive = λ p. E.reflexive p.0;
      symmetric = λ p q. E.symmetric p.0 q.0;
      transitive = λ p q r. E.transitive p.0 q.0 r.0;
    }

    -- steps of pairs respect it
    pair-congruence : Congruence same-element step-word (unit, []) (numbered gens)
    pair-congruence p q g r t m s =
        congruence p.0 q.0 g.1 (pair-element r) (pair-element t) (position-member gens g.0 (numbered-position gens m)) s

    -- a listed pair is determined by the class of its element
    pair-equal : (pairs : List (A × Word)) → PairClosure n pairs → (p q : A × Word) → Mem p pairs → Mem q pairs → T (same p.0 q.0) → p ≡ q
    pair-equal pairs c p q m k s =
        let distinct = closure-distinct same-element step-word (unit, []) (numbered gens) pair-equivalence n pairs c in
        distinct-equal same-element pair-equivalence distinct m k s

    -- an element and a word to it have a listed pair of the same class, with a word that does not come after
    pair-near : (pairs : List (A × Word)) → PairClosure n pairs → (v : Word) (y : A) → product ◌·◌ unit gens v ≡ some y
        → (p : A × Word) × Mem p pairs × T (same y p.0) × AtMost WordBefore p (y, v)
    pair-near pairs c v y e = closure-least step-word WordBefore LowerPosition same-element (unit, []) (numbered gens)
        pair-order pair-equivalence (numbered-sorted gens) pair-congruence n pairs c (along-pair start v e)

    -- the word of a listed pair comes after no word of the class
    pair-at-most : (pairs : List (A × Word)) → PairClosure n pairs → (p : A × Word) → Mem p pairs
        → (v : Word) (y : A) → product ◌·◌ unit gens v ≡ some y → T (same y p.0) → AtMost Shortlex p.1 v
    pair-at-most pairs c p m v y e s =
        let (q, k, t, h) = pair-near pairs c v y e in
        let word = ap (λ r. r.1) (pair-equal pairs c q p k m (E.transitive q.0 y p.0 (E.symmetric y q.0 t) s)) in
        elim h [ inl f ↦ inl (sym word ∙ ap (λ r. r.1) f) | inr f ↦ inr (rw word at f) ]

    -- the word of a listed pair is the least of its class
    pair-least : (pairs : List (A × Word)) → PairClosure n pairs → (p : A × Word) → Mem p pairs → LeastWord same ◌·◌ unit gens p.0 p.1
    pair-least pairs c p m = record {
      spells = pair-spells (closure-sound same-element step-word (unit, []) (numbered gens) pair-equivalence n pairs c p m);
      least = pair-at-most pairs c p m;
    }

    -- the listed pairs ascend by their words
    pair-sorted : (pairs : List (A × Word)) → PairClosure n pairs → Sorted WordBefore pairs
    pair-sorted = closure-sorted step-word WordBefore LowerPosition same-element (unit, []) (numbered gens)
        pair-order pair-equivalence (numbered-sorted gens) n

    -- ---- the closure of the elements

    -- the closure is in the order of least words
    closure→shortlex : (l : List A) → closure same ◌·◌ unit gens n ≡ some l → ShortlexList same ◌·◌ unit gens l
    closure→shortlex l p =
        let (pairs, c, e) = pair-closure n l p in
        record {
          each = λ x m. let (q, k, f) = mem-of-map (λ p. p.0) pairs (rw (← e) at m) in (q.1, rw f at (pair-least pairs c q k));
          ascending = rw e at (pairs-ascending (pair-least pairs c) (pair-sorted pairs c));
          complete = closure-complete same ◌·◌ unit gens E congruence n l p;
        }

    -- a list in this order that is within the limit is the closure
    shortlex→closure : (l : List A) → ShortlexList same ◌·◌ unit gens l → length l ≤ n → closure same ◌·◌ unit gens n ≡ some l
    shortlex→closure l L h =
        let (m, p) = closure-bounded same ◌·◌ unit gens E congruence n l L.complete h in
        rw (shortlex-list-unique same ◌·◌ unit gens E (closure→shortlex m p) L) at p

    -- the closure is the one list in the order of least words, where that is no longer than the limit
    pub closure-shortlex : (l : List A) → (closure same ◌·◌ unit gens n ≡ some l) ↔ (ShortlexList same ◌·◌ unit gens l × (length l ≤ n))
    closure-shortlex l = ((λ p. (closure→shortlex l p, closure-length same ◌·◌ unit gens n l p)), λ (L, h). shortlex→closure l L h)
