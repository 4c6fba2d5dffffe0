-- The Rust's list of subgroups is ours. What its rounds mark is the least subgroup over the old one that holds the new element; so what was seen
-- when its queue is empty is complete in the sense of `Search`, and its sort is the list order on ascending lists.
use Rattle.std.specs.Prelude.{◌≡◌, ◌⊎◌, Bool, cond, ◌&&◌, ◌||◌, T, length}
use Rattle.std.proofs.Math.Path.{refl, sym}
use Rattle.std.proofs.Common.{ap, ◌∙◌, subst, lt_irrefl}
use Rattle.std.proofs.Math.Logic.{inl, inr}
use Rattle.std.proofs.Math.Bool.{true, false, true≢false}
use mathlib.Core.List.Memᴰ.{append_cases}
use mathlib.Core.List.Memᴰ.{append_left as mem-left}
use mathlib.Core.List.Memᴰ.{append_right as mem-right}
use mathlib.Core.List.Memᴰ.{cases_cons as cases}
use mathlib.Core.List.Memᴰ.{cast as mem-cast}
use mathlib.Core.List.Memᴰ.{head as here}
use mathlib.Core.List.Memᴰ.{map as mem-map}
use mathlib.Core.List.Memᴰ.{not-nil}
use mathlib.Core.List.Memᴰ.{of_map as mem-of-map}
use mathlib.Core.List.Memᴰ.{tail as there}
use mathlib.Core.List.Lexᴰ
use mathlib.Core.List.{List, [], ◌∷◌, ◌++◌, map, Memᴰ as Mem, Lexᴰ}
use Prim.Native.Nat.{ℕ, zero, suc, ◌+◌, ◌*◌, ◌^◌, ◌<◌, ◌≤◌}
use Rattle.std.proofs.Math.Decide.{ℕ_discrete}
use native.Mathlib.Omega.{arith}
use Rattle.std.specs.Int.Count.{ones, ones_in}
use Rattle.std.proofs.Math.Dec.{eqb}
use Rattle.std.proofs.Math.ListN.{length-append}
use Rattle.std.proofs.lemmas.List.{length-map}
use borrow.Author.Tests.{eq-eqb, ne_eqb, eqb-true}
use Rattle.laws.specs.Distinct.{has, Distinct, nil, cons, DecidesEquality, eqb-decides, eqb-equivalence, equality-equivalence, has→Mem, Mem→has, pigeonhole}
use Rattle.laws.specs.ListOrder.{Precedes, precedes-compare, LongerOrSmaller}
use Rattle.laws.specs.Sets.{member, member_below, member-singleton, members, members-unique, listed-member, member-listed, ones_in-suc, ones_below, ones-proper, Subset, set_of, set_of-below, set_of-same, set_of-member, member-set_of}
use Rattle.laws.specs.Sorted.{StrictOrder, Sorted, sorted-nil, sorted-cons, sorted-one, unique}
use Rattle.laws.specs.Truth.{T_true, same_truth, passes-or-fails, and_both, both-and, or-either, or-holds-left, or-holds-right}
use Rattle.subgroup_laws.specs.Adjoin.{Extension, trivial-subgroup}
use Rattle.subgroup_laws.specs.Bounded.{some, passes-some, some-passes}
use Rattle.subgroup_laws.specs.Groups.{Group}
use Rattle.subgroup_laws.specs.ListedSubgroups.{only-subgroups, subgroup-listed, subgroups-sorted}
use Rattle.subgroup_laws.specs.Lists.{subgroups_of}
use Rattle.subgroup_laws.specs.RustProcedures.{same_list, is_product, round, rounds, first_marked, generated_subgroup, Progress, tried, tried_below, Searched, ended, taken, EnumeratedSubgroups}
use Rattle.subgroup_laws.specs.Search.{Settled, Complete, own-extension, listed-itself, complete-listed}
use Rattle.subgroup_laws.specs.SubgroupLaws.{closed-set}
use Rattle.subgroup_laws.specs.Subsets.{Subgroup}

-- ---- equal lists

-- lists that pass the test are equal
same-list : (l m : List ℕ) → T (same_list l m) → l ≡ m
unfolding same_list
same-list [] [] t = refl
same-list [] (y ∷ m) t = absurd t
same-list (x ∷ l) [] t = absurd t
same-list (x ∷ l) (y ∷ m) t =
    let (a, b) = and_both (eqb x y) (same_list l m) (T_true t) in
    let first : x ≡ y = eqb-true x y a in
    let rest : l ≡ m = same-list l m (rw b tt) in
    rw (first, rest) refl

-- a list passes with itself
list_same : (l : List ℕ) → T (same_list l l)
unfolding same_list
list_same [] = tt
list_same (x ∷ l) = rw (eq-eqb x x refl) (list_same l)

-- the test decides equality
pub lists-decided : DecidesEquality same_list
lists-decided = record { reflexive = list_same; exact = same-list }

-- what a list has, it is seen to have
pub had : {x : List ℕ} {l : List (List ℕ)} → Mem x l → has same_list x l ≡ true
had m = T_true (Mem→has same_list (equality-equivalence same_list lists-decided) m)

-- and what it is seen to have, it has
pub has-it : {x : List ℕ} {l : List (List ℕ)} → has same_list x l ≡ true → Mem x l
has-it p = has→Mem same_list lists-decided (rw p tt)

-- ---- sets and their lists

-- below n no more than n are counted
ones_in-most : (n s : ℕ) → ones_in n s ≤ n
unfolding ones_in
ones_in-most zero s = omega arith
ones_in-most (suc n) s = let h = ones_in-most n s in let q = ones_in-suc n s in let c = at_most_one (member s n) in omega arith
  where
    at_most_one : (b : Bool) → cond b 1 0 ≤ 1
    at_most_one true = omega arith
    at_most_one false = omega arith

-- the set of a list's elements
unfoldable pub set_from : ℕ → List ℕ → ℕ
set_from n l = set_of n (λ x. has eqb x l)

-- the list of a set's elements has just these
pub members-has : (n s x : ℕ) → x < n → has eqb x (members n s) ≡ member s x
members-has n s x h = same_truth _ _
    (λ p. (listed-member n s x (has→Mem eqb eqb-decides (rw p tt))).1) (λ m. T_true (Mem→has eqb eqb-equivalence (member-listed n s x h m)))

-- so it gives the set back
pub set_back : (n s : ℕ) → s < 2 ^ n → set_from n (members n s) ≡ s
unfolding set_from
set_back n s h = set_of-same n _ (member s) (λ x k. members-has n s x k) ∙ set_of-member n s h

-- and two sets with one list are equal
pub members-injective : (n s t : ℕ) → s < 2 ^ n → t < 2 ^ n → members n s ≡ members n t → s ≡ t
members-injective n s t h k p = sym (set_back n s h) ∙ ap (set_from n) p ∙ set_back n t k

-- ---- the order of the Rust's sort

-- a list that is less than a lesser one is less
pub lexicographic-transitive : (l m k : List ℕ) → Lexᴰ ◌<◌ l m → Lexᴰ ◌<◌ m k → Lexᴰ ◌<◌ l k
lexicographic-transitive l [] k d f = absurd (Lexᴰ.not-nil d)
lexicographic-transitive l (y ∷ m) [] d f = absurd (Lexᴰ.not-nil f)
lexicographic-transitive [] (y ∷ m) (z ∷ k) d f = Lexᴰ.nil
lexicographic-transitive (x ∷ l) (y ∷ m) (z ∷ k) d f = elim (Lexᴰ.cases_cons-cons d) [
  | inl h ↦ elim (Lexᴰ.cases_cons-cons f) [
    | inl j ↦ let less : x < z = omega arith in Lexᴰ.rel less
    | inr j ↦ let q = j.0 in let less : x < z = omega arith in Lexᴰ.rel less
  ]
  | inr h ↦ elim (Lexᴰ.cases_cons-cons f) [
    | inl j ↦ let q = h.0 in let less : x < z = omega arith in Lexᴰ.rel less
    | inr j ↦ Lexᴰ.cons (h.0 ∙ j.0) (lexicographic-transitive l m k h.1 j.1)
  ]
]

-- it is strict
pub longer-strict : StrictOrder LongerOrSmaller
longer-strict = record { irreflexive = none; transitive = follow }
  where
    none : (l : List ℕ) → LongerOrSmaller l l → ⊥
    none l (inl h) = omega arith
    none l (inr h) = Lexᴰ.irrefl lt_irrefl l h.1

    follow : (l m k : List ℕ) → LongerOrSmaller l m → LongerOrSmaller m k → LongerOrSmaller l k
    follow l m k (inl h) (inl j) = inl (omega arith)
    follow l m k (inl h) (inr j) = let q = j.0 in inl (omega arith)
    follow l m k (inr h) (inl j) = let q = h.0 in inl (omega arith)
    follow l m k (inr h) (inr j) = inr (h.0 ∙ j.0, lexicographic-transitive l m k h.1 j.1)

-- sets in list order have their lists in this order
pub members-in-order : (n : ℕ) {l : List ℕ} → ((s : ℕ) → Mem s l → s < 2 ^ n) → Sorted Precedes l → Sorted LongerOrSmaller (map (members n) l)
members-in-order n small sorted-nil = sorted-nil
members-in-order n small (sorted-cons {x} {l} first rest) = sorted-cons {x = members n x}
    (λ y m.
    let (t, k, p) = mem-of-map (members n) l m in
    rw (← p) ((precedes-compare n x t (small x (here refl)) (small t (there k))).0 (first t k)))
    (members-in-order n (λ s m. small s (there m)) rest)

module _ (n : ℕ) (◌·◌ : ℕ → ℕ → ℕ) (e : ℕ) (G : Group n ◌·◌ e) where
  infixl 70 ◌·◌
  -- the trivial subgroup's list
  trivial-list : members n (2 ^ e) ≡ e ∷ []
  trivial-list = sym (members-unique n (2 ^ e) (e ∷ []) (sorted-one ◌<◌) (λ i. (
    λ m. elim (cases m) [
      | inl q ↦ (rw q G.identity-below, member-singleton e i ∙ eq-eqb e i (sym q))
      | inr k ↦ absurd (not-nil k)
    ],
    λ p. here (sym (eqb-true e i (sym (member-singleton e i) ∙ p.1))),
  )))

  -- ---- rounds

  -- there are no more than n elements
  ones-elements : (s : ℕ) → s < 2 ^ n → ones s ≤ n
  ones-elements s small = omega (arith, ones_below n s small, ones_in-most n s)

  -- the product of marked elements is one
  product_found : (m x y : ℕ) → x < n → y < n → member m x ≡ true → member m y ≡ true → is_product n ◌·◌ e m (x · y) ≡ true
  unfolding is_product
  product_found m x y h k i j =
      passes-some (λ x'. member m x' && some (λ y'. member m y' && eqb (x' · y') (x · y)) n) n x h
      (both-and _ _ i (passes-some (λ y'. member m y' && eqb (x · y') (x · y)) n y k (both-and _ _ j (eq-eqb (x · y) (x · y) refl))))

  -- and what is one is such a product
  found-product : (m z : ℕ) → is_product n ◌·◌ e m z ≡ true → (x y : ℕ) × (member m x ≡ true) × (member m y ≡ true) × (x · y ≡ z)
  unfolding is_product
  found-product m z p =
      let (x, k, q) = some-passes (λ x'. member m x' && some (λ y'. member m y' && eqb (x' · y') z) n) n p in
      let (mx, r) = and_both (member m x) (some (λ y'. member m y' && eqb (x · y') z) n) q in
      let (y, l, t) = some-passes (λ y'. member m y' && eqb (x · y') z) n r in
      let (my, u) = and_both (member m y) (eqb (x · y) z) t in
      (x, y, mx, my, eqb-true _ _ u)

  -- a round's marks are elements
  round-below : (m : ℕ) → round n ◌·◌ e m < 2 ^ n
  unfolding round
  round-below m = set_of-below n (λ z. member m z || is_product n ◌·◌ e m z)

  -- what a round marks
  round-member : (m z : ℕ) → z < n → member (round n ◌·◌ e m) z ≡ (member m z || is_product n ◌·◌ e m z)
  unfolding round
  round-member m z h = member-set_of n (λ z. member m z || is_product n ◌·◌ e m z) z h

  -- old marks stay
  round-over : (m : ℕ) → m < 2 ^ n → Subset m (round n ◌·◌ e m)
  round-over m small x i = round-member m x (member_below n m x small i) ∙ or-holds-left _ _ i

  -- products of marks are marked
  round-products : (m x y : ℕ) → m < 2 ^ n → member m x ≡ true → member m y ≡ true → member (round n ◌·◌ e m) (x · y) ≡ true
  round-products m x y small i j =
      let h = member_below n m x small i in
      let k = member_below n m y small j in
      round-member m (x · y) (G.product-below x y h k) ∙ or-holds-right (member m (x · y)) _ (product_found m x y h k i j)

  -- and nothing else is
  round-inside : (m u : ℕ) → Subgroup n ◌·◌ e u → Subset m u → Subset (round n ◌·◌ e m) u
  round-inside m u U inside z i =
      let h = member_below n (round n ◌·◌ e m) z (round-below m) i in
      elim (or-either (member m z) (is_product n ◌·◌ e m z) (sym (round-member m z h) ∙ i)) [
        | inl old ↦ inside z old
        | inr new ↦
            let (x, y, mx, my, q) = found-product m z new in
            subst (λ (w : ℕ). member u w ≡ true) q (U.holds-products x y (inside x mx) (inside y my))
      ]

  -- the rounds end: where one changes nothing no further one does, and each that changes marks one more
  rounds-still : (more m : ℕ) → m < 2 ^ n → n ≤ more + ones m → round n ◌·◌ e (rounds n ◌·◌ e more m) ≡ rounds n ◌·◌ e more m
  unfolding rounds
  rounds-still zero m small enough = elim (ℕ_discrete m (round n ◌·◌ e m)) [
    | yes q ↦ sym q
    | no q ↦ absurd (omega (arith, ones-proper m (round n ◌·◌ e m) (round-over m small) q, ones-elements (round n ◌·◌ e m) (round-below m)))
  ]
  rounds-still (suc more) m small enough = elim (ℕ_discrete (round n ◌·◌ e m) m) [
    | yes q ↦ rw (eq-eqb _ _ q) q
    | no q ↦ rw (ne_eqb _ _ q) (rounds-still more (round n ◌·◌ e m) (round-below m)
        (omega (arith, ones-proper m (round n ◌·◌ e m) (round-over m small) (λ p. q (sym p)))))
  ]

  -- they keep the old marks and stay within elements
  rounds-over : (more m : ℕ) → m < 2 ^ n → (rounds n ◌·◌ e more m < 2 ^ n) × Subset m (rounds n ◌·◌ e more m)
  unfolding rounds
  rounds-over zero m small = (small, λ x i. i)
  rounds-over (suc more) m small = elim (ℕ_discrete (round n ◌·◌ e m) m) [
    | yes q ↦ rw (eq-eqb _ _ q) (small, λ x i. i)
    | no q ↦ rw (ne_eqb _ _ q) (let (s, f) = rounds-over more (round n ◌·◌ e m) (round-below m) in (s, λ x i. f x (round-over m small x i)))
  ]

  -- and within each subgroup that holds the first marks
  rounds-inside : (more m u : ℕ) → Subgroup n ◌·◌ e u → Subset m u → Subset (rounds n ◌·◌ e more m) u
  unfolding rounds
  rounds-inside zero m u U inside = inside
  rounds-inside (suc more) m u U inside = elim (ℕ_discrete (round n ◌·◌ e m) m) [
    | yes q ↦ rw (eq-eqb _ _ q) inside
    | no q ↦ rw (ne_eqb _ _ q) (rounds-inside more (round n ◌·◌ e m) u U (round-inside m u U inside))
  ]

  -- ---- the generated subgroup

  module _ (h g : ℕ) (H : Subgroup n ◌·◌ e h) (l : g < n) where
    -- the first marks
    abbrev start : ℕ
    start = first_marked n ◌·◌ e (members n h) g

    -- they are elements
    start-below : start < 2 ^ n
    unfolding first_marked
    start-below = set_of-below n (λ x. eqb x e || (eqb x g || has eqb x (members n h)))

    -- which ones
    start-member : (x : ℕ) → x < n → member start x ≡ (eqb x e || (eqb x g || has eqb x (members n h)))
    unfolding first_marked
    start-member x k = member-set_of n (λ x. eqb x e || (eqb x g || has eqb x (members n h))) x k

    -- the identity
    start-identity : member start e ≡ true
    start-identity = start-member e G.identity-below ∙ or-holds-left _ _ (eq-eqb e e refl)

    -- the new element
    start-new : member start g ≡ true
    start-new = start-member g l ∙ or-holds-right (eqb g e) _ (or-holds-left _ _ (eq-eqb g g refl))

    -- the old elements
    start-old : Subset h start
    start-old x i =
        let k = member_below n h x H.small i in
        start-member x k ∙ or-holds-right (eqb x e) _ (or-holds-right (eqb x g) _ (members-has n h x k ∙ i))

    -- no others
    start-inside : (u : ℕ) → Subgroup n ◌·◌ e u → Subset h u → member u g ≡ true → Subset start u
    start-inside u U over new x i =
        let k = member_below n start x start-below i in
        elim (or-either (eqb x e) (eqb x g || has eqb x (members n h)) (sym (start-member x k) ∙ i)) [
          | inl a ↦ rw (eqb-true x e a) U.holds-identity
          | inr a ↦ elim (or-either (eqb x g) (has eqb x (members n h)) a) [
            | inl b ↦ rw (eqb-true x g b) new
            | inr b ↦ over x (sym (members-has n h x k) ∙ b)
          ]
        ]

    -- the set that is generated
    abbrev pub generated_set : ℕ
    generated_set = rounds n ◌·◌ e n start

    -- the Rust's generated subgroup is the least subgroup over h that holds g
    pub generated-extension : Extension n ◌·◌ e h g generated_set
    generated-extension =
        let (small, over) = rounds-over n start start-below in
        let still = rounds-still n start start-below (omega arith) in
        record {
          subgroup = closed-set n ◌·◌ e G generated_set small (over e start-identity)
              (λ x y i j. subst (λ (s : ℕ). member s (x · y) ≡ true) still (round-products generated_set x y small i j));
          over = λ x i. over x (start-old x i);
          adjoined = over g start-new;
          least = λ u U old new. rounds-inside n start u U (start-inside u U old new);
        }

    -- as a list
    pub generated-list : generated_subgroup n ◌·◌ e (members n h) g ≡ members n generated_set
    unfolding generated_subgroup
    generated-list = refl

  -- ---- the search

  -- a list of a subgroup's elements
  abbrev Known : List ℕ → Type 0
  Known x = (s : ℕ) × Subgroup n ◌·◌ e s × (x ≡ members n s)

  -- what the elements below k generate with x was seen, unless x holds them
  abbrev Settles : List (List ℕ) → List ℕ → ℕ → Type 0
  Settles seen x k = (g : ℕ) → g < k → (Mem g x → ⊥) → Mem (generated_subgroup n ◌·◌ e x g) seen

  -- subgroups were seen, each once, and each waits, is the busy one, or is done with
  record Exploring (Busy : List ℕ → Type 0) (seen queue : List (List ℕ)) : Type 0 where
    trivial : Mem (e ∷ []) seen
    known : (x : List ℕ) → Mem x seen → Known x
    distinct : Distinct same_list seen
    queued : (x : List ℕ) → Mem x queue → Mem x seen
    settled : (x : List ℕ) → Mem x seen → Mem x queue ⊎ (Busy x ⊎ Settles seen x n)

  -- after the elements below k were tried with h
  record Tried (h : List ℕ) (k : ℕ) (p q : Progress) : Type 0 where
    exploring : Exploring (λ x. x ≡ h) q.seen q.queue
    settles : Settles q.seen h k
    grown : length p.seen ≤ length q.seen
    balance : length q.seen + length p.queue ≡ length p.seen + length q.queue

  -- what a known list and an element generate is known
  generated-known : (h : List ℕ) (g : ℕ) → g < n → Known h → Known (generated_subgroup n ◌·◌ e h g)
  generated-known h g l (s, S, q) = (generated_set s g S l, (generated-extension s g S l).subgroup, rw q (generated-list s g S l))

  -- one more settled element
  settles-next : (seen : List (List ℕ)) (h : List ℕ) (k : ℕ) → Settles seen h k → ((Mem k h → ⊥) → Mem (generated_subgroup n ◌·◌ e h k) seen)
      → Settles seen h (suc k)
  settles-next seen h k S last g l new = elim (ℕ_discrete g k) [
    | yes q ↦ rw q (last (rw q at new))
    | no q ↦ S g (omega arith) new
  ]

  -- the next element is tried
  tried-next : (h : List ℕ) (k : ℕ) (p q : Progress) → k < n → Known h → Tried h k p q → Tried h (suc k) p (tried n ◌·◌ e h k q)
  unfolding tried
  tried-next h k p q l K A = by (has eqb k h) (has same_list (generated_subgroup n ◌·◌ e h k) q.seen) refl refl
    where
      by : (a b : Bool) → has eqb k h ≡ a → has same_list (generated_subgroup n ◌·◌ e h k) q.seen ≡ b
          → Tried h (suc k) p
          (cond (a || b) q (record { seen = generated_subgroup n ◌·◌ e h k ∷ q.seen; queue = q.queue ++ generated_subgroup n ◌·◌ e h k ∷ [] }))
      by true b a-is b-is = record {
        exploring = A.exploring;
        settles = settles-next q.seen h k A.settles (λ none. absurd (none (has→Mem eqb eqb-decides (rw a-is tt))));
        grown = A.grown;
        balance = A.balance;
      }
      by false true a-is b-is = record {
        exploring = A.exploring;
        settles = settles-next q.seen h k A.settles (λ none. has-it b-is);
        grown = A.grown;
        balance = A.balance;
      }
      by false false a-is b-is = record {
        exploring = record {
          trivial = there A.exploring.trivial;
          known = λ x m. elim (cases m) [ inl w ↦ rw w (generated-known h k l K) | inr i ↦ A.exploring.known x i ];
          distinct = cons (λ t. true≢false (sym (T_true t) ∙ b-is)) A.exploring.distinct;
          queued = λ x m. elim (append_cases q.queue {t = generated_subgroup n ◌·◌ e h k ∷ []} m) [
            | inl i ↦ there (A.exploring.queued x i)
            | inr i ↦ elim (cases i) [ inl w ↦ here w | inr j ↦ absurd (not-nil j) ]
          ];
          settled = λ x m. elim (cases m) [
            | inl w ↦ inl (mem-right q.queue (here w))
            | inr i ↦ elim (A.exploring.settled x i) [
              | inl j ↦ inl (mem-left (generated_subgroup n ◌·◌ e h k ∷ []) j)
              | inr j ↦ inr (elim j [ inl w ↦ inl w | inr S ↦ inr (λ g m none. there (S g m none)) ])
            ]
          ];
        };
        settles = settles-next (generated_subgroup n ◌·◌ e h k ∷ q.seen) h k (λ g m none. there (A.settles g m none)) (λ none. here refl);
        grown = let c = A.grown in omega arith;
        balance = let c = A.balance in let d = length-append q.queue (generated_subgroup n ◌·◌ e h k ∷ []) in omega arith;
      }

  -- all elements are tried
  tried-below : (h : List ℕ) (p : Progress) → Known h → Exploring (λ x. x ≡ h) p.seen p.queue
      → (k : ℕ) → k ≤ n → Tried h k p (tried_below n ◌·◌ e h k p)
  unfolding tried_below
  tried-below h p K E zero l = record { exploring = E; settles = λ g m. absurd (omega arith); grown = omega arith; balance = omega arith }
  tried-below h p K E (suc k) l = tried-next h k p (tried_below n ◌·◌ e h k p) (omega arith) K (tried-below h p K E k (omega arith))

  -- none is busy
  abbrev Idle : List ℕ → Type 0
  Idle x = ⊥

  -- the first of the queue is taken: it is busy
  take-first : {seen queue : List (List ℕ)} (h : List ℕ) → Exploring Idle seen (h ∷ queue) → Exploring (λ x. x ≡ h) seen queue
  take-first h E = record {
    trivial = E.trivial;
    known = E.known;
    distinct = E.distinct;
    queued = λ x m. E.queued x (there m);
    settled = λ x m. elim (E.settled x m) [
      | inl i ↦ elim (cases i) [ inl w ↦ inr (inl w) | inr j ↦ inl j ]
      | inr i ↦ inr (elim i [ inl none ↦ absurd none | inr S ↦ inr S ])
    ];
  }

  -- all elements were tried with it: it is done with
  all-tried : {h : List ℕ} {p q : Progress} → Tried h n p q → Exploring Idle q.seen q.queue
  all-tried {h} {q = q} A = record {
    trivial = A.exploring.trivial;
    known = A.exploring.known;
    distinct = A.exploring.distinct;
    queued = A.exploring.queued;
    settled = λ x m. elim (A.exploring.settled x m) [
      | inl i ↦ inl i
      | inr i ↦ inr (elim i [ inl w ↦ inr (rw w A.settles) | inr S ↦ inr S ])
    ];
  }

  -- one turn of the loop
  turn : {seen queue : List (List ℕ)} (h : List ℕ) → Exploring Idle seen (h ∷ queue)
      → Tried h n (record { seen = seen; queue = queue }) (tried_below n ◌·◌ e h n (record { seen = seen; queue = queue }))
  turn {seen} {queue} h E = tried-below h (record { seen = seen; queue = queue }) (E.known h (E.queued h (here refl))) (take-first h E) n (omega arith)

  -- what holds when the queue is empty
  search-explored : {seen queue all : List (List ℕ)} → Searched n ◌·◌ e seen queue all → Exploring Idle seen queue → Exploring Idle all []
  search-explored ended E = E
  search-explored (taken h rest) E = search-explored rest (all-tried (turn h E))

  -- at first the trivial subgroup waits
  explore-start : Exploring Idle ((e ∷ []) ∷ []) ((e ∷ []) ∷ [])
  unfolding has
  explore-start = record {
    trivial = here refl;
    known = λ x m. elim (cases m) [ inl w ↦ (2 ^ e, (trivial-subgroup n ◌·◌ e G), w ∙ sym trivial-list) | inr j ↦ absurd (not-nil j) ];
    distinct = cons (λ t. t) nil;
    queued = λ x m. m;
    settled = λ x m. inl m;
  }

  -- ---- what was seen in the end

  -- the sets of the lists
  abbrev numbers : List (List ℕ) → List ℕ
  numbers all = map (set_from n) all

  module _ (all : List (List ℕ)) (E : Exploring Idle all []) where
    -- a set among them is a subgroup, and its list was seen
    number-seen : (s : ℕ) → Mem s (numbers all) → Subgroup n ◌·◌ e s × Mem (members n s) all
    number-seen s m =
        let (x, k, p) = mem-of-map (set_from n) all m in
        let (t, S, q) = E.known x k in
        let same : s ≡ t = sym p ∙ ap (set_from n) q ∙ set_back n t S.small in
        rw same (S, rw q at k)

    -- a subgroup whose list was seen is among them
    seen-number : (s : ℕ) → s < 2 ^ n → Mem (members n s) all → Mem s (numbers all)
    seen-number s small m = mem-cast (sym (set_back n s small)) (mem-map (set_from n) m)

    -- nothing is left to do
    settled-all : (h g : ℕ) → Mem h (numbers all) → g < n → Settled n ◌·◌ e false (numbers all) h g
    settled-all h g m l =
        let (H, seen) = number-seen h m in
        elim (passes-or-fails (member h g)) [
          | inl i ↦ inl (h, own-extension n ◌·◌ e false G h g H i, listed-itself n ◌·◌ e false G (numbers all) h H.small m)
          | inr o ↦ elim (E.settled (members n h) seen) [
            | inl q ↦ absurd (not-nil q)
            | inr r ↦ elim r [
              | inl none ↦ absurd none
              | inr S ↦
                  let X = generated-extension h g H l in
                  let k = generated_set h g H l in
                  let new = S g l (λ j. true≢false (sym (listed-member n h g j).1 ∙ o)) in
                  let small = X.subgroup.small in
                  inl (k, X, listed-itself n ◌·◌ e false G (numbers all) k small (seen-number k small (rw (generated-list h g H l) at new)))
            ]
          ]
        ]

    -- so it is complete
    seen-complete : Complete n ◌·◌ e false G (numbers all)
    seen-complete = record {
      trivial = seen-number (2 ^ e) (trivial-subgroup n ◌·◌ e G).small (rw trivial-list E.trivial);
      chosen = λ s m. record { subgroup = (number-seen s m).0; first = λ q. absurd (true≢false (sym q)) };
      settled = settled-all;
    }

    -- every subgroup was seen
    every-seen : (s : ℕ) → Subgroup n ◌·◌ e s → Mem (members n s) all
    every-seen s S =
        (number-seen s (complete-listed n ◌·◌ e false G (numbers all) seen-complete s S (record { subgroup = S; first = λ q. absurd (true≢false (sym q)) }))).1

  -- ---- the list

  -- our list, as lists of elements
  abbrev pub subgroup_lists : List (List ℕ)
  subgroup_lists = map (members n) (subgroups_of n ◌·◌ e)

  -- the lists of subgroups are in it
  lists-hold : (s : ℕ) → Subgroup n ◌·◌ e s → Mem (members n s) subgroup_lists
  lists-hold s S = mem-map (members n) (subgroup-listed n ◌·◌ e G s S)

  -- and no others
  lists-known : (x : List ℕ) → Mem x subgroup_lists → Known x
  lists-known x m = let (s, k, p) = mem-of-map (members n) (subgroups_of n ◌·◌ e) m in (s, only-subgroups n ◌·◌ e G s k, sym p)

  -- it is in the order of the Rust's sort
  lists-sorted : Sorted LongerOrSmaller subgroup_lists
  lists-sorted = members-in-order n (λ s m. (only-subgroups n ◌·◌ e G s m).small) (subgroups-sorted n ◌·◌ e G)

  -- The list that the Rust's search gives is our list of subgroups.
  pub subgroups-as-enumerated : (l : List (List ℕ)) → EnumeratedSubgroups n ◌·◌ e l → l ≡ map (members n) (subgroups_of n ◌·◌ e)
  subgroups-as-enumerated l L = unique LongerOrSmaller longer-strict L.sorted lists-sorted
      (λ x m. let (s, S, q) = E.known x ((L.same x).0 m) in rw q (lists-hold s S))
      (λ x m. let (s, S, q) = lists-known x m in (L.same x).1 (rw q (every-seen L.seen E s S)))
    where
      E : Exploring Idle L.seen []
      E = search-explored L.searched explore-start

  -- ---- the search ends

  -- no more is seen than there are subgroups
  seen-bounded : {seen queue : List (List ℕ)} → Exploring Idle seen queue → length seen ≤ length (subgroups_of n ◌·◌ e)
  seen-bounded {seen} E =
      let q = length-map (subgroups_of n ◌·◌ e) (members n) in
      let h = pigeonhole same_list (equality-equivalence same_list lists-decided) E.distinct subgroup_lists
      (λ x m. let (s, S, p) = E.known x m in Mem→has same_list (equality-equivalence same_list lists-decided) (rw p (lists-hold s S))) in
      omega arith

  -- each turn takes one from the queue, and puts one there only where one more is seen
  search-from : (fuel : ℕ) (seen queue : List (List ℕ)) → Exploring Idle seen queue → 2 * length (subgroups_of n ◌·◌ e) + length queue ≤ fuel + 2 * length seen
      → (all : List (List ℕ)) × Searched n ◌·◌ e seen queue all
  search-from zero seen [] E enough = (seen, ended)
  search-from zero seen (h ∷ queue) E enough = absurd (let b = seen-bounded E in omega arith)
  search-from (suc fuel) seen [] E enough = (seen, ended)
  search-from (suc fuel) seen (h ∷ queue) E enough =
      let A = turn h E in
      let b = seen-bounded (all-tried A) in
      let c = A.balance in
      let d = A.grown in
      let next = tried_below n ◌·◌ e h n (record { seen = seen; queue = queue }) in
      let (all, S) = search-from fuel next.seen next.queue (all-tried A) (omega arith) in
      (all, taken h S)

  -- So there is such a list: the search ends.
  pub search-ends : EnumeratedSubgroups n ◌·◌ e (map (members n) (subgroups_of n ◌·◌ e))
  search-ends =
      let (all, S) = search-from (2 * length (subgroups_of n ◌·◌ e) + 1) ((e ∷ []) ∷ []) ((e ∷ []) ∷ []) explore-start (omega arith) in
      let E = search-explored S explore-start in
      record {
        seen = all;
        searched = S;
        sorted = lists-sorted;
        same = λ x. (
          λ m. let (s, T, q) = lists-known x m in rw q (every-seen all E s T),
          λ m. let (s, T, q) = E.known x m in rw q (lists-hold s T),
        );
      }
