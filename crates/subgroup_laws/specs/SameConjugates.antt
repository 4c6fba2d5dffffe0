-- The Rust's conjugates, normalizers and permutations are ours. Its sorted list of g⁻¹ x g is the list of the conjugate set's elements; so its
-- tests of equal lists are tests of equal sets, and its map of witnesses holds each conjugate with the smallest element that brings it about.
use Rattle.std.specs.Prelude.{◌≡◌, ◌⊎◌, ◌↔◌, ◌≢◌, Bool, eqb, length, get_or}
use Rattle.std.proofs.Math.Path.{refl, sym, ap, ap₂, subst}
use Rattle.std.proofs.Common.{◌∙◌, true≢false, lt_irrefl, eqb→eq, eq-eqb, ne_eqb}
use Rattle.std.proofs.Math.Logic.{inl, inr, ∥∥₁_elim}
use mathlib.Core.HLevel.{⊥_prop}
use Rattle.std.proofs.Math.Bool.{true, false, cond}
use mathlib.Core.List.Memᴰ.{cases_cons as cases}
use mathlib.Core.List.Memᴰ.{cast as mem-cast}
use mathlib.Core.List.Memᴰ.{head as here}
use mathlib.Core.List.Memᴰ.{map as mem-map}
use mathlib.Core.List.Memᴰ.{not-nil}
use mathlib.Core.List.Memᴰ.{of_map as mem-of-map}
use mathlib.Core.List.Memᴰ.{tail as there}
use mathlib.Core.List
use mathlib.Core.List.Pairwise
use mathlib.Core.List.{List, [], ◌∷◌, ◌++◌, map, map-append, Memᴰ as Mem, Nodup, Lexᴰ}
use Prim.Native.Nat.{ℕ, zero, suc, ◌^◌, ◌<◌, ◌≤◌}
use Rattle.std.proofs.Math.Decide.{ℕ_discrete, dec_lt}
use native.Mathlib.Omega.{arith}
use Rattle.std.specs.Int.Count.{ones, ones_in}
use Rattle.std.proofs.Math.Dec.{eqb_refl, ltb}
use Rattle.laws.specs.Distinct.{has, Distinct, nil, cons, eqb-equivalence, Mem→has, distinct-map}
use Rattle.laws.specs.ListOrder.{Precedes, precedes-compare}
use Rattle.laws.specs.Sets.{member, members, members-unique, members-sorted, members-position, position-below, listed-member, member-listed, ones-members}
use Rattle.laws.specs.Sorted.{StrictOrder, Sorted, sorted-nil, sorted-cons, unique, one_place, key-strict, key-decides, key-total, sort, sort-member, member-sort, sort_sorted}
use Rattle.laws.specs.Truth.{T_true, same_truth}
use Rattle.subgroup_laws.specs.Conjugates.{others_of, conjugates_of, conjugator_of, conjugators_of}
use Rattle.subgroup_laws.specs.Conjugation.{conjugate-below, conjugate-element-below, conjugate-holds, conjugate-source, conjugate-back, conjugate-ones, conjugate-set-by-identity}
use Rattle.subgroup_laws.specs.Groups.{Group, inverse_of}
use Rattle.subgroup_laws.specs.Images.{sorted-distinct}
use Rattle.subgroup_laws.specs.ListedConjugates.{listed-conjugate, conjugate-listed, others-sorted, others-other, smallest-conjugator, normalizer-member}
use Rattle.subgroup_laws.specs.Permutations.{position_of, permutation_of}
use Rattle.subgroup_laws.specs.RustProcedures.{same_list, index_in, Witnessed, keys, KeyBefore, conjugate_list, witnesses, ClassConjugates, normalizer_indices, normalizer_permutations}
use Rattle.subgroup_laws.specs.SameSubgroups.{lists-decided, had, has-it, members-injective, lexicographic-transitive}
use Rattle.subgroup_laws.specs.Subsets.{Subgroup, conjugate_element, conjugate_of, normalizer_of}

-- ---- lists

-- a list of numbers without repeats
distinct-nodup : {l : List ℕ} → Distinct eqb l → Nodup l
distinct-nodup nil = Pairwise.nil
distinct-nodup (cons {x} {l} new d) =
    Pairwise.cons (λ y m q. ∥∥₁_elim m ⊥_prop (λ k. new (Mem→has eqb eqb-equivalence (mem-cast q k)))) (distinct-nodup d)

-- a map by what is equal on the members
map-equal : {A B : Type 0} (f g : A → B) (l : List A) → ((x : A) → Mem x l → f x ≡ g x) → map f l ≡ map g l
map-equal f g [] same = refl
map-equal f g (x ∷ l) same = ap₂ (λ y m. y ∷ m) (same x (here refl)) (map-equal f g l (λ y m. same y (there m)))

-- one map after the other
map_both : {A B C : Type 0} (f : B → C) (g : A → B) (l : List A) → map f (map g l) ≡ map (λ x. f (g x)) l
map_both f g [] = refl
map_both f g (x ∷ l) = ap (λ m. f (g x) ∷ m) (map_both f g l)

-- the index of a member is a place that holds it
index-found : (l : List ℕ) (x : ℕ) → Mem x l → (index_in l x < length l) × (get_or l (index_in l x) 0 ≡ x)
unfolding index_in
index-found [] x m = absurd (not-nil m)
index-found (y ∷ l) x m = elim (ℕ_discrete x y) [
  | yes q ↦ rw (eq-eqb x y q) (omega arith, sym q)
  | no q ↦ rw (ne_eqb x y q) (let (a, b) = index-found l x (elim (cases m) [ inl p ↦ absurd (q p) | inr k ↦ k ]) in (omega arith, b))
]

module _ (n : ℕ) (◌·◌ : ℕ → ℕ → ℕ) (e : ℕ) (G : Group n ◌·◌ e) where
  infixl 70 ◌·◌
  -- ---- conjugates

  -- the conjugated elements in turn
  abbrev images : ℕ → ℕ → List ℕ
  images s g = map (λ x. conjugate_element n ◌·◌ e x g) (members n s)

  -- none is there twice
  images-distinct : (s g : ℕ) → g < n → Distinct eqb (images s g)
  images-distinct s g l = distinct-map eqb eqb-equivalence (λ x. conjugate_element n ◌·◌ e x g)
      (λ x y m k t.
      let a = (listed-member n s x m).0 in
      let b = (listed-member n s y k).0 in
      let same : x ≡ y =
      sym (conjugate-back n ◌·◌ e G x g a l) ∙ ap (λ (z : ℕ). conjugate_element n ◌·◌ e z (inverse_of n ◌·◌ e g)) (eqb→eq _ _ t)
      ∙ conjugate-back n ◌·◌ e G y g b l in
      rw same (eqb_refl y))
      (sorted-distinct (λ (x y : ℕ). x < y) (key-strict (λ (x : ℕ). x)) (members-sorted n s))

  -- all are elements
  images-below : (s g : ℕ) → g < n → (y : ℕ) → Mem y (images s g) → y < n
  images-below s g l y m =
      let (x, k, p) = mem-of-map (λ x. conjugate_element n ◌·◌ e x g) (members n s) m in
      rw (← p) (conjugate-element-below n ◌·◌ e G x g (listed-member n s x k).0 l)

  -- The Rust's conjugate of the list of a set is the list of our conjugate.
  pub conjugate-as-sorted : (s g : ℕ) → s < 2 ^ n → g < n → conjugate_list n ◌·◌ e (members n s) g ≡ members n (conjugate_of n ◌·◌ e s g)
  unfolding conjugate_list conjugate_element
  conjugate-as-sorted s g small l = members-unique n (conjugate_of n ◌·◌ e s g) (sort ltb (images s g))
      (sort_sorted (λ (x y : ℕ). x < y) (λ (x : ℕ). x < n) ltb (key-decides (λ (x : ℕ). x) (λ (x : ℕ). x < n)) (key-strict (λ (x : ℕ). x))
      (key-total (λ (x : ℕ). x) (λ (x : ℕ). x < n) (λ x y h k q. q)) (images s g) (images-below s g l) (distinct-nodup (images-distinct s g l)))
      (λ i. (
        λ m.
            let k = sort-member ltb (images s g) m in
            let (x, j, p) = mem-of-map (λ x. conjugate_element n ◌·◌ e x g) (members n s) k in
            let held = conjugate-holds n ◌·◌ e G s g x small l (listed-member n s x j).1 in
            (images-below s g l i k, subst (λ (y : ℕ). member (conjugate_of n ◌·◌ e s g) y ≡ true) p held),
        λ p.
            let (x, h, j, q) = conjugate-source n ◌·◌ e G s g i p.1 in
            member-sort ltb (images s g) (mem-cast (sym q) (mem-map (λ x. conjugate_element n ◌·◌ e x g) (member-listed n s x h j))),
      ))

  module _ (h : ℕ) (H : Subgroup n ◌·◌ e h) where
    -- ---- normalizers

    -- equal lists are equal sets
    keeps-test : (g : ℕ) → g < n → same_list (conjugate_list n ◌·◌ e (members n h) g) (members n h) ≡ member (normalizer_of n ◌·◌ e h) g
    keeps-test g l = same_truth _ _
        (λ p. (normalizer-member n ◌·◌ e h G H g l).1 (members-injective n _ h (conjugate-below n ◌·◌ e G h g) H.small
        (sym (conjugate-as-sorted h g H.small l) ∙ lists-decided.exact _ _ (rw p tt))))
        (λ m. T_true (rw (conjugate-as-sorted h g H.small l, (normalizer-member n ◌·◌ e h G H g l).0 m) (lists-decided.reflexive (members n h))))

    -- the elements below k
    normalizer-below-k : (k : ℕ) → k ≤ n → normalizer_indices n ◌·◌ e (members n h) k ≡ members k (normalizer_of n ◌·◌ e h)
    unfolding normalizer_indices members
    normalizer-below-k zero l = refl
    normalizer-below-k (suc k) l =
        ap₂ (λ (m : List ℕ) (b : Bool). m ++ cond b (k ∷ []) []) (normalizer-below-k k (omega arith)) (keeps-test k (omega arith))

    -- The indices that the Rust's loop gives are the members of our normalizer.
    pub normalizer-as-looped : normalizer_indices n ◌·◌ e (members n h) n ≡ members n (normalizer_of n ◌·◌ e h)
    normalizer-as-looped = normalizer-below-k n (omega arith)

    -- ---- permutations

    -- the index of a member is the number of lower ones
    index-position : (y : ℕ) → y < n → member h y ≡ true → index_in (members n h) y ≡ ones_in y h
    index-position y l m =
        let (a, b) = index-found (members n h) y (member-listed n h y l m) in
        one_place (λ (x z : ℕ). x < z) (key-strict (λ (x : ℕ). x)) (members-sorted n h) 0 _ _ a (position-below n h y l m)
        (b ∙ sym (members-position n h y 0 l m))

    -- the indices by an element of the normalizer are our permutation
    indices-permutation : (g : ℕ) → g < n → member (normalizer_of n ◌·◌ e h) g ≡ true
        → map (λ x. index_in (members n h) (inverse_of n ◌·◌ e g · x · g)) (members n h) ≡ permutation_of n ◌·◌ e h g
    unfolding permutation_of position_of conjugate_element
    indices-permutation g l m = map-equal _ _ (members n h)
        (λ x k.
        let (low, i) = listed-member n h x k in
        let held = conjugate-holds n ◌·◌ e G h g x H.small l i in
        index-position (conjugate_element n ◌·◌ e x g) (conjugate-element-below n ◌·◌ e G x g low l)
        (subst (λ (s : ℕ). member s (conjugate_element n ◌·◌ e x g) ≡ true) ((normalizer-member n ◌·◌ e h G H g l).0 m) held))

    -- those by the elements below k
    permutations-below : (k : ℕ) → k ≤ n → normalizer_permutations n ◌·◌ e (members n h) k
        ≡ map (permutation_of n ◌·◌ e h) (members k (normalizer_of n ◌·◌ e h))
    unfolding normalizer_permutations members
    permutations-below zero l = refl
    permutations-below (suc k) l =
        ap (λ (m : List (List ℕ)). m ++ added) (permutations-below k (omega arith))
        ∙ ap (λ (m : List (List ℕ)). map (permutation_of n ◌·◌ e h) (members k (normalizer_of n ◌·◌ e h)) ++ m) (by (member (normalizer_of n ◌·◌ e h) k) refl)
        ∙ sym (map-append (permutation_of n ◌·◌ e h) (members k (normalizer_of n ◌·◌ e h)) (cond (member (normalizer_of n ◌·◌ e h) k) (k ∷ []) []))
      where
        added : List (List ℕ)
        added = cond (same_list (conjugate_list n ◌·◌ e (members n h) k) (members n h))
            (map (λ x. index_in (members n h) (inverse_of n ◌·◌ e k · x · k)) (members n h) ∷ [])
            []

        by : (b : Bool) → member (normalizer_of n ◌·◌ e h) k ≡ b → added ≡ map (permutation_of n ◌·◌ e h) (cond b (k ∷ []) [])
        by true q = rw (keeps-test k (omega arith), q) (ap (λ (p : List ℕ). p ∷ []) (indices-permutation k (omega arith) q))
        by false q = rw (keeps-test k (omega arith), q) refl

    -- The permutations that the Rust's loop gives are ours, in the order of the normalizer's members.
    pub permutations-as-looped : normalizer_permutations n ◌·◌ e (members n h) n ≡ map (permutation_of n ◌·◌ e h) (members n (normalizer_of n ◌·◌ e h))
    permutations-as-looped = permutations-below n (omega arith)

    -- ---- the conjugates of a class

    -- the list of the subgroup
    abbrev own : List ℕ
    own = members n h

    -- the subgroup with the identity is always a witness
    witness-first : (k : ℕ) → Mem (record { subgroup = own; conjugator = e }) (witnesses n ◌·◌ e own k)
    unfolding witnesses
    witness-first zero = here refl
    witness-first (suc k) = by (has same_list (conjugate_list n ◌·◌ e own k) (keys (witnesses n ◌·◌ e own k))) (witness-first k)
      where
        by : (b : Bool) → Mem (record { subgroup = own; conjugator = e }) (witnesses n ◌·◌ e own k) → Mem (record { subgroup = own; conjugator = e })
            (cond b (witnesses n ◌·◌ e own k) (record { subgroup = conjugate_list n ◌·◌ e own k; conjugator = k } ∷ witnesses n ◌·◌ e own k))
        by true m = m
        by false m = there m

    -- any other conjugate is witnessed by the first element that brings it about
    record Other (k : ℕ) (w : Witnessed) : Type 0 where
      below : w.conjugator < k
      made : w.subgroup ≡ conjugate_list n ◌·◌ e own w.conjugator
      other : w.subgroup ≢ own
      first : (j : ℕ) → j < w.conjugator → conjugate_list n ◌·◌ e own j ≢ w.subgroup

    -- each conjugate by an element below k has a witness
    witness-each : (k g : ℕ) → g < k → Mem (conjugate_list n ◌·◌ e own g) (keys (witnesses n ◌·◌ e own k))
    unfolding witnesses
    witness-each zero g l = absurd (omega arith)
    witness-each (suc k) g l = by (has same_list (conjugate_list n ◌·◌ e own k) (keys (witnesses n ◌·◌ e own k))) (λ m. witness-each k g m) refl
      where
        by : (b : Bool) → (g < k → Mem (conjugate_list n ◌·◌ e own g) (keys (witnesses n ◌·◌ e own k)))
            → has same_list (conjugate_list n ◌·◌ e own k) (keys (witnesses n ◌·◌ e own k)) ≡ b → Mem (conjugate_list n ◌·◌ e own g)
            (keys (cond b (witnesses n ◌·◌ e own k) (record { subgroup = conjugate_list n ◌·◌ e own k; conjugator = k } ∷ witnesses n ◌·◌ e own k)))
        by true before q = elim (ℕ_discrete g k) [ yes p ↦ rw p (has-it q) | no p ↦ before (omega arith) ]
        by false before q = elim (ℕ_discrete g k) [ yes p ↦ here (ap (conjugate_list n ◌·◌ e own) p) | no p ↦ there (before (omega arith)) ]

    -- a witness is the first one, or one of another conjugate
    witness-source : (k : ℕ) (w : Witnessed) → Mem w (witnesses n ◌·◌ e own k) → (w ≡ record { subgroup = own; conjugator = e }) ⊎ Other k w
    unfolding witnesses
    witness-source zero w m = elim (cases m) [ inl q ↦ inl q | inr j ↦ absurd (not-nil j) ]
    witness-source (suc k) w m = by (has same_list (conjugate_list n ◌·◌ e own k) (keys (witnesses n ◌·◌ e own k))) (λ i. witness-source k w i) refl m
      where
        later : (w ≡ record { subgroup = own; conjugator = e }) ⊎ Other k w → (w ≡ record { subgroup = own; conjugator = e }) ⊎ Other (suc k) w
        later (inl q) = inl q
        later (inr O) = inr (record { below = let l = O.below in omega arith; made = O.made; other = O.other; first = O.first })

        by : (b : Bool) → (Mem w (witnesses n ◌·◌ e own k) → (w ≡ record { subgroup = own; conjugator = e }) ⊎ Other k w)
            → has same_list (conjugate_list n ◌·◌ e own k) (keys (witnesses n ◌·◌ e own k)) ≡ b
            → Mem w (cond b (witnesses n ◌·◌ e own k) (record { subgroup = conjugate_list n ◌·◌ e own k; conjugator = k } ∷ witnesses n ◌·◌ e own k))
            → (w ≡ record { subgroup = own; conjugator = e }) ⊎ Other (suc k) w
        by true before q i = later (before i)
        by false before q i = elim (cases i) [
          | inl p ↦ inr (rw p (record {
            below = omega arith;
            made = refl;
            other = λ same. true≢false (sym (had (mem-cast same (mem-map (λ (w : Witnessed). w.subgroup) (witness-first k)))) ∙ q);
            first = λ j l same. true≢false (sym (had (mem-cast (sym same) (witness-each k j l))) ∙ q);
          }))
          | inr j ↦ later (before j)
        ]

    -- what has a witness are the lists of the conjugates
    pub witnessed-conjugates : (s : ℕ) → s < 2 ^ n
        → Mem (members n s) (keys (witnesses n ◌·◌ e (members n h) n)) ↔ ((g : ℕ) × (g < n) × (conjugate_of n ◌·◌ e h g ≡ s))
    witnessed-conjugates s small = (
      λ m.
          let (w, k, p) = mem-of-map (λ (w : Witnessed). w.subgroup) (witnesses n ◌·◌ e own n) m in
          elim (witness-source n w k) [
            | inl a ↦ (
              e,
              G.identity-below,
              conjugate-set-by-identity n ◌·◌ e G h H.small ∙ members-injective n h s H.small small (sym (ap (λ (w : Witnessed). w.subgroup) a) ∙ p),
            )
            | inr O ↦ (
              w.conjugator,
              O.below,
              members-injective n _ s (conjugate-below n ◌·◌ e G h w.conjugator) small
                  (sym (conjugate-as-sorted h w.conjugator H.small O.below) ∙ sym O.made ∙ p),
            )
          ],
      λ c. mem-cast (sym (conjugate-as-sorted h c.0 H.small c.1 ∙ ap (members n) c.2)) (witness-each n c.0 c.1),
    )

    -- a conjugate with our conjugator
    abbrev ours : ℕ → Witnessed
    ours s = record { subgroup = members n s; conjugator = conjugator_of n ◌·◌ e h s }

    -- our conjugates with their conjugators
    abbrev our_conjugates : List Witnessed
    our_conjugates = record { subgroup = own; conjugator = e } ∷ map ours (others_of n ◌·◌ e h)

    -- the set of another conjugate
    other-set : (w : Witnessed) → Other n w → (s : ℕ) × (w ≡ ours s) × Mem s (others_of n ◌·◌ e h)
    unfolding conjugates_of
    other-set w O =
        let g = w.conjugator in
        let l = O.below in
        let s = conjugate_of n ◌·◌ e h g in
        let listed : w.subgroup ≡ members n s = O.made ∙ conjugate-as-sorted h g H.small l in
        let (low, q, least) = smallest-conjugator n ◌·◌ e h G H s g l refl in
        let c = conjugator_of n ◌·◌ e h s in
        let same : g ≡ c = elim (dec_lt g c) [
          | yes a ↦ absurd (least g a refl)
          | no a ↦ elim (dec_lt c g) [
            | yes b ↦ absurd (O.first c b (conjugate-as-sorted h c H.small low ∙ ap (members n) q ∙ sym listed))
            | no b ↦ omega arith
          ]
        ] in (
          s,
          rw (← listed, ← same) refl,
          elim (cases (conjugate-listed n ◌·◌ e h G H g l)) [
            | inl p ↦ absurd (O.other (listed ∙ ap (members n) p))
            | inr m ↦ m
          ],
        )

    -- each witness is ours
    witness-ours : (w : Witnessed) → Mem w (witnesses n ◌·◌ e own n) → Mem w our_conjugates
    witness-ours w m = elim (witness-source n w m) [
      | inl q ↦ here q
      | inr O ↦ let (s, q, k) = other-set w O in there (mem-cast q (mem-map ours k))
    ]

    -- and each of ours is a witness
    ours-witness : (w : Witnessed) → Mem w our_conjugates → Mem w (witnesses n ◌·◌ e own n)
    unfolding conjugates_of
    ours-witness w m = elim (cases m) [
      | inl q ↦ mem-cast q (witness-first n)
      | inr k ↦
          let (s, j, p) = mem-of-map ours (others_of n ◌·◌ e h) k in
          let (g, l, q) = listed-conjugate n ◌·◌ e h G H s (there j) in
          let small : s < 2 ^ n = rw (← q) (conjugate-below n ◌·◌ e G h g) in
          let (v, i, r) = mem-of-map (λ (w : Witnessed). w.subgroup) (witnesses n ◌·◌ e own n) (witness-each n g l) in
          let listed : v.subgroup ≡ members n s = r ∙ conjugate-as-sorted h g H.small l ∙ ap (members n) q in
          elim (witness-source n v i) [
            | inl a ↦ absurd (others-other n ◌·◌ e h G H s j (members-injective n s h small H.small (sym listed ∙ ap (λ (w : Witnessed). w.subgroup) a)))
            | inr O ↦
                let (t, b, u) = other-set v O in
                let (f, x, y) = listed-conjugate n ◌·◌ e h G H t (there u) in
                let wide : t < 2 ^ n = rw (← y) (conjugate-below n ◌·◌ e G h f) in
                let same : t ≡ s = members-injective n t s wide small (sym (ap (λ (w : Witnessed). w.subgroup) b) ∙ listed) in
                mem-cast (sym p ∙ ap ours (sym same) ∙ sym b) i
          ]
    ]

    -- the key of the Rust's sort is a strict order
    key-order : StrictOrder (KeyBefore own)
    key-order = record { irreflexive = none; transitive = follow }
      where
        none : (v : Witnessed) → KeyBefore own v v → ⊥
        none v (inl (p, q)) = q p
        none v (inr (p, d)) = List.Lexᴰ.irrefl lt_irrefl v.subgroup d

        follow : (v w u : Witnessed) → KeyBefore own v w → KeyBefore own w u → KeyBefore own v u
        follow v w u (inl (p, q)) (inl (r, t)) = absurd (q r)
        follow v w u (inl (p, q)) (inr (r, d)) = inl (p, λ m. q (r.1 m))
        follow v w u (inr (p, d)) (inl (r, t)) = inl (p.1 r, t)
        follow v w u (inr (p, d)) (inr (r, f)) = inr ((λ m. r.0 (p.0 m), λ m. p.1 (r.1 m)), lexicographic-transitive _ _ _ d f)

    -- another conjugate: as long a list as h, and not that of h
    others-known : (s : ℕ) → Mem s (others_of n ◌·◌ e h) → (s < 2 ^ n) × (length (members n s) ≡ length own) × (members n s ≢ own)
    unfolding conjugates_of
    others-known s m =
        let (g, l, q) = listed-conjugate n ◌·◌ e h G H s (there m) in
        let small : s < 2 ^ n = rw (← q) (conjugate-below n ◌·◌ e G h g) in
        let many = ap ones (sym q) ∙ conjugate-ones n ◌·◌ e G h g H.small l in
        let long = sym (ones-members n s small) ∙ many ∙ ones-members n h H.small in
        (small, long, λ p. others-other n ◌·◌ e h G H s m (members-injective n s h small H.small p))

    -- the others are in the order of the key
    others-in-order : {l : List ℕ} → ((s : ℕ) → Mem s l → Mem s (others_of n ◌·◌ e h)) → Sorted Precedes l → Sorted (KeyBefore own) (map ours l)
    others-in-order inside sorted-nil = sorted-nil
    others-in-order inside (sorted-cons {x} {l} first rest) = sorted-cons {x = ours x}
        (λ w m.
        let (t, k, p) = mem-of-map ours l m in
        let (a, b, c) = others-known x (inside x (here refl)) in
        let (d, f, g) = others-known t (inside t (there k)) in
        let less : Lexᴰ ◌<◌ (members n x) (members n t) =
        elim ((precedes-compare n x t a d).0 (first t k)) [ inl longer ↦ absurd (omega arith) | inr both ↦ both.1 ] in
        subst (λ (w : Witnessed). KeyBefore own (ours x) w) p (inr ((λ q. absurd (c q), λ q. absurd (g q)), less)))
        (others-in-order (λ s m. inside s (there m)) rest)

    -- so are our conjugates
    ours-sorted : Sorted (KeyBefore own) our_conjugates
    ours-sorted = sorted-cons
        (λ w m.
        let (t, k, p) = mem-of-map ours (others_of n ◌·◌ e h) m in
        subst (λ (w : Witnessed). KeyBefore own (record { subgroup = own; conjugator = e }) w) p (inl (refl, (others-known t k).2)))
        (others-in-order (λ s m. m) (others-sorted n ◌·◌ e h G H))

    -- The Rust's conjugates of a class exist, and
    pub conjugates-exist : ClassConjugates n ◌·◌ e own our_conjugates
    conjugates-exist = record { sorted = ours-sorted; same = λ w. (ours-witness w, witness-ours w) }

    -- they are our conjugates, and their witnesses are our conjugators.
    pub conjugates-as-sorted : (l : List Witnessed) → ClassConjugates n ◌·◌ e (members n h) l
        → (keys l ≡ map (members n) (conjugates_of n ◌·◌ e h)) × (map (λ (w : Witnessed). w.conjugator) l ≡ conjugators_of n ◌·◌ e h)
    unfolding conjugates_of conjugators_of
    conjugates-as-sorted l L =
        let same : l ≡ our_conjugates =
        unique (KeyBefore own) key-order L.sorted ours-sorted (λ w m. witness-ours w ((L.same w).0 m)) (λ w m. (L.same w).1 (ours-witness w m)) in (
          ap keys same ∙ ap (λ (m : List (List ℕ)). own ∷ m) (map_both (λ (w : Witnessed). w.subgroup) ours (others_of n ◌·◌ e h)),
          ap (map (λ (w : Witnessed). w.conjugator)) same ∙ ap (λ (m : List ℕ). e ∷ m) (map_both (λ (w : Witnessed). w.conjugator) ours (others_of n ◌·◌ e h)),
        )
