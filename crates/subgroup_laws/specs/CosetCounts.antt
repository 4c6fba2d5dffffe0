-- Orders and counts that fit, by right cosets: a subgroup's cosets have as many members as it has, and two of them meet only if they are equal, so its
-- order divides the group's; and the elements that conjugate a subgroup to one set are a coset of its normalizer, so its conjugates times
-- the normalizer's order is the group's.
use Rattle.std.specs.Prelude.{◌≡◌, refl, Bool, true, List, length}
use Rattle.std.proofs.Math.Path.{sym, ap}
use Rattle.std.proofs.Common.{◌∙◌, subst, arith}
use Prim.Native.Nat.{ℕ, ◌*◌, ◌<◌}
use Rattle.std.specs.Int.Count.{ones}
use Rattle.std.proofs.Math.Dec.{eqb}
use borrow.Author.Tests.{eq-eqb, eqb-true}
use Rattle.laws.specs.Counting.{fibre, fibres-equal}
use Rattle.laws.specs.ListOrder.{Precedes, precedes-strict}
use Rattle.laws.specs.Sets.{member, member_below, subset-antisymmetric, set_of-below, member-set_of}
use Rattle.subgroup_laws.specs.Bounded.{some, passes-some, some-passes}
use Rattle.subgroup_laws.specs.Conjugates.{conjugates_of}
use Rattle.subgroup_laws.specs.Conjugation.{inverse-below, inverse_left, inverse-right, conjugate-set-twice, conjugate-set-back}
use Rattle.subgroup_laws.specs.Cosets.{coset_of, coset-below, coset-source, coset-holds, coset-new}
use Rattle.subgroup_laws.specs.Groups.{Group, inverse_of}
use Rattle.subgroup_laws.specs.Images.{image_holds, image-source, image-ones, sorted-distinct}
use Rattle.subgroup_laws.specs.ListedSets.{listed, listed-passes, passes-listed, listed-sorted}
use Rattle.subgroup_laws.specs.ListedConjugates.{listed-conjugate, conjugate-listed, conjugates-distinct, normalizer-member, normalizer-subgroup}
use Rattle.subgroup_laws.specs.Subsets.{Subgroup, image_of, conjugate_of, normalizer_of}

module _ (n : ℕ) (◌·◌ : ℕ → ℕ → ℕ) (e : ℕ) (G : Group n ◌·◌ e) where
  infixl 70 ◌·◌
  -- the inverse
  abbrev inv : ℕ → ℕ
  inv g = inverse_of n ◌·◌ e g

  -- x p⁻¹ p is x
  undo : (x p : ℕ) → x < n → p < n → x · inv p · p ≡ x
  undo x p h k = G.associative x (inv p) p h (inverse-below n ◌·◌ e G p k) k ∙ ap (λ w. x · w) (inverse_left n ◌·◌ e G p k) ∙ G.right_identity x h

  -- nor does p p⁻¹ change it
  redo : (x p : ℕ) → x < n → p < n → x · p · inv p ≡ x
  redo x p h k = G.associative x p (inv p) h k (inverse-below n ◌·◌ e G p k) ∙ ap (λ w. x · w) (inverse-right n ◌·◌ e G p k) ∙ G.right_identity x h

  module _ (s : ℕ) (S : Subgroup n ◌·◌ e s) where
    -- a coset has as many members as the subgroup
    pub coset-ones : (p : ℕ) → p < n → ones (coset_of n ◌·◌ e s p) ≡ ones s
    coset-ones p l =
        let a = image-ones n (λ x. e · x · p) s S.small in
        let b = image-ones n (λ y. y · inv p) (coset_of n ◌·◌ e s p) (coset-below n ◌·◌ e G s S p) in
        let c = ap ones back in
        omega arith
      where
        back : image_of n (λ y. y · inv p) (coset_of n ◌·◌ e s p) ≡ s
        back = subset-antisymmetric _ _
            (λ z i.
            let (y, k, j, q) = image-source n (λ y. y · inv p) (coset_of n ◌·◌ e s p) z i in
            let (b, m, u, v) = coset-source n ◌·◌ e G s S p l y j in
            rw (← q, v, redo b p m l) u)
            (λ z i.
            let k = member_below n s z S.small i in
            let zp = G.product-below z p k l in
            rw (redo z p k l) at (image_holds n (λ y. y · inv p) (coset_of n ◌·◌ e s p) (z · p) zp (rw (redo z p k l) k) (coset-holds n ◌·◌ e G s S p l z i)))

    -- x is in the coset of p if x p⁻¹ is in the subgroup
    in-coset : (p x : ℕ) → p < n → x < n → member s (x · inv p) ≡ true → member (coset_of n ◌·◌ e s p) x ≡ true
    in-coset p x l h i = rw (undo x p h l) at (coset-holds n ◌·◌ e G s S p l (x · inv p) i)

    -- the cosets, each once
    unfoldable pub is_coset : ℕ → Bool
    is_coset c = some (λ p. eqb (coset_of n ◌·◌ e s p) c) n

    unfoldable pub cosets_of : List ℕ
    cosets_of = listed n is_coset

    -- a member of a coset has that coset
    coset-equal : (p x : ℕ) → p < n → x < n → member (coset_of n ◌·◌ e s p) x ≡ true → coset_of n ◌·◌ e s x ≡ coset_of n ◌·◌ e s p
    coset-equal p x l h i =
        let (b, k, j, q) = coset-source n ◌·◌ e G s S p l x i in
        let c = inv b in
        let cb = inverse-below n ◌·◌ e G b k in
        let ci = S.holds-inverses b c cb (inverse_left n ◌·◌ e G b k) j in
        let back : c · x ≡ p = ap (λ w. c · w) q ∙ sym (G.associative c b p cb k l) ∙ ap (λ w. w · p) (inverse_left n ◌·◌ e G b k) ∙ G.left_identity p l in
        subset-antisymmetric _ _
        (λ z m.
        let (a, u, v, w) = coset-source n ◌·◌ e G s S x h z m in
        subst (λ (y : ℕ). member (coset_of n ◌·◌ e s p) y ≡ true) (G.associative a b p u k l ∙ ap (λ y. a · y) (sym q) ∙ sym w)
        (coset-holds n ◌·◌ e G s S p l (a · b) (S.holds-products a b v j)))
        (λ z m.
        let (a, u, v, w) = coset-source n ◌·◌ e G s S p l z m in
        subst (λ (y : ℕ). member (coset_of n ◌·◌ e s x) y ≡ true) (G.associative a c x u cb h ∙ ap (λ y. a · y) back ∙ sym w)
        (coset-holds n ◌·◌ e G s S x h (a · c) (S.holds-products a c v ci)))

    -- two cosets that share a member are equal
    pub cosets-apart : (p q x : ℕ) → p < n → q < n → x < n → member (coset_of n ◌·◌ e s p) x ≡ true → member (coset_of n ◌·◌ e s q) x ≡ true
        → coset_of n ◌·◌ e s p ≡ coset_of n ◌·◌ e s q
    cosets-apart p q x k l h i j = sym (coset-equal p x k h i) ∙ coset-equal q x l h j

    -- as many cosets as there are, times the subgroup's order, is the group's order
    pub cosets-times-order : length cosets_of * ones s ≡ n
    unfolding cosets_of is_coset fibre
    cosets-times-order = fibres-equal (λ p. coset_of n ◌·◌ e s p) (sorted-distinct Precedes precedes-strict (listed-sorted n is_coset)) n (ones s)
        (λ p l. passes-listed n is_coset (coset_of n ◌·◌ e s p) (coset-below n ◌·◌ e G s S p)
        (passes-some (λ q. eqb (coset_of n ◌·◌ e s q) (coset_of n ◌·◌ e s p)) n p l (eq-eqb (coset_of n ◌·◌ e s p) _ refl)))
        (λ y m. let (p, l, q) = some-passes _ n (listed-passes n is_coset y m).1 in ap ones (same p l y (eqb-true _ _ q)) ∙ coset-ones p l)
      where
        same : (p : ℕ) → p < n → (y : ℕ) → coset_of n ◌·◌ e s p ≡ y → fibre n (λ p. coset_of n ◌·◌ e s p) y ≡ coset_of n ◌·◌ e s p
        same p l y q = subset-antisymmetric _ _
            (λ x i.
            let k = member_below n _ x (set_of-below n (λ p. eqb (coset_of n ◌·◌ e s p) y)) i in
            let v : coset_of n ◌·◌ e s x ≡ y = eqb-true _ _ (sym (member-set_of n (λ p. eqb (coset_of n ◌·◌ e s p) y) x k) ∙ i) in
            rw (q ∙ sym v) (coset-new n ◌·◌ e G s S x k))
            (λ x i.
            let k = member_below n _ x (coset-below n ◌·◌ e G s S p) i in
            member-set_of n (λ p. eqb (coset_of n ◌·◌ e s p) y) x k ∙ eq-eqb _ _ (coset-equal p x l k i ∙ q))

  -- each subgroup's order divides the group's
  pub order-divides : (s : ℕ) → Subgroup n ◌·◌ e s → (k : ℕ) × (k * ones s ≡ n)
  order-divides s S = (length (cosets_of s S), cosets-times-order s S)

  -- a subgroup's conjugates times the order of its normalizer is the group's order
  pub conjugates-times-normalizer : (h : ℕ) → Subgroup n ◌·◌ e h → length (conjugates_of n ◌·◌ e h) * ones (normalizer_of n ◌·◌ e h) ≡ n
  unfolding fibre
  conjugates-times-normalizer h H = fibres-equal (λ g. conjugate_of n ◌·◌ e h g) (conjugates-distinct n ◌·◌ e h G H) n (ones N)
      (λ g l. conjugate-listed n ◌·◌ e h G H g l)
      (λ y m. let (p, l, q) = listed-conjugate n ◌·◌ e h G H y m in ap ones (same p l y q) ∙ coset-ones N NS p l)
    where
      N : ℕ
      N = normalizer_of n ◌·◌ e h

      NS : Subgroup n ◌·◌ e (normalizer_of n ◌·◌ e h)
      NS = normalizer-subgroup n ◌·◌ e h G H

      same : (p : ℕ) → p < n → (y : ℕ) → conjugate_of n ◌·◌ e h p ≡ y → fibre n (λ g. conjugate_of n ◌·◌ e h g) y ≡ coset_of n ◌·◌ e (normalizer_of n ◌·◌ e h) p
      same p l y q = subset-antisymmetric _ _
          (λ x i.
          let k = member_below n _ x (set_of-below n (λ g. eqb (conjugate_of n ◌·◌ e h g) y)) i in
          let v : conjugate_of n ◌·◌ e h x ≡ y = eqb-true _ _ (sym (member-set_of n (λ g. eqb (conjugate_of n ◌·◌ e h g) y) x k) ∙ i) in
          let j = inverse-below n ◌·◌ e G p l in
          in-coset (normalizer_of n ◌·◌ e h) (normalizer-subgroup n ◌·◌ e h G H) p x l k
          ((normalizer-member n ◌·◌ e h G H (x · inv p) (G.product-below x (inv p) k j)).1
          (sym (conjugate-set-twice n ◌·◌ e G h x (inv p) H.small k j) ∙ ap (λ (z : ℕ). conjugate_of n ◌·◌ e z (inv p)) (v ∙ sym q)
          ∙ conjugate-set-back n ◌·◌ e G h p H.small l)))
          (λ x i.
          let (b, k, j, v) = coset-source n ◌·◌ e G (normalizer_of n ◌·◌ e h) (normalizer-subgroup n ◌·◌ e h G H) p l x i in
          let low : x < n = rw v (G.product-below b p k l) in
          let conj : conjugate_of n ◌·◌ e h x ≡ y = ap (conjugate_of n ◌·◌ e h) v ∙ sym (conjugate-set-twice n ◌·◌ e G h b p H.small k l)
          ∙ ap (λ (z : ℕ). conjugate_of n ◌·◌ e z p) ((normalizer-member n ◌·◌ e h G H b k).0 j) ∙ q in
          member-set_of n (λ g. eqb (conjugate_of n ◌·◌ e h g) y) x low ∙ eq-eqb _ _ conj)
