-- What the list of conjugates, their conjugators and a normalizer are, in the words of group theory (R7.5 and R7.7).
use Rattle.std.specs.Prelude.{◌≡◌, refl, ◌↔◌, true, ℕ, ◌^◌, ◌<◌}
use Rattle.std.proofs.Math.Path.{sym}
use Rattle.std.proofs.Common.{ap, ◌∙◌}
use Rattle.std.proofs.Math.Logic.{inl, inr}
use mathlib.Core.List.Memᴰ.{cases_cons as cases}
use mathlib.Core.List.Memᴰ.{head as here}
use mathlib.Core.List.Memᴰ.{tail as there}
use mathlib.Core.List.{Memᴰ as Mem}
use Rattle.std.proofs.Math.Decide.{ℕ_discrete}
use Rattle.std.proofs.Math.Dec.{eqb}
use borrow.Author.Tests.{eq-eqb, eqb-true, eqb-false}
use Rattle.laws.specs.Distinct.{Distinct, cons, has→Mem, eqb-decides}
use Rattle.laws.specs.ListOrder.{Precedes, precedes-strict}
use Rattle.laws.specs.Sets.{member, member_below, set_of-below, member-set_of}
use Rattle.laws.specs.Sorted.{Sorted}
use Rattle.subgroup_laws.specs.Bounded.{first-least}
use Rattle.subgroup_laws.specs.ConjugateLoop.{other-conjugate, conjugate-other}
use Rattle.subgroup_laws.specs.Conjugates.{is_other, others_of, conjugates_of, conjugator_of}
use Rattle.subgroup_laws.specs.Conjugation.{conjugate-below, conjugate-set-by-identity, conjugate-set-twice}
use Rattle.subgroup_laws.specs.Groups.{Group}
use Rattle.subgroup_laws.specs.Images.{sorted-distinct}
use Rattle.subgroup_laws.specs.ListedSets.{listed-passes, passes-listed, listed-sorted}
use Rattle.subgroup_laws.specs.SubgroupLaws.{closed-set}
use Rattle.subgroup_laws.specs.Subsets.{Subgroup, conjugate_of, normalizer_of}

module _ (n : ℕ) (◌·◌ : ℕ → ℕ → ℕ) (e h : ℕ) (G : Group n ◌·◌ e) (H : Subgroup n ◌·◌ e h) where
  infixl 70 ◌·◌
  -- what is listed is a conjugate
  pub listed-conjugate : (s : ℕ) → Mem s (conjugates_of n ◌·◌ e h) → (g : ℕ) × (g < n) × (conjugate_of n ◌·◌ e h g ≡ s)
  unfolding conjugates_of others_of
  listed-conjugate s m = elim (cases m) [
    | inl q ↦ (e, G.identity-below, conjugate-set-by-identity n ◌·◌ e G h H.small ∙ sym q)
    | inr k ↦ let (g, l, q, d) = other-conjugate n ◌·◌ e h G H s (listed-passes n (is_other n ◌·◌ e h) s k).1 in (g, l, q)
  ]

  -- and each conjugate is listed
  pub conjugate-listed : (g : ℕ) → g < n → Mem (conjugate_of n ◌·◌ e h g) (conjugates_of n ◌·◌ e h)
  unfolding conjugates_of others_of
  conjugate-listed g l = elim (ℕ_discrete (conjugate_of n ◌·◌ e h g) h) [
    | yes q ↦ here q
    | no q ↦ there (passes-listed n (is_other n ◌·◌ e h) (conjugate_of n ◌·◌ e h g) (conjugate-below n ◌·◌ e G h g) (conjugate-other n ◌·◌ e h G H g l q))
  ]

  -- the others stand in list order, and the subgroup itself is not among them
  pub others-sorted : Sorted Precedes (others_of n ◌·◌ e h)
  unfolding others_of
  others-sorted = listed-sorted n (is_other n ◌·◌ e h)

  -- the subgroup is not among them
  pub others-other : (s : ℕ) → Mem s (others_of n ◌·◌ e h) → s ≡ h → ⊥
  unfolding others_of
  others-other s m = let (g, l, q, d) = other-conjugate n ◌·◌ e h G H s (listed-passes n (is_other n ◌·◌ e h) s m).1 in d

  -- no conjugate is listed twice
  pub conjugates-distinct : Distinct eqb (conjugates_of n ◌·◌ e h)
  unfolding conjugates_of
  conjugates-distinct = cons (λ t. others-other h (has→Mem eqb eqb-decides t) refl) (sorted-distinct Precedes precedes-strict others-sorted)

  -- the conjugator of a conjugate conjugates to it, and no smaller element does
  pub smallest-conjugator : (s g : ℕ) → g < n → conjugate_of n ◌·◌ e h g ≡ s
      → (conjugator_of n ◌·◌ e h s < n) × (conjugate_of n ◌·◌ e h (conjugator_of n ◌·◌ e h s) ≡ s)
      × ((j : ℕ) → j < conjugator_of n ◌·◌ e h s → conjugate_of n ◌·◌ e h j ≡ s → ⊥)
  unfolding conjugator_of
  smallest-conjugator s g l q =
      let F = first-least (λ g. eqb (conjugate_of n ◌·◌ e h g) s) n g l (eq-eqb _ _ q) in
      (F.below, eqb-true _ _ F.passes, λ j k. eqb-false _ _ (F.before j k))

  -- the normalizer holds the elements that conjugate the subgroup to itself
  pub normalizer-member : (g : ℕ) → g < n → (member (normalizer_of n ◌·◌ e h) g ≡ true) ↔ (conjugate_of n ◌·◌ e h g ≡ h)
  unfolding normalizer_of
  normalizer-member g l = (
    λ m. eqb-true _ _ (sym (member-set_of n (λ g. eqb (conjugate_of n ◌·◌ e h g) h) g l) ∙ m),
    λ q. member-set_of n (λ g. eqb (conjugate_of n ◌·◌ e h g) h) g l ∙ eq-eqb _ _ q,
  )

  -- it is a set of elements
  pub normalizer-below : normalizer_of n ◌·◌ e h < 2 ^ n
  unfolding normalizer_of
  normalizer-below = set_of-below n _

  -- and a subgroup
  pub normalizer-subgroup : Subgroup n ◌·◌ e (normalizer_of n ◌·◌ e h)
  normalizer-subgroup = closed-set n ◌·◌ e G (normalizer_of n ◌·◌ e h) normalizer-below
      ((normalizer-member e G.identity-below).1 (conjugate-set-by-identity n ◌·◌ e G h H.small))
      (λ x y i j.
      let k = member_below n (normalizer_of n ◌·◌ e h) x normalizer-below i in
      let l = member_below n (normalizer_of n ◌·◌ e h) y normalizer-below j in
      (normalizer-member (x · y) (G.product-below x y k l)).1
      (sym (conjugate-set-twice n ◌·◌ e G h x y H.small k l) ∙ ap (λ (s : ℕ). conjugate_of n ◌·◌ e s y) ((normalizer-member x k).0 i)
      ∙ (normalizer-member y l).0 j))
