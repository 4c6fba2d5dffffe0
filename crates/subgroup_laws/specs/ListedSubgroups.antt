-- What the lists of subgroups and of class representatives hold, in the words of group theory (R7.4 and R7.6).
use Rattle.std.specs.Prelude.{◌≡◌, refl, ◌↔◌, Bool, cond, ℕ, zero, suc, ◌^◌, ◌<◌, ◌≤◌}
use Rattle.std.proofs.Common.{sym, ap, ◌∙◌, subst, inl, inr, true≢false, arith}
use Rattle.std.proofs.Math.Bool.{true, false}
use mathlib.Core.List.{List, Memᴰ as Mem}
use Rattle.std.proofs.Math.Decide.{ℕ_discrete}
use Rattle.laws.specs.ListOrder.{Precedes, precedes-total, earlier}
use Rattle.laws.specs.Sets.{member, member_below, set_of, set_of-below, member-set_of}
use Rattle.laws.specs.Sorted.{Sorted}
use Rattle.subgroup_laws.specs.Conjugation.{conjugate-below, conjugate-set-back, inverse-below}
use Rattle.subgroup_laws.specs.Groups.{Group, inverse_of}
use Rattle.subgroup_laws.specs.ListedSets.{listed-passes, passes-listed, listed-sorted, listed-unique}
use Rattle.subgroup_laws.specs.Lists.{chosen, Chosen, chosen-passes, passes-chosen, subgroups_of, representatives_of}
use Rattle.subgroup_laws.specs.Representatives.{FirstConjugate, first-start, first_next, first-end, first-represented}
use Rattle.subgroup_laws.specs.SubgroupLaws.{closed-set}
use Rattle.subgroup_laws.specs.Subsets.{Subgroup, conjugate_of}

module _ (n : ℕ) (◌·◌ : ℕ → ℕ → ℕ) (e : ℕ) where
  infixl 70 ◌·◌
  -- a choice of elements that is a subgroup
  pub record SubgroupChoice (choice : ℕ → Bool) : Type 0 where
    pub holds-identity : choice e ≡ true
    pub holds-products : (x y : ℕ) → x < n → y < n → choice x ≡ true → choice y ≡ true → choice (x · y) ≡ true
    pub holds-inverses : (x y : ℕ) → x < n → y < n → y · x ≡ e → choice x ≡ true → choice y ≡ true

  module _ (G : Group n ◌·◌ e) where
    -- a number that has exactly the members of such a choice is a subgroup
    choice-subgroup : (choice : ℕ → Bool) → SubgroupChoice choice → Subgroup n ◌·◌ e (set_of n choice)
    choice-subgroup choice C = closed-set n ◌·◌ e G (set_of n choice) (set_of-below n choice)
        (member-set_of n choice e G.identity-below ∙ C.holds-identity)
        (λ x y i j.
        let h = member_below n (set_of n choice) x (set_of-below n choice) i in
        let k = member_below n (set_of n choice) y (set_of-below n choice) j in
        member-set_of n choice (x · y) (G.product-below x y h k)
        ∙ C.holds-products x y h k (sym (member-set_of n choice x h) ∙ i) (sym (member-set_of n choice y k) ∙ j))

    -- every subset of the elements that is a subgroup is listed: a listed number has exactly its members
    pub every-subgroup : (choice : ℕ → Bool) → SubgroupChoice choice
        → (s : ℕ) × Mem s (subgroups_of n ◌·◌ e) × ((i : ℕ) → i < n → member s i ≡ choice i)
    unfolding subgroups_of
    every-subgroup choice C = (
      set_of n choice,
      passes-listed n (chosen n ◌·◌ e false) (set_of n choice) (set_of-below n choice)
          (passes-chosen n ◌·◌ e G false (set_of n choice) (record { subgroup = choice-subgroup choice C; first = λ q. absurd (true≢false (sym q)) })),
      λ i h. member-set_of n choice i h,
    )

    -- nothing else is listed
    pub only-subgroups : (s : ℕ) → Mem s (subgroups_of n ◌·◌ e) → Subgroup n ◌·◌ e s
    unfolding subgroups_of
    only-subgroups s m = (chosen-passes n ◌·◌ e G false s (listed-passes n (chosen n ◌·◌ e false) s m).1).subgroup

    -- each subgroup is listed
    pub subgroup-listed : (s : ℕ) → Subgroup n ◌·◌ e s → Mem s (subgroups_of n ◌·◌ e)
    unfolding subgroups_of
    subgroup-listed s S = passes-listed n (chosen n ◌·◌ e false) s S.small
        (passes-chosen n ◌·◌ e G false s (record { subgroup = S; first = λ q. absurd (true≢false (sym q)) }))

    -- the list is in list order, so nothing is listed twice
    pub subgroups-sorted : Sorted Precedes (subgroups_of n ◌·◌ e)
    unfolding subgroups_of
    subgroups-sorted = listed-sorted n (chosen n ◌·◌ e false)

    -- no other list of the subgroups is in list order
    pub subgroups-unique : (l : List ℕ) → Sorted Precedes l → ((s : ℕ) → Mem s l → Subgroup n ◌·◌ e s) → ((s : ℕ) → Subgroup n ◌·◌ e s → Mem s l)
        → l ≡ subgroups_of n ◌·◌ e
    unfolding subgroups_of
    subgroups-unique l sorted sound complete = listed-unique n (chosen n ◌·◌ e false) l sorted
        (λ s m. let S = sound s m in (S.small, passes-chosen n ◌·◌ e G false s (record { subgroup = S; first = λ q. absurd (true≢false (sym q)) })))
        (λ s h t. complete s (chosen-passes n ◌·◌ e G false s t).subgroup)

    -- ---- classes

    -- a representative is a subgroup of which no conjugate stands before it, and each such subgroup is one
    pub representatives : (s : ℕ) → Mem s (representatives_of n ◌·◌ e) ↔ Chosen n ◌·◌ e true s
    unfolding representatives_of
    representatives s = (
      λ m. chosen-passes n ◌·◌ e G true s (listed-passes n (chosen n ◌·◌ e true) s m).1,
      λ C. passes-listed n (chosen n ◌·◌ e true) s C.subgroup.small (passes-chosen n ◌·◌ e G true s C),
    )

    -- the classes follow the list order
    pub representatives-sorted : Sorted Precedes (representatives_of n ◌·◌ e)
    unfolding representatives_of
    representatives-sorted = listed-sorted n (chosen n ◌·◌ e true)

    -- the first of the conjugates by the elements below g
    first_of : (s : ℕ) → s < 2 ^ n → (g : ℕ) → (r : ℕ) × (g ≤ n → FirstConjugate n ◌·◌ e s (λ j. g ≤ j) r)
    first_of s small zero = (s, λ h. first-start n ◌·◌ e G s (λ j. 0 ≤ j) small (λ j h. inl (omega arith)))
    first_of s small (suc g) =
        let (r, F) = first_of s small g in (
          cond (earlier n (conjugate_of n ◌·◌ e s g) r) (conjugate_of n ◌·◌ e s g) r,
          λ h. first_next n ◌·◌ e G n s g r (λ j. g ≤ j) (λ j. suc g ≤ j) (conjugate-below n ◌·◌ e G s g) (omega arith)
              (λ j l. elim (ℕ_discrete j g) [ yes q ↦ inr (ap (conjugate_of n ◌·◌ e s) q) | no q ↦ inl (omega arith) ]) (F (omega arith)),
        )

    -- each subgroup is conjugate to a representative
    pub some-representative : (s : ℕ) → Subgroup n ◌·◌ e s → (r g : ℕ) × Mem r (representatives_of n ◌·◌ e) × (g < n) × (r ≡ conjugate_of n ◌·◌ e s g)
    some-representative s S =
        let (r, first) = first_of s S.small n in
        let F = first-end n ◌·◌ e G s r (λ j. n ≤ j) (λ j h l. omega arith) (first (omega arith)) in
        let R = first-represented n ◌·◌ e G s r true refl S F in
        (r, F.conjugator, (representatives r).1 R.chosen, F.below, F.conjugate)

    -- and to no other: conjugate representatives are equal
    pub one-representative : (r s g : ℕ) → Mem r (representatives_of n ◌·◌ e) → Mem s (representatives_of n ◌·◌ e) → g < n → r ≡ conjugate_of n ◌·◌ e s g → r
        ≡ s
    one-representative r s g m k h q = elim (ℕ_discrete r s) [
      | yes p ↦ p
      | no p ↦ elim (precedes-total r s p) [
        | inl before ↦ absurd (((representatives s).0 k).first refl g h (subst (λ (z : ℕ). Precedes z s) q before))
        | inr before ↦ absurd (((representatives r).0 m).first refl (inverse_of n ◌·◌ e g) (inverse-below n ◌·◌ e G g h)
            (subst (λ (z : ℕ). Precedes z r)
            (sym (conjugate-set-back n ◌·◌ e G s g ((representatives s).0 k).subgroup.small h)
            ∙ ap (λ (z : ℕ). conjugate_of n ◌·◌ e z (inverse_of n ◌·◌ e g)) (sym q)) before))
      ]
    ]
