-- The first of a set's conjugates, and the set that a list of classes takes for a subgroup.
use Rattle.std.specs.Prelude.{◌≡◌, refl, ◌⊎◌, Bool, true, false, cond, ℕ, ◌^◌, ◌<◌, ◌≤◌}
use Rattle.std.proofs.Common.{sym, ap, ◌∙◌, subst, inl, inr, true≢false, arith, lt_of_lt_of_le, pow_mono}
use Rattle.std.specs.Int.Count.{ones}
use Rattle.laws.specs.ListOrder.{Precedes, precedes-irreflexive, precedes-transitive, earlier, earlier-precedes, precedes-earlier}
use Rattle.laws.specs.Sets.{member, member_below, member-empty}
use Rattle.subgroup_laws.specs.Conjugation.{conjugate-below, conjugate-ones, conjugate-set-back, conjugate-set-by-identity, conjugate-set-twice, conjugate-subgroup, inverse-below}
use Rattle.subgroup_laws.specs.Cosets.{coset_of, coset-new, conjugate-by-member, conjugate-by-coset}
use Rattle.subgroup_laws.specs.Groups.{Group, inverse_of}
use Rattle.subgroup_laws.specs.Lists.{Chosen}
use Rattle.subgroup_laws.specs.Removal.{outside_of, outside-cases, outside-less, rest_of, rest_below, rest-cases}
use Rattle.subgroup_laws.specs.Subsets.{Subgroup, conjugate_of}

module _ (n : ℕ) (◌·◌ : ℕ → ℕ → ℕ) (e : ℕ) where
  infixl 70 ◌·◌
  -- r is a conjugate of s, and of the conjugates by the elements that are not left none stands before it
  pub record FirstConjugate (s : ℕ) (Left : ℕ → Type 0) (r : ℕ) : Type 0 where
    pub conjugator : ℕ
    pub below : conjugator < n
    pub conjugate : r ≡ conjugate_of n ◌·◌ e s conjugator
    pub first : (j : ℕ) → j < n → Left j ⊎ (¬ Precedes (conjugate_of n ◌·◌ e s j) r)

  -- no element is left
  abbrev pub FirstOfAll : ℕ → ℕ → Type 0
  FirstOfAll s r = FirstConjugate s (λ j. ⊥) r

  -- the same while the members of `left` are still to be tried
  pub record Trying (s left r : ℕ) : Type 0 where
    pub small : left < 2 ^ n
    pub so_far : FirstConjugate s (λ j. member left j ≡ true) r

  -- r stands for s: it is chosen, and conjugate to s, or s itself where no classes are asked for
  pub record Represented (classes : Bool) (s r : ℕ) : Type 0 where
    pub chosen : Chosen n ◌·◌ e classes r
    pub count : ones r ≡ ones s
    pub conjugator : ℕ
    pub below : conjugator < n
    pub conjugate : s ≡ conjugate_of n ◌·◌ e r conjugator
    pub same : classes ≡ false → conjugator ≡ e

  module _ (G : Group n ◌·◌ e) where
    -- a conjugate fits a word
    pub conjugate-word : n ≤ 48 → (s g : ℕ) → conjugate_of n ◌·◌ e s g < 2 ^ 64
    conjugate-word limit s g =
        let wide : n ≤ 64 = omega arith in
        lt_of_lt_of_le (conjugate-below n ◌·◌ e G s g) (pow_mono wide)

    -- the set itself, while all elements are left but those that conjugate it to itself
    pub first-start : (s : ℕ) (Left : ℕ → Type 0) → s < 2 ^ n → ((j : ℕ) → j < n → Left j ⊎ (conjugate_of n ◌·◌ e s j ≡ s)) → FirstConjugate s Left s
    first-start s Left small all = record {
      conjugator = e;
      below = G.identity-below;
      conjugate = sym (conjugate-set-by-identity n ◌·◌ e G s small);
      first = λ j h. elim (all j h) [ inl l ↦ inl l | inr q ↦ inr (rw q (precedes-irreflexive s)) ];
    }

    -- an element is tried, and with it those that conjugate to the same set
    pub first_next : (width s g r : ℕ) (Left Rest : ℕ → Type 0) → conjugate_of n ◌·◌ e s g < 2 ^ width → g < n
        → ((j : ℕ) → Left j → Rest j ⊎ (conjugate_of n ◌·◌ e s j ≡ conjugate_of n ◌·◌ e s g)) → FirstConjugate s Left r
        → FirstConjugate s Rest (cond (earlier width (conjugate_of n ◌·◌ e s g) r) (conjugate_of n ◌·◌ e s g) r)
    first_next width s g r Left Rest word l tried F = choose (earlier width c r) refl
      where
        c : ℕ
        c = conjugate_of n ◌·◌ e s g

        choose : (b : Bool) → earlier width c r ≡ b → FirstConjugate s Rest (cond b c r)
        choose true q = record {
          conjugator = g;
          below = l;
          conjugate = refl;
          first = λ j h. elim (F.first j h) [
            | inl k ↦ elim (tried j k) [ inl m ↦ inl m | inr m ↦ inr (rw m (precedes-irreflexive c)) ]
            | inr k ↦ inr (λ p. k (precedes-transitive _ c r p (earlier-precedes width c r q)))
          ];
        }
        choose false q = record {
          conjugator = F.conjugator;
          below = F.below;
          conjugate = F.conjugate;
          first = λ j h. elim (F.first j h) [
            | inl k ↦ elim (tried j k) [ inl m ↦ inl m | inr m ↦ inr (rw m (λ p. true≢false (sym (precedes-earlier width c r word p) ∙ q))) ]
            | inr k ↦ inr k
          ];
        }

    -- none is left
    pub first-end : (s r : ℕ) (Left : ℕ → Type 0) → ((j : ℕ) → j < n → Left j → ⊥) → FirstConjugate s Left r → FirstOfAll s r
    first-end s r Left none F = record {
      conjugator = F.conjugator;
      below = F.below;
      conjugate = F.conjugate;
      first = λ j h. elim (F.first j h) [ inl l ↦ absurd (none j h l) | inr k ↦ inr k ];
    }

    -- the loop over the cosets of a subgroup: of each one element is tried
    module _ (s : ℕ) (S : Subgroup n ◌·◌ e s) where
      -- the members of the subgroup conjugate it to itself
      pub trying_start : Trying s (rest_of n s) s
      trying_start = record {
        small = rest_below n s;
        so_far = first-start s (λ j. member (rest_of n s) j ≡ true) S.small (λ j h. elim (rest-cases n s j h) [
          | inl l ↦ inl l
          | inr m ↦ inr (conjugate-by-member n ◌·◌ e G s S j m)
        ]);
      }

      module _ (left r : ℕ) (T : Trying s left r) (g : ℕ) (m : member left g ≡ true) where
        -- g is an element
        pub trying-below : g < n
        trying-below = member_below n left g T.small m

        -- fewer are left
        pub trying-less : outside_of left (coset_of n ◌·◌ e s g) < left
        trying-less = outside-less left (coset_of n ◌·◌ e s g) g m (coset-new n ◌·◌ e G s S g trying-below)

        -- its coset is done with it
        pub trying-next : n ≤ 48
            → Trying s (outside_of left (coset_of n ◌·◌ e s g)) (cond (earlier 64 (conjugate_of n ◌·◌ e s g) r) (conjugate_of n ◌·◌ e s g) r)
        trying-next limit = record {
          small = omega (arith, trying-less, T.small);
          so_far = first_next 64 s g r (λ j. member left j ≡ true) (λ j. member (outside_of left (coset_of n ◌·◌ e s g)) j
              ≡ true) (conjugate-word limit s g) trying-below
              (λ j l. elim (outside-cases left (coset_of n ◌·◌ e s g) j l) [
                | inl k ↦ inl k
                | inr k ↦ inr (conjugate-by-coset n ◌·◌ e G s S g j trying-below k)
              ]) T.so_far;
        }

      -- none is left
      pub trying-end : (left r : ℕ) → left ≡ 0 → Trying s left r → FirstOfAll s r
      trying-end left r none T = first-end s r (λ j. member left j ≡ true)
          (λ j h m. true≢false (sym m ∙ ap (λ (z : ℕ). member z j) none ∙ member-empty j)) T.so_far

    -- the first conjugate of a subgroup is chosen
    pub first-represented : (s r : ℕ) (classes : Bool) → classes ≡ true → Subgroup n ◌·◌ e s → FirstOfAll s r → Represented classes s r
    first-represented s r classes c S F = record {
      chosen = record {
        subgroup = rw F.conjugate (conjugate-subgroup n ◌·◌ e G s x F.below S);
        first = λ q g h p. elim (F.first (x · g) (G.product-below x g F.below h)) [
          | inl none ↦ none
          | inr k ↦ k (subst (λ (z : ℕ). Precedes z r) (twice g h) p)
        ];
      };
      count = ap ones F.conjugate ∙ conjugate-ones n ◌·◌ e G s x S.small F.below;
      conjugator = inverse_of n ◌·◌ e x;
      below = inverse-below n ◌·◌ e G x F.below;
      conjugate = sym (ap (λ (z : ℕ). conjugate_of n ◌·◌ e z (inverse_of n ◌·◌ e x)) F.conjugate ∙ conjugate-set-back n ◌·◌ e G s x S.small F.below);
      same = λ q. absurd (true≢false (sym c ∙ q));
    }
      where
        x : ℕ
        x = F.conjugator

        twice : (g : ℕ) → g < n → conjugate_of n ◌·◌ e r g ≡ conjugate_of n ◌·◌ e s (x · g)
        twice g h = ap (λ (z : ℕ). conjugate_of n ◌·◌ e z g) F.conjugate ∙ conjugate-set-twice n ◌·◌ e G s x g S.small F.below h

    -- where no classes are asked for a subgroup stands for itself
    pub itself-represented : (s : ℕ) (classes : Bool) → classes ≡ false → Subgroup n ◌·◌ e s → Represented classes s s
    itself-represented s classes c S = record {
      chosen = record { subgroup = S; first = λ q. absurd (true≢false (sym q ∙ c)) };
      count = refl;
      conjugator = e;
      below = G.identity-below;
      conjugate = sym (conjugate-set-by-identity n ◌·◌ e G s S.small);
      same = λ q. refl;
    }
