-- The loop that makes the image of a set: the members are taken out one by one, and their values are put in.
use Rattle.std.specs.Prelude.{◌≡◌, ◌⊎◌, true, ℕ, ◌^◌, ◌<◌, eqb}
use Rattle.std.proofs.Common.{sym, ap, ◌∙◌, inl, inr, true≢false, pow_pos, eq-eqb, eqb-true}
use Rattle.std.specs.Int.Bits.{bit_or}
use Rattle.std.proofs.lemmas.Nat.{or_lt}
use Rattle.std.proofs.Math.Pow.{pow-lt}
use Rattle.laws.specs.Sets.{member, member-empty, with-member, Subset}
use Rattle.laws.specs.Truth.{or-either, or-holds-left, or-holds-right}
use Rattle.subgroup_laws.specs.Images.{image-unique}
use Rattle.subgroup_laws.specs.Removal.{Without, without-old, without-cases}
use Rattle.subgroup_laws.specs.Subsets.{image_of}

module _ (n : ℕ) (f : ℕ → ℕ) (s : ℕ) where
  -- the members of `left` are still to come, and `found` has the values of the others
  pub record Imaging (left found : ℕ) : Type 0 where
    pub small : found < 2 ^ n
    pub inside : Subset left s
    pub into : (x : ℕ) → member s x ≡ true → (member left x ≡ true) ⊎ (member found (f x) ≡ true)
    pub from : (y : ℕ) → member found y ≡ true → (x : ℕ) × (member s x ≡ true) × (f x ≡ y)

  -- all members are to come
  pub imaging-start : Imaging s 0
  imaging-start = record {
    small = pow_pos n;
    inside = λ x i. i;
    into = λ x i. inl i;
    from = λ y i. absurd (true≢false (sym i ∙ member-empty y));
  }

  -- a member is taken out and its value put in
  pub imaging-step : (left found x rest : ℕ) → Imaging left found → member left x ≡ true → Without left x rest → f x < n → Imaging rest (bit_or found (2 ^ f x))
  imaging-step left found x rest I i W h = record {
    small = or_lt n found (2 ^ f x) I.small (pow-lt h);
    inside = λ z j. I.inside z (without-old left x rest W z j);
    into = λ z j. elim (I.into z j) [
      | inl k ↦ elim (without-cases left x rest W z k) [
        | inl l ↦ inl l
        | inr q ↦ inr (with-member found (f x) (f z) ∙ or-holds-right (member found (f z)) _ (eq-eqb (f x) (f z) (ap f q)))
      ]
      | inr k ↦ inr (with-member found (f x) (f z) ∙ or-holds-left _ _ k)
    ];
    from = λ y j. elim (or-either (member found y) (eqb (f x) y) (sym (with-member found (f x) y) ∙ j)) [
      | inl k ↦ I.from y k
      | inr q ↦ (x, I.inside x i, eqb-true _ _ q)
    ];
  }

  -- no member is left
  pub imaging-end : s < 2 ^ n → (left found : ℕ) → left ≡ 0 → Imaging left found → found ≡ image_of n f s
  imaging-end h left found e I = image-unique n f s found I.small h
      (λ x i. elim (I.into x i) [
        | inl k ↦ absurd (true≢false (sym k ∙ ap (λ (l : ℕ). member l x) e ∙ member-empty x))
        | inr k ↦ k
      ])
      I.from
