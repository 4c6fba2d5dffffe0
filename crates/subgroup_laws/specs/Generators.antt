-- Generators of a product that has a two-sided identity, and Light's test: if each generator associates as the middle factor, all elements
-- do. So whether a product is associative is told by the generators.
use Rattle.std.specs.Prelude.{◌≡◌, refl, ◌⊎◌, ℕ, ◌^◌, ◌<◌}
use Rattle.std.proofs.Common.{sym, ◌∙◌, true≢false, arith, pow_pos, eq-eqb, eqb-true}
use Rattle.std.proofs.Math.Path.{ap}
use Rattle.std.proofs.Math.Logic.{inl, inr}
use Rattle.std.proofs.Math.Bool.{true}
use Rattle.std.specs.Int.Bits.{bit_or, or_lt}
use Rattle.std.proofs.Math.Pow.{pow-lt}
use Rattle.laws.specs.Sets.{member, member_below, member-empty, member-or, with-member, member-singleton, Subset, subset-le}
use Rattle.laws.specs.Truth.{or-either, or-holds-left, or-holds-right}
use Rattle.subgroup_laws.specs.GroupLaws.{TwoSidedIdentity, passes-associative}
use Rattle.subgroup_laws.specs.Groups.{associates}
use Rattle.subgroup_laws.specs.Images.{image-below, image-source}
use Rattle.subgroup_laws.specs.Removal.{Without, without-less, without-cases, outside_of, outside-cases, outside-old, rest_of, rest_below, rest-cases}
use Rattle.subgroup_laws.specs.Subsets.{image_of}

-- with a member and those of another set taken out, fewer are left
pub fewer-left : (left j rest wider : ℕ) → Without left j rest → outside_of rest wider < left
fewer-left left j rest wider W = omega (arith, without-less left j rest W, subset-le (outside_of rest wider) rest (outside-old rest wider))

module _ (n : ℕ) (◌·◌ : ℕ → ℕ → ℕ) (e : ℕ) where
  infixl 70 ◌·◌
  -- x is a product of members of s, in some order of multiplying
  pub data Generated (s : ℕ) : ℕ → Type 0 where
    unit : Generated s e
    taken : (x : ℕ) → member s x ≡ true → Generated s x
    times : (x y : ℕ) → x < n → y < n → Generated s x → Generated s y → Generated s (x · y)

  -- all elements are such products
  abbrev pub Generators : ℕ → Type 0
  Generators s = (x : ℕ) → x < n → Generated s x

  -- more generators generate no less
  generated-more : (s r x : ℕ) → Subset s r → Generated s x → Generated r x
  generated-more s r x f unit = unit
  generated-more s r x f (taken y i) = taken y (f y i)
  generated-more s r x f (times y z h k a b) = times y z h k (generated-more s r y f a) (generated-more s r z f b)

  -- while generators are taken: the members of `reached` are generated, and so is what is not left
  pub record Generating (s reached left : ℕ) : Type 0 where
    pub taken-small : s < 2 ^ n
    pub small : reached < 2 ^ n
    pub left-small : left < 2 ^ n
    pub sound : (x : ℕ) → member reached x ≡ true → Generated s x
    pub covers : (x : ℕ) → x < n → (member left x ≡ true) ⊎ Generated s x

  -- s with its products by j on the right
  abbrev pub right_of : ℕ → ℕ → ℕ
  right_of s j = bit_or s (image_of n (λ x. e · x · j) s)

  -- and then with those by j on the left
  unfoldable pub widened : ℕ → ℕ → ℕ
  widened s j = bit_or (right_of s j) (image_of n (λ x. j · x · e) (right_of s j))

  -- j associates as the middle factor
  abbrev pub Middle : ℕ → Type 0
  Middle j = (i k : ℕ) → i < n → k < n → i · j · k ≡ i · (j · k)

  module _ (I : TwoSidedIdentity n ◌·◌ e) (product-below : (x y : ℕ) → x < n → y < n → x · y < n) where
    -- the identity alone
    pub generating-start : Generating 0 (2 ^ e) (rest_of n (2 ^ e))
    generating-start = record {
      taken-small = pow_pos n;
      small = pow-lt I.below;
      left-small = rest_below n (2 ^ e);
      sound = λ x i. single x i;
      covers = λ x h. elim (rest-cases n (2 ^ e) x h) [ inl l ↦ inl l | inr i ↦ inr (single x i) ];
    }
      where
        single : (x : ℕ) → member (2 ^ e) x ≡ true → Generated 0 x
        single x i = rw (sym (eqb-true e x (sym (member-singleton e x) ∙ i))) unit

    -- widening makes elements
    widened-below : (s j : ℕ) → s < 2 ^ n → widened s j < 2 ^ n
    unfolding widened
    widened-below s j h = or_lt n (right_of s j) _ (or_lt n s _ h (image-below n (λ x. e · x · j) s)) (image-below n (λ x. j · x · e) (right_of s j))

    -- that are generated
    widened-sound : (s r j : ℕ) → j < n → Generated s j → ((x : ℕ) → member r x ≡ true → Generated s x) → (x : ℕ) → member (widened r j) x ≡ true
        → Generated s x
    unfolding widened
    widened-sound s r j h J sound x i = elim (or-either (member (right_of r j) x) (member (image_of n (λ x. j · x · e) (right_of r j)) x)
        (sym (member-or (right_of r j) _ x) ∙ i)) [
          | inl k ↦ right x k
          | inr k ↦
              let (y, l, m, q) = image-source n (λ x. j · x · e) (right_of r j) x k in
              rw (sym q ∙ I.right (j · y) (product-below j y h l)) (times j y h l J (right y m))
        ]
      where
        right : (x : ℕ) → member (right_of r j) x ≡ true → Generated s x
        right x i = elim (or-either (member r x) (member (image_of n (λ x. e · x · j) r) x) (sym (member-or r _ x) ∙ i)) [
          | inl k ↦ sound x k
          | inr k ↦
              let (y, l, m, q) = image-source n (λ x. e · x · j) r x k in
              rw (sym q ∙ ap (λ (z : ℕ). z · j) (I.left y l)) (times y j l h (sound y m) J)
        ]

    -- a generator more
    pub generating-next : (s reached left j rest : ℕ) → Generating s reached left → member left j ≡ true → Without left j rest
        → Generating (bit_or s (2 ^ j)) (widened reached j) (outside_of rest (widened reached j))
    generating-next s reached left j rest K m W = record {
      taken-small = or_lt n s (2 ^ j) K.taken-small (pow-lt (member_below n left j K.left-small m));
      small = widened-below reached j K.small;
      left-small = omega (arith, K.left-small, fewer-left left j rest (widened reached j) W);
      sound = sound;
      covers = λ x h. elim (K.covers x h) [
        | inr g ↦ inr (more x g)
        | inl l ↦ elim (without-cases left j rest W x l) [
          | inr q ↦ inr (rw (← q) new)
          | inl k ↦ elim (outside-cases rest (widened reached j) x k) [ inl a ↦ inl a | inr b ↦ inr (sound x b) ]
        ]
      ];
    }
      where
        more : (x : ℕ) → Generated s x → Generated (bit_or s (2 ^ j)) x
        more x g = generated-more s (bit_or s (2 ^ j)) x (λ y i. with-member s j y ∙ or-holds-left _ _ i) g

        new : Generated (bit_or s (2 ^ j)) j
        new = taken j (with-member s j j ∙ or-holds-right (member s j) _ (eq-eqb j j refl))

        sound : (x : ℕ) → member (widened reached j) x ≡ true → Generated (bit_or s (2 ^ j)) x
        sound = widened-sound (bit_or s (2 ^ j)) reached j (member_below n left j K.left-small m) new (λ x i. more x (K.sound x i))

    -- none is left
    pub generating-end : (s reached left : ℕ) → left ≡ 0 → Generating s reached left → Generators s
    generating-end s reached left none K x h = elim (K.covers x h) [
      | inl i ↦ absurd (true≢false (sym i ∙ ap (λ (z : ℕ). member z x) none ∙ member-empty x))
      | inr g ↦ g
    ]

    -- what is generated by middle factors that associate is one
    generated-middle : (s : ℕ) → ((j : ℕ) → member s j ≡ true → Middle j) → (x : ℕ) → Generated s x → Middle x
    generated-middle s f x unit i k h l = ap (λ (z : ℕ). z · k) (I.right i h) ∙ ap (λ (z : ℕ). i · z) (sym (I.left k l))
    generated-middle s f x (taken y m) i k h l = f y m i k h l
    generated-middle s f x (times y z p q a b) i k h l =
        ap (λ (w : ℕ). w · k) (sym (generated-middle s f y a i z h q)) ∙ generated-middle s f z b (i · y) k (product-below i y h p) l
        ∙ generated-middle s f y a i (z · k) h (product-below z k q l) ∙ ap (λ (w : ℕ). i · w) (sym (generated-middle s f z b y k p l))

    -- Light's test
    pub generators-associate : (s : ℕ) → Generators s → ((j : ℕ) → member s j ≡ true → Middle j) → associates n ◌·◌ ≡ true
    generators-associate s all f = passes-associative n ◌·◌ (λ x y z h k l. generated-middle s f y (all y k) x z h l)
