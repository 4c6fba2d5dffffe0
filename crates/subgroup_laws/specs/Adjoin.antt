-- Adjoining an element g to a subgroup h: the set grows by right cosets h p. It is closed when each representative r of a coset was
-- followed by g and by the members of h; then it is the least subgroup that holds h and g. The search for subgroups can have no use
-- for a set that would hold an element below a bound that h does not hold, so such a set is given up early.
use Rattle.std.specs.Prelude.{◌≡◌, refl, ◌⊎◌, true, false, cond, ℕ, suc, ◌+◌, ◌^◌, ◌<◌, ◌≤◌, eqb}
use Rattle.std.proofs.Common.{sym, ap, ◌∙◌, inl, inr, true≢false, arith, eq-eqb, eqb-true}
use Rattle.std.specs.Int.Bits.{bit_or}
use Rattle.std.proofs.lemmas.Nat.{or_lt}
use Rattle.std.specs.Int.Count.{ones}
use Rattle.std.proofs.Math.Pow.{pow-lt}
use Rattle.laws.specs.Sets.{member, member_below, member-empty, member-singleton, bounded, member-or, with-member, Subset, set_of, set_of-below, member-set_of, or_new, ones-add, ones-proper}
use Rattle.laws.specs.Truth.{or-either, or-holds-left, or-holds-right, not-passing, asked-passes, passes-asked}
use Rattle.subgroup_laws.specs.Bounded.{every, passes-every, every-passes}
use Rattle.subgroup_laws.specs.Conjugation.{inverse-below, inverse_left}
use Rattle.subgroup_laws.specs.Cosets.{coset_of, coset-below, coset-source, coset-holds, coset-new}
use Rattle.subgroup_laws.specs.Groups.{Group, inverse_of}
use Rattle.subgroup_laws.specs.SubgroupLaws.{closed-set}
use Rattle.subgroup_laws.specs.Subsets.{Subgroup}

-- the set of i holds i
pub singleton-self : (i : ℕ) → member (2 ^ i) i ≡ true
singleton-self i = member-singleton i i ∙ eq-eqb i i refl

-- and nothing else
pub singleton-only : (i j : ℕ) → member (2 ^ i) j ≡ true → j ≡ i
singleton-only i j m = sym (eqb-true i j (sym (member-singleton i j) ∙ m))

-- the set of the identity is a subgroup
pub trivial-subgroup : (n : ℕ) (◌·◌ : ℕ → ℕ → ℕ) (e : ℕ) → Group n ◌·◌ e → Subgroup n ◌·◌ e (2 ^ e)
trivial-subgroup n ◌·◌ e G = closed-set n ◌·◌ e G (2 ^ e) (pow-lt G.identity-below) (singleton-self e)
    (λ x y i j. rw (singleton-only e x i, singleton-only e y j, G.left_identity e G.identity-below) (singleton-self e))

module _ (n : ℕ) (◌·◌ : ℕ → ℕ → ℕ) (e : ℕ) (h g : ℕ) where
  infixl 70 ◌·◌
  -- each subgroup that holds h and g holds x
  pub record Forced (x : ℕ) : Type 0 where
    pub below : x < n
    pub held : (u : ℕ) → Subgroup n ◌·◌ e u → Subset h u → member u g ≡ true → member u x ≡ true

  -- some element below the bound would come in anew
  pub record Barred (bound : ℕ) : Type 0 where
    pub element : ℕ
    pub low : element < bound
    pub new : member h element ≡ false
    pub forced : Forced element

  -- k is the least subgroup that holds h and g
  pub record Extension (k : ℕ) : Type 0 where
    pub subgroup : Subgroup n ◌·◌ e k
    pub over : Subset h k
    pub adjoined : member k g ≡ true
    pub least : (u : ℕ) → Subgroup n ◌·◌ e u → Subset h u → member u g ≡ true → Subset k u

  -- r may be followed by g and by the members of h
  pub record Followed (k r : ℕ) : Type 0 where
    pub by-new : member k (r · g) ≡ true
    pub by_old : (s : ℕ) → member h s ≡ true → member k (r · s) ≡ true

  -- the state of the growth: each member is a member of h times a representative that waits or was followed; Current holds of what is being followed
  pub record Growing (bound k waiting : ℕ) (Current : ℕ → Type 0) : Type 0 where
    pub small : k < 2 ^ n
    pub over : Subset h k
    pub stable : (x y : ℕ) → member h x ≡ true → member k y ≡ true → member k (x · y) ≡ true
    pub forced : (x : ℕ) → member k x ≡ true → Forced x
    pub represented : (x : ℕ) → member k x ≡ true
        → (a r : ℕ) × (member h a ≡ true) × (r < n) × (x ≡ a · r) × ((member waiting r ≡ true) ⊎ (Current r ⊎ Followed k r))
    pub waiting-inside : Subset waiting k
    pub low : (i : ℕ) → i < bound → member k i ≡ true → member h i ≡ true

  module _ (G : Group n ◌·◌ e) (H : Subgroup n ◌·◌ e h) (bound : ℕ) where
    -- a member of h is forced
    pub old-forced : (x : ℕ) → member h x ≡ true → Forced x
    old-forced x i = record { below = member_below n h x H.small i; held = λ u U over new. over x i }

    -- so is g
    pub new-forced : g < n → Forced g
    new-forced j = record { below = j; held = λ u U over new. new }

    -- so is the product of two such elements
    pub product-forced : (x y : ℕ) → Forced x → Forced y → Forced (x · y)
    product-forced x y F K = record {
      below = G.product-below x y F.below K.below;
      held = λ u U over new. U.holds-products x y (F.held u U over new) (K.held u U over new);
    }

    -- the extensions by two elements of one coset are the same; so the one by the higher element holds the lower one
    pub higher-barred : (low : ℕ) → low < n → member h low ≡ false → member (coset_of n ◌·◌ e h low) g ≡ true → low < g → Barred g
    higher-barred low l new i less =
        let (b, k, m, q) = coset-source n ◌·◌ e G h H low l g i in
        let inverse = inverse_of n ◌·◌ e b in
        let inside = inverse-below n ◌·◌ e G b k in
        let left = inverse_left n ◌·◌ e G b k in
        let back : inverse · g ≡ low =
        ap (λ (z : ℕ). inverse · z) q ∙ sym (G.associative inverse b low inside k l) ∙ ap (λ (z : ℕ). z · low) left ∙ G.left_identity low l in
        record {
          element = low;
          low = less;
          new = new;
          forced = record {
            below = l;
            held = λ u U over mine. rw (← back) (U.holds-products inverse g (U.holds-inverses b inverse inside left (over b m)) mine);
          };
        }

    -- the growth begins with h and the identity as the representative that waits
    pub growing-start : Growing bound h (2 ^ e) (λ r. ⊥)
    growing-start = record {
      small = H.small;
      over = λ x i. i;
      stable = λ x y i j. H.holds-products x y i j;
      forced = old-forced;
      represented = λ x i. (x, e, i, G.identity-below, sym (G.right_identity x (member_below n h x H.small i)), inl (singleton-self e));
      waiting-inside = λ x i. rw (singleton-only e x i) H.holds-identity;
      low = λ x l i. i;
    }

    -- what was followed stays so when the set grows
    followed-more : (k m r : ℕ) → Subset k m → Followed k r → Followed m r
    followed-more k m r f F = record { by-new = f _ F.by-new; by_old = λ s i. f _ (F.by_old s i) }

    module _ (k waiting : ℕ) (Current : ℕ → Type 0) where
      -- once the current representative was followed by all, none is current
      pub growing-followed : ((r : ℕ) → Current r → Followed k r) → Growing bound k waiting Current → Growing bound k waiting (λ r. ⊥)
      growing-followed f W = record {
        small = W.small;
        over = W.over;
        stable = W.stable;
        forced = W.forced;
        represented = λ x i. let (a, r, j, b, p, c) = W.represented x i in
            (a, r, j, b, p, elim c [ inl w ↦ inl w | inr d ↦ elim d [ inl u ↦ inr (inr (f r u)) | inr v ↦ inr (inr v) ] ]);
        waiting-inside = W.waiting-inside;
        low = W.low;
      }

      module _ (W : Growing bound k waiting Current) (p : ℕ) (F : Forced p) where
        -- the set with the coset
        abbrev joined : ℕ
        joined = bit_or k (coset_of n ◌·◌ e h p)

        -- it has the old members
        joined-old : Subset k joined
        joined-old x i = member-or k _ x ∙ or-holds-left _ _ i

        -- and those of the coset
        joined-coset : (x : ℕ) → member (coset_of n ◌·◌ e h p) x ≡ true → member joined x ≡ true
        joined-coset x i = member-or k _ x ∙ or-holds-right (member k x) _ i

        -- and no others
        joined-cases : (x : ℕ) → member joined x ≡ true → (member k x ≡ true) ⊎ (member (coset_of n ◌·◌ e h p) x ≡ true)
        joined-cases x i = or-either _ _ (sym (member-or k _ x) ∙ i)

        -- the members of the coset are forced
        coset-forced : (x : ℕ) → member (coset_of n ◌·◌ e h p) x ≡ true → Forced x
        coset-forced x i =
            let (b, l, j, q) = coset-source n ◌·◌ e G h H p F.below x i in
            rw q (product-forced b p (old-forced b j) F)

        -- the coset joins the set, and p waits, if the coset has no new element below the bound
        pub growing-add : ((i : ℕ) → i < bound → member (coset_of n ◌·◌ e h p) i ≡ true → member h i ≡ true)
            → Growing bound joined (bit_or waiting (2 ^ p)) Current
        growing-add test = record {
          small = or_lt n k _ W.small (coset-below n ◌·◌ e G h H p);
          over = λ x i. joined-old x (W.over x i);
          stable = λ x y i j. elim (joined-cases y j) [
            | inl l ↦ joined-old _ (W.stable x y i l)
            | inr l ↦ let (b, m, c, q) = coset-source n ◌·◌ e G h H p F.below y l in
                joined-coset _ (rw (q, ← G.associative x b p (member_below n h x H.small i) m F.below)
                (coset-holds n ◌·◌ e G h H p F.below (x · b) (H.holds-products x b i c)))
          ];
          forced = λ x i. elim (joined-cases x i) [ inl l ↦ W.forced x l | inr l ↦ coset-forced x l ];
          represented = λ x i. elim (joined-cases x i) [
            | inl l ↦ let (a, r, j, d, q, c) = W.represented x l in (
              a,
              r,
              j,
              d,
              q,
              elim c [
                | inl w ↦ inl (with-member waiting p r ∙ or-holds-left _ _ w)
                | inr d ↦ elim d [ inl u ↦ inr (inl u) | inr v ↦ inr (inr (followed-more k joined r joined-old v)) ]
              ],
            )
            | inr l ↦ let (b, m, c, q) = coset-source n ◌·◌ e G h H p F.below x l in
                (b, p, c, F.below, q, inl (with-member waiting p p ∙ or-holds-right (member waiting p) _ (eq-eqb p p refl)))
          ];
          waiting-inside = λ x i. elim (or-either (member waiting x) (eqb p x) (sym (with-member waiting p x) ∙ i)) [
            | inl w ↦ joined-old x (W.waiting-inside x w)
            | inr q ↦ rw (← eqb-true p x q) (joined-coset p (coset-new n ◌·◌ e G h H p F.below))
          ];
          low = λ x l i. elim (joined-cases x i) [ inl m ↦ W.low x l m | inr m ↦ test x l m ];
        }

        -- p is in the set now
        pub joined-new : member joined p ≡ true
        joined-new = joined-coset p (coset-new n ◌·◌ e G h H p F.below)

        -- the old members stay
        pub joined-over : Subset k joined
        joined-over = joined-old

        -- one more waits, and the set has grown by one at least, if p is new
        pub growing-count : member k p ≡ false → ones (bit_or waiting (2 ^ p)) + ones k ≤ ones waiting + ones joined
        growing-count new =
            let fresh : member waiting p ≡ false = not-passing _ (λ w. true≢false (sym (W.waiting-inside p w) ∙ new)) in
            let small : waiting < 2 ^ n = bounded n waiting (λ i l. not-passing _
            (λ w. let m = member_below n k i W.small (W.waiting-inside i w) in omega arith)) in
            let more : ones (bit_or waiting (2 ^ p)) ≡ suc (ones waiting) = ap ones (or_new waiting p fresh) ∙ ones-add n waiting p F.below small fresh in
            let grown = ones-proper k joined joined-old (λ q. true≢false (sym joined-new ∙ ap (λ (s : ℕ). member s p) (sym q) ∙ new)) in
            omega arith

        -- a new element of the coset below the bound bars the set
        pub coset-barred : (i : ℕ) → i < bound → member (coset_of n ◌·◌ e h p) i ≡ true → member h i ≡ false → Barred bound
        coset-barred i l m new = record { element = i; low = l; new = new; forced = coset-forced i m }

    -- ---- the end

    module _ (k : ℕ) (W : Growing bound k 0 (λ r. ⊥)) (j : g < n) where
      -- each representative was followed
      end-followed : (x : ℕ) → member k x ≡ true → (a r : ℕ) × (member h a ≡ true) × (r < n) × (x ≡ a · r) × Followed k r
      end-followed x i = let (a, r, l, b, q, c) = W.represented x i in (
        a,
        r,
        l,
        b,
        q,
        elim c [
          | inl w ↦ absurd (true≢false (sym w ∙ member-empty r))
          | inr d ↦ elim d [ inl u ↦ absurd u | inr v ↦ v ]
        ],
      )

      -- a member followed by s is a member, if each representative may be followed by s
      followed-by : (s : ℕ) → s < n → ((r : ℕ) → Followed k r → member k (r · s) ≡ true) → (x : ℕ) → member k x ≡ true → member k (x · s) ≡ true
      followed-by s l f x i =
          let (a, r, m, b, q, v) = end-followed x i in
          rw (q, G.associative a r s (member_below n h a H.small m) b l) (W.stable a (r · s) m (f r v))

      -- the elements that keep the set when they follow its members
      unfoldable keepers : ℕ
      keepers = set_of n (λ u. every (λ x. cond (member k x) (member k (x · u)) true) n)

      -- what keeps every member is among them
      keeper-passes : (u : ℕ) → u < n → ((x : ℕ) → member k x ≡ true → member k (x · u) ≡ true) → member keepers u ≡ true
      unfolding keepers
      keeper-passes u l f = member-set_of n _ u l ∙ passes-every _ n (λ x m. passes-asked (member k x) (f x))

      -- they are elements
      keeper-below : (u : ℕ) → member keepers u ≡ true → u < n
      unfolding keepers
      keeper-below u i = member_below n keepers u (set_of-below n _) i

      -- each of them keeps every member
      keeper-keeps : (u : ℕ) → member keepers u ≡ true → (x : ℕ) → member k x ≡ true → member k (x · u) ≡ true
      unfolding keepers
      keeper-keeps u i x m =
          asked-passes m (every-passes _ n (sym (member-set_of n _ u (keeper-below u i)) ∙ i) x (member_below n k x W.small m))

      -- they are a subgroup
      keepers-subgroup : Subgroup n ◌·◌ e keepers
      unfolding keepers
      keepers-subgroup = closed-set n ◌·◌ e G keepers (set_of-below n _)
          (keeper-passes e G.identity-below (λ x i. rw (G.right_identity x (member_below n k x W.small i)) i))
          (λ u v a b. keeper-passes (u · v) (G.product-below u v (keeper-below u a) (keeper-below v b))
          (λ x i. rw (← G.associative x u v (member_below n k x W.small i) (keeper-below u a) (keeper-below v b))
          (keeper-keeps v b (x · u) (keeper-keeps u a x i))))

      -- so the set is closed: a member is forced, and h and g are among the keepers
      end-closed : (x y : ℕ) → member k x ≡ true → member k y ≡ true → member k (x · y) ≡ true
      end-closed x y a b = keeper-keeps y
          ((W.forced y b).held keepers keepers-subgroup
          (λ s i. let l = member_below n h s H.small i in keeper-passes s l (followed-by s l (λ r v. v.by_old s i)))
          (keeper-passes g j (followed-by g j (λ r v. v.by-new))))
          x a

      -- where nothing waits any more, the set is the least subgroup that holds h and g
      pub growing-end : Extension k
      growing-end = record {
        subgroup = closed-set n ◌·◌ e G k W.small unit end-closed;
        over = W.over;
        adjoined = rw (G.left_identity g j) at (followed-by g j (λ r v. v.by-new) e unit);
        least = λ u U over new x i. (W.forced x i).held u U over new;
      }
        where
          unit : member k e ≡ true
          unit = W.over e H.holds-identity
