-- What the steps of an adjunction answer, and how they keep its state.
use Rattle.std.specs.Prelude.{◌≡◌, ◌⊎◌, true, false, ℕ, ◌+◌, ◌^◌, ◌<◌, ◌≤◌, Option, Some, None}
use Rattle.std.proofs.Common.{sym, ap, ◌∙◌, inl, inr, true≢false, arith}
use Rattle.std.specs.Int.Bits.{bit_or}
use Rattle.std.specs.Int.Count.{ones}
use Rattle.laws.specs.Sets.{member, member-empty, Subset}
use Rattle.subgroup_laws.specs.Adjoin.{Forced, Barred, Extension, Growing, growing-followed, growing-add, growing-count, coset-barred, joined-new, joined-over, growing-end}
use Rattle.subgroup_laws.specs.Cosets.{coset_of}
use Rattle.subgroup_laws.specs.Groups.{Group}
use Rattle.subgroup_laws.specs.Removal.{Without, without-old, without-cases}
use Rattle.subgroup_laws.specs.Subsets.{Subgroup}
use Rattle.subgroup_search.specs.declared.adjoin.Growth.{Growth}

module _ (n : ℕ) (◌·◌ : ℕ → ℕ → ℕ) (e h bound : ℕ) where
  -- what taking p into k answers: p was there; or the coset of p holds a new element below the bound; or the coset joins and p waits
  pub data Taken (k waiting p : ℕ) : Option Growth → Type 0 where
    seen : member k p ≡ true → Taken k waiting p (Some (record { set = k; waiting = waiting }))
    barred : (i : ℕ) → i < bound → member (coset_of n ◌·◌ e h p) i ≡ true → member h i ≡ false → Taken k waiting p None
    joins : member k p ≡ false → ((i : ℕ) → i < bound → member (coset_of n ◌·◌ e h p) i ≡ true → member h i ≡ true)
        → Taken k waiting p (Some (record { set = bit_or k (coset_of n ◌·◌ e h p); waiting = bit_or waiting (2 ^ p) }))

module _ (n : ℕ) (◌·◌ : ℕ → ℕ → ℕ) (e h g bound : ℕ) where
  infixl 70 ◌·◌
  -- a grown set: p is in it, the old members are, and no more wait than it has grown by
  pub record Grown (Current : ℕ → Type 0) (k waiting p : ℕ) (r : Growth) : Type 0 where
    pub state : Growing n ◌·◌ e h g bound r.set r.waiting Current
    pub held : member r.set p ≡ true
    pub over : Subset k r.set
    pub count : ones r.waiting + ones k ≤ ones waiting + ones r.set

  -- what following a representative answers
  abbrev pub Swept : ℕ → ℕ → Option Growth → Type 0
  Swept k waiting (Some r) = Growing n ◌·◌ e h g bound r.set r.waiting (λ x. ⊥) × (ones r.waiting + ones k ≤ ones waiting + ones r.set)
  Swept k waiting None = Barred n ◌·◌ e h g bound

  -- what adjoining answers: the least subgroup that holds h and g, or none where that would hold a new element below the bound
  abbrev pub Adjoined : Option ℕ → Type 0
  Adjoined (Some r) = Extension n ◌·◌ e h g r × ((i : ℕ) → i < bound → member r i ≡ true → member h i ≡ true)
  Adjoined None = Barred n ◌·◌ e h g bound

  module _ (G : Group n ◌·◌ e) (H : Subgroup n ◌·◌ e h) (Current : ℕ → Type 0) (k waiting p : ℕ)
      (W : Growing n ◌·◌ e h g bound k waiting Current) (F : Forced n ◌·◌ e h g p) where
    -- taking p in keeps the state
    pub taken-grown : {r : Growth} → Taken n ◌·◌ e h bound k waiting p (Some r) → Grown Current k waiting p r
    taken-grown (seen i) = record { state = W; held = i; over = λ x j. j; count = omega arith }
    taken-grown (joins new test) = record {
      state = growing-add n ◌·◌ e h g G H bound k waiting Current W p F test;
      held = joined-new n ◌·◌ e h g G H bound k waiting Current W p F;
      over = joined-over n ◌·◌ e h g G H bound k waiting Current W p F;
      count = growing-count n ◌·◌ e h g G H bound k waiting Current W p F new;
    }

    -- or bars the set
    pub taken-barred : Taken n ◌·◌ e h bound k waiting p None → Barred n ◌·◌ e h g bound
    taken-barred (barred i l m new) = coset-barred n ◌·◌ e h g G H bound k waiting Current W p F i l m new

  -- a growth that was barred says so
  pub swept-barred : (k waiting : ℕ) → Barred n ◌·◌ e h g bound → Swept k waiting None
  swept-barred k waiting B = B

  -- the loop over the members of h that follow r: those of `left` are still to come
  pub record Sweeping (k waiting r set rest left : ℕ) : Type 0 where
    pub state : Growing n ◌·◌ e h g bound set rest (λ x. x ≡ r)
    pub inside : Subset left h
    pub by-new : member set (r · g) ≡ true
    pub by_old : (s : ℕ) → member h s ≡ true → (member left s ≡ true) ⊎ (member set (r · s) ≡ true)
    pub count : ones rest + ones k ≤ ones waiting + ones set

  module _ (k waiting r : ℕ) where
    -- g has followed
    pub sweeping-start : {first : Growth} → Grown (λ x. x ≡ r) k waiting (r · g) first → Sweeping k waiting r first.set first.waiting h
    sweeping-start F = record { state = F.state; inside = λ x i. i; by-new = F.held; by_old = λ s i. inl i; count = F.count }

    -- a member follows
    pub sweeping-step : (set rest left x less : ℕ) {next : Growth} → Sweeping k waiting r set rest left → Without left x less
        → Grown (λ x. x ≡ r) set rest (r · x) next → Sweeping k waiting r next.set next.waiting less
    sweeping-step set rest left x less S W F = record {
      state = F.state;
      inside = λ z i. S.inside z (without-old left x less W z i);
      by-new = F.over _ S.by-new;
      by_old = λ s i. elim (S.by_old s i) [
        | inr m ↦ inr (F.over _ m)
        | inl m ↦ elim (without-cases left x less W s m) [ inl l ↦ inl l | inr q ↦ inr (rw (← q) F.held) ]
      ];
      count = let a = S.count in let b = F.count in omega arith;
    }

    -- all have followed
    pub sweeping-end : Group n ◌·◌ e → Subgroup n ◌·◌ e h → (set rest left : ℕ) → left ≡ 0 → Sweeping k waiting r set rest left
        → Swept k waiting (Some (record { set = set; waiting = rest }))
    sweeping-end G H set rest left none S = (
      growing-followed n ◌·◌ e h g G H bound set rest (λ x. x ≡ r) (λ x q. rw q (record { by-new = S.by-new; by_old = old })) S.state,
      S.count,
    )
      where
        old : (s : ℕ) → member h s ≡ true → member set (r · s) ≡ true
        old s i = elim (S.by_old s i) [
          | inl m ↦ absurd (true≢false (sym m ∙ ap (λ (l : ℕ). member l s) none ∙ member-empty s))
          | inr m ↦ m
        ]

  -- the state while representatives wait, with what is left to do
  pub growing-next : Group n ◌·◌ e → Subgroup n ◌·◌ e h → (k waiting r rest : ℕ) → Without waiting r rest
      → Growing n ◌·◌ e h g bound k waiting (λ x. ⊥) → Growing n ◌·◌ e h g bound k rest (λ x. x ≡ r)
  growing-next G H k waiting r rest W S = record {
    small = S.small;
    over = S.over;
    stable = S.stable;
    forced = S.forced;
    represented = λ x i. let (a, s, j, b, q, c) = S.represented x i in (
      a,
      s,
      j,
      b,
      q,
      elim c [
        | inl w ↦ elim (without-cases waiting r rest W s w) [ inl l ↦ inl l | inr p ↦ inr (inl (sym p)) ]
        | inr d ↦ elim d [ inl u ↦ absurd u | inr v ↦ inr (inr v) ]
      ],
    );
    waiting-inside = λ x i. S.waiting-inside x (without-old waiting r rest W x i);
    low = S.low;
  }

  -- the growth has ended
  pub adjoined-end : Group n ◌·◌ e → Subgroup n ◌·◌ e h → g < n → (k waiting : ℕ) → waiting ≡ 0 → Growing n ◌·◌ e h g bound k waiting (λ x. ⊥)
      → Adjoined (Some k)
  adjoined-end G H j k waiting none S = (growing-end n ◌·◌ e h g G H bound k (rw none at S) j, S.low)
