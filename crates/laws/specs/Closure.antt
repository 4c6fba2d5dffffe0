-- The breadth-first closure of a list of generators, up to an equivalence that a test decides: what is reached, the procedure
-- with a limit, and what its answer says. The idea: an invariant of the two lists that the procedure keeps, the elements
-- whose steps were taken and those that wait; at the end nothing waits, and the list has every step of its members.
use Rattle.std.proofs.Math.Path.{◌≡◌, refl, subst}
use Rattle.std.proofs.Common.{sym, ◌∙◌, ap, inl, inr, arith}
use Rattle.std.specs.Prelude.{◌↔◌, Bool, length}
use Rattle.std.proofs.Math.Bool.{true, false}
use Rattle.std.proofs.Math.Option.{Option, some, none, some-injective}
use mathlib.Core.List.Memᴰ.{append_cases as mem-append-cases}
use mathlib.Core.List.Memᴰ.{append_left as mem-append_left}
use mathlib.Core.List.Memᴰ.{append_right as mem-append_right}
use mathlib.Core.List.Memᴰ.{eq_of_singleton as mem-singleton}
use mathlib.Core.List.Memᴰ.{head as here}
use mathlib.Core.List.Memᴰ.{map as mem-map}
use mathlib.Core.List.Memᴰ.{not-nil}
use mathlib.Core.List.Memᴰ.{of_map as mem-of-map}
use mathlib.Core.List.Memᴰ.{tail as there}
use mathlib.Core.List.{List, [], ◌∷◌, ◌++◌, map, append_assoc, append-nil, Memᴰ as Mem}
use Prim.Native.Nat.{ℕ, zero, suc, ◌+◌, ◌≤◌, ◌<◌}
use Rattle.std.proofs.Math.Decide.{dec_lt}
use Rattle.std.proofs.Math.Dec.{T}
use Rattle.std.proofs.Math.ListN.{length-append}
use Rattle.std.proofs.Math.Seq.{append_snoc}
use Rattle.laws.specs.Distinct.{has, Distinct, nil, cons, Equivalence, has_append_left, has_append_right, has-member, has-respects, Mem→has, distinct_snoc, pigeonhole}

-- ---- what is reached

module _ {A G : Type 0} (◌·◌ : A → G → A) (unit : A) (gens : List G) where
  infixl 70 ◌·◌
  -- the finite products: the least set with the unit that is closed under a generator as right factor
  pub data Reached : A → Type 0 where
    start : Reached unit
    step : {x : A} {g : G} → Reached x → Mem g gens → Reached (x · g)

-- ---- the procedure

module _ {A : Type 0} (same : A → A → Bool) where
  -- what of the candidates is to be put behind the list, in order, each class once
  unfoldable pub fresh : List A → List A → List A
  fresh l [] = []
  fresh l (x ∷ candidates) = elim (has same x l) [ true ↦ fresh l candidates | false ↦ x ∷ fresh (l ++ x ∷ []) candidates ]

  -- the same as a relation, for proofs by its cases
  pub data Fresh : List A → List A → List A → Type 0 where
    done : {l : List A} → Fresh l [] []
    old : {x : A} {l candidates r : List A} → T (has same x l) → Fresh l candidates r → Fresh l (x ∷ candidates) r
    new : {x : A} {l candidates r : List A} → ¬ T (has same x l) → Fresh (l ++ x ∷ []) candidates r → Fresh l (x ∷ candidates) (x ∷ r)

  -- the function meets the relation
  pub fresh_meets : (l candidates : List A) → Fresh l candidates (fresh l candidates)
  unfolding fresh
  fresh_meets l [] = done
  fresh_meets l (x ∷ candidates) = elim (has same x l)
      as (λ b. has same x l ≡ b → Fresh l (x ∷ candidates) (elim b [ true ↦ fresh l candidates | false ↦ x ∷ fresh (l ++ x ∷ []) candidates ])) [
        | true ↦ λ p. old (subst T (sym p) tt) (fresh_meets l candidates)
        | false ↦ λ p. new (λ t. subst T p t) (fresh_meets (l ++ x ∷ []) candidates)
      ]
      refl

  -- what is fresh is a candidate
  pub fresh-candidate : {l candidates r : List A} → Fresh l candidates r → {x : A} → Mem x r → Mem x candidates
  fresh-candidate (old t f) m = there (fresh-candidate f m)
  fresh-candidate (new h f) (here p) = here p
  fresh-candidate (new h f) (there m) = there (fresh-candidate f m)
  fresh-candidate (done {l = l}) m = elim m [ ]

  module _ (E : Equivalence same) where
    -- the list stays without repeats
    pub fresh-distinct : {l candidates r : List A} → Fresh l candidates r → Distinct same l → Distinct same (l ++ r)
    fresh-distinct done d = rw append-nil d
    fresh-distinct (old t f) d = fresh-distinct f d
    fresh-distinct (new {x} {l} {r = r} h f) d = rw (append_snoc l x r) at (fresh-distinct f (distinct_snoc same E d x h))

    -- afterwards the list has every candidate
    pub fresh-has : {l candidates r : List A} → Fresh l candidates r → {x : A} → Mem x candidates → T (has same x (l ++ r))
    fresh-has (old {x = y} {l} {r = r} t f) {x} (here p) = rw p (has_append_left same y l r t)
    fresh-has (old t f) (there m) = fresh-has f m
    fresh-has (new {x = y} {l} {r = r} h f) {x} (here p) = has_append_right same x l (y ∷ r) (Mem→has same E (here p))
    fresh-has (new {x = y} {l} {r = r} h f) (there m) = rw (append_snoc l y r) at (fresh-has f m)
    fresh-has (done {l = l}) {x = x} x10 = elim x10 [ ]

-- when x goes over to what was taken and r comes to what waits, r comes behind all that was found
pub regroup : {A : Type 0} (taken waiting r : List A) (x : A) → (taken ++ x ∷ []) ++ (waiting ++ r) ≡ (taken ++ x ∷ waiting) ++ r
regroup taken waiting r x = rw (append_snoc taken x (waiting ++ r), append_assoc taken (x ∷ waiting) r)

module _ {A G : Type 0} (same : A → A → Bool) (◌·◌ : A → G → A) (unit : A) (gens : List G) where
  infixl 70 ◌·◌
  -- the steps of the first list are taken, the second waits; the number says how many more may be taken up
  unfoldable pub run : ℕ → List A → List A → Option (List A)
  run zero taken [] = some taken
  run zero taken (x ∷ waiting) = none
  run (suc n) taken [] = some taken
  run (suc n) taken (x ∷ waiting) = run n (taken ++ x ∷ []) (waiting ++ fresh same (taken ++ x ∷ waiting) (map (λ g. x · g) gens))

  -- the list of what is reached, if it has at most n classes
  unfoldable pub closure : ℕ → Option (List A)
  closure n = run n [] (unit ∷ [])

  -- a step takes equivalent elements to equivalent ones, of those that are reached
  abbrev pub Congruence : Type 0
  Congruence = (x y : A) (g : G) → Reached ◌·◌ unit gens x → Reached ◌·◌ unit gens y → Mem g gens → T (same x y) → T (same (x · g) (y · g))

  -- the list starts with the unit and has of each class that is reached exactly one element, a reached one
  pub record ListsReached (l : List A) : Type 0 where
    pub rest : List A
    pub first : l ≡ unit ∷ rest
    pub distinct : Distinct same l
    pub sound : (x : A) → Mem x l → Reached ◌·◌ unit gens x
    pub complete : (x : A) → Reached ◌·◌ unit gens x → T (has same x l)

  -- ---- the limit

  -- the answer of a run is no longer than what was taken up and what may still be
  run_length : (n : ℕ) (taken waiting l : List A) → run n taken waiting ≡ some l → length l ≤ n + length taken
  unfolding run
  run_length zero taken [] l p = let h : taken ≡ l = cc in rw (← h) (omega arith)
  run_length zero taken (x ∷ waiting) l p = let h : ◌≡◌ {A = ℕ} 0 1 = cc in absurd (omega arith)
  run_length (suc n) taken [] l p = let h : taken ≡ l = cc in rw (← h) (omega arith)
  run_length (suc n) taken (x ∷ waiting) l p = let r = run_length n (taken ++ x ∷ []) _ l p in omega (arith, simp length-append at r)

  -- the closure is no longer than the limit
  pub closure-length : (n : ℕ) (l : List A) → closure n ≡ some l → length l ≤ n
  unfolding closure
  closure-length n l p = omega (arith, run_length n [] (unit ∷ []) l p)

  -- a run that ends gives the same list under a higher limit
  run-limit : (n m : ℕ) (taken waiting l : List A) → n ≤ m → run n taken waiting ≡ some l → run m taken waiting ≡ some l
  unfolding run
  run-limit zero zero taken [] l h p = p
  run-limit zero (suc m) taken [] l h p = p
  run-limit zero zero taken (x ∷ waiting) l h p = p
  run-limit zero (suc m) taken (x ∷ waiting) l h p = let z : ◌≡◌ {A = ℕ} 0 1 = cc in absurd (omega arith)
  run-limit (suc n) zero taken [] l h p = p
  run-limit (suc n) zero taken (x ∷ waiting) l h p = absurd (omega arith)
  run-limit (suc n) (suc m) taken [] l h p = p
  run-limit (suc n) (suc m) taken (x ∷ waiting) l h p = run-limit n m _ _ l (omega arith) p

  -- the closure does not depend on the limit, where it ends
  pub closure-limit : (n m : ℕ) (l : List A) → n ≤ m → closure n ≡ some l → closure m ≡ some l
  unfolding closure
  closure-limit n m l h p = run-limit n m [] (unit ∷ []) l h p

  -- two limits within which it ends give one list
  pub closure-unique : (n m : ℕ) (l k : List A) → closure n ≡ some l → closure m ≡ some k → l ≡ k
  closure-unique n m l k p q = elim (dec_lt n m) [
    | yes lower ↦ some-injective l k (sym (closure-limit n m l (omega arith) p) ∙ q)
    | no not_lower ↦ some-injective l k (sym p ∙ closure-limit m n k (omega arith) q)
  ]

  -- ---- what the procedure keeps

  -- what is kept whenever the steps of the first element that waits are taken
  abbrev pub Kept : (List A → List A → Type 0) → Type 0
  Kept Holds = (taken waiting r : List A) (x : A) → Fresh same (taken ++ x ∷ waiting) (map (λ g. x · g) gens) r
      → Holds taken (x ∷ waiting) → Holds (taken ++ x ∷ []) (waiting ++ r)

  -- what is kept holds at the end of a run
  run-keeps : (Holds : List A → List A → Type 0) → Kept Holds → (n : ℕ) (taken waiting l : List A) → Holds taken waiting → run n taken waiting ≡ some l
      → Holds l []
  unfolding run
  run-keeps Holds keeps zero taken [] l h p = let e : taken ≡ l = cc in rw e at h
  run-keeps Holds keeps zero taken (x ∷ waiting) l h p = let e : ◌≡◌ {A = ℕ} 0 1 = cc in absurd (omega arith)
  run-keeps Holds keeps (suc n) taken [] l h p = let e : taken ≡ l = cc in rw e at h
  run-keeps Holds keeps (suc n) taken (x ∷ waiting) l h p = run-keeps Holds keeps n _ _ l (keeps taken waiting _ x (fresh_meets same _ _) h) p

  -- what holds at the start and is kept holds of the closure
  pub closure-keeps : (Holds : List A → List A → Type 0) → Kept Holds → Holds [] (unit ∷ []) → (n : ℕ) (l : List A) → closure n ≡ some l → Holds l []
  unfolding closure
  closure-keeps Holds keeps h n l p = run-keeps Holds keeps n [] (unit ∷ []) l h p

  -- the invariant: what was found starts with the unit, is without repeats, is reached, and has the steps of what was taken
  record Invariant (taken waiting : List A) : Type 0 where
    rest : List A
    first : taken ++ waiting ≡ unit ∷ rest
    distinct : Distinct same (taken ++ waiting)
    sound : (x : A) → Mem x (taken ++ waiting) → Reached ◌·◌ unit gens x
    closed : (x : A) (g : G) → Mem x taken → Mem g gens → T (has same (x · g) (taken ++ waiting))

  module _ (E : Equivalence same) where
    -- the invariant holds at the start
    invariant-start : Invariant [] (unit ∷ [])
    unfolding has
    invariant-start = record {
      rest = [];
      first = refl;
      distinct = cons (λ t. t) nil;
      sound = λ x m. rw (mem-singleton m) start;
      closed = λ x g m. absurd (not-nil m);
    }

    -- taking the steps of the first element that waits keeps the invariant
    invariant-kept : Kept Invariant
    invariant-kept taken waiting r x f I = record {
      rest = I.rest ++ r;
      first = rw (regroup taken waiting r x) (ap (λ l. l ++ r) I.first);
      distinct = rw (regroup taken waiting r x) (fresh-distinct same E f I.distinct);
      sound = λ y m. elim (mem-append-cases (taken ++ x ∷ waiting) (rw (regroup taken waiting r x) at m)) [
        | inl k ↦ I.sound y k
        | inr k ↦ let (g, h, p) = mem-of-map (λ g. x · g) gens (fresh-candidate same f k) in
            subst (Reached ◌·◌ unit gens) p (step (I.sound x (mem-append_right taken (here refl))) h)
      ];
      closed = λ y g m k. rw (regroup taken waiting r x) (elim (mem-append-cases taken m) [
        | inl h ↦ has_append_left same (y · g) (taken ++ x ∷ waiting) r (I.closed y g h k)
        | inr h ↦ rw (mem-singleton h) (fresh-has same E f (mem-map (λ g. x · g) k))
      ]);
    }

    -- so the closure has it
    closure-invariant : (n : ℕ) (l : List A) → closure n ≡ some l → Invariant l []
    closure-invariant = closure-keeps Invariant invariant-kept invariant-start

    -- ---- what the answer says

    -- a run that does not end has found too many
    run-past-limit : (n : ℕ) (taken waiting : List A) → Invariant taken waiting → run n taken waiting ≡ none
        → (l : List A) × Distinct same l × ((x : A) → Mem x l → Reached ◌·◌ unit gens x) × (n + length taken < length l)
    unfolding run
    run-past-limit zero taken [] I p = let h : ◌≡◌ {A = ℕ} 0 1 = cc in absurd (omega arith)
    run-past-limit zero taken (x ∷ waiting) I p = (taken ++ x ∷ waiting, I.distinct, I.sound, simp length-append (omega arith))
    run-past-limit (suc n) taken [] I p = let h : ◌≡◌ {A = ℕ} 0 1 = cc in absurd (omega arith)
    run-past-limit (suc n) taken (x ∷ waiting) I p =
        let (l, distinct, sound, h) = run-past-limit n _ _ (invariant-kept taken waiting _ x (fresh_meets same _ _) I) p in
        (l, distinct, sound, omega (arith, simp length-append at h))

    -- past the limit there are more than n reached elements, no two of them equivalent
    pub closure-past-limit : (n : ℕ) → closure n ≡ none → (l : List A) × Distinct same l × ((x : A) → Mem x l → Reached ◌·◌ unit gens x) × (n < length l)
    unfolding closure
    closure-past-limit n p = let (l, distinct, sound, h) = run-past-limit n [] (unit ∷ []) invariant-start p in (l, distinct, sound, omega arith)

    -- the unit is listed first
    pub closure-first : (n : ℕ) (l : List A) → closure n ≡ some l → (rest : List A) × (l ≡ unit ∷ rest)
    closure-first n l p = let I = closure-invariant n l p in (I.rest, rw append-nil at I.first)

    -- no two listed elements are equivalent
    pub closure-distinct : (n : ℕ) (l : List A) → closure n ≡ some l → Distinct same l
    closure-distinct n l p = rw append-nil at (closure-invariant n l p).distinct

    -- what is listed is reached
    pub closure-sound : (n : ℕ) (l : List A) → closure n ≡ some l → (x : A) → Mem x l → Reached ◌·◌ unit gens x
    closure-sound n l p x m = (closure-invariant n l p).sound x (mem-append_left [] m)

    module _ (congruence : Congruence) where
      -- a list that has every step of its members has everything that is reached
      invariant-complete : {l : List A} → Invariant l [] → {x : A} → Reached ◌·◌ unit gens x → T (has same x l)
      invariant-complete {l} I start = let h : l ≡ unit ∷ I.rest = rw append-nil at I.first in rw h (Mem→has same E (here refl))
      invariant-complete {l} I (step {x} {g} r m) =
          let (y, k, s) = has-member same x l (invariant-complete I r) in
          has-respects same E (x · g) (y · g) l (congruence x y g r (I.sound y (mem-append_left [] k)) m s) (rw append-nil at (I.closed y g k m))

      -- what is reached is listed, up to the equivalence
      pub closure-complete : (n : ℕ) (l : List A) → closure n ≡ some l → (x : A) → Reached ◌·◌ unit gens x → T (has same x l)
      closure-complete n l p x r = invariant-complete (closure-invariant n l p) r

      -- where the closure ends, it lists what is reached
      pub closure-lists : (n : ℕ) (l : List A) → closure n ≡ some l → ListsReached l
      closure-lists n l p = record {
        rest = (closure-first n l p).0;
        first = (closure-first n l p).1;
        distinct = closure-distinct n l p;
        sound = closure-sound n l p;
        complete = closure-complete n l p;
      }

      -- the closure ends within the limit exactly if at most that many classes are reached
      pub closure-ends : (n : ℕ) → ((l : List A) × (closure n ≡ some l))
          ↔ ((l : List A) → Distinct same l → ((x : A) → Mem x l → Reached ◌·◌ unit gens x) → length l ≤ n)
      closure-ends n = (few, ends (closure n) refl)
        where
          few : (l : List A) × (closure n ≡ some l) → (m : List A) → Distinct same m → ((x : A) → Mem x m → Reached ◌·◌ unit gens x) → length m ≤ n
          few (l, p) m distinct sound = omega (arith, closure-length n l p, pigeonhole same E distinct l (λ x k. closure-complete n l p x (sound x k)))

          ends : (answer : Option (List A)) → closure n ≡ answer
              → ((l : List A) → Distinct same l → ((x : A) → Mem x l → Reached ◌·◌ unit gens x) → length l ≤ n) → (l : List A) × (closure n ≡ some l)
          ends (some l) p h = (l, p)
          ends none p h = let (l, distinct, sound, more) = closure-past-limit n p in absurd (omega (arith, h l distinct sound))

      -- the closure does not end exactly if more classes are reached
      pub closure-fails : (n : ℕ) → (closure n ≡ none)
          ↔ ((l : List A) × Distinct same l × ((x : A) → Mem x l → Reached ◌·◌ unit gens x) × (n < length l))
      closure-fails n = (closure-past-limit n, fails (closure n) refl)
        where
          fails : (answer : Option (List A)) → closure n ≡ answer
              → (l : List A) × Distinct same l × ((x : A) → Mem x l → Reached ◌·◌ unit gens x) × (n < length l) → closure n ≡ none
          fails (some l) p (m, distinct, sound, more) = absurd (omega (arith, (closure-ends n).0 (l, p) m distinct sound))
          fails none p many = p

      -- a list that has everything reached, however found, bounds the limit that is needed
      pub closure-bounded : (n : ℕ) (l : List A) → ((x : A) → Reached ◌·◌ unit gens x → T (has same x l)) → length l ≤ n → (m : List A) × (closure n ≡ some m)
      closure-bounded n l complete h = (closure-ends n).1 (λ m distinct sound. omega (arith, pigeonhole same E distinct l (λ x k. complete x (sound x k))))

-- ---- closed under products

module _ {A : Type 0} (Ok : A → Type 0) (◌·◌ : A → A → A) (unit : A) where
  infixl 70 ◌·◌
  -- the laws of a monoid, on what is Ok
  pub record Monoid : Type 0 where
    pub ok-unit : Ok unit
    pub ok-product : (x y : A) → Ok x → Ok y → Ok (x · y)
    pub associative : (x y z : A) → Ok x → Ok y → Ok z → x · y · z ≡ x · (y · z)
    pub left-unit : (x : A) → Ok x → unit · x ≡ x
    pub right-unit : (x : A) → Ok x → x · unit ≡ x

  module _ (M : Monoid) (gens : List A) (ok-gens : (g : A) → Mem g gens → Ok g) where
    -- what is reached is Ok
    pub reached-ok : {x : A} → Reached ◌·◌ unit gens x → Ok x
    reached-ok start = M.ok-unit
    reached-ok (step {x} {g} r m) = M.ok-product x g (reached-ok r) (ok-gens g m)

    -- the product of two reached elements is reached
    pub reached-product : {x y : A} → Reached ◌·◌ unit gens x → Reached ◌·◌ unit gens y → Reached ◌·◌ unit gens (x · y)
    reached-product {x} r start = rw (M.right-unit x (reached-ok r)) r
    reached-product {x} r (step {x = y} {g} t m) = rw (← (M.associative x y g (reached-ok r) (reached-ok t) (ok-gens g m))) (step (reached-product r t) m)

    -- the list is closed under products
    pub listed-product : (same : A → A → Bool) {l : List A} → ListsReached same ◌·◌ unit gens l → (x y : A) → Mem x l → Mem y l → T (has same (x · y) l)
    listed-product same L x y m k = L.complete (x · y) (reached-product (L.sound x m) (L.sound y k))
