-- A lattice of integer vectors given by points modulo 12: which vectors are in it, when two are in one class, and the smallest triple of a class.
use Rattle.std.specs.Prelude.{◌≡◌, refl, ◌⊎◌, ◌↔◌, Bool, true, ◌&&◌, not, ℕ, zero, suc, ◌+◌, ◌*◌, ◌-◌, ◌/◌, ◌%◌, min, ◌≤◌, ◌<◌, T, eqb, ltb}
use Rattle.std.proofs.Math.Path.{sym, ap}
use Rattle.std.proofs.Common.{◌∙◌, inl, inr, arith, eqb→eq, ltb→lt, T_not}
use mathlib.Core.List.Memᴰ.{cast as mem-cast}
use mathlib.Core.List.Memᴰ.{head as here}
use mathlib.Core.List.Memᴰ.{tail as there}
use mathlib.Core.List.{List, [], ◌∷◌, Memᴰ as Mem}
use Rattle.std.proofs.Math.Decide.{dec_le, dec_lt}
use Rattle.std.proofs.Math.Dec.{eqb_refl}
use Rattle.laws.specs.Integer.{nought}
use Rattle.laws.specs.Matrix.{Vector, plus, opposite, origin, plus-opposite, opposite-difference, difference-chain}
use Rattle.laws.specs.Residue.{residue, Triple, triple≡, Reduced, reduced, lifted, reduced-lifted, ◌⊕◌, minus, reduced-plus, reduced-opposite, ⊕-reduced}
use Rattle.laws.specs.Distinct.{has, Distinct, nil, cons, DecidesEquality, equality-equivalence, has→Mem, Mem→has}
use Rattle.laws.specs.Truth.{or_left, or_right, or_cases, and_left, and_right, both, all, all-member, same_test}

-- Whether two triples are equal.
unfoldable pub same_triple : Triple → Triple → Bool
same_triple s t = eqb s.x t.x && (eqb s.y t.y && eqb s.z t.z)

-- The test of triples decides their equality.
pub triple-decides : DecidesEquality same_triple
unfolding same_triple
triple-decides =
    record {
      reflexive = λ t. both (eqb t.x t.x) _ (eqb_refl t.x) (both (eqb t.y t.y) _ (eqb_refl t.y) (eqb_refl t.z));
      exact =
          λ s t h.
          let yz = and_right (eqb s.x t.x) _ h in
          triple≡
          (eqb→eq _ _ (and_left (eqb s.x t.x) _ h))
          (eqb→eq _ _ (and_left (eqb s.y t.y) _ yz))
          (eqb→eq _ _ (and_right (eqb s.y t.y) _ yz));
    }

-- ---- the points of a lattice
abbrev pub zero_triple : Triple
zero_triple = record { x = 0; y = 0; z = 0 }

-- Triples below 12 without repeats, (0,0,0) among them, that sums and negatives modulo 12 stay in.
pub record Points (l : List Triple) : Type 0 where
  pub holds-zero : Mem zero_triple l
  pub sum : {s t : Triple} → Mem s l → Mem t l → Mem (s ⊕ t) l
  pub negative : {t : Triple} → Mem t l → Mem (minus t) l
  pub below : {t : Triple} → Mem t l → Reduced t
  pub distinct : Distinct same_triple l

-- One test that computes, and the law that makes of it the rule.
unfoldable pub below_twelve : Triple → Bool
below_twelve t = ltb t.x 12 && (ltb t.y 12 && ltb t.z 12)

unfoldable pub keeps_sums : List Triple → Triple → Bool
keeps_sums l s = below_twelve s && (has same_triple (minus s) l && all (λ t. has same_triple (s ⊕ t) l) l)

unfoldable pub without_repeats : List Triple → Bool
without_repeats [] = true
without_repeats (t ∷ l) = not (has same_triple t l) && without_repeats l

unfoldable pub are_points : List Triple → Bool
are_points l = has same_triple zero_triple l && (without_repeats l && all (keeps_sums l) l)

without-repeats : (l : List Triple) → T (without_repeats l) → Distinct same_triple l
unfolding without_repeats
without-repeats [] t = nil
without-repeats (s ∷ l) t =
    cons (T_not (has same_triple s l) (and_left (not (has same_triple s l)) (without_repeats l) t)) (without-repeats l
    (and_right (not (has same_triple s l)) (without_repeats l) t))

below_twelve_lem : (t : Triple) → T (below_twelve t) → Reduced t
unfolding below_twelve
below_twelve_lem t h =
    let yz = and_right (ltb t.x 12) _ h in
    (ltb→lt _ _ (and_left (ltb t.x 12) _ h), ltb→lt _ _ (and_left (ltb t.y 12) _ yz), ltb→lt _ _ (and_right (ltb t.y 12) _ yz))

pub are-points : (l : List Triple) → T (are_points l) → Points l
unfolding are_points keeps_sums
are-points l t =
    record {
      holds-zero = has→Mem same_triple triple-decides (and_left (has same_triple zero_triple l) _ t);
      sum = λ {s} {t = u} m k. has→Mem same_triple triple-decides (all-member (λ u. has same_triple (s ⊕ u) l)
          (and_right (has same_triple (minus s) l) _ (sums m)) k);
      negative = λ {t = s} m. has→Mem same_triple triple-decides (and_left (has same_triple (minus s) l) _ (sums m));
      below = λ {t = s} m. below_twelve_lem s (and_left (below_twelve s) _ (all-member (keeps_sums l) each m));
      distinct = without-repeats l (and_left (without_repeats l) _ rest);
    }
  where
    rest : T (without_repeats l && all (keeps_sums l) l)
    rest = and_right (has same_triple zero_triple l) _ t

    each : T (all (keeps_sums l) l)
    each = and_right (without_repeats l) _ rest

    sums : {s : Triple} → Mem s l → T (has same_triple (minus s) l && all (λ u. has same_triple (s ⊕ u) l) l)
    sums {s} m = and_right (below_twelve s) _ (all-member (keeps_sums l) each m)

-- ---- the lattice: the points plus whole cells
abbrev pub InLattice : List Triple → Vector → Type 0
InLattice l v = Mem (reduced v) l

-- Two vectors are in one class where they differ by a vector of the lattice.
abbrev pub Congruent : List Triple → Vector → Vector → Type 0
Congruent l v w = InLattice l (plus v (opposite w))

module _ (l : List Triple) (L : Points l) where
  pub in-origin : InLattice l origin
  unfolding origin nought residue
  in-origin = L.holds-zero

  pub in-plus : (v w : Vector) → InLattice l v → InLattice l w → InLattice l (plus v w)
  in-plus v w m k = mem-cast (reduced-plus v w) (L.sum m k)

  pub in-opposite : (v : Vector) → InLattice l v → InLattice l (opposite v)
  in-opposite v m = mem-cast (reduced-opposite v) (L.negative m)

  -- To be in one class is an equivalence.
  pub congruent-reflexive : (v : Vector) → Congruent l v v
  congruent-reflexive v = rw (plus-opposite v) in-origin

  pub congruent-symmetric : (v w : Vector) → Congruent l v w → Congruent l w v
  congruent-symmetric v w m = rw (opposite-difference v w) at (in-opposite (plus v (opposite w)) m)

  pub congruent-transitive : (u v w : Vector) → Congruent l u v → Congruent l v w → Congruent l u w
  congruent-transitive u v w m k = rw (difference-chain u v w) at (in-plus (plus u (opposite v)) (plus v (opposite w)) m k)

-- ---- the smallest triple of a class, compared x first
-- Triples below 12 compare as these numbers do, x first.
unfoldable pub rank : Triple → ℕ
rank t = t.x * 144 + t.y * 12 + t.z

unfoldable pub unrank : ℕ → Triple
unrank n = record { x = n / 144; y = n / 12 % 12; z = n % 12 }

-- s comes before t: at the first coordinate in which they differ, x first, it has the smaller number.
pub data Before (s t : Triple) : Type 0 where
  by-x : s.x < t.x → Before s t
  by-y : s.x ≡ t.x → s.y < t.y → Before s t
  by-z : s.x ≡ t.x → s.y ≡ t.y → s.z < t.z → Before s t

-- The order of ranks is this order.
pub before-rank : (s t : Triple) → Reduced s → Reduced t → Before s t ↔ (rank s < rank t)
unfolding rank
before-rank s t h k = ((λ b. forth s t h k b), λ r. back s t h k r)
  where
    forth : (s t : Triple) → Reduced s → Reduced t → Before s t → s.x * 144 + s.y * 12 + s.z < t.x * 144 + t.y * 12 + t.z
    forth s t h k (by-x p) = omega arith
    forth s t h k (by-y p q) = omega arith
    forth s t h k (by-z p q r) = omega arith

    back : (s t : Triple) → Reduced s → Reduced t → s.x * 144 + s.y * 12 + s.z < t.x * 144 + t.y * 12 + t.z → Before s t
    back s t h k r = elim (dec_lt s.x t.x) [
      | yes p ↦ by-x p
      | no p ↦ elim (dec_lt s.y t.y) [
        | yes q ↦ by-y (omega arith) q
        | no q ↦ by-z (omega arith) (omega arith) (omega arith)
      ]
    ]

pub rank_lt : (t : Triple) → Reduced t → rank t < 1728
unfolding rank
rank_lt t h = omega arith

pub unrank-rank : (t : Triple) → Reduced t → unrank (rank t) ≡ t
unfolding rank unrank
unrank-rank t h = triple≡ (omega arith) (omega arith) (omega arith)

pub rank-injective : (s t : Triple) → Reduced s → Reduced t → rank s ≡ rank t → s ≡ t
rank-injective s t h k p = sym (unrank-rank s h) ∙ ap unrank p ∙ unrank-rank t k

-- The least rank among t plus the points.
unfoldable pub least_rank : List Triple → Triple → ℕ
least_rank [] t = 1728
least_rank (p ∷ l) t = min (rank (t ⊕ p)) (least_rank l t)

unfoldable pub smallest : List Triple → Triple → Triple
smallest l t = unrank (least_rank l t)

least-rank-le : (l : List Triple) (t : Triple) {p : Triple} → Mem p l → least_rank l t ≤ rank (t ⊕ p)
unfolding least_rank
least-rank-le (q ∷ l) t (here e) = rw e (omega arith)
least-rank-le (q ∷ l) t (there m) = let h = least-rank-le l t m in omega arith
least-rank-le [] t {p = p} x' = elim x' [ ]

least-rank-at : (l : List Triple) (t : Triple) → ((p : Triple) × Mem p l × (least_rank l t ≡ rank (t ⊕ p))) ⊎ (least_rank l t ≡ 1728)
unfolding least_rank
least-rank-at [] t = inr refl
least-rank-at (q ∷ l) t = either (dec_le (rank (t ⊕ q)) (least_rank l t)) (least-rank-at l t)
  where
    either : Dec (rank (t ⊕ q) ≤ least_rank l t) → ((p : Triple) × Mem p l × (least_rank l t ≡ rank (t ⊕ p))) ⊎ (least_rank l t ≡ 1728)
        → ((p : Triple) × Mem p (q ∷ l) × (least_rank (q ∷ l) t ≡ rank (t ⊕ p))) ⊎ (least_rank (q ∷ l) t ≡ 1728)
    either (yes h) r = inl (q, here refl, omega arith)
    either (no h) (inl (p, m, e)) = inl (p, there m, omega arith)
    either (no h) (inr e) = inr (omega arith)

-- What moves t to t ⊕ p is p; and what moves t to a triple u below 12 takes it there.
again : (n : ℕ) → n % 12 % 12 ≡ n % 12
again n = omega arith

less : (t p : ℕ) → p < 12 → ((t + p) % 12 + (12 - t % 12) % 12) % 12 ≡ p
less t p h = omega arith

there-less : (t u : ℕ) → u < 12 → (t + (u + (12 - t % 12) % 12) % 12) % 12 ≡ u
there-less t u h = omega arith

moved-less : (t p : Triple) → Reduced p → reduced (lifted (t ⊕ p)) ⊕ minus (reduced (lifted t)) ≡ p
unfolding ◌⊕◌ minus residue
moved-less t p h = simp again (triple≡ (less t.x p.x h.0) (less t.y p.y h.1) (less t.z p.z h.2))

moved-there : (t u : Triple) → Reduced u → t ⊕ (u ⊕ minus (reduced (lifted t))) ≡ u
unfolding ◌⊕◌ minus residue
moved-there t u h = simp again (triple≡ (there-less t.x u.x h.0) (there-less t.y u.y h.1) (there-less t.z u.z h.2))

difference-reduced : (t u : Triple) → reduced (plus (lifted u) (opposite (lifted t))) ≡ reduced (lifted u) ⊕ minus (reduced (lifted t))
difference-reduced t u =
    reduced-plus (lifted u) (opposite (lifted t)) ∙ ap (λ s. reduced (lifted u) ⊕ s) (reduced-opposite (lifted t))

module _ (l : List Triple) (L : Points l) where
  least-rank-is : (t : Triple) → (p : Triple) × Mem p l × (least_rank l t ≡ rank (t ⊕ p))
  least-rank-is t = elim (least-rank-at l t) [
    | inl h ↦ h
    | inr h ↦ absurd
        (omega (arith, least-rank-le l t L.holds-zero, rank_lt _ (⊕-reduced t zero_triple)))
  ]

  smallest-is : (t : Triple) → (p : Triple) × Mem p l × (smallest l t ≡ t ⊕ p)
  unfolding smallest
  smallest-is t = let (p, m, e) = least-rank-is t in (p, m, ap unrank e ∙ unrank-rank (t ⊕ p) (⊕-reduced t p))

  -- The smallest triple of t's class is below 12 and in the class,
  pub smallest-reduced : (t : Triple) → Reduced (smallest l t)
  smallest-reduced t = let (p, m, e) = smallest-is t in rw e (⊕-reduced t p)

  pub smallest-congruent : (t : Triple) → Congruent l (lifted (smallest l t)) (lifted t)
  smallest-congruent t =
      let (p, m, e) = smallest-is t in
      mem-cast (ap (λ s. reduced (plus (lifted s) (opposite (lifted t)))) e ∙ difference-reduced t (t ⊕ p) ∙ moved-less t p (L.below m)) m

  smallest-rank : (t u : Triple) → Reduced u → Congruent l (lifted u) (lifted t) → rank (smallest l t) ≤ rank u
  unfolding smallest
  smallest-rank t u h m =
      let (p, k, e) = least-rank-is t in
      let there : t ⊕ reduced (plus (lifted u) (opposite (lifted t))) ≡ u =
      ap (λ s. t ⊕ s) (difference-reduced t u ∙ ap (λ s. s ⊕ minus (reduced (lifted t))) (reduced-lifted u h)) ∙ moved-there t u h in
      let r : rank (unrank (least_rank l t)) ≡ least_rank l t = ap (λ n. rank (unrank n)) e ∙ ap rank (unrank-rank (t ⊕ p) (⊕-reduced t p)) ∙ sym e in
      rw (r, ← there) (least-rank-le l t m)

  -- and no triple below 12 of the class comes before it.
  pub smallest-least : (t u : Triple) → Reduced u → Congruent l (lifted u) (lifted t) → ¬ Before u (smallest l t)
  smallest-least t u h m b =
      absurd (omega (arith, smallest-rank t u h m, (before-rank u (smallest l t) h (smallest-reduced t)).0 b))

  -- Two triples are in one class exactly if their smallest triples are equal.
  pub smallest-classes : (t u : Triple) → Congruent l (lifted t) (lifted u) ↔ (smallest l t ≡ smallest l u)
  smallest-classes t u = ((λ c. forth t u c), λ e. back t u e)
    where
      below : (t u : Triple) → Congruent l (lifted t) (lifted u) → rank (smallest l t) ≤ rank (smallest l u)
      below t u c =
          smallest-rank t (smallest l u) (smallest-reduced u)
          (congruent-transitive l L (lifted (smallest l u)) (lifted u) (lifted t) (smallest-congruent u) (congruent-symmetric l L (lifted t) (lifted u) c))

      forth : (t u : Triple) → Congruent l (lifted t) (lifted u) → smallest l t ≡ smallest l u
      forth t u c =
          rank-injective (smallest l t) (smallest l u) (smallest-reduced t) (smallest-reduced u)
          (omega (arith, below t u c, below u t (congruent-symmetric l L (lifted t) (lifted u) c)))

      back : (t u : Triple) → smallest l t ≡ smallest l u → Congruent l (lifted t) (lifted u)
      back t u e =
          congruent-transitive l L (lifted t) (lifted (smallest l t)) (lifted u)
          (congruent-symmetric l L (lifted (smallest l t)) (lifted t) (smallest-congruent t))
          (rw e (smallest-congruent u))

  -- Only one triple is below 12 and in the class, with no triple below 12 of the class before it.
  pub smallest-unique : (t s : Triple) → Reduced s → Congruent l (lifted s) (lifted t)
      → ((u : Triple) → Reduced u → Congruent l (lifted u) (lifted t) → ¬ Before u s) → s ≡ smallest l t
  smallest-unique t s h c least = elim (dec_lt (rank (smallest l t)) (rank s)) [
    | yes r ↦ absurd (least (smallest l t) (smallest-reduced t) (smallest-congruent t) ((before-rank (smallest l t) s (smallest-reduced t) h).1 r))
    | no r ↦ rank-injective s (smallest l t) h (smallest-reduced t) (omega (arith, smallest-rank t s h c))
  ]

-- ---- a list of points filled up with (0,0,0), which changes nothing: code tests a fixed number of points
unfoldable pub filled : ℕ → List Triple → List Triple
filled zero l = l
filled (suc n) [] = zero_triple ∷ filled n []
filled (suc n) (p ∷ l) = p ∷ filled n l

filled-has : (n : ℕ) (l : List Triple) (t : Triple) → T (has same_triple t (filled n l)) → T (has same_triple t l) ⊎ (t ≡ zero_triple)
unfolding filled has
filled-has zero l t h = inl h
filled-has (suc n) [] t h = elim (or_cases (same_triple t zero_triple) _ h) [
  | inl s ↦ inr (triple-decides.exact t zero_triple s)
  | inr r ↦ filled-has n [] t r
]
filled-has (suc n) (p ∷ l) t h = elim (or_cases (same_triple t p) _ h) [
  | inl s ↦ inl (or_left (same_triple t p) _ s)
  | inr r ↦ elim (filled-has n l t r) [ inl k ↦ inl (or_right (same_triple t p) _ k) | inr e ↦ inr e ]
]

has-filled : (n : ℕ) (l : List Triple) (t : Triple) → T (has same_triple t l) → T (has same_triple t (filled n l))
unfolding filled has
has-filled zero l t h = h
has-filled (suc n) (p ∷ l) t h = elim (or_cases (same_triple t p) _ h) [
  | inl s ↦ or_left (same_triple t p) _ s
  | inr r ↦ or_right (same_triple t p) _ (has-filled n l t r)
]
has-filled (suc n) [] t h = elim h [ ]

least-rank-filled-le : (n : ℕ) (l : List Triple) (t : Triple) → least_rank (filled n l) t ≤ least_rank l t
unfolding filled least_rank
least-rank-filled-le zero l t = omega arith
least-rank-filled-le (suc n) [] t = let h = least-rank-filled-le n [] t in omega arith
least-rank-filled-le (suc n) (p ∷ l) t = let h = least-rank-filled-le n l t in omega arith

least-rank-filled-ge : (n : ℕ) (l : List Triple) (t : Triple) → min (least_rank l t) (rank (t ⊕ zero_triple)) ≤ least_rank (filled n l) t
unfolding filled least_rank
least-rank-filled-ge zero l t = omega arith
least-rank-filled-ge (suc n) [] t = let h = least-rank-filled-ge n [] t in omega arith
least-rank-filled-ge (suc n) (p ∷ l) t = let h = least-rank-filled-ge n l t in omega arith

filled-all : (n : ℕ) (test : Triple → Bool) (l : List Triple) → T (test zero_triple) → T (all test l) → T (all test (filled n l))
unfolding filled all
filled-all zero test l z h = h
filled-all (suc n) test [] z h = both (test zero_triple) _ z (filled-all n test [] z tt)
filled-all (suc n) test (p ∷ l) z h = both (test p) _ (and_left (test p) _ h) (filled-all n test l z (and_right (test p) _ h))

all-filled : (n : ℕ) (test : Triple → Bool) (l : List Triple) → T (all test (filled n l)) → T (all test l)
unfolding filled all
all-filled zero test l h = h
all-filled (suc n) test [] h = tt
all-filled (suc n) test (p ∷ l) h = both (test p) _ (and_left (test p) _ h) (all-filled n test l (and_right (test p) _ h))

module _ (l : List Triple) (L : Points l) where
  pub has-filled-same : (n : ℕ) (t : Triple) → has same_triple t (filled n l) ≡ has same_triple t l
  has-filled-same n t =
      same_test _ _
      (λ h. elim (filled-has n l t h) [
        | inl k ↦ k
        | inr e ↦ Mem→has same_triple (equality-equivalence same_triple triple-decides) (mem-cast e L.holds-zero)
      ])
      (has-filled n l t)

  pub smallest-filled : (n : ℕ) (t : Triple) → smallest (filled n l) t ≡ smallest l t
  unfolding smallest
  smallest-filled n t =
      ap unrank (omega (arith, least-rank-filled-le n l t, least-rank-filled-ge n l t, least-rank-le l t L.holds-zero))
