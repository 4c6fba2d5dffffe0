-- What is answered on the bytes of a table can be packed: elements and orders are at most 48, sets are below 2⁴⁸, and a list of
-- different sets is no longer than that.
use Rattle.std.specs.Prelude.{◌≡◌, refl, Bool, true, false, List, [], ◌∷◌, ℕ, zero, suc, ◌/◌, ◌^◌, ◌<◌, ◌≤◌, ltb, length, Err, Ok, Result}
use Rattle.std.proofs.Common.{ap, arith, ltb-true}
use Rattle.std.proofs.Math.Bool.{cond}
use Rattle.std.proofs.Math.Decide.{ℕ_discrete}
use Rattle.std.specs.Int.Count.{ones, ones-le}
use Rattle.std.proofs.Math.Dec.{eqb}
use Rattle.std.proofs.Math.Pow.{pow-lt}
use Rattle.laws.specs.ListOrder.{earlier}
use Rattle.laws.specs.Sets.{set_of-below}
use Rattle.laws.specs.Sorted.{keep, sort-length}
use Rattle.laws.specs.Truth.{and_both}
use Rattle.finite_group.specs.Answers.{on_group, list_answer, order_answer, identity_answer, subgroups_answer, classes_answer, conjugate_answer, conjugate_entry, normalizer_answer, normalizer_entry, permutation_answer, permutation_entry, conjugates_answer, conjugates_entry, number_of, place_of, table_answer}
use Rattle.conjugation.specs.LentConjugates.{too_short}
use Rattle.subgroup_laws.specs.Conjugates.{others_of, is_other, conjugates_of}
use Rattle.subgroup_laws.specs.Conjugation.{conjugate-below}
use Rattle.subgroup_laws.specs.Groups.{Group}
use Rattle.subgroup_laws.specs.ListedSets.{listed}
use Rattle.subgroup_laws.specs.Lists.{chosen, subgroups_of, representatives_of}
use Rattle.subgroup_laws.specs.SubgroupLaws.{below}
use Rattle.subgroup_laws.specs.Subsets.{is_subgroup, conjugate_of, normalizer_of}
use Rattle.subgroup_laws.specs.Table.{product}
use Rattle.table_check.specs.CheckAnswers.{check_of}
use Rattle.table_check.specs.TableVerdict.{Verdict, order-refused, cells-refused, identity-refused, inverse-refused, associativity-refused, accepted, checked-verdict}
use Rattle.table_check.specs.declared.Refusal.{Refusal}
use Rattle.table_check.specs.declared.Refusal.TheVariants.{Order, Cells, Identity, Inverse, Associativity, Slots, Subgroup, Element, Normalizer}
use Rattle.answer_numbers.specs.Packing.{Told, near, Within, Low}

-- An answer that can be packed.
abbrev pub Packable : Result ℕ Refusal → Type 0
Packable a = Within Low (table_answer a)

-- ---- refusals
-- 21 to 29, at 0.
pub refusal-told : (r : Refusal) → Told (number_of r) (place_of r)
unfolding number_of place_of
refusal-told Order = near (omega arith) (omega arith) (omega arith)
refusal-told Cells = near (omega arith) (omega arith) (omega arith)
refusal-told Identity = near (omega arith) (omega arith) (omega arith)
refusal-told Inverse = near (omega arith) (omega arith) (omega arith)
refusal-told Associativity = near (omega arith) (omega arith) (omega arith)
refusal-told Slots = near (omega arith) (omega arith) (omega arith)
refusal-told Subgroup = near (omega arith) (omega arith) (omega arith)
refusal-told Element = near (omega arith) (omega arith) (omega arith)
refusal-told Normalizer = near (omega arith) (omega arith) (omega arith)

-- Either answer of a test, where the test's outcome may be used.
either : (test : Bool) (a b : Result ℕ Refusal) → (test ≡ true → Packable a) → Packable b → Packable (cond test a b)
either true a b h k = h refl
either false a b h k = k

-- ---- lengths of lists
below_length : (n : ℕ) → length (below n) ≡ n
unfolding below
below_length zero = refl
below_length (suc n) = ap suc (below_length n)

keep-short : (p : ℕ → Bool) (l : List ℕ) → length (keep p l) ≤ length l
unfolding keep
keep-short p [] = omega arith
keep-short p (x ∷ l) = by-test (p x) (keep-short p l)
  where
    by-test : (b : Bool) → length (keep p l) ≤ length l → length (cond b (x ∷ keep p l) (keep p l)) ≤ suc (length l)
    by-test true h = omega arith
    by-test false h = omega arith

-- A list of sets of numbers below n has at most 2ⁿ.
listed-short : (n : ℕ) (p : ℕ → Bool) → length (listed n p) ≤ 2 ^ n
unfolding listed
listed-short n p =
    omega (arith, sort-length (earlier n) (keep p (below (2 ^ n))), keep-short p (below (2 ^ n)), below_length (2 ^ n))

-- At most 48 elements make at most 2⁴⁸ sets.
few-sets : (n : ℕ) → n ≤ 48 → 2 ^ n ≤ 281474976710656
few-sets n h = elim (ℕ_discrete n 48) [
  | yes e ↦ rw e (omega arith)
  | no d ↦ let less = pow-lt {i = n} {j = 48} (omega arith) in omega arith
]

-- ---- on a group of order at most 48
module _ (n : ℕ) (times : ℕ → ℕ → ℕ) (e : ℕ) (G : Group n times e) (limit : n ≤ 48) where
  set-low : (s : ℕ) → s < 2 ^ n → Low s
  set-low s h = omega (arith, few-sets n limit)

  list-packable : (p : ℕ → Bool) (b : List ℕ) → Packable (list_answer (listed n p) b)
  unfolding list_answer
  list-packable p b =
      either (ltb (length b / 8) (length (listed n p))) (Err Slots) (Ok (length (listed n p)))
      (λ _. refusal-told Slots) (omega (arith, listed-short n p, few-sets n limit))

  order-packable : Packable (Ok n)
  order-packable = omega arith

  identity-packable : Packable (Ok e)
  identity-packable = omega (arith, G.identity-below)

  conjugate-packable : (s g : ℕ) → Packable (conjugate_answer n times e s g)
  unfolding conjugate_answer
  conjugate-packable s g =
      either (is_subgroup n times e s) (cond (ltb g n) (Ok (conjugate_of n times e s g)) (Err Element)) (Err Subgroup)
      (λ _. either (ltb g n) (Ok (conjugate_of n times e s g)) (Err Element)
      (λ _. set-low (conjugate_of n times e s g) (conjugate-below n times e G s g)) (refusal-told Element))
      (refusal-told Subgroup)

  normalizer-packable : (s : ℕ) → Packable (normalizer_answer n times e s)
  unfolding normalizer_answer normalizer_of
  normalizer-packable s =
      either (is_subgroup n times e s) (Ok (normalizer_of n times e s)) (Err Subgroup)
      (λ _. set-low (normalizer_of n times e s) (set_of-below n (λ g. eqb (conjugate_of n times e s g) s))) (refusal-told Subgroup)

  -- A subgroup has at most as many members as the group.
  members-few : (s : ℕ) → is_subgroup n times e s ≡ true → ones s ≤ n
  unfolding is_subgroup
  members-few s t = ones-le n s (ltb-true s (2 ^ n) (and_both _ _ t).0)

  permutation-packable : (s g : ℕ) (b : List ℕ) → Packable (permutation_answer n times e s g b)
  unfolding permutation_answer
  permutation-packable s g b =
      let slots = cond (ltb (length b) (ones s)) (Err Slots) (Ok (ones s)) in
      let normal = cond (eqb (conjugate_of n times e s g) s) slots (Err Normalizer) in
      either (is_subgroup n times e s) (cond (ltb g n) normal (Err Element)) (Err Subgroup)
      (λ t. either (ltb g n) normal (Err Element)
      (λ _. either (eqb (conjugate_of n times e s g) s) slots (Err Normalizer)
      (λ _. either (ltb (length b) (ones s)) (Err Slots) (Ok (ones s)) (λ _. refusal-told Slots) (omega (arith, members-few s t)))
      (refusal-told Normalizer))
      (refusal-told Element))
      (refusal-told Subgroup)

  conjugates-packable : (s : ℕ) (b c : List ℕ) → Packable (conjugates_answer n times e s b c)
  unfolding conjugates_answer conjugates_of others_of
  conjugates-packable s b c =
      let fits = cond (too_short n times e s b c) (Err Slots) (Ok (length (conjugates_of n times e s))) in
      either (is_subgroup n times e s) fits (Err Subgroup)
      (λ _. either (too_short n times e s b c) (Err Slots) (Ok (length (conjugates_of n times e s)))
      (λ _. refusal-told Slots) (omega (arith, listed-short n (is_other n times e s), few-sets n limit)))
      (refusal-told Subgroup)

-- ---- on the bytes of a table
module _ (n : ℕ) (t : List ℕ) where
  -- What is packable on every group of at most 48 elements is packable on them, a group's or not.
  on-table : (f : ℕ → Result ℕ Refusal) → ((e : ℕ) → Group n (product n t) e → n ≤ 48 → Packable (f e)) → Packable (on_group (check_of n t) f)
  on-table f h = by-verdict (checked-verdict n t)
    where
      by-verdict : {c : _} → Verdict n t c → Packable (on_group c f)
      by-verdict (order-refused k) = refusal-told Order
      by-verdict (cells-refused k l m) = refusal-told Cells
      by-verdict (identity-refused k C m) = refusal-told Identity
      by-verdict (inverse-refused k C e I x l m) = refusal-told Inverse
      by-verdict (associativity-refused k C e I J x y z l m o p) = refusal-told Associativity
      by-verdict (accepted k C e G) = h e G C.limit

  pub table-order : Packable (order_answer n t)
  table-order = on-table (λ e. Ok n) (λ e G k. order-packable n (product n t) e G k)

  pub table-identity : Packable (identity_answer n t)
  table-identity = on-table (λ e. Ok e) (λ e G k. identity-packable n (product n t) e G k)

  pub table-subgroups : (b : List ℕ) → Packable (subgroups_answer n t b)
  unfolding subgroups_of
  table-subgroups b =
      on-table (λ e. list_answer (subgroups_of n (product n t) e) b)
      (λ e G k. list-packable n (product n t) e G k (chosen n (product n t) e false) b)

  pub table-classes : (b : List ℕ) → Packable (classes_answer n t b)
  unfolding representatives_of
  table-classes b =
      on-table (λ e. list_answer (representatives_of n (product n t) e) b)
      (λ e G k. list-packable n (product n t) e G k (chosen n (product n t) e true) b)

  pub table-conjugate : (s g : ℕ) → Packable (conjugate_entry n t s g)
  table-conjugate s g =
      on-table (λ e. conjugate_answer n (product n t) e s g) (λ e G k. conjugate-packable n (product n t) e G k s g)

  pub table-conjugates : (s : ℕ) (b c : List ℕ) → Packable (conjugates_entry n t s b c)
  table-conjugates s b c =
      on-table (λ e. conjugates_answer n (product n t) e s b c)
      (λ e G k. conjugates-packable n (product n t) e G k s b c)

  pub table-normalizer : (s : ℕ) → Packable (normalizer_entry n t s)
  table-normalizer s =
      on-table (λ e. normalizer_answer n (product n t) e s) (λ e G k. normalizer-packable n (product n t) e G k s)

  pub table-permutation : (s g : ℕ) (b : List ℕ) → Packable (permutation_entry n t s g b)
  table-permutation s g b =
      on-table (λ e. permutation_answer n (product n t) e s g b)
      (λ e G k. permutation-packable n (product n t) e G k s g b)
