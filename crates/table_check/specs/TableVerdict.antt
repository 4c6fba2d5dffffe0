-- When a table is accepted and when it is refused (R8, refusals 21 to 25), in the words of group theory: of any bytes exactly one of
-- the cases holds, and the check gives that one.
use Rattle.std.specs.Prelude.{◌≡◌, ◌⊎◌, ◌↔◌, true, false, List, ℕ, ◌<◌, ◌≤◌, ltb, Err, Ok, Result}
use Rattle.std.proofs.Common.{sym, ◌∙◌}
use Rattle.std.proofs.Math.Logic.{inl, inr}
use Rattle.std.proofs.Math.Bool.{true≢false}
use Rattle.std.proofs.Math.Decide.{ℕ_discrete, dec_lt}
use native.Mathlib.Omega.{arith}
use borrow.Author.Tests.{eq-eqb, ne_eqb, lt-ltb, le-ltb, eqb-false, ltb-true}
use Rattle.subgroup_laws.specs.Bounded.{every-passes, passes-every, every-fails, fails-every}
use Rattle.laws.specs.Truth.{passes-or-fails, not-passing}
use Rattle.subgroup_laws.specs.GroupLaws.{TwoSidedIdentity, TwoSidedInverse, identity-found, found-identity, found-inverse, inverse-found, associative-passes, passes-associative, group-made, group-identity, group-inverses}
use Rattle.subgroup_laws.specs.Groups.{Group, identity_of, has_inverses, associates_at, associates}
use Rattle.subgroup_laws.specs.Table.{product, Cells, good_cells, GroupTable}
use Rattle.subgroup_laws.specs.TableCells.{good-cells, cells-good, product-below}
use Rattle.table_check.specs.CheckAnswers.{check_of, Accepts}
use Rattle.table_check.specs.declared.Refusal.TheVariants.{Order, «Cells» as NoCells, Identity, Inverse, Associativity}
use Rattle.table_check.specs.declared.Refusal.{Refusal}

module _ (n : ℕ) (t : List ℕ) where
  -- each element has a two-sided inverse
  abbrev AllInverses : ℕ → Type 0
  AllInverses e = (x : ℕ) → x < n → (y : ℕ) × TwoSidedInverse n (product n t) e x y

  -- each case with the refusals before it ruled out
  pub data Verdict : Result ℕ Refusal → Type 0 where
    order-refused : (n ≡ 0) ⊎ (48 < n) → Verdict (Err Order)
    cells-refused : 0 < n → n ≤ 48 → ¬ Cells n t → Verdict (Err NoCells)
    identity-refused : 0 < n → Cells n t → ((e : ℕ) → ¬ TwoSidedIdentity n (product n t) e) → Verdict (Err Identity)
    inverse-refused : 0 < n → Cells n t → (e : ℕ) → TwoSidedIdentity n (product n t) e
        → (x : ℕ) → x < n → ((y : ℕ) → ¬ TwoSidedInverse n (product n t) e x y) → Verdict (Err Inverse)
    associativity-refused : 0 < n → Cells n t → (e : ℕ) → TwoSidedIdentity n (product n t) e → AllInverses e
        → (x y z : ℕ) → x < n → y < n → z < n
        → (product n t (product n t x y) z ≡ product n t x (product n t y z) → ⊥) → Verdict (Err Associativity)
    accepted : 0 < n → Cells n t → (e : ℕ) → Group n (product n t) e → Verdict (Ok e)

  -- inverses for all pass the test
  all-inverses : (e : ℕ) → AllInverses e → has_inverses n (product n t) e ≡ true
  unfolding has_inverses
  all-inverses e f = passes-every _ n (λ x h. lt-ltb _ _ (let (y, I) = f x h in inverse-found n (product n t) e x y I))

  -- an element without an inverse fails it
  no-inverse : (e x : ℕ) → x < n → ((y : ℕ) → ¬ TwoSidedInverse n (product n t) e x y) → has_inverses n (product n t) e ≡ false
  unfolding has_inverses
  no-inverse e x h none = fails-every _ n x h (not-passing _ (λ l. none _ (found-inverse n (product n t) e x (ltb-true _ _ l))))

  -- a triple that does not associate fails the test
  not-associative : (x y z : ℕ) → x < n → y < n → z < n → (product n t (product n t x y) z ≡ product n t x (product n t y z) → ⊥)
      → associates n (product n t) ≡ false
  not-associative x y z h k l differ = not-passing _ (λ a. differ (associative-passes n (product n t) a x y z h k l))

  -- whatever case holds, the check gives it
  pub verdict-checked : {c : Result ℕ Refusal} → Verdict c → check_of n t ≡ c
  unfolding check_of
  verdict-checked (order-refused (inl e)) = simp (eq-eqb n 0 e)
  verdict-checked (order-refused (inr h)) = let q : n ≡ 0 → ⊥ = λ e. omega arith in simp (ne_eqb n 0 q, lt-ltb 48 n h)
  verdict-checked (cells-refused h k none) =
      let q : n ≡ 0 → ⊥ = λ e. omega arith in
      simp (ne_eqb n 0 q, le-ltb 48 n k, not-passing (good_cells n t) (λ g. none (good-cells n t k g)))
  verdict-checked (identity-refused h C none) =
      let q : n ≡ 0 → ⊥ = λ e. omega arith in
      simp (
        ne_eqb n 0 q,
        le-ltb 48 n C.limit,
        cells-good n t C,
        not-passing (ltb (identity_of n (product n t)) n) (λ l. none _ (found-identity n (product n t) (ltb-true _ _ l))),
      )
  verdict-checked (inverse-refused h C e I x k none) =
      let q : n ≡ 0 → ⊥ = λ e. omega arith in
      simp (
        ne_eqb n 0 q,
        le-ltb 48 n C.limit,
        cells-good n t C,
        identity-found n (product n t) e I,
        lt-ltb e n I.below,
        no-inverse e x k none,
      )
  verdict-checked (associativity-refused h C e I J x y z k l m differ) =
      let q : n ≡ 0 → ⊥ = λ e. omega arith in
      simp (
        ne_eqb n 0 q,
        le-ltb 48 n C.limit,
        cells-good n t C,
        identity-found n (product n t) e I,
        lt-ltb e n I.below,
        all-inverses e J,
        not-associative x y z k l m differ,
      )
  verdict-checked (accepted h C e G) =
      let q : n ≡ 0 → ⊥ = λ e. omega arith in
      let I = group-identity n (product n t) e G in
      simp (
        ne_eqb n 0 q,
        le-ltb 48 n C.limit,
        cells-good n t C,
        identity-found n (product n t) e I,
        lt-ltb e n I.below,
        group-inverses n (product n t) e G,
        passes-associative n (product n t) G.associative,
      )

  -- a product that fails the test of associativity has a triple that does not associate
  triple-found : associates n (product n t) ≡ false
      → (x y z : ℕ) × (x < n) × (y < n) × (z < n) × (product n t (product n t x y) z ≡ product n t x (product n t y z) → ⊥)
  unfolding associates associates_at
  triple-found f =
      let (x, h, g) = every-fails _ n f in
      let (y, k, d) = every-fails _ n g in
      let (z, l, e) = every-fails _ n d in
      (x, y, z, h, k, l, eqb-false _ _ e)

  -- an order, cells and an identity leave the last three cases
  with-identity : 0 < n → Cells n t → (e : ℕ) → TwoSidedIdentity n (product n t) e → (c : Result ℕ Refusal) × Verdict c
  unfolding has_inverses
  with-identity h C e I = elim (passes-or-fails (has_inverses n (product n t) e)) [
    | inr f ↦ let (x, k, g) = every-fails _ n f in
        (Err Inverse, inverse-refused h C e I x k (λ y J. true≢false (sym (lt-ltb _ _ (inverse-found n (product n t) e x y J)) ∙ g)))
    | inl f ↦ elim (passes-or-fails (associates n (product n t))) [
      | inl a ↦ (Ok e, accepted h C e (group-made n (product n t) (product-below n t C) e I f a))
      | inr a ↦ let (x, y, z, j, k, l, differ) = triple-found a in (
        Err Associativity,
        associativity-refused h C e I
            (λ x k. (_, found-inverse n (product n t) e x (ltb-true _ _ (every-passes _ n f x k)))) x y z j k l differ,
      )
    ]
  ]

  -- some case holds
  some-verdict : (c : Result ℕ Refusal) × Verdict c
  some-verdict = elim (ℕ_discrete n 0) [
    | yes e ↦ (Err Order, order-refused (inl e))
    | no e ↦ elim (dec_lt 48 n) [
      | yes h ↦ (Err Order, order-refused (inr h))
      | no h ↦ elim (passes-or-fails (good_cells n t)) [
        | inr g ↦ (Err NoCells, cells-refused (omega arith) (omega arith) (λ C. true≢false (sym (cells-good n t C) ∙ g)))
        | inl g ↦
            let C = good-cells n t (omega arith) g in
            elim (dec_lt (identity_of n (product n t)) n) [
              | yes k ↦ with-identity (omega arith) C (identity_of n (product n t)) (found-identity n (product n t) k)
              | no k ↦ (
                Err Identity,
                identity-refused (omega arith) C
                    (λ e I. let q = identity-found n (product n t) e I in let l = I.below in k (omega arith)),
              )
            ]
      ]
    ]
  ]

  -- the case that the check gives holds, so exactly one does
  pub checked-verdict : Verdict (check_of n t)
  checked-verdict = let (c, v) = some-verdict in rw (verdict-checked v) v

-- a table is accepted exactly if its order is 1 to 48 and it is that of a group
pub accepted-exactly : (n : ℕ) (t : List ℕ) (e : ℕ) → Accepts n t e ↔ ((0 < n) × Cells n t × Group n (product n t) e)
accepted-exactly n t e = (λ p. read (checked-verdict n t) p, λ g. verdict-checked n t (accepted g.0 g.1 e g.2))
  where
    read : {c : Result ℕ Refusal} → Verdict n t c → c ≡ Ok e → (0 < n) × Cells n t × Group n (product n t) e
    read (order-refused h) p = absurd (let z : ◌≡◌ {A = ℕ} 0 1 = cc in omega arith)
    read (cells-refused h k f) p = absurd (let z : ◌≡◌ {A = ℕ} 0 1 = cc in omega arith)
    read (identity-refused h C f) p = absurd (let z : ◌≡◌ {A = ℕ} 0 1 = cc in omega arith)
    read (inverse-refused h C f I x k g) p = absurd (let z : ◌≡◌ {A = ℕ} 0 1 = cc in omega arith)
    read (associativity-refused h C f I J x y z k l m g) p = absurd (let z : ◌≡◌ {A = ℕ} 0 1 = cc in omega arith)
    read (accepted h C f G) p = let q : f ≡ e = cc in (h, C, rw q at G)

-- what is accepted is the table of a group
pub checked-table : (n : ℕ) (t : List ℕ) (e : ℕ) → Accepts n t e → GroupTable n t e
checked-table n t e p = let (h, C, G) = (accepted-exactly n t e).0 p in record { cells = C; group = G }
