-- Conjugation composes ((xi) of the requests): by a and then by b is by a b, by the identity nothing changes, by g and then by its inverse a subgroup
-- comes back, and the inverse of a b is b's inverse times a's. Said of the definitions that the entries answer by, of the answers when one is fed
-- into the next call, and for the groups of symbols and records.
use Rattle.std.proofs.Math.Path.{◌≡◌, refl}
use Rattle.std.proofs.Common.{sym, ap, ◌∙◌, arith}
use Rattle.std.specs.Prelude.{Bool, List, ℕ, ◌<◌, ltb, Err, Ok, Result}
use Rattle.std.proofs.Math.Bool.{true, false, cond}
use borrow.Author.Tests.{lt-ltb, ltb-true}
use Rattle.symbol_group.specs.Answers.{order_of}
use Rattle.group_record.specs.Acceptance.{Bytes}
use Rattle.subgroup_laws.specs.Conjugation.{inverse-below, conjugate-subgroup, conjugate-set-twice, conjugate-set-by-identity, conjugate-set-back}
use Rattle.subgroup_laws.specs.Conjugation as conjugation
use Rattle.subgroup_laws.specs.Groups.{Group, inverse_of}
use Rattle.subgroup_laws.specs.SubgroupLaws.{test-subgroup, subgroup-test}
use Rattle.subgroup_laws.specs.Subsets.{Subgroup, is_subgroup, conjugate_of}
use Rattle.subgroup_laws.specs.Table.{product}
use Rattle.group_table.specs.Tables.{symbol_cells, order_of_record, record_cells}
use Rattle.finite_group.specs.Answers.{conjugate_answer, conjugate_entry, identity_answer}
use Rattle.table_check.specs.CheckAnswers.{Accepts}
use Rattle.table_check.specs.TableVerdict.{checked-table}
use Rattle.table_check.specs.declared.Refusal.TheVariants as table-refusals
use Rattle.motion_tables.specs.Answers.{of_table, on_symbol, on_record}
use Rattle.group_facts.specs.Asked.{Asked, told-value, symbol-asked, record-asked, identity-told}
use Rattle.motion_tables.specs.declared.Refusal.{Refusal}
use Rattle.table_check.specs.declared.Refusal.{Refusal as TableRefusal}

-- ---- the definitions

module _ (n : ℕ) (t : List ℕ) (e : ℕ) (accepted : Accepts n t e) where
  -- the table's group
  the-group : Group n (product n t) e
  the-group = (checked-table n t e accepted).group

  -- the inverse of a product
  pub inverse-of-product : (a b : ℕ) → a < n → b < n
      → inverse_of n (product n t) e (product n t a b) ≡ product n t (inverse_of n (product n t) e b) (inverse_of n (product n t) e a)
  inverse-of-product a b h k = conjugation.inverse-of-product n (product n t) e the-group a b h k

  -- by a and then by b is by a b
  pub by-one-then-other : (h a b : ℕ) → Subgroup n (product n t) e h → a < n → b < n
      → conjugate_of n (product n t) e (conjugate_of n (product n t) e h a) b ≡ conjugate_of n (product n t) e h (product n t a b)
  by-one-then-other h a b H k l = conjugate-set-twice n (product n t) e the-group h a b H.small k l

  -- by the identity nothing changes
  pub by-identity : (h : ℕ) → Subgroup n (product n t) e h → conjugate_of n (product n t) e h e ≡ h
  by-identity h H = conjugate-set-by-identity n (product n t) e the-group h H.small

  -- by g and then by its inverse the subgroup comes back
  pub there_and_back : (h g : ℕ) → Subgroup n (product n t) e h → g < n
      → conjugate_of n (product n t) e (conjugate_of n (product n t) e h g) (inverse_of n (product n t) e g) ≡ h
  there_and_back h g H l = conjugate-set-back n (product n t) e the-group h g H.small l

  -- ---- the answers

  -- a value is the conjugate of a subgroup by an element
  value-conjugate : (h g k : ℕ) → conjugate_entry n t h g ≡ Ok k
      → Subgroup n (product n t) e h × (g < n) × (conjugate_of n (product n t) e h g ≡ k)
  unfolding conjugate_answer
  value-conjugate h g k p =
      let (a, b, q) = read (is_subgroup n (product n t) e h) (ltb g n) (conjugate_of n (product n t) e h g) (rw accepted at p) in
      (test-subgroup n (product n t) e the-group h a, ltb-true g n b, q)
    where
      read : (a b : Bool) (v : ℕ)
          → cond a (cond b (Ok v) (Err table-refusals.Element)) (Err table-refusals.Subgroup)
          ≡ Ok k
          → (a ≡ true) × (b ≡ true) × (v ≡ k)
      read true true v q = (refl, refl, cc)
      read true false v q = let z : ◌≡◌ {A = ℕ} 0 1 = cc in absurd (omega arith)
      read false b v q = let z : ◌≡◌ {A = ℕ} 0 1 = cc in absurd (omega arith)

  -- and such a conjugate is the value
  conjugate-value : (h g : ℕ) → Subgroup n (product n t) e h → g < n → conjugate_entry n t h g ≡ Ok (conjugate_of n (product n t) e h g)
  unfolding conjugate_answer
  conjugate-value h g H l = rw (accepted, subgroup-test n (product n t) e the-group h H, lt-ltb g n l) refl

  -- what is answered for a is asked again with b: the answer is that for a b
  pub conjugate-composes : (h a b k : ℕ) → b < n → conjugate_entry n t h a ≡ Ok k
      → conjugate_entry n t k b ≡ conjugate_entry n t h (product n t a b)
  conjugate-composes h a b k l p =
      let (H, m, q) = value-conjugate h a k p in
      ap (λ (s : ℕ). conjugate_entry n t s b) (sym q)
      ∙ conjugate-value (conjugate_of n (product n t) e h a) b (conjugate-subgroup n (product n t) e the-group h a m H) l
      ∙ ap Ok (by-one-then-other h a b H m l)
      ∙ sym (conjugate-value h (product n t a b) H (the-group.product-below a b m l))

  -- a subgroup is answered for the identity
  pub conjugate-identity : (h : ℕ) → Subgroup n (product n t) e h → conjugate_entry n t h e ≡ Ok h
  conjugate-identity h H = conjugate-value h e H the-group.identity-below ∙ ap Ok (by-identity h H)

  -- what is answered for g is asked again with g's inverse: the answer is the subgroup
  pub conjugate-returns : (h g k : ℕ) → conjugate_entry n t h g ≡ Ok k
      → conjugate_entry n t k (inverse_of n (product n t) e g) ≡ Ok h
  conjugate-returns h g k p =
      let (H, l, q) = value-conjugate h g k p in
      ap (λ (s : ℕ). conjugate_entry n t s (inverse_of n (product n t) e g)) (sym q)
      ∙ conjugate-value (conjugate_of n (product n t) e h g) (inverse_of n (product n t) e g) (conjugate-subgroup n (product n t) e the-group h g l H)
      (inverse-below n (product n t) e the-group g l)
      ∙ ap Ok (there_and_back h g H l)

-- ---- symbols and records

module _ (on : (ℕ → List ℕ → Result ℕ TableRefusal) → Result ℕ Refusal) (t : List ℕ) (Order : ℕ → Type 0) (A : Asked on t Order) where
  -- composing
  asked-composes : (n h a b k : ℕ) → Order n → b < n → on (λ n t. conjugate_entry n t h a) ≡ Ok k
      → on (λ n t. conjugate_entry n t k b) ≡ on (λ n t. conjugate_entry n t h (product n t a b))
  asked-composes n h a b k o l p =
      let (e, accepted) = A.accepted n o in
      A.told n o (λ n t. conjugate_entry n t k b)
      ∙ ap of_table (conjugate-composes n t e accepted h a b k l (told-value _ k (sym (A.told n o (λ n t. conjugate_entry n t h a)) ∙ p)))
      ∙ sym (A.told n o (λ n t. conjugate_entry n t h (product n t a b)))

  -- the identity
  asked-identity : (n e h : ℕ) → Order n → on identity_answer ≡ Ok e → Subgroup n (product n t) e h → on (λ n t. conjugate_entry n t h e) ≡ Ok h
  asked-identity n e h o p H =
      let (f, accepted) = A.accepted n o in
      A.told n o (λ n t. conjugate_entry n t h e)
      ∙ ap of_table (conjugate-identity n t e (identity-told n t e f accepted (told-value _ e (sym (A.told n o identity_answer) ∙ p))) h H)

  -- there and back
  asked-returns : (e h g k : ℕ) → on identity_answer ≡ Ok e → on (λ n t. conjugate_entry n t h g) ≡ Ok k
      → on (λ n t. conjugate_entry n t k (inverse_of n (product n t) e g)) ≡ Ok h
  asked-returns e h g k p q =
      let (n, o, v) = A.value (λ n t. conjugate_entry n t h g) k q in
      let (f, accepted) = A.accepted n o in
      A.told n o (λ n t. conjugate_entry n t k (inverse_of n (product n t) e g))
      ∙ ap of_table (conjugate-returns n t e (identity-told n t e f accepted (told-value _ e (sym (A.told n o identity_answer) ∙ p))) h g k v)

-- the group of an accepted symbol: by a and then by b
pub symbol-composes : (text : List ℕ) (n h a b k : ℕ) → order_of text ≡ Ok n → b < n → on_symbol text (λ n t. conjugate_entry n t h a) ≡ Ok k
    → on_symbol text (λ n t. conjugate_entry n t k b) ≡ on_symbol text (λ n t. conjugate_entry n t h (product n t a b))
symbol-composes text = asked-composes _ _ _ (symbol-asked text)

-- by the identity
pub symbol-identity : (text : List ℕ) (n e h : ℕ) → order_of text ≡ Ok n → on_symbol text identity_answer ≡ Ok e
    → Subgroup n (product n (symbol_cells text)) e h → on_symbol text (λ n t. conjugate_entry n t h e) ≡ Ok h
symbol-identity text = asked-identity _ _ _ (symbol-asked text)

-- by g and then by its inverse
pub symbol-returns : (text : List ℕ) (e h g k : ℕ) → on_symbol text identity_answer ≡ Ok e → on_symbol text (λ n t. conjugate_entry n t h g) ≡ Ok k
    → on_symbol text (λ n t. conjugate_entry n t k (inverse_of n (product n t) e g)) ≡ Ok h
symbol-returns text = asked-returns _ _ _ (symbol-asked text)

-- the group of a record that is read: by a and then by b
pub record-composes : (bytes : List ℕ) → Bytes bytes → (n h a b k : ℕ) → order_of_record bytes ≡ Ok n → b < n
    → on_record bytes (λ n t. conjugate_entry n t h a) ≡ Ok k
    → on_record bytes (λ n t. conjugate_entry n t k b) ≡ on_record bytes (λ n t. conjugate_entry n t h (product n t a b))
record-composes bytes b = asked-composes _ _ _ (record-asked bytes b)

-- by the identity
pub record-identity : (bytes : List ℕ) → Bytes bytes → (n e h : ℕ) → order_of_record bytes ≡ Ok n → on_record bytes identity_answer ≡ Ok e
    → Subgroup n (product n (record_cells bytes)) e h → on_record bytes (λ n t. conjugate_entry n t h e) ≡ Ok h
record-identity bytes b = asked-identity _ _ _ (record-asked bytes b)

-- by g and then by its inverse
pub record-returns : (bytes : List ℕ) → Bytes bytes → (e h g k : ℕ) → on_record bytes identity_answer ≡ Ok e
    → on_record bytes (λ n t. conjugate_entry n t h g) ≡ Ok k → on_record bytes (λ n t. conjugate_entry n t k (inverse_of n (product n t) e g)) ≡ Ok h
record-returns bytes b = asked-returns _ _ _ (record-asked bytes b)
