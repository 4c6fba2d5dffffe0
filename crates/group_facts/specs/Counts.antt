-- Counts that fit ((xiv) of the requests): a subgroup's conjugates times its normalizer's order is the group's order, each subgroup's order divides it,
-- the classes share no subgroup, hold all and add up to their number, and each permutation has every position once and moves products to products.
-- Said of the definitions for every accepted table, and of the entries' answers.
use Rattle.std.proofs.Math.Path.{◌≡◌, refl}
use Rattle.std.proofs.Common.{sym, ap, ap₂, ◌∙◌, subst, arith}
use Rattle.std.specs.Prelude.{Bool, ℕ, ◌*◌, ◌/◌, ◌<◌, ltb, length, get_or, drop, Err, Ok, Result}
use Rattle.std.proofs.Math.Bool.{true, false, cond}
use mathlib.Core.List.{List, ◌++◌, Memᴰ as Mem}
use Rattle.std.specs.Int.Count.{ones}
use Rattle.std.proofs.Math.Dec.{eqb}
use Rattle.std.proofs.Math.ListN.{get_or-append}
use borrow.Author.Tests.{ltb-true, eqb-true}
use Rattle.laws.specs.Counting.{total, total-same}
use Rattle.laws.specs.Sets.{members}
use Rattle.symbol_group.specs.Answers.{order_of}
use Rattle.group_record.specs.Acceptance.{Bytes}
use Rattle.subgroup_laws.specs.ClassCounts as classes
use Rattle.subgroup_laws.specs.Conjugates.{conjugates_of}
use Rattle.subgroup_laws.specs.CosetCounts as cosets
use Rattle.subgroup_laws.specs.Groups.{Group}
use Rattle.subgroup_laws.specs.Lists.{subgroups_of, representatives_of}
use Rattle.subgroup_laws.specs.PermutationProducts as permutations
use Rattle.subgroup_laws.specs.Permutations.{permutation_of, permutation-length}
use Rattle.subgroup_laws.specs.SubgroupLaws.{test-subgroup}
use Rattle.subgroup_laws.specs.Subsets.{Subgroup, is_subgroup, conjugate_of, normalizer_of}
use Rattle.subgroup_laws.specs.Table.{product}
use Rattle.group_table.specs.Tables.{order_of_record}
use Rattle.finite_group.specs.Answers.{list_answer, subgroups_answer, conjugates_answer, conjugates_entry, normalizer_answer, normalizer_entry, permutation_answer, permutation_bytes, permutation_entry, permutation_list}
use Rattle.conjugation.specs.LentConjugates.{too_short}
use Rattle.table_check.specs.CheckAnswers.{Accepts}
use Rattle.table_check.specs.TableVerdict.{checked-table}
use Rattle.table_check.specs.declared.Refusal.TheVariants as table-refusals
use Rattle.motion_tables.specs.Answers.{on_symbol, on_record}
use Rattle.group_facts.specs.Asked.{Asked, told-value, symbol-asked, record-asked}
use Rattle.motion_tables.specs.declared.Refusal.{Refusal}
use Rattle.table_check.specs.declared.Refusal.{Refusal as TableRefusal}

-- the first k entries of p are the positions of h's members, each once, and they move products to products
pub record Permutes (n : ℕ) (t : List ℕ) (h k : ℕ) (p : List ℕ) : Type 0 where
  pub below : (i : ℕ) → i < k → get_or p i 0 < k
  pub once : (i j : ℕ) → i < k → j < k → get_or p i 0 ≡ get_or p j 0 → i ≡ j
  pub onto : (j : ℕ) → j < k → (i : ℕ) × (i < k) × (get_or p i 0 ≡ j)
  pub products : (i j l : ℕ) → i < k → j < k → l < k
      → product n t (get_or (members n h) i 0) (get_or (members n h) j 0) ≡ get_or (members n h) l 0
      → product n t (get_or (members n h) (get_or p i 0) 0) (get_or (members n h) (get_or p j 0) 0) ≡ get_or (members n h) (get_or p l 0) 0

module _ (n : ℕ) (t : List ℕ) (e : ℕ) (accepted : Accepts n t e) where
  -- the table's group
  the-group : Group n (product n t) e
  the-group = (checked-table n t e accepted).group

  -- ---- the definitions

  -- a subgroup's conjugates times the order of its normalizer
  pub conjugates-times-normalizer : (h : ℕ) → Subgroup n (product n t) e h
      → length (conjugates_of n (product n t) e h) * ones (normalizer_of n (product n t) e h) ≡ n
  conjugates-times-normalizer h H = cosets.conjugates-times-normalizer n (product n t) e the-group h H

  -- each subgroup's order divides the group's
  pub order-divides : (h : ℕ) → Subgroup n (product n t) e h → (k : ℕ) × (k * ones h ≡ n)
  order-divides h H = cosets.order-divides n (product n t) e the-group h H

  -- two different classes share no subgroup
  pub classes-apart : (r q s : ℕ) → Mem r (representatives_of n (product n t) e) → Mem q (representatives_of n (product n t) e)
      → Mem s (conjugates_of n (product n t) e r) → Mem s (conjugates_of n (product n t) e q) → r ≡ q
  classes-apart = classes.classes-apart n (product n t) e the-group

  -- the classes together hold all subgroups
  pub classes-cover : (s : ℕ) → Mem s (subgroups_of n (product n t) e)
      → (r : ℕ) × Mem r (representatives_of n (product n t) e) × Mem s (conjugates_of n (product n t) e r)
  classes-cover = classes.classes-cover n (product n t) e the-group

  -- and are as many
  pub classes-count : total (λ r. length (conjugates_of n (product n t) e r)) (representatives_of n (product n t) e) ≡ length (subgroups_of n (product n t) e)
  classes-count = classes.classes-count n (product n t) e the-group

  -- ---- the answers

  -- a value of conjugates is the number of a subgroup's
  counted : (h k : ℕ) (b c : List ℕ) → conjugates_entry n t h b c ≡ Ok k
      → Subgroup n (product n t) e h × (length (conjugates_of n (product n t) e h) ≡ k)
  unfolding conjugates_answer
  counted h k b c p =
      let (a, q) = read (is_subgroup n (product n t) e h) (too_short n (product n t) e h b c) (length (conjugates_of n (product n t) e h)) (rw accepted at p) in
      (test-subgroup n (product n t) e the-group h a, q)
    where
      read : (a d : Bool) (v : ℕ)
          → cond a (cond d (Err table-refusals.Slots) (Ok v)) (Err table-refusals.Subgroup)
          ≡ Ok k
          → (a ≡ true) × (v ≡ k)
      read true false v q = (refl, cc)
      read true true v q = let z : ◌≡◌ {A = ℕ} 0 1 = cc in absurd (omega arith)
      read false d v q = let z : ◌≡◌ {A = ℕ} 0 1 = cc in absurd (omega arith)

  -- a value of the normalizer is that of a subgroup
  normalized : (h s : ℕ) → normalizer_entry n t h ≡ Ok s → Subgroup n (product n t) e h × (normalizer_of n (product n t) e h ≡ s)
  unfolding normalizer_answer
  normalized h s p =
      let (a, q) = read (is_subgroup n (product n t) e h) (normalizer_of n (product n t) e h) (rw accepted at p) in
      (test-subgroup n (product n t) e the-group h a, q)
    where
      read : (a : Bool) (v : ℕ) → cond a (Ok v) (Err table-refusals.Subgroup) ≡ Ok s → (a ≡ true) × (v ≡ s)
      read true v q = (refl, cc)
      read false v q = let z : ◌≡◌ {A = ℕ} 0 1 = cc in absurd (omega arith)

  -- a value of the list of subgroups is their number
  subgroups-counted : (k : ℕ) (b : List ℕ) → subgroups_answer n t b ≡ Ok k → length (subgroups_of n (product n t) e) ≡ k
  unfolding list_answer
  subgroups-counted k b p = read (ltb (length b / 8) (length (subgroups_of n (product n t) e))) (length (subgroups_of n (product n t) e)) (rw accepted at p)
    where
      read : (d : Bool) (v : ℕ) → cond d (Err table-refusals.Slots) (Ok v) ≡ Ok k → v ≡ k
      read false v q = cc
      read true v q = let z : ◌≡◌ {A = ℕ} 0 1 = cc in absurd (omega arith)

  -- the number of conjugates that is answered, times the order of the normalizer that is answered, is the group's order
  pub answers-fit : (h k s : ℕ) (b c : List ℕ) → conjugates_entry n t h b c ≡ Ok k → normalizer_entry n t h ≡ Ok s
      → k * ones s ≡ n
  answers-fit h k s b c p q =
      let (H, a) = counted h k b c p in
      let (K, d) = normalized h s q in
      ap₂ (λ (i j : ℕ). i * ones j) (sym a) (sym d) ∙ conjugates-times-normalizer h H

  -- the order of each set that is taken for a subgroup divides the group's
  pub answer-divides : (h s : ℕ) → normalizer_entry n t h ≡ Ok s → (k : ℕ) × (k * ones h ≡ n)
  answer-divides h s q = order-divides h (normalized h s q).0

  -- the numbers of conjugates that are answered for the representatives add up to the number of subgroups that is answered
  pub answers-add-up : (count : ℕ → ℕ) (k : ℕ) (b : List ℕ)
      → ((r : ℕ) → Mem r (representatives_of n (product n t) e) → (c d : List ℕ) × (conjugates_entry n t r c d ≡ Ok (count r)))
      → subgroups_answer n t b ≡ Ok k → total count (representatives_of n (product n t) e) ≡ k
  answers-add-up count k b each p =
      total-same count (λ r. length (conjugates_of n (product n t) e r)) (representatives_of n (product n t) e)
      (λ r m. let (c, d, q) = each r m in sym (counted r (count r) c d q).1)
      ∙ classes-count ∙ subgroups-counted k b p

  -- ---- permutations

  -- a permutation that is answered is that of a subgroup by an element of its normalizer, at the front of the lent list
  permuted : (h g k : ℕ) (b : List ℕ) → permutation_entry n t h g b ≡ Ok k
      → Subgroup n (product n t) e h × (g < n) × (conjugate_of n (product n t) e h g ≡ h) × (ones h ≡ k)
      × (permutation_list n t h g b ≡ permutation_of n (product n t) e h g ++ drop (ones h) b)
  unfolding permutation_answer permutation_bytes
  permuted h g k b p =
      let keeps = eqb (conjugate_of n (product n t) e h g) h in
      let (a, c, d, f, q) = read (is_subgroup n (product n t) e h) (ltb g n) keeps (ltb (length b) (ones h)) (ones h) (rw accepted at p) in
      (test-subgroup n (product n t) e the-group h a, ltb-true g n c, eqb-true _ _ d, q, rw (accepted, a, c, d, f) refl)
    where
      read : (a c d f : Bool) (v : ℕ)
          → cond a
          (cond c
          (cond d (cond f (Err table-refusals.Slots) (Ok v)) (Err table-refusals.Normalizer))
          (Err table-refusals.Element))
          (Err table-refusals.Subgroup)
          ≡ Ok k
          → (a ≡ true) × (c ≡ true) × (d ≡ true) × (f ≡ false) × (v ≡ k)
      read true true true false v q = (refl, refl, refl, refl, cc)
      read true true true true v q = let z : ◌≡◌ {A = ℕ} 0 1 = cc in absurd (omega arith)
      read true true false f v q = let z : ◌≡◌ {A = ℕ} 0 1 = cc in absurd (omega arith)
      read true false d f v q = let z : ◌≡◌ {A = ℕ} 0 1 = cc in absurd (omega arith)
      read false c d f v q = let z : ◌≡◌ {A = ℕ} 0 1 = cc in absurd (omega arith)

  -- it has every position once and moves products to products
  pub answered-permutation : (h g k : ℕ) (b : List ℕ) → permutation_entry n t h g b ≡ Ok k
      → (ones h ≡ k) × Permutes n t h k (permutation_list n t h g b)
  answered-permutation h g k b p =
      let (H, l, keeps, size, holds) = permuted h g k b p in (
        size,
        subst (λ (j : ℕ). Permutes n t h j (permutation_list n t h g b)) size
            (subst (λ (m : List ℕ). Permutes n t h (ones h) m) (sym holds) (permutes H l keeps)),
      )
    where
      permutes : Subgroup n (product n t) e h → g < n → conjugate_of n (product n t) e h g ≡ h
          → Permutes n t h (ones h) (permutation_of n (product n t) e h g ++ drop (ones h) b)
      permutes H l keeps = record {
        below = λ i m. subst (λ (x : ℕ). x < ones h) (sym (entry i m)) (permutations.permutation-below n (product n t) e the-group h g H l keeps i m);
        once = λ i j m o q. permutations.permutation-once n (product n t) e the-group h g H l keeps i j m o (sym (entry i m) ∙ q ∙ entry j o);
        onto = λ j m. let (i, o, q) = permutations.permutation-onto n (product n t) e the-group h g H l keeps j m in (i, o, entry i o ∙ q);
        products = λ i j d m o u q.
            ap₂ (λ (x y : ℕ). product n t (get_or (members n h) x 0) (get_or (members n h) y 0)) (entry i m) (entry j o)
            ∙ permutations.permutation-product n (product n t) e the-group h g H l keeps i j d m o u q
            ∙ ap (λ (x : ℕ). get_or (members n h) x 0) (sym (entry d u));
      }
        where
          entry : (i : ℕ) → i < ones h → get_or (permutation_of n (product n t) e h g ++ drop (ones h) b) i 0
              ≡ get_or (permutation_of n (product n t) e h g) i 0
          entry i m = get_or-append (permutation_of n (product n t) e h g) (drop (ones h) b) 0 i
              (let q = permutation-length n (product n t) e h g H.small in omega arith)

-- ---- symbols and records

module _ (on : (ℕ → List ℕ → Result ℕ TableRefusal) → Result ℕ Refusal) (t : List ℕ) (Order : ℕ → Type 0) (A : Asked on t Order) where
  -- the two answers fit the order
  asked-fit : (h k s : ℕ) (b c : List ℕ) → on (λ n t. conjugates_entry n t h b c) ≡ Ok k → on (λ n t. normalizer_entry n t h) ≡ Ok s
      → (n : ℕ) × Order n × (k * ones s ≡ n)
  asked-fit h k s b c p q =
      let (n, o, v) = A.value (λ n t. conjugates_entry n t h b c) k p in
      let (e, accepted) = A.accepted n o in
      (n, o, answers-fit n t e accepted h k s b c v (told-value _ s (sym (A.told n o (λ n t. normalizer_entry n t h)) ∙ q)))

-- of a symbol
pub symbol-counts-fit : (text : List ℕ) (h k s : ℕ) (b c : List ℕ) → on_symbol text (λ n t. conjugates_entry n t h b c) ≡ Ok k
    → on_symbol text (λ n t. normalizer_entry n t h) ≡ Ok s → (n : ℕ) × (order_of text ≡ Ok n) × (k * ones s ≡ n)
symbol-counts-fit text = asked-fit _ _ _ (symbol-asked text)

-- of a record
pub record-counts-fit : (bytes : List ℕ) → Bytes bytes → (h k s : ℕ) (b c : List ℕ) → on_record bytes (λ n t. conjugates_entry n t h b c) ≡ Ok k
    → on_record bytes (λ n t. normalizer_entry n t h) ≡ Ok s → (n : ℕ) × (order_of_record bytes ≡ Ok n) × (k * ones s ≡ n)
record-counts-fit bytes y = asked-fit _ _ _ (record-asked bytes y)
