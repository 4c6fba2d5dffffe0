-- The Rust's own procedures on a finite group (moyo 0.21.0, subgroup/finite_group.rs), for a group on the numbers below n; the headings bear its names.
-- As there, a subgroup is the ascending list of its elements. Its sets and maps are lists that are looked through before they grow; its sorts are told
-- by their order, in which different items stand in one list only. That what they give is ours: AsTheRust.
use Rattle.std.specs.Prelude.{◌≡◌, ◌⊎◌, ◌↔◌, ◌≢◌, Bool, true, false, cond, not, ◌&&◌, ◌||◌, ℕ, zero, suc, ◌<◌, eqb, ltb}
use mathlib.Core.List.{List, [], ◌∷◌, ◌++◌, map, Memᴰ as Mem, Lexᴰ}
use Rattle.laws.specs.Distinct.{has}
use Rattle.laws.specs.ListOrder.{LongerOrSmaller}
use Rattle.laws.specs.Sets.{member, members, set_of}
use Rattle.laws.specs.Sorted.{Sorted, sort, keep}
use Rattle.subgroup_laws.specs.Bounded.{some}
use Rattle.subgroup_laws.specs.Groups.{inverse_of}

-- whether two lists are equal
unfoldable pub same_list : List ℕ → List ℕ → Bool
same_list [] [] = true
same_list [] (y ∷ m) = false
same_list (x ∷ l) [] = false
same_list (x ∷ l) (y ∷ m) = let rest = same_list l m in eqb x y && rest

-- the index of x in a list
unfoldable pub index_in : List ℕ → ℕ → ℕ
index_in [] x = 0
index_in (y ∷ l) x = let later = index_in l x in cond (eqb x y) 0 (suc later)

-- the subgroups seen, and those that wait in the queue
pub record Progress : Type 0 where
  pub seen : List (List ℕ)
  pub queue : List (List ℕ)

-- a conjugate with its witness
pub record Witnessed : Type 0 where
  pub subgroup : List ℕ
  pub conjugator : ℕ

-- the conjugates of witnesses
abbrev pub keys : List Witnessed → List (List ℕ)
keys l = map (λ (w : Witnessed). w.subgroup) l

-- the key by which conjugates are sorted: whether it is another subgroup than r, then the subgroup
abbrev pub KeyBefore : List ℕ → Witnessed → Witnessed → Type 0
KeyBefore r v w = ((v.subgroup ≡ r) × (w.subgroup ≢ r)) ⊎ (((v.subgroup ≡ r) ↔ (w.subgroup ≡ r)) × Lexᴰ ◌<◌ v.subgroup w.subgroup)

module _ (n : ℕ) (◌·◌ : ℕ → ℕ → ℕ) (e : ℕ) where
  infixl 70 ◌·◌
  -- ---- generated_subgroup

  -- whether z is the product of two marked elements
  unfoldable pub is_product : ℕ → ℕ → Bool
  is_product marked z = some (λ x. member marked x && some (λ y. member marked y && eqb (x · y) z) n) n

  -- a round marks the products of all elements that were marked before it
  unfoldable pub round : ℕ → ℕ
  round marked = set_of n (λ z. member marked z || is_product marked z)

  -- rounds until one changes nothing; that n are enough is shown
  unfoldable pub rounds : ℕ → ℕ → ℕ
  rounds zero marked = marked
  rounds (suc more) marked = let next = rounds more (round marked) in cond (eqb (round marked) marked) marked next

  -- the identity, the new element and the old ones are marked first
  unfoldable pub first_marked : List ℕ → ℕ → ℕ
  first_marked h g = set_of n (λ x. eqb x e || (eqb x g || has eqb x h))

  -- the elements that are marked in the end
  unfoldable pub generated_subgroup : List ℕ → ℕ → List ℕ
  generated_subgroup h g = members n (rounds n (first_marked h g))

  -- ---- enumerate_subgroups

  -- an element is passed over if h holds it, or if what it generates with h was seen
  unfoldable pub tried : List ℕ → ℕ → Progress → Progress
  tried h g p = cond (has eqb g h || has same_list (generated_subgroup h g) p.seen) p
      (record { seen = generated_subgroup h g ∷ p.seen; queue = p.queue ++ generated_subgroup h g ∷ [] })

  -- the elements below g, one after the other
  unfoldable pub tried_below : List ℕ → ℕ → Progress → Progress
  tried_below h zero p = p
  tried_below h (suc g) p = tried h g (tried_below h g p)

  -- the first of the queue is taken, and all elements are tried with it, until the queue is empty
  pub data Searched : List (List ℕ) → List (List ℕ) → List (List ℕ) → Type 0 where
    ended : {seen : List (List ℕ)} → Searched seen [] seen
    taken : {seen queue all : List (List ℕ)} (h : List ℕ)
        → Searched (tried_below h n (record { seen = seen; queue = queue })).seen (tried_below h n (record { seen = seen; queue = queue })).queue all
        → Searched seen (h ∷ queue) all

  -- the search starts from the trivial subgroup; what was seen is then sorted, the longer first, then the lexicographically smaller
  pub record EnumeratedSubgroups (l : List (List ℕ)) : Type 0 where
    pub seen : List (List ℕ)
    pub searched : Searched ((e ∷ []) ∷ []) ((e ∷ []) ∷ []) seen
    pub sorted : Sorted LongerOrSmaller l
    pub same : (s : List ℕ) → Mem s l ↔ Mem s seen

  -- ---- conjugate

  -- g⁻¹ x g for each element in turn, then sorted
  unfoldable pub conjugate_list : List ℕ → ℕ → List ℕ
  conjugate_list h g = sort ltb (map (λ x. inverse_of n ◌·◌ e g · x · g) h)

  -- ---- the conjugates of a class in conjugacy_classes

  -- the subgroup with the identity, then each conjugate by an element below g that has no witness yet
  unfoldable pub witnesses : List ℕ → ℕ → List Witnessed
  witnesses r zero = record { subgroup = r; conjugator = e } ∷ []
  witnesses r (suc g) =
      let before = witnesses r g in
      cond (has same_list (conjugate_list r g) (keys before)) before (record { subgroup = conjugate_list r g; conjugator = g } ∷ before)

  -- the witnesses, sorted by that key
  pub record ClassConjugates (r : List ℕ) (l : List Witnessed) : Type 0 where
    pub sorted : Sorted (KeyBefore r) l
    pub same : (w : Witnessed) → Mem w l ↔ Mem w (witnesses r n)

  -- ---- the representatives in conjugacy_classes

  -- of the subgroups in turn those that remain; each takes its conjugates from what remains
  unfoldable pub representatives_among : List (List ℕ) → List (List ℕ) → List (List ℕ)
  representatives_among [] remaining = []
  representatives_among (r ∷ l) remaining =
      let chosen = representatives_among l (keep (λ s. not (has same_list s (keys (witnesses r n)))) remaining) in
      let passed = representatives_among l remaining in
      cond (has same_list r remaining) (r ∷ chosen) passed

  -- ---- normalizer_action

  -- the elements below g whose conjugate of h is h
  unfoldable pub normalizer_indices : List ℕ → ℕ → List ℕ
  normalizer_indices h zero = []
  normalizer_indices h (suc g) = normalizer_indices h g ++ cond (same_list (conjugate_list h g) h) (g ∷ []) []

  -- for each of them the indices in h of the conjugated elements
  unfoldable pub normalizer_permutations : List ℕ → ℕ → List (List ℕ)
  normalizer_permutations h zero = []
  normalizer_permutations h (suc g) =
      normalizer_permutations h g ++ cond (same_list (conjugate_list h g) h) (map (λ x. index_in h (inverse_of n ◌·◌ e g · x · g)) h ∷ []) []
