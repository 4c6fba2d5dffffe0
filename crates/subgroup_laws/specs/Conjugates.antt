-- The conjugates of a subgroup (R7.5): the subgroup first with the identity as its conjugator, the others in list
-- order, each with its smallest conjugator.
use Rattle.std.specs.Prelude.{Bool, not, ◌&&◌, List, ◌∷◌, map, ℕ, eqb}
use Rattle.subgroup_laws.specs.Bounded.{some, first}
use Rattle.subgroup_laws.specs.ListedSets.{listed}
use Rattle.subgroup_laws.specs.Subsets.{conjugate_of}

module _ (n : ℕ) (◌·◌ : ℕ → ℕ → ℕ) (e h : ℕ) where
  -- whether s is a conjugate of h other than h
  unfoldable pub is_other : ℕ → Bool
  is_other s = some (λ g. eqb (conjugate_of n ◌·◌ e h g) s) n && not (eqb s h)

  -- the other conjugates in list order
  unfoldable pub others_of : List ℕ
  others_of = listed n is_other

  -- the smallest element that conjugates h to s
  unfoldable pub conjugator_of : ℕ → ℕ
  conjugator_of s = first (λ g. eqb (conjugate_of n ◌·◌ e h g) s) n

  -- the conjugates
  unfoldable pub conjugates_of : List ℕ
  conjugates_of = h ∷ others_of

  -- their conjugators
  unfoldable pub conjugators_of : List ℕ
  conjugators_of = e ∷ map conjugator_of others_of
