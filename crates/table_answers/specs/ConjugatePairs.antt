-- The two lists of conjugates and conjugators, place by place (R7.5): the subgroup first with the identity, and at every
-- other place a conjugate with the smallest element that conjugates to it.
use Rattle.std.specs.Prelude.{◌≡◌, refl, ℕ, suc, ◌<◌}
use Rattle.std.proofs.Common.{sym}
use Rattle.std.proofs.Math.Path.{subst}
use mathlib.Core.List.Memᴰ.{tail as there}
use Rattle.std.proofs.Math.Nat.{le_of_suc-le-suc}
use Rattle.std.proofs.Math.ListN.{length, get_or}
use Rattle.laws.specs.Indices.{member-at, image-at}
use Rattle.subgroup_laws.specs.Conjugates.{others_of, conjugator_of, conjugates_of, conjugators_of}
use Rattle.subgroup_laws.specs.Groups.{Group}
use Rattle.subgroup_laws.specs.ListedConjugates.{listed-conjugate, smallest-conjugator}
use Rattle.subgroup_laws.specs.Subsets.{Subgroup, conjugate_of}

-- g is the smallest element that conjugates h to s
pub record SmallestConjugator (n : ℕ) (times : ℕ → ℕ → ℕ) (e h s g : ℕ) : Type 0 where
  pub below : g < n
  pub conjugates : conjugate_of n times e h g ≡ s
  pub smallest : (j : ℕ) → j < g → conjugate_of n times e h j ≡ s → ⊥

module _ (n : ℕ) (times : ℕ → ℕ → ℕ) (e h : ℕ) where
  pub subgroup-first : (get_or (conjugates_of n times e h) 0 0 ≡ h) × (get_or (conjugators_of n times e h) 0 0 ≡ e)
  unfolding conjugates_of conjugators_of
  subgroup-first = (refl, refl)

  pub pair-at : Group n times e → Subgroup n times e h → (k : ℕ) → suc k < length (conjugates_of n times e h)
      → SmallestConjugator n times e h (get_or (conjugates_of n times e h) (suc k) 0) (get_or (conjugators_of n times e h) (suc k) 0)
  unfolding conjugates_of conjugators_of
  pair-at G H k l =
      let others = others_of n times e h in
      let s = get_or others k 0 in
      let inside : k < length others = le_of_suc-le-suc l in
      let (g, low, reached) = listed-conjugate n times e h G H s (there (member-at others k 0 inside)) in
      let (below, conjugates, smallest) = smallest-conjugator n times e h G H s g low reached in
      subst (λ (c : ℕ). SmallestConjugator n times e h s c) (sym (image-at (conjugator_of n times e h) others k 0 0 inside))
      (record { below = below; conjugates = conjugates; smallest = smallest })
