-- The classes divide the subgroups: each subgroup stands among the conjugates of one representative, and of no other; so the classes
-- together are as many as the subgroups.
use Rattle.std.specs.Prelude.{◌≡◌, ℕ, length}
use Rattle.std.proofs.Common.{sym, ap, ◌∙◌}
use mathlib.Core.List.{Memᴰ as Mem}
use Rattle.laws.specs.Counting.{total, divided-length}
use Rattle.laws.specs.ListOrder.{Precedes, precedes-strict}
use Rattle.subgroup_laws.specs.Conjugates.{conjugates_of}
use Rattle.subgroup_laws.specs.Conjugation.{inverse-below, conjugate-subgroup, conjugate-set-twice, conjugate-set-back}
use Rattle.subgroup_laws.specs.Groups.{Group, inverse_of}
use Rattle.subgroup_laws.specs.Images.{sorted-distinct}
use Rattle.subgroup_laws.specs.ListedConjugates.{listed-conjugate, conjugate-listed, conjugates-distinct}
use Rattle.subgroup_laws.specs.ListedSubgroups.{representatives, representatives-sorted, some-representative, one-representative, only-subgroups, subgroups-sorted, subgroup-listed}
use Rattle.subgroup_laws.specs.Lists.{subgroups_of, representatives_of}
use Rattle.subgroup_laws.specs.Subsets.{Subgroup, conjugate_of}

module _ (n : ℕ) (◌·◌ : ℕ → ℕ → ℕ) (e : ℕ) (G : Group n ◌·◌ e) where
  infixl 70 ◌·◌
  -- a representative is a subgroup
  pub representative-subgroup : (r : ℕ) → Mem r (representatives_of n ◌·◌ e) → Subgroup n ◌·◌ e r
  representative-subgroup r m = ((representatives n ◌·◌ e G r).0 m).subgroup

  -- a class holds subgroups
  pub class-subgroups : (r s : ℕ) → Mem r (representatives_of n ◌·◌ e) → Mem s (conjugates_of n ◌·◌ e r) → Mem s (subgroups_of n ◌·◌ e)
  class-subgroups r s m k =
      let R = representative-subgroup r m in
      let (g, l, q) = listed-conjugate n ◌·◌ e r G R s k in
      subgroup-listed n ◌·◌ e G s (rw q at (conjugate-subgroup n ◌·◌ e G r g l R))

  -- together the classes hold all subgroups
  pub classes-cover : (s : ℕ) → Mem s (subgroups_of n ◌·◌ e) → (r : ℕ) × Mem r (representatives_of n ◌·◌ e) × Mem s (conjugates_of n ◌·◌ e r)
  classes-cover s m =
      let S = only-subgroups n ◌·◌ e G s m in
      let (r, g, k, l, q) = some-representative n ◌·◌ e G s S in
      let R = representative-subgroup r k in
      let back : conjugate_of n ◌·◌ e r (inverse_of n ◌·◌ e g) ≡ s =
      ap (λ (z : ℕ). conjugate_of n ◌·◌ e z (inverse_of n ◌·◌ e g)) q ∙ conjugate-set-back n ◌·◌ e G s g S.small l in
      (r, k, rw back at (conjugate-listed n ◌·◌ e r G R (inverse_of n ◌·◌ e g) (inverse-below n ◌·◌ e G g l)))

  -- two different classes share no subgroup
  pub classes-apart : (r q s : ℕ) → Mem r (representatives_of n ◌·◌ e) → Mem q (representatives_of n ◌·◌ e)
      → Mem s (conjugates_of n ◌·◌ e r) → Mem s (conjugates_of n ◌·◌ e q) → r ≡ q
  classes-apart r q s k l i j =
      let R = representative-subgroup r k in
      let Q = representative-subgroup q l in
      let (a, x, u) = listed-conjugate n ◌·◌ e r G R s i in
      let (b, y, v) = listed-conjugate n ◌·◌ e q G Q s j in
      let c = inverse_of n ◌·◌ e a in
      let z = inverse-below n ◌·◌ e G a x in
      one-representative n ◌·◌ e G r q (b · c) k l (G.product-below b c y z)
      (sym (conjugate-set-back n ◌·◌ e G r a R.small x) ∙ ap (λ (w : ℕ). conjugate_of n ◌·◌ e w c) (u ∙ sym v)
      ∙ conjugate-set-twice n ◌·◌ e G q b c Q.small y z)

  -- so their sizes add up to the number of subgroups
  pub classes-count : total (λ r. length (conjugates_of n ◌·◌ e r)) (representatives_of n ◌·◌ e) ≡ length (subgroups_of n ◌·◌ e)
  classes-count = divided-length (conjugates_of n ◌·◌ e) (sorted-distinct Precedes precedes-strict (representatives-sorted n ◌·◌ e G))
      (λ r m. conjugates-distinct n ◌·◌ e r G (representative-subgroup r m)) (λ r q s. classes-apart r q s)
      (sorted-distinct Precedes precedes-strict (subgroups-sorted n ◌·◌ e G)) class-subgroups classes-cover
