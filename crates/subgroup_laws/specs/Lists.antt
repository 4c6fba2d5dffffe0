-- The lists of subgroups and of class representatives (R7.4 and R7.6), for any product of the numbers below n.
use Rattle.std.specs.Prelude.{◌≡◌, refl, Bool, true, false, ◌&&◌, List, ℕ, ◌<◌}
use Rattle.std.proofs.Common.{sym, ◌∙◌}
use Rattle.std.proofs.Math.Path.{ap}
use Rattle.std.proofs.Math.Bool.{not, true≢false}
use borrow.Author.Tests.{not-true}
use Rattle.laws.specs.ListOrder.{Precedes, earlier, earlier-precedes, precedes-earlier}
use Rattle.laws.specs.Truth.{and_both, both-and, not-passing}
use Rattle.subgroup_laws.specs.Bounded.{every, every-passes, passes-every}
use Rattle.subgroup_laws.specs.Conjugation.{conjugate-below}
use Rattle.subgroup_laws.specs.Groups.{Group}
use Rattle.subgroup_laws.specs.ListedSets.{listed}
use Rattle.subgroup_laws.specs.SubgroupLaws.{test-subgroup, subgroup-test}
use Rattle.subgroup_laws.specs.Subsets.{Subgroup, is_subgroup, conjugate_of}

module _ (n : ℕ) (◌·◌ : ℕ → ℕ → ℕ) (e : ℕ) where
  -- whether no conjugate of s stands before it in the list
  unfoldable pub is_first : ℕ → Bool
  is_first s = every (λ g. not (earlier n (conjugate_of n ◌·◌ e s g) s)) n

  -- the subgroups that a list takes: all of them, or of each class the first
  abbrev pub chosen : Bool → ℕ → Bool
  chosen true s = is_subgroup n ◌·◌ e s && is_first s
  chosen false s = is_subgroup n ◌·◌ e s

  -- all subgroups in list order
  unfoldable pub subgroups_of : List ℕ
  subgroups_of = listed n (chosen false)

  -- the representatives of the classes in list order, each the first of its class
  unfoldable pub representatives_of : List ℕ
  representatives_of = listed n (chosen true)

  -- the same in words
  pub record Chosen (classes : Bool) (s : ℕ) : Type 0 where
    pub subgroup : Subgroup n ◌·◌ e s
    pub first : classes ≡ true → (g : ℕ) → g < n → ¬ Precedes (conjugate_of n ◌·◌ e s g) s

module _ (n : ℕ) (◌·◌ : ℕ → ℕ → ℕ) (e : ℕ) (G : Group n ◌·◌ e) where
  -- what passes the test of a first set is first
  pub first_passes : (s : ℕ) → is_first n ◌·◌ e s ≡ true → (g : ℕ) → g < n → ¬ Precedes (conjugate_of n ◌·◌ e s g) s
  unfolding is_first
  first_passes s t g h p =
      true≢false (sym (precedes-earlier n _ s (conjugate-below n ◌·◌ e G s g) p) ∙ not-true _ (every-passes _ n t g h))

  -- and what is first passes
  pub passes-first : (s : ℕ) → ((g : ℕ) → g < n → ¬ Precedes (conjugate_of n ◌·◌ e s g) s) → is_first n ◌·◌ e s ≡ true
  unfolding is_first
  passes-first s f = passes-every _ n (λ g h. ap not (not-passing _ (λ t. f g h (earlier-precedes n _ s t))))

  -- the test says what the words say
  pub chosen-passes : (classes : Bool) (s : ℕ) → chosen n ◌·◌ e classes s ≡ true → Chosen n ◌·◌ e classes s
  chosen-passes true s t =
      let (a, b) = and_both (is_subgroup n ◌·◌ e s) (is_first n ◌·◌ e s) t in
      record { subgroup = test-subgroup n ◌·◌ e G s a; first = λ q. first_passes s b }
  chosen-passes false s t = record { subgroup = test-subgroup n ◌·◌ e G s t; first = λ q. absurd (true≢false (sym q)) }

  -- and what the words say passes
  pub passes-chosen : (classes : Bool) (s : ℕ) → Chosen n ◌·◌ e classes s → chosen n ◌·◌ e classes s ≡ true
  passes-chosen true s C = both-and _ _ (subgroup-test n ◌·◌ e G s C.subgroup) (passes-first s (C.first refl))
  passes-chosen false s C = subgroup-test n ◌·◌ e G s C.subgroup
