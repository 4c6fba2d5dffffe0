-- From the result of the search to the answer: the list and its length, or 26 and zeros.
use Rattle.std.specs.Prelude.{◌≡◌, Bool, ℕ, ◌*◌, ◌/◌, ◌≤◌, Err, Ok}
use Rattle.std.proofs.Math.Path.{ap}
use Rattle.std.proofs.Common.{◌∙◌, lt-ltb, le-ltb}
use mathlib.Core.List.{List, ◌++◌}
use native.Mathlib.Omega.{arith}
use Rattle.std.proofs.Math.ListN.{length, drop, replicate}
use Rattle.subgroup_laws.specs.ListedSets.{listed}
use Rattle.subgroup_laws.specs.Lists.{chosen}
use Rattle.subgroup_laws.specs.Slots.{cleared}
use Rattle.subgroup_search.specs.Answers.{list_answer, list_bytes}
use Rattle.subgroup_search.specs.SearchLoop.{SearchResult}
use Rattle.table_check.specs.declared.Refusal.TheVariants.{Slots}
use Rattle.std.specs.Prelude.{Some, None}

module _ (n : ℕ) (◌·◌ : ℕ → ℕ → ℕ) (e : ℕ) (classes : Bool) (b : List ℕ) where
  -- the list that is asked for
  abbrev all : List ℕ
  all = listed n (chosen n ◌·◌ e classes)

  -- the list was found
  pub answer-count : (exit : List ℕ) (count : ℕ) → SearchResult n ◌·◌ e classes b exit (Some count)
      → (Ok count ≡ list_answer all b) × (exit ≡ list_bytes all b)
  unfolding list_answer list_bytes
  answer-count exit count R =
      let fits : length all ≤ length b / 8 = let p = R.1 in let q = R.2 in omega arith in
      (simp (le-ltb (length b / 8) (length all) fits) (ap Ok R.1), simp (le-ltb (length b / 8) (length all) fits) R.0)

  -- it is longer than the slots, which were then cleared
  pub answer-full : (spoilt exit : List ℕ) → length spoilt ≡ length b → SearchResult n ◌·◌ e classes b spoilt None
      → exit ≡ replicate (8 * (length spoilt / 8)) 0 ++ drop (8 * (length spoilt / 8)) spoilt
      → (Err Slots ≡ list_answer all b) × (exit ≡ list_bytes all b)
  unfolding list_answer list_bytes cleared
  answer-full spoilt exit same R q = (
    simp (lt-ltb (length b / 8) (length all) R.0),
    simp (lt-ltb (length b / 8) (length all) R.0)
        (q ∙ ap (λ (i : ℕ). replicate (8 * (i / 8)) 0 ++ drop (8 * (i / 8)) spoilt) same
        ∙ ap (λ (l : List ℕ). replicate (8 * (length b / 8)) 0 ++ l) R.1),
  )
