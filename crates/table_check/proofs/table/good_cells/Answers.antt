-- The cells are below n if all are.
use mathlib.Core.Path.{◌≡◌, sym, ◌∙◌}
use mathlib.Core.Bool.{Bool, true, false}
use mathlib.Core.List.{List}
use Prim.Native.Nat.{ℕ, ◌<◌, ◌≤◌, ◌*◌}
use native.Mathlib.Omega.{arith}
use borrow.Author.Tests.{eq-eqb, ne_eqb, lt-ltb, le-ltb, tests}
use lib.Dec.{eqb}
use lib.ListN.{length}
use Rattle.std.proofs.Common.{rules}
use Rattle.std.proofs.lemmas.Iterator.{cases_from_all, YieldsList-from_slice}
use Rattle.std.specs.Bool.{MatchBool}
use Rattle.std.specs.List.{AllWithin, HoldsAt}
use Rattle.laws.specs.Truth.{and-fails, and-fails-left, both-and}
use Rattle.subgroup_laws.specs.Bounded.{fails-every, passes-every}
use Rattle.subgroup_laws.specs.Table.{good_cells}
use Rattle.table_check.proofs.table.good_cells.Goals as goal

all-cells : (r : Bool) (n : ℕ) (t : List ℕ) → length t ≡ n * n
    → MatchBool r (AllWithin (λ x. x < n) t 0 (length t)) ((k : ℕ) × (k < length t) × HoldsAt (λ x. n ≤ x) t k) → r ≡ good_cells n t
unfolding good_cells
all-cells true n t e m = sym (both-and _ _ (eq-eqb _ _ e) (passes-every _ _ (λ i h. lt-ltb _ _ (m i 0 (omega arith) (omega arith)))))
all-cells false n t e (k, h, m) = sym (and-fails (eqb (length t) (n * n)) _ (fails-every _ (n * n) k (omega arith) (le-ltb _ _ (m 0))))

pub returns-then-t-n : goal.returns-then-t-n
returns-then-t-n c =
    all-cells c.all.result c.args.n c.args.t.now c.if-t-n.true
    (cases_from_all _ _ _ (λ x. x < c.args.n) (λ x. c.args.n ≤ x) c.all.ensures.ran (YieldsList-from_slice c.args.t.now cc) (λ x q k. search (rules, tests))
    (λ x q k. search (rules, tests)))

pub returns-else-t-n : goal.returns-else-t-n
unfolding good_cells
returns-else-t-n c = ne_eqb _ _ c.if-t-n.false ∙ sym (and-fails-left _ _ (ne_eqb _ _ c.if-t-n.false))
