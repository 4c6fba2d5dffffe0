-- The two results of the search.
use mathlib.Core.Path.{◌≡◌}
use native.Mathlib.Omega.{arith}
use lib.ListN.{length}
use Rattle.subgroup_laws.specs.Table.{product}
use Rattle.subgroup_search.specs.SearchAnswers.{answer-count, answer-full}
use Rattle.subgroup_search.proofs.search.list_sets.Goals as goal

pub returns-in_default : goal.returns-in_default
returns-in_default c =
    let same : length c.search.new.sets ≡ length c.args.sets.now = omega arith in
    answer-full c.args.n (product c.args.n c.args.t.now) c.args.e c.args.classes c.args.sets.now
    c.search.new.sets _ same
    (rw c.in_default.is at c.search.ensures)
    (c.clear.ensures (omega arith))

pub returns : goal.returns
returns c =
    answer-count c.args.n (product c.args.n c.args.t.now) c.args.e c.args.classes c.args.sets.now _ _ (rw c.in-Some.is at
    c.search.ensures)
