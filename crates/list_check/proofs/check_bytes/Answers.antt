-- The length decides, then the first wrong entry, then the first that is off, then what was not seen.
use mathlib.Core.Path.{refl, sym, ◌∙◌}
use mathlib.Core.Logic.{inl, inr}
use lib.ListN.{length}
use Rattle.list_check.specs.Checked.{slot_at, wrong_at, entry_count}
use Rattle.list_check.specs.Entries.{RightLength}
use Rattle.list_check.specs.Slots.{lowest_unseen, found-below, nothing-below}
use Rattle.list_check.specs.Answers.{length-answer, wrong-found, entry_found, rest-found, code-missing, nothing-missing}
use Rattle.list_check.proofs.check_bytes.Goals as goal
use Rattle.list_check.proofs.check_bytes.Goals.{then-size-gt240-via-then-size-gt240, then-size-gt240-via-else-size-gt240+then-size-ne0}

pub returns-then-size-gt240 : goal.returns-then-size-gt240
returns-then-size-gt240 c = elim c.then-size-gt240.branch [
  | then-size-gt240-via-then-size-gt240 w ↦
      sym (length-answer c.args.c (length c.args.operations.now) (slot_at c.args.operations.now) c.args.list.now (inr w.if-size-gt240.true))
  | then-size-gt240-via-else-size-gt240+then-size-ne0 w ↦
      sym (length-answer c.args.c (length c.args.operations.now) (slot_at c.args.operations.now) c.args.list.now (inl w.if-size-ne0.true))
]

pub returns-in-Some : goal.returns-in-Some
returns-in-Some c =
    let list = c.args.list.now in
    let right : RightLength list = (c.if-size-gt240.false, c.if-size-ne0.false) in
    let (h, found) = found-below (wrong_at list) (entry_count list) c.in-Some.wrong (sym c.in-Some.is ∙ c.first_wrong.ensures) in
    wrong-found c.args.c (length c.args.operations.now) c.args.operations.now list right c.in-Some.wrong found h

pub returns-in-Err : goal.returns-in-Err
returns-in-Err c =
    let list = c.args.list.now in
    let right : RightLength list = (c.if-size-gt240.false, c.if-size-ne0.false) in
    let high = nothing-below (wrong_at list) (entry_count list) (sym c.in_default.is ∙ c.first_wrong.ensures) in
    entry_found c.args.c (length c.args.operations.now) c.args.operations.now list right _ refl high c.in-Err.entry c.in-Err.ensures

pub returns-in-Some-lowest_missing : goal.returns-in-Some-lowest_missing
returns-in-Some-lowest_missing c =
    let list = c.args.list.now in
    let operations = c.args.operations.now in
    let right : RightLength list = (c.if-size-gt240.false, c.if-size-ne0.false) in
    let high = nothing-below (wrong_at list) (entry_count list) (sym c.in_default.is ∙ c.first_wrong.ensures) in
    let (on, seen) = c.in-Ok.ensures in
    code-missing (lowest_unseen (length operations) operations c.in-Ok.seen) c.in-Some-lowest_missing.code
    (sym c.in-Some-lowest_missing.is ∙ c.lowest_missing.ensures)
    ∙ rest-found c.args.c (length operations) operations list right _ refl high c.in-Ok.seen on seen

pub returns-in-None : goal.returns-in-None
returns-in-None c =
    let list = c.args.list.now in
    let operations = c.args.operations.now in
    let right : RightLength list = (c.if-size-gt240.false, c.if-size-ne0.false) in
    let high = nothing-below (wrong_at list) (entry_count list) (sym c.in_default.is ∙ c.first_wrong.ensures) in
    let (on, seen) = c.in-Ok.ensures in
    nothing-missing (lowest_unseen (length operations) operations c.in-Ok.seen) (sym c.in-None.is ∙ c.lowest_missing.ensures)
    ∙ rest-found c.args.c (length operations) operations list right _ refl high c.in-Ok.seen on seen
