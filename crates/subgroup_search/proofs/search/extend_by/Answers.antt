-- Each return is a case of the step: the extension is passed over; its representative is there, finds no slot, or is put in.
use mathlib.Core.Path.{◌≡◌}
use native.Mathlib.Omega.{arith}
use lib.ListN.{length}
use Rattle.subgroup_search.specs.SearchLoop.{extended-barred, extended-present, extended-full, extended-added, inserted-room}
use Rattle.subgroup_search.proofs.search.extend_by.Goals as goal

pub adjoin-requires : goal.adjoin-requires
adjoin-requires c = (c.requires.0, c.requires.1, c.requires.2)

pub returns-in_default : goal.returns-in_default
returns-in_default c = extended-barred _ _ _ _ _ _ _ _ c.requires.4 c.in_default.ensures

pub representative-m-requires : goal.representative-m-requires
representative-m-requires c =
    (c.requires.0, c.in-Some.ensures.0.subgroup)

pub returns-in-Present : goal.returns-in-Present
returns-in-Present c =
    let E = c.in-Some.ensures.0 in
    let same : length c.insert.new.sets
    ≡ length c.args.sets.now = omega arith in
    extended-present _ _ _ _ c.requires.0.group _ _ c.requires.1 c.requires.0.cells.limit _ _ E c.requires.3
    c.representative-m.ensures _ _ _ (omega arith)
    (rw c.in-Present.is at (c.insert.ensures c.requires.4))

pub returns-in-Full : goal.returns-in-Full
returns-in-Full c =
    let E = c.in-Some.ensures.0 in
    extended-full _ _ _ _ c.requires.0.group _ _ c.requires.1 c.requires.0.cells.limit _ _ E c.requires.3
    c.representative-m.ensures _ _ _
    (rw c.in-Full.is at (c.insert.ensures c.requires.4))

pub returns-in-Added : goal.returns-in-Added
returns-in-Added c =
    let E = c.in-Some.ensures.0 in
    let I = rw c.in-Added.is at (c.insert.ensures c.requires.4) in
    let same : length c.insert.new.sets
    ≡ length c.args.sets.now = omega arith in
    extended-added _ _ _ _ c.requires.0.group _ _ c.requires.1 c.requires.0.cells.limit _ _ E c.requires.3
    c.representative-m.ensures _ _ _
    (let r = inserted-room I in omega arith)
    I
