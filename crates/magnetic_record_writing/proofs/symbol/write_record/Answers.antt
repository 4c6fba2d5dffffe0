-- The symbol's answer decides, then whether there was room; an accepted symbol's numbers may be written.
use Rattle.std.specs.Prelude.{Err, Ok}
use mathlib.Core.Path.{◌≡◌, sym, ◌∙◌}
use mathlib.Core.Bool.{Bool, true, false, cond}
use native.Mathlib.Omega.{arith}
use lib.Seq.{length-take-le}
use Rattle.magnetic_group.specs.Numbers.{Listed, slots-listed}
use Rattle.magnetic_record.specs.TextRecords.{magnetic_record_of, magnetic_buffer_of}
use Rattle.magnetic_record_writing.specs.Writing.{slots-long, numbers-listing, refused-record, accepted-record}
use Rattle.magnetic_record_writing.proofs.symbol.write_record.Goals as goal
use Rattle.record_writing.specs.declared.Unwritten.TheVariants.{NoRoom}

pub slice_bounds-numbers-end : goal.slice_bounds-numbers-end
slice_bounds-numbers-end c =
    -- The list in its slots.
    let listed : Listed c.args.text.now c.list-group.result.count
    c.list-group.new.numbers =
    slots-listed c.args.text.now c.list-group.result c.list-group.new.numbers c.in-Group.is
    c.list-group.ensures.0 c.list-group.ensures.1 in
    slots-long _ _ _ (listed)

pub slice_bounds-place_group-end : goal.slice_bounds-place_group-end
slice_bounds-place_group-end c =
    let listed : Listed c.args.text.now c.list-group.result.count
    c.list-group.new.numbers =
    slots-listed c.args.text.now c.list-group.result c.list-group.new.numbers c.in-Group.is
    c.list-group.ensures.0 c.list-group.ensures.1 in
    sym (length-take-le _ _ (slots-long _ _ _ (listed)))

pub place_group-requires : goal.place_group-requires
place_group-requires c =
    let listed : Listed c.args.text.now c.list-group.result.count
    c.list-group.new.numbers =
    slots-listed c.args.text.now c.list-group.result c.list-group.new.numbers c.in-Group.is
    c.list-group.ensures.0 c.list-group.ensures.1 in
    let made = listed in
    (omega (arith, made.few, length-take-le c.list-group.result.count c.list-group.new.numbers (slots-long _ _ _ made)), numbers-listing _ _ _ made)

pub returns-then-not-place_group : goal.returns-then-not-place_group
returns-then-not-place_group c =
    let listed : Listed c.args.text.now c.list-group.result.count
    c.list-group.new.numbers =
    slots-listed c.args.text.now c.list-group.result c.list-group.new.numbers c.in-Group.is
    c.list-group.ensures.0 c.list-group.ensures.1 in
    -- What is answered, by what the writer answered.
    let placed-answer : (b : Bool) → c.place_group.result ≡ b
    → (cond b (Ok c.list-group.result.count) (Err NoRoom)
    ≡ magnetic_record_of c.args.text.now
    c.args.out.now
    c.args.start)
    × (c.place_group.new.out ≡ magnetic_buffer_of c.args.text.now
    c.args.out.now
    c.args.start) =
    λ b told. accepted-record c.args.text.now c.args.out.now c.args.start c.list-group.result c.list-group.ensures.0 c.list-group.new.numbers (listed) b
    (sym told ∙ c.place_group.ensures.0) _ c.place_group.ensures.1 in
    placed-answer false c.if-not-place_group.true

pub returns-in-Refused : goal.returns-in-Refused
returns-in-Refused c =
    refused-record c.args.text.now c.args.out.now c.args.start c.list-group.result c.list-group.ensures.0 _ c.in-Refused.is

pub returns-else-not-place_group : goal.returns-else-not-place_group
returns-else-not-place_group c =
    let listed : Listed c.args.text.now c.list-group.result.count
    c.list-group.new.numbers =
    slots-listed c.args.text.now c.list-group.result c.list-group.new.numbers c.in-Group.is
    c.list-group.ensures.0 c.list-group.ensures.1 in
    let placed-answer : (b : Bool) → c.place_group.result ≡ b
    → (cond b (Ok c.list-group.result.count) (Err NoRoom)
    ≡ magnetic_record_of c.args.text.now
    c.args.out.now
    c.args.start)
    × (c.place_group.new.out ≡ magnetic_buffer_of c.args.text.now
    c.args.out.now
    c.args.start) =
    λ b told. accepted-record c.args.text.now c.args.out.now c.args.start c.list-group.result c.list-group.ensures.0 c.list-group.new.numbers (listed) b
    (sym told ∙ c.place_group.ensures.0) _ c.place_group.ensures.1 in
    placed-answer true c.if-not-place_group.false
