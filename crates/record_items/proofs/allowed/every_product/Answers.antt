use mathlib.Core.Path.{◌≡◌, refl, sym, ◌∙◌, subst}
use mathlib.Core.Bool.{true≢false}
use mathlib.Core.List.{Memᴰ as Mem}
use Prim.Native.Nat.{◌+◌, ◌*◌, ◌≤◌}
use native.Mathlib.Omega.{arith}
use lib.ListN.{length, length-map}
use Rattle.operation.specs.Product.{identity_operation}
use Rattle.operation.specs.declared.Operation.{Operation}
use Rattle.laws.specs.Indices.{member-at}
use Rattle.group_record.specs.Reading.{operation_of_item}
use Rattle.record_items.specs.Items.{items_of, item_at, items-count, operations_of, operation-listed}
use Rattle.group_record.specs.Criterion.{Right}
use Rattle.group_record.specs.Closing.{Widening, right-next, column-right, only-sound, stored_next}
use Rattle.record_items.proofs.allowed.every_product.Goals as goal

pub bounds-known-e : goal.bounds-known-e
bounds-known-e c = omega (arith, c.requires.0, c.requires.4)

pub overflow_cast-members : goal.overflow_cast-members
overflow_cast-members c = omega (arith, c.requires.0, c.requires.4)

pub loop-j-init : goal.loop-j-init
loop-j-init c =
    -- The listed operations are as many as the items.
    let count-is : length (operations_of c.args.edition c.args.n c.args.bytes.now) ≡ c.args.n =
    length-map (items_of c.args.edition c.args.n c.args.bytes.now) operation_of_item ∙ items-count c.args.edition c.args.n c.args.bytes.now in (
      refl,
      λ i h. absurd (omega arith),
      only-sound c.args.c (operations_of c.args.edition c.args.n c.args.bytes.now) c.args.e
          (omega (arith, count-is, c.requires.0)) (omega (arith, count-is, c.requires.4)) c.requires.5,
      λ k h. absurd (omega arith),
    )

pub bounds-known-j : goal.bounds-known-j
bounds-known-j c = omega (arith, c.requires.0)

pub loop-j-preserved-then-known-j-eq1 : goal.loop-j-preserved-then-known-j-eq1
loop-j-preserved-then-known-j-eq1 c =
    let count-is : length (operations_of c.args.edition c.args.n c.args.bytes.now) ≡ c.args.n =
    length-map (items_of c.args.edition c.args.n c.args.bytes.now) operation_of_item ∙ items-count c.args.edition c.args.n c.args.bytes.now in
    let right = c.loop-j.invariant.2.sure c.loop-j.j (omega (arith, count-is)) c.if-known-j-eq1.true in (
      c.loop-j.invariant.0,
      c.loop-j.invariant.1,
      c.loop-j.invariant.2,
      right-next c.args.c
          (operations_of c.args.edition c.args.n
          c.args.bytes.now) c.loop-j.j c.loop-j.invariant.3 right,
    )

pub slice_bounds-make_column-end : goal.slice_bounds-make_column-end
slice_bounds-make_column-end c = sym c.loop-j.invariant.0

pub overflow_mul-slot : goal.overflow_mul-slot
overflow_mul-slot c = omega (arith, c.min-slot.ensures)

pub make_column-requires : goal.make_column-requires
make_column-requires c =
    (c.requires.0, c.requires.1, omega arith, omega (arith, c.min-slot.ensures), c.loop-j.invariant.0, c.requires.2)

pub returns-then-not-make_column : goal.returns-then-not-make_column
returns-then-not-make_column c =
    let count-is : length (operations_of c.args.edition c.args.n c.args.bytes.now) ≡ c.args.n =
    length-map (items_of c.args.edition c.args.n c.args.bytes.now) operation_of_item ∙ items-count c.args.edition c.args.n c.args.bytes.now in
    let lacks = c.make_column.ensures.lacks c.if-not-make_column.true in
    let here = operation-listed c.args.edition c.args.n c.args.bytes.now c.loop-j.j (omega arith) in
    let listed =
    (operations_of c.args.edition
    c.args.n
    c.args.bytes.now) in (
      (λ e. absurd (true≢false (sym e))),
      λ e. (_, subst (λ (x : Operation). Mem x listed) (sym here) (member-at listed c.loop-j.j identity_operation (omega (arith, count-is))), lacks),
    )

pub overflow_add-stored : goal.overflow_add-stored
overflow_add-stored c = omega (arith, c.min-slot.ensures)

pub slice_bounds-widen-end : goal.slice_bounds-widen-end
slice_bounds-widen-end c = sym c.loop-j.invariant.2.broad

pub slice_bounds-widen-end-in-loop-j : goal.slice_bounds-widen-end-in-loop-j
slice_bounds-widen-end-in-loop-j c = sym c.loop-j.invariant.2.wide

pub widen-count-requires : goal.widen-count-requires
widen-count-requires c =
    let count-is : length (operations_of c.args.edition c.args.n c.args.bytes.now) ≡ c.args.n =
    length-map (items_of c.args.edition c.args.n c.args.bytes.now) operation_of_item ∙ items-count c.args.edition c.args.n c.args.bytes.now in
    -- What was reached is widened by the columns with the new one.
    let widening-at : Widening c.args.c
    (operations_of c.args.edition
    c.args.n
    c.args.bytes.now)
    c.loop-j.known c.loop-j.members
    c.loop-j.count c.make_column.new.columns
    (c.min-slot.result + 1) =
    let made = c.make_column in
    let short : length
    (operations_of c.args.edition
    c.args.n
    c.args.bytes.now) ≤ 48 = omega (arith, count-is, c.requires.0) in
    record {
      short = short;
      into = c.requires.3;
      sound = c.loop-j.invariant.2;
      narrow = omega (arith, c.min-slot.ensures);
      made =
          stored_next c.args.c _ _ c.min-slot.result c.loop-j.columns _ c.make_column.result short
          (λ i h. c.loop-j.invariant.1 i (omega (arith, c.min-slot.ensures))) c.make_column.ensures
          c.if-not-make_column.false;
    } in (
      c.args.c,
      (operations_of c.args.edition
          c.args.n
          c.args.bytes.now),
      widening-at,
    )

pub loop-j-preserved : goal.loop-j-preserved
loop-j-preserved c =
    let count-is : length (operations_of c.args.edition c.args.n c.args.bytes.now) ≡ c.args.n =
    length-map (items_of c.args.edition c.args.n c.args.bytes.now) operation_of_item ∙ items-count c.args.edition c.args.n c.args.bytes.now in
    let widening-at : Widening c.args.c
    (operations_of c.args.edition
    c.args.n
    c.args.bytes.now)
    c.loop-j.known c.loop-j.members
    c.loop-j.count c.make_column.new.columns
    (c.min-slot.result + 1) =
    let made = c.make_column in
    let short : length
    (operations_of c.args.edition
    c.args.n
    c.args.bytes.now) ≤ 48 = omega (arith, count-is, c.requires.0) in
    record {
      short = short;
      into = c.requires.3;
      sound = c.loop-j.invariant.2;
      narrow = omega (arith, c.min-slot.ensures);
      made =
          stored_next c.args.c _ _ c.min-slot.result c.loop-j.columns _ c.make_column.result short
          (λ i h. c.loop-j.invariant.1 i (omega (arith, c.min-slot.ensures))) c.make_column.ensures
          c.if-not-make_column.false;
    } in
    let W = widening-at in
    let listed =
    (operations_of c.args.edition
    c.args.n
    c.args.bytes.now) in
    let column = c.make_column.ensures.column c.if-not-make_column.false in
    let here = operation-listed c.args.edition c.args.n c.args.bytes.now c.loop-j.j (omega arith) in
    let right =
    subst (Right c.args.c listed) here
    (column-right c.args.c listed (operation_of_item (item_at c.args.edition c.args.bytes.now c.loop-j.j)) c.make_column.new.columns
    (48 * c.min-slot.result) column) in (
      c.make_column.ensures.long ∙ c.loop-j.invariant.0,
      W.made,
      c.widen-count.ensures c.args.c listed W,
      right-next c.args.c listed c.loop-j.j c.loop-j.invariant.3 right,
    )

pub returns : goal.returns
returns c =
    ((λ e k h. c.loop-j.invariant.3 k (omega arith)), λ e. absurd (true≢false e))
