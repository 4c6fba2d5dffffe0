use mathlib.Core.Path.{◌≡◌, refl, sym, ◌∙◌, subst}
use mathlib.Core.Bool.{true, false, true≢false}
use mathlib.Core.List.{map}
use Prim.Native.Nat.{◌+◌}
use native.Mathlib.Omega.{arith}
use lib.ListN.{length-map, length-set}
use lib.Seq.{get_or-set_other}
use Rattle.operation.specs.declared.Operation.{Operation}
use Rattle.group_record.specs.Reading.{operation_of_item}
use Rattle.group_record.specs.BothEditions.{item-inside}
use Rattle.record_items.specs.Items.{items_of, items-count, operation-listed}
use Rattle.group_record.specs.Closing.{Made, index-found, index-lacks, column-next}
use Rattle.record_items.proofs.allowed.make_column.Goals as goal

pub operation_at-g-requires : goal.operation_at-g-requires
operation_at-g-requires c = item-inside c.args.edition c.args.j c.args.n _ c.requires.2 c.requires.1

pub loop-i-init : goal.loop-i-init
loop-i-init c = (refl, λ t h. refl, λ k h. absurd (omega arith))

pub operation_at-requires : goal.operation_at-requires
operation_at-requires c = item-inside c.args.edition c.loop-i.i c.args.n _ (omega arith) c.requires.1

pub product_at-requires : goal.product_at-requires
product_at-requires c = (c.requires.0, c.requires.1)

pub shape_of-columns-in_default : goal.shape_of-columns-in_default
shape_of-columns-in_default c = c.loop-i.invariant.0

pub returns-in_default : goal.returns-in_default
returns-in_default c =
    let missing = rw c.in_default.is at c.product_at.ensures in
    let items = items_of c.args.edition c.args.n c.args.bytes.now in
    let count = items-count c.args.edition c.args.n c.args.bytes.now in
    let here = c.operation_at.ensures ∙ operation-listed c.args.edition c.args.n c.args.bytes.now c.loop-i.i (omega arith) in
    subst (λ (x : Operation). Made c.args.c (map operation_of_item items) x c.args.at c.args.columns.now c.loop-i.columns false)
    c.operation_at-g.ensures
    (record {
      long = c.loop-i.invariant.0;
      front = c.loop-i.invariant.1;
      column = λ e. absurd (true≢false (sym e));
      lacks =
          λ e. index-lacks c.args.c items c.requires.5 c.operation_at.result _ c.loop-i.i here _ missing.0
          (omega (arith, count)) (omega (arith, count));
    })

pub overflow_cast-columns : goal.overflow_cast-columns
overflow_cast-columns c = omega (arith, c.in-Some.ensures.1, c.requires.0)

pub overflow_add-columns : goal.overflow_add-columns
overflow_add-columns c =
    omega (
      arith,
      c.requires.0,
      c.requires.3,
    )

pub bounds-columns-at : goal.bounds-columns-at
bounds-columns-at c =
    omega (
      arith,
      c.requires.0,
      c.requires.3,
      c.requires.4,
      c.loop-i.invariant.0,
    )

pub loop-i-preserved : goal.loop-i-preserved
loop-i-preserved c =
    let items = items_of c.args.edition c.args.n c.args.bytes.now in
    let count = items-count c.args.edition c.args.n c.args.bytes.now in
    let here = c.operation_at.ensures ∙ operation-listed c.args.edition c.args.n c.args.bytes.now c.loop-i.i (omega arith) in
    let found =
    index-found c.args.c items c.requires.5 c.operation_at.result c.operation_at-g.result c.loop-i.i here _
    c.in-Some.ensures.0 (omega (arith, count, c.in-Some.ensures.1)) in (
      length-set c.loop-i.columns (c.args.at + c.loop-i.i) _ ∙ c.loop-i.invariant.0,
      λ t h. get_or-set_other c.loop-i.columns (c.args.at + c.loop-i.i) t _ 0 (λ (q : t ≡ c.args.at + c.loop-i.i). omega arith) ∙ c.loop-i.invariant.1 t h,
      column-next c.args.c (map operation_of_item items) _ c.loop-i.columns c.args.at c.loop-i.i _
          (omega (arith, c.requires.0, c.requires.3, c.requires.4, c.loop-i.invariant.0)) c.loop-i.invariant.2
          (omega (arith, count, length-map items operation_of_item, c.in-Some.ensures.1)) found,
    )

pub shape_of-columns : goal.shape_of-columns
shape_of-columns c = c.loop-i.invariant.0

pub returns : goal.returns
returns c =
    let items = items_of c.args.edition c.args.n c.args.bytes.now in
    subst (λ (x : Operation). Made c.args.c (map operation_of_item items) x c.args.at c.args.columns.now c.loop-i.columns true) c.operation_at-g.ensures
    (record {
      long = c.loop-i.invariant.0;
      front = c.loop-i.invariant.1;
      column = λ e k h. c.loop-i.invariant.2 k (omega (arith, items-count c.args.edition c.args.n c.args.bytes.now, length-map items operation_of_item));
      lacks = λ e. absurd (true≢false e);
    })
