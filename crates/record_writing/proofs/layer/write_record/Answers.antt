-- The order decides, then whether there was room; the list of a layer symbol is that of the text with the capital letter.
use Rattle.std.specs.Prelude.{Err, Ok}
use mathlib.Core.Path.{◌≡◌, sym, ◌∙◌, ap}
use mathlib.Core.Bool.{Bool, true, false, cond}
use Prim.Native.Nat.{ℕ}
use lib.ListN.{take}
use Rattle.group_record.specs.FirstEdition.{first_edition}
use Rattle.record_writing.specs.LayerRecords.{layer_record_of, layer_buffer_of, record-refused, layer-writable, record-written}
use Rattle.record_writing.specs.Places.{placed_in}
use Rattle.group_record.specs.Record.{record_in}
use Rattle.record_writing.proofs.layer.write_record.Goals as goal
use Rattle.record_writing.specs.declared.Unwritten.TheVariants.{NoRoom}

pub place_group-requires : goal.place_group-requires
place_group-requires c =
    layer-writable c.args.text.now _
    (sym c.order.ensures ∙ c.in-Ok.is)
    c.plain-group.result c.plain-group.ensures

pub returns-then-not-place_group : goal.returns-then-not-place_group
returns-then-not-place_group c =
    -- What is answered, by what the writer answered.
    let placed-answer : (b : Bool) → c.place_group.result ≡ b
    → (cond b (Ok c.in-Ok.n) (Err NoRoom)
    ≡ layer_record_of c.args.text.now
    c.args.out.now
    c.args.start)
    × (c.place_group.new.out ≡ layer_buffer_of c.args.text.now
    c.args.out.now
    c.args.start) =
    λ b told. let g = c.plain-group.result in
    record-written c.args.text.now _ (sym c.order.ensures
    ∙ c.in-Ok.is) g c.plain-group.ensures c.args.out.now c.args.start b
    (sym told ∙ c.place_group.ensures.0) _
    (c.place_group.ensures.1
    ∙ ap (λ (letter : ℕ). placed_in c.args.out.now c.args.start
    (record_in first_edition letter c.plain-group.result.centering (take c.in-Ok.n c.plain-group.result.operations)))
    c.letter_byte-letter.ensures) in
    placed-answer false c.if-not-place_group.true

pub returns-in-Err : goal.returns-in-Err
returns-in-Err c =
    record-refused c.args.text.now c.args.out.now c.args.start _ (sym c.order.ensures ∙ c.in-Err.is)

pub returns-else-not-place_group : goal.returns-else-not-place_group
returns-else-not-place_group c =
    let placed-answer : (b : Bool) → c.place_group.result ≡ b
    → (cond b (Ok c.in-Ok.n) (Err NoRoom)
    ≡ layer_record_of c.args.text.now
    c.args.out.now
    c.args.start)
    × (c.place_group.new.out ≡ layer_buffer_of c.args.text.now
    c.args.out.now
    c.args.start) =
    λ b told. let g = c.plain-group.result in
    record-written c.args.text.now _ (sym c.order.ensures
    ∙ c.in-Ok.is) g c.plain-group.ensures c.args.out.now c.args.start b
    (sym told ∙ c.place_group.ensures.0) _
    (c.place_group.ensures.1
    ∙ ap (λ (letter : ℕ). placed_in c.args.out.now c.args.start
    (record_in first_edition letter c.plain-group.result.centering (take c.in-Ok.n c.plain-group.result.operations)))
    c.letter_byte-letter.ensures) in
    placed-answer true c.if-not-place_group.false
