-- The symbol's answer decides, then whether there was room; an accepted symbol's operations may be written.
use Rattle.std.specs.Prelude.{Err, Ok}
use Rattle.group_record.specs.Record.{record_in, record_of}
use Rattle.group_record.specs.FirstEdition.{first_edition}
use Rattle.record_writing.specs.Places.{placed_in}
use mathlib.Core.Path.{◌≡◌, sym, ◌∙◌, ap}
use Prim.Native.Nat.{ℕ}
use lib.ListN.{take}
use mathlib.Core.Bool.{Bool, true, false, cond}
use Rattle.record_writing.specs.SymbolRecords.{symbol_record_of, symbol_buffer_of, refused-by, accepted-by}
use Rattle.record_writing.specs.AcceptedSymbols.{symbol-writable}
use Rattle.record_writing.proofs.symbol.write_record.Goals as goal
use Rattle.record_writing.specs.declared.Unwritten.TheVariants.{NoRoom}

pub place_group-requires : goal.place_group-requires
place_group-requires c =
    symbol-writable c.args.text.now
    c.new-group.result c.new-group.ensures
    c.in-Group.is

pub returns-then-not-place_group : goal.returns-then-not-place_group
unfolding record_of
returns-then-not-place_group c =
    -- What is answered, by what the writer answered.
    let placed-answer : (b : Bool) → c.place_group.result ≡ b
    → (cond b (Ok c.new-group.result.count) (Err NoRoom)
    ≡ symbol_record_of c.args.text.now
    c.args.out.now
    c.args.start)
    × (c.place_group.new.out ≡ symbol_buffer_of c.args.text.now
    c.args.out.now
    c.args.start) =
    λ b told. accepted-by c.args.text.now c.args.out.now c.args.start c.new-group.result c.new-group.ensures c.in-Group.is b
    (sym told ∙ c.place_group.ensures.0) _
    (c.place_group.ensures.1
    ∙ ap (λ (b : ℕ). placed_in c.args.out.now c.args.start
    (record_in first_edition b c.new-group.result.centering (take c.new-group.result.count c.new-group.result.operations))) c.byte-letter.ensures) in
    placed-answer false c.if-not-place_group.true

pub returns-in-Refused : goal.returns-in-Refused
returns-in-Refused c =
    refused-by c.args.text.now c.args.out.now c.args.start c.new-group.result c.new-group.ensures _ c.in-Refused.is

pub returns-else-not-place_group : goal.returns-else-not-place_group
unfolding record_of
returns-else-not-place_group c =
    let placed-answer : (b : Bool) → c.place_group.result ≡ b
    → (cond b (Ok c.new-group.result.count) (Err NoRoom)
    ≡ symbol_record_of c.args.text.now
    c.args.out.now
    c.args.start)
    × (c.place_group.new.out ≡ symbol_buffer_of c.args.text.now
    c.args.out.now
    c.args.start) =
    λ b told. accepted-by c.args.text.now c.args.out.now c.args.start c.new-group.result c.new-group.ensures c.in-Group.is b
    (sym told ∙ c.place_group.ensures.0) _
    (c.place_group.ensures.1
    ∙ ap (λ (b : ℕ). placed_in c.args.out.now c.args.start
    (record_in first_edition b c.new-group.result.centering (take c.new-group.result.count c.new-group.result.operations))) c.byte-letter.ensures) in
    placed-answer true c.if-not-place_group.false
