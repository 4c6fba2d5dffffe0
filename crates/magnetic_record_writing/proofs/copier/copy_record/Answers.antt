-- The reading decides, then whether there was room; the bytes that are copied are those at the end of the buffer that was read.
use Rattle.std.specs.Prelude.{Err, Ok}
use mathlib.Core.Path.{◌≡◌, sym, ◌∙◌}
use mathlib.Core.Bool.{Bool, true, false, cond}
use Prim.Native.Nat.{◌+◌, ◌*◌, ◌-◌}
use native.Mathlib.Omega.{arith}
use lib.ListN.{length}
use Rattle.laws.specs.LentParts.{tail-part}
use Rattle.magnetic_record.specs.Copying.{magnetic_copied_of, magnetic_copy_buffer, RecordAtEnd, read-end, copy-refused, copy-placed}
use Rattle.magnetic_record_writing.proofs.copier.copy_record.Goals as goal
use Rattle.record_writing.specs.declared.Unwritten.TheVariants.{NoRoom}

pub overflow_mul-from : goal.overflow_mul-from
overflow_mul-from c =
    -- The record that was read.
    let ended : RecordAtEnd c.args.bytes.now c.in-Ok.n =
    read-end c.args.bytes.now (λ i. omega (arith, c.shared_slice_known-1.given i)) c.in-Ok.field-0-0
    c.in-Ok.n (sym c.in-Ok.is ∙ c.read_record.ensures) in
    omega (arith, (ended).long)

pub overflow_add-from : goal.overflow_add-from
overflow_add-from c =
    let ended : RecordAtEnd c.args.bytes.now c.in-Ok.n =
    read-end c.args.bytes.now (λ i. omega (arith, c.shared_slice_known-1.given i)) c.in-Ok.field-0-0
    c.in-Ok.n (sym c.in-Ok.is ∙ c.read_record.ensures) in
    omega (arith, (ended).long)

pub overflow_sub-from : goal.overflow_sub-from
overflow_sub-from c =
    let ended : RecordAtEnd c.args.bytes.now c.in-Ok.n =
    read-end c.args.bytes.now (λ i. omega (arith, c.shared_slice_known-1.given i)) c.in-Ok.field-0-0
    c.in-Ok.n (sym c.in-Ok.is ∙ c.read_record.ensures) in
    (ended).long

pub returns-then-not-place_bytes : goal.returns-then-not-place_bytes
returns-then-not-place_bytes c =
    let ended : RecordAtEnd c.args.bytes.now c.in-Ok.n =
    read-end c.args.bytes.now (λ i. omega (arith, c.shared_slice_known-1.given i)) c.in-Ok.field-0-0
    c.in-Ok.n (sym c.in-Ok.is ∙ c.read_record.ensures) in
    -- What is answered, by whether there was room.
    let placed-answer : (b : Bool) → c.place_bytes.result ≡ b
    → (cond b (Ok c.in-Ok.n) (Err NoRoom)
    ≡ magnetic_copied_of c.args.bytes.now
    c.args.out.now
    c.args.start)
    × (c.place_bytes.new.out ≡ magnetic_copy_buffer c.args.bytes.now
    c.args.out.now
    c.args.start) =
    λ b told. let n = c.in-Ok.n in
    let from = length c.args.bytes.now - (6 * n + 5) in
    copy-placed c.args.bytes.now c.args.out.now c.args.start n (ended) _ (tail-part c.args.bytes.now from) b
    (sym told ∙ c.place_bytes.ensures.0) _ c.place_bytes.ensures.1 in
    placed-answer false c.if-not-place_bytes.true

pub returns-in-Err : goal.returns-in-Err
returns-in-Err c =
    copy-refused c.args.bytes.now c.args.out.now c.args.start _ (sym c.in-Err.is ∙ c.read_record.ensures)

pub returns-else-not-place_bytes : goal.returns-else-not-place_bytes
returns-else-not-place_bytes c =
    let ended : RecordAtEnd c.args.bytes.now c.in-Ok.n =
    read-end c.args.bytes.now (λ i. omega (arith, c.shared_slice_known-1.given i)) c.in-Ok.field-0-0
    c.in-Ok.n (sym c.in-Ok.is ∙ c.read_record.ensures) in
    let placed-answer : (b : Bool) → c.place_bytes.result ≡ b
    → (cond b (Ok c.in-Ok.n) (Err NoRoom)
    ≡ magnetic_copied_of c.args.bytes.now
    c.args.out.now
    c.args.start)
    × (c.place_bytes.new.out ≡ magnetic_copy_buffer c.args.bytes.now
    c.args.out.now
    c.args.start) =
    λ b told. let n = c.in-Ok.n in
    let from = length c.args.bytes.now - (6 * n + 5) in
    copy-placed c.args.bytes.now c.args.out.now c.args.start n (ended) _ (tail-part c.args.bytes.now from) b
    (sym told ∙ c.place_bytes.ensures.0) _ c.place_bytes.ensures.1 in
    placed-answer true c.if-not-place_bytes.false
