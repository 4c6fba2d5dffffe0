-- The line is made in 64 bytes of its own; its length decides.
use Rattle.std.proofs.Common.{List, ℕ, ◌≡◌, ◌≤◌, ◌++◌, length, drop, sym, ◌∙◌, ap, arith, length-take-le, length-append}
use Rattle.placed_text.specs.Placing.{Put, put_front}
use Rattle.operation_line.specs.Placed.{line-short, no_room, with-room}
use Rattle.line_writing.proofs.write_fitting.Goals as goal

-- What was written stands within the bytes.
within : {before text after : List ℕ} {size : ℕ} → Put before 0 text after size → length text ≤ length before → size ≤ length after
within {before} {text} {after} {size} p h =
    let whole : after ≡ text ++ drop (length text) before = p.bytes ∙ put_front before text h in
    omega (arith, p.place, ap length whole, length-append text (drop (length text) before))

pub returns-then-out-size : goal.returns-then-out-size
returns-then-out-size c =
    no_room c.put_line-size.ensures (omega (arith, line-short c.args.f)) c.args.out.now c.if-out-size.true

pub slice_bounds-line-end : goal.slice_bounds-line-end
slice_bounds-line-end c = within c.put_line-size.ensures (omega (arith, line-short c.args.f))

pub slice_bounds-copy_from_slice-end-3 : goal.slice_bounds-copy_from_slice-end-3
slice_bounds-copy_from_slice-end-3 c = sym (length-take-le _ _ (within c.put_line-size.ensures (omega (arith, line-short c.args.f))))

pub copy_from_slice-requires : goal.copy_from_slice-requires
copy_from_slice-requires c =
    length-take-le _ _ c.if-out-size.false ∙ sym (length-take-le _ _ (within c.put_line-size.ensures (omega (arith, line-short c.args.f))))

pub returns : goal.returns
returns c =
    with-room c.put_line-size.ensures (omega (arith, line-short c.args.f)) c.args.out.now _
    c.if-out-size.false (ap (λ (l : List ℕ). l ++ drop c.put_line-size.result c.args.out.now) c.copy_from_slice.ensures.after)
