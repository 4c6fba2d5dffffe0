-- Two tests for room; with room the part from the start on begins with the bytes.
use mathlib.Core.Path.{refl, sym, ◌∙◌}
use native.Mathlib.Omega.{arith}
use lib.ListN.{length}
use Rattle.laws.specs.LentParts.{put-at}
use Rattle.record_writing.specs.Places.{start-beyond, too-near-end, room-there, nothing_placed, all_placed}
use Rattle.magnetic_record_writing.proofs.copier.place_bytes.Goals as goal
use Rattle.magnetic_record_writing.proofs.copier.place_bytes.Goals.{then-size-start-via-then-size-start, then-size-start-via-else-size-start+then-size-start-2}

pub returns-then-size-start : goal.returns-then-size-start
returns-then-size-start c = elim c.then-size-start.branch [
  | then-size-start-via-then-size-start w ↦
      let short = start-beyond c.args.start (length c.args.bytes.now) (length c.args.out.now) w.if-size-start.true in
      (sym short, sym (nothing_placed c.args.out.now c.args.start (length c.args.bytes.now) c.args.bytes.now refl short))
  | then-size-start-via-else-size-start+then-size-start-2 w ↦
      let short = too-near-end c.args.start (length c.args.bytes.now) (length c.args.out.now) (omega arith) w.if-size-start-2.true in
      (sym short, sym (nothing_placed c.args.out.now c.args.start (length c.args.bytes.now) c.args.bytes.now refl short))
]

pub returns : goal.returns
returns c =
    let long = length c.args.bytes.now in
    let room = room-there c.args.start long (length c.args.out.now) (omega arith) (omega (arith, c.if-size-start-2.false)) in
    let placed = all_placed c.args.out.now c.args.start long c.args.bytes.now refl room in
    (sym room, put-at c.args.out.now _ c.args.bytes.now c.args.start long c.copy_bytes.ensures ∙ sym placed)
