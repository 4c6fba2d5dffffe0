-- Three parts of at most twelve bytes each, with commas between them.
use native.Mathlib.Omega.{arith}
use lib.ListN.{length-set}
use Rattle.placed_text.specs.Placing.{put_byte, put_then}
use Rattle.operation_line.specs.Writing.{line_of, plain_line, written_line}
use Rattle.operation_line.specs.Building.{part-short}
use Rattle.line_writing.proofs.put_line.Goals as goal

pub bounds-out-x : goal.bounds-out-x
bounds-out-x c =
    omega (
      arith,
      c.requires.1,
      c.put_part-x.ensures.place,
      c.put_part-x.auto.out,
      part-short c.args.f.rotation.xx c.args.f.rotation.xy c.args.f.rotation.xz c.args.f.translation.x,
    )

pub overflow_add-x : goal.overflow_add-x
overflow_add-x c =
    omega (
      arith,
      c.requires.1,
      c.put_part-x.ensures.place,
      c.put_part-x.auto.out,
      part-short c.args.f.rotation.xx c.args.f.rotation.xy c.args.f.rotation.xz c.args.f.translation.x,
    )

pub put_part-y-requires : goal.put_part-y-requires
put_part-y-requires c = (
  c.requires.0.y,
  simp length-set (omega (
    arith,
    c.requires.1,
    c.put_part-x.ensures.place,
    c.put_part-x.auto.out,
    part-short c.args.f.rotation.xx c.args.f.rotation.xy c.args.f.rotation.xz c.args.f.translation.x,
  )),
)

pub bounds-out-y : goal.bounds-out-y
bounds-out-y c =
    omega (
      arith,
      c.requires.1,
      c.put_part-x.ensures.place,
      c.put_part-x.auto.out,
      part-short c.args.f.rotation.xx c.args.f.rotation.xy c.args.f.rotation.xz c.args.f.translation.x,
      c.put_part-y.ensures.place,
      simp length-set at c.put_part-y.auto.out,
      part-short c.args.f.rotation.yx c.args.f.rotation.yy c.args.f.rotation.yz c.args.f.translation.y,
    )

pub overflow_add-y : goal.overflow_add-y
overflow_add-y c =
    omega (
      arith,
      c.requires.1,
      c.put_part-x.ensures.place,
      c.put_part-x.auto.out,
      part-short c.args.f.rotation.xx c.args.f.rotation.xy c.args.f.rotation.xz c.args.f.translation.x,
      c.put_part-y.ensures.place,
      simp length-set at c.put_part-y.auto.out,
      part-short c.args.f.rotation.yx c.args.f.rotation.yy c.args.f.rotation.yz c.args.f.translation.y,
    )

pub put_part-requires : goal.put_part-requires
put_part-requires c = (
  c.requires.0.z,
  simp length-set (omega (
    arith,
    c.requires.1,
    c.put_part-x.ensures.place,
    c.put_part-x.auto.out,
    part-short c.args.f.rotation.xx c.args.f.rotation.xy c.args.f.rotation.xz c.args.f.translation.x,
    c.put_part-y.ensures.place,
    simp length-set at c.put_part-y.auto.out,
    part-short c.args.f.rotation.yx c.args.f.rotation.yy c.args.f.rotation.yz c.args.f.translation.y,
  )),
)

pub shape_of-out : goal.shape_of-out
shape_of-out c =
    omega (
      arith,
      simp length-set at c.put_part.auto.out,
      simp length-set at c.put_part-y.auto.out,
      c.put_part-x.auto.out,
    )

pub returns : goal.returns
unfolding line_of plain_line written_line
returns c =
    put_then c.put_part-x.ensures
    (put_then (put_byte _ _ _) (put_then c.put_part-y.ensures
    (put_then (put_byte _ _ _) c.put_part.ensures)))
