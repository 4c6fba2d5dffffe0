-- The record's writer says which group or refusal it is; there is always room.
use Rattle.std.specs.Prelude.{Err}
use mathlib.Core.Path.{refl, ap}
use native.Mathlib.Omega.{arith}
use Rattle.answer_text.specs.Places.{number_small, place-small}
use Rattle.answer_text.specs.Answering.{told-written, told-refused, told-room, group-few, group-plain, group-text, refused-text}
use Rattle.placed_text.specs.Placing.{put-named}
use Rattle.answer_text.proofs.AnswerText.put_answer.Goals as goal

pub put_group-requires : goal.put_group-requires
put_group-requires c =
    let n = c.in-Ok.n in
    let (group, count) = told-written c.args.line.now _ c.in-Ok.ensures.0 n refl in
    let few = group-few c.args.line.now group n c.write_record.new.out count c.in-Ok.ensures.1 in (
      few,
      omega (arith, c.write_record.auto.out),
      group-plain c.args.line.now group n c.write_record.new.out count c.in-Ok.ensures.1,
      omega (arith, c.requires),
    )

pub put_refusal-requires : goal.put_refusal-requires
put_refusal-requires c =
    let r = c.in-Err-Refused.refusal in
    let told = told-refused c.args.line.now _ c.in-Err-Refused.ensures.0 r (ap Err c.in-Err-Refused.field-0-is) in
    rw c.in-Err-Refused.refusal-is
    (omega (arith, number_small r), omega (arith, place-small c.args.line.now r told), omega (arith, c.requires))

pub returns-in-Ok : goal.returns-in-Ok
returns-in-Ok c =
    let n = c.in-Ok.n in
    let (group, count) = told-written c.args.line.now _ c.in-Ok.ensures.0 n refl in
    put-named (group-text c.args.line.now group n c.write_record.new.out count c.in-Ok.ensures.1) c.put_group.ensures

pub returns-in-Err-Refused : goal.returns-in-Err-Refused
returns-in-Err-Refused c =
    let r = c.in-Err-Refused.refusal in
    let told = told-refused c.args.line.now _ c.in-Err-Refused.ensures.0 r (ap Err c.in-Err-Refused.field-0-is) in
    put-named (refused-text c.args.line.now r told) (rw c.in-Err-Refused.refusal-is at c.put_refusal.ensures)

pub returns-in-Err-NoRoom : goal.returns-in-Err-NoRoom
returns-in-Err-NoRoom c = absurd (told-room c.args.line.now _ c.in-Err-NoRoom.ensures.0 (ap Err c.in-Err-NoRoom.field-0-is))
