-- By cases of what was read; what was read may be written.
use Rattle.group_record.specs.declared.Reading.TheVariants.{Accepted}
use Rattle.group_record.specs.declared.Edition.{Edition}
use Rattle.record_writing.specs.Copying.{copied_by, group_bytes, copied-by, buffer-by}
use Rattle.record_writing.specs.RoundTrips.{read-writable}
use Rattle.record_writing.specs.Places.{placed_in}
use lib.ListN.{length}
use native.Mathlib.Omega.{arith}
use mathlib.Core.Path.{◌∙◌, ap}
use Rattle.record_writing.proofs.copier.write_read.Goals as goal

pub place_read-requires : goal.place_read-requires
place_read-requires c =
    read-writable c.args.bytes.now _
    (λ i. omega (arith, c.shared_slice_known-1.given i))
    c.read_record-group.ensures c.in-Accepted.is

pub returns-in-Accepted : goal.returns-in-Accepted
returns-in-Accepted c =
    let g = c.read_record-group.result in
    let read = c.read_record-group.ensures in
    let chosen = c.chosen.ensures in
    let told = c.in-Accepted.is in (
      c.place_read.ensures.0 ∙ ap (λ (e : Edition). copied_by Accepted e c.read_record-group.result.count c.args.start (length c.args.out.now)) chosen
          ∙ copied-by c.args.moved c.args.bytes.now c.args.out.now c.args.start g read Accepted told,
      c.place_read.ensures.1 ∙ ap (λ (e : Edition). placed_in c.args.out.now c.args.start (group_bytes e g)) chosen
          ∙ buffer-by c.args.moved c.args.bytes.now c.args.out.now c.args.start g read Accepted told,
    )

pub returns-in-Refused : goal.returns-in-Refused
returns-in-Refused c =
    let read = c.read_record-group.ensures in
    let told = c.in-Refused.is in (
      copied-by c.args.moved c.args.bytes.now c.args.out.now c.args.start _ read _ told,
      buffer-by c.args.moved c.args.bytes.now c.args.out.now c.args.start _ read _ told,
    )
