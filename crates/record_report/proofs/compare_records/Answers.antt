-- The first reading decides, then the second, and then the report.
use mathlib.Core.Path.{sym, ◌∙◌}
use native.Mathlib.Omega.{arith}
use Rattle.record_report.specs.Lent.{first-refused, second-refused, both_read}
use Rattle.record_report.proofs.compare_records.Goals as goal

pub returns-in-Refused : goal.returns-in-Refused
returns-in-Refused c =
    first-refused c.args.first.now c.args.second.now c.args.out.now _ (sym c.read.ensures ∙ c.in-Refused.is)

pub returns-in-Refused-read : goal.returns-in-Refused-read
returns-in-Refused-read c =
    second-refused c.args.first.now c.args.second.now c.args.out.now
    (sym c.read.ensures ∙ c.in_default.is) _
    (sym c.read-2.ensures ∙ c.in-Refused-read.is)

pub report-requires : goal.report-requires
report-requires c = (
  record {
    small = λ i. omega (arith, c.shared_slice_known-1.given i);
    accepted = sym
        c.read.ensures ∙ c.in_default.is;
  },
  record {
    small = λ i. omega (arith, c.shared_slice_known-2-1.given i);
    accepted = sym
        c.read-2.ensures ∙ c.in_default-read.is;
  },
)

pub returns : goal.returns
returns c =
    both_read c.args.first.now c.args.second.now c.args.out.now
    (sym c.read.ensures
    ∙ c.in_default.is)
    (sym c.read-2.ensures ∙ c.in_default-read.is) _ _
    c.report.ensures
