-- The part from five times the index is the entry's five bytes.
use mathlib.Core.Path.{◌∙◌, ap}
use Rattle.five_bytes.specs.FiveBytes.{five_bytes_of}
use Rattle.list_check.specs.Entries.{part-is}
use Rattle.list_check.proofs.entries.entry.Goals as goal

pub returns : goal.returns
returns c =
    c.operation_in.ensures ∙ ap five_bytes_of (part-is c.args.list.now c.args.i)
