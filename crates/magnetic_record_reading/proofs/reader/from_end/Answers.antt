-- The definition, byte for byte.
use mathlib.Core.Path.{refl}
use Rattle.group_record.specs.Editions.{from_end}
use Rattle.magnetic_record_reading.proofs.reader.from_end.Goals as goal

pub returns : goal.returns
unfolding from_end
returns c = refl
