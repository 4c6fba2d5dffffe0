-- What is known after a step.
use Rattle.lines.specs.declared.Kept.{Kept}
use Rattle.hall.specs.declared.Step.{Step}
use Rattle.hall.specs.declared.Step.TheVariants.{More, End, Failed}

-- Where it did not fail, P of the line that goes on; and Q at the end of the input.
abbrev pub Goes : Step → (Kept → Type 0) → Type 0 → Type 0
Goes (More next) P Q = P next
Goes (End last) P Q = P last × Q
Goes (Failed last) P Q = Unit {0}
