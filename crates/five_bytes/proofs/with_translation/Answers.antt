-- By cases of what the code stands for.
use mathlib.Core.Path.{sym, ap}
use Rattle.five_bytes.specs.FiveBytes.{with_translation}
use Rattle.five_bytes.proofs.with_translation.Goals as goal

pub returns-in-Some : goal.returns-in-Some
returns-in-Some c =
    let a = c.args in
    sym (ap (λ d. with_translation d a.translation) c.in-Some.is)
