-- A text over 80 bytes is refused as it stands; of any other the copy is read.
use mathlib.Core.Path.{sym, ◌∙◌, ap}
use mathlib.Core.List.{List}
use Prim.Native.Nat.{ℕ}
use lib.ListN.{length}
use Rattle.hall_symbol.specs.Reader.{read_symbol, answer_of}
use Rattle.magnetic_symbol.specs.Copying.{blanked-length, long-answer, short-answer}
use Rattle.magnetic_symbol.proofs.MagneticSymbol.new.Goals as goal

pub returns-then-text-gt80 : goal.returns-then-text-gt80
returns-then-text-gt80 c = long-answer c.args.text.now c.new.result c.if-text-gt80.true c.new.ensures

pub slice_bounds-new-end : goal.slice_bounds-new-end
slice_bounds-new-end c = sym (ap length c.blanked-copy.ensures.1 ∙ blanked-length c.args.text.now)

pub returns : goal.returns
returns c =
    let text = c.args.text.now in
    let read = c.new-symbol.ensures ∙ ap (λ (s : List ℕ). answer_of (read_symbol s)) c.blanked-copy.ensures.1 in
    short-answer text c.new-symbol.result c.kept-flags.result _ read c.blanked-copy.ensures.2 c.kept-flags.ensures
