use Rattle.std.proofs.Common.{◌≡◌, ◌++◌, List, ℕ, ◌+◌, ◌<◌, ◌≤◌, length, take, sym, ◌∙◌, ap, arith, length-set}
use mathlib.Core.List.{append-nil}
use Rattle.laws.specs.LentParts.{tail-part}
use Rattle.magnetic_symbol.specs.Reversals.{ends, noted_all}
use Rattle.magnetic_symbol.specs.Copying.{copy_more, flag-more, copy-end, flags-end}
use Rattle.magnetic_symbol.proofs.reversals.blanked.Goals as goal

pub loop-i-preserved : goal.loop-i-preserved
loop-i-preserved c =
    let text = c.args.text.now in
    let there : c.loop-i.i < length text = omega arith in
    let last = c.ends-last.ensures ∙ ap ends (tail-part text (c.loop-i.i + 1)) in
    let reversed = c.reverses-reversed.ensures in
    let given = c.gives-given.ensures in (
      length-set c.loop-i.bytes c.loop-i.i _ ∙ c.loop-i.invariant.0,
      rw (c.copied_byte.ensures, c.after-mode.ensures, reversed, last)
          (copy_more text c.loop-i.i there c.loop-i.mode c.loop-i.bytes (omega arith) ∙ c.loop-i.invariant.1),
      rw (c.note.ensures, c.after-mode.ensures, reversed, last)
          (flag-more text c.loop-i.i there c.loop-i.mode c.loop-i.list _ (given ∙ rw last) ∙ c.loop-i.invariant.2),
    )

pub returns : goal.returns
returns c =
    let text = c.args.text.now in
    let all : c.loop-i.i ≡ length text = omega arith in
    let past : length text ≤ c.loop-i.i = omega arith in (
      c.loop-i.invariant.0,
      ap (λ (n : ℕ). take n c.loop-i.bytes) (sym all) ∙ sym (append-nil (take c.loop-i.i c.loop-i.bytes))
          ∙ ap (λ (r : List ℕ). take c.loop-i.i c.loop-i.bytes ++ r) (sym (copy-end c.loop-i.mode text c.loop-i.i past)) ∙ c.loop-i.invariant.1,
      ap (noted_all c.loop-i.list) (sym (flags-end c.loop-i.mode text c.loop-i.i past)) ∙ c.loop-i.invariant.2,
    )
