-- The ends decide, then the codes, then the triples.
use mathlib.Core.Path.{◌≡◌, sym, ◌∙◌, ap, ap₂}
use mathlib.Core.Bool.{Bool, cond}
use native.Mathlib.Omega.{arith}
use Rattle.laws.specs.Lattice.{same_triple}
use Rattle.record_report.specs.Cursors.{same_translation, second_ended, first_ended, first-lower, second-lower, one_code}
use Rattle.record_report.proofs.cursors.difference_at.Goals as goal

pub returns-then-m-j : goal.returns-then-m-j
returns-then-m-j c =
    sym (second_ended c.args.first.now c.args.second.now c.args.n c.args.m c.args.i c.args.j c.requires.1 c.if-m-j.true)

pub returns-then-n-i : goal.returns-then-n-i
returns-then-n-i c =
    sym (first_ended c.args.first.now c.args.second.now c.args.n c.args.m c.args.i c.args.j c.requires.0 c.if-n-i.true (omega arith))

pub returns-then-code-other : goal.returns-then-code-other
returns-then-code-other c =
    sym (first-lower c.args.first.now c.args.second.now c.args.n c.args.m c.args.i c.args.j (omega arith) (omega arith)
    c.item_code-code.result c.item_code-other.result c.item_code-code.ensures c.item_code-other.ensures
    c.if-code-other.true)

pub returns-then-other-code : goal.returns-then-other-code
returns-then-other-code c =
    sym (second-lower c.args.first.now c.args.second.now c.args.n c.args.m c.args.i c.args.j (omega arith) (omega arith)
    c.item_code-code.result c.item_code-other.result c.item_code-code.ensures
    c.item_code-other.ensures c.if-other-code.true)

pub returns-then-eq : goal.returns-then-eq
unfolding same_translation same_triple
returns-then-eq c =
    let told : c.eq.result ≡ same_translation c.item_translation.result c.item_translation-2.result = c.eq.ensures in
    sym (one_code c.args.first.now c.args.second.now c.args.n c.args.m c.args.i c.args.j (omega arith) (omega arith)
    c.item_code-code.result c.item_code-other.result c.item_code-code.ensures c.item_code-other.ensures c.if-code-other.false c.if-other-code.false
    c.eq.result (told ∙ ap₂ same_translation c.item_translation.ensures c.item_translation-2.ensures) ∙ ap (λ (b : Bool). cond b 0 3) c.if-eq.true)

pub returns : goal.returns
unfolding same_translation same_triple
returns c =
    let told : c.eq.result ≡ same_translation c.item_translation.result c.item_translation-2.result = c.eq.ensures in
    sym (one_code c.args.first.now c.args.second.now c.args.n c.args.m c.args.i c.args.j (omega arith) (omega arith)
    c.item_code-code.result c.item_code-other.result c.item_code-code.ensures c.item_code-other.ensures c.if-code-other.false c.if-other-code.false
    c.eq.result (told ∙ ap₂ same_translation c.item_translation.ensures c.item_translation-2.ensures) ∙ ap (λ (b : Bool). cond b 0 3) c.if-eq.false)
