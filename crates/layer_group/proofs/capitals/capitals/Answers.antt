-- The copy, and the one byte that changes in it: of a letter, of a letter behind `-`, or of any other token.
use Rattle.std.proofs.Common.{set, sym, ◌∙◌, ap}
use Rattle.laws.specs.LentParts.{tail-part}
use Rattle.layer_group.specs.Capitals.{letter_here}
use Rattle.layer_group.specs.Copying.{token-found, token-missed, letter-small, letter-inside, change-letter, change-inverted, change-other, change-minus, copy-changed}
use Rattle.layer_group.proofs.capitals.capitals.Goals as goal
use Rattle.layer_group.proofs.capitals.capitals.Goals.{else-first-eq45-via-then-first-eq45+else-is_letter-2, else-first-eq45-via-else-first-eq45}

pub returns-in_default : goal.returns-in_default
returns-in_default c = c.copied-copy.ensures ∙ sym (token-missed c.args.text.now (sym c.first_token.ensures ∙ c.in_default.is))

pub overflow_sub-copy : goal.overflow_sub-copy
overflow_sub-copy c =
    let text = c.args.text.now in
    let (blank, inside) = token-found text c.in-Some.start (sym c.first_token.ensures ∙ c.in-Some.is) in
    letter-small text c.in-Some.start inside (ap letter_here (sym (tail-part text c.in-Some.start)) ∙ sym c.is_letter.ensures ∙ c.if-is_letter.true)

pub returns-then-is_letter : goal.returns-then-is_letter
returns-then-is_letter c =
    let text = c.args.text.now in
    let (blank, inside) = token-found text c.in-Some.start (sym c.first_token.ensures ∙ c.in-Some.is) in
    let letter = ap letter_here (sym (tail-part text c.in-Some.start)) ∙ sym c.is_letter.ensures ∙ c.if-is_letter.true in
    copy-changed text c.copied-copy.result c.in-Some.start _ c.copied-copy.ensures inside (change-letter text c.in-Some.start blank inside letter)

pub overflow_sub-copy-then-is_letter-2 : goal.overflow_sub-copy-then-is_letter-2
overflow_sub-copy-then-is_letter-2 c =
    let text = c.args.text.now in
    let letter = ap letter_here (sym (tail-part text _)) ∙ sym c.is_letter-then-first-eq45.ensures ∙ c.if-is_letter-2.true in
    letter-small text _ (letter-inside text _ letter) letter

pub returns-then-is_letter-2 : goal.returns-then-is_letter-2
returns-then-is_letter-2 c =
    let text = c.args.text.now in
    let (blank, inside) = token-found text c.in-Some.start (sym c.first_token.ensures ∙ c.in-Some.is) in
    let none = ap letter_here (sym (tail-part text c.in-Some.start)) ∙ sym c.is_letter.ensures ∙ c.if-is_letter.false in
    let letter = ap letter_here (sym (tail-part text _)) ∙ sym c.is_letter-then-first-eq45.ensures ∙ c.if-is_letter-2.true in
    copy-changed text c.copied-copy.result _ _ c.copied-copy.ensures (letter-inside text _ letter)
    (change-inverted text c.in-Some.start blank inside none c.if-first-eq45.true letter)

pub returns : goal.returns
returns c =
    let text = c.args.text.now in
    let (blank, inside) = token-found text c.in-Some.start (sym c.first_token.ensures ∙ c.in-Some.is) in
    let none = ap letter_here (sym (tail-part text c.in-Some.start)) ∙ sym c.is_letter.ensures ∙ c.if-is_letter.false in
    copy-changed text c.copied-copy.result c.in-Some.start c.marked_byte.result c.copied-copy.ensures inside
    (ap (set text c.in-Some.start) c.marked_byte.ensures
    ∙ elim c.else-first-eq45.branch [
      | else-first-eq45-via-then-first-eq45+else-is_letter-2 w ↦ change-minus text c.in-Some.start blank inside none w.if-first-eq45.true
          (ap letter_here (sym (tail-part text _)) ∙ sym w.is_letter-then-first-eq45.ensures ∙ w.if-is_letter-2.false)
      | else-first-eq45-via-else-first-eq45 w ↦ change-other text c.in-Some.start blank inside none (λ q. w.if-first-eq45.false q)
    ])
