-- Three bytes for a negative entry, two for another.
use Rattle.std.proofs.Common.{◌≡◌, sym, ap, ◌∙◌, arith, List, [], ◌∷◌, ◌++◌, ℕ}
use Rattle.operation.specs.Meaning.{entry_of}
use Rattle.answer_text.specs.Words.{space, signed, entry-negative, entry-plain}
use Rattle.placed_text.specs.Placing.{put-named}
use Rattle.answer_text.proofs.AnswerText.put_entry.Goals as goal

-- An entry's word, where it is known how the entry is written.
word : (d e : ℕ) (text : List ℕ) → d ≡ e → signed (entry_of e) ≡ text → text ++ (space ∷ []) ≡ signed (entry_of d) ++ (space ∷ [])
word d e text same said = sym (ap (λ (w : List ℕ). w ++ (space ∷ [])) (ap (λ (k : ℕ). signed (entry_of k)) same ∙ said))

pub returns-in-0 : goal.returns-in-0
returns-in-0 c = put-named (word c.args.digit 0 _ c.in-0.is entry-negative) c.put_bytes.ensures

pub returns-in-1 : goal.returns-in-1
returns-in-1 c = put-named (word c.args.digit 1 _ c.in-1.is (entry-plain 1 (λ e. absurd (omega arith)) (omega arith))) c.put_bytes-in-1.ensures

pub returns-in_default : goal.returns-in_default
returns-in_default c =
    let last : c.args.digit ≡ 2 = omega (arith, c.requires.0, c.in_default) in
    put-named (word c.args.digit 2 _ last (entry-plain 2 (λ e. absurd (omega arith)) (omega arith))) c.put_bytes-in_default.ensures
