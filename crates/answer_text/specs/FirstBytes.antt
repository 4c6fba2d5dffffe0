-- Of a line over 80 bytes only the first 80 matter: no more are written, and it is refused for its length alone.
use Rattle.std.specs.Prelude.{◌≡◌, List, ◌∷◌, ◌++◌, ℕ, ◌<◌, length, take}
use Rattle.std.proofs.Common.{sym, ◌∙◌, ap, ap₂}
use Rattle.symbol_group.specs.Answers.{symbol_answer, long-refused}
use Rattle.symbol_group.specs.declared.SymbolGroup.{SymbolGroup}
use Rattle.answer_text.specs.Words.{newline}
use Rattle.answer_text.specs.Text.{answer_by, answer_of, text_of}

-- Lines that are answered alike have one text for the answer.
answers-alike : (line other : List ℕ) → symbol_answer line ≡ symbol_answer other → answer_of line ≡ answer_of other
unfolding answer_of
answers-alike line other e = ap (λ (g : SymbolGroup). answer_by g.answer g.centering (take g.count g.operations)) e

-- Lines over 80 bytes that begin with the same 80 have one text.
pub long-alike : (line other : List ℕ) → 80 < length line → 80 < length other → take 80 line ≡ take 80 other → text_of line ≡ text_of other
unfolding text_of
long-alike line other long longer e =
    ap₂ (λ (s t : List ℕ). s ++ (newline ∷ t)) e (answers-alike line other (long-refused line long ∙ sym (long-refused other longer)))
