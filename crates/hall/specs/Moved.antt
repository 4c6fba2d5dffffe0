-- What is read and written on the way, where the bytes of the reader and of the writer are known.
use Rattle.std.specs.Prelude.{◌≡◌, refl, List, [], ◌++◌, ℕ, replicate, Option, None, Some, IfSome}
use Rattle.std.proofs.Common.{sym, ◌∙◌, ap, subst, arith}
use Rattle.std.proofs.lemmas.List.{length-replicate}
use Rattle.std.specs.Io.KnownBytes.{Appends, Consumes, IsAtEnd}
use Rattle.std.proofs.KnownBytes.{Appends-nil, Appends-trans, Consumes-nil, Consumes-trans, Consumes-whole}
use Rattle.lines.specs.Lines.{last_line, lines_of, in_a_row}
use Rattle.lines.specs.Feeding.{kept_behind, handed_over, all_handed_over, short-whole, kept-parts, handed-parts, handed-lines}
use Rattle.lines.specs.Keeping.{held, stored}
use Rattle.lines.specs.Storing.{held-stored}
use Rattle.lines.specs.declared.Kept.{Kept}
use Rattle.hall.specs.Output.{texts_of, output_of, texts-joined, shortened-texts}

-- A piece was read, the texts of the lines that it ends were written, and the line that was being read goes on as it makes it.
pub record Moved (unread left old new : Option (List ℕ)) (before after piece : List ℕ) : Type 0 where
  pub read : Consumes unread left piece
  pub written : Appends old new (texts_of (handed_over before piece))
  pub goes_on : after ≡ kept_behind before piece

-- The same of some piece.
abbrev pub Moves : Option (List ℕ) → Option (List ℕ) → Option (List ℕ) → Option (List ℕ) → List ℕ → List ℕ → Type 0
Moves unread left old new before after = (piece : List ℕ) × Moved unread left old new before after piece

-- The whole text was read, from the beginning of a line on, and what is left of it is a last line that is not ended.
abbrev pub AllMoved : Option (List ℕ) → Option (List ℕ) → Option (List ℕ) → List ℕ → Type 0
AllMoved unread old new after = IfSome unread (λ text. Appends old new (texts_of (handed_over [] text)) × (after ≡ kept_behind [] text))

-- ---- pieces one behind the other
nothing_handed : (before : List ℕ) → (handed_over before [] ≡ []) × (before ≡ kept_behind before [])
unfolding handed_over kept_behind
nothing_handed before = (refl, refl)

no_text : texts_of [] ≡ []
unfolding in_a_row
no_text = refl

-- None.
pub nothing-moved : (unread left old : Option (List ℕ)) (before : List ℕ) → Consumes unread left [] → Moved unread left old old before before []
nothing-moved unread left old before read =
    let h = nothing_handed before in
    record {
      read = read;
      written = subst (Appends old old) (sym (ap texts_of h.0 ∙ no_text)) (Appends-nil old);
      goes_on = h.1;
    }

-- At the beginning nothing is kept.
pub held-fresh : held (stored (replicate 80 0) []) ≡ []
held-fresh = held-stored (replicate 80 0) (length-replicate {A = ℕ} 80 0) [] (short-whole [] (omega arith))

pub begun : (unread old : Option (List ℕ)) (k : Kept) → k ≡ stored (replicate 80 0) [] → Moves unread unread old old [] (held k)
begun unread old k e =
    ([], subst (λ (b : List ℕ). Moved unread unread old old [] b []) (sym (ap held e ∙ held-fresh)) (nothing-moved unread unread old [] (Consumes-nil unread)))

-- Two.
pub moved-on : (u v w : Option (List ℕ)) (x y z : Option (List ℕ)) (k l m p q : List ℕ) → Moved u v x y k l p → Moved v w y z l m q → Moved u w x z k m (p ++ q)
moved-on u v w x y z k l m p q first second =
    let here : handed_over l q ≡ handed_over (kept_behind k p) q = ap (λ (b : List ℕ). handed_over b q) first.goes_on in
    let both = texts-joined (handed_over k p) (handed_over l q) ∙ ap texts_of (ap (λ (h : List (List ℕ)). handed_over k p ++ h) here ∙ handed-parts k p q) in
    record {
      read = Consumes-trans u v w p q first.read second.read;
      written = subst (Appends x z) both (Appends-trans x y z _ _ first.written second.written);
      goes_on = second.goes_on ∙ ap (λ (b : List ℕ). kept_behind b q) first.goes_on ∙ kept-parts k p q;
    }

-- At the end all was read.
pub moved-whole : (u v x y : Option (List ℕ)) (m p : List ℕ) → Moved u v x y [] m p → IsAtEnd v → AllMoved u x y m
moved-whole u v x y m p moved end =
    Consumes-whole u v p (λ text. Appends x y (texts_of (handed_over [] text)) × (m ≡ kept_behind [] text)) moved.read end (moved.written, moved.goes_on)

-- ---- and the last line
all-texts : (text : List ℕ) → texts_of (handed_over [] text) ++ texts_of (last_line (kept_behind [] text)) ≡ output_of text
unfolding all_handed_over output_of
all-texts text =
    texts-joined (handed_over [] text) (last_line (kept_behind [] text)) ∙ ap texts_of (handed-lines text) ∙ shortened-texts (lines_of text)

-- Its text behind the others makes the output.
pub all-written : (unread old between new : Option (List ℕ)) (after : List ℕ) → AllMoved unread old between after
    → Appends between new (texts_of (last_line after))
    → IfSome unread (λ text. Appends old new (output_of text))
all-written None old between new after moved last = tt
all-written (Some text) old between new after moved last =
    subst (Appends old new) (all-texts text)
    (Appends-trans old between new _ _ moved.0 (subst (λ (b : List ℕ). Appends between new (texts_of (last_line b))) moved.1 last))
