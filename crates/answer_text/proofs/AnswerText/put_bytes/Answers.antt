use Rattle.std.proofs.Common.{◌≡◌, refl, sym, ap, ◌∙◌, arith, add-one, List, [], ◌∷◌, ℕ, ◌+◌, ◌≤◌, length, set, take, drop, append_assoc}
use Rattle.std.proofs.lemmas.List.Edits.{sets, sets-eq, paste_all}
use Rattle.std.proofs.lemmas.Slice.{put_mid-paste}
use borrow.Rule.Slice.PartMut.{put_mid}
use Rattle.placed_text.specs.Placing.{put}
use Rattle.answer_text.proofs.AnswerText.put_bytes.Goals as goal

-- A run of stores.
put-sets : (out : List ℕ) (at : ℕ) (text : List ℕ) → put out at text ≡ sets out at text
unfolding put
put-sets out at [] = refl
put-sets out at (b ∷ text) = put-sets (set out at b) (at + 1) text ∙ ap (λ (k : ℕ). sets (set out at b) k text) (add-one at)

-- The part that a text was copied into.
copied : (out : List ℕ) (at k : ℕ) (text part : List ℕ) → part ≡ text → k ≡ length text → at + length text ≤ length out
    → put_mid at k out part ≡ put out at text
copied out at k text part e n h =
    put_mid-paste at k out part text (length text) e (sym n) refl ∙ paste_all out at text (length text) refl
    ∙ sym (append_assoc (take at out) text (drop (at + length text) out)) ∙ sym (put-sets out at text ∙ sets-eq text out at h)

pub returns : goal.returns
returns c =
    record {
      bytes = copied c.args.self.now.bytes c.args.self.now.length _ c.args.bytes.now _ c.copy_from_slice.ensures.after (omega arith)
          (omega (arith, c.requires));
      place = refl;
    }
