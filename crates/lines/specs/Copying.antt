-- Bytes that are copied one after the other to the start of others.
use Rattle.std.specs.Prelude.{◌≡◌, List, ◌++◌, ℕ, suc, ◌+◌, ◌<◌, length, get_or, take, drop, set}
use Rattle.std.proofs.Common.{sym, ◌∙◌, ap, arith, add-one, take-suc, drop-cons, length-take-le}
use Rattle.std.proofs.lemmas.List.{set_at}
use Rattle.std.proofs.Math.Seq.{append_snoc}

-- The first n are copied.
abbrev pub copied : List ℕ → List ℕ → ℕ → List ℕ
copied to from n = take n from ++ drop n to

-- One more is.
pub copied_more : (to from : List ℕ) (n : ℕ) → n < length to → n < length from → set (copied to from n) n (get_or from n 0) ≡ copied to from (n + 1)
copied_more to from n h k =
    let byte = get_or from n 0 in
    let rest = drop (suc n) to in
    ap (λ (r : List ℕ). set (take n from ++ r) n byte) (drop-cons to n 0 h)
    ∙ set_at (take n from) (get_or to n 0) rest byte n (length-take-le n from (omega arith))
    ∙ sym (append_snoc (take n from) byte rest)
    ∙ ap (λ (r : List ℕ). r ++ rest) (sym (take-suc from n 0 k))
    ∙ ap (copied to from) (sym (add-one n))
