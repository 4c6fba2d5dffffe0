-- A part of a list from a place to its end: lent to be read, and lent to be written. What a callee writes over the front of its part stands in the lender
-- from that place on.
use Rattle.std.specs.Prelude.{◌≡◌, List, ◌++◌, ℕ, ◌+◌, ◌-◌, length, take, drop}
use Rattle.std.proofs.Common.{sym, ap, ◌∙◌, append-nil, length-drop, drop-drop}
use Rattle.std.proofs.Math.Seq.{take-length, drop-length}
use borrow.Rule.Slice.PartMut.{put_mid}

-- The part that is lent.
pub tail-part : (xs : List ℕ) (a : ℕ) → take (length xs - a) (drop a xs) ≡ drop a xs
tail-part xs a = ap (λ (n : ℕ). take n (drop a xs)) (sym (length-drop a xs)) ∙ take-length (drop a xs)

-- The lender after the part has become ys.
pub tail-put : (xs ys : List ℕ) (a : ℕ) → put_mid a (length xs - a) xs ys ≡ take a xs ++ ys
tail-put xs ys a =
    ap (λ (l : List ℕ). take a xs ++ (ys ++ l)) (ap (λ (n : ℕ). drop n (drop a xs)) (sym (length-drop a xs)) ∙ drop-length (drop a xs))
    ∙ ap (λ (l : List ℕ). take a xs ++ l) (append-nil ys)

-- A callee that writes r over the first k bytes of its part and keeps the rest.
pub put-at : (buf ys r : List ℕ) (at k : ℕ) → ys ≡ r ++ drop k (take (length buf - at) (drop at buf))
    → put_mid at (length buf - at) buf ys ≡ take at buf ++ (r ++ drop (at + k) buf)
put-at buf ys r at k e =
    tail-put buf ys at
    ∙ ap (λ (l : List ℕ). take at buf ++ l) (e ∙ ap (λ (l : List ℕ). r ++ drop k l) (tail-part buf at) ∙ ap (λ (l : List ℕ). r ++ l) (drop-drop k at buf))
