-- In a spelt part each letter stands at most once, and at most one fraction: the rule, said of the terms by counting.
use Rattle.std.specs.Prelude.{◌≡◌, refl, Bool, true, false, cond, ◌||◌, List, [], ◌∷◌, ℕ, ◌+◌, ◌≤◌}
use Rattle.std.proofs.Common.{sym, ◌∙◌, ap, true≢false, arith}
use Rattle.operation_line.specs.declared.Letter.{Letter}
use Rattle.operation_line.specs.declared.Letter.TheVariants.{X, Y, Z}
use Rattle.operation_line.specs.Spelling.{Body, letter, fraction, Term, signed, same_letter, clash, used, Terms, blank, unsigned, then, Part}
use Rattle.operation_line.specs.Beginnings.{used-fraction}

-- How many of the terms have this letter, or a fraction.
unfoldable pub counted : Body → List Term → ℕ
counted b [] = 0
counted b (t ∷ ts) = cond (clash b t.body) 1 0 + counted b ts

same-letter : (l k : Letter) → same_letter l k ≡ true → l ≡ k
same-letter X X e = refl
same-letter X Y e = absurd (true≢false (sym e))
same-letter X Z e = absurd (true≢false (sym e))
same-letter Y X e = absurd (true≢false (sym e))
same-letter Y Y e = refl
same-letter Y Z e = absurd (true≢false (sym e))
same-letter Z X e = absurd (true≢false (sym e))
same-letter Z Y e = absurd (true≢false (sym e))
same-letter Z Z e = refl

-- What clashes is used alike.
clash-used : (a b : Body) (ts : List Term) → clash a b ≡ true → used a ts ≡ used b ts
clash-used (letter l) (letter k) ts e = ap (λ (m : Letter). used (letter m) ts) (same-letter l k e)
clash-used (letter l) (fraction n d) ts e = absurd (true≢false (sym e))
clash-used (fraction m c) (letter k) ts e = absurd (true≢false (sym e))
clash-used (fraction m c) (fraction n d) ts e = used-fraction m c n d ts

-- What is not used is not there.
none-counted : (a : Body) (ts : List Term) → used a ts ≡ false → counted a ts ≡ 0
unfolding used counted
none-counted a [] e = refl
none-counted a (t ∷ ts) e = go (clash a t.body) e (none-counted a ts)
  where
    go : (c : Bool) → (c || used a ts) ≡ false → (used a ts ≡ false → counted a ts ≡ 0) → cond c 1 0 + counted a ts ≡ 0
    go true h below = absurd (true≢false h)
    go false h below = omega (arith, below h)

-- One term more, that is not used yet.
once_more : (a : Body) (n : Bool) (b : Body) (ts : List Term) → used b ts ≡ false → counted a ts ≤ 1 → counted a (signed n b ∷ ts) ≤ 1
unfolding counted
once_more a n b ts fresh below = go (clash a b) refl
  where
    go : (c : Bool) → clash a b ≡ c → cond c 1 0 + counted a ts ≤ 1
    go true e = omega (arith, none-counted a ts (clash-used a b ts e ∙ fresh))
    go false e = omega arith

terms-once : (a : Body) {q : List ℕ} {ts : List Term} → Terms q ts → counted a ts ≤ 1
unfolding counted used
terms-once a (blank h) = omega arith
terms-once a (unsigned h b proper k) = once_more a false b [] refl (omega arith)
terms-once a (then {ts = ts} h n g b proper fresh k) = once_more a n b ts fresh (terms-once a h)

-- Each letter at most once in a part, and at most one fraction.
pub at-most-once : (text : List ℕ) (ts : List Term) → Part text ts → (a : Body) → counted a ts ≤ 1
at-most-once text ts p a = terms-once a p.spelt
