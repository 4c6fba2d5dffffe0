-- By the status.
use mathlib.Core.Path.{◌≡◌, refl, ◌∙◌, ap}
use mathlib.Core.Bool.{Bool, true, false}
use Prim.Native.Nat.{ℕ, min}
use native.Mathlib.Omega.{arith}
use lib.Dec.{leb}
use lib.ListN.{length}
use borrow.Author.Rules.{rules}
use borrow.Author.Tests.{leb-true, leb-false}
use Rattle.lines.specs.Keeping.{held, stored}
use Rattle.lines.specs.Storing.{counted-over, counted-few}
use Rattle.lines.specs.declared.Kept.{Kept}
use Rattle.lines.proofs.counted.Goals as goal

abbrev counted : ℕ → Kept → Kept
counted n k = record { status = n; bytes = k.bytes }

least : (k : Kept) → length k.bytes ≡ 80 → (n : ℕ) → n ≡ min k.status 81 → counted n k ≡ stored k.bytes (held k)
least k whole n e = by-status (leb k.status 80) refl
  where
    by-status : (t : Bool) → leb k.status 80 ≡ t → counted n k ≡ stored k.bytes (held k)
    by-status true t =
        let few = leb-true k.status 80 t in
        let same : n ≡ k.status = omega arith in
        ap (λ (m : ℕ). counted m k) same ∙ counted-few k whole few
    by-status false t =
        let over = leb-false k.status 80 t in
        let most : n ≡ 81 = omega arith in
        ap (λ (m : ℕ). counted m k) most ∙ counted-over k whole over

pub returns : goal.returns
returns c =
    let whole : length c.args.kept.bytes ≡ 80 = search rules in
    least c.args.kept whole c.min.result c.min.ensures
