-- The list of numbers that generators give, or the refusal: 12 where a generator is off, before the list is grown.
use Rattle.std.specs.Prelude.{◌≡◌, refl, Bool, true, false, cond, not, List, [], ◌∷◌, map, ℕ, suc, ◌+◌, ◌≤◌, ◌<◌, ltb, length, Result, Ok, Err}
use Rattle.std.specs.Prelude as std
use Rattle.std.specs.List.{position, position_or_len}
use Rattle.std.proofs.Common.{sym, ◌∙◌, ap, arith, lt-ltb, le-ltb}
use Rattle.std.proofs.Math.Decide.{dec_lt}
use Rattle.laws.specs.Growth.{Growth}
use Rattle.operation.specs.declared.Operation.{Operation}
use Rattle.centering.specs.Keeps.{keeps_of}
use Rattle.centering.specs.declared.Centering.{Centering}
use Rattle.space_group.specs.Generated.{first_off}
use Rattle.space_group.specs.NumberGrowth.{number_growth}
use Rattle.space_group.specs.NumberSlots.{of_growth}
use Rattle.space_group.specs.declared.refusal.Refusal.{Refusal}
use Rattle.space_group.specs.declared.refusal.Refusal.TheVariants.{Lattice}

-- The index of the first generator that is off.
abbrev pub off_position : Centering → List Operation → std.Option ℕ
off_position c gens = position (λ (g : Operation). not (keeps_of c g.rotation)) gens

unfoldable pub numbers_listing : Centering → ℕ → List Operation → List ℕ → Result (Growth ℕ) Refusal
numbers_listing c limit gens factors =
    cond (ltb (first_off c gens) (length gens)) (Err (Lattice (first_off c gens))) (of_growth (number_growth c limit factors))

pub off-first : (c : Centering) (gens : List Operation) → position_or_len (λ (g : Operation). not (keeps_of c g.rotation)) gens ≡ first_off c gens
unfolding first_off
off-first c [] = refl
off-first c (g ∷ gens) = by-test (keeps_of c g.rotation) (off-first c gens)
  where
    by-test : (b : Bool) → position_or_len (λ (g : Operation). not (keeps_of c g.rotation)) gens ≡ first_off c gens
        → cond (not (not b)) (1 + position_or_len (λ (g : Operation). not (keeps_of c g.rotation)) gens) 0 ≡ cond b (suc (first_off c gens)) 0
    by-test true e = omega (arith, e)
    by-test false e = refl

module _ (c : Centering) (limit : ℕ) (gens : List Operation) (factors : List ℕ) where
  pub listing-off : first_off c gens < length gens → numbers_listing c limit gens factors ≡ Err (Lattice (first_off c gens))
  unfolding numbers_listing
  listing-off h = rw (lt-ltb (first_off c gens) (length gens) h)

  pub listing-grown : length gens ≤ first_off c gens → numbers_listing c limit gens factors ≡ of_growth (number_growth c limit factors)
  unfolding numbers_listing
  listing-grown h = rw (le-ltb (first_off c gens) (length gens) h)

  -- As the search finds one,
  pub listing-found : (i : ℕ) → off_position c gens ≡ std.Some i → numbers_listing c limit gens factors ≡ Err (Lattice i)
  listing-found i e = elim (dec_lt (first_off c gens) (length gens)) [
    | yes h ↦
        let both : std.Some (first_off c gens) ≡ std.Some i = sym (found h) ∙ e in
        let same : first_off c gens ≡ i = cc in
        listing-off h ∙ ap (λ (i : ℕ). Err (Lattice i)) same
    | no h ↦ let both : ◌≡◌ {A = std.Option ℕ} std.None (std.Some i) = sym (missed (omega arith)) ∙ e in absurd (cc)
  ]
    where
      found : first_off c gens < length gens → off_position c gens ≡ std.Some (first_off c gens)
      found h = rw (off-first c gens, lt-ltb (first_off c gens) (length gens) h)

      missed : length gens ≤ first_off c gens → off_position c gens ≡ std.None
      missed h = rw (off-first c gens, le-ltb (first_off c gens) (length gens) h)

  -- or none.
  pub listing-missed : off_position c gens ≡ std.None → numbers_listing c limit gens factors ≡ of_growth (number_growth c limit factors)
  listing-missed e = elim (dec_lt (first_off c gens) (length gens)) [
    | yes h ↦ let both : ◌≡◌ {A = std.Option ℕ} std.None (std.Some (first_off c gens)) = sym e ∙ found h in absurd (cc)
    | no h ↦ listing-grown (omega arith)
  ]
    where
      found : first_off c gens < length gens → off_position c gens ≡ std.Some (first_off c gens)
      found h = rw (off-first c gens, lt-ltb (first_off c gens) (length gens) h)
