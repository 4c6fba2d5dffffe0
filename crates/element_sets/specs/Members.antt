-- Going over the members of a set, the lowest first.
use Rattle.std.specs.Prelude.{◌≡◌, true, false, ℕ, ◌<◌, Option, MatchOption}
use Rattle.laws.specs.Sets.{member}
use Rattle.subgroup_laws.specs.Removal.{Without}

-- x is the lowest member of s, and t is s without it
pub record LowestTaken (s x t : ℕ) : Type 0 where
  pub held : member s x ≡ true
  pub small : x < 64
  pub lowest : (j : ℕ) → j < x → member s j ≡ false
  pub rest : Without s x t

-- what a step over the members that are left gives: the lowest of them, or nothing of the empty set
abbrev pub Step : ℕ → Option ℕ → ℕ → Type 0
Step s r t = MatchOption r (s ≡ 0) (λ x. LowestTaken s x t)
