-- Tables of groups as bytes (R6): n² cells by rows, the row being the left factor.
use Rattle.std.specs.Prelude.{◌≡◌, Bool, ◌&&◌, List, ℕ, ◌+◌, ◌*◌, ◌<◌, ◌≤◌, eqb, ltb, length, get_or}
use Rattle.subgroup_laws.specs.Bounded.{every}
use Rattle.subgroup_laws.specs.Groups.{Group}

-- the product of i and j
unfoldable pub product : ℕ → List ℕ → ℕ → ℕ → ℕ
product n t i j = get_or t (i * n + j) 0

-- n² cells, each below n, and n at most 48
pub record Cells (n : ℕ) (t : List ℕ) : Type 0 where
  pub limit : n ≤ 48
  pub size : length t ≡ n * n
  pub below : (k : ℕ) → k < n * n → get_or t k 0 < n

-- whether there are n² cells, each below n
unfoldable pub good_cells : ℕ → List ℕ → Bool
good_cells n t = eqb (length t) (n * n) && every (λ k. ltb (get_or t k 0) n) (n * n)

-- the table of a group with identity e, of order 1 to 48
pub record GroupTable (n : ℕ) (t : List ℕ) (e : ℕ) : Type 0 where
  pub cells : Cells n t
  pub group : Group n (product n t) e
