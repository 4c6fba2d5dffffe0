-- Laws of tables: the place of a cell, and what the check of a table says, refusal by refusal.
use Rattle.std.specs.Prelude.{◌≡◌, true, List, ℕ, ◌+◌, ◌*◌, ◌<◌, ◌≤◌, eqb, ltb, length, get_or}
use Rattle.std.proofs.Common.{mul-le-mul, eq-eqb, lt-ltb, eqb-true, ltb-true}
use Rattle.std.proofs.Math.Arith.{digits_lt}
use Rattle.subgroup_laws.specs.Bounded.{every, passes-every, every-passes}
use Rattle.laws.specs.Truth.{and_both, both-and}
use Rattle.subgroup_laws.specs.Table.{product, Cells, good_cells}

-- ---- cells

-- a table of order at most 48 has at most 2304 cells
pub square-limit : (n : ℕ) → n ≤ 48 → n * n ≤ 2304
square-limit n h = mul-le-mul h h

-- the place of a cell
pub cell-place : (n i j : ℕ) → n ≤ 48 → i < n → j < n → (i * n + j < n * n) × (n * n ≤ 2304)
cell-place n i j h a b = (digits_lt a b, square-limit n h)

-- cells that pass the test are n² numbers below n
pub good-cells : (n : ℕ) (t : List ℕ) → n ≤ 48 → good_cells n t ≡ true → Cells n t
unfolding good_cells
good-cells n t h e =
    let (size, below) = and_both (eqb (length t) (n * n)) (every (λ k. ltb (get_or t k 0) n) (n * n)) e in
    record { limit = h; size = eqb-true _ _ size; below = λ k l. ltb-true _ _ (every-passes _ (n * n) below k l) }

-- n² numbers below n pass the test
pub cells-good : (n : ℕ) (t : List ℕ) → Cells n t → good_cells n t ≡ true
unfolding good_cells
cells-good n t c = both-and _ _ (eq-eqb _ _ c.size) (passes-every _ (n * n) (λ k l. lt-ltb _ _ (c.below k l)))

-- a product is an element
pub product-below : (n : ℕ) (t : List ℕ) → Cells n t → (x y : ℕ) → x < n → y < n → product n t x y < n
unfolding product
product-below n t c x y h k = c.below _ (cell-place n x y c.limit h k).0
