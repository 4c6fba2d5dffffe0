-- A table's bytes by rows, the row being the left factor (R6.1): row by row from the first, without places.
use Rattle.std.specs.Prelude.{◌≡◌, List, ◌++◌, ℕ, suc, ◌+◌, ◌*◌, ◌<◌, get_or, length}
use Rattle.std.proofs.Common.{ap, ◌∙◌, arith, get_or-append-add}
use Rattle.std.proofs.Math.ListN.{get_or-append}
use Rattle.subgroup_laws.specs.Table.{product}

-- the first n bytes are the products 0 · j,
pub first-row : (n : ℕ) (row rest : List ℕ) (j : ℕ) → length row ≡ n → j < n → product n (row ++ rest) 0 j ≡ get_or row j 0
unfolding product
first-row n row rest j size h =
    let here : 0 * n + j ≡ j = omega arith in
    ap (λ (k : ℕ). get_or (row ++ rest) k 0) here ∙ get_or-append row rest 0 j (omega arith)

-- and the others are the rows of 1, 2, ... in the same way.
pub next-rows : (n : ℕ) (row rest : List ℕ) (i j : ℕ) → length row ≡ n → product n (row ++ rest) (suc i) j ≡ product n rest i j
unfolding product
next-rows n row rest i j size =
    let there : suc i * n + j ≡ length row + (i * n + j) = omega arith in
    ap (λ (k : ℕ). get_or (row ++ rest) k 0) there ∙ get_or-append-add row rest (i * n + j) 0
