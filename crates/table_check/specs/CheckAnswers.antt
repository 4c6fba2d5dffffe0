-- What the check of a table's bytes answers (R8): refusals 21 to 25, the first that applies.
use Rattle.std.specs.Prelude.{◌≡◌, cond, List, ℕ, eqb, ltb, Err, Ok, Result}
use Rattle.subgroup_laws.specs.Groups.{identity_of, has_inverses, associates}
use Rattle.subgroup_laws.specs.Table.{product, good_cells}
use Rattle.table_check.specs.declared.Refusal.TheVariants.{Order, «Cells» as NoCells, Identity, Inverse, Associativity}
use Rattle.table_check.specs.declared.Refusal.{Refusal}

-- refusals 21 to 25 in their order, or the identity of the group
unfoldable pub check_of : ℕ → List ℕ → Result ℕ Refusal
check_of n t =
    cond (eqb n 0) (Err Order)
    (cond (ltb 48 n) (Err Order)
    (cond (good_cells n t)
    (cond (ltb (identity_of n (product n t)) n)
    (cond (has_inverses n (product n t) (identity_of n (product n t)))
    (cond (associates n (product n t)) (Ok (identity_of n (product n t))) (Err Associativity))
    (Err Inverse))
    (Err Identity))
    (Err NoCells)))

-- the check accepts the table, and e is its identity
abbrev pub Accepts : ℕ → List ℕ → ℕ → Type 0
Accepts n t e = check_of n t ≡ Ok e
