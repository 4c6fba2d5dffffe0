-- The table that the steps of a traversal make, row by row: what is asked of the steps, what they say of a table, and how far the cells hold it.
use Rattle.std.specs.Prelude.{◌≡◌, List, ℕ, zero, suc, ◌+◌, ◌*◌, ◌/◌, ◌%◌, ◌≤◌, ◌<◌, length, get_or, set}
use Rattle.std.proofs.Common.{sym, ◌∙◌, ap, arith, suc-mul, mul-le-mul_right, div-add-mod', div-lt_iff_lt-mul, mod-lt, get_or-set_same, get_or-set_other}
use Rattle.std.proofs.Math.Decide.{ℕ_discrete}
use Rattle.group_table.specs.Overlay.{begun, begun-next, begun-at}
use Rattle.group_table.specs.declared.symbol.Parent.{Parent}

-- ---- the steps
-- With n operations and m generators the step at p·m + k leads from operation p by generator k to an operation; and to each operation but the first
-- one leads that stands before the operation's own.
pub record Traversed (n m : ℕ) (steps : List ℕ) : Type 0 where
  pub few : n ≤ 48
  pub narrow : m ≤ 9
  pub inside : (t : ℕ) → t < n * m → get_or steps t 0 < n
  pub parent : (j : ℕ) → 0 < j → j < n → (t : ℕ) × (t < j * m) × (get_or steps t 0 ≡ j)

-- Operation j is the earlier operation p times generator k.
pub record Comes (m : ℕ) (steps : List ℕ) (j p k : ℕ) : Type 0 where
  pub earlier : p < j
  pub generator : k < m
  pub leads : get_or steps (p * m + k) 0 ≡ j

-- Of each operation but the first, whence it comes.
abbrev pub AllCome : ℕ → ℕ → List ℕ → List Parent → Type 0
AllCome n m steps parents = (j : ℕ) (d : Parent) → 0 < j → j < n → Comes m steps j (get_or parents j d).earlier (get_or parents j d).generator

-- The same of what the first steps lead to.
abbrev pub AllComeUpTo : ℕ → ℕ → ℕ → List ℕ → List Parent → Type 0
AllComeUpTo at n m steps parents =
    (t j : ℕ) (d : Parent) → t < at → t < j * m → j < n → get_or steps t 0 ≡ j → Comes m steps j (get_or parents j d).earlier (get_or parents j d).generator

-- ---- the table
-- A table of n rows goes by the steps: the first operation is the identity, and where generator k leads from p to j, it leads from the product with p to
-- the product with j.
pub record GoesBy (n m : ℕ) (steps table : List ℕ) : Type 0 where
  pub size : length table ≡ n * n
  pub first : (i : ℕ) → i < n → get_or table (i * n) 0 ≡ i
  pub inside : (i j : ℕ) → i < n → j < n → get_or table (i * n + j) 0 < n
  pub next : (i p k : ℕ) → i < n → p < n → k < m → get_or table (i * n + get_or steps (p * m + k) 0) 0 ≡ get_or steps (get_or table (i * n + p) 0 * m + k) 0

-- What filling a row takes: steps, parents, and a table that goes by them, whose rows before it are filled.
pub record RowReady (n m i : ℕ) (steps : List ℕ) (parents : List Parent) (cells : List ℕ) : Type 0 where
  pub row : i < n
  pub traversed : Traversed n m steps
  pub come : AllCome n m steps parents
  pub table : List ℕ
  pub lent : List ℕ
  pub goes : GoesBy n m steps table
  pub room : n * n ≤ length lent
  pub filled : cells ≡ begun (i * n) table lent

-- What filling it does: of every such table one more row is filled.
abbrev pub RowFilled : ℕ → ℕ → ℕ → List ℕ → List ℕ → List ℕ → Type 0
RowFilled n m i steps before after = (table lent : List ℕ) → GoesBy n m steps table → n * n ≤ length lent → before ≡ begun (i * n) table lent
    → after ≡ begun (i * n + n) table lent

-- ---- indices
-- A place in row i of n rows of k is before their end.
pub place_inside : (i j n k : ℕ) → i < n → j < k → i * k + j < n * k
place_inside i j n k h b = omega (arith, suc-mul i k, mul-le-mul_right k h)

-- What is below a product has a divisor that is not 0.
pub divisor : (a b m : ℕ) → a < b * m → 0 < m
divisor a b zero h = absurd (omega arith)
divisor a b (suc m) h = omega arith

module _ (n m : ℕ) (steps : List ℕ) (S : Traversed n m steps) where
  -- All steps fit into 432 slots.
  pub steps-fit : n * m ≤ 432
  steps-fit = omega (arith, S.few, S.narrow, mul-le-mul_right m S.few)

  -- All cells fit into 2304.
  pub cells_fit : n * n ≤ 2304
  cells_fit = omega (arith, S.few, mul-le-mul_right n S.few)

-- ---- the search for parents
module _ (n m : ℕ) (steps : List ℕ) (parents : List Parent) where
  -- Once all steps were looked at, every parent is known.
  pub come-all : Traversed n m steps → AllComeUpTo (n * m) n m steps parents → AllCome n m steps parents
  come-all S h j d a b =
      let (t, lt, e) = S.parent j a b in
      h t j d (omega (arith, mul-le-mul_right m b, suc-mul j m)) lt b e

  module _ (at : ℕ) (h : AllComeUpTo at n m steps parents) where
    -- A step that does not stand before the steps of what it leads to is passed over,
    pub come-passed : get_or steps at 0 * m ≤ at → AllComeUpTo (at + 1) n m steps parents
    come-passed late t j d lt before b e = elim (ℕ_discrete t at) [
      | yes q ↦ let same : get_or steps at 0 ≡ j = rw q at e in absurd (omega (arith, ap (λ (x : ℕ). x * m) same))
      | no q ↦ h t j d (omega arith) before b e
    ]

    -- and one that does is noted.
    pub come-noted : length parents ≡ 48 → get_or steps at 0 < 48 → at < get_or steps at 0 * m
        → AllComeUpTo (at + 1) n m steps (set parents (get_or steps at 0) (record { earlier = at / m; generator = at % m }))
    come-noted long low first t j d lt before b e = elim (ℕ_discrete j (get_or steps at 0)) [
      | yes q ↦
          let positive = divisor at (get_or steps at 0) m first in
          rw (q, get_or-set_same parents (get_or steps at 0) (record { earlier = at / m; generator = at % m }) d (omega arith))
          (record {
            earlier = (div-lt_iff_lt-mul positive).1 first;
            generator = mod-lt at positive;
            leads = ap (λ (x : ℕ). get_or steps x 0) (div-add-mod' at m);
          })
      | no q ↦
          let old : ¬ (t ≡ at) = λ (r : t ≡ at). q (sym (rw r at e)) in
          rw (get_or-set_other parents (get_or steps at 0) j (record { earlier = at / m; generator = at % m }) d q)
          (h t j d (omega arith) before b e)
    ]

-- ---- a row
module _ (n m : ℕ) (steps table lent cells : List ℕ) (room : n * n ≤ length lent) (S : Traversed n m steps) (G : GoesBy n m steps table) (i : ℕ) (row : i < n)
  where
    -- In each row likewise.
    fits : length table ≤ length lent
    fits = omega (arith, G.size)

    -- The first cell of a row is the left factor itself.
    pub row_first : cells ≡ begun (i * n) table lent → set cells (i * n) i ≡ begun (i * n + 1) table lent
    row_first e =
        let inside = place_inside i 0 n n row (omega arith) in
        rw e (ap (λ (x : ℕ). set (begun (i * n) table lent) (i * n) x) (sym (G.first i row)) ∙ begun-next table lent fits (i * n) (omega (arith, G.size)))

    module _ (j p k : ℕ) (b : j < n) (C : Comes m steps j p k) (e : cells ≡ begun (i * n + j) table lent) where
      -- The product with the parent is there,
      parent-cell : get_or cells (i * n + p) 0 ≡ get_or table (i * n + p) 0
      parent-cell = rw e (begun-at table lent fits (i * n + j) (i * n + p) (omega (arith, C.earlier)) (omega (arith, G.size, place_inside i j n n row b)))

      -- it is an index,
      pub row_inside : get_or cells (i * n + p) 0 < n
      row_inside = rw parent-cell (G.inside i p row (omega (arith, C.earlier)))

      -- and its step is the next cell.
      pub row_next : set cells (i * n + j) (get_or steps (get_or cells (i * n + p) 0 * m + k) 0) ≡ begun (i * n + (j + 1)) table lent
      row_next =
          let onward : i * n + j + 1 ≡ i * n + (j + 1) = omega arith in
          let leads : get_or steps (get_or cells (i * n + p) 0 * m + k) 0 ≡ get_or table (i * n + j) 0 =
          rw parent-cell (sym (G.next i p k row (omega (arith, C.earlier)) C.generator) ∙ ap (λ (x : ℕ). get_or table (i * n + x) 0) C.leads) in
          rw leads
          (ap (λ (l : List ℕ). set l (i * n + j) (get_or table (i * n + j) 0)) e
          ∙ begun-next table lent fits (i * n + j) (omega (arith, G.size, place_inside i j n n row b)) ∙ ap (λ (x : ℕ). begun x table lent) onward)
