-- Cells written one after the other into lent slots: what the slots hold on the way, and at the end.
use Rattle.std.specs.Prelude.{◌≡◌, ℕ, zero, suc, ◌+◌, ◌-◌, ◌<◌, ◌≤◌, length, get_or, set, replicate}
use Rattle.std.proofs.Math.Path.{refl, sym, ap}
use Rattle.std.proofs.Common.{◌∙◌, add-one, arith, lt-ltb, le-ltb, take_all, take_at}
use mathlib.Core.List.{List, [], ◌∷◌, ◌++◌}
use Rattle.std.proofs.Math.ListN.{take, drop, get_or-append}
use Rattle.std.proofs.lemmas.List.{length-replicate}
use Rattle.std.proofs.Math.Seq.{length_front, get_or-take, length-take-le}
use Rattle.space_group.specs.Traversal.{padded}
use Rattle.group_table.specs.Tables.{overlaid, laid}

-- The first cells of a table, and behind them what was lent.
unfoldable pub begun : ℕ → List ℕ → List ℕ → List ℕ
begun at table lent = take at table ++ drop at lent

-- Nothing is written at first,
pub begun-none : (table lent : List ℕ) → lent ≡ begun 0 table lent
unfolding begun
begun-none table lent = refl

begun-suc : (at : ℕ) (table lent : List ℕ) → at < length table → length table ≤ length lent
    → set (take at table ++ drop at lent) at (get_or table at 0) ≡ take (suc at) table ++ drop (suc at) lent
begun-suc at [] lent h fits = absurd (omega arith)
begun-suc at (x ∷ table) [] h fits = absurd (omega arith)
begun-suc zero (x ∷ table) (y ∷ lent) h fits = refl
begun-suc (suc at) (x ∷ table) (y ∷ lent) h fits = ap (λ (l : List ℕ). x ∷ l) (begun-suc at table lent (omega arith) (omega arith))

module _ (table lent : List ℕ) (fits : length table ≤ length lent) where
  -- then one cell after the other,
  pub begun-next : (at : ℕ) → at < length table → set (begun at table lent) at (get_or table at 0) ≡ begun (at + 1) table lent
  unfolding begun
  begun-next at h = begun-suc at table lent h fits ∙ ap (λ (i : ℕ). take i table ++ drop i lent) (sym (add-one at))

  -- and at the end all are.
  pub begun_all : begun (length table) table lent ≡ overlaid table lent
  unfolding begun
  begun_all = ap (λ (front : List ℕ). front ++ drop (length table) lent) (take_all (length table) table (omega arith))

  -- The slots stay as many.
  pub begun-length : (at : ℕ) → at ≤ length table → length (begun at table lent) ≡ length lent
  unfolding begun
  begun-length at h = length_front lent (take at table) at (length-take-le at table h ∙ sym (length-take-le at lent (omega arith)))

  -- What is written is right.
  pub begun-at : (at t : ℕ) → t < at → at ≤ length table → get_or (begun at table lent) t 0 ≡ get_or table t 0
  unfolding begun
  begun-at at t h k = get_or-append (take at table) (drop at lent) 0 t (omega (arith, length-take-le at table k)) ∙ get_or-take at table t 0 h

-- ---- all cells or none
module _ (cells lent : List ℕ) where
  -- With room for all cells they are in front,
  pub laid-all : length cells ≤ length lent → laid cells lent ≡ overlaid cells lent
  unfolding laid
  laid-all fits = rw (le-ltb (length lent) (length cells) fits) refl

  -- where they are read again;
  pub laid-front : length cells ≤ length lent → take (length cells) (laid cells lent) ≡ cells
  laid-front fits = rw (laid-all fits) (take_at cells (drop (length cells) lent) (length cells) refl)

  -- and without it nothing is written.
  pub laid_none : length lent < length cells → laid cells lent ≡ lent
  unfolding laid
  laid_none short = rw (lt-ltb (length lent) (length cells) short) refl

blank-rest : (k n : ℕ) → drop {A = ℕ} k (replicate n 0) ≡ replicate (n - k) 0
blank-rest zero n = let all : n - 0 ≡ n = omega arith in ap (λ (i : ℕ). replicate {A = ℕ} i 0) (sym all)
blank-rest (suc k) zero = let none : 0 - suc k ≡ 0 = omega arith in ap (λ (i : ℕ). replicate {A = ℕ} i 0) (sym none)
blank-rest (suc k) (suc n) = let less : suc n - suc k ≡ n - k = omega arith in blank-rest k n ∙ ap (λ (i : ℕ). replicate {A = ℕ} i 0) (sym less)

-- Behind cells in blank slots there is 0.
pub laid-blank : (cells : List ℕ) (n : ℕ) → length cells ≤ n → laid cells (replicate n 0) ≡ padded n 0 cells
laid-blank cells n fits =
    laid-all cells (replicate n 0) (omega (arith, length-replicate {A = ℕ} n 0)) ∙ ap (λ (rest : List ℕ). cells ++ rest) (blank-rest (length cells) n)
