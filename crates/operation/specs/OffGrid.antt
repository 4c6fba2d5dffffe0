-- Refusal 16 by R8: the first component that has none of the twelve bit patterns is told, its index as the place, and nothing else is refused.
-- The rule names the twelve quotients and the three components, and uses nothing of how the way back is defined.
use Rattle.std.specs.Prelude.{◌≡◌, ◌↔◌, Bool, true, false, cond, ℕ, ◌<◌, Float, Err, Result}
use Rattle.std.proofs.Math.Path.{refl, ap}
use Rattle.std.proofs.Common.{sym, ◌∙◌, true≢false, arith}
use Rattle.operation.specs.Answer.{given, refused}
use Rattle.operation.specs.Doubles.{quotient, is_on_grid, off_grid, on_grid, grid_answer, one-grid-answer, OnGrid, on-grid}
use Rattle.operation.specs.declared.Translation.{Translation}
use Rattle.operation.specs.declared.doubles.Doubles.{Doubles}
use Rattle.operation.specs.declared.doubles.OffGrid.{OffGrid}

-- The first component off the grid, with its index.
pub data FirstOff (d : Doubles) : ℕ → Float → Type 0 where
  in-x : ¬ OnGrid d.x → FirstOff d 0 d.x
  in-y : OnGrid d.x → ¬ OnGrid d.y → FirstOff d 1 d.y
  in-z : OnGrid d.x → OnGrid d.y → ¬ OnGrid d.z → FirstOff d 2 d.z

-- A component that fails the test has none of the patterns, and one that has none fails it.
off-grid : (v : Float) → (is_on_grid v ≡ false) ↔ ¬ OnGrid v
off-grid v = ((λ e on. true≢false (sym ((on-grid v).1 on) ∙ e)), λ n. fails (is_on_grid v) refl n)
  where
    fails : (b : Bool) → is_on_grid v ≡ b → ¬ OnGrid v → b ≡ false
    fails true e n = absurd (n ((on-grid v).0 e))
    fails false e n = refl

module _ (d : Doubles) where
  -- By the three tests.
  told : (a b c : Bool) (t : Translation) (number place : ℕ) (v : Float) → is_on_grid d.x ≡ a → is_on_grid d.y ≡ b → is_on_grid d.z ≡ c
      → cond a (cond b (cond c (given t) (off_grid 2 d.z)) (off_grid 1 d.y)) (off_grid 0 d.x) ≡ refused number place v → (number ≡ 16) × FirstOff d place v
  told true true true t number place v x y z e = let h : ◌≡◌ {A = ℕ} 0 1 = cc in absurd (omega arith)
  told true true false t number place v x y z e =
      let index : place ≡ 2 = cc in
      let component : v ≡ d.z = cc in
      ((cc), rw (index, component) (in-z ((on-grid d.x).0 x) ((on-grid d.y).0 y) ((off-grid d.z).0 z)))
  told true false c t number place v x y z e =
      let index : place ≡ 1 = cc in
      let component : v ≡ d.y = cc in
      ((cc), rw (index, component) (in-y ((on-grid d.x).0 x) ((off-grid d.y).0 y)))
  told false b c t number place v x y z e =
      let index : place ≡ 0 = cc in
      let component : v ≡ d.x = cc in
      ((cc), rw (index, component) (in-x ((off-grid d.x).0 x)))

  -- What is off the grid first is refused with 16, at its index, and handed back.
  first-refused : (place : ℕ) (v : Float) → FirstOff d place v → on_grid d ≡ refused 16 place v
  unfolding on_grid
  first-refused place v (in-x x) = rw ((off-grid d.x).1 x)
  first-refused place v (in-y x y) = rw ((on-grid d.x).1 x, (off-grid d.y).1 y)
  first-refused place v (in-z x y z) = rw ((on-grid d.x).1 x, (on-grid d.y).1 y, (off-grid d.z).1 z)

  -- The way back refuses with 16 and nothing else, exactly if a component is off the grid; the first such is told.
  pub refused-exactly : (number place : ℕ) (v : Float) → (on_grid d ≡ refused number place v) ↔ ((number ≡ 16) × FirstOff d place v)
  unfolding on_grid
  refused-exactly number place v = (
    (λ e. told (is_on_grid d.x) (is_on_grid d.y) (is_on_grid d.z) _ number place v refl refl refl e),
    λ (n, first). rw n (first-refused place v first),
  )

  -- The same of the code's own answer: it holds the index and the component.
  pub off-exactly : (g : Result Translation OffGrid) → grid_answer g ≡ on_grid d → (index : ℕ) (v : Float) → (g ≡ Err (record { index = index; component = v })) ↔ FirstOff d index v
  unfolding grid_answer
  off-exactly g e index v = (
    (λ p. ((refused-exactly 16 index v).0 (sym e ∙ ap grid_answer p)).1),
    λ first. one-grid-answer g (Err (record { index = index; component = v })) (e ∙ first-refused index v first),
  )

-- ---- a stranger at each index
module _ (s : Float) (strange : ¬ OnGrid s) where
  pub stranger-in-x : (y z : Float) → on_grid (record { x = s; y = y; z = z }) ≡ refused 16 0 s
  stranger-in-x y z = first-refused (record { x = s; y = y; z = z }) 0 s (in-x strange)

  pub stranger-in-y : (k : ℕ) → k < 12 → (z : Float) → on_grid (record { x = quotient k; y = s; z = z }) ≡ refused 16 1 s
  stranger-in-y k h z = first-refused (record { x = quotient k; y = s; z = z }) 1 s (in-y (k, h, refl) strange)

  pub stranger-in-z : (k j : ℕ) → k < 12 → j < 12 → on_grid (record { x = quotient k; y = quotient j; z = s }) ≡ refused 16 2 s
  stranger-in-z k j h i = first-refused (record { x = quotient k; y = quotient j; z = s }) 2 s (in-z (k, h, refl) (j, i, refl) strange)
