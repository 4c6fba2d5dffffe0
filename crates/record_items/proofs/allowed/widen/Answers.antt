use mathlib.Core.Path.{◌≡◌}
use mathlib.Core.List.{List}
use Prim.Native.Nat.{ℕ, ◌+◌, ◌*◌, ◌<◌}
use native.Mathlib.Omega.{arith}
use lib.ListN.{length, get_or}
use Rattle.operation.specs.declared.Operation.{Operation}
use Rattle.centering.specs.declared.Centering.{Centering}
use Rattle.group_record.specs.Criterion.{Right}
use Rattle.group_record.specs.Closing.{listed_at, Widening, reaches, sound-next}
use Rattle.record_items.proofs.allowed.widen.Goals as goal

-- A right factor that is listed: p is its index.
abbrev Factor : Centering → List Operation → ℕ → Type 0
Factor c l p = (p < length l) × Right c l (listed_at l p)

-- From one a column leads to one,
leads : (c : Centering) (l : List Operation) (known members columns : List ℕ) (count stored j p : ℕ) → Widening c l known members count columns stored
    → j < stored → Factor c l p → Factor c l (get_or columns (48 * j + p) 0)
leads c l known members columns count stored j p W h (low, right) =
    let (g, column) = W.made j h in
    reaches c l W.into p g columns (48 * j) low right column

-- and the columns have a slot for it.
slot : (c : Centering) (l : List Operation) (known members columns : List ℕ) (count stored j p : ℕ) → Widening c l known members count columns stored
    → j < stored → Factor c l p → 48 * j + p < 240
slot c l known members columns count stored j p W h (low, right) = omega (arith, W.short, W.narrow)

-- What it leads to is an index of what is known.
known_at : (c : Centering) (l : List Operation) (known members columns now : List ℕ) (count stored j p : ℕ) → Widening c l known members count columns stored
    → length now ≡ length known → j < stored → Factor c l p → get_or columns (48 * j + p) 0 < length now
known_at c l known members columns now count stored j p W same h f =
    let (low, right) = leads c l known members columns count stored j p W h f in
    omega (arith, W.short, W.sound.broad)

pub loop-j-init : goal.loop-j-init
loop-j-init c = (c.loop-i.invariant, λ letter operations W. (c.loop-i.invariant letter operations W).member c.loop-i.i (omega arith))

pub bounds-columns-j : goal.bounds-columns-j
bounds-columns-j c =
    let (letter, operations, W) = c.requires in
    slot letter operations _ _ _ _ _ c.loop-j.j _ W (omega arith) (c.loop-j.invariant.1 letter operations W)

pub bounds-known-q : goal.bounds-known-q
bounds-known-q c =
    let (letter, operations, W) = c.requires in
    known_at letter operations _ _ _ c.loop-j.known _ _ c.loop-j.j _ W (omega arith) (omega arith) (c.loop-j.invariant.1 letter operations W)

pub bounds-known-q-in-loop-j : goal.bounds-known-q-in-loop-j
bounds-known-q-in-loop-j c =
    let (letter, operations, W) = c.requires in
    known_at letter operations _ _ _ c.loop-j.known _ _ c.loop-j.j _ W (omega arith) (omega arith) (c.loop-j.invariant.1 letter operations W)

pub loop-j-preserved : goal.loop-j-preserved
loop-j-preserved c = (
  λ letter operations W.
      let (low, right) = leads letter operations _ _ _ _ _ c.loop-j.j _ W (omega arith) (c.loop-j.invariant.1 letter operations W) in
      sound-next letter operations c.loop-j.known c.loop-j.members c.loop-j.reached _ (c.loop-j.invariant.0 letter operations W) (omega arith) low right,
  c.loop-j.invariant.1,
)
