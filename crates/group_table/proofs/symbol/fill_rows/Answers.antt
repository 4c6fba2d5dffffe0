use mathlib.Core.Path.{◌≡◌, refl, sym, ◌∙◌, ap}
use Prim.Native.Nat.{ℕ, ◌*◌}
use native.Mathlib.Omega.{arith}
use lib.ListN.{take}
use Rattle.group_table.specs.Tables.{table_of}
use Rattle.group_table.specs.Overlay.{begun, begun-none, begun_all}
use Rattle.group_table.proofs.symbol.fill_rows.Goals as goal

pub loop-i-init : goal.loop-i-init
loop-i-init c =
    let none : 0 ≡ 0 * c.args.g.count = omega arith in
    (refl, λ table G. begun-none table c.args.cells.now ∙ ap (λ (at : ℕ). begun at table c.args.cells.now) none)

pub returns : goal.returns
returns c =
    let table = table_of c.args.g.centering (take c.args.g.count c.args.g.operations) in
    let lent = c.args.cells.now in
    let G = c.requires.0.goes in
    let all : c.loop-i.i ≡ c.args.g.count = omega arith in
    c.loop-i.invariant.1 table G
    ∙ ap (λ (i : ℕ). begun (i * c.args.g.count) table lent) all
    ∙ ap (λ (at : ℕ). begun at table lent) (sym c.requires.0.goes.size)
    ∙ begun_all table lent (omega (arith, c.requires.0.goes.size, c.requires.1))
