use mathlib.Core.Path.{◌≡◌, refl, ◌∙◌, ap}
use Prim.Native.Nat.{◌-◌}
use native.Mathlib.Omega.{arith}
use Rattle.catalogue_numbers.specs.CatalogueState.{found_so_far, found-more, found_all}
use Rattle.catalogue_numbers.proofs.catalogue_in.Goals as goal

pub loop-i-init : goal.loop-i-init
loop-i-init c = (omega arith, c.requires, refl)

pub loop-i-preserved : goal.loop-i-preserved
loop-i-preserved c =
    (omega arith, c.loop-i.invariant.1, found-more c.args.state.now c.loop-i.bytes c.loop-i.i c.loop-i.invariant.1 (omega arith) c.loop-i.invariant.2)

pub returns : goal.returns
returns c =
    let state = c.args.state.now in
    let all : c.loop-i.i ≡ 80 = omega arith in
    found_all state c.loop-i.bytes (c.loop-i.invariant.2 ∙ ap (found_so_far state) all)
