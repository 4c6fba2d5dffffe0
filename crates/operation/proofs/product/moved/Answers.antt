-- Each lane is the sum of one coordinate, and has the residue of the integer sum.
use mathlib.Core.Path.{sym, ◌∙◌, ap}
use Prim.Native.Nat.{◌+◌, ◌*◌, ◌/◌, ◌%◌, ◌<◌}
use native.Mathlib.Omega.{arith}
use Rattle.laws.specs.Matrix.{act, plus}
use Rattle.operation.specs.Digits.{moved-residue}
use Rattle.operation.specs.Lanes.{moved-small, moved-lanes, first_lane, second_lane, third-lane}
use Rattle.operation.specs.Meaning.{matrix_of, vector_of}
use Rattle.operation.specs.Product.{moved_of}
use Rattle.operation.specs.Twelves.{reduced_of, lanes-small-lanes}
use Rattle.operation.proofs.product.moved.Goals as goal

pub reduced-requires : goal.reduced-requires
reduced-requires c =
    let a = c.args in
    let r = a.r in
    let u = a.u in
    let t = a.t in
    lanes-small-lanes _ _ _ _
    ((λ i. c.rows_times.ensures.0 i + c.lanes.ensures.0 i +
    (c.from.ensures i + c.from-2.ensures i + c.from-3.ensures i) * 48378534690827) ∙ moved-lanes _ _ _ _ _ _ _)
    (moved-small r.xx r.xy r.xz u.x u.y u.z t.x (omega arith) (omega arith) (omega arith) (omega arith) (omega arith) (omega arith)
    (omega arith))
    (moved-small r.yx r.yy r.yz u.x u.y u.z t.y (omega arith) (omega arith) (omega arith) (omega arith) (omega arith) (omega arith)
    (omega arith))
    (moved-small r.zx r.zy r.zz u.x u.y u.z t.z (omega arith) (omega arith) (omega arith) (omega arith) (omega arith) (omega arith)
    (omega arith))

pub returns : goal.returns
unfolding reduced_of moved_of act plus matrix_of vector_of
returns c =
    let a = c.args in
    let r = a.r in
    let u = a.u in
    let t = a.t in
    let x = r.xx * u.x + r.xy * u.y + r.xz * u.z + t.x + 11 * (u.x + u.y + u.z) in
    let y = r.yx * u.x + r.yy * u.y + r.yz * u.z + t.y + 11 * (u.x + u.y + u.z) in
    let z = r.zx * u.x + r.zy * u.y + r.zz * u.z + t.z + 11 * (u.x + u.y + u.z) in
    let hx : x < 261120 =
    moved-small r.xx r.xy r.xz u.x u.y u.z t.x (omega arith) (omega arith) (omega arith) (omega arith) (omega arith) (omega arith)
    (omega arith) in
    let hy : y < 261120 =
    moved-small r.yx r.yy r.yz u.x u.y u.z t.y (omega arith) (omega arith) (omega arith) (omega arith) (omega arith) (omega arith)
    (omega arith) in
    let sum =
    (λ i. c.rows_times.ensures.0 i + c.lanes.ensures.0 i +
    (c.from.ensures i + c.from-2.ensures i + c.from-3.ensures i) * 48378534690827)
    ∙ moved-lanes _ _ _ _ _ _ _ in
    let px =
    ap (λ n. n % 2097152 % 12) sum ∙ ap (λ n. n % 12) (first_lane x y z (omega arith) (omega arith))
    ∙ sym (moved-residue r.xx r.xy r.xz u.x u.y u.z t.x) in
    let py =
    ap (λ n. n / 2097152 % 2097152 % 12) sum ∙ ap (λ n. n % 12) (second_lane x y z (omega arith) (omega arith))
    ∙ sym (moved-residue r.yx r.yy r.yz u.x u.y u.z t.y) in
    let pz =
    ap (λ n. n / 4398046511104 % 12) sum ∙ ap (λ n. n % 12) (third-lane x y z (omega arith) (omega arith))
    ∙ sym (moved-residue r.zx r.zy r.zz u.x u.y u.z t.z) in
    c.reduced.ensures ∙ λ i. record { x = px i; y = py i; z = pz i }
