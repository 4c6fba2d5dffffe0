-- The two tests pass exactly if all nine entries are in −1..1; then the key has their digits.
use Rattle.std.specs.Prelude.{Some}
use mathlib.Core.Path.{sym, ◌∙◌, ap}
use Prim.Native.Nat.{ℕ, ◌+◌, ◌*◌, ◌%◌}
use Rattle.packed_operation.specs.Number.{key_of, flag_of, said_by}
use Rattle.packed_operation.specs.Rows.{eights_of, said-narrow}
use Rattle.packed_operation.specs.Times.{product-outside, product-outside-next, product_inside}
use Rattle.packed_operation.proofs.product.Goals as goal
use Rattle.packed_operation.proofs.product.Goals.{then-eights-via-then-eights, then-eights-via-else-eights+then-eights-2}

pub returns-then-eights : goal.returns-then-eights
returns-then-eights c =
    let a = c.args in
    let raised = c.rotations-raised.ensures.0 in
    elim c.then-eights.branch [
      | then-eights-via-then-eights w ↦ product-outside (said_by a.f) (said_by a.g) _ (said-narrow a.f) (said-narrow a.g)
          (λ e. w.if-eights.true (c.eights.ensures ∙ ap eights_of raised ∙ e))
      | then-eights-via-else-eights+then-eights-2 w ↦ product-outside-next (said_by a.f) (said_by a.g) _ (said-narrow a.f) (said-narrow a.g)
          (λ e. w.if-eights-2.true (w.eights-else-eights.ensures ∙ ap (λ (n : ℕ). eights_of (n + 4648737378927649)) raised ∙ e))
    ]

pub returns : goal.returns
returns c =
    let a = c.args in
    let raised = c.rotations-raised.ensures.0 in
    let key = c.key.ensures.0 ∙ ap key_of raised in
    (λ i. Some (key i + c.moved.ensures.0 i * 32768 +
    (c.flag.ensures.0 i + c.flag-2.ensures.0 i) % 2 * 9223372036854775808)) ∙
    product_inside (said_by a.f) (said_by a.g) ((flag_of a.f + flag_of a.g) % 2) (said-narrow a.f) (said-narrow a.g)
    (sym (ap eights_of raised) ∙ sym c.eights.ensures
    ∙ c.if-eights.false)
    (sym (ap (λ (n : ℕ). eights_of (n + 4648737378927649)) raised) ∙ sym c.eights-else-eights.ensures
    ∙ c.if-eights-2.false)
