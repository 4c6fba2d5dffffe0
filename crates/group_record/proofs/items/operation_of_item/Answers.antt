-- The code decides between a rotation and none; the answer follows it.
use mathlib.Core.Path.{sym, ◌∙◌, ap, refl}
use Rattle.operation.specs.declared.Operation.{Operation}
use Rattle.group_record.specs.ListedForm.{operation≡}
use Rattle.group_record.specs.OperationItems.{operation_of_item, rotation_of_decoded}
use Rattle.group_record.proofs.items.operation_of_item.Goals.{in-Some, in-None}
use Rattle.group_record.proofs.items.operation_of_item.Goals as goal

pub returns : goal.returns
unfolding operation_of_item
returns c =
    elim c.match-rotation_of_code.branch [
      | in-Some w ↦ operation≡ (w.rotation-is ∙ sym (ap rotation_of_decoded (sym c.rotation_of_code.ensures ∙ w.in-Some.is))) refl
      | in-None w ↦
          operation≡
          (w.rotation-is ∙ ap (λ (f : Operation). f.rotation) w.identity.ensures
          ∙ sym (ap rotation_of_decoded (sym c.rotation_of_code.ensures ∙ w.in-None.is))) refl
    ]
