-- The image under x ↦ (g⁻¹ x) g.
use mathlib.Core.Path.{ap, ◌∙◌}
use Prim.Native.Nat.{ℕ}
use Rattle.subgroup_laws.specs.Conjugation.{inverse-below}
use Rattle.subgroup_laws.specs.Subsets.{image_of, conjugate_element, conjugate_of}
use Rattle.subgroup_laws.specs.Table.{product}
use Rattle.table_products.proofs.conjugate_set.Goals as goal

pub returns : goal.returns
unfolding conjugate_of conjugate_element
returns c G small j =
    let i = c.inverse.ensures G.cells j in
    c.image.ensures G.cells small (rw i (inverse-below _ _ _ G.group _ j)) j
    ∙ ap (λ (y : ℕ). image_of c.args.n (λ (x : ℕ). product c.args.n c.args.t.now (product c.args.n c.args.t.now y x) c.args.g) c.args.s) i
