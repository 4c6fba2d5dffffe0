-- The place to which halving leads is the only one where the operation can be listed.
use mathlib.Core.Path.{sym, ◌∙◌, ap, subst}
use Prim.Native.Nat.{ℕ, ◌+◌, ◌*◌}
use native.Mathlib.Omega.{arith}
use Rattle.centering.specs.Lattices.{congruent_of}
use Rattle.group_record.specs.declared.items.Item.{Item}
use Rattle.magnetic_record_reading.specs.Search.{KeyPlace, past_end, other_key, listed-there}
use Rattle.magnetic_record_reading.proofs.group.is_listed.Goals as goal
use Rattle.magnetic_record_reading.proofs.group.is_listed.Goals.{then-n-i-via-then-n-i, then-n-i-via-else-n-i+then-key_at-key}

pub returns-then-n-i : goal.returns-then-n-i
returns-then-n-i c =
    let code = c.rotation_code.ensures in
    let K = subst (λ (k : ℕ). KeyPlace c.args.n c.args.bytes.now (2 * k + c.args.flag) c.place_of_key-i.result) code c.place_of_key-i.ensures in
    elim c.then-n-i.branch [
      | then-n-i-via-then-n-i w ↦ past_end c.args.c c.args.n c.args.bytes.now c.requires.0 c.args.f c.args.flag _ K w.if-n-i.true
      | then-n-i-via-else-n-i+then-key_at-key w ↦
          other_key c.args.c c.args.n c.args.bytes.now c.requires.0 c.args.f c.args.flag _ K (omega (arith, w.if-n-i.false))
          (λ e. w.if-key_at-key.true (w.key_at.ensures ∙ e ∙ ap (λ (k : ℕ). 2 * k + c.args.flag) (sym code)))
    ]

pub returns : goal.returns
returns c =
    let code = c.rotation_code.ensures in
    let place = c.place_of_key-i.result in
    let key = sym c.key_at.ensures ∙ c.if-key_at-key.false ∙ ap (λ (k : ℕ). 2 * k + c.args.flag) code in
    let low = c.if-n-i.false in
    let decides = listed-there c.args.c c.args.n c.args.bytes.now c.requires.0 c.args.f c.args.flag c.requires.1 place (omega (arith, low)) key in
    c.congruent.ensures ∙ ap (λ (i : Item). congruent_of c.args.c c.args.f.translation i.translation) c.plain_at.ensures ∙ decides
