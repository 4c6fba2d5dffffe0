-- Each step of the loops is one law of the growth: the next number, a product outside −1..1, one that is listed, one too many, a new one.
use Rattle.std.proofs.Common.{◌≡◌, ◌&&◌, get_or, set, cond, Ok, Err, sym, ◌∙◌, ap, arith}
use Rattle.std.specs.Option.{unwrap_or}
use Rattle.space_group.specs.NumberGrowth.{inside_number, same_shift}
use Rattle.space_group.specs.NumberSlots.{growing-start, growing-end, growing-over, growing-outside, growing-again, growing-full, growing-new, shows-end, ends-none}
use Rattle.space_group.specs.declared.refusal.Refusal.TheVariants.{Translations}
use Rattle.space_group.proofs.traverse.traverse.Goals as goal
use Rattle.space_group.proofs.traverse.traverse.Goals.{then-steady, else-steady}

pub loop-i-init : goal.loop-i-init
loop-i-init c = growing-start c.args.c c.args.generators.now c.args.numbers.now c.args.steps.now c.requires.some c.requires.first

pub returns-in_default : goal.returns-in_default
returns-in_default c =
    let outside = sym (ap inside_number c.product.ensures) ∙ ap inside_number c.in_default.is in
    ends-none _ c.args.numbers.now c.loop-right.numbers c.args.steps.now c.loop-right.steps
    (growing-outside _ _ _ _ _ _ _ _ _ _ _ _ c.loop-right.invariant.0 c.loop-right.invariant.1 c.loop-right-test.true outside)

pub loop-right-preserved-in-Some-place : goal.loop-right-preserved-in-Some-place
loop-right-preserved-in-Some-place c =
    let (G, h) = c.loop-right.invariant in
    let inside = sym (ap inside_number c.product.ensures) ∙ ap inside_number c.in-Some.is in
    let found = sym c.place_of-place.ensures ∙ c.in-Some-place.is in
    let (low, next) = growing-again _ _ _ _ _ _ _ _ _ _ _ _ G h c.loop-right-test.true c.in-Some.p c.sign-sought.result inside c.sign-sought.ensures
    c.in-Some-place.k found (omega (arith, G.room, G.few, c.requires.few, c.requires.room)) in
    let listed : c.unwrap_or.result ≡ c.in-Some-place.k = c.unwrap_or.ensures ∙ ap (λ o. unwrap_or o c.loop-right.count) c.in-Some-place.is in
    let steady : c.if-steady.steady ≡ c.loop-right.steady && same_shift c.args.c c.in-Some.p (get_or c.loop-right.numbers c.in-Some-place.k 0) =
    elim c.if-steady.branch [
      | then-steady w ↦ w.steady-is ∙ w.agrees-steady.ensures
          ∙ ap (λ b. b && same_shift c.args.c c.in-Some.p (get_or c.loop-right.numbers c.in-Some-place.k 0)) (sym w.if-steady.true)
      | else-steady w ↦ w.steady-is ∙ w.if-steady.false
          ∙ ap (λ b. b && same_shift c.args.c c.in-Some.p (get_or c.loop-right.numbers c.in-Some-place.k 0)) (sym w.if-steady.false)
    ] in
    (rw (listed, steady) next, h)

pub returns-then-numbers-count : goal.returns-then-numbers-count
returns-then-numbers-count c =
    let (G, h) = c.loop-right.invariant in
    let inside = sym (ap inside_number c.product.ensures) ∙ ap inside_number c.in-Some.is in
    let missed = sym c.place_of-place.ensures ∙ c.in_default-place.is in
    ends-none _ c.args.numbers.now c.loop-right.numbers c.args.steps.now (set c.loop-right.steps c.loop-right.made c.unwrap_or.result)
    (growing-full _ _ _ _ _ _ _ _ _ _ _ _ G h c.loop-right-test.true c.in-Some.p c.sign-sought.result inside c.sign-sought.ensures missed (omega arith))

pub loop-right-preserved : goal.loop-right-preserved
loop-right-preserved c =
    let (G, h) = c.loop-right.invariant in
    let inside = sym (ap inside_number c.product.ensures) ∙ ap inside_number c.in-Some.is in
    let missed = sym c.place_of-place.ensures ∙ c.in_default-place.is in
    let behind : c.unwrap_or.result ≡ c.loop-right.count = c.unwrap_or.ensures ∙ ap (λ o. unwrap_or o c.loop-right.count) c.in_default-place.is in
    let next = growing-new _ _ _ _ _ _ _ _ _ _ _ _ G h c.loop-right-test.true c.in-Some.p c.sign-sought.result inside c.sign-sought.ensures missed
    (omega arith) (omega (arith, G.room, G.few, c.requires.few, c.requires.room)) in
    (rw (behind, c.spot.ensures) next, omega (arith, h))

pub loop-i-preserved : goal.loop-i-preserved
loop-i-preserved c =
    growing-over _ _ _ _ _ _ _ _ _ _ _ _ c.loop-right.invariant.0 c.loop-right.invariant.1 (omega arith) (omega (arith, c.requires.few))

pub returns-then-steady-2 : goal.returns-then-steady-2
returns-then-steady-2 c =
    let G = c.loop-i.invariant in
    shows-end c.args.c G.grown c.loop-i.count c.loop-i.steady c.loop-i.made c.args.numbers.now c.loop-i.numbers c.args.steps.now c.loop-i.steps G.shows _
    (growing-end _ _ _ _ _ _ _ _ _ _ _ _ G c.loop-i-test.false) G.few _
    (ap (λ b. cond b (Ok c.loop-i.count) (Err Translations)) (sym c.if-steady-2.true))

pub returns-else-steady-2 : goal.returns-else-steady-2
returns-else-steady-2 c =
    let G = c.loop-i.invariant in
    shows-end c.args.c G.grown c.loop-i.count c.loop-i.steady c.loop-i.made c.args.numbers.now c.loop-i.numbers c.args.steps.now c.loop-i.steps G.shows _
    (growing-end _ _ _ _ _ _ _ _ _ _ _ _ G c.loop-i-test.false) G.few _
    (ap (λ b. cond b (Ok c.loop-i.count) (Err Translations)) (sym c.if-steady-2.false))
