-- The hint tells that the sign is not listed, or where it stands; else the search does.
use Rattle.std.proofs.Common.{◌≡◌, ℕ, ◌-◌, ◌<◌, ◌%◌, map, length, get_or, sym, ap, ◌∙◌, arith}
use Rattle.std.proofs.lemmas.List.{length-map}
use Rattle.laws.specs.Indices.{image-at}
use Rattle.space_group.specs.NumberGrowth.{sign_of}
use Rattle.space_group.specs.Hints.{hint-none, hint_holds}
use Rattle.space_group.specs.NumberSlots.{sign-found, sign-missed}
use Rattle.space_group.proofs.traverse.place_of.Goals as goal

pub returns-then-hint-eq0 : goal.returns-then-hint-eq0
returns-then-hint-eq0 c =
    let signs = map sign_of c.args.numbers.now in
    let clear : get_or c.args.hints.now (c.args.sought % 151) 0 ≡ 0 =
    ap (λ (s : ℕ). get_or c.args.hints.now s 0) (sym c.spot.ensures) ∙ c.if-hint-eq0.true in
    sym (sign-missed c.args.sought c.args.numbers.now
    (hint-none signs c.args.hints.now c.requires c.args.sought clear ∙ length-map c.args.numbers.now sign_of))

pub returns-then-sign-sought : goal.returns-then-sign-sought
returns-then-sign-sought c =
    let k = get_or c.args.hints.now c.spot.result 0 - 1 in
    let low : k < length c.args.numbers.now = c.if-k-numbers.true in
    let at = image-at sign_of c.args.numbers.now k 0 0 low ∙ sym c.sign.ensures ∙ c.if-sign-sought.true in
    sym (sign-found c.args.sought c.args.numbers.now k
    (hint_holds (map sign_of c.args.numbers.now) c.args.hints.now c.requires c.args.sought k
    (omega (arith, low, length-map c.args.numbers.now sign_of)) at) low)
