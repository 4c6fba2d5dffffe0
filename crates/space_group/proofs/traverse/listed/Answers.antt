-- A generator that is off, or the growth.
use Rattle.std.proofs.Common.{refl, sym, ◌∙◌}
use Rattle.space_group.specs.Listings.{listing-found, listing-missed}
use Rattle.space_group.specs.NumberSlots.{lists-grown}
use Rattle.space_group.proofs.traverse.listed.Goals as goal

pub returns-in-Some : goal.returns-in-Some
returns-in-Some c = rw (listing-found c.args.c _ c.args.generators.now c.args.factors.now c.in-Some.generator (sym c.first_off.ensures ∙ c.in-Some.is)) refl

pub returns : goal.returns
returns c = rw (listing-missed c.args.c _ c.args.generators.now c.args.factors.now (sym c.first_off.ensures ∙ c.in_default.is))
    (lists-grown _ _ _ _ _ _ c.traverse.ensures)
