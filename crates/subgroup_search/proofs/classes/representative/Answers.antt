-- The two cases.
use Rattle.subgroup_laws.specs.Representatives.{first-represented, itself-represented}
use Rattle.subgroup_search.proofs.classes.representative.Goals as goal

pub returns-then-classes : goal.returns-then-classes
returns-then-classes c = first-represented _ _ _ c.requires.0.group _ _ _ c.if-classes.true c.requires.1 c.first_conjugate.ensures

pub returns-else-classes : goal.returns-else-classes
returns-else-classes c = itself-represented _ _ _ c.requires.0.group _ _ c.if-classes.false c.requires.1
