-- The sum of the unsigned terms is the coordinate.
use Rattle.std.proofs.Common.{ℕ, ◌%◌, ◌∙◌, sym, ap}
use Rattle.hall_symbol.specs.Shifting.{shifted_sum}
use Rattle.hall_symbol.proofs.generators.shifted_coordinate.Goals as goal

pub returns : goal.returns
returns c =
    ap (λ (n : ℕ). n % 12) (cc (
      c.from.ensures,
      c.from-2.ensures,
      c.turned_back.ensures.0,
      c.turned_back-2.ensures.0,
      c.turned_back-3.ensures.0,
    )) ∙
    sym (shifted_sum c.args.a c.args.b c.args.c c.args.v c.args.w c.args.t)
