-- `grid_number`: each pattern of the match stands at its place in `patterns`, and a NaN's bits or any other stand at none. Assumes nothing.
use mathlib.Core.Path.{◌≡◌, sym, ap, refl}
use mathlib.Core.Bool.{true, cond}
use Prim.Native.Nat.{ℕ}
use borrow.Author.Tests.{ne_eqb}
use lib.Dec.{ltb}
use lib.Ieee.{Float, nan, inf, fin, binary64, to_bits, is_nan}
use Rattle.std.proofs.Common.{Option, Some, None, ◌∙◌}
use Rattle.operation.specs.Doubles.{patterns, place_in, twelfths_of, grid_number}
use Rattle.operation.proofs.doubles.grid_number.Goals as goal

-- The number that some bits stand for.
abbrev number_at : ℕ → Option ℕ
number_at bits = cond (ltb (place_in patterns bits) 12) (Some (place_in patterns bits)) None

-- Bits that match a pattern have its number.
hit : {bits : ℕ} (pattern : ℕ) → bits ≡ pattern → number_at pattern ≡ number_at bits
hit pattern e = sym (ap number_at e)

-- A NaN's bits are none of the patterns.
nan-off : (v : Float) → is_nan v ≡ true → None ≡ grid_number v
unfolding to_bits is_nan grid_number twelfths_of patterns place_in
nan-off nan h = refl
nan-off (inf s) h = cc
nan-off (fin s m e) h = cc

pub returns-then-is_nan : goal.returns-then-is_nan
returns-then-is_nan c = nan-off _ (sym c.is_nan.ensures.value ∙ c.if-is_nan.true)

pub returns-in-0 : goal.returns-in-0
unfolding grid_number twelfths_of patterns place_in
returns-in-0 c = hit _ c.in-0.is

pub returns-in-4590669220166325589 : goal.returns-in-4590669220166325589
unfolding grid_number twelfths_of patterns place_in
returns-in-4590669220166325589 c = hit _ c.in-4590669220166325589.is

pub returns-in-4595172819793696085 : goal.returns-in-4595172819793696085
unfolding grid_number twelfths_of patterns place_in
returns-in-4595172819793696085 c = hit _ c.in-4595172819793696085.is

pub returns-in-4598175219545276416 : goal.returns-in-4598175219545276416
unfolding grid_number twelfths_of patterns place_in
returns-in-4598175219545276416 c = hit _ c.in-4598175219545276416.is

pub returns-in-4599676419421066581 : goal.returns-in-4599676419421066581
unfolding grid_number twelfths_of patterns place_in
returns-in-4599676419421066581 c = hit _ c.in-4599676419421066581.is

pub returns-in-4601177619296856747 : goal.returns-in-4601177619296856747
unfolding grid_number twelfths_of patterns place_in
returns-in-4601177619296856747 c = hit _ c.in-4601177619296856747.is

pub returns-in-4602678819172646912 : goal.returns-in-4602678819172646912
unfolding grid_number twelfths_of patterns place_in
returns-in-4602678819172646912 c = hit _ c.in-4602678819172646912.is

pub returns-in-4603429419110541995 : goal.returns-in-4603429419110541995
unfolding grid_number twelfths_of patterns place_in
returns-in-4603429419110541995 c = hit _ c.in-4603429419110541995.is

pub returns-in-4604180019048437077 : goal.returns-in-4604180019048437077
unfolding grid_number twelfths_of patterns place_in
returns-in-4604180019048437077 c = hit _ c.in-4604180019048437077.is

pub returns-in-4604930618986332160 : goal.returns-in-4604930618986332160
unfolding grid_number twelfths_of patterns place_in
returns-in-4604930618986332160 c = hit _ c.in-4604930618986332160.is

pub returns-in-4605681218924227243 : goal.returns-in-4605681218924227243
unfolding grid_number twelfths_of patterns place_in
returns-in-4605681218924227243 c = hit _ c.in-4605681218924227243.is

pub returns-in-4606431818862122325 : goal.returns-in-4606431818862122325
unfolding grid_number twelfths_of patterns place_in
returns-in-4606431818862122325 c = hit _ c.in-4606431818862122325.is

pub returns-in_default : goal.returns-in_default
unfolding grid_number twelfths_of patterns place_in
returns-in_default c =
    let bits = to_bits binary64 c.args.component in
    let none = c.in_default.in_default-own.rest in
    simp (
      ne_eqb bits 0 none.0.0.0.0.0.0.0.0.0.0.0.1,
      ne_eqb bits 4590669220166325589 none.0.0.0.0.0.0.0.0.0.0.1,
      ne_eqb bits 4595172819793696085 none.0.0.0.0.0.0.0.0.0.1,
      ne_eqb bits 4598175219545276416 none.0.0.0.0.0.0.0.0.1,
      ne_eqb bits 4599676419421066581 none.0.0.0.0.0.0.0.1,
      ne_eqb bits 4601177619296856747 none.0.0.0.0.0.0.1,
      ne_eqb bits 4602678819172646912 none.0.0.0.0.0.1,
      ne_eqb bits 4603429419110541995 none.0.0.0.0.1,
      ne_eqb bits 4604180019048437077 none.0.0.0.1,
      ne_eqb bits 4604930618986332160 none.0.0.1,
      ne_eqb bits 4605681218924227243 none.0.1,
      ne_eqb bits 4606431818862122325 none.1,
    )
