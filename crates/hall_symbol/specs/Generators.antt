-- Generators by R3.1 and R3.2: the inversion first, and every generator moved to the shifted origin.
use Rattle.std.specs.Prelude.{Bool, true, false, List, [], ◌∷◌, ◌++◌, ℕ, ◌-◌, length, replicate, pos, ◌+ℤ◌, ◌-ℤ◌}
use Rattle.laws.specs.Matrix.{Vector, dot}
use Rattle.laws.specs.Residue.{residue}
use Rattle.operation.specs.Meaning.{entry_of}
use Rattle.operation.specs.Product.{identity_operation}
use Rattle.operation.specs.declared.Translation.{Translation}
use Rattle.operation.specs.declared.Operation.{Operation}

-- The inversion: rotation −I, translation (0,0,0).
abbrev pub inversion_operation : Operation
inversion_operation =
    record {
      rotation = record { xx = 0; xy = 1; xz = 1; yx = 1; yy = 0; yz = 1; zx = 1; zy = 1; zz = 0 };
      translation = record { x = 0; y = 0; z = 0 };
    }

-- The generators that the first token gives.
abbrev pub leading : Bool → List Operation
leading true = inversion_operation ∷ []
leading false = []

-- One coordinate of t + v − Rv modulo 12: the row (a b c) of R, v whole, its coordinate w, and t's.
unfoldable pub shifted_coordinate : ℕ → ℕ → ℕ → Translation → ℕ → ℕ → ℕ
shifted_coordinate a b c v w t =
    residue (pos t +ℤ pos w -ℤ dot (entry_of a) (entry_of b) (entry_of c) (pos v.x) (pos v.y) (pos v.z))

-- An integer shift, its coordinates modulo 12.
abbrev pub shift_by : Vector → Translation
shift_by v = record { x = residue v.x; y = residue v.y; z = residue v.z }

-- With shift v the generator (R,t) becomes (R, t + v − Rv mod 12).
unfoldable pub shifted : Translation → Operation → Operation
shifted v g =
    let r = g.rotation in
    let t = g.translation in
    record {
      rotation = r;
      translation =
          record {
            x = shifted_coordinate r.xx r.xy r.xz v v.x t.x;
            y = shifted_coordinate r.yx r.yy r.yz v v.y t.y;
            z = shifted_coordinate r.zx r.zy r.zz v v.z t.z;
          };
    }

-- Nine slots: the generators, and the identity past them.
abbrev pub slots : List Operation → List Operation
slots gs = gs ++ replicate (9 - length gs) identity_operation
