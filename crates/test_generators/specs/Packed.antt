-- A reading in numbers: letter and count or refusal, and each generator.
use Rattle.std.specs.Prelude.{◌≡◌, cond, ℕ, ◌+◌, ◌*◌, ◌%◌, ltb, get_or}
use Rattle.operation.specs.Code.{code_of}
use Rattle.operation.specs.declared.Operation.{Operation}
use Rattle.centering.specs.Letters.{byte_of}
use Rattle.centering.specs.declared.Centering.{Centering}
use Rattle.hall_symbol.specs.Refusals.{number_of, place_of}
use Rattle.hall_symbol.specs.declared.Answer.{Answer}
use Rattle.hall_symbol.specs.declared.Answer.TheVariants.{Symbol, Refused}
use Rattle.hall_symbol.specs.declared.refusal.Refusal.{Refusal}
use Rattle.hall_symbol.specs.declared.HallSymbol.{HallSymbol}

abbrev pub packed_case : Centering → ℕ → Answer → ℕ
packed_case c count Symbol = byte_of c * 256 + count % 256
packed_case c count (Refused r) = number_of r * 65536 + place_of r % 65536

abbrev pub packed_answer : HallSymbol → ℕ
packed_answer s = packed_case s.centering s.count s.answer

abbrev pub packed_operation : Operation → ℕ
packed_operation o =
    code_of o.rotation * 4096 + o.translation.x % 16 * 256 + o.translation.y % 16 * 16 + o.translation.z % 16

-- Stands where a list has no such place.
abbrev pub no_operation : Operation
no_operation =
    record {
      rotation = record { xx = 0; xy = 0; xz = 0; yx = 0; yy = 0; yz = 0; zx = 0; zy = 0; zz = 0 };
      translation = record { x = 0; y = 0; z = 0 };
    }

abbrev pub packed_generator : HallSymbol → ℕ → ℕ
packed_generator s i = cond (ltb i 9) (packed_operation (get_or s.generators i no_operation)) 0

-- What the code makes of each case is the packed answer.
pub packed-symbol : (s : HallSymbol) (b : ℕ) → s.answer ≡ Symbol → b ≡ byte_of s.centering → b * 256 + s.count % 256 ≡ packed_answer s
packed-symbol s b e f = rw (e, f)

pub packed-refused : (s : HallSymbol) (r : Refusal) (n p : ℕ) → s.answer ≡ Refused r → n ≡ number_of r → p ≡ place_of r → n * 65536 + p % 65536
    ≡ packed_answer s
packed-refused s r n p e f g = rw (e, f, g)
