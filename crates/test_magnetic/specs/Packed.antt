-- A magnetic reading in numbers: letter, count, refusal and generators as in a plain one, and the flag of each generator.
use Rattle.std.specs.Prelude.{Bool, false, cond, List, ℕ, ltb, get_or}
pub use Rattle.test_generators.specs.Packed.{packed_answer, packed_generator, packed-symbol, packed-refused}

abbrev pub packed_flag : List Bool → ℕ → ℕ
packed_flag flags i = cond (ltb i 9) (cond (get_or flags i false) 1 0) 0
