-- The answer on a magnetic symbol's text: that of the plain reader on the copy without time reversals, beside the flags.
use Rattle.std.specs.Prelude.{Bool, false, List, ℕ, replicate}
use Rattle.hall_symbol.specs.Reader.{read_symbol, answer_of}
use Rattle.hall_symbol.specs.declared.Answer.{Answer}
use Rattle.hall_symbol.specs.declared.Answer.TheVariants.{Symbol, Refused}
use Rattle.magnetic_symbol.specs.Reversals.{blanked, flag_slots}
use Rattle.magnetic_symbol.specs.declared.MagneticSymbol.{MagneticSymbol}

-- A refusal carries no flags.
abbrev pub kept_flags : Answer → List Bool → List Bool
kept_flags Symbol fs = fs
kept_flags (Refused r) fs = replicate 9 false

abbrev pub magnetic_answer : List ℕ → MagneticSymbol
magnetic_answer text =
    let h = answer_of (read_symbol (blanked text)) in
    record { symbol = h; flags = kept_flags h.answer (flag_slots text) }
