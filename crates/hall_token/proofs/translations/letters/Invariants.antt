-- The letters that are left, added to the sum so far, come to what the whole run comes to. Each coordinate stays below 12, and a letter adds at most 6.
use Rattle.std.proofs.Common.{◌≡◌, ◌<◌, drop}
use Rattle.hall_token.specs.Sums.{letters_from}
use Rattle.hall_token.proofs.translations.letters.Given as goal

abbrev pub invariant-loop-byte : goal.invariant-loop-byte
invariant-loop-byte l =
    (l.x < 12) × (l.y < 12) × (l.z < 12) × (letters_from l.fn.run 0 0 l.fn.rise ≡ letters_from (drop l.byte-index l.fn.run) l.x l.y l.z)
