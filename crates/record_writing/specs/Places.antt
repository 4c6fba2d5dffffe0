-- Bytes written from a stated place of a lent buffer, by refusal 20: whether there is room for them, and what the buffer holds afterwards.
-- Both go by how many bytes there are, whatever they say.
use Rattle.std.specs.Prelude.{◌≡◌, Bool, cond, ◌&&◌, List, ◌++◌, ℕ, ◌+◌, ◌-◌, ◌<◌, ◌≤◌, leb, length, take, drop}
use Rattle.std.proofs.Math.Path.{refl}
use Rattle.std.proofs.Common.{sym, ◌∙◌, ap, append_assoc, arith, length-append, take_at, length-take-le}
use Rattle.std.proofs.Math.Bool.{true, false}
use borrow.Author.Tests.{le-leb, lt-leb, leb-true}

-- The place is within the buffer, and so many bytes are there from it on.
unfoldable pub room_from : ℕ → ℕ → ℕ → Bool
room_from start long size = leb start size && leb long (size - start)

-- The buffer with the bytes from the place on, its other bytes as they were; without room nothing is touched.
unfoldable pub placed_in : List ℕ → ℕ → List ℕ → List ℕ
placed_in out start bytes =
    cond (room_from start (length bytes) (length out)) (take start out ++ (bytes ++ drop (start + length bytes) out)) out

-- ---- the two tests for room
module _ (start long size : ℕ) where
  -- The place is beyond the buffer.
  pub start-beyond : size < start → room_from start long size ≡ false
  unfolding room_from
  start-beyond h = rw (lt-leb start size h)

  -- The bytes do not fit from the place on.
  pub too-near-end : start ≤ size → size - start < long → room_from start long size ≡ false
  unfolding room_from
  too-near-end h k = rw (le-leb start size h, lt-leb long (size - start) k)

  -- They fit.
  pub room-there : start ≤ size → long ≤ size - start → room_from start long size ≡ true
  unfolding room_from
  room-there h k = rw (le-leb start size h, le-leb long (size - start) k)

  -- With room the place is within the buffer.
  pub start-within : room_from start long size ≡ true → start ≤ size
  unfolding room_from
  start-within room = leb-true start size (first_holds (leb start size) (leb long (size - start)) room)
    where
      first_holds : (a b : Bool) → a && b ≡ true → a ≡ true
      first_holds true b e = refl
      first_holds false b e = e

-- ---- what the tests leave of the buffer
module _ (out : List ℕ) (start long : ℕ) (bytes : List ℕ) (size : length bytes ≡ long) where
  -- Without room the buffer stays.
  pub nothing_placed : room_from start long (length out) ≡ false → placed_in out start bytes ≡ out
  unfolding placed_in
  nothing_placed e = rw (size, e)

  -- With room the bytes stand there.
  pub all_placed : room_from start long (length out) ≡ true → placed_in out start bytes ≡ take start out ++ (bytes ++ drop (start + long) out)
  unfolding placed_in
  all_placed e = rw (size, e)

  -- Then the buffer up to their end is what stood before the place, and the bytes.
  pub placed_end : room_from start long (length out) ≡ true → take (start + long) (placed_in out start bytes) ≡ take start out ++ bytes
  placed_end room =
      let within = start-within start long (length out) room in
      let rest = drop (start + long) out in
      let whole : length (take start out ++ bytes) ≡ start + long = length-append (take start out) bytes ∙ omega (arith, length-take-le start out within) in
      ap (take (start + long)) (all_placed room ∙ sym (append_assoc (take start out) bytes rest)) ∙ take_at (take start out ++ bytes) rest (start + long) whole
