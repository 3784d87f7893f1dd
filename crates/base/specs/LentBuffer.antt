-- Output in a lent buffer: "Bytes past an output are unchanged."
use Rattle.std.specs.Prelude.{List, ◌++◌, ℕ, ◌+◌, length, take, drop}

-- the buffer with some bytes stored from a place on, and all else as it was
unfoldable pub stored : ℕ → List ℕ → List ℕ → List ℕ
stored at bytes buffer = take at buffer ++ (bytes ++ drop (at + length bytes) buffer)
