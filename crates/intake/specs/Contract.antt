-- What the one public function promises of its result, for every reader.
-- Assumes nothing.
use Rattle.std.specs.Prelude.{ℕ, ◌<◌, ◌≡◌, List, length, take, IfOk}
use Rattle.std.specs.declared.result.Result.{Result}
use Rattle.std.specs.declared.option.Option.{Option}
use Rattle.std.specs.Io.{ReadsAtMost}
use Rattle.std.specs.Io.KnownBytes.{Consumes, IsAtEnd}

-- `fill`, of a reader that had these bytes left and has those now, where they are known, and of a buffer with that room
pub record Fill {E : Type 0} (before after : Option (List ℕ)) (room : ℕ) (r : Result ℕ E) (bytes : List ℕ) : Type 0 where
  -- the buffer keeps its length, and as many bytes as are given stand at its start
  pub long : length bytes ≡ room
  pub within : ReadsAtMost r bytes
  -- they are the first that the reader had
  pub taken : IfOk r (λ n. Consumes before after (take n bytes))
  -- fewer than there is room for only where the reader has come to its end
  pub whole : IfOk r (λ n. n < room → IsAtEnd after)
