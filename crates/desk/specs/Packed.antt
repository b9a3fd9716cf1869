-- The one number that a program in C gets: "it gets one number, refusal × 2^32 + detail, with refusal 0 and the written length on success".
-- Assumes nothing.
use Rattle.std.specs.Prelude.{ℕ, ◌+◌, ◌*◌, Result}
use Rattle.fields.specs.declared.Refusal.{Refusal}
use Rattle.fields.specs.Refusal.{number, detail}

-- a refusal's number and its detail, for every entry
abbrev pub as_one : ℕ → ℕ → ℕ
as_one refusal detail = refusal * 4294967296 + detail

-- what an entry gives
abbrev pub packed : Result ℕ Refusal → ℕ
packed o = as_one (number o) (detail o)
