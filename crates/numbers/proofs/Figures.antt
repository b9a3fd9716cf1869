-- Worked examples of the seven-bit number, computed from the definitions.
-- Assumes nothing.
use Rattle.std.specs.Prelude.{ℕ, zero, suc, ◌<◌, ◌≡◌, refl, List, [], ◌∷◌, Result, Ok, Err, map}
use Rattle.std.proofs.Common.{arith}
use Rattle.numbers.specs.declared.Fault.{Fault}
use Rattle.numbers.specs.declared.Fault.TheVariants.{Ends, Padded, Large}
use Rattle.numbers.specs.Seven.{number_at, encode}
use Rattle.numbers.proofs.SevenLaws.{Bytes}

-- "300 is bytes 172, 2."
pub three_hundred : (encode 300 ≡ 172 ∷ 2 ∷ []) × (number_at (172 ∷ 2 ∷ []) 0 ≡ Ok (300, 2))
unfolding encode number_at
three_hundred = (refl, refl)

-- bytes, and what is read at their front
pub record Example : Type 0 where
  pub bytes : List ℕ
  pub says : Result (ℕ × ℕ) Fault

abbrev example : List ℕ → Result (ℕ × ℕ) Fault → Example
example s g = record { bytes = s; says = g }

abbrev pub table : List Example
table =
    -- one group and two, with another byte behind them
    example (0 ∷ 9 ∷ []) (Ok (0, 1))
    ∷ example (127 ∷ 9 ∷ []) (Ok (127, 1))
    ∷ example (128 ∷ 1 ∷ 9 ∷ []) (Ok (128, 2))
    -- "lowest first"
    ∷ example (130 ∷ 1 ∷ []) (Ok (130, 2))
    -- "At most five groups, at most 4,294,967,295"
    ∷ example (255 ∷ 255 ∷ 255 ∷ 255 ∷ 15 ∷ 9 ∷ []) (Ok (4294967295, 5))
    ∷ example (128 ∷ 128 ∷ 128 ∷ 128 ∷ 16 ∷ 9 ∷ []) (Err Large)
    ∷ example (128 ∷ 128 ∷ 128 ∷ 128 ∷ 128 ∷ 1 ∷ []) (Err Large)
    -- "a fifth group that continues is 2 even where the bytes end there"; where they end before it the number is not finished
    ∷ example (128 ∷ 128 ∷ 128 ∷ 128 ∷ 128 ∷ []) (Err Large)
    ∷ example (255 ∷ 255 ∷ 255 ∷ 255 ∷ []) (Err Ends)
    ∷ example (128 ∷ []) (Err Ends)
    ∷ example [] (Err Ends)
    -- "shortest form only"
    ∷ example (128 ∷ 0 ∷ []) (Err Padded)
    ∷ example (129 ∷ 0 ∷ []) (Err Padded)
    ∷ example (129 ∷ 128 ∷ 128 ∷ 128 ∷ 0 ∷ []) (Err Padded)
    ∷ []

pub table_read : map (λ (e : Example). number_at e.bytes 0) table ≡ map (λ (e : Example). e.says) table
unfolding number_at
table_read = refl

-- what the laws ask of a list of bytes holds of every byte
pub bytes_met : (b : ℕ) → b < 256 → Bytes (b ∷ [])
bytes_met b h zero = h
bytes_met b h (suc i) = omega arith
