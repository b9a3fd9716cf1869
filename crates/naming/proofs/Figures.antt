-- The names of the fields of a sheet with two servers and two cross flows, in order: each server and each flow has its own number.
-- Assumes nothing.
use Rattle.std.specs.Prelude.{ℕ, ◌≡◌, refl, List, [], ◌∷◌, map}
use Rattle.fields.specs.declared.Rule.TheVariants.{Range, Path, ZeroOr, Past}
use Rattle.fields.specs.Rule.{field_at}
use Rattle.text.specs.Decimal.{decimal}
use Rattle.text.specs.Lines.{field}
use Rattle.naming.specs.Names.{edition_word, servers_word, server_rate_word, latency_word, count_word, first_word, last_word, burst_word, rate_word}
use Rattle.naming.specs.Names.{watched_burst_word, watched_rate_word, mode_word, grid_word, name_of, extent_in, owner_at, name_at, ends_of, range_of}

-- its numbers: two servers 10, 1; flows 4, 2 on (1,1) and (2,2); watched 6, 2; mode 0, g 2
abbrev numbers : List ℕ
numbers = 1 ∷ 2 ∷ 10 ∷ 1 ∷ 10 ∷ 1 ∷ 2 ∷ 1 ∷ 1 ∷ 4 ∷ 2 ∷ 2 ∷ 2 ∷ 4 ∷ 2 ∷ 6 ∷ 2 ∷ 0 ∷ 2 ∷ []

abbrev places : List ℕ
places = 0 ∷ 1 ∷ 2 ∷ 3 ∷ 4 ∷ 5 ∷ 6 ∷ 7 ∷ 8 ∷ 9 ∷ 10 ∷ 11 ∷ 12 ∷ 13 ∷ 14 ∷ 15 ∷ 16 ∷ 17 ∷ 18 ∷ []

abbrev ordered : List (List ℕ)
ordered =
    edition_word ∷ servers_word
    ∷ field server_rate_word 1 ∷ field latency_word 1 ∷ field server_rate_word 2 ∷ field latency_word 2
    ∷ count_word
    ∷ field first_word 1 ∷ field last_word 1 ∷ field burst_word 1 ∷ field rate_word 1
    ∷ field first_word 2 ∷ field last_word 2 ∷ field burst_word 2 ∷ field rate_word 2
    ∷ watched_burst_word ∷ watched_rate_word ∷ mode_word ∷ grid_word
    ∷ []

pub names_in_order : map (λ (i : ℕ). name_at i (extent_in numbers)) places ≡ ordered
unfolding name_at name_of field_at owner_at
names_in_order = refl

-- ", outside 2..16" of a range and of a path, ", neither 0 nor in 2..9", and nothing behind the last field
pub ranges_told : map range_of (Range 2 16 ∷ Path 2 16 ∷ ZeroOr 2 9 ∷ Past ∷ [])
    ≡ (44 ∷ 32 ∷ 111 ∷ 117 ∷ 116 ∷ 115 ∷ 105 ∷ 100 ∷ 101 ∷ 32 ∷ 50 ∷ 46 ∷ 46 ∷ 49 ∷ 54 ∷ [])
    ∷ (44 ∷ 32 ∷ 111 ∷ 117 ∷ 116 ∷ 115 ∷ 105 ∷ 100 ∷ 101 ∷ 32 ∷ 50 ∷ 46 ∷ 46 ∷ 49 ∷ 54 ∷ [])
    ∷ (44 ∷ 32 ∷ 110 ∷ 101 ∷ 105 ∷ 116 ∷ 104 ∷ 101 ∷ 114 ∷ 32 ∷ 48 ∷ 32 ∷ 110 ∷ 111 ∷ 114 ∷ 32 ∷ 105 ∷ 110 ∷ 32 ∷ 50 ∷ 46 ∷ 46 ∷ 57 ∷ [])
    ∷ []
    ∷ []
unfolding range_of ends_of field decimal
ranges_told = refl
