-- Each public function's contract leaves one possible result for every input.
-- Assumes nothing.
use Rattle.std.specs.Prelude.{ℕ, ◌≡◌, List, Result}
use Rattle.std.specs.Borrow.{Bor}
use Rattle.numbers.specs.declared.Fault.{Fault}
use Rattle.ground.proofs.ValueLaws.{one_value}
use Rattle.reader.specs.declared.Reader.{Reader}
use Rattle.reader.specs.Contract.{New, Moved, NextNumber, NumberFrom}

-- two readers that stand at one place of the same bytes are one
pub one_reader : {r r' : Reader} → r.bytes ≡ r'.bytes → r.at ≡ r'.at → r ≡ r'
one_reader b a = λ i. record { bytes = b i; at = a i }

pub new_unique : (bytes : Bor (List ℕ)) (r r' : Reader) → New bytes r → New bytes r' → r ≡ r'
new_unique bytes r r' p q = one_reader (one_value p.over q.over) (one_value p.there q.there)

pub moved_unique : (r : Reader) (at : ℕ) (n n' : Reader) → Moved r at n → Moved r at n' → n ≡ n'
moved_unique r at n n' p q = one_reader (one_value p.over q.over) (one_value p.there q.there)

pub next_number_unique : (r : Reader) (g g' : Result (ℕ × ℕ) Fault) → NextNumber r g → NextNumber r g' → g ≡ g'
next_number_unique r g g' p q = one_value p.is q.is

pub number_from_unique : (bytes : List ℕ) (at : ℕ) (g g' : Result (ℕ × ℕ) Fault) → NumberFrom bytes at g → NumberFrom bytes at g' → g ≡ g'
number_from_unique bytes at g g' p q = one_value p.is q.is
