-- The numbers of the refusals, the reasons told for faults, and the fields of a small sheet in order, computed from their definitions.
-- Assumes nothing.
use Rattle.std.specs.Prelude.{ℕ, ◌≡◌, refl, List, [], ◌∷◌, map}
use Rattle.numbers.specs.declared.Fault.{Fault}
use Rattle.numbers.specs.declared.Fault.TheVariants as fault
use Rattle.fields.specs.declared.Why.{Why}
use Rattle.fields.specs.declared.Why.TheVariants.{Ends, Padded, Large, Left, Outside, OffPath, Crossing, Crowded, Points, TooLarge, Short}
use Rattle.fields.specs.Rule.{Seen, field_at}
use Rattle.fields.specs.Refusal.{refusal, why_of}

-- "Refusals by number", in the order of document 01's table; 2 is one number with two reasons
abbrev pub reasons : List Why
reasons = Ends ∷ Padded ∷ Large ∷ Left ∷ Outside ∷ OffPath ∷ Crossing ∷ Crowded ∷ Points ∷ TooLarge ∷ Short ∷ []

pub by_number : map refusal reasons ≡ 1 ∷ 2 ∷ 2 ∷ 3 ∷ 4 ∷ 5 ∷ 6 ∷ 7 ∷ 8 ∷ 9 ∷ 10 ∷ []
by_number = refl

-- why no number stands at a place: the bytes end inside it; it is not shortest; it has a fifth group that continues, or is above 4,294,967,295
abbrev pub faults : List Fault
faults = fault.Ends ∷ fault.Padded ∷ fault.Large ∷ []

-- each is told as itself: the two reasons that have the number 2 are told apart
pub faults_told : map why_of faults ≡ Ends ∷ Padded ∷ Large ∷ []
faults_told = refl

-- Two servers and one cross flow: edition, N, R and T of each server, the number of flows, the flow's four numbers, and the last four.
abbrev small : Seen
small = record { edition = 1; servers = 2; flows = 1; prev = 0 }

abbrev places : List ℕ
places = 0 ∷ 1 ∷ 2 ∷ 3 ∷ 4 ∷ 5 ∷ 6 ∷ 7 ∷ 8 ∷ 9 ∷ 10 ∷ 11 ∷ 12 ∷ 13 ∷ 14 ∷ 15 ∷ []

pub fields_in_order : map (λ (i : ℕ). field_at i small) places ≡ 0 ∷ 1 ∷ 2 ∷ 3 ∷ 2 ∷ 3 ∷ 4 ∷ 5 ∷ 6 ∷ 7 ∷ 8 ∷ 9 ∷ 10 ∷ 11 ∷ 12 ∷ 13 ∷ []
unfolding field_at
fields_in_order = refl
