-- THE LAW of the line that is given: of a text that is wrong it is 1 and the count of the line ends before the byte at which the text goes wrong.
-- With room for i numbers only, a text that says more than i goes wrong where number i, counted from 0, ends: so the line is that of number i.
-- Assumes nothing.
use Rattle.std.specs.Prelude.{None, Some, Ok, Err, ℕ, zero, suc, ◌+◌, ◌<◌, ◌≡◌, refl, Bool, true, false, cond, List, [], ◌∷◌, ◌++◌, length, take, eqb}
use Rattle.std.proofs.Common.{sym, ap, ◌∙◌, arith}
use Rattle.scribe.specs.declared.Mark.{Mark}
use Rattle.scribe.specs.declared.Mark.TheVariants.{Between}
use Rattle.scribe.specs.declared.Slip.{Slip}
use Rattle.scribe.specs.declared.Slip.TheVariants.{Many}
use Rattle.scribe.specs.Text.{Turn, Said, these, wrong, also, on_turn, turn_of, line_after, text_from, text_of}

-- how many line ends a text has
abbrev pub line_ends : List ℕ → ℕ
line_ends [] = 0
line_ends (b ∷ s) = cond (eqb b 10) 1 0 + line_ends s

-- Bytes t, read from line `first` on, go wrong at a byte in line `line`.
pub record GoesWrong (room first : ℕ) (m : Mark) (t xs : List ℕ) (slip : Slip) (line : ℕ) : Type 0 where
  pub front : List ℕ
  pub byte : ℕ
  pub back : List ℕ
  pub whole : t ≡ front ++ (byte ∷ back)
  -- the bytes before it are right: they say the numbers xs
  pub right : text_from room first m front ≡ these xs
  -- with it they are wrong
  pub slips : text_from room first m (front ++ (byte ∷ [])) ≡ wrong xs slip line
  -- each line end before it counts as a line, and nothing else does
  pub lines : line ≡ first + line_ends front

line_by : (t : Bool) (line : ℕ) → cond t (line + 1) line ≡ line + cond t 1 0
line_by true line = refl
line_by false line = omega arith

line_counts : (line b : ℕ) → line_after line b ≡ line + cond (eqb b 10) 1 0
unfolding line_after
line_counts line b = line_by (eqb b 10) line

-- what stood behind the first number of a text that is wrong
record BehindWrong (x : ℕ) (r : Said) (xs : List ℕ) (slip : Slip) (line : ℕ) : Type 0 where
  rest : List ℕ
  was : r ≡ wrong rest slip line
  all : xs ≡ x ∷ rest

behind_wrong : (x : ℕ) (r : Said) (xs : List ℕ) (slip : Slip) (line : ℕ) → also x r ≡ wrong xs slip line → BehindWrong x r xs slip line
behind_wrong x (these ys) xs slip line e = absurd (cc)
behind_wrong x (wrong ys s l) xs slip line e = record { rest = ys; was = cc; all = cc }

module _ (m : Mark) (first b : ℕ) (t : List ℕ) (slip : Slip) (line : ℕ) where
  -- at the first byte
  at_once : (room : ℕ) (s : Slip) (xs : List ℕ) → text_from room first m (b ∷ []) ≡ wrong [] s first → wrong [] s first ≡ wrong xs slip line
      → GoesWrong room first m (b ∷ t) xs slip line
  at_once room s xs q e =
      let l : first ≡ line = cc in
      record { front = []; byte = b; back = t; whole = refl; right = cc; slips = q ∙ e; lines = omega arith }

  -- at a later one
  past : (room : ℕ) (xs : List ℕ) {room' : ℕ} {m' : Mark} {ys : List ℕ} (g : GoesWrong room' (line_after first b) m' t ys slip line)
      → text_from room first m (b ∷ g.front) ≡ these xs → text_from room first m (b ∷ (g.front ++ (g.byte ∷ []))) ≡ wrong xs slip line
      → GoesWrong room first m (b ∷ t) xs slip line
  past room xs g r s =
      record {
        front = b ∷ g.front;
        byte = g.byte;
        back = g.back;
        whole = ap (λ (l : List ℕ). b ∷ l) g.whole;
        right = r;
        slips = s;
        lines = omega (arith, g.lines, line_counts first b);
      }

  turn_wrong : (room : ℕ) (u : Turn) (xs : List ℕ) → turn_of m b ≡ u
      → on_turn u room first (λ room' m'. text_from room' (line_after first b) m' t) ≡ wrong xs slip line
      → ((room' : ℕ) (m' : Mark) (ys : List ℕ) → text_from room' (line_after first b) m' t ≡ wrong ys slip line
      → GoesWrong room' (line_after first b) m' t ys slip line)
      → GoesWrong room first m (b ∷ t) xs slip line
  turn_wrong room (Ok (None, m')) xs q e next = let g = next room m' xs e in past room xs g (rw q g.right) (rw q g.slips)
  turn_wrong zero (Ok (Some x, m')) xs q e next = at_once zero Many xs (rw q) e
  turn_wrong (suc room) (Ok (Some x, m')) xs q e next =
      let w = behind_wrong x (text_from room (line_after first b) m' t) xs slip line e in
      let g = next room m' w.rest w.was in
      past (suc room) xs g
      (rw q (ap (also x) g.right ∙ ap these (sym w.all)))
      (rw q (ap (also x) g.slips ∙ ap (λ (l : List ℕ). wrong l slip line) (sym w.all)))
  turn_wrong room (Err s) xs q e next = at_once room s xs (rw q) e

from_wrong : (t : List ℕ) (first room : ℕ) (m : Mark) (xs : List ℕ) (slip : Slip) (line : ℕ) → text_from room first m t ≡ wrong xs slip line
    → GoesWrong room first m t xs slip line
from_wrong [] first room m xs slip line e = absurd (cc)
from_wrong (b ∷ t) first room m xs slip line e =
    turn_wrong m first b t slip line room (turn_of m b) xs refl e (λ room' m' ys. from_wrong t (line_after first b) room' m' ys slip line)

pub wrong_line : (room : ℕ) (text xs : List ℕ) (slip : Slip) (line : ℕ) → text_of room text ≡ wrong xs slip line
    → GoesWrong room 1 Between (text ++ (10 ∷ [])) xs slip line
unfolding text_of
wrong_line room text xs slip line e = from_wrong (text ++ (10 ∷ [])) 1 room Between xs slip line e

-- With room for i numbers only, a text that says xs has one number too many: number i, counted from 0, and it goes wrong where that ends.
pub record NumberLine (i : ℕ) (text xs : List ℕ) : Type 0 where
  pub line : ℕ
  pub is : text_of i text ≡ wrong (take i xs) Many line
  pub ends : GoesWrong i 1 Between (text ++ (10 ∷ [])) (take i xs) Many line

record OneTooMany (said : Said) (xs : List ℕ) (i : ℕ) : Type 0 where
  line : ℕ
  is : said ≡ wrong (take i xs) Many line

-- what stood behind the first number of a text that is right
record Behind (x : ℕ) (r : Said) (xs : List ℕ) : Type 0 where
  rest : List ℕ
  was : r ≡ these rest
  all : xs ≡ x ∷ rest

behind : (x : ℕ) (r : Said) (xs : List ℕ) → also x r ≡ these xs → Behind x r xs
behind x (these ys) xs e = record { rest = ys; was = refl; all = cc }
behind x (wrong ys s l) xs e = absurd (cc)

also_too_many : (x : ℕ) (said r : Said) (xs : List ℕ) (i : ℕ) (b : Behind x r xs) → OneTooMany said b.rest i
    → OneTooMany (also x said) xs (suc i)
also_too_many x said r xs i b o = record { line = o.line; is = rw (o.is, b.all) }

turn_too_many : (u : Turn) (room i line : ℕ) (go : ℕ → Mark → Said) (xs : List ℕ) → on_turn u room line go ≡ these xs → i < length xs
    → ((room' i' : ℕ) (m : Mark) (ys : List ℕ) → go room' m ≡ these ys → i' < length ys → OneTooMany (go i' m) ys i')
    → OneTooMany (on_turn u i line go) xs i
turn_too_many (Ok (None, m)) room i line go xs e h next = next room i m xs e h
turn_too_many (Ok (Some x, m)) zero i line go xs e h next = absurd (cc)
turn_too_many (Ok (Some x, m)) (suc room) zero line go xs e h next = record { line = line; is = refl }
turn_too_many (Ok (Some x, m)) (suc room) (suc i) line go xs e h next =
    let b : Behind x (go room m) xs = behind x (go room m) xs e in
    also_too_many x (go i m) (go room m) xs i b (next room i m b.rest b.was (omega (arith, ap length b.all)))
turn_too_many (Err s) room i line go xs e h next = absurd (cc)

from_too_many : (t : List ℕ) (line room i : ℕ) (m : Mark) (xs : List ℕ) → text_from room line m t ≡ these xs → i < length xs
    → OneTooMany (text_from i line m t) xs i
from_too_many [] line room i m xs e h = let z : xs ≡ [] = cc in absurd (omega (arith, ap length z))
from_too_many (b ∷ t) line room i m xs e h =
    turn_too_many (turn_of m b) room i line (λ room' m'. text_from room' (line_after line b) m' t) xs e h
    (λ room' i' m' ys. from_too_many t (line_after line b) room' i' m' ys)

pub number_line_lem : (text : List ℕ) (room i : ℕ) (xs : List ℕ) → text_of room text ≡ these xs → i < length xs → NumberLine i text xs
unfolding text_of
number_line_lem text room i xs e h =
    let o = from_too_many (text ++ (10 ∷ [])) 1 room i Between xs e h in
    record { line = o.line; is = o.is; ends = wrong_line i text (take i xs) Many o.line o.is }
