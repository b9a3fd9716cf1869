-- Where the reader of a text stands between two bytes, and what a byte makes of it.
-- Assumes nothing.
use Prim.Native.Nat.{ℕ, zero, suc, ◌+◌, ◌≤◌, ◌<◌}
use Rattle.scribe.specs.declared.Mistake.{Mistake}
use Rattle.scribe.specs.Contract.{NumbersOfText}
use mathlib.Core.Path.{◌≡◌, refl, sym, ap, ◌∙◌}
use mathlib.Core.List.{List, [], ◌∷◌, ◌++◌}
use mathlib.Core.Bool.{Bool, true, false, cond}
use native.Mathlib.Numerals.{add-one}
use native.Mathlib.Omega.{arith}
use lib.ListN.{length, get_or, set, drop, length-append}
use lib.Seq.{sets, length-sets}
use lib.Dec.{eqb}
use Rattle.scribe.specs.declared.Mark.{Mark}
use Rattle.scribe.specs.declared.Mark.TheVariants.{Between}
use Rattle.scribe.specs.declared.Slip.{Slip}
use Rattle.scribe.specs.declared.Slip.TheVariants.{Many}
use Rattle.std.specs.Prelude.{None, Some, Result, Ok, Err}
use Rattle.scribe.proofs.TextLaws.{byte_behind, none_behind}
use Rattle.scribe.specs.Text.{Said, these, wrong, also, turn_of, line_after, text_from, text_of, gives_text, numbers_in}

-- numbers that stand before what is still to be read
abbrev pub before : List ℕ → Said → Said
before [] r = r
before (x ∷ xs) r = also x (before xs r)

before_more : (xs : List ℕ) (x : ℕ) (r : Said) → before xs (also x r) ≡ before (xs ++ (x ∷ [])) r
before_more [] x r = refl
before_more (y ∷ xs) x r = ap (also y) (before_more xs x r)

before_these : (xs : List ℕ) → before xs (these []) ≡ these xs
before_these [] = refl
before_these (x ∷ xs) = rw (before_these xs)

before_wrong : (xs : List ℕ) (s : Slip) (l : ℕ) → before xs (wrong [] s l) ≡ wrong xs s l
before_wrong [] s l = refl
before_wrong (x ∷ xs) s l = rw (before_wrong xs s l)

-- one store more
sets_more : (l : List ℕ) (i : ℕ) (vs : List ℕ) (v : ℕ) → sets l i (vs ++ (v ∷ [])) ≡ set (sets l i vs) (i + length vs) v
sets_more l i [] v = let e : i + 0 ≡ i = omega arith in rw e
sets_more l i (w ∷ vs) v = let e : i + suc (length vs) ≡ suc i + length vs = omega arith in sets_more (set l i w) (suc i) vs v ∙ rw e

line_cond : (t : Bool) (line : ℕ) → cond t (line + 1) line ≤ line + 1
line_cond true line = omega arith
line_cond false line = omega arith

line_up : (line b : ℕ) → line_after line b ≤ line + 1
unfolding line_after
line_up line b = line_cond (eqb b 10) line

-- where the reader stands: the whole text says the numbers that are done, and then what is left from byte i on says the rest
pub record Reading (text first numbers : List ℕ) (mark : Mark) (line n i : ℕ) : Type 0 where
  pub done : List ℕ
  pub room : ℕ
  pub lines : line ≤ i + 1
  pub count : n ≡ length done
  pub rooms : n + room ≡ length first
  pub holds : numbers ≡ sets first 0 done
  pub same : text_of (length first) text ≡ before done (text_from room line mark (drop i (text ++ (10 ∷ []))))

pub begin : (text first : List ℕ) → Reading text first first Between 1 0 0
unfolding text_of
begin text first = record { done = []; room = length first; lines = omega arith; count = refl; rooms = omega arith; holds = refl; same = refl }

-- byte i of a text with the line end behind it, and what stands behind that byte
pub record At (text : List ℕ) (i b : ℕ) : Type 0 where
  pub is : drop i (text ++ (10 ∷ [])) ≡ b ∷ drop (i + 1) (text ++ (10 ∷ []))
  pub within : i ≤ length text

pub at_byte : (text : List ℕ) (i b : ℕ) → i ≤ length text → b ≡ get_or text i 10 → At text i b
at_byte text i b h e = record { is = rw (byte_behind text i h, e, add-one i); within = h }

-- what the function promises where the text says this
told : (text first numbers : List ℕ) (said : Said) (xs : List ℕ) (r : Result ℕ Mistake) → text_of (length first) text ≡ said → numbers_in said ≡ xs
    → numbers ≡ sets first 0 xs → r ≡ gives_text said → NumbersOfText text first r numbers
told text first numbers said xs r e f h g = record { gives = rw (g, e); holds = h ∙ rw (e, f) }

number_at : (text first numbers : List ℕ) (mark m : Mark) (line n i b x : ℕ) (done : List ℕ) (room : ℕ) → line ≤ i + 1
    → n ≡ length done → n + room ≡ length first → numbers ≡ sets first 0 done
    → text_of (length first) text ≡ before done (text_from room line mark (drop i (text ++ (10 ∷ []))))
    → At text i b → turn_of mark b ≡ Ok (Some x, m) → n < length first → Reading text first (set numbers n x) m (line_after line b) (n + 1) (i + 1)
number_at text first numbers mark m line n i b x done zero ls ct rs hs sm a t h = absurd (omega arith)
number_at text first numbers mark m line n i b x done (suc room) ls ct rs hs sm a t h =
    record {
      done = done ++ (x ∷ []);
      room = room;
      lines = omega (arith, line_up line b);
      count = omega (arith, length-append done (x ∷ []));
      rooms = omega arith;
      holds = let z : 0 + length done ≡ length done = omega arith in rw (hs, ct) (sym (rw z at (sets_more first 0 done x)));
      same = sm ∙ rw (a.is, t) (before_more done x _);
    }

many_at : (text first : List ℕ) (mark m : Mark) (line n i b x : ℕ) (done : List ℕ) (room : ℕ) → n + room ≡ length first
    → text_of (length first) text ≡ before done (text_from room line mark (drop i (text ++ (10 ∷ []))))
    → At text i b → turn_of mark b ≡ Ok (Some x, m) → length first ≤ n → text_of (length first) text ≡ wrong done Many line
many_at text first mark m line n i b x done zero rs sm a t h = sm ∙ rw (a.is, t) (before_wrong done Many line)
many_at text first mark m line n i b x done (suc room) rs sm a t h = absurd (omega arith)

module _ {text first numbers : List ℕ} {mark : Mark} {line n i : ℕ} (g : Reading text first numbers mark line n i) where
  pub long : length numbers ≡ length first
  long = ap length g.holds ∙ length-sets first 0 g.done

  pub go_on : {b : ℕ} {m : Mark} → At text i b → turn_of mark b ≡ Ok (None, m) → Reading text first numbers m (line_after line b) n (i + 1)
  go_on {b} a t =
      record {
        done = g.done;
        room = g.room;
        lines = omega (arith, line_up line b, g.lines);
        count = g.count;
        rooms = g.rooms;
        holds = g.holds;
        same = g.same ∙ rw (a.is, t);
      }

  pub take_number : {b x : ℕ} {m : Mark} → At text i b → turn_of mark b ≡ Ok (Some x, m) → n < length numbers
      → Reading text first (set numbers n x) m (line_after line b) (n + 1) (i + 1)
  take_number {b} {x} {m} a t h =
      number_at text first numbers mark m line n i b x g.done g.room g.lines g.count g.rooms g.holds g.same a t (omega (arith, long))

  pub many : {b x : ℕ} {m : Mark} → At text i b → turn_of mark b ≡ Ok (Some x, m) → length numbers ≤ n
      → NumbersOfText text first (Err (record { slip = Many; line = line })) numbers
  many {b} {x} {m} a t h =
      told text first numbers (wrong g.done Many line) g.done _
      (many_at text first mark m line n i b x g.done g.room g.rooms g.same a t (omega (arith, long))) refl g.holds refl

  pub slips : {b : ℕ} {s : Slip} → At text i b → turn_of mark b ≡ Err s → NumbersOfText text first (Err (record { slip = s; line = line })) numbers
  slips {b} {s} a t =
      told text first numbers (wrong g.done s line) g.done _ (g.same ∙ rw (a.is, t) (before_wrong g.done s line)) refl g.holds refl

  pub ends : length text < i → NumbersOfText text first (Ok n) numbers
  ends h =
      told text first numbers (these g.done) g.done _ (g.same ∙ rw (none_behind text i h) (before_these g.done)) refl g.holds (ap Ok g.count)
