-- The loop over the groups' lines.
-- Assumes nothing.
use Rattle.std.specs.Prelude.{ℕ, zero, suc, ◌+◌, ◌≤◌, ◌<◌, ◌≡◌, refl, ◌⊎◌, List, [], ◌∷◌, ◌++◌, length}
use Rattle.std.proofs.Common.{sym, ap, ◌∙◌, subst, inl, inr, append_assoc, append-nil, arith}
use Rattle.text.specs.declared.Page.{Page}
use Rattle.text.specs.Contract.{Room, Written}
use Rattle.text.proofs.PutLaws.{room_first, room_then, written_then, written_none}
use Rattle.tandem.specs.declared.Flow.{Flow}
use Rattle.listing.specs.Text.{group_line}
use Rattle.listing.specs.Held.{lines_of}

-- of all lines, those that are written since a page, and those of the first n of the groups that are left, which have waits enough
pub record Filling (all : List ℕ) (n : ℕ) (groups : List Flow) (waits : List ℕ) (before after : Page) : Type 0 where
  pub lines : List ℕ
  pub written : Written lines before after
  pub whole : lines ++ lines_of n groups waits ≡ all
  pub enough : length groups ≤ length waits

pub begin_filling : {n m : ℕ} {groups gs : List Flow} {waits ws : List ℕ} (page : Page) → n ≡ m → groups ≡ gs → waits ≡ ws → length groups ≤ length waits
    → Filling (lines_of m gs ws) n groups waits page page
begin_filling page count firsts seconds l = record { lines = []; written = written_none page; whole = rw (count, firsts, seconds) refl; enough = l }

-- a group's line, with its wait
abbrev pub line_of : Flow → ℕ → List ℕ
line_of g wait = group_line g.first g.last wait

lines_next : (n m : ℕ) (g : Flow) (groups : List Flow) (w : ℕ) (waits : List ℕ) → m + 1 ≡ n
    → lines_of n (g ∷ groups) (w ∷ waits) ≡ line_of g w ++ lines_of m groups waits
unfolding lines_of
lines_next zero m g groups w waits e = absurd (omega arith)
lines_next (suc k) m g groups w waits e = let same : m ≡ k = omega arith in rw same

-- a turn: the next group, and the others behind it
module _ {all : List ℕ} {n : ℕ} {groups rest : List Flow} {waits others : List ℕ} {before after : Page} (g : Flow) (w m : ℕ)
    (f : Filling all n groups waits before after) (gs : groups ≡ g ∷ rest) (ws : waits ≡ w ∷ others) (one : m + 1 ≡ n) where
  next : f.lines ++ (line_of g w ++ lines_of m rest others) ≡ all
  next = rw (← lines_next n m g rest w others one, ← gs, ← ws) f.whole

  pub turn_room : Room all before → Room (line_of g w) after
  turn_room room =
      room_first (line_of g w) (lines_of m rest others) after
      (room_then f.lines (line_of g w ++ lines_of m rest others) f.written (rw next room))

  pub turn : {page : Page} → Written (line_of g w) after page → Filling all m rest others before page
  turn x = record {
    lines = f.lines ++ line_of g w;
    written = written_then f.written x;
    whole = append_assoc f.lines (line_of g w) (lines_of m rest others) ∙ next;
    enough = omega (arith, f.enough, ap length gs, ap length ws);
  }

none_left : (n : ℕ) (groups : List Flow) (waits : List ℕ) → length groups ≤ length waits → (0 < n → (groups ≡ []) ⊎ (waits ≡ [])) → lines_of n groups waits ≡ []
unfolding lines_of
none_left zero groups waits e h = refl
none_left (suc k) [] waits e h = refl
none_left (suc k) (g ∷ groups) waits e h = by (h (omega arith))
  where
    by : ((g ∷ groups) ≡ []) ⊎ (waits ≡ []) → lines_of (suc k) (g ∷ groups) waits ≡ []
    by (inl q) = absurd (cc)
    by (inr q) = absurd (omega (arith, ap length q))

-- the end: no group is left
pub filled : {all : List ℕ} {n : ℕ} {groups : List Flow} {waits : List ℕ} {before after : Page} → Filling all n groups waits before after
    → (0 < n → (groups ≡ []) ⊎ (waits ≡ [])) → Written all before after
filled {all} {n} {groups} {waits} {before} {after} f h =
    let e : f.lines ≡ all = sym (append-nil f.lines) ∙ ap (λ (l : List ℕ). f.lines ++ l) (sym (none_left n groups waits f.enough h)) ∙ f.whole in
    subst (λ (l : List ℕ). Written l before after) e f.written
