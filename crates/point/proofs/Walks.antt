-- The walk along a node's path: after each piece, what is joined so far and what is still to come make the node's curve. Each part of
-- the way is no longer than the whole, so it fits where the whole does.
-- Assumes nothing.
use mathlib.Core.Path.{◌≡◌, refl, sym, ◌∙◌}
use mathlib.Core.Bool.{Bool, true, false}
use mathlib.Core.List.{List, [], ◌∷◌}
use Prim.Native.Nat.{ℕ, zero, suc, ◌+◌, ◌-◌, ◌≤◌, ◌<◌, ◌^◌}
use native.Mathlib.Nat.{le_trans}
use native.Mathlib.Numerals.{add-one}
use native.Mathlib.Omega.{arith}
use lib.Dec.{ltb}
use lib.ListN.{length, length-append, get_or}
use Rattle.tandem.specs.Tandem.{no_server}
use Rattle.curves.specs.declared.Curve.{Curve}
use Rattle.curves.specs.Curve.{Shape, neutral, server, joined}
use Rattle.curves.specs.Held.{Holds}
use Rattle.tandem.specs.declared.Server.{Server}
use Rattle.tree.specs.Plan.{Top, alone, over, server_curve, piece_on, along}
use Rattle.tree.proofs.NodeLaws.{along_alone, along_over, along_end}

-- c is part of d: no larger offset, no more stages
pub record PartOf (c d : Shape) : Type 0 where
  pub offset : c.offset ≤ d.offset
  pub stages : length c.stages ≤ length d.stages

part_self : (c : Shape) → PartOf c c
part_self c = record { offset = omega arith; stages = omega arith }

part_trans : {a b c : Shape} → PartOf a b → PartOf b c → PartOf a c
part_trans p q = record { offset = le_trans p.offset q.offset; stages = le_trans p.stages q.stages }

part_joined : (c d : Shape) → PartOf c (joined c d)
unfolding joined
part_joined c d = record { offset = omega arith; stages = omega (arith, length-append c.stages d.stages) }

part_piece : (ss : List Server) (b : Bool) (t : Top) (c : Shape) (j : ℕ) (next : Shape → ℕ → Shape)
    → ((d : Shape) (i : ℕ) → PartOf d (next d i)) → PartOf c (piece_on ss b t c j next)
part_piece ss true t c j next h = part_self c
part_piece ss false alone c j next h = part_trans (part_joined c (server_curve ss j)) (h (joined c (server_curve ss j)) (suc j))
part_piece ss false (over d l) c j next h = part_trans (part_joined c d) (h (joined c d) (suc l))

part_along : (ss : List Server) (top : ℕ → Top) (n : ℕ) (c : Shape) (j e : ℕ) → PartOf c (along ss top n c j e)
unfolding along
part_along ss top zero c j e = part_self c
part_along ss top (suc n) c j e =
    part_piece ss (ltb e j) (top j) c j (λ d i. along ss top n d i e) (λ d i. part_along ss top n d i e)

-- a join that is part of a curve in range fits
pub join_room : {a b : Curve} {c d w : Shape} → Holds a c → Holds b d → PartOf (joined c d) w → length w.stages ≤ 16 → w.offset < 2 ^ 36
    → (a.count + b.count ≤ 16) × (a.offset + b.offset < 2 ^ 63)
unfolding joined
join_room {a} {b} {c} {d} {w} h k p m n = (
  omega (arith, h.count, k.count, p.stages, length-append c.stages d.stages),
  omega (arith, h.offset, k.offset, p.offset),
)

-- and so does one server more
pub server_room : {a : Curve} {c w : Shape} (R T : ℕ) → Holds a c → PartOf (joined c (server R T)) w → length w.stages ≤ 16 → w.offset < 2 ^ 36
    → (a.count < 16) × (a.offset + T < 2 ^ 63)
unfolding joined server
server_room {a} {c} {w} R T h p m n = (
  omega (arith, h.count, p.stages, length-append c.stages (record { burst = 0; rate = R } ∷ [])),
  omega (arith, h.offset, p.offset),
)

-- on the way to server e, before server j: the record c holds what is joined so far, and with what is to come it makes the whole
pub record Walking (ss : List Server) (top : ℕ → Top) (whole : Shape) (e : ℕ) (c : Curve) (j : ℕ) : Type 0 where
  pub turns : ℕ
  pub shape : Shape
  pub holds : Holds c shape
  pub full : length c.stages ≡ 16
  pub low : 1 ≤ j
  pub enough : e < j + turns
  pub same : along ss top turns shape j e ≡ whole

-- the walk begins with the curve of no server
pub walk_begins : (ss : List Server) (top : ℕ → Top) (a e : ℕ) (c : Curve) → Holds c neutral → length c.stages ≡ 16 → 1 ≤ a → e ≤ length ss
    → Walking ss top (along ss top (length ss) neutral a e) e c a
walk_begins ss top a e c h f p q =
    record { turns = length ss; shape = neutral; holds = h; full = f; low = p; enough = omega arith; same = refl }

module _ (ss : List Server) (top : ℕ → Top) (whole : Shape) (e : ℕ) (c : Curve) (j : ℕ) where
  -- it ends behind server e, with the whole
  pub walk_ends : Walking ss top whole e c j → e < j → Holds c whole
  walk_ends w h = rw (← w.same, along_end ss top w.turns w.shape j e h) w.holds

  module _ (h : j ≤ e) where
    part_alone : (n : ℕ) (d : Shape) → e < j + n → along ss top n d j e ≡ whole → top j ≡ alone → PartOf (joined d (server_curve ss j)) whole
    part_alone zero d p s t = absurd (omega arith)
    part_alone (suc n) d p s t = rw (← s, along_alone ss top n d j e h t) (part_along ss top n (joined d (server_curve ss j)) (suc j) e)

    part_over : (n : ℕ) (d f : Shape) (l : ℕ) → e < j + n → along ss top n d j e ≡ whole → top j ≡ over f l → PartOf (joined d f) whole
    part_over zero d f l p s t = absurd (omega arith)
    part_over (suc n) d f l p s t = rw (← s, along_over ss top n d f j l e h t) (part_along ss top n (joined d f) (suc l) e)

    turn_alone : (n : ℕ) (d : Shape) (r : Curve) → 1 ≤ j → e < j + n → along ss top n d j e ≡ whole → top j ≡ alone → Holds r (joined d (server_curve ss j))
        → length r.stages ≡ 16 → Walking ss top whole e r (j + 1)
    turn_alone zero d r o p s t k f = absurd (omega arith)
    turn_alone (suc n) d r o p s t k f =
        record {
          turns = n;
          shape = joined d (server_curve ss j);
          holds = k;
          full = f;
          low = omega arith;
          enough = omega arith;
          same = rw add-one (sym (along_alone ss top n d j e h t) ∙ s);
        }

    turn_over : (n : ℕ) (d f : Shape) (l : ℕ) (r : Curve) → e < j + n → along ss top n d j e ≡ whole → top j ≡ over f l → j ≤ l → Holds r (joined d f)
        → length r.stages ≡ 16 → Walking ss top whole e r (l + 1)
    turn_over zero d f l r p s t m k u = absurd (omega arith)
    turn_over (suc n) d f l r p s t m k u =
        record {
          turns = n;
          shape = joined d f;
          holds = k;
          full = u;
          low = omega arith;
          enough = omega arith;
          same = rw add-one (sym (along_over ss top n d f j l e h t) ∙ s);
        }

    -- what begins at server j is joined: the server, or what a group leaves

    pub walk_room : (w : Walking ss top whole e c j) → top j ≡ alone → length whole.stages ≤ 16 → whole.offset < 2 ^ 36
        → (c.count < 16) × (c.offset + (get_or ss (j - 1) no_server).latency < 2 ^ 63)
    walk_room w t m n = server_room _ _ w.holds (part_alone w.turns w.shape w.enough w.same t) m n

    pub walk_room_over : (w : Walking ss top whole e c j) (b : Curve) (f : Shape) (l : ℕ) → top j ≡ over f l → Holds b f → length whole.stages ≤ 16
        → whole.offset < 2 ^ 36 → (c.count + b.count ≤ 16) × (c.offset + b.offset < 2 ^ 63)
    walk_room_over w b f l t k m n = join_room w.holds k (part_over w.turns w.shape f l w.enough w.same t) m n

    pub walk_turn : (w : Walking ss top whole e c j) (r : Curve) → top j ≡ alone → Holds r (joined w.shape (server_curve ss j))
        → length r.stages ≡ 16 → Walking ss top whole e r (j + 1)
    walk_turn w r t k f = turn_alone w.turns w.shape r w.low w.enough w.same t k f

    pub walk_turn_over : (w : Walking ss top whole e c j) (f : Shape) (l : ℕ) (r : Curve) → top j ≡ over f l → j ≤ l → Holds r (joined w.shape f)
        → length r.stages ≡ 16 → Walking ss top whole e r (l + 1)
    walk_turn_over w f l r t m k u = turn_over w.turns w.shape f l r w.enough w.same t m k u
