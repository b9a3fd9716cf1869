-- A row that is accepted and within the limits can be searched, whoever made its lists, and its search gives what document 01's tree and grid say.
-- Assumes nothing.
use Rattle.std.specs.Prelude.{ℕ, suc, ◌-◌, ◌*◌, ◌^◌, ◌≤◌, ◌<◌, ◌≡◌, length, replicate}
use Rattle.std.proofs.Common.{suc-mul, ◌∙◌, subst, arith}
use Rattle.std.proofs.Math.Path.{ap, fun_ext}
use mathlib.Core.List.{List, [], ◌∷◌}
use Rattle.std.proofs.Math.ListN.{get_or, get_or-append}
use Rattle.std.proofs.lemmas.List.{length-map}
use Rattle.std.proofs.Math.Seq.{take-append_seam}
use Rattle.tandem.specs.declared.Server.{Server}
use Rattle.tandem.specs.declared.Flow.{Flow}
use Rattle.tandem.specs.Tandem.{Tandem, size, server, flow, no_flow, no_server}
use Rattle.tandem.specs.Sound.{Limits}
use Rattle.row.specs.declared.Row.{Row}
use Rattle.row.specs.Groups.{groups, grouped, reads}
use Rattle.row.specs.Accepted.{Accepted}
use Rattle.row.proofs.CountLaws.{few_groups}
use Rattle.row.specs.RowFor.{row_for}
use Rattle.tree.specs.Grid.{Answer}
use Rattle.tree.specs.Planned.{answer_of}
use Rattle.tree.proofs.PlanLaws.{plan_answers}
use Rattle.tree.specs.Bound as tree
use Rattle.tree.proofs.SizeLaws.{start_small, plan_fine}
use Rattle.tree.proofs.PruneLaws.{latencies_of}
use Rattle.ground.specs.Each.{Each}
use Rattle.ground.proofs.EachLaws.{each_at}
use Rattle.tree.proofs.GridLaws.{each_below}
use Rattle.tree.specs.Amounts.{sum_of}
use Rattle.tree.specs.Ordered.{Placed, Workable}
use Rattle.tree.proofs.OrderLaws.{reads_placed, reads_ordered}
use Rattle.point.specs.Point.{servers_of, flows_of, Shaped}
use Rattle.search.specs.Point.{searched}
use Rattle.search.specs.Searchable.{start_of, Searchable}

server_at_lem : (row : Tandem) (k : ℕ) → server row (suc k) ≡ get_or row.servers k no_server
server_at_lem row k = let e : suc k - 1 ≡ k = omega arith in rw e

each_server : (P : Server → Type 0) (l : List Server) → ((k : ℕ) → k < length l → P (get_or l k no_server)) → Each P l
each_server P [] h = tt
each_server P (s ∷ l) h = (h 0 (omega arith), each_server P l (λ k p. h (suc k) (omega arith)))

-- the latencies of servers, none above m
latencies_most : (m : ℕ) (l : List Server) → ((k : ℕ) → (get_or l k no_server).latency ≤ m) → sum_of (latencies_of l) ≤ length l * m
unfolding sum_of
latencies_most m [] h = omega arith
latencies_most m (s ∷ l) h = omega (arith, h 0, latencies_most m l (λ k. h (suc k)), suc-mul (length l) m)

reads_count : (row : Tandem) → length (reads row) ≡ suc (length (groups row))
unfolding reads
reads_count row = ap suc (length-map (groups row) (grouped row))

-- what the row that is handed on holds
module _ (row : Tandem) (mode g : ℕ) where
  abbrev held : Row
  held = row_for row mode g

  servers_held : servers_of held ≡ row.servers
  servers_held = take-append_seam row.servers _

  flows_held : flows_of held ≡ reads row
  flows_held = take-append_seam (reads row) _

  pub count_held : held.count - 1 ≡ length (groups row)
  count_held = omega (arith, reads_count row)

  -- at every point, the answer that is worked out of the row is the tree's
  answer_held : answer_of (servers_of held) (flows_of held) ≡ tree.answer_at row
  answer_held = rw (servers_held, flows_held) (fun_ext (plan_answers row))

  -- THE LAW: what the search of the row gives is what document 01's tree and grid say
  pub search_is_searched : searched held ≡ tree.searched row mode g
  unfolding tree.searched
  search_is_searched = rw (answer_held, count_held)

  -- the watched flow comes first
  watched_held : get_or (flows_of held) 0 no_flow ≡ flow row 0
  unfolding reads
  watched_held = ap (λ (l : List Flow). get_or l 0 no_flow) flows_held

  start_held : start_of held ≡ (tree.answer_at row (replicate (length (groups row)) 0)).delay
  start_held =
      ap (λ (at : List ℕ → Answer). (at (replicate (held.count - 1) 0)).delay) answer_held
      ∙ ap (λ (n : ℕ). (tree.answer_at row (replicate n 0)).delay) count_held

  module _ (ok : Accepted row) (limits : Limits row) where
    shaped : Shaped held
    shaped =
        let n = reads_count row in
        record {
          long = ok.sound.long;
          short = limits.few_servers;
          some = omega arith;
          few = omega (arith, few_groups row ok limits);
          paths = λ k h. rw (get_or-append (reads row) _ no_flow k h) (each_at (Placed (size row)) (reads row) no_flow (reads_placed row ok) k h);
        }

    -- a point whose extras are at most `start`
    point_works : (es : List ℕ) → Each (λ e. e ≤ (tree.answer_at row (replicate (length (groups row)) 0)).delay) es → Workable (servers_of held) (flows_of held) es
    point_works es low =
        let small = start_small row ok limits (length (groups row)) in
        let works : Workable row.servers (reads row) es =
        record {
          some = omega (arith, reads_count row);
          placed = reads_placed row ok;
          ordered = reads_ordered row ok;
          fine = plan_fine row ok limits es (λ k. omega (arith, each_below (tree.answer_at row (replicate (length (groups row)) 0)).delay es low k, small));
        } in
        rw (servers_held, flows_held) works

    -- THE LAW: it can be searched, with a grid of 2..9 and, in mode 0, at most 65,536 points
    pub searchable : 2 ≤ g → g ≤ 9 → (mode ≡ 0 → g ^ length (groups row) ≤ 65536) → Searchable held
    searchable a b few =
        let small = start_small row ok limits (length (groups row)) in
        record {
          shaped = shaped;
          coarse = a;
          dense = b;
          enters = ap (λ (f : Flow). f.first) watched_held ∙ ok.sound.enters;
          leaves = ap (λ (f : Flow). f.last) watched_held ∙ ok.sound.leaves;
          points = λ m. rw count_held (few m);
          slow = rw servers_held
              (each_server (λ s. s.rate ≤ 2 ^ 20) row.servers
              (λ k p. omega (arith, limits.small_rates (suc k), ap (λ (s : Server). s.rate) (server_at_lem row k))));
          prompt = rw servers_held
              (omega (
                arith,
                latencies_most 10216 row.servers
                    (λ k. omega (arith, limits.small_latencies (suc k), ap (λ (s : Server). s.latency) (server_at_lem row k))),
                limits.few_servers,
              ));
          near = omega (arith, start_held, small);
          works = λ es n low. point_works es (subst (λ (b : ℕ). Each (λ e. e ≤ b) es) start_held low);
        }
