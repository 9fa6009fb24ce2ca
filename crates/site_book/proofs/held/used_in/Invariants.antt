-- A site's book sums up what some grants have (`held::used_in`): at each turn, the sums so far and those of the grants
-- left make the whole, and they are small enough for 64 bits.
use Rattle.site_book.proofs.Common.{◌≡◌, ◌+◌, ◌*◌, ◌≤◌, drop, used}
use Rattle.site_book.proofs.held.used_in.Given as goal

-- what is summed so far and the rest are all
abbrev pub invariant-loop-held : goal.invariant-loop-held
invariant-loop-held l = record {
  sessions : l.sum.sessions + (used l.part (drop l.held-index l.grants)).sessions ≡ (used l.part l.grants).sessions;
  segments : l.sum.segments + (used l.part (drop l.held-index l.grants)).segments ≡ (used l.part l.grants).segments;
  nodes : l.sum.nodes + (used l.part (drop l.held-index l.grants)).nodes ≡ (used l.part l.grants).nodes;
  few_sessions : l.sum.sessions ≤ l.held-index;
  few_segments : l.sum.segments ≤ l.held-index * 4096;
  few_nodes : l.sum.nodes ≤ l.held-index * 65536;
}
