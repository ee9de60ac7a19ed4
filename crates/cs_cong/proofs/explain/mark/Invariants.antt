use Rattle.std.proofs.Common.{◌≡◌, ◌<◌, true, take, All}
use Rattle.cs_cong.specs.Marked.{is_marked, Marked}
use Rattle.cs_cong.proofs.explain.mark.Given as goal

abbrev pub invariant-loop-edge : goal.invariant-loop-edge
invariant-loop-edge l = record {
  time : l.needs.time ≡ l.fn.needs.time;
  more : Marked l.time l.fn.needs.all l.needs.all;
  done : All (λ e. e.merge < l.time → is_marked l.needs.all e.merge ≡ true) (take l.edge-index l.edges);
}
