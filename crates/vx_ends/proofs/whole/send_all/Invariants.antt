use Rattle.std.proofs.Common.{length, ◌-◌, ◌≡◌, ◌++◌, ◌≤◌, take, IsTrue}
use Rattle.vx_ends.specs.Dialogue.{sent, got, Grows, SendsOn}
use Rattle.vx_ends.proofs.whole.send_all.Given as goal

abbrev pub invariant-loop-done : goal.invariant-loop-done
invariant-loop-done g l =
    let dialogue = g.L.Link.dialogue in
    let faults = g.L.Link.faults in
    let steady = g.L.Link.steady in
    record {
      within : l.done ≤ length l.text;
      sent : sent (dialogue l.link) ≡ sent (dialogue l.fn.link) ++ take l.done l.text;
      got : got (dialogue l.link) ≡ got (dialogue l.fn.link);
      grows : Grows (dialogue l.fn.link) (dialogue l.link);
      pieces : SendsOn (dialogue l.fn.link) (dialogue l.link);
      later : faults l.fn.link ≤ faults l.link;
      fixed : steady l.link ≡ steady l.fn.link;
      calm : IsTrue (steady l.fn.link) → faults l.fn.link ≡ 0 → faults l.link ≡ 0;
    }

abbrev pub decreases-loop-done : goal.decreases-loop-done
decreases-loop-done g l = length l.text - l.done
