use Rattle.std.proofs.Common.{length, ◌-◌, ◌≡◌, ◌++◌, ◌≤◌, take, Some, IfSome}
use Rattle.vx_ends.proofs.whole.put_all.Given as goal

abbrev pub invariant-loop-done : goal.invariant-loop-done
invariant-loop-done g l =
    let taken = g.K.Sink.taken in
    record {
      within : l.done ≤ length l.text;
      taken : IfSome (taken l.fn.out) (λ bytes. taken l.out ≡ Some (bytes ++ take l.done l.text));
      calm : g.K.Sink.faults l.out ≡ g.K.Sink.faults l.fn.out;
    }

abbrev pub decreases-loop-done : goal.decreases-loop-done
decreases-loop-done g l = length l.text - l.done
