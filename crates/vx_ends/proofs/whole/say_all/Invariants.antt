use Rattle.std.proofs.Common.{length, ◌-◌, ◌≡◌, ◌++◌, ◌≤◌, take, Some, IfSome}
use Rattle.vx_ends.specs.Talks.{Talks}
use Rattle.vx_ends.proofs.whole.say_all.Given as goal

abbrev pub invariant-loop-done : goal.invariant-loop-done
invariant-loop-done g l =
    let D = g.D.Duplex in
    record {
      within : l.done ≤ length l.text;
      taken : IfSome (D.taken l.fn.ends) (λ bytes. D.taken l.ends ≡ Some (bytes ++ take l.done l.text));
      dialogue : IfSome (D.dialogue l.fn.ends) (λ pieces. Talks (take l.done l.text) pieces (D.dialogue l.ends));
      calm : D.put_faults l.ends ≡ D.put_faults l.fn.ends;
      given : D.given l.ends ≡ D.given l.fn.ends;
      at_end : D.at_end l.ends ≡ D.at_end l.fn.ends;
      reads : D.read_faults l.ends ≡ D.read_faults l.fn.ends;
      names : D.names l.ends ≡ D.names l.fn.ends;
    }

abbrev pub decreases-loop-done : goal.decreases-loop-done
decreases-loop-done g l = length l.text - l.done
