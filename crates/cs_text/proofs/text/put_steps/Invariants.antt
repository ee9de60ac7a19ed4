use Rattle.std.proofs.Common.{◌≡◌, ◌++◌, map, drop}
use Rattle.cs_proof.specs.Views.{written}
use Rattle.cs_text.specs.Text.{behind, text_of}
use Rattle.cs_text.proofs.text.put_steps.Given as goal

abbrev pub invariant-loop-step : goal.invariant-loop-step
invariant-loop-step l = l.text.items ++ behind (map text_of (map written (drop l.step-index l.steps))) ≡ l.fn.text.items ++ behind (map text_of (map written l.steps))
