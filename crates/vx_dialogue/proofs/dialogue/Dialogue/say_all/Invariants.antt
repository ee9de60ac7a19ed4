use Rattle.std.proofs.Common.{◌≡◌, ◌≤◌, ◌++◌, List, map, take}
use Rattle.vx_smt_meaning.specs.Commands.{Command}
use Rattle.vx_smt_meaning.specs.Dialogues.{ArePlain, Check}
use Rattle.vx_smt_meaning.specs.Views.{command}
use Rattle.vx_dialogue.specs.Dialogue.{Gathers}
use Rattle.vx_ends.specs.Dialogue.{Grows}
use Rattle.vx_smt_meaning.specs.Names.{AreCommands}
use Rattle.vx_dialogue.specs.Steady.{IsSteady}
use Rattle.vx_dialogue.proofs.dialogue.Dialogue.say_all.Given as goal

abbrev pub invariant-loop-c : goal.invariant-loop-c
invariant-loop-c g l =
    let dialogue = g.L.Link.dialogue in
    let faults = g.L.Link.faults in
    record {
      told : ArePlain (map command l.all) → (commands : List Command) (checks : List Check)
          → Gathers dialogue l.fn.self commands checks → Gathers dialogue l.self (commands ++ map command (take l.c-index l.all)) checks;
      levels : l.self.levels ≡ l.fn.self.levels;
      owed : l.self.owed ≡ l.fn.self.owed;
      failed : l.self.failed ≡ l.fn.self.failed;
      grows : Grows (dialogue l.fn.self.link) (dialogue l.self.link);
      steady : ArePlain (map command l.all) → IsSteady g.L.Link.steady faults l.fn.self.link → (commands : List Command) (checks : List Check)
          → Gathers dialogue l.fn.self commands checks → AreCommands (commands ++ map command l.all) → IsSteady g.L.Link.steady faults l.self.link;
      later : faults l.fn.self.link ≤ faults l.self.link;
    }
