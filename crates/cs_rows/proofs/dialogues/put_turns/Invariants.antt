use Rattle.vx_dialogue.specs.Dialogue.{IsFree}
use Rattle.cs_rows.proofs.dialogues.put_turns.Given as goal

abbrev pub invariant-loop-turn : goal.invariant-loop-turn
invariant-loop-turn l = IsFree l.dialogue
