use Rattle.std.proofs.Common.{rules, append_assoc}
use Rattle.vx_dialogue.proofs.preamble.put_options.Goals as goal

pub returns-else-certify : goal.returns-else-certify
returns-else-certify c = rw c.if-certify.false (search rules)

pub returns-in_ok-put_produce_proofs : goal.returns-in_ok-put_produce_proofs
returns-in_ok-put_produce_proofs c =
    rw (c.if-certify.true, c.in_ok-put_produce_proofs.ensures, c.in_ok-put_print_success.ensures) (simp append_assoc)
