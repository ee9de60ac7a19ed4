use Rattle.std.proofs.Common.{ℕ, Bool, true, false, map, sym, ◌∙◌, ap, subst}
use Rattle.vx_meaning.specs.States.{Store}
use Rattle.vx_resolved.specs.Resolved.{exprs}
use Rattle.vx_resolved.specs.Settled.{settled}
use Rattle.vx_run.specs.Evaluated.{Free}
use Rattle.vx_run.specs.Going.{Supply}
use Rattle.vx_run.specs.Configs.{Setting, Config, put_list}
use Rattle.vx_run.specs.ConfigViews.{config_of}
use Rattle.vx_run.specs.Flats.{at_first, written_store, Came}
use Rattle.vx_run.specs.Held.{heap}
use Rattle.vx_run.specs.Pending.{evaluate_all}
use Rattle.vx_run.specs.Views.{value}
use Rattle.vx_run.specs.declared.blame.Blame.TheVariants as blame
use Rattle.vx_run.proofs.Valued.{values_came, list_taken}
use Rattle.vx_run.proofs.valuing.values_of.Goals as goal

pub returns-then-there : goal.returns-then-there
returns-then-there c = λ x w.
    let t : Setting = record { program = settled c.args.program.now; steps = 0 } in
    let h = c.args.heap.now.value in
    let e = exprs c.args.es.now in
    let start : Supply ℕ = record { source = 0; steps = 0 } in
    let after = config_of c.evaluate_to_end.new.of in
    let ends = λ (b : Bool) (k : Config). Came b after (put_list blame.Itself k (evaluate_all t 0 Free k.state e) start) in
    let from = c.in_ok-of.ensures ∙ ap (λ (y : Store). at_first y (heap h)) (sym w) in
    let came = subst (ends true) from (subst (λ (b : Bool). ends b (config_of c.in_ok-of.of)) c.if-there.true c.in_ok-there.ensures) in
    let v = values_came t.program x h e start true after came in
    list_taken (λ vs. map value vs.items) v.0 after (at_first (written_store x) (heap h)) (config_of c.take_list.new.of) c.take_list.result v.2 c.take_list.ensures.some c.take_list.ensures.none
    ∙ sym v.1

pub returns : goal.returns
returns c = λ x w.
    let t : Setting = record { program = settled c.args.program.now; steps = 0 } in
    let h = c.args.heap.now.value in
    let e = exprs c.args.es.now in
    let start : Supply ℕ = record { source = 0; steps = 0 } in
    let after = config_of c.evaluate_to_end.new.of in
    let ends = λ (b : Bool) (k : Config). Came b after (put_list blame.Itself k (evaluate_all t 0 Free k.state e) start) in
    let from = c.in_ok-of.ensures ∙ ap (λ (y : Store). at_first y (heap h)) (sym w) in
    let came = subst (ends false) from (subst (λ (b : Bool). ends b (config_of c.in_ok-of.of)) c.if-there.false c.in_ok-there.ensures) in
    sym (values_came t.program x h e start false after came)
