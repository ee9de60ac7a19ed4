use Rattle.std.proofs.Common.{◌≡◌, ℕ, Bool, false, [], ◌++◌, take, drop, Result, Ok, Err, IfOk, IfErr, sym, subst}
use Rattle.std.proofs.lemmas.Result.{IfOk-weaker, IfErr-weaker, err_from_is_err_and}
use Rattle.vx_ends.specs.Talks.{Says}
use Rattle.cs_session.specs.Views.{state}
use Rattle.cs_serve.specs.declared.ending.Ending.{Ending}
use Rattle.cs_serve.specs.declared.ending.Ending.TheVariants.{SinkFailed}
use Rattle.cs_serve.specs.Working.{IsAt, Stops, HasStopped}
use Rattle.cs_serve.proofs.Steps.{at_put, stops_put, stops_short}
use Rattle.cs_serve.proofs.answer.put_answers.Goals as goal

-- what follows either way
either_way : (r : Result ℕ Ending) (P : ℕ → Type 0) (Q : Ending → Type 0) (X : Type 0) → IfOk r P → IfErr r Q → ((n : ℕ) → P n → X) → ((e : Ending) → Q e → X) → X
either_way (Ok n) P Q X p q went stopped = went n p
either_way (Err e) P Q X p q went stopped = stopped e q

pub returns-in_err-put_text-clause-stops : goal.returns-in_err-put_text-clause-stops
returns-in_err-put_text-clause-stops g c =
    let p = err_from_is_err_and c.from_residual.result c.from_residual.ensures.1 in rw (p.1, p.2, c.in_err-put_text.ensures.only) (λ before given total at at_end.
    let D = g.D.Duplex in
    let old = D.taken c.args.ends.now in
    let new = D.taken c.put_text.new.ends in
    let talk = D.dialogue c.args.ends.now in
    let later = D.dialogue c.put_text.new.ends in
    let due = c.answer_all-answered.new.due.items in
    let bytes = c.args.bytes.now in
    let session = state c.answer_all-answered.new.session in
    let begins = subst (λ x. IsAt before given old talk x total bytes (state c.args.session.now) false) (sym c.new-due.ensures.items) at in
    let says = subst (λ x. (n : ℕ) × Says (take n x) old new talk later) c.deref.ensures.value c.in_err-put_text.ensures.says in
    either_way c.answer_all-answered.result (λ n. IsAt before given old talk due total (drop n bytes) session false) (λ e. (ended : Bool) → Stops e before given old talk due ended) (HasStopped SinkFailed before given new later at_end)
    (c.answer_all-answered.ensures.goes before given old talk total begins) (c.answer_all-answered.ensures.stops before given old talk total begins)
    (λ n there. stops_short before due given old new talk later total (drop n bytes) session false at_end there says)
    (λ e stops. let s = stops at_end in stops_short before due given old new talk later s.total s.left s.state s.over at_end s.at says))

pub returns-clause-goes : goal.returns-clause-goes
returns-clause-goes g c = λ before given total at.
    let D = g.D.Duplex in
    let old = D.taken c.args.ends.now in
    let new = D.taken c.put_text.new.ends in
    let talk = D.dialogue c.args.ends.now in
    let later = D.dialogue c.put_text.new.ends in
    let due = c.answer_all-answered.new.due.items in
    let bytes = c.args.bytes.now in
    let session = state c.answer_all-answered.new.session in
    let begins = subst (λ x. IsAt before given old talk x total bytes (state c.args.session.now) false) (sym c.new-due.ensures.items) at in
    let says = subst (λ x. Says x old new talk later) c.deref.ensures.value c.in_ok-put_text.ensures.says in
    IfOk-weaker c.answer_all-answered.result (λ n. IsAt before given old talk due total (drop n bytes) session false) (λ n. IsAt before given new later [] total (drop n bytes) session false)
    (λ n there. at_put before due given old new talk later total (drop n bytes) session false there says) (c.answer_all-answered.ensures.goes before given old talk total begins)

pub returns-clause-stops : goal.returns-clause-stops
returns-clause-stops g c = λ before given total at.
    let D = g.D.Duplex in
    let old = D.taken c.args.ends.now in
    let new = D.taken c.put_text.new.ends in
    let talk = D.dialogue c.args.ends.now in
    let later = D.dialogue c.put_text.new.ends in
    let due = c.answer_all-answered.new.due.items in
    let begins = subst (λ x. IsAt before given old talk x total c.args.bytes.now (state c.args.session.now) false) (sym c.new-due.ensures.items) at in
    let says = subst (λ x. Says x old new talk later) c.deref.ensures.value c.in_ok-put_text.ensures.says in
    IfErr-weaker c.answer_all-answered.result (λ e. (ended : Bool) → Stops e before given old talk due ended) (λ e. (ended : Bool) → HasStopped e before given new later ended)
    (λ e stops ended. stops_put e before due given old new talk later ended (stops ended) says) (c.answer_all-answered.ensures.stops before given old talk total begins)
