use Rattle.std.proofs.Common.{◌≡◌, ◌==◌, ◌&&◌, ◌+◌, ◌<◌, ◌++◌, ◌∷◌, [], false, map, refl, ap, ◌∙◌, sym, subst, Err, if◌then◌else◌, is_ok}
use Rattle.std.proofs.lemmas.List.{append-nil}
use Rattle.vx_ends.specs.Calls.{has_started}
use Rattle.vx_ends.specs.declared.piece.Start.{Start}
use Rattle.vx_ends.specs.declared.piece.Ending.{Ending}
use Rattle.vx_smt_meaning.specs.Views.{declared_symbol}
use Rattle.vx_dialogue.specs.Preamble.{preamble}
use Rattle.vx_dialogue.specs.Dialogue.{Stands}
use Rattle.vx_dialogue.specs.History.{Breaks}
use Rattle.vx_dialogue.specs.Steady.{IsSteady}
use Rattle.vx_dialogue.specs.declared.talk.Talk.TheVariants as talk
use Rattle.vx_live.specs.Functions.{function_symbols}
use Rattle.vx_verifier.specs.Outsets.{hub}
use Rattle.vx_verifier.proofs.Children.{talks, lost_start, unopened, above_none, rose_earlier}
use Rattle.vx_verifier.proofs.Held.{held_started, held_failed, held_wanting, held_unopened}
use Rattle.vx_verifier.proofs.Moved.{moved_start, moved_back, moved_more, other_owed}
use Rattle.vx_verifier.proofs.FunctionSymbols.{symbols_named}
use Rattle.vx_verifier.proofs.line.start.Goals as goal

pub returns-in-Err-Failed-clause-held : goal.returns-in-Err-Failed-clause-held
returns-in-Err-Failed-clause-held g c =
    let w = g.W.Spawner in
    let l = g.W.Link.Link in
    let old = c.args.spawner.now in
    let s : Start = record { lane = c.args.lane; command = c.args.command.now } in
    let r = c.in-Err-Failed.is ∙ ap Err c.in-Err-Failed.field-0-is in
    held_failed l.steady l.faults g.K.Begun.outset c.args.lane c.args.command.now (map declared_symbol c.args.functions.now)
    (hub w.starts w.owed w.ended w.faults w.steady old) (hub w.starts w.owed w.ended w.faults w.steady c.start.new.self)
    (c.start.ensures.starts ∙ ap (λ x. if has_started x then (w.starts old ++ s ∷ []) else w.starts old) r) c.start.ensures.ended
    (c.start.ensures.owed c.args.lane ∙ ap (λ x. w.owed old c.args.lane + (if is_ok x && (c.args.lane == c.args.lane) then 1 else 0)) r)
    c.start.ensures.cause.later c.start.ensures.fixed (λ steady. (c.start.ensures.steady steady).0.same) c.requires

pub returns-in-Err-Failed-clause-fault : goal.returns-in-Err-Failed-clause-fault
returns-in-Err-Failed-clause-fault g c = λ events q heard.
    let w = g.W.Spawner in
    lost_start g.W.Link.Link.dialogue g.K.Begun.outset c.args.lane
    (hub w.starts w.owed w.ended w.faults w.steady c.args.spawner.now) (hub w.starts w.owed w.ended w.faults w.steady c.start.new.self) q events c.start.ensures.ended
    (rose_earlier g.K.Begun.outset.first.faults (w.faults c.args.spawner.now) (w.faults c.start.new.self) (c.start.ensures.cause.rose (c.in-Err-Failed.is ∙ ap Err c.in-Err-Failed.field-0-is)) c.requires.faults) heard

pub returns-in-Err-Failed-clause-moved : goal.returns-in-Err-Failed-clause-moved
returns-in-Err-Failed-clause-moved g c =
    let w = g.W.Spawner in
    let old = c.args.spawner.now in
    let s : Start = record { lane = c.args.lane; command = c.args.command.now } in
    let r = c.in-Err-Failed.is ∙ ap Err c.in-Err-Failed.field-0-is in
    moved_start c.args.lane (hub w.starts w.owed w.ended w.faults w.steady old) (hub w.starts w.owed w.ended w.faults w.steady c.start.new.self) (s ∷ [])
    (c.start.ensures.starts ∙ ap (λ x. if has_started x then (w.starts old ++ s ∷ []) else w.starts old) r) (refl, tt) c.start.ensures.ended
    (λ n other. other_owed n c.args.lane (w.owed old n) (w.owed c.start.new.self n) (is_ok c.start.result) other (c.start.ensures.owed n))
    c.start.ensures.cause.later c.start.ensures.fixed (λ steady. (c.start.ensures.steady steady).0.same)

pub returns-in-Err-Want-clause-held : goal.returns-in-Err-Want-clause-held
returns-in-Err-Want-clause-held g c =
    let w = g.W.Spawner in
    let l = g.W.Link.Link in
    let old = c.args.spawner.now in
    let s : Start = record { lane = c.args.lane; command = c.args.command.now } in
    let r = c.in-Err-Want.is ∙ ap Err c.in-Err-Want.field-0-is in
    held_wanting l.steady l.faults g.K.Begun.outset c.args.lane c.args.command.now (map declared_symbol c.args.functions.now)
    (hub w.starts w.owed w.ended w.faults w.steady old) (hub w.starts w.owed w.ended w.faults w.steady c.start.new.self)
    (c.start.ensures.starts ∙ ap (λ x. if has_started x then (w.starts old ++ s ∷ []) else w.starts old) r) c.start.ensures.ended
    (c.start.ensures.owed c.args.lane ∙ ap (λ x. w.owed old c.args.lane + (if is_ok x && (c.args.lane == c.args.lane) then 1 else 0)) r)
    c.start.ensures.cause.later c.start.ensures.fixed (λ steady. (c.start.ensures.steady steady).0.same) c.requires

pub returns-in-Err-Want-clause-moved : goal.returns-in-Err-Want-clause-moved
returns-in-Err-Want-clause-moved g c =
    let w = g.W.Spawner in
    let old = c.args.spawner.now in
    let s : Start = record { lane = c.args.lane; command = c.args.command.now } in
    let r = c.in-Err-Want.is ∙ ap Err c.in-Err-Want.field-0-is in
    moved_start c.args.lane (hub w.starts w.owed w.ended w.faults w.steady old) (hub w.starts w.owed w.ended w.faults w.steady c.start.new.self) []
    (c.start.ensures.starts ∙ ap (λ x. if has_started x then (w.starts old ++ s ∷ []) else w.starts old) r ∙ sym (append-nil (w.starts old))) tt c.start.ensures.ended
    (λ n other. other_owed n c.args.lane (w.owed old n) (w.owed c.start.new.self n) (is_ok c.start.result) other (c.start.ensures.owed n))
    c.start.ensures.cause.later c.start.ensures.fixed (λ steady. (c.start.ensures.steady steady).0.same)

pub returns-in-Ok-open-clause-held : goal.returns-in-Ok-open-clause-held
returns-in-Ok-open-clause-held g c =
    let w = g.W.Spawner in
    let l = g.W.Link.Link in
    let old = c.args.spawner.now in
    let fs = map declared_symbol c.args.functions.now in
    let s : Start = record { lane = c.args.lane; command = c.args.command.now } in
    held_started l.steady l.faults g.K.Begun.outset c.args.lane c.args.command.now fs c.in-Ok-open.dialogue
    (hub w.starts w.owed w.ended w.faults w.steady old) (hub w.starts w.owed w.ended w.faults w.steady c.start.new.self)
    (c.start.ensures.starts ∙ ap (λ x. if has_started x then (w.starts old ++ s ∷ []) else w.starts old) c.in-Ok.is) c.start.ensures.ended
    (c.start.ensures.owed c.args.lane ∙ ap (λ x. w.owed old c.args.lane + (if is_ok x && (c.args.lane == c.args.lane) then 1 else 0)) c.in-Ok.is)
    c.start.ensures.cause.later c.start.ensures.fixed
    (λ steady.
    let link_is : IsSteady l.steady l.faults c.in-Ok.link = ((c.in-Ok.ensures.steady steady).1, c.in-Ok.ensures.fresh.1) in
    ((c.start.ensures.steady steady).0.same, c.in-Ok-open.ensures.steady link_is (symbols_named g.K.Begun.outset.program fs c.requires.functions_are))) c.requires

pub returns-in-Ok-open-clause-told : goal.returns-in-Ok-open-clause-told
returns-in-Ok-open-clause-told g c = λ events heard.
    let w = g.W.Spawner in
    let fs = map declared_symbol c.args.functions.now in
    let p = g.K.Begun.outset.program in
    talks g.W.Link.Link.dialogue g.K.Begun.outset c.args.lane (hub w.starts w.owed w.ended w.faults w.steady c.args.spawner.now) (hub w.starts w.owed w.ended w.faults w.steady c.start.new.self)
    c.in-Ok-open.dialogue events (subst (λ x. Stands g.W.Link.Link.dialogue false x [] c.in-Ok-open.dialogue []) c.requires.functions_are c.in-Ok-open.ensures.stands)
    (symbols_named p (function_symbols p) refl) c.in-Ok-open.ensures.free.0 c.in-Ok-open.ensures.free.1 c.in-Ok-open.ensures.free.2 c.start.ensures.ended heard

pub returns-in-Ok-open-clause-moved : goal.returns-in-Ok-open-clause-moved
returns-in-Ok-open-clause-moved g c =
    let w = g.W.Spawner in
    let old = c.args.spawner.now in
    let s : Start = record { lane = c.args.lane; command = c.args.command.now } in
    moved_start c.args.lane (hub w.starts w.owed w.ended w.faults w.steady old) (hub w.starts w.owed w.ended w.faults w.steady c.start.new.self) (s ∷ [])
    (c.start.ensures.starts ∙ ap (λ x. if has_started x then (w.starts old ++ s ∷ []) else w.starts old) c.in-Ok.is) (refl, tt) c.start.ensures.ended
    (λ n other. other_owed n c.args.lane (w.owed old n) (w.owed c.start.new.self n) (is_ok c.start.result) other (c.start.ensures.owed n))
    c.start.ensures.cause.later c.start.ensures.fixed (λ steady. (c.start.ensures.steady steady).0.same)

pub returns-in-Err-clause-held : goal.returns-in-Err-clause-held
returns-in-Err-clause-held g c =
    let w = g.W.Spawner in
    let l = g.W.Link.Link in
    let old = c.args.spawner.now in
    let fs = map declared_symbol c.args.functions.now in
    let s : Start = record { lane = c.args.lane; command = c.args.command.now } in
    let e : Ending = record { lane = c.args.lane; dialogue = l.dialogue c.in-Err.link; faults = l.faults c.in-Err.link } in
    held_unopened l.steady l.faults g.K.Begun.outset c.args.lane c.args.command.now fs
    (hub w.starts w.owed w.ended w.faults w.steady old) (hub w.starts w.owed w.ended w.faults w.steady c.start.new.self) (hub w.starts w.owed w.ended w.faults w.steady c.finish.new.self) e
    (c.start.ensures.starts ∙ ap (λ x. if has_started x then (w.starts old ++ s ∷ []) else w.starts old) c.in-Ok.is) c.start.ensures.ended
    (c.start.ensures.owed c.args.lane ∙ ap (λ x. w.owed old c.args.lane + (if is_ok x && (c.args.lane == c.args.lane) then 1 else 0)) c.in-Ok.is)
    c.start.ensures.cause.later c.start.ensures.fixed c.finish.ensures.ended refl c.finish.ensures.owed c.finish.ensures.starts c.finish.ensures.faults c.finish.ensures.fixed
    (λ steady.
    let link_is : IsSteady l.steady l.faults c.in-Ok.link = ((c.in-Ok.ensures.steady steady).1, c.in-Ok.ensures.fresh.1) in
    ((c.start.ensures.steady steady).0.same, (c.in-Err.ensures.steady link_is (symbols_named g.K.Begun.outset.program fs c.requires.functions_are)).1)) c.requires

pub returns-in-Err-clause-fault : goal.returns-in-Err-clause-fault
returns-in-Err-clause-fault g c =
    let w = g.W.Spawner in
    let l = g.W.Link.Link in
    let o = g.K.Begun.outset in
    let fs = map declared_symbol c.args.functions.now in
    let link = c.in-Err.link in
    let e : Ending = record { lane = c.args.lane; dialogue = l.dialogue link; faults = l.faults link } in
    let broken : Breaks c.in-Err.talk (preamble false (function_symbols o.program)) (l.dialogue link) [] =
    subst (λ x. Breaks c.in-Err.talk (preamble false x) (l.dialogue link) []) c.requires.functions_are (c.in-Err.ensures.fault (symbols_named o.program fs c.requires.functions_are)) in
    let rose : c.in-Err.talk ≡ talk.Pipe → 0 < l.faults link = λ h. above_none _ (l.faults link) (c.in-Err.ensures.cause.rose (ap Err h)) in
    unopened l.dialogue o c.args.lane (hub w.starts w.owed w.ended w.faults w.steady c.args.spawner.now) (hub w.starts w.owed w.ended w.faults w.steady c.finish.new.self) e c.in-Err.talk c.stop_of.result
    c.stop_of.ensures (c.finish.ensures.ended ∙ ap (λ x. x ++ e ∷ []) c.start.ensures.ended) refl broken rose c.in-Err.ensures.open

pub returns-in-Err-clause-moved : goal.returns-in-Err-clause-moved
returns-in-Err-clause-moved g c =
    let w = g.W.Spawner in
    let l = g.W.Link.Link in
    let old = c.args.spawner.now in
    let s : Start = record { lane = c.args.lane; command = c.args.command.now } in
    let e : Ending = record { lane = c.args.lane; dialogue = l.dialogue c.in-Err.link; faults = l.faults c.in-Err.link } in
    moved_more c.args.lane (hub w.starts w.owed w.ended w.faults w.steady old) (hub w.starts w.owed w.ended w.faults w.steady c.start.new.self) (hub w.starts w.owed w.ended w.faults w.steady c.finish.new.self)
    (moved_start c.args.lane (hub w.starts w.owed w.ended w.faults w.steady old) (hub w.starts w.owed w.ended w.faults w.steady c.start.new.self) (s ∷ [])
    (c.start.ensures.starts ∙ ap (λ x. if has_started x then (w.starts old ++ s ∷ []) else w.starts old) c.in-Ok.is) (refl, tt) c.start.ensures.ended
    (λ n other. other_owed n c.args.lane (w.owed old n) (w.owed c.start.new.self n) (is_ok c.start.result) other (c.start.ensures.owed n))
    c.start.ensures.cause.later c.start.ensures.fixed (λ steady. (c.start.ensures.steady steady).0.same))
    (moved_back c.args.lane (hub w.starts w.owed w.ended w.faults w.steady c.start.new.self) (hub w.starts w.owed w.ended w.faults w.steady c.finish.new.self) e
    c.finish.ensures.ended refl c.finish.ensures.owed c.finish.ensures.starts c.finish.ensures.faults c.finish.ensures.fixed)
