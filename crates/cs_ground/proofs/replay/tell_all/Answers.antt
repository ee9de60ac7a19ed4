use Rattle.std.proofs.Common.{rules, ◌≡◌, ◌<◌, ◌+◌, [], ◌∷◌, ◌++◌, refl, sym, ◌∙◌, ap, subst, length, take, arith}
use Rattle.std.specs.List.{All}
use Rattle.std.proofs.lemmas.Option.{slice_get_read}
use Rattle.cs_certificate.specs.Certificate.{At}
use Rattle.cs_certificate.specs.declared.literal.Clause.{Clause}
use Rattle.cs_derivation.specs.Reached.{state_of}
use Rattle.cs_derivation.specs.View.{reached}
use Rattle.cs_ground.specs.Atoms.{literals}
use Rattle.cs_ground.specs.Replayed.{Follows, IsLearned}
use Rattle.cs_ground.proofs.Learned.{counted, begins, within, is_learned, goes_on, ends}
use Rattle.cs_ground.proofs.replay.tell_all.Goals as goal

pub loop-hints-init : goal.loop-hints-init
loop-hints-init c = λ stack first f l. begins stack c.args.atoms.now first c.args.clauses.now c.args.steps.now c.requires l (reached c.args.derivation.now) f

pub returns-then-next-clauses : goal.returns-then-next-clauses
returns-then-next-clauses c = λ stack first f l.
    let n = length c.clauses-next.result.now in
    let count : n ≡ length (state_of (reached c.loop-hints.derivation)).clauses = ap length c.clauses-next.ensures ∙ counted c.loop-hints.derivation in
    let lt : n < length c.args.clauses.now = within stack c.args.atoms.now first c.args.clauses.now c.args.steps.now c.requires l c.loop-hints.hints-index (reached c.loop-hints.derivation) (c.loop-hints.invariant stack first f l) n count c.loop-hints-test.true in
    let past = c.if-next-clauses.true in
    absurd (omega arith)

pub tell-requires : goal.tell-requires
tell-requires c =
    let n = length c.clauses-next.result.now in
    let x = c.index-clauses-next.result in
    let at : At c.args.clauses.now n x = slice_get_read c.args.clauses.now (length c.args.clauses.now) n x refl c.if-next-clauses.false c.index-clauses-next.is in
    subst (All (λ l. l.number < length c.args.atoms.now)) (sym (c.deref.ensures.value ∙ ap (λ (y : Clause). y.literals.items) (sym c.index-clauses-next.is))) (c.requires n x at)

pub loop-hints-preserved : goal.loop-hints-preserved
loop-hints-preserved c = λ stack first f l.
    let n = length c.clauses-next.result.now in
    let x = c.index-clauses-next.result in
    let i = c.loop-hints.hints-index in
    let h = c.hints-item.result in
    let r = reached c.loop-hints.derivation in
    let was = c.loop-hints.invariant stack first f l in
    let at : At c.args.clauses.now n x = slice_get_read c.args.clauses.now (length c.args.clauses.now) n x refl c.if-next-clauses.false c.index-clauses-next.is in
    let hat : At c.args.steps.now i h = slice_get_read c.args.steps.now (length c.args.steps.now) i h refl c.loop-hints-test.true c.hints-item.is in
    let count : n ≡ length (state_of r).clauses = ap length c.clauses-next.ensures ∙ counted c.loop-hints.derivation in
    let learned = is_learned stack c.args.atoms.now first c.args.clauses.now c.args.steps.now c.requires l i r was n count c.loop-hints-test.true x at h hat in
    let told = c.in_ok-tell.ensures stack (take (length first + i) c.args.clauses.now) was (subst (λ ks. IsLearned c.args.atoms.now (take (length first + i) c.args.clauses.now) ks h.numbers.items) (sym (c.deref.ensures.value ∙ ap (λ (y : Clause). y.literals.items) (sym c.index-clauses-next.is))) learned) in
    goes_on stack c.args.atoms.now first c.args.clauses.now c.args.steps.now c.requires l i r was n count c.loop-hints-test.true x at h hat (reached c.tell.new.derivation)
    (subst (λ ks. Follows stack c.args.atoms.now (literals (take (length first + i) c.args.clauses.now) ++ ks ∷ []) (reached c.tell.new.derivation)) (c.deref.ensures.value ∙ ap (λ (y : Clause). y.literals.items) (sym c.index-clauses-next.is)) told)

pub returns-in_err-tell : goal.returns-in_err-tell
returns-in_err-tell c = λ stack first f l.
    let n = length c.clauses-next.result.now in
    let x = c.index-clauses-next.result in
    let i = c.loop-hints.hints-index in
    let h = c.hints-item.result in
    let r = reached c.loop-hints.derivation in
    let was = c.loop-hints.invariant stack first f l in
    let at : At c.args.clauses.now n x = slice_get_read c.args.clauses.now (length c.args.clauses.now) n x refl c.if-next-clauses.false c.index-clauses-next.is in
    let hat : At c.args.steps.now i h = slice_get_read c.args.steps.now (length c.args.steps.now) i h refl c.loop-hints-test.true c.hints-item.is in
    let count : n ≡ length (state_of r).clauses = ap length c.clauses-next.ensures ∙ counted c.loop-hints.derivation in
    let learned = is_learned stack c.args.atoms.now first c.args.clauses.now c.args.steps.now c.requires l i r was n count c.loop-hints-test.true x at h hat in
    let told = c.in_err-tell.ensures stack (take (length first + i) c.args.clauses.now) was (subst (λ ks. IsLearned c.args.atoms.now (take (length first + i) c.args.clauses.now) ks h.numbers.items) (sym (c.deref.ensures.value ∙ ap (λ (y : Clause). y.literals.items) (sym c.index-clauses-next.is))) learned) in
    search rules

pub returns : goal.returns
returns c = λ stack first f l.
    ends stack c.args.atoms.now first c.args.clauses.now c.args.steps.now c.requires l c.loop-hints.hints-index (reached c.loop-hints.derivation) c.loop-hints-test.false (c.loop-hints.invariant stack first f l)
