-- What holds of each question of the members' trees holds of what a lane's child is asked.
use Rattle.std.proofs.Common.{◌≡◌, ℕ, ◌+◌, ◌||◌, Bool, true, false, ◌++◌, ◌∷◌, [], List, length, take, drop, refl, ap, ◌∙◌, sym, subst, append_assoc, if◌then◌else◌}
use Rattle.vx_ast.specs.Syntax.{Program}
use Rattle.vx_terms.specs.Terms.{Term}
use Rattle.vx_terms.specs.Interpretations.{Each}
use Rattle.vx_smt_meaning.specs.Dialogues.{Check}
use Rattle.vx_smt_meaning.specs.declared.reply.Reply.{Reply}
use Rattle.vx_smt_meaning.specs.declared.reply.Reply.TheVariants.{Unsat, Sat, Unknown}
use Rattle.vx_ends.specs.declared.piece.Ending.{Ending}
use Rattle.vx_dialogue.specs.Turns.{Turn, Leaves}
use Rattle.vx_dialogue.specs.Askable.{AreTurns}
use Rattle.vx_rules.specs.Trees.{Question, Answered, Ending as Ends, Passed, Failed, Open, Tree, End, Impossible, On, Step, Ask, Probe, Fork, Walked, walk_then, asked, probed, passed}
use Rattle.vx_machine.specs.Runs.{member_tree}
use Rattle.vx_report.specs.declared.run.Verdict.{Verdict}
use Rattle.vx_report.specs.declared.run.MemberRun.{MemberRun}
use Rattle.vx_report.specs.Reports.{is_faulted}
use Rattle.vx_verifier.specs.Sequences.{replies_to}
use Rattle.vx_verifier.specs.Headline.{AreTold, asks_of, open_turn, failed_turn, left_turn, member_turns, turns_of, walk_of}
use Rattle.vx_verifier.proofs.Runs.{own_front}
use Rattle.vx_verifier.proofs.Walks.{walk_extends}

module _ (P : List Term → Term → Type 0) where
  abbrev pub AllAsk : Tree → Type 0
  AllAsk End = Unit {0}
  AllAsk (Impossible s) = Unit {0}
  AllAsk (On t s) = Unit {0}
  AllAsk (Step t) = AllAsk t
  AllAsk (Ask q t) = P q.path q.condition × AllAsk t
  AllAsk (Probe q a b) = P q.path q.condition × AllAsk a × AllAsk b
  AllAsk (Fork a b) = AllAsk a × AllAsk b

  -- ---- the questions that a walk meets

  abbrev IsOpenAskable : Ends → Type 0
  IsOpenAskable (Open q) = P q.path q.condition
  IsOpenAskable Passed = Unit {0}
  IsOpenAskable (Failed place c r) = Unit {0}

  record MeetsAskable (w : Walked) : Type 0 where
    answered : Each (λ (a : Answered). P a.question.path a.question.condition) w.answered
    last : IsOpenAskable w.ending

  asked_askable : (q : Question) (r : Reply) (w : Walked) → P q.path q.condition → MeetsAskable w → MeetsAskable (asked q r w)
  asked_askable q Unsat w h e = record { answered = (h, e.answered); last = e.last }
  asked_askable q Sat w h e = record { answered = (h, tt); last = tt }
  asked_askable q Unknown w h e = record { answered = (h, tt); last = tt }

  probed_askable : (q : Question) (r : Reply) (v w : Walked) → P q.path q.condition → MeetsAskable v → MeetsAskable w → MeetsAskable (probed q r v w)
  probed_askable q Unsat v w h e f = record { answered = (h, e.answered); last = e.last }
  probed_askable q Sat v w h e f = record { answered = (h, f.answered); last = f.last }
  probed_askable q Unknown v w h e f = record { answered = (h, f.answered); last = f.last }

  through : (t : Tree) (next : List Reply → Walked) → AllAsk t → ((rs : List Reply) → MeetsAskable (next rs)) → (rs : List Reply) → MeetsAskable (walk_then t next rs)
  through End next all e rs = e rs
  through (Impossible s) next all e rs = e rs
  through (On t s) next all e rs = e rs
  through (Step t) next all e rs = through t next all e rs
  through (Fork a b) next all e rs = through a (walk_then b next) all.0 (through b next all.1 e) rs
  through (Ask q t) next all e [] = record { answered = tt; last = all.0 }
  through (Ask q t) next all e (r ∷ rs) = asked_askable q r (walk_then t next rs) all.0 (through t next all.1 e rs)
  through (Probe q a b) next all e [] = record { answered = tt; last = all.0 }
  through (Probe q a b) next all e (r ∷ rs) =
      probed_askable q r (walk_then a next rs) (walk_then b next rs) all.0 (through a next all.1 e rs) (through b next all.2 e rs)

  -- ---- the turns of one member, and then those behind it

  asks_askable : (as' : List Answered) (rest : List Turn) → Each (λ (a : Answered). P a.question.path a.question.condition) as' → AreTurns P rest → AreTurns P (asks_of as' ++ rest)
  asks_askable [] rest each askable = askable
  asks_askable (a ∷ as') rest each askable = (each.0, asks_askable as' rest each.1 askable)

  open_askable : (e : Ends) (rest : List Turn) → IsOpenAskable e → rest ≡ [] → AreTurns P (open_turn e ++ rest)
  open_askable (Open q) rest h none = (h, none)
  open_askable Passed rest h none = subst (AreTurns P) (sym none) tt
  open_askable (Failed place c r) rest h none = subst (AreTurns P) (sym none) tt

  last_askable : (lost b : Bool) (e : Ends) (rest : List Turn) → IsOpenAskable e → AreTurns P rest → ((lost || b) ≡ true → rest ≡ []) → (f : List Turn)
      → (lost ≡ true → f ≡ []) → (lost ≡ false → f ≡ (if b then open_turn e else [])) → AreTurns P (f ++ (left_turn (lost || b) ++ rest))
  last_askable true b e rest h askable none f gone here = subst (λ x. AreTurns P (x ++ rest)) (sym (gone refl)) askable
  last_askable false true e rest h askable none f gone here = subst (λ x. AreTurns P (x ++ rest)) (sym (here refl)) (open_askable e rest h (none refl))
  last_askable false false e rest h askable none f gone here = subst (λ x. AreTurns P (x ++ (Leaves ∷ rest))) (sym (here refl)) askable

  failed_gone : (lost : Bool) (e : Ends) (v : Verdict) → lost ≡ true → failed_turn lost e v ≡ []
  failed_gone true e v is = refl
  failed_gone false e v is = cc

  failed_here : (lost : Bool) (e : Ends) (v : Verdict) → lost ≡ false → failed_turn lost e v ≡ (if is_faulted v then open_turn e else [])
  failed_here true e v is = cc
  failed_here false e v is = refl

module _ (P : List Term → Term → Type 0) (p : Program) (links : List Ending) (f g lane : ℕ) where
  -- behind a fault nothing is asked
  silent : (first : ℕ) (runs : List MemberRun) (checks : List Check) → AreTold p links f g lane true first runs checks → turns_of true p runs checks ≡ []
  silent first [] checks told = refl
  silent first (r ∷ runs) checks told =
      let front = own_front r.checks checks told.0 told.1 told.2 told.3.count in
      let none : take r.checks checks ≡ [] = front.0 ∙ told.3.spent.0 in
      let here : member_turns true p r.member.0 (take r.checks checks) r.verdict ≡ [] =
      ap (λ x. member_turns true p r.member.0 x r.verdict) none ∙ ap (λ x. (asks_of x ++ []) ++ []) (walk_extends (member_tree p r.member.0)).none in
      ap (λ x. x ++ turns_of true p runs (drop r.checks checks)) here ∙ (ap (turns_of true p runs) front.1 ∙ silent (first + length told.0) runs told.1 told.4)

  pub turns_ask : ((k : ℕ) → AllAsk P (member_tree p k)) → (lost : Bool) (first : ℕ) (runs : List MemberRun) (checks : List Check)
      → AreTold p links f g lane lost first runs checks → AreTurns P (turns_of lost p runs checks)
  turns_ask all lost first [] checks told = tt
  turns_ask all lost first (r ∷ runs) checks told =
      let n = r.member.0 in
      let front = own_front r.checks checks told.0 told.1 told.2 told.3.count in
      let gone = lost || is_faulted r.verdict in
      let w = walk_of p n (take r.checks checks) in
      let rest = turns_of gone p runs (drop r.checks checks) in
      let met : MeetsAskable P w = through P (member_tree p n) passed (all n) (λ rs. record { answered = tt; last = tt }) (replies_to (take r.checks checks)) in
      let later : AreTurns P rest = subst (λ x. AreTurns P (turns_of gone p runs x)) (sym front.1) (turns_ask all gone (first + length told.0) runs told.1 told.4) in
      let none : gone ≡ true → rest ≡ [] = λ is.
      ap (λ b. turns_of b p runs (drop r.checks checks)) is ∙ (ap (turns_of true p runs) front.1
      ∙ silent (first + length told.0) runs told.1 (subst (λ b. AreTold p links f g lane b (first + length told.0) runs told.1) is told.4)) in
      let failed = failed_turn lost w.ending r.verdict in
      let ends = last_askable P lost (is_faulted r.verdict) w.ending rest met.last later none failed (failed_gone P lost w.ending r.verdict) (failed_here P lost w.ending r.verdict) in
      subst (AreTurns P) (sym (append_assoc (asks_of w.answered ++ failed) (left_turn gone) rest ∙ append_assoc (asks_of w.answered) failed (left_turn gone ++ rest)))
      (asks_askable P w.answered (failed ++ (left_turn gone ++ rest)) met.answered ends)
