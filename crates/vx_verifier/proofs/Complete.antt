-- What follows where no count rose, all replies were lawful, or all were unsat.
use Rattle.std.proofs.Common.{◌≡◌, ℕ, zero, suc, ◌+◌, ◌<◌, ◌||◌, Bool, true, false, Some, slice_get, ◌++◌, ◌∷◌, [], List, length, refl, ap, ◌∙◌, sym, subst, append_assoc, length-append, arith}
use Rattle.vx_ast.specs.declared.Place.{Place}
use Rattle.vx_ast.specs.Syntax.{Program}
use Rattle.vx_terms.specs.Interpretations.{Each}
use Rattle.vx_smt_meaning.specs.Dialogues.{Check}
use Rattle.vx_smt_meaning.specs.declared.reply.Reply.{Reply}
use Rattle.vx_smt_meaning.specs.declared.reply.Reply.TheVariants.{Unsat, Sat, Unknown}
use Rattle.vx_ends.specs.declared.piece.Ending.{Ending}
use Rattle.vx_report.specs.declared.run.Cause.{Cause}
use Rattle.vx_report.specs.declared.run.Cause.TheVariants as cause
use Rattle.vx_report.specs.declared.run.Verdict.{Verdict}
use Rattle.vx_report.specs.declared.run.Verdict.TheVariants as verdict
use Rattle.vx_report.specs.declared.run.MemberRun.{MemberRun}
use Rattle.vx_report.specs.Reports.{is_faulted}
use Rattle.vx_rules.specs.Trees.{Ending as Ends, Tree, End, Impossible, On, Step, Ask, Probe, Fork, Walked, Failed, Code, walk_then, passed}
use Rattle.vx_rules.specs.Codes.{code}
use Rattle.vx_machine.specs.Runs.{member_tree}
use Rattle.vx_verifier.specs.Sequences.{AllUnsat, replies_to}
use Rattle.vx_verifier.specs.Causes.{LinkHas, IsUnlawful, IsLawful, HasCauseOf}
use Rattle.vx_ends.specs.Causes.{Rose}
use Rattle.vx_report.specs.Reports.{AreNamed}
use Rattle.vx_ast.specs.Syntax.{Member}
use Rattle.vx_ast.specs.declared.MemberId.{MemberId}
use Rattle.vx_types.specs.Closure.{itself}
use Rattle.vx_closure.specs.Leads.{LeadsTo}
use Rattle.vx_resting.specs.Resting.{has_passed, HoldsUp, IsHeldUpAs, AreRested}
use Rattle.vx_verifier.specs.Sequences.{IsIn}
use Rattle.vx_verifier.proofs.Sequences.{each_in, in_each}
use Rattle.vx_verifier.proofs.Closures.{Sequenced, first_is}
use Rattle.vx_verifier.specs.Headline.{IsVerdictOf, AreTold, HasNoFault, Under, sequence_of, walk_of}

-- ---- no cause of a fault

no_such : (links : List Ending) (P Q : Ending → Type 0) → Each Q links → ((e : Ending) → P e → Q e → ⊥) → LinkHas links P → ⊥
no_such links P Q each excludes has = excludes has.0 has.2 (subst (Each Q) has.1 each).0

not_above : (n : ℕ) → 0 < n → n ≡ 0 → ⊥
not_above n above none = omega arith

no_cause : (links : List Ending) (f g : ℕ) → (Rose f g → ⊥) → Each (λ (e : Ending). e.faults ≡ 0) links → Each (λ (e : Ending). IsLawful e.dialogue) links → (x : Cause) → HasCauseOf links f g false x → ⊥
no_cause links f g calm fine lawful cause.Pipe has = no_such links (λ e. 0 < e.faults) (λ e. e.faults ≡ 0) fine (λ e above none. not_above e.faults above none) has.1
no_cause links f g calm fine lawful cause.Start has = calm has.1
no_cause links f g calm fine lawful cause.Spent has = cc
no_cause links f g calm fine lawful (cause.Reply kept) has = no_such links (λ e. IsUnlawful e.dialogue kept) (λ e. IsLawful e.dialogue) lawful (λ e unlawful lawful'. lawful' kept unlawful) has.1

not_faulted : (C : Cause → Type 0) → ((x : Cause) → C x → ⊥) → (e : Ends) (asked : ℕ) (v : Verdict) → IsVerdictOf C e asked v → is_faulted v ≡ false
not_faulted C none e asked verdict.Verified has = refl
not_faulted C none e asked (verdict.Failed place c r) has = refl
not_faulted C none e asked (verdict.Rests m) has = refl
not_faulted C none e asked verdict.Limit has = refl
not_faulted C none e asked (verdict.Fault x) has = absurd (none x has.0)

module _ (p : Program) (links : List Ending) (f g lane : ℕ) (calm : Rose f g → ⊥) (fine : Each (λ (e : Ending). e.faults ≡ 0) links) (lawful : Each (λ (e : Ending). IsLawful e.dialogue) links) where
  pub none_faulted : (first : ℕ) (runs : List MemberRun) (checks : List Check) → AreTold p links f g lane false first runs checks → HasNoFault runs
  none_faulted first [] checks told = tt
  none_faulted first (r ∷ runs) checks told =
      let none = no_cause links f g calm fine lawful in
      let here = not_faulted (HasCauseOf links f g false) none (walk_of p r.member.0 told.0).ending (length told.0) r.verdict told.3.told.verdict in (
        here,
        none_faulted (first + length told.0) runs told.1 (subst (λ b. AreTold p links f g lane b (first + length told.0) runs told.1) here told.4),
      )

-- ---- by unsat alone no walk fails

abbrev AreUnsat : List Reply → Type 0
AreUnsat rs = Each (λ (r : Reply). r ≡ Unsat) rs

abbrev NeverFails : (List Reply → Walked) → Type 0
NeverFails next = (rs : List Reply) → AreUnsat rs → (place : Place) (c : Code) (r : Reply) → (next rs).ending ≡ Failed place c r → ⊥

ask_never : (q : _) (t : Tree) (next : List Reply → Walked) → NeverFails (walk_then t next) → NeverFails (walk_then (Ask q t) next)
ask_never q t next e [] all place c r is = cc
ask_never q t next e (Unsat ∷ rs) all place c r is = e rs all.1 place c r is
ask_never q t next e (Sat ∷ rs) all place c r is = let h = all.0 in cc
ask_never q t next e (Unknown ∷ rs) all place c r is = let h = all.0 in cc

probe_never : (q : _) (a b : Tree) (next : List Reply → Walked) → NeverFails (walk_then a next) → NeverFails (walk_then (Probe q a b) next)
probe_never q a b next e [] all place c r is = cc
probe_never q a b next e (Unsat ∷ rs) all place c r is = e rs all.1 place c r is
probe_never q a b next e (Sat ∷ rs) all place c r is = let h = all.0 in cc
probe_never q a b next e (Unknown ∷ rs) all place c r is = let h = all.0 in cc

through : (t : Tree) (next : List Reply → Walked) → NeverFails next → NeverFails (walk_then t next)
through End next e = e
through (Impossible s) next e = e
through (On t s) next e = e
through (Step t) next e = through t next e
through (Ask q t) next e = ask_never q t next (through t next e)
through (Probe q a b) next e = probe_never q a b next (through a next e)
through (Fork a b) next e = through a (walk_then b next) (through b next e)

passed_never : NeverFails passed
passed_never rs all place c r is = cc

unsat_replies : (cs : List Check) → AllUnsat cs → AreUnsat (replies_to cs)
unsat_replies [] all = tt
unsat_replies (c ∷ cs) all = rw all.0 (refl, unsat_replies cs all.1)

by_unsat : (C : Cause → Type 0) (e : Ends) (asked : ℕ) (v : Verdict) → IsVerdictOf C e asked v → ((place : Place) (c : Code) (r : Reply) → e ≡ Failed place c r → ⊥)
    → is_faulted v ≡ false → (v ≡ verdict.Limit → ⊥) → has_passed v ≡ true
by_unsat C e asked verdict.Verified has never fine below = refl
by_unsat C e asked (verdict.Failed place c r) has never fine below = absurd (never place (code c) r has)
by_unsat C e asked (verdict.Rests m) has never fine below = refl
by_unsat C e asked verdict.Limit has never fine below = absurd (below refl)
by_unsat C e asked (verdict.Fault x) has never fine below = cc

-- ---- a run whose checks were all answered unsat passed

pub has_passed_by : (p : Program) (links : List Ending) (f g lane : ℕ) (all : (lane : ℕ) → List Check) (r : MemberRun) → Sequenced p links f g lane all r → is_faulted r.verdict ≡ false
    → (r.verdict ≡ verdict.Limit → ⊥) → AllUnsat (sequence_of r all) → has_passed r.verdict ≡ true
has_passed_by p links f g lane all r s fine below unsat =
    by_unsat (HasCauseOf links f g s.lost) (walk_of p r.member.0 s.own).ending (length s.own) r.verdict s.told.verdict
    (through (member_tree p r.member.0) passed passed_never (replies_to s.own) (unsat_replies s.own (subst AllUnsat s.mine unsat))) fine below

-- ---- where nothing holds a member up, it is verified

verified_by : (v : Verdict) → has_passed v ≡ true → ((m : MemberId) → v ≡ verdict.Rests m → ⊥) → v ≡ verdict.Verified
verified_by verdict.Verified passed none = refl
verified_by (verdict.Failed place c r) passed none = cc
verified_by (verdict.Rests m) passed none = absurd (none m refl)
verified_by verdict.Limit passed none = cc
verified_by (verdict.Fault x) passed none = cc

not_both : (v : Verdict) → has_passed v ≡ true → has_passed v ≡ false → ⊥
not_both v passed not = cc

-- each member leads to itself
leads_to_itself : (p : Program) (n : ℕ) (x : Member) → slice_get p n ≡ Some x → LeadsTo p n n
leads_to_itself p n x at = (x, x, at, at, itself)

member_at : (p : Program) (n : ℕ) → n < length p → (x : Member) × (slice_get p n ≡ Some x)
member_at [] n below = absurd (omega arith)
member_at (m ∷ p) zero below = (m, refl)
member_at (m ∷ p) (suc n) below = member_at p n (omega arith)

named_each : (p : Program) (runs : List MemberRun) → AreNamed p runs → Each (λ (r : MemberRun). r.member.0 < length p) runs
named_each p [] named = tt
named_each p (r ∷ runs) named = (named zero r (omega arith), named_each p runs (λ n d below. named (suc n) d (let k = below in omega arith)))

module _ (p : Program) (all : (lane : ℕ) → List Check) (runs : List MemberRun) (rested : AreRested p runs) (named : AreNamed p runs)
    (passing : Each (λ (r : MemberRun). AllUnsat (sequence_of r all) → has_passed r.verdict ≡ true) runs) where
  passes : (n : ℕ) → Under AllUnsat p n runs all → (q : MemberRun) → IsIn q runs → LeadsTo p n q.member.0 → has_passed q.verdict ≡ true
  passes n unsat q inside leads =
      each_in (λ (r : MemberRun). AllUnsat (sequence_of r all) → has_passed r.verdict ≡ true) runs q passing inside
      (each_in (λ (r : MemberRun). LeadsTo p n r.member.0 → AllUnsat (sequence_of r all)) runs q unsat inside leads)

  is_verified : (r : MemberRun) → IsIn r runs → Under AllUnsat p r.member.0 runs all → r.verdict ≡ verdict.Verified
  is_verified r inside unsat =
      let n = r.member.0 in
      let here = member_at p n (each_in (λ (q : MemberRun). q.member.0 < length p) runs r (named_each p runs named) inside) in
      verified_by r.verdict (passes n unsat r inside (leads_to_itself p n here.0 here.1)) (λ m rests.
      let held = subst (IsHeldUpAs p n runs) rests (each_in (λ (q : MemberRun). IsHeldUpAs p q.member.0 runs q.verdict) runs r rested inside) in
      let found = first_is (HoldsUp p n) runs m held in
      not_both found.0.verdict (passes n unsat found.0 found.1 found.2.0) found.2.1)

-- so each member is verified
pub all_verified : (p : Program) (all : (lane : ℕ) → List Check) (runs : List MemberRun) → AreRested p runs → AreNamed p runs
    → Each (λ (r : MemberRun). AllUnsat (sequence_of r all) → has_passed r.verdict ≡ true) runs → Each (λ (r : MemberRun). Under AllUnsat p r.member.0 runs all → r.verdict ≡ verdict.Verified) runs
all_verified p all runs rested named passing =
    in_each (λ (r : MemberRun). Under AllUnsat p r.member.0 runs all → r.verdict ≡ verdict.Verified) runs (λ r inside unsat. is_verified p all runs rested named passing r inside unsat)
