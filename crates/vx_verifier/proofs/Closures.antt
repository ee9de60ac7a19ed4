-- Of the runs of a program's members: those that a member leads to, and what follows where all of these passed.
use Rattle.std.proofs.Common.{◌≡◌, inl, inr, ◌⊎◌, ℕ, zero, suc, ◌+◌, ◌||◌, nat_eq, Bool, true, false, cond, ◌++◌, ◌∷◌, [], List, Option, Some, None, length, take, drop, slice_get, refl, ap, ◌∙◌, sym, subst, append_assoc, length-append, arith, eq-eqb, eqb-true}
use Rattle.std.specs.Prelude.{if◌then◌else◌}
use Rattle.vx_ast.specs.declared.MemberId.{MemberId}
use Rattle.vx_ast.specs.declared.Place.{Place}
use Rattle.vx_ast.specs.Syntax.{Name, same_name, Program, Member, Kind, IsField, IsPredicate, IsFunction, IsMethod, member_named}
use Rattle.vx_terms.specs.Interpretations.{Each}
use Rattle.vx_smt_meaning.specs.Dialogues.{Check}
use Rattle.vx_smt_meaning.specs.declared.reply.Reply.{Reply}
use Rattle.vx_smt_meaning.specs.declared.reply.Reply.TheVariants.{Sat}
use Rattle.vx_ends.specs.declared.piece.Ending.{Ending}
use Rattle.vx_resolved.specs.Numbers.{number_named}
use Rattle.vx_report.specs.declared.run.Cause.{Cause}
use Rattle.vx_report.specs.declared.run.Verdict.{Verdict}
use Rattle.vx_report.specs.declared.run.Verdict.TheVariants as verdict
use Rattle.vx_report.specs.declared.run.MemberRun.{MemberRun}
use Rattle.vx_report.specs.Reports.{is_faulted}
use Rattle.vx_rules.specs.Trees.{Ending as Ends, Passed, Failed, walk}
use Rattle.vx_rules.specs.declared.code.Code.{Code}
use Rattle.vx_rules.specs.Codes.{code}
use Rattle.vx_rules.specs.Members.{tree}
use Rattle.vx_machine.specs.Runs.{tree_of, member_tree}
use Rattle.vx_types.specs.Closure.{InClosure}
use Rattle.vx_sound.specs.Law.{Passes}
use Rattle.vx_law.specs.Law.{MembersAreSound}
use Rattle.vx_settled.proofs.TypedNames.{same_is}
use Rattle.vx_closure.specs.Leads.{LeadsTo}
use Rattle.vx_resting.specs.Resting.{has_passed, HoldsUp, IsFirst, IsHeldUpAs, AreRested}
use Rattle.vx_verifier.specs.Sequences.{IsIn, AreChecksOf, replies_to, IsRight}
use Rattle.vx_verifier.specs.Causes.{HasCauseOf}
use Rattle.vx_verifier.specs.Lines.{has_line, lines_from, lines}
use Rattle.vx_verifier.specs.Headline.{IsWhole, NeverFails, IsVerdictOf, IsTold, AreTold, Under, AreSound, members_of, sequence_of, walk_of}
use Rattle.vx_verifier.proofs.Runs.{take_front, drop_front}
use Rattle.vx_verifier.proofs.Sequences.{each_in, in_each, all_right}

-- ---- the first run that holds a member up

pub first_is : (P : MemberRun → Type 0) (runs : List MemberRun) (m : MemberId) → IsFirst P runs (Some m) → (q : MemberRun) × IsIn q runs × P q
first_is P [] m first = (cc)
first_is P (r ∷ runs) m (inl here) = (r, inl refl, here.0)
first_is P (r ∷ runs) m (inr later) = let found = first_is P runs m later.1 in (found.0, inr found.1, found.2)

pub none_is : (P : MemberRun → Type 0) (runs : List MemberRun) (q : MemberRun) → IsFirst P runs None → IsIn q runs → P q → ⊥
none_is P [] q first inside holds = inside
none_is P (r ∷ runs) q (inl here) inside holds = let e = here.1 in (cc)
none_is P (r ∷ runs) q (inr later) (inl same) holds = later.0 (subst P same holds)
none_is P (r ∷ runs) q (inr later) (inr inside) holds = none_is P runs q later.1 inside holds

-- ---- the checks of a run among all

own_sequence : (r : MemberRun) (all : (lane : ℕ) → List Check) (done own rest : List Check) → all r.lane ≡ done ++ (own ++ rest) → r.first ≡ length done → length own ≡ r.checks → sequence_of r all ≡ own
own_sequence r all done own rest is first count =
    ap (λ x. take r.checks (drop r.first x)) is
    ∙ (ap (λ k. take k (drop r.first (done ++ (own ++ rest)))) (sym count)
    ∙ (ap (λ k. take (length own) (drop k (done ++ (own ++ rest)))) first ∙ (ap (take (length own)) (drop_front done (own ++ rest)) ∙ take_front own rest)))

-- a run's checks are its walk's, and where its verdict says that the walk passed, or failed by a sat, it did
pub record IsWalked (p : Program) (all : (lane : ℕ) → List Check) (r : MemberRun) : Type 0 where
  pub checks : AreChecksOf (walk_of p r.member.0 (sequence_of r all)).answered (sequence_of r all)
  pub passed : has_passed r.verdict ≡ true → (walk_of p r.member.0 (sequence_of r all)).ending ≡ Passed
  pub failed : (at : Place) (c : Code) → r.verdict ≡ verdict.Failed at c Sat → (walk_of p r.member.0 (sequence_of r all)).ending ≡ Failed at (code c) Sat

passed_by : (C : Cause → Type 0) (e : Ends) (asked : ℕ) (v : Verdict) → IsVerdictOf C e asked v → has_passed v ≡ true → e ≡ Passed
passed_by C e asked verdict.Verified has passed = has
passed_by C e asked (verdict.Rests m) has passed = has
passed_by C e asked (verdict.Failed at c r) has passed = (cc)
passed_by C e asked verdict.Limit has passed = (cc)
passed_by C e asked (verdict.Fault c) has passed = (cc)

told_walked : (p : Program) (C : Cause → Type 0) (all : (lane : ℕ) → List Check) (own : List Check) (r : MemberRun) → sequence_of r all ≡ own → IsTold p r.member.0 C own r.verdict → IsWalked p all r
told_walked p C all own r mine told = record {
  checks = subst (λ cs. AreChecksOf (walk_of p r.member.0 cs).answered cs) (sym mine) told.checks;
  passed = λ has. subst (λ cs. (walk_of p r.member.0 cs).ending ≡ Passed) (sym mine) (passed_by C (walk_of p r.member.0 own).ending (length own) r.verdict told.verdict has);
  failed = λ at c is. subst (λ cs. (walk_of p r.member.0 cs).ending ≡ Failed at (code c) Sat) (sym mine) (subst (IsVerdictOf C (walk_of p r.member.0 own).ending (length own)) is told.verdict);
}

-- so it is with each run of a lane that is told
module _ (p : Program) (links : List Ending) (f g lane : ℕ) (all : (lane : ℕ) → List Check) where
  -- the checks of each are its own sequence
  pub record Sequenced (r : MemberRun) : Type 0 where
    pub lost : Bool
    pub own : List Check
    pub mine : sequence_of r all ≡ own
    pub told : IsTold p r.member.0 (HasCauseOf links f g lost) own r.verdict

  sequenced_by : (lost : Bool) (first : ℕ) (runs : List MemberRun) (done checks : List Check) → all lane ≡ done ++ checks → first ≡ length done
      → AreTold p links f g lane lost first runs checks → Each Sequenced runs
  sequenced_by lost first [] done checks is place told = tt
  sequenced_by lost first (r ∷ runs) done checks is place told =
      let own = told.0 in
      let whole : all lane ≡ done ++ (own ++ told.1) = is ∙ ap (λ x. done ++ x) told.2 in
      let mine : sequence_of r all ≡ own = own_sequence r all done own told.1 (ap all told.3.own_lane ∙ whole) (told.3.first_is ∙ place) told.3.count in
      let longer = length-append done own in (
        record { lost = lost; own = own; mine = mine; told = told.3.told },
        sequenced_by (lost || is_faulted r.verdict) (first + length own) runs (done ++ own) told.1 (whole ∙ sym (append_assoc done own told.1)) (omega arith) told.4,
      )

  pub sequenced : (runs : List MemberRun) → AreTold p links f g lane false 0 runs (all lane) → Each Sequenced runs
  sequenced runs told = sequenced_by false 0 runs [] (all lane) refl refl told

  pub is_walked : (r : MemberRun) → Sequenced r → IsWalked p all r
  is_walked r s = told_walked p (HasCauseOf links f g s.lost) all s.own r s.mine s.told

-- ---- members by number

-- the first member of a name, where numbers go from `start` on
pub record Numbered (start : ℕ) (p : Program) (y : Name) (l : Kind) : Type 0 where
  pub number : ℕ
  pub member : Member
  pub found : number_named start p y ≡ Some (start + number)
  pub at : slice_get p number ≡ Some member
  pub kind : member.kind ≡ l
  pub name : member.name ≡ y

pub numbered : (start : ℕ) (p : Program) (y : Name) (l : Kind) → member_named p y ≡ Some l → Numbered start p y l
numbered start [] y l e = (cc)
numbered start (m ∷ p) y l e = go (same_name y m.name) refl e (numbered (suc start) p y l)
  where
    some_is : {a b : Kind} → (let o : Option Kind = Some a in o) ≡ Some b → a ≡ b
    some_is e = (cc)

    go : (b : Bool) → same_name y m.name ≡ b → (elim b as (λ c. Option Kind) [ true ↦ Some m.kind | false ↦ member_named p y ]) ≡ Some l
        → (member_named p y ≡ Some l → Numbered (suc start) p y l) → Numbered start (m ∷ p) y l
    go true same e later = record {
      number = 0;
      member = m;
      found = let k : start ≡ start + 0 = omega arith in ap (λ (b : Bool). cond b (Some start) (number_named (suc start) p y)) same ∙ ap (λ (j : ℕ). Some j) k;
      at = refl;
      kind = some_is e;
      name = sym (same_is y m.name same);
    }
    go false same e later =
        let rest = later e in
        let n = rest.number in
        let k : suc start + n ≡ start + suc n = omega arith in
        record {
          number = suc n;
          member = rest.member;
          found = ap (λ (b : Bool). cond b (Some start) (number_named (suc start) p y)) same ∙ (rest.found ∙ ap (λ (j : ℕ). Some j) k);
          at = rest.at;
          kind = rest.kind;
          name = rest.name;
        }

-- a member that has a line has a run
pub line_in : (start : ℕ) (p : Program) (j : ℕ) (x : Member) → slice_get p j ≡ Some x → has_line x.kind ≡ true → IsIn (start + j) (lines_from start p)
line_in start [] j x at has = (cc)
line_in start (m ∷ p) zero x at has =
    let same : m ≡ x = some_is at in
    let k : start + 0 ≡ start = omega arith in
    subst (λ (b : Bool). IsIn (start + 0) (if b then start ∷ lines_from (start + 1) p else lines_from (start + 1) p)) (sym (ap (λ (w : Member). has_line w.kind) same ∙ has)) (inl k)
  where
    some_is : {a b : Member} → (let o : Option Member = Some a in o) ≡ Some b → a ≡ b
    some_is e = (cc)
line_in start (m ∷ p) (suc j) x at has =
    let rest = line_in (start + 1) p j x at has in
    let k : (start + 1) + j ≡ start + suc j = omega arith in
    let inside : IsIn (start + suc j) (lines_from (start + 1) p) = subst (λ (i : ℕ). IsIn i (lines_from (start + 1) p)) k rest in
    later (has_line m.kind) inside
  where
    later : (b : Bool) → IsIn (start + suc j) (lines_from (start + 1) p) → IsIn (start + suc j) (if b then start ∷ lines_from (start + 1) p else lines_from (start + 1) p)
    later true inside = inr inside
    later false inside = inside

-- the replies to the checks of the run of this member
abbrev replies_at : List MemberRun → ((lane : ℕ) → List Check) → ℕ → List Reply
replies_at [] all b = []
replies_at (r ∷ runs) all b = if nat_eq r.member.0 b then replies_to (sequence_of r all) else replies_at runs all b

pub record RunOf (runs : List MemberRun) (all : (lane : ℕ) → List Check) (b : ℕ) : Type 0 where
  pub run : MemberRun
  pub inside : IsIn run runs
  pub member : run.member.0 ≡ b
  pub replies : replies_at runs all b ≡ replies_to (sequence_of run all)

pub run_of : (runs : List MemberRun) (all : (lane : ℕ) → List Check) (b : ℕ) → IsIn b (members_of runs) → RunOf runs all b
run_of [] all b inside = absurd inside
run_of (r ∷ runs) all b inside = go (nat_eq r.member.0 b) refl inside (run_of runs all b)
  where
    go : (t : Bool) → nat_eq r.member.0 b ≡ t → (b ≡ r.member.0) ⊎ IsIn b (members_of runs) → (IsIn b (members_of runs) → RunOf runs all b) → RunOf (r ∷ runs) all b
    go true test inside later = record { run = r; inside = inl refl; member = eqb-true r.member.0 b test; replies = ap (λ (t : Bool). if t then replies_to (sequence_of r all) else replies_at runs all b) test }
    go false test (inl same) later = absurd (no (sym test ∙ eq-eqb r.member.0 b (sym same)))
      where
        no : false ≡ true → ⊥
        no e = (cc)
    go false test (inr inside) later =
        let rest = later inside in
        record {
          run = rest.run;
          inside = inr rest.inside;
          member = rest.member;
          replies = ap (λ (t : Bool). if t then replies_to (sequence_of r all) else replies_at runs all b) test ∙ rest.replies;
        }

-- the replies to the checks of the member of a name
abbrev replies_by : Program → List MemberRun → ((lane : ℕ) → List Check) → Name → List Reply
replies_by p runs all y = elim (number_named 0 p y) as (λ o. List Reply) [ None ↦ [] | Some b ↦ replies_at runs all b ]

-- ---- where all that a member leads to passed, it doesn't fail

passed_or_not : (v : Verdict) → (has_passed v ≡ false → ⊥) → has_passed v ≡ true
passed_or_not v not = go (has_passed v) not
  where
    go : (b : Bool) → (b ≡ false → ⊥) → b ≡ true
    go true not = refl
    go false not = absurd (not refl)

module _ (p : Program) (all : (lane : ℕ) → List Check) (runs : List MemberRun) (walked : Each (IsWalked p all) runs) (each : members_of runs ≡ lines p) where
  -- a run of a member that the one with number n leads to
  led_passes : (n : ℕ) → IsFirst (HoldsUp p n) runs None → Under (λ own. Each IsRight own) p n runs all
      → (x : Member) → slice_get p n ≡ Some x → (y : Name) (l : Kind) → InClosure p x.name y → member_named p y ≡ Some l → has_line l ≡ true → Passes p y l (replies_by p runs all y)
  led_passes n held right x at y l closed named line =
      let m = numbered 0 p y l named in
      let b = m.number in
      let zero_on : 0 + b ≡ b = omega arith in
      let has : has_line m.member.kind ≡ true = ap has_line m.kind ∙ line in
      let inside : IsIn b (members_of runs) = subst (IsIn b) (sym each) (subst (λ (i : ℕ). IsIn i (lines p)) zero_on (line_in 0 p b m.member m.at has)) in
      let run = run_of runs all b inside in
      let q = run.run in
      let q_at : slice_get p q.member.0 ≡ Some m.member = subst (λ (i : ℕ). slice_get p i ≡ Some m.member) (sym run.member) m.at in
      let leads : LeadsTo p n q.member.0 = (x, m.member, at, q_at, subst (InClosure p x.name) (sym m.name) closed) in
      let passed : has_passed q.verdict ≡ true = passed_or_not q.verdict (λ not. none_is (HoldsUp p n) runs q held run.inside (leads, not)) in
      let w = each_in (IsWalked p all) runs q walked run.inside in
      let own = sequence_of q all in
      let rights : Each IsRight own = each_in (λ (r : MemberRun). LeadsTo p n r.member.0 → Each IsRight (sequence_of r all)) runs q right run.inside leads in
      let tree_is : member_tree p q.member.0 ≡ tree p y l = ap (tree_of p) q_at ∙ (ap (λ (z : Name). tree p z m.member.kind) m.name ∙ ap (tree p y) m.kind) in
      let here : Passes p y l (replies_to own) = (
        subst (λ t. (walk t (replies_to own)).ending ≡ Passed) tree_is (w.passed passed),
        all_right _ own (subst (λ t. AreChecksOf (walk t (replies_to own)).answered own) tree_is w.checks) rights,
      ) in
      let same : replies_by p runs all y ≡ replies_to own =
      ap (λ (o : Option ℕ). elim o as (λ o. List Reply) [ None ↦ [] | Some b ↦ replies_at runs all b ]) (m.found ∙ ap (λ (j : ℕ). Some j) zero_on) ∙ run.replies in
      subst (Passes p y l) (sym same) here

  -- of whatever kind it is: a field has no question
  led_each : (n : ℕ) → IsFirst (HoldsUp p n) runs None → Under (λ own. Each IsRight own) p n runs all → (x : Member) → slice_get p n ≡ Some x
      → (y : Name) (l : Kind) → InClosure p x.name y → member_named p y ≡ Some l → Passes p y l (replies_by p runs all y)
  led_each n held right x at y (IsField t) closed named = (refl, tt)
  led_each n held right x at y (IsPredicate d) closed named = led_passes n held right x at y (IsPredicate d) closed named refl
  led_each n held right x at y (IsFunction h) closed named = led_passes n held right x at y (IsFunction h) closed named refl
  led_each n held right x at y (IsMethod m) closed named = led_passes n held right x at y (IsMethod m) closed named refl

never_fails : MembersAreSound → (p : Program) → IsWhole p → (all : (lane : ℕ) → List Check) (runs : List MemberRun) → Each (IsWalked p all) runs → members_of runs ≡ lines p
    → (n : ℕ) → IsFirst (HoldsUp p n) runs None → Under (λ own. Each IsRight own) p n runs all → NeverFails p n
never_fails law p whole all runs walked each n held right x at fails =
    law p x.name x.kind (replies_by p runs all) whole.typed (whole.typed.names n x at)
    (λ y l closed named. led_each p all runs walked each n held right x at y l closed named) fails

pub sound : MembersAreSound → (p : Program) → IsWhole p → (all : (lane : ℕ) → List Check) (runs : List MemberRun) → Each (IsWalked p all) runs → members_of runs ≡ lines p → AreRested p runs → AreSound p runs all
sound law p whole all runs walked each rested = in_each (λ (r : MemberRun). r.verdict ≡ verdict.Verified → Under (λ own. Each IsRight own) p r.member.0 runs all → NeverFails p r.member.0) runs (λ r inside is right.
    let held : IsFirst (HoldsUp p r.member.0) runs None = subst (IsHeldUpAs p r.member.0 runs) is (each_in (λ (q : MemberRun). IsHeldUpAs p q.member.0 runs q.verdict) runs r rested inside) in
    never_fails law p whole all runs walked each r.member.0 held right)
