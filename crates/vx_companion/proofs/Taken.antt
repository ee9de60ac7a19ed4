-- A command that the companion takes has a lawful reply, and is done.
use Rattle.std.proofs.Common.{◌≡◌, inl, inr, ℕ, ◌-◌, ◌≤◌, ◌<◌, nat_le, Bool, true, false, true≢false, List, [], ◌∷◌, ◌++◌, length, refl, ap, ◌∙◌, sym, subst, arith}
use Rattle.std.proofs.lemmas.Bool.{le-leb}
use Rattle.vx_sexp.specs.declared.token.Token.{Token}
use Rattle.vx_sexp.specs.declared.token.Token.TheVariants.{Close}
use Rattle.vx_sexp.specs.First.{deepest}
use Rattle.vx_terms.specs.Sorts.{Sort}
use Rattle.vx_terms.specs.Terms.{Term, Truth, Number, Part, Constant, Apply, Not, Binary, Ite, AllOf, SomeOf, Terms, NoTerms, MoreTerms}
use Rattle.vx_smt_meaning.specs.Commands.{Command, SetOption, SetLogic, DeclareSort, DeclareFun, Assert, Push, Pop, CheckSat, GetProof, Exit, Declared, Level, stack_after, declared_in}
use Rattle.vx_smt_meaning.specs.Names.{IsCommand}
use Rattle.vx_smt_meaning.specs.WellFormed.{MayFollow}
use Rattle.vx_smt_meaning.specs.Words.{word, sort_word, sorts_tokens, command_tokens}
use Rattle.vx_smt_meaning.specs.Dialogues.{is_lawful_to}
use Rattle.vx_smt_text.specs.Small.{IsSmallTerm, AreSmallTerms, IsSmallCommand}
use Rattle.vx_smt_text.specs.Shaped.{IsShaped, AreShaped}
use Rattle.cs_commands.specs.Laws.{AreApart, IsReadable, AreReadable, IsPlain}
use Rattle.cs_commands.proofs.Apart.{stay_apart}
use Rattle.cs_commands.proofs.WrittenCommands.{behind_sorts, written_back}
use Rattle.cs_session.specs.declared.reply.Reply.{Reply}
use Rattle.cs_session.specs.declared.reply.Reply.TheVariants.{Success, Unsupported, Failed, Sat, Unsat, Undecided, Proof, Closed}
use Rattle.cs_session.specs.declared.session.Last.{Last}
use Rattle.cs_session.specs.declared.session.Last.TheVariants.{Nothing, Refuted, Satisfied, Unknown}
use Rattle.cs_session.specs.Views.{State, depth}
use Rattle.cs_session.specs.Replies.{Does, FollowsIf, Tells}
use Rattle.vx_companion.specs.Right.{IsSorted}
use Rattle.vx_companion.specs.Lawful.{IsTaken, Fits}
use Rattle.vx_companion.proofs.Lines.{item_of, is_short}
use Rattle.vx_companion.proofs.ReadCommands.{same_ok}
use Rattle.vx_companion.proofs.Answered.{IsAnswer}

-- ---- it is read

mutual
  readable : (t : Term) → IsSmallTerm t → IsShaped t → IsReadable t
  readable (Truth b) small shaped = tt
  readable (Number z) small shaped = shaped
  readable (Part a) small shaped = (shaped, small)
  readable (Constant f a) small shaped = small
  readable (Apply f a NoTerms) small shaped = absurd shaped
  readable (Apply f a (MoreTerms t ts)) small shaped = (small.0, refl, (readable t small.1.0 shaped.0, all_readable ts small.1.1 shaped.1))
  readable (Not t) small shaped = readable t small shaped
  readable (Binary o t u) small shaped = (readable t small.0 shaped.0, readable u small.1 shaped.1)
  readable (Ite c t u) small shaped = (readable c small.0 shaped.0, readable t small.1 shaped.1, readable u small.2 shaped.2)
  readable (AllOf ts) small shaped = (shaped.0, all_readable ts small shaped.1)
  readable (SomeOf ts) small shaped = (shaped.0, all_readable ts small shaped.1)

  all_readable : (ts : Terms) → AreSmallTerms ts → AreShaped ts → AreReadable ts
  all_readable NoTerms small shaped = tt
  all_readable (MoreTerms t ts) small shaped = (readable t small.0 shaped.0, all_readable ts small.1 shaped.1)

plain : (c : Command) → IsSorted c → IsTaken c → IsSmallCommand c → IsPlain c
plain (SetOption x b) sorted taken small = tt
plain (SetLogic x) sorted taken small = tt
plain (DeclareSort x) sorted taken small = sorted
plain (DeclareFun d) sorted taken small = small
plain (Assert t) sorted taken small = (sorted, readable t small taken.0)
plain (Push n) sorted taken small = sorted
plain (Pop n) sorted taken small = sorted
plain CheckSat sorted taken small = tt
plain GetProof sorted taken small = tt
plain Exit sorted taken small = tt

-- ---- it is not too deep

sorts_shallow : (as' : List Sort) (rest : List Token) → deepest 2 rest ≤ 4096 → deepest 2 (sorts_tokens as' ++ rest) ≤ 4096
sorts_shallow [] rest h = h
sorts_shallow (a ∷ as') rest h = let more = sorts_shallow as' rest h in omega arith

fun_shallow : (d : Declared) → deepest 0 (command_tokens (DeclareFun d)) ≤ 4096
fun_shallow d =
    let rest : deepest 2 (((sorts_tokens d.takes ++ Close ∷ []) ++ word (sort_word d.gives) ∷ []) ++ Close ∷ []) ≤ 4096 =
    subst (λ ts. deepest 2 ts ≤ 4096) (sym (behind_sorts (sorts_tokens d.takes) (word (sort_word d.gives)) Close))
    (sorts_shallow d.takes (Close ∷ word (sort_word d.gives) ∷ Close ∷ []) (omega arith)) in
    omega arith

shallow : (c : Command) → IsTaken c → deepest 0 (command_tokens c) ≤ 4096
shallow (SetOption x b) taken = omega arith
shallow (SetLogic x) taken = omega arith
shallow (DeclareSort x) taken = omega arith
shallow (DeclareFun d) taken = fun_shallow d
shallow (Assert t) taken = taken.1
shallow (Push n) taken = omega arith
shallow (Pop n) taken = omega arith
shallow CheckSat taken = omega arith
shallow GetProof taken = omega arith
shallow Exit taken = omega arith

-- ---- its reply, and the levels

success_if : (b : Bool) (c d : Command) (s u : State) (r : Reply) → b ≡ true → is_lawful_to c (item_of Success) ≡ true → FollowsIf b d s r u
    → (is_lawful_to c (item_of r) ≡ true) × (u.levels ≡ stack_after d s.levels)
success_if true c d s u r is lawful done = (ap (λ x. is_lawful_to c (item_of x)) done.0 ∙ lawful, ap (λ (x : State). x.levels) done.1)
success_if false c d s u r is lawful done = absurd (true≢false (sym is))

answer_given : (levels : List Level) (r : Reply) (l : Last) → Tells levels r l → is_lawful_to CheckSat (item_of r) ≡ true
answer_given levels Success Nothing h = absurd h
answer_given levels Success (Refuted steps) h = absurd h
answer_given levels Success Satisfied h = absurd h
answer_given levels Success (Unknown cause) h = absurd h
answer_given levels Unsupported Nothing h = absurd h
answer_given levels Unsupported (Refuted steps) h = absurd h
answer_given levels Unsupported Satisfied h = absurd h
answer_given levels Unsupported (Unknown cause) h = absurd h
answer_given levels (Failed c) Nothing h = absurd h
answer_given levels (Failed c) (Refuted steps) h = absurd h
answer_given levels (Failed c) Satisfied h = absurd h
answer_given levels (Failed c) (Unknown cause) h = absurd h
answer_given levels (Proof line) Nothing h = absurd h
answer_given levels (Proof line) (Refuted steps) h = absurd h
answer_given levels (Proof line) Satisfied h = absurd h
answer_given levels (Proof line) (Unknown cause) h = absurd h
answer_given levels Closed Nothing h = absurd h
answer_given levels Closed (Refuted steps) h = absurd h
answer_given levels Closed Satisfied h = absurd h
answer_given levels Closed (Unknown cause) h = absurd h
answer_given levels Sat l h = refl
answer_given levels Unsat l h = refl
answer_given levels Undecided l h = refl

not_above : (n m : ℕ) → n < m → nat_le n (m - 1) ≡ true
not_above n m h = le-leb n (m - 1) (omega arith)

depth_is : (levels : List Level) → depth levels ≡ length levels - 1
depth_is [] = refl
depth_is (l ∷ levels) = omega arith

done_so : (c : Command) (s u : State) (r : Reply) → Fits c → MayFollow s.levels c → Does c s r u → (is_lawful_to c (item_of r) ≡ true) × (u.levels ≡ stack_after c s.levels)
done_so (SetOption x b) s u r fits follows done = (ap (λ y. is_lawful_to (SetOption x b) (item_of y)) done.0, ap (λ (x : State). x.levels) done.1)
done_so (SetLogic x) s u r fits follows done = (ap (λ y. is_lawful_to (SetLogic x) (item_of y)) done.0, ap (λ (x : State). x.levels) done.1)
done_so (DeclareSort x) s u r fits follows done = (ap (λ y. is_lawful_to (DeclareSort x) (item_of y)) done.0, ap (λ (x : State). x.levels) done.1)
done_so (DeclareFun d) s u r fits follows done = (ap (λ y. is_lawful_to (DeclareFun d) (item_of y)) done.0, ap (λ (x : State). x.levels) done.1)
done_so (Assert t) s u r fits follows done = (ap (λ y. is_lawful_to (Assert t) (item_of y)) done.0, ap (λ (x : State). x.levels) done.1)
done_so (Push n) s u r fits follows done = success_if (nat_le n 256) (Push n) (Push n) s u r (le-leb n 256 fits) refl done
done_so (Pop n) s u r fits follows done =
    success_if (nat_le n (depth s.levels)) (Pop n) (Pop n) s u r (ap (nat_le n) (depth_is s.levels) ∙ not_above n (length s.levels) follows) refl done
done_so CheckSat s u r fits follows done = (answer_given s.levels r u.last done.1, done.0)
done_so GetProof s u r fits follows done = absurd fits
done_so Exit s u r fits follows done = (ap (λ y. is_lawful_to Exit (item_of y)) done.0, ap (λ (x : State). x.levels) done.1)

-- ---- it is no certificate

answer_short : (levels : List Level) (r : Reply) (l : Last) → Tells levels r l → is_short r ≡ true
answer_short levels (Proof line) Nothing h = absurd h
answer_short levels (Proof line) (Refuted steps) h = absurd h
answer_short levels (Proof line) Satisfied h = absurd h
answer_short levels (Proof line) (Unknown cause) h = absurd h
answer_short levels _ l h = refl

follow_short : (b : Bool) (c : Command) (s u : State) (r : Reply) → FollowsIf b c s r u → is_short r ≡ true
follow_short true c s u r done = ap is_short done.0
follow_short false c s u r done = ap is_short done.0

done_short : (c : Command) (s u : State) (r : Reply) → Fits c → Does c s r u → is_short r ≡ true
done_short (SetOption x b) s u r fits done = ap is_short done.0
done_short (SetLogic x) s u r fits done = ap is_short done.0
done_short (DeclareSort x) s u r fits done = ap is_short done.0
done_short (DeclareFun d) s u r fits done = ap is_short done.0
done_short (Assert t) s u r fits done = ap is_short done.0
done_short (Push n) s u r fits done = follow_short (nat_le n 256) (Push n) s u r done
done_short (Pop n) s u r fits done = follow_short (nat_le n (depth s.levels)) (Pop n) s u r done
done_short CheckSat s u r fits done = answer_short s.levels r u.last done.1
done_short GetProof s u r fits done = absurd fits
done_short Exit s u r fits done = ap is_short done.0

-- a lawful reply that is no certificate, and the levels behind the command
pub record IsDone (c : Command) (levels : List Level) (u : State) (r : Reply) : Type 0 where
  pub short : is_short r ≡ true
  pub lawful : is_lawful_to c (item_of r) ≡ true
  pub levels_are : u.levels ≡ stack_after c levels
  pub apart : AreApart (declared_in (stack_after c levels))

pub done_by : (c : Command) (s u : State) (r : Reply) → AreApart (declared_in s.levels) → IsCommand c → MayFollow s.levels c → IsSorted c → IsTaken c → IsSmallCommand c → Fits c
    → IsAnswer (command_tokens c) s r u → IsDone c s.levels u r
done_by c s u r apart name follows sorted taken small fits (inl done) =
    let meant = (written_back s.levels c apart name follows (plain c sorted taken small)).meant in
    let same : done.0 ≡ c = same_ok (sym done.1 ∙ meant) in
    let so = done_so c s u r fits follows (subst (λ d. Does d s r u) same done.2) in
    record { short = done_short c s u r fits (subst (λ d. Does d s r u) same done.2); lawful = so.0; levels_are = so.1; apart = stay_apart s.levels c apart follows }
done_by c s u r apart name follows sorted taken small fits (inr fault) =
    absurd (fault.3 c (shallow c taken) (written_back s.levels c apart name follows (plain c sorted taken small)).meant)
