-- The run of the method of a name, and the statuses of what is said of it.
use Rattle.std.proofs.Common.{◌≡◌, ◌⊎◌, inl, inr, ℕ, zero, suc, ◌+◌, Bool, true, false, cond, List, [], ◌∷◌, Option, Some, None, is_some, refl, ap, ◌∙◌, sym, subst, arith, true≢false}
use Rattle.std.specs.Prelude.{slice_get, if◌then◌else◌}
use Rattle.vx_ast.specs.declared.MemberId.{MemberId}
use Rattle.vx_ast.specs.Syntax.{Name, Program, Member, Kind, IsField, IsPredicate, IsFunction, IsMethod, Method, Block, same_name, member_named, method_in, method_named}
use Rattle.vx_resolved.specs.Numbers.{number_named}
use Rattle.vx_run.specs.Going.{Outcome, Ended, Stopped, Failed, Running, Wide, Unchosen}
use Rattle.vx_run.specs.Drawn.{drawn}
use Rattle.vx_run.specs.Means.{HasBody}
use Rattle.vx_report.specs.declared.status.Status.{Status}
use Rattle.vx_report.specs.declared.status.Status.TheVariants.{Done, NotVerified, Unread, Refused}
use Rattle.vx_commands.specs.declared.output.Output.{Output}
use Rattle.vx_commands.specs.Promised.{IsText}
use Rattle.vx_commands.specs.Texts.{SaysRefused}
use Rattle.vx_commands.specs.WholeRuns.{most_steps, outcome_status, SaysRunIn, SaysRunOf, SaysRun}

-- ---- the member of a name

some_is : {A : Type 0} {x y : A} → (let o : Option A = Some x in o) ≡ Some y → x ≡ y
some_is {A} {x} e = ap (λ o. elim o as (λ o. A) [ Some z ↦ z | None ↦ x ]) e

none_some : {A B : Type 0} {x : A} → (let o : Option A = None in o) ≡ Some x → B
none_some e = absurd (true≢false (sym (ap is_some e)))

-- its number, where numbers go from n on
abbrev Named : ℕ → Program → Name → ℕ → Type 0
Named n ms x k = (i : ℕ) × (k ≡ i + n) × (m : Member) × (slice_get ms i ≡ Some m) × (member_named ms x ≡ Some m.kind)

named_from : (n : ℕ) (ms : Program) (x : Name) (k : ℕ) → number_named n ms x ≡ Some k → Named n ms x k
named_from n [] x k e = none_some e
named_from n (m ∷ ms) x k e = go (same_name x m.name) e (named_from (suc n) ms x k)
  where
    Kept : Bool → Option Kind
    Kept b = elim b as (λ b. Option Kind) [ true ↦ Some m.kind | false ↦ member_named ms x ]

    go : (b : Bool) → cond b (Some n) (number_named (suc n) ms x) ≡ Some k → (number_named (suc n) ms x ≡ Some k → Named (suc n) ms x k)
        → (i : ℕ) × (k ≡ i + n) × (d : Member) × (slice_get (m ∷ ms) i ≡ Some d) × (Kept b ≡ Some d.kind)
    go true e rest = let q = some_is e in (0, omega arith, m, refl, refl)
    go false e rest = let f = rest e in (suc f.0, subst (λ y. k ≡ y) (omega arith) f.1, f.2, f.3, f.4)

method_is : (l : Kind) (m : Method) → method_in (Some l) ≡ Some m → l ≡ IsMethod m
method_is (IsField t) m e = none_some e
method_is (IsPredicate d) m e = none_some e
method_is (IsFunction f) m e = none_some e
method_is (IsMethod g) m e = ap IsMethod (some_is e)

member_is : (d : Member) (l : Kind) → d.kind ≡ l → (let o : Option Member = Some d in o) ≡ Some record { name = d.name; kind = l }
member_is d l e = ap (λ k. Some record { name = d.name; kind = k }) e

-- a method of this name and number has its body
pub has_body : (p : Program) (x : Name) (n : MemberId) (m : Method) (b : Block) → number_named 0 p x ≡ Some n.0 → method_named p x ≡ Some m → m.body ≡ Some b → HasBody p n m b
has_body p x n m b number found body =
    let at = named_from 0 p x n.0 number in
    let kind = method_is at.2.kind m (sym (ap method_in at.4) ∙ found) in
    let same : at.0 ≡ n.0 = (let q = at.1 in omega arith) in
    record { name = at.2.name; is_method = subst (λ i. slice_get p i ≡ Some at.2) same at.3 ∙ member_is at.2 (IsMethod m) kind; is_body = body }

-- where no member has the name none is found by it
none_named : (n : ℕ) (ms : Program) (x : Name) → number_named n ms x ≡ None → member_named ms x ≡ None
none_named n [] x e = refl
none_named n (m ∷ ms) x e = go (same_name x m.name) e (none_named (suc n) ms x)
  where
    go : (b : Bool) → cond b (Some n) (number_named (suc n) ms x) ≡ None → (number_named (suc n) ms x ≡ None → member_named ms x ≡ None)
        → (elim b as (λ b. Option Kind) [ true ↦ Some m.kind | false ↦ member_named ms x ]) ≡ None
    go true e rest = none_some (sym e)
    go false e rest = rest e

pub no_method_named : (p : Program) (x : Name) → number_named 0 p x ≡ None → method_named p x ≡ None
no_method_named p x none = ap method_in (none_named 0 p x none)

-- ---- what is said of a method of this name

pub said_of_body : (p : Program) (seed : ℕ) (x : Name) (m : Method) (b : Block) (output : Output) → method_named p x ≡ Some m → m.body ≡ Some b → IsText (SaysRunIn p seed m (Some b)) output
    → IsText (SaysRunOf p seed x (method_named p x)) output
said_of_body p seed x m b output found body h =
    subst (λ o. IsText (SaysRunOf p seed x o) output) (sym found) (subst (λ k. IsText (SaysRunIn p seed m k) output) (sym body) h)

pub said_of_none : (p : Program) (seed : ℕ) (x : Name) (output : Output) → method_named p x ≡ None → IsText (SaysRunOf p seed x None) output → IsText (SaysRunOf p seed x (method_named p x)) output
said_of_none p seed x output none h = subst (λ o. IsText (SaysRunOf p seed x o) output) (sym none) h

-- ---- statuses

abbrev pub OfRun : Status → Type 0
OfRun s = (s ≡ Done) ⊎ (s ≡ NotVerified) ⊎ (s ≡ Refused)

of_outcome : (o : Outcome) (s : Status) → s ≡ outcome_status o → OfRun s
of_outcome Ended s is = inl is
of_outcome (Stopped at) s is = inl is
of_outcome (Failed at) s is = inr (inl is)
of_outcome Running s is = inl is
of_outcome (Wide at op a b) s is = inl is
of_outcome Unchosen s is = inl is

pub of_run : (method : List ℕ) (seed : ℕ) (text : List ℕ) (s : Status) (bytes : List ℕ) → (SaysRefused text s bytes → (s ≡ Done) ⊎ (s ≡ Refused)) → SaysRun method seed text s bytes → OfRun s
of_run method seed text s bytes only (inl refused) = elim (only refused) [ inl done ↦ inl done | inr refused ↦ inr (inr refused) ]
of_run method seed text s bytes only (inr (p, is, said)) = of_method (method_named p method) said
  where
    of_body : (m : Method) (body : Option Block) → SaysRunIn p seed m body s bytes → OfRun s
    of_body m (Some b) h = of_outcome (drawn p m b seed most_steps) s h.0
    of_body m None h = inr (inr h.0)

    of_method : (found : Option Method) → SaysRunOf p seed method found s bytes → OfRun s
    of_method (Some m) h = of_body m m.body h
    of_method None h = inr (inr h.0)
