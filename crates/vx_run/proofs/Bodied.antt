-- Which member of a program has a body that runs.
use Rattle.std.proofs.Common.{◌≡◌, ℕ, ◌≤◌, Bool, true, false, true≢false, length, Option, Some, None, is_some, sym, ◌∙◌, ap}
use Rattle.std.specs.Prelude.{slice_get}
use Rattle.std.proofs.lemmas.Option.{slice_get_past}
use Rattle.vx_ast.specs.declared.MemberId.{MemberId}
use Rattle.vx_ast.specs.Syntax.{Program, Member, Method, Block, Kind, IsField, IsPredicate, IsFunction, IsMethod}
use Rattle.vx_run.specs.Drawn.{drawn}
use Rattle.vx_run.specs.Going.{Outcome}
use Rattle.vx_run.specs.Means.{HasBody}

some_is : {A : Type 0} {x y : A} → (let o : Option A = Some x in o) ≡ Some y → x ≡ y
some_is {A} {x} e = ap (λ o. elim o as (λ o. A) [ Some z ↦ z | None ↦ x ]) e

none_some : {A B : Type 0} {x : A} → (let o : Option A = None in o) ≡ Some x → B
none_some e = absurd (true≢false (sym (ap is_some e)))

abbrev is_method : Kind → Bool
is_method (IsField t) = false
is_method (IsPredicate d) = false
is_method (IsFunction f) = false
is_method (IsMethod m) = true

abbrev method_or : Method → Kind → Method
method_or m (IsField t) = m
method_or m (IsPredicate d) = m
method_or m (IsFunction f) = m
method_or m (IsMethod f) = f

module _ (p : Program) (n : MemberId) (m : Method) (b : Block) (h : HasBody p n m b) where
  pub no_member : {A : Type 0} → length p ≤ n.0 → A
  no_member past = none_some (sym (slice_get_past p n.0 past) ∙ h.is_method)

  module _ (d : Member) (found : slice_get p n.0 ≡ Some d) where
    kind_is : d.kind ≡ IsMethod m
    kind_is = ap (λ (x : Member). x.kind) (some_is (sym found ∙ h.is_method))

    pub no_method : {A : Type 0} (k : Kind) → d.kind ≡ k → is_method k ≡ false → A
    no_method k e f = absurd (true≢false (ap is_method (sym kind_is ∙ e) ∙ f))

    module _ (f : Method) (e : d.kind ≡ IsMethod f) where
      same_method : m ≡ f
      same_method = ap (method_or m) (sym kind_is ∙ e)

      pub no_body : {A : Type 0} → f.body ≡ None → A
      no_body none = none_some (sym none ∙ ap (λ (x : Method). x.body) (sym same_method) ∙ h.is_body)

      pub by_body : (a : Block) (seed steps : ℕ) (o : Outcome) → f.body ≡ Some a → o ≡ drawn p f a seed steps → o ≡ drawn p m b seed steps
      by_body a seed steps o is run =
          run
          ∙ ap (λ (x : Block). drawn p f x seed steps) (some_is (sym is ∙ ap (λ (x : Method). x.body) (sym same_method) ∙ h.is_body))
          ∙ ap (λ (x : Method). drawn p x b seed steps) (sym same_method)
