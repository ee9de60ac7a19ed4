-- The symbols of a term are put behind those that are there.
use Rattle.std.proofs.Common.{◌≡◌, ℕ, Bool, true, false, List, [], ◌∷◌, ◌++◌, drop, length, if◌then◌else◌, refl, sym, ◌∙◌, ap, append_assoc}
use Rattle.vx_terms.specs.Sorts.{Sort, Symbol, Standard, Function, Variable, Named}
use Rattle.vx_terms.specs.Terms.{Term, Truth, Number, Part, Constant, Apply, Not, Binary, Ite, AllOf, SomeOf, Terms, NoTerms, MoreTerms}
use Rattle.vx_smt_meaning.specs.Commands.{Declared}
use Rattle.vx_dialogue.specs.Symbols.{variable, declares, with_symbol, with_variables, with_all_variables}
use Rattle.vx_dialogue.proofs.Lists.{none_more}
use Rattle.vx_dialogue.specs.Segments.{missing}

-- these symbols, and more behind them
record Extends (ds es : List Declared) : Type 0 where
  more : List Declared
  is : es ≡ ds ++ more

stays : (ds : List Declared) → Extends ds ds
stays ds = record { more = []; is = sym (none_more ds) }

then_extends : (ds es fs : List Declared) → Extends ds es → Extends es fs → Extends ds fs
then_extends ds es fs g h = record { more = g.more ++ h.more; is = h.is ∙ ap (λ x. x ++ h.more) g.is ∙ append_assoc ds g.more h.more }

extends_variable : (b : Bool) (ds : List Declared) (n : ℕ) (a : Sort) → Extends ds (if b then ds else (ds ++ variable n a ∷ []))
extends_variable true ds n a = stays ds
extends_variable false ds n a = record { more = variable n a ∷ []; is = refl }

extends_symbol : (f : Symbol) (ds : List Declared) (a : Sort) → Extends ds (with_symbol ds f a)
extends_symbol (Standard n) ds a = stays ds
extends_symbol (Function n) ds a = stays ds
extends_symbol (Variable n) ds a = extends_variable (declares ds n) ds n a
extends_symbol (Named x) ds a = stays ds

mutual
  extends : (t : Term) (ds : List Declared) → Extends ds (with_variables ds t)
  extends (Truth b) ds = stays ds
  extends (Number z) ds = stays ds
  extends (Part a) ds = stays ds
  extends (Constant f a) ds = extends_symbol f ds a
  extends (Apply f a ts) ds = all_extend ts ds
  extends (Not t) ds = extends t ds
  extends (Binary o t u) ds = then_extends ds _ _ (extends t ds) (extends u (with_variables ds t))
  extends (Ite c t u) ds = then_extends ds _ _ (extends c ds) (then_extends _ _ _ (extends t (with_variables ds c)) (extends u (with_variables (with_variables ds c) t)))
  extends (AllOf ts) ds = all_extend ts ds
  extends (SomeOf ts) ds = all_extend ts ds

  all_extend : (ts : Terms) (ds : List Declared) → Extends ds (with_all_variables ds ts)
  all_extend NoTerms ds = stays ds
  all_extend (MoreTerms t ts) ds = then_extends ds _ _ (extends t ds) (all_extend ts (with_variables ds t))

pub drop_front : {A : Type 0} (xs ys : List A) → drop (length xs) (xs ++ ys) ≡ ys
drop_front [] ys = refl
drop_front (x ∷ xs) ys = drop_front xs ys

-- the missing symbols are what a term puts behind
pub with_missing : (ds : List Declared) (t : Term) → with_variables ds t ≡ ds ++ missing ds t
with_missing ds t =
    let e = extends t ds in
    e.is ∙ ap (λ x. ds ++ x) (sym (ap (drop (length ds)) e.is ∙ drop_front ds e.more))
