-- A list that begins.
use Rattle.std.proofs.Common.{◌≡◌, List, ◌∷◌, Ok, sym, ap, ◌∙◌}
use Rattle.std.specs.declared.result.Result.{Result}
use Rattle.vx_sexp.specs.declared.token.Token.{Token}
use Rattle.vx_sexp.specs.declared.token.Token.TheVariants.{Open}
use Rattle.vx_terms.specs.Terms.{Term}
use Rattle.cs_commands.specs.declared.fault.CommandFault.{CommandFault}
use Rattle.cs_commands.specs.Outcomes.{◌>>=◌}
use Rattle.cs_commands.specs.Live.{Scope}
use Rattle.cs_commands.specs.Heads.{Head, head_at}
use Rattle.cs_commands.specs.Terms.{Frame, opened, term_from}

pub opens : (scope : Scope) (fs gs : List Frame) (t : Token) (ts rest : List Token) (h : Head) → rest ≡ t ∷ ts → head_at scope t ≡ Ok h → gs ≡ opened h ∷ fs → term_from scope fs (Open ∷ rest) ≡ term_from scope gs ts
opens scope fs gs t ts rest h split is more =
    ap (λ us. term_from scope fs (Open ∷ us)) split
    ∙ ap (λ o. with_head o) is
    ∙ ap (λ x. term_from scope x ts) (sym more)
  where
    with_head : Result Head CommandFault → Result (Term × List Token) CommandFault
    with_head o = o >>= λ x. term_from scope (opened x ∷ fs) ts
