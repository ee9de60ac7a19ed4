-- A decimal alone is spelled by its one token.
use Rattle.std.proofs.Common.{◌≡◌, ℕ, List, [], ◌∷◌, Option, Some, None, refl}
use Rattle.std.specs.Option.{option_map}
use Rattle.vx_sexp.specs.declared.token.Kind.TheVariants as kinds
use Rattle.vx_sexp.specs.declared.token.Token.{Token}
use Rattle.vx_sexp.specs.declared.token.Token.TheVariants.{Atom}
use Rattle.vx_terms.specs.Terms.{Term, Part}
use Rattle.cs_reader.specs.Items.{◌>>=◌}
use Rattle.cs_reader.specs.Spelling.{any, decimal, spelled, if_whole}

alone : Term → Option (Term × List Token)
alone t = Some (t, [])

all_of : Term × List Token → Option Term
all_of r = if_whole r.0 r.1

whole : (o : Option Term) → ((o >>= alone) >>= all_of) ≡ o
unfolding alone all_of
whole None = refl
whole (Some t) = refl

pub one_spelled : (x : List ℕ) → spelled any (Atom kinds.Decimal x ∷ []) ≡ option_map Part (decimal x)
unfolding alone all_of
one_spelled x = whole (option_map Part (decimal x))
