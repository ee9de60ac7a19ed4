use Rattle.std.proofs.Common.{◌<◌, List, Option, ℕ, [], ◌∷◌, ◌++◌, None, length, sym, ap, ◌∙◌, subst, refl, ap₂, length-append}
use Rattle.std.proofs.lemmas.List.Elements.{All-weaker}
use Rattle.vx_frac.specs.declared.Frac.{Frac}
use Rattle.cs_linear.specs.declared.bounds.Bound.{Bound}
use Rattle.cs_linear.proofs.Lists.{one_longer, few_more, below_longer}
use Rattle.cs_linear.proofs.Added.{wide_tableau, wide_solves, same_tableau, same_solves, zero_more}
use Rattle.cs_linear.specs.Amounts.{pair}
use Rattle.cs_linear.specs.Values.{values}
use Rattle.cs_linear.proofs.tableau.Tableau.add_column.Goals as goal

pub invariant_of-self-2 : goal.invariant_of-self-2
invariant_of-self-2 c =
    let s = c.args.self.now in
    let homes = c.put.ensures ∙ ap (λ (hs : List (Option ℕ)). hs ++ None ∷ []) c.reserve.ensures.items in
    let mains = c.put-2.ensures ∙ ap (λ (vs : List Frac). vs ++ c.zero.result ∷ []) c.reserve-2.ensures.items in
    let deltas = c.put-3.ensures ∙ ap (λ (vs : List Frac). vs ++ c.zero-2.result ∷ []) c.reserve-3.ensures.items in
    record {
      few = subst (λ (hs : List (Option ℕ)). length hs < 4294967296) (sym homes) (few_more s.homes.items None 4294967296 c.requires);
      same_mains = ap length mains ∙ one_longer s.mains.items c.zero.result s.homes.items None s.same_mains ∙ ap length (sym homes);
      same_deltas = ap length deltas ∙ one_longer s.deltas.items c.zero-2.result s.homes.items None s.same_deltas ∙ ap length (sym homes);
      tableau = same_tableau refl homes (wide_tableau s.rows.items s.homes.items s.tableau);
      alike = s.alike;
      mains_solve = same_solves refl mains (wide_solves s.rows.items s.homes.items s.mains.items c.zero.result s.tableau s.same_mains s.mains_solve);
      deltas_solve = same_solves refl deltas (wide_solves s.rows.items s.homes.items s.deltas.items c.zero-2.result s.tableau s.same_deltas s.deltas_solve);
      known = All-weaker (λ (b : Bound). b.column < length s.homes.items) (λ (b : Bound). b.column < length c.put.new.list.items) (λ b lt. subst (λ (hs : List (Option ℕ)). b.column < length hs) (sym homes) (below_longer s.homes.items None b.column lt)) s.bounds.items s.known;
    }

pub returns-clause-values : goal.returns-clause-values
returns-clause-values c = λ k.
    let s = c.args.self.now in
    let mains = c.put-2.ensures ∙ ap (λ (vs : List Frac). vs ++ c.zero.result ∷ []) c.reserve-2.ensures.items in
    let deltas = c.put-3.ensures ∙ ap (λ (vs : List Frac). vs ++ c.zero-2.result ∷ []) c.reserve-3.ensures.items in
    ap₂ pair (ap (λ vs. values vs k) mains ∙ zero_more s.mains.items c.zero.result k c.zero.ensures) (ap (λ vs. values vs k) deltas ∙ zero_more s.deltas.items c.zero-2.result k c.zero-2.ensures)

pub returns-clause-width : goal.returns-clause-width
returns-clause-width c = ap length (c.put.ensures ∙ ap (λ (hs : List (Option ℕ)). hs ++ None ∷ []) c.reserve.ensures.items) ∙ length-append c.args.self.now.homes.items (None ∷ [])
