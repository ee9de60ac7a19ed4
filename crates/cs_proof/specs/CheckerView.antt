-- What a checker stands for, and what its functions return beside its verdict.
use Rattle.std.specs.Prelude.{◌≡◌, map, Option, Some, None, Ok, Err}
use Rattle.std.specs.declared.result.Result.{Result}
use Rattle.std.specs.Option.{option_map}
use Rattle.cs_reader.specs.declared.refusal.Refusal.{Refusal}
use Rattle.cs_table.specs.Views.{nodes}
use Rattle.cs_proof.specs.Views.{duty}
use Rattle.cs_proof.specs.Checking.{Checker, Verdict, Finished, refusal}
use Rattle.cs_proof.specs.Plans.{Plans}
use Rattle.cs_proof.specs.declared.checker.Checker.{Checker as Checker'}

abbrev pub checker : Checker' → Checker
checker c = record {
  nodes = nodes c.nodes.items;
  clauses = c.clauses.items;
  duties = map duty c.duties.items;
  done = c.done;
  derived = c.derived;
  refusal = option_map refusal c.refusal;
}

-- an error is the refusal so far, and there is none where there is no error
abbrev pub Tells : {A : Type 0} → Result A Refusal → Option Verdict → Type 0
Tells (Ok u) so_far = so_far ≡ None
Tells (Err r) so_far = so_far ≡ Some (refusal r)

-- an error is the verdict, and there is none where the certificate is finished
abbrev pub Closes : {A : Type 0} → Result A Refusal → Verdict → Type 0
Closes (Ok u) v = v ≡ Finished
Closes (Err r) v = v ≡ refusal r

-- no step is done, and these are its plans
pub record Begins (o : Option Plans) (c : Checker) : Type 0 where
  pub plans : Plans
  pub prepared : o ≡ Some plans
  pub nodes : c.nodes ≡ plans.nodes
  pub duties : c.duties ≡ plans.duties
  pub clauses : map (λ x. x.literals.items) c.clauses ≡ plans.clauses
  pub done : c.done ≡ 0
  pub derived : c.derived ≡ 0
  pub refusal : c.refusal ≡ None
