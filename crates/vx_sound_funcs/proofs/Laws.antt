-- The laws, in typed programs where the walks of predicates passed.
use Rattle.std.proofs.Common.{List, refl}
use Rattle.vx_meaning.specs.States.{State}
use Rattle.vx_sound_preds.proofs.Looks.{Sees}
use Rattle.vx_ast.specs.Syntax.{Name, Program}
use Rattle.vx_smt_meaning.specs.declared.reply.Reply.{Reply}
use Rattle.vx_types.specs.Premises.{IsTypedProgram}
use Rattle.vx_sound_preds.specs.Bodies.{GoodBodies}
use Rattle.vx_sound_preds.specs.Covered.{Covered, IsProper, PredicatesPass}
use Rattle.vx_sound_preds.proofs.Kept.{bodies_covered}
use Rattle.vx_sound_preds.proofs.Speaking.{good}
use Rattle.vx_sound_funcs.specs.Firm.{GoodFunctions}
use Rattle.vx_sound_funcs.specs.Laws.{TreesTellTheHeap, TreesTellWhatIsHeld, TreesTellEntries, TreesTellHoldings, TreesTellFirmValues, ApplicationsAgree}
use Rattle.vx_sound_funcs.proofs.Heaps.{tell_listed}
use Rattle.vx_sound_funcs.proofs.Agree.{applications_agree}
use Rattle.vx_sound_funcs.proofs.Agree as agreeing
use Rattle.vx_sound_funcs.proofs.Holding as holding
use Rattle.vx_sound_funcs.proofs.TypedFunctions.{good_functions}

module _ (p : Program) (x : Name) where
  pub heap_told : GoodBodies p → Covered p (IsProper p x) → TreesTellTheHeap p (IsProper p x)
  heap_told good covered h g i n inside t gd ri e a b = tell_listed p good (IsProper p x) covered h g n i inside t gd ri e a b

module _ (p : Program) (x : Name) (replies : Name → List Reply) (typed : IsTypedProgram p) (pass : PredicatesPass p x replies) where
  pub passed_heap : TreesTellTheHeap p (IsProper p x)
  passed_heap = heap_told p x (good p x typed) (bodies_covered p x replies typed pass)

itself : (s : State) → Sees s s
itself s = record { store = refl; heap = refl }

module _ (p : Program) (x : Name) (good : GoodBodies p) (functions : GoodFunctions p) (covered : Covered p (IsProper p x)) where
  pub held_told : TreesTellWhatIsHeld p (IsProper p x)
  held_told a asks s t tree k store here there = holding.like p good functions (IsProper p x) covered a asks s k s (itself s) t store tree here there

  pub entries_told : TreesTellEntries p (IsProper p x)
  entries_told a asks s t tree k store here there =
      let e = holding.names p good functions (IsProper p x) covered a asks s k s (itself s) t store tree here there in (
        holding.all p good functions (IsProper p x) covered a asks s k s (itself s) t store tree here there,
        e.entries_of,
        e.are,
        (holding.told_all p good functions (IsProper p x) covered a asks s k s (itself s) t store tree here there).0,
      )

  pub holdings_told : TreesTellHoldings p (IsProper p x)
  holdings_told a asks s t tree k l store here there = holding.same_holdings p good functions (IsProper p x) covered a asks s t k l store tree here there

  pub firm_told : TreesTellFirmValues p (IsProper p x)
  firm_told f g named vs s t v tree k args store here there fi = agreeing.determined p (IsProper p x) good functions covered f g named vs s s t v tree (itself s) k args store here there fi

module _ (p : Program) (x : Name) (replies : Name → List Reply) (typed : IsTypedProgram p) (pass : PredicatesPass p x replies) where
  functions : GoodFunctions p
  functions = good_functions p typed

  pub passed_held : TreesTellWhatIsHeld p (IsProper p x)
  passed_held = held_told p x (good p x typed) functions (bodies_covered p x replies typed pass)

  pub passed_entries : TreesTellEntries p (IsProper p x)
  passed_entries = entries_told p x (good p x typed) functions (bodies_covered p x replies typed pass)

  pub passed_holdings : TreesTellHoldings p (IsProper p x)
  passed_holdings = holdings_told p x (good p x typed) functions (bodies_covered p x replies typed pass)

  pub passed_firm : TreesTellFirmValues p (IsProper p x)
  passed_firm = firm_told p x (good p x typed) functions (bodies_covered p x replies typed pass)

  pub agree : ApplicationsAgree p x
  agree f g named vs ri n s t v tree co st e here there = applications_agree p x (good p x typed) functions (bodies_covered p x replies typed pass) typed f g named vs ri n s t v tree co st e here there
