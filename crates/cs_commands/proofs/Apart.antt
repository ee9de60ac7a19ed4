-- Where no symbol is declared twice, none is after a command that may follow.
use Rattle.std.proofs.Common.{◌≡◌, ℕ, zero, suc, List, [], ◌∷◌, ◌++◌, drop, refl, sym, subst}
use Rattle.vx_smt_meaning.specs.Commands.{Command, SetOption, SetLogic, DeclareSort, DeclareFun, Assert, Push, Pop, CheckSat, GetProof, Exit, Declared, Level, opened, declared_in, stack_after}
use Rattle.vx_smt_meaning.specs.WellFormed.{MayFollow}
use Rattle.cs_commands.specs.Laws.{AreApart}
use Rattle.cs_commands.specs.Following.{StaysApart}

rest_apart : (ds es : List Declared) → AreApart (ds ++ es) → AreApart es
rest_apart [] es h = h
rest_apart (d ∷ ds) es h = rest_apart ds es h.1

pub opened_declares : (n : ℕ) (levels : List Level) → declared_in (opened n levels) ≡ declared_in levels
opened_declares zero levels = refl
opened_declares (suc n) levels = opened_declares n levels

pub dropped_apart : (n : ℕ) (levels : List Level) → AreApart (declared_in levels) → AreApart (declared_in (drop n levels))
dropped_apart zero levels h = h
dropped_apart (suc n) [] h = h
dropped_apart (suc n) (l ∷ levels) h = dropped_apart n levels (rest_apart l.symbols (declared_in levels) h)

-- a command that declares no symbol and closes no level
on_top : (levels : List Level) (c : Command) → AreApart (declared_in levels) → MayFollow levels c → AreApart (declared_in (stack_after c levels))
on_top levels (SetOption x b) h m = h
on_top levels (SetLogic x) h m = h
on_top [] (DeclareSort x) h m = h
on_top (l ∷ levels) (DeclareSort x) h m = h
on_top [] (DeclareFun d) h m = h
on_top (l ∷ levels) (DeclareFun d) h m = (m.new, h)
on_top [] (Assert t) h m = h
on_top (l ∷ levels) (Assert t) h m = h
on_top levels (Push n) h m = subst AreApart (sym (opened_declares n levels)) h
on_top levels (Pop n) h m = dropped_apart n levels h
on_top levels CheckSat h m = h
on_top levels GetProof h m = h
on_top levels Exit h m = h

pub stay_apart : StaysApart
stay_apart levels c h m = on_top levels c h m
