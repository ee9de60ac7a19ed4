-- The scope that the type of src/ stands for.
use Rattle.cs_reader.specs.declared.spell.Scope.{Scope as Scope'}
use Rattle.cs_reader.specs.declared.spell.Scope.TheVariants as scopes'
use Rattle.cs_reader.specs.Live.{declared_in}
use Rattle.cs_reader.specs.Spelling.{Scope, among, any}

abbrev pub scope : Scope' → Scope
scope scopes'.Any = any
scope (scopes'.Among symbols) = among (declared_in symbols.now)
