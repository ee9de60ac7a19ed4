-- The literal of a false clause that was made false last.
use Rattle.std.specs.Prelude.{◌≡◌, List, [], Option, Some, None}
use Rattle.std.specs.List.{Contains}
use Rattle.cs_certificate.specs.declared.literal.Literal.{Literal}
use Rattle.cs_search.specs.declared.Value.{Value}
use Rattle.cs_search.specs.declared.Status.TheVariants.{False}
use Rattle.cs_search.specs.declared.learn.Top.{Top}
use Rattle.cs_search.specs.Assignment.{status_of, LeavesOnly}

abbrev pub IsTop : List Value → List Literal → Option Top → Type 0
IsTop values c None = c ≡ []
IsTop values c (Some t) = Contains c t.literal × (status_of values t.literal ≡ False t.place) × LeavesOnly values t.place c t.literal
