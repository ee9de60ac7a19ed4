-- The terms of classes, as those see them who can't see their fields.
use Rattle.std.specs.Prelude.{List}
use Rattle.cs_cong.specs.declared.congruent.Applied.{Applied}
use Rattle.cs_cong.specs.declared.classes.Classes.{Classes}

abbrev pub terms_in : Classes → List Applied
terms_in c = c.terms.items
