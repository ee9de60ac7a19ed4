-- What the entries of src/ stand for.
use Rattle.vx_terms.specs.Views.{term}
use Rattle.vx_segments.specs.Segments.{Entry}
use Rattle.vx_segments.specs.declared.Entry.{Entry as Entry'}

abbrev pub entry : Entry' → Entry
entry e = record { segment = e.segment; term = term e.term.value }
