-- What the types of src/ stand for.
use Rattle.std.specs.Prelude.{false, List, map}
use Rattle.std.specs.declared.alloc.Global.{Global}
use Rattle.std.specs.declared.rc.Rc.{Rc}
use Rattle.vx_terms.specs.declared.term.Term.{Term as Term'}
use Rattle.vx_terms.specs.Terms.{Term}
use Rattle.vx_terms.specs.Build.{zero_amount, unit}
use Rattle.vx_terms.specs.Views.{term}
use Rattle.vx_rules.specs.States.{Chunk, Heap}
use Rattle.vx_rules.specs.Chunks.{Candidate}
use Rattle.vx_heap.specs.declared.chunk.Resource.{Resource}
use Rattle.vx_heap.specs.declared.chunk.Chunk.{Chunk as Chunk'}
use Rattle.vx_heap.specs.declared.candidates.Candidate.{Candidate as Candidate'}
use Rattle.vx_heap.specs.declared.heap.SymHeap.{SymHeap}
pub use Rattle.vx_heap.specs.Names.{is_field, name}

-- a term that others may hold too
abbrev pub held_term : Rc Term' Global → Term
held_term t = term t.value

abbrev pub terms_of : List (Rc Term' Global) → List Term
terms_of ts = map held_term ts

abbrev pub chunk : Chunk' → Chunk
chunk c = record {
  is_field = is_field c.resource;
  resource = name c.resource;
  arguments = terms_of c.arguments.items;
  amount = held_term c.amount;
  value = held_term c.value;
  root = c.is_root;
  inner = c.is_inner;
}

-- a chunk that heaps and candidates share
abbrev pub shared : Rc Chunk' Global → Chunk
shared c = chunk c.value

abbrev pub heap : SymHeap → Heap
heap h = map shared h.chunks.items

-- a chunk of no amount, by which others are looked for: a field's key, or an instance's
abbrev pub key : Resource → List (Rc Term' Global) → Chunk
key r ts = record { is_field = is_field r; resource = name r; arguments = terms_of ts; amount = zero_amount; value = unit; root = false; inner = false }

abbrev pub candidate : Candidate' → Candidate
candidate c = record { number = c.number; chunk = shared c.chunk }

abbrev pub candidates_of : List Candidate' → List Candidate
candidates_of cs = map candidate cs
