-- The nodes that the types of src/ stand for.
use Rattle.std.specs.Prelude.{List, map}
use Rattle.vx_frac.specs.Fraction.{fraction}
use Rattle.vx_terms.specs.Views.{sort, symbol, operator}
use Rattle.cs_certificate.specs.Terms.{Head, TruthHead, NumberHead, PartHead, ConstantHead, ApplyHead, BinaryHead, NotHead, IteHead, AllHead, SomeHead}
use Rattle.cs_certificate.specs.Nodes.{Node}
use Rattle.cs_table.specs.declared.node.Head.{Head as Head'}
use Rattle.cs_table.specs.declared.node.Head.TheVariants as heads'
use Rattle.cs_table.specs.declared.node.Node.{Node as Node'}

abbrev pub head : Head' → Head
head (heads'.Truth b) = TruthHead b
head (heads'.Number z) = NumberHead z
head (heads'.Part a) = PartHead (fraction a)
head (heads'.Constant f a) = ConstantHead (symbol f) (sort a)
head (heads'.Apply f a) = ApplyHead (symbol f) (sort a)
head (heads'.Binary o) = BinaryHead (operator o)
head heads'.Not = NotHead
head heads'.Ite = IteHead
head heads'.All = AllHead
head heads'.Some = SomeHead

abbrev pub node : Node' → Node
node n = record { head = head n.head; parts = n.parts.items; sort = sort n.sort }

abbrev pub nodes : List Node' → List Node
nodes ns = map node ns
