-- Numbers and nodes that are computed.
use Rattle.std.specs.Prelude.{◌≡◌, ℕ, true, false, [], ◌∷◌, Some, None}
use Rattle.vx_terms.specs.Sorts.{BoolSort, RefSort, IntSort, Variable, Equal}
use Rattle.vx_terms.specs.Terms.{Term, Constant, Apply, Not, NoTerms, MoreTerms}
use Rattle.cs_certificate.specs.Terms.{BinaryHead, equal, parts_of}
use Rattle.cs_certificate.specs.Steps.{plain}
use Rattle.cs_numbers.specs.Numbering.{place, has, with_one, added, places, places_after, node_of, node_at, nodes_of, input_clause}
use Rattle.cs_numbers.specs.Kept.{parts_at}

abbrev pub reference : ℕ → Term
reference n = Constant (Variable n) RefSort

abbrev pub applied : Term → Term
applied t = Apply (Variable 3) IntSort (MoreTerms t NoTerms)

abbrev pub a : Term
a = reference 0

abbrev pub b : Term
b = reference 1

abbrev pub c : Term
c = reference 2

pub record Examples : Type 0 where
  pub numbers :
      added [] (parts_of (equal a b ∷ equal b c ∷ Not (equal (applied a) (applied c)) ∷ []))
      ≡ equal a b ∷ a ∷ b ∷ equal b c ∷ c ∷ Not (equal (applied a) (applied c)) ∷ equal (applied a) (applied c) ∷ applied a ∷ applied c ∷ []
  pub known : has (a ∷ b ∷ []) b ≡ true
  pub unknown : has (a ∷ b ∷ []) c ≡ false
  pub next : with_one (a ∷ []) b ≡ a ∷ b ∷ []
  pub again : with_one (a ∷ b ∷ []) a ≡ a ∷ b ∷ []
  pub second : place (a ∷ b ∷ []) b ≡ Some 1
  pub nowhere : place (a ∷ b ∷ []) c ≡ None
  pub both : places (a ∷ b ∷ []) (b ∷ a ∷ []) ≡ Some (1 ∷ 0 ∷ [])
  pub one_missing : places (a ∷ b ∷ []) (b ∷ c ∷ []) ≡ None
  pub behind : places_after (7 ∷ []) (a ∷ b ∷ []) (b ∷ []) ≡ Some (7 ∷ 1 ∷ [])
  pub node : node_of (equal a b ∷ a ∷ b ∷ []) (equal a b) ≡ Some record { head = BinaryHead Equal; parts = 1 ∷ 2 ∷ []; sort = BoolSort }
  pub no_node : node_of (equal a b ∷ a ∷ []) (equal a b) ≡ None
  pub node_by_number : node_at (equal a b ∷ a ∷ b ∷ []) 0 ≡ node_of (equal a b ∷ a ∷ b ∷ []) (equal a b)
  pub no_number : node_at (equal a b ∷ a ∷ b ∷ []) 3 ≡ None
  pub kept : parts_at (equal a b ∷ a ∷ b ∷ []) 0 ≡ Some (1 ∷ 2 ∷ [])
  pub not_kept : parts_at (equal a b ∷ a ∷ []) 0 ≡ None
  pub no_nodes : nodes_of (equal a b ∷ a ∷ []) (equal a b ∷ a ∷ []) ≡ None
  pub input : input_clause (0 ∷ 3 ∷ []) 1 ≡ Some (plain 3 ∷ [])
  pub no_input : input_clause (0 ∷ 3 ∷ []) 9 ≡ None
