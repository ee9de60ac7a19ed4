-- What a live question asserts is of sort Bool.
use Rattle.std.proofs.Common.{◌≡◌, List}
use Rattle.vx_terms.specs.Sorts.{BoolSort}
use Rattle.vx_terms.specs.Terms.{Term, sort_of}
use Rattle.vx_terms.specs.Build.{negate}
use Rattle.vx_terms.specs.Interpretations.{Each}
use Rattle.vx_terms.specs.Formed.{Formed}
use Rattle.vx_terms.proofs.Values.{sort_of_formed}
use Rattle.vx_terms.proofs.Build.{negate_formed}
use Rattle.vx_smt_meaning.specs.Commands.{Declared}
use Rattle.vx_rules.specs.Trees.{Question}
use Rattle.vx_elements.proofs.Lists.{each_map}
use Rattle.vx_live.specs.Live.{IsLive}

pub path_bool : (fs : List Declared) (q : Question) → IsLive fs q → Each (λ (t : Term). sort_of t ≡ BoolSort) q.path
path_bool fs q live = each_map (λ (t : Term). Formed live.next t BoolSort) (λ (t : Term). sort_of t ≡ BoolSort) (λ t f. sort_of_formed f) q.path live.path

pub negated_bool : (fs : List Declared) (q : Question) → IsLive fs q → sort_of (negate q.condition) ≡ BoolSort
negated_bool fs q live = sort_of_formed (negate_formed live.condition)
