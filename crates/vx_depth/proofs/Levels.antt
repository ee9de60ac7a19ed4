-- What the rules make of a state has the state's level.
use Rattle.std.proofs.Common.{◌≡◌, ℕ, Bool, true, false, cond, not, ◌&&◌, List, [], ◌∷◌, Option, Some, None}
use Rattle.vx_ast.specs.Syntax.{Name, Program, Declaration}
use Rattle.vx_terms.specs.Sorts.{Sort, Equal}
use Rattle.vx_terms.specs.Terms.{Term, Binary, same, sort_of}
use Rattle.vx_terms.specs.Build.{equals, subtract, pair, first, second, unit, wrap, written_unwrap, unwrap, zero_amount, whole_amount}
use Rattle.vx_rules.specs.States.{Chunk, State, with_fact, with_facts, with_entry, is_quiet, is_known, is_named, name_of, after_name, fresh, after_fresh, declare_all, declare_fresh, sort_of_type, with_heap, with_store, assign, found, is_stored}
use Rattle.vx_rules.specs.Chunks.{field_key, Candidate, chosen, share, with_amount, shared_out, value_facts, with_value, value_where, written, written_each, put_over, put_facts, put}
use Rattle.vx_ast.specs.Mentions.{is_among}
use Rattle.vx_rules.specs.Rules.{Context, field_sort, after_value, after_snapshot, with_split, with_unit, with_built_wrap, with_built_pair, pair_facts}
use Rattle.vx_rules.specs.Members.{forget, put_fields, after_names}

level_case : {l : ℕ} (b : Bool) (x y : State) → x.level ≡ l → y.level ≡ l → (cond b x y).level ≡ l
level_case true x y e f = e
level_case false x y e f = f

pub fact_level : {l : ℕ} (t : Term) (s : State) → s.level ≡ l → (with_fact t s).level ≡ l
fact_level t s e = level_case (is_known t s) s (with_entry record { term = t; branch = false } s) e e

pub facts_level : {l : ℕ} (ts : List Term) (s : State) → s.level ≡ l → (with_facts ts s).level ≡ l
facts_level [] s e = e
facts_level (t ∷ ts) s e = facts_level ts (with_fact t s) (fact_level t s e)

pub name_level : {l : ℕ} (t : Term) (s : State) → s.level ≡ l → (after_name t s).level ≡ l
name_level t s e = level_case (is_named t s) s (with_fact (equals (fresh (sort_of t) s) t) (after_fresh s)) e (fact_level (equals (fresh (sort_of t) s) t) (after_fresh s) e)

pub names_level : {l : ℕ} (ts : List Term) (s : State) → s.level ≡ l → (after_names ts s).level ≡ l
names_level [] s e = e
names_level (t ∷ ts) s e = names_level ts (after_name t s) (name_level t s e)

pub put_level : {l : ℕ} (c : Chunk) (s : State) → s.level ≡ l → (put c s).level ≡ l
put_level c s e =
    let facts = put_facts (not (is_quiet s)) s.bounded c s.heap in
    let over = with_heap (put_over (chosen true c 0 s.heap) c s.heap) s in
    level_case (same c.amount zero_amount) s (with_facts facts over) e (facts_level facts over e)

pub seen_level : {l : ℕ} (r u : Term) (cs : List Candidate) (s : State) → s.level ≡ l → (with_value r u cs s).level ≡ l
seen_level r u cs s e = facts_level (value_facts r u cs) (after_fresh s) e

pub shares_level : {l : ℕ} (r n : Term) (cs : List Candidate) (s : State) → s.level ≡ l → (shared_out r n cs s).level ≡ l
shares_level r n [] s e = e
shares_level r n (c ∷ cs) s e =
    let t = share r n c.chunk in
    let taken = name_of t s in
    let s1 = after_name t s in
    let rest = subtract c.chunk.amount taken in
    shares_level r (subtract n taken) cs (with_amount c rest s1) (name_level rest s1 (name_level t s e))

pub written_level : {l : ℕ} (r t : Term) (cs : List Candidate) (s : State) → s.level ≡ l → (written_each r t cs s).level ≡ l
written_level r t [] s e = e
written_level r t (c ∷ cs) s e = let v = value_where r t c.chunk in written_level r t cs (written c v s) (name_level v s e)

pub value_level : {l : ℕ} (a : Sort) (t : Option Term) (s : State) → s.level ≡ l → (after_value a t s).level ≡ l
value_level a None s e = e
value_level a (Some t) s e = fact_level (equals t (wrap a (name_of (unwrap a t) s))) (after_name (unwrap a t) s) (name_level (unwrap a t) s e)

pub snapshot_level : {l : ℕ} (t : Option Term) (s : State) → s.level ≡ l → (after_snapshot t s).level ≡ l
snapshot_level None s e = e
snapshot_level (Some t) s e = name_level t s e

pub split_level : {l : ℕ} (t : Option Term) (s : State) → s.level ≡ l → (with_split t s).level ≡ l
split_level None s e = e
split_level (Some t) s e = fact_level (equals t (pair (first t) (second t))) s e

pub unit_level : {l : ℕ} (t : Option Term) (s : State) → s.level ≡ l → (with_unit t s).level ≡ l
unit_level None s e = e
unit_level (Some t) s e = fact_level (equals t unit) s e

pub wrap_level : {l : ℕ} (x : Context) (a : Sort) (v : Term) (s : State) → s.level ≡ l → (with_built_wrap x a v s).level ≡ l
wrap_level x a v s e = let fact = Binary Equal (written_unwrap a (wrap a v)) v in level_case x.builds (with_fact fact s) s (fact_level fact s e) e

pub pair_level : {l : ℕ} (x : Context) (t u : Term) (s : State) → s.level ≡ l → (with_built_pair x t u s).level ≡ l
pair_level x t u s e = level_case x.builds (with_facts (pair_facts t u) s) s (facts_level (pair_facts t u) s e) e

pub declare_level : {l : ℕ} (ds : List Declaration) (s : State) → s.level ≡ l → (declare_all ds s).level ≡ l
declare_level [] s e = e
declare_level (d ∷ ds) s e = declare_level ds (declare_fresh d.name (sort_of_type d.of) s) e

pub forget_level : {l : ℕ} (done xs : List Name) (s : State) → s.level ≡ l → (forget done xs s).level ≡ l
forget_level done [] s e = e
forget_level done (x ∷ xs) s e =
    let forgotten = with_store (assign x (fresh (sort_of (found x s.store)) s) s.store) (after_fresh s) in
    level_case (is_stored x s.store && not (is_among x done)) (forget (x ∷ done) xs forgotten) (forget done xs s) (forget_level (x ∷ done) xs forgotten e) (forget_level done xs s e)

pub fields_level : {l : ℕ} (p : Program) (fs : List Name) (x : Term) (s : State) → s.level ≡ l → (put_fields p fs x s).level ≡ l
fields_level p [] x s e = e
fields_level p (f ∷ fs) x s e =
    let put_one = record (field_key f x) { amount = whole_amount; value = fresh (field_sort p f) s } in
    fields_level p fs x (put put_one (after_fresh s)) (put_level put_one (after_fresh s) e)
