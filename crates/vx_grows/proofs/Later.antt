-- What is done to a state leaves its path, or adds entries to it.
use Rattle.std.proofs.Common.{◌≡◌, Bool, true, false, not, cond, ◌&&◌, List, [], ◌∷◌, ◌++◌, Option, Some, None, refl, ap}
use Rattle.std.specs.Prelude.{nat_lt}
use Rattle.vx_ast.specs.Syntax.{Name, result_name, conjoined, Program, Declaration, Function}
use Rattle.vx_ast.specs.Mentions.{is_among}
use Rattle.vx_terms.specs.Sorts as sort
use Rattle.vx_terms.specs.Sorts.{Sort}
use Rattle.vx_terms.specs.Terms as term
use Rattle.vx_terms.specs.Terms.{Term, same, sort_of}
use Rattle.vx_terms.specs.Build.{equals, subtract, wrap, written_unwrap, unwrap, whole_amount, zero_amount}
use Rattle.vx_rules.specs.States.{sort_of_type, found, is_stored, assign, bind, Entry, Chunk, State, is_quiet, with_store, with_heap, is_known, with_entry, with_fact, with_facts, with_branch, path_terms, fresh, after_fresh, declare_fresh, declare_all, is_named, name_of, after_name}
use Rattle.vx_rules.specs.Chunks.{field_key, Candidate, chosen, value_facts, with_value, with_amount, written, share, shared_out, value_where, written_each, put_over, put_facts, put}
use Rattle.vx_rules.specs.Rules.{Context, Outer, field_sort, with_built_wrap, with_built_pair, pair_facts, after_value, after_snapshot, with_split, with_unit, gathered, quietly, sides_of, with_body, with_promise, with_equations}
use Rattle.vx_rules.specs.Members.{forget, put_fields, after_names}
use Rattle.vx_grows.specs.Grows.{Begins}
use Rattle.vx_grows.proofs.Bases.{itself, further}

-- a state's path begins with that of one before it
pub record Later (s t : State) : Type 0 where
  pub begins : Begins (path_terms s.path) (path_terms t.path)

pub stays : {s : State} → Later s s
stays = record { begins = itself }

pub after : {s t u : State} → Later s t → Later t u → Later s u
after k l = record { begins = further k.begins l.begins }

-- Facts and branches

one_more : (es : List Entry) (e : Entry) → path_terms (es ++ e ∷ []) ≡ path_terms es ++ e.term ∷ []
one_more [] e = refl
one_more (x ∷ es) e = ap (λ ts. x.term ∷ ts) (one_more es e)

pub entry_later : (e : Entry) (s : State) → Later s (with_entry e s)
entry_later e s = record { begins = record { rest = e.term ∷ []; is = one_more s.path e } }

pub branch_later : (t : Term) (s : State) → Later s (with_branch t s)
branch_later t s = entry_later (record { term = t; branch = true }) s

pub fact_later : (t : Term) (s : State) → Later s (with_fact t s)
fact_later t s = go (is_known t s)
  where
    go : (b : Bool) → Later s (cond b s (with_entry record { term = t; branch = false } s))
    go true = stays
    go false = entry_later record { term = t; branch = false } s

pub facts_later : (ts : List Term) (s : State) → Later s (with_facts ts s)
facts_later [] s = stays
facts_later (t ∷ ts) s = after (fact_later t s) (facts_later ts (with_fact t s))

-- Names

pub name_later : (t : Term) (s : State) → Later s (after_name t s)
name_later t s = go (is_named t s)
  where
    go : (b : Bool) → Later s (cond b s (with_fact (equals (fresh (sort_of t) s) t) (after_fresh s)))
    go true = stays
    go false = record { begins = (fact_later (equals (fresh (sort_of t) s) t) (after_fresh s)).begins }

pub names_later : (ts : List Term) (s : State) → Later s (after_names ts s)
names_later [] s = stays
names_later (t ∷ ts) s = after (name_later t s) (names_later ts (after_name t s))

pub declared_later : (ds : List Declaration) (s : State) → Later s (declare_all ds s)
declared_later [] s = stays
declared_later (d ∷ ds) s = record { begins = (declared_later ds (declare_fresh d.name (sort_of_type d.of) s)).begins }

pub forgotten_later : (done xs : List Name) (s : State) → Later s (forget done xs s)
forgotten_later done [] s = stays
forgotten_later done (x ∷ xs) s = go (is_stored x s.store && not (is_among x done)) (record { begins = (forgotten_later (x ∷ done) xs renewed).begins }) (forgotten_later done xs s)
  where
    renewed : State
    renewed = with_store (assign x (fresh (sort_of (found x s.store)) s) s.store) (after_fresh s)

    go : (b : Bool) → Later s (forget (x ∷ done) xs renewed) → Later s (forget done xs s) → Later s (cond b (forget (x ∷ done) xs renewed) (forget done xs s))
    go true k l = k
    go false k l = l

-- Chunks

pub put_later : (c : Chunk) (s : State) → Later s (put c s)
put_later c s = go (same c.amount zero_amount)
  where
    facts : List Term
    facts = put_facts (not (is_quiet s)) s.bounded c s.heap

    held : State
    held = with_heap (put_over (chosen true c 0 s.heap) c s.heap) s

    go : (b : Bool) → Later s (cond b s (with_facts facts held))
    go true = stays
    go false = record { begins = (facts_later facts held).begins }

pub seen_later : (r u : Term) (cs : List Candidate) (s : State) → Later s (with_value r u cs s)
seen_later r u cs s = record { begins = (facts_later (value_facts r u cs) (after_fresh s)).begins }

pub written_later : (c : Candidate) (t : Term) (s : State) → Later s (written c t s)
written_later c t s = record { begins = (name_later t s).begins }

amount_later : (c : Candidate) (b : Term) (s : State) → Later s (with_amount c b s)
amount_later c b s = record { begins = (name_later b s).begins }

pub shares_later : (r n : Term) (cs : List Candidate) (s : State) → Later s (shared_out r n cs s)
shares_later r n [] s = stays
shares_later r n (c ∷ cs) s =
    let t = share r n c.chunk in
    let taken = name_of t s in
    let s1 = after_name t s in
    let kept = subtract c.chunk.amount taken in
    after (name_later t s) (after (amount_later c kept s1) (shares_later r (subtract n taken) cs (with_amount c kept s1)))

pub each_later : (r t : Term) (cs : List Candidate) (s : State) → Later s (written_each r t cs s)
each_later r t [] s = stays
each_later r t (c ∷ cs) s =
    let v = value_where r t c.chunk in
    after (written_later c v s) (each_later r t cs (written c v s))

pub fields_later : (p : Program) (fs : List Name) (x : Term) (s : State) → Later s (put_fields p fs x s)
fields_later p [] x s = stays
fields_later p (f ∷ fs) x s =
    let new = record (field_key f x) { amount = whole_amount; value = fresh (field_sort p f) s } in
    let k = put_later new (after_fresh s) in
    after (record { begins = k.begins }) (fields_later p fs x (put new (after_fresh s)))

-- Snapshots

pub value_later : (a : Sort) (snapshot : Option Term) (s : State) → Later s (after_value a snapshot s)
value_later a None s = record { begins = itself }
value_later a (Some t) s = after (name_later (unwrap a t) s) (fact_later _ (after_name (unwrap a t) s))

pub snapshot_later : (snapshot : Option Term) (s : State) → Later s (after_snapshot snapshot s)
snapshot_later None s = record { begins = itself }
snapshot_later (Some t) s = name_later t s

pub split_later : (snapshot : Option Term) (s : State) → Later s (with_split snapshot s)
split_later None s = stays
split_later (Some t) s = fact_later _ s

pub unit_later : (snapshot : Option Term) (s : State) → Later s (with_unit snapshot s)
unit_later None s = stays
unit_later (Some t) s = fact_later _ s

pub built_wrap_later : (x : Context) (a : Sort) (v : Term) (s : State) → Later s (with_built_wrap x a v s)
built_wrap_later x a v s = go x.builds (term.Binary sort.Equal (written_unwrap a (wrap a v)) v)
  where
    go : (b : Bool) (t : Term) → Later s (cond b (with_fact t s) s)
    go true t = fact_later t s
    go false t = stays

pub built_pair_later : (x : Context) (t u : Term) (s : State) → Later s (with_built_pair x t u s)
built_pair_later x t u s = go x.builds
  where
    go : (b : Bool) → Later s (cond b (with_facts (pair_facts t u) s) s)
    go true = facts_later (pair_facts t u) s
    go false = stays

-- What an application tells

module _ (p : Program) (o : Outer) (g : Function) (ts : List Term) (snapshot t : Term) where
  body_later : (s : State) → Later s (with_body p o g ts snapshot t s)
  body_later s =
      let start = quietly p o (bind g.parameters ts) s in
      facts_later (gathered start (λ w. equals t w) (sides_of p o g g.body snapshot start)) s

  promise_later : (s : State) → Later s (with_promise p o g ts snapshot t s)
  promise_later s =
      let start = quietly p o (bind g.parameters ts ++ (result_name, t) ∷ []) s in
      facts_later (gathered start (λ w. w) (sides_of p o g (conjoined g.place g.ensures) snapshot start)) s

  pub equations_later : (s : State) → Later s (with_equations p o g ts snapshot t s)
  equations_later s = go (nat_lt s.level 3)
    where
      go : (b : Bool) → Later s (cond b (with_promise p o g ts snapshot t (with_body p o g ts snapshot t s)) s)
      go true = after (body_later s) (promise_later (with_body p o g ts snapshot t s))
      go false = stays
