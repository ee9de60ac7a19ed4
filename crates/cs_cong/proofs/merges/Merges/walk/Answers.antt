use Rattle.std.proofs.Common.{◌≡◌, ℕ, ◌<◌, ◌+◌, List, ◌++◌, ◌∷◌, [], length, Some, subst, sym, arith}
use Rattle.std.proofs.lemmas.List.Elements.{All-pop}
use Rattle.cs_cong.specs.declared.paths.Onward.{Onward}
use Rattle.cs_cong.specs.Walks.{walk}
use Rattle.cs_cong.proofs.Onward.{Going, IsIn, behind, weight, load, none_left, parted, lighter, resumed, lighter_on, ended}
use Rattle.cs_cong.proofs.merges.Merges.walk.Goals as goal

pub go-preserved-in-Some : goal.go-preserved-in-Some
go-preserved-in-Some c =
    let log = c.args.self.now.log.items in
    let n = length c.args.self.now.links.items in
    let going = λ (to : ℕ) (ps : List Onward). Going log n c.args.time c.args.a c.args.b c.args.edges.now.items c.in-Some.edge.merge c.go.from to ps c.go.edges.items in
    let next = parted log n c.args.time c.args.a c.args.b c.args.edges.now.items c.go.until c.go.from c.go.to c.args.self.now.within c.go.pending.items c.go.edges.items c.in-Some.edge c.go.invariant c.in-Some.ensures in
    subst (λ ps. going c.start_of_edge-to.result ps) (sym c.in_ok-push.ensures.items) (subst (λ to. going to (c.go.pending.items ++ record { edge = c.in-Some.edge; to = c.go.to } ∷ [])) (sym c.start_of_edge-to.ensures) next)

pub go-smaller-in-Some : goal.go-smaller-in-Some
go-smaller-in-Some c =
    let log = c.args.self.now.log.items in
    let n = length c.args.self.now.links.items in
    let less = λ (to : ℕ) (ps : List Onward). weight (walk log c.in-Some.edge.merge c.go.from to) + load log ps < weight (walk log c.go.until c.go.from c.go.to) + load log c.go.pending.items in
    let next = lighter log n c.args.time c.args.a c.args.b c.args.edges.now.items c.go.until c.go.from c.go.to c.args.self.now.within c.go.pending.items c.in-Some.edge c.in-Some.ensures in
    subst (λ ps. less c.start_of_edge-to.result ps) (sym c.in_ok-push.ensures.items) (subst (λ to. less to (c.go.pending.items ++ record { edge = c.in-Some.edge; to = c.go.to } ∷ [])) (sym c.start_of_edge-to.ensures) next)

pub end_of_edge-from-requires : goal.end_of_edge-from-requires
end_of_edge-from-requires c =
    let is = IsIn c.args.self.now.log.items (length c.args.self.now.links.items) in
    (All-pop is c.go.pending.items c.pop.new.self.items (Some c.in-Some-pop.next) c.in-Some-pop.ensures.items c.go.invariant.all_in).1.0

pub go-preserved : goal.go-preserved
go-preserved c =
    let log = c.args.self.now.log.items in
    let n = length c.args.self.now.links.items in
    let o = c.in-Some-pop.next in
    let old = c.args.edges.now.items in
    let before = subst (λ ps. Going log n c.args.time c.args.a c.args.b old c.go.until c.go.from c.go.to ps c.go.edges.items) c.in-Some-pop.ensures.items c.go.invariant in
    let next = resumed log n c.args.time c.args.a c.args.b old c.go.until c.go.from c.go.to c.args.self.now.within c.pop.new.self.items o c.go.edges.items before c.in_default.ensures in
    subst (λ es. Going log n c.args.time c.args.a c.args.b old o.edge.merge c.end_of_edge-from.result o.to c.pop.new.self.items es) (sym c.in_ok-push-2.ensures.items)
    (subst (λ from. Going log n c.args.time c.args.a c.args.b old o.edge.merge from o.to c.pop.new.self.items (c.go.edges.items ++ o.edge ∷ [])) (sym c.end_of_edge-from.ensures) next)

pub go-smaller : goal.go-smaller
go-smaller c =
    let log = c.args.self.now.log.items in
    let n = length c.args.self.now.links.items in
    let o = c.in-Some-pop.next in
    let next = lighter_on log n c.args.time c.args.a c.args.b c.args.edges.now.items c.go.until c.go.from c.go.to c.args.self.now.within c.pop.new.self.items o in
    subst (λ from. weight (walk log o.edge.merge from o.to) + load log c.pop.new.self.items < weight (walk log c.go.until c.go.from c.go.to) + load log c.go.pending.items) (sym c.end_of_edge-from.ensures)
    (subst (λ ps. weight (behind log o) + load log c.pop.new.self.items < weight (walk log c.go.until c.go.from c.go.to) + load log ps) (sym c.in-Some-pop.ensures.items) next)

pub returns-in_default-pop : goal.returns-in_default-pop
returns-in_default-pop c =
    let log = c.args.self.now.log.items in
    let n = length c.args.self.now.links.items in
    let old = c.args.edges.now.items in
    let empty : length c.go.pending.items ≡ 0 = omega (arith, c.go.pending.ok.0, c.in_default-pop.ensures.cases.0) in
    let at_end = subst (λ ps. Going log n c.args.time c.args.a c.args.b old c.go.until c.go.from c.go.to ps c.go.edges.items) (none_left c.go.pending.items empty) c.go.invariant in
    ended log n c.args.time c.args.a c.args.b old c.go.until c.go.from c.go.to c.args.self.now.within c.go.edges.items at_end c.in_default.ensures
