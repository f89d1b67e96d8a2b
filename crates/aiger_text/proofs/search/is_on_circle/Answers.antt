use Rattle.std.proofs.Common.{◌≡◌, length, refl, subst, arith}
use Rattle.std.proofs.lemmas.Bool.{false≢true}
use Rattle.std.specs.Bool.{MatchBool}
use Rattle.fv_graph.specs.Graph.{targets}
use Rattle.aiger_text.specs.Circles.{Waits, Follows}
use Rattle.aiger_text.proofs.RowLaws.{row_read, row_within, none_left}
use Rattle.aiger_text.proofs.SearchLaws.{begins, there, closes, goes_on, no_circle}
use Rattle.aiger_text.proofs.search.is_on_circle.Goals as goal

pub loop-next-init : goal.loop-next-init
loop-next-init c =
    begins c.args.graph.now c.args.node (length c.args.graph.now) c.in_ok-search.search.found.items
    c.in_ok-search.search.waiting.items refl c.requires.there c.in_ok-search.ensures.found
    c.in_ok-search.ensures.waiting

-- the node that was taken off is there
pub bounds-graph-next : goal.bounds-graph-next
bounds-graph-next c =
    there c.args.graph.now c.args.node c.in-Some.next (targets c.args.graph.now c.in-Some.next)
    c.loop-next.search.found.items c.loop-next.search.waiting.items c.pop.new.self.items c.in-Some.ensures.items refl
    c.loop-next.invariant

pub follow-requires : goal.follow-requires
follow-requires c =
    let less = there c.args.graph.now c.args.node c.in-Some.next (targets c.args.graph.now c.in-Some.next)
    c.loop-next.search.found.items c.loop-next.search.waiting.items c.pop.new.self.items c.in-Some.ensures.items refl
    c.loop-next.invariant in
    row_within c.args.graph.now c.in-Some.next (length c.loop-next.search.found.items) c.as_slice.result.now
    c.requires.within
    (row_read c.args.graph.now c.in-Some.next c.as_slice.result.now c.index-graph-next.result less c.as_slice.ensures
    c.index-graph-next.is) c.loop-next.invariant.size

-- a target is the goal
pub returns-then-branch : goal.returns-then-branch
returns-then-branch c =
    let less = there c.args.graph.now c.args.node c.in-Some.next (targets c.args.graph.now c.in-Some.next)
    c.loop-next.search.found.items c.loop-next.search.waiting.items c.pop.new.self.items c.in-Some.ensures.items refl
    c.loop-next.invariant in (
      λ t. closes c.args.graph.now c.args.node c.in-Some.next c.as_slice.result.now c.loop-next.search.found.items
          c.loop-next.search.waiting.items c.pop.new.self.items c.in-Some.ensures.items
          (row_read c.args.graph.now c.in-Some.next c.as_slice.result.now c.index-graph-next.result less
          c.as_slice.ensures c.index-graph-next.is) c.loop-next.invariant
          (subst (λ b. MatchBool b (Waits c.as_slice.result.now c.args.node) (Follows c.as_slice.result.now c.args.node
          c.loop-next.search.found.items c.pop.new.self.items c.follow.new.self.found.items
          c.follow.new.self.waiting.items)) c.if-branch.true c.in_ok-follow.ensures),
      λ k. refl,
    )

pub loop-next-preserved : goal.loop-next-preserved
loop-next-preserved c =
    let less = there c.args.graph.now c.args.node c.in-Some.next (targets c.args.graph.now c.in-Some.next)
    c.loop-next.search.found.items c.loop-next.search.waiting.items c.pop.new.self.items c.in-Some.ensures.items refl
    c.loop-next.invariant in
    goes_on c.args.graph.now c.args.node c.in-Some.next c.as_slice.result.now c.loop-next.search.found.items
    c.loop-next.search.waiting.items c.pop.new.self.items c.in-Some.ensures.items
    (row_read c.args.graph.now c.in-Some.next c.as_slice.result.now c.index-graph-next.result less c.as_slice.ensures
    c.index-graph-next.is) c.loop-next.invariant c.follow.new.self.found.items c.follow.new.self.waiting.items
    c.requires.within
    (subst (λ b. MatchBool b (Waits c.as_slice.result.now c.args.node) (Follows c.as_slice.result.now c.args.node
    c.loop-next.search.found.items c.pop.new.self.items c.follow.new.self.found.items
    c.follow.new.self.waiting.items)) c.if-branch.false c.in_ok-follow.ensures)

-- nothing waits any more
pub returns : goal.returns
returns c =
    let e : length c.loop-next.search.waiting.items ≡ 0 =
    omega (arith, c.in_default.ensures.cases.0, c.loop-next.search.waiting.ok.0) in (
      λ t. absurd (false≢true t),
      λ k. absurd (no_circle c.args.graph.now c.args.node c.loop-next.search.found.items
          c.loop-next.search.waiting.items (none_left c.loop-next.search.waiting.items e) c.loop-next.invariant k),
    )
