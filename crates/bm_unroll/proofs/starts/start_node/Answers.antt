use Rattle.std.proofs.Common.{sym, subst, arith}
use Rattle.wn_net.specs.declared.parts.Init.{Init}
use Rattle.wn_run.specs.Runs.{start_number}
use Rattle.bm_unroll.specs.Frames.{chosen}
use Rattle.bm_unroll.specs.Draft.{Means}
use Rattle.bm_unroll.proofs.Drafting.{draft_more, extends_more, room_less}
use Rattle.bm_unroll.proofs.starts.start_node.Goals as goal

pub known-requires-clause-room : goal.known-requires-clause-room
known-requires-clause-room c = room_less c.args.draft.now 0 1 (omega arith) c.requires.room

pub returns-in_ok-free-in-Free-clause-means : goal.returns-in_ok-free-in-Free-clause-means
returns-in_ok-free-in-Free-clause-means c =
    let P : Init → Type 0 = λ init. Means c.source.new.self c.args.width (λ ch. start_number (chosen ch
    c.args.source) init)
    c.in_ok-free-in-Free.free in
    subst P (sym c.in-Free.is) c.in_ok-free-in-Free.ensures.means

pub returns-in_ok-free-in-Free-clause-draft : goal.returns-in_ok-free-in-Free-clause-draft
returns-in_ok-free-in-Free-clause-draft c = λ net cycle bound h choice width past.
    c.in_ok-free-in-Free.ensures.draft net cycle bound h (choice c.in-Free.is) width past

pub returns-in_ok-known-in-Known-clause-extends : goal.returns-in_ok-known-in-Known-clause-extends
returns-in_ok-known-in-Known-clause-extends c =
    extends_more c.args.draft.now c.known.new.self 0 1 (omega arith) c.in_ok-known-in-Known.ensures.extends

pub returns-in_ok-known-in-Known-clause-draft : goal.returns-in_ok-known-in-Known-clause-draft
returns-in_ok-known-in-Known-clause-draft c = λ net cycle bound h choice width past.
    draft_more net cycle bound _ _ (omega (arith, past)) (c.in_ok-known-in-Known.ensures.draft net cycle bound h)
