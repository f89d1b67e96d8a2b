use Rattle.bm_unroll.proofs.Drafting.{source_draft, source_extends, source_means}
use Rattle.bm_unroll.proofs.draft.Draft.source.Goals as goal

pub returns-clause-extends : goal.returns-clause-extends
returns-clause-extends c =
    source_extends c.args.self.now _ c.args.source _ _ c.requires.room.each c.in_ok-push.ensures.items
    c.in_ok-id.ensures.built

pub returns-clause-means : goal.returns-clause-means
returns-clause-means c =
    source_means c.args.self.now _ c.args.source _ _ c.requires.room.each c.in_ok-push.ensures.items
    c.in_ok-id.ensures.built

pub returns-clause-draft : goal.returns-clause-draft
returns-clause-draft c = λ net cycle bound h choice width past.
    source_draft c.args.self.now _ c.args.source _ _ net cycle bound c.in_ok-push.ensures.items
    c.in_ok-push-2.ensures.items c.in_ok-id.ensures.built h choice width past
