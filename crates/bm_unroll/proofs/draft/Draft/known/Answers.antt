use Rattle.bm_unroll.proofs.Drafting.{known_draft, known_extends}
use Rattle.std.specs.Prelude.{refl}
use Rattle.bm_unroll.proofs.draft.Draft.known.Goals as goal

pub returns-clause-extends : goal.returns-clause-extends
returns-clause-extends c =
    known_extends c.args.self.now _ c.requires.room.each refl c.in_ok-id.ensures.built.adds

pub returns-clause-draft : goal.returns-clause-draft
returns-clause-draft c = λ net cycle bound h.
    known_draft c.args.self.now _ net cycle bound refl refl c.in_ok-id.ensures.built.adds h
