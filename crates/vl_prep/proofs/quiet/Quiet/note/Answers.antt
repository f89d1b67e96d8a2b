use Rattle.std.proofs.Common.{◌∙◌}
use Rattle.fv_text.proofs.Lookups.{lookup_after}
use Rattle.vl_prep.proofs.Quieted.{seen_before}
use Rattle.vl_prep.proofs.quiet.Quiet.note.Goals as goal

pub returns-clause-ok : goal.returns-clause-ok
returns-clause-ok c =
    record {
      there = c.keep.ensures.there;
      same = λ other n e l. c.keep.ensures.same other n
          (seen_before c.keep.new.self _ other c.args.levels n _ _ _
          (lookup_after (λ key. key.items) _ _ other _ _ _ c.in_ok-insert.ensures.entries
          (c.in_ok-key.ensures.items ∙ c.bytes.ensures)) c.seen.ensures c.with_level-seen.ensures e l);
    }
