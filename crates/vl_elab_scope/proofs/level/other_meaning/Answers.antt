use Rattle.std.proofs.Common.{◌∙◌, ap}
use Rattle.vl_elab_spec.specs.Meanings.{meaning_of}
use Rattle.vl_elab_scope.specs.Seen.{seen_or, names_of}
use Rattle.vl_elab_scope.proofs.Levels.{lookup_seen, none_seen_among}
use Rattle.vl_elab_scope.proofs.level.other_meaning.Goals as goal

pub returns-then-is_empty : goal.returns-then-is_empty
returns-then-is_empty c =
    none_seen_among c.args.name.now c.args.others.now.entries (c.is_empty.ensures.0 c.if-is_empty.true)

pub returns-else-is_empty : goal.returns-else-is_empty
returns-else-is_empty c =
    ap seen_or c.get.ensures.value ∙ lookup_seen c.bytes.result.now c.args.others.now.entries
    ∙ ap (λ n. meaning_of (names_of c.args.others.now.entries) n) c.bytes.ensures
