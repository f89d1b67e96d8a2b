use Rattle.std.proofs.Common.{◌∙◌, ap, sym}
use Rattle.std.specs.Prelude.{if◌then◌else◌}
use Rattle.vl_elab_spec.specs.Meanings.{meaning_of}
use Rattle.vl_elab_scope.specs.Seen.{seen, names_of}
use Rattle.vl_elab_scope.proofs.level.meaning_behind.Goals as goal

pub returns-then-is_name : goal.returns-then-is_name
returns-then-is_name c =
    ap (λ b. if b then seen c.args.filled.now.first.meaning
    else meaning_of (names_of c.args.filled.now.others.entries) c.args.name.now)
    (sym (sym c.is_name.ensures ∙ c.if-is_name.true))

pub returns-else-is_name : goal.returns-else-is_name
returns-else-is_name c =
    c.other_meaning.ensures
    ∙ ap (λ b. if b then seen c.args.filled.now.first.meaning
    else meaning_of (names_of c.args.filled.now.others.entries) c.args.name.now)
    (sym (sym c.is_name.ensures ∙ c.if-is_name.false))
