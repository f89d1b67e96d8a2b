use Rattle.std.proofs.Common.{◌≡◌, ◌++◌, ◌∙◌, sym, subst}
use Rattle.std.specs.Prelude.{OnOk}
use Rattle.ck_cfg.specs.declared.kind.CheckKind.{CheckKind}
use Rattle.ck_cfg.specs.Checks.{kind_checks}
use Rattle.ck_cfg.proofs.Lists.{is_insn}
use Rattle.ck_cfg.proofs.list.put_kind.Goals as goal

pub returns-then-is : goal.returns-then-is
returns-then-is c =
    subst (λ (k : CheckKind). OnOk c.put_rows.result
    (c.put_rows.new.checks ≡ c.args.checks.now ++ kind_checks c.args.config.now k))
    (sym (is_insn c.args.kind (sym c.is.ensures ∙ c.if-is.true))) c.put_rows.ensures
