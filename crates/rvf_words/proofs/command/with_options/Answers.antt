use Rattle.std.proofs.Common.{◌≡◌, ap, ap₂, ◌∙◌, codes}
use Rattle.std.proofs.lemmas.Result.{IfOk-weaker}
use Rattle.clap.specs.Words.{App, app_of, with_rule}
use Rattle.rvf_words.specs.Table.{choice, operand}
use Rattle.rvf_words.proofs.command.with_options.Goals as goal

abbrev config : App → App
config app = with_rule app (operand (codes "cfg"))

abbrev folder : App → App
folder app = with_rule (config app) (operand (codes "outdir"))

abbrev core : App → App
core app = with_rule (folder app) (choice (codes "core") (codes "core"))

abbrev base : App → App
base app = with_rule (core app) (choice (codes "basedir") (codes "."))

abbrev budget : App → App
budget app = with_rule (base app) (choice (codes "budget") (codes "200000"))

pub returns-clause-shape : goal.returns-clause-shape
returns-clause-shape c =
    let app : App = app_of c.args.command in
    let config_is : app_of c.in_ok-config.config ≡ config app =
    c.in_ok-config.ensures.shape ∙ ap (with_rule app) c.operand.ensures.rule in
    let folder_is : app_of c.in_ok-folder.folder ≡ folder app =
    c.in_ok-folder.ensures.shape ∙ ap₂ with_rule config_is c.operand-2.ensures.rule in
    let core_is : app_of c.in_ok-core.core ≡ core app =
    c.in_ok-core.ensures.shape ∙ ap₂ with_rule folder_is c.choice.ensures.rule in
    let base_is : app_of c.in_ok-base.base ≡ base app =
    c.in_ok-base.ensures.shape ∙ ap₂ with_rule core_is c.choice-2.ensures.rule in
    let budget_is : app_of c.in_ok-budget.budget ≡ budget app =
    c.in_ok-budget.ensures.shape ∙ ap₂ with_rule base_is c.choice-3.ensures.rule in
    IfOk-weaker c.with-6.result _ _ (λ m h. h ∙ ap₂ with_rule budget_is c.choice-4.ensures.rule) c.with-6.ensures.shape
