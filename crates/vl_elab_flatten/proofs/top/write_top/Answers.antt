use Rattle.std.proofs.Common.{◌≡◌, ◌∙◌, ◌<◌, ◌-◌, [], ap, refl, subst, sym, length}
use Rattle.std.specs.Option.{option_copied}
use Rattle.std.proofs.lemmas.Result.{on_ok_weaker}
use Rattle.vl_elab_decls.specs.declared.inputs.Inputs.TheVariants as i
use Rattle.vl_elab_decls.specs.Inputs.{AreInputs}
use Rattle.vl_mean.specs.Walk.{module_scope}
use Rattle.vl_elab_const.specs.Given.{IsGiven, value_given}
use Rattle.vl_elab_const.specs.Openable.{IsOpenable}
use Rattle.vl_elab_flatten.proofs.Adding.{given_nothing}
use Rattle.vl_elab_flatten.specs.Modules.{IsModuleOpened}
use Rattle.vl_elab_spec.proofs.Unfolded.{named_is}
use Rattle.vl_elab_flatten.specs.Ready.{IsReady, Writes, design_seen, opened_seen, top_use}
use Rattle.vl_elab_flatten.proofs.Seens.{writes_nothing}
use Rattle.vl_elab_flatten.proofs.Unfolding.{no_top, opened_declares, top_opens, top_ready, top_written}
use Rattle.vl_elab_flatten.proofs.top.write_top.Goals as goal

pub find-requires : goal.find-requires
find-requires c = c.requires.table

pub open_module-requires : goal.open_module-requires
open_module-requires c =
    let ms = c.args.modules.now in
    let m = c.in-Some.module.now in
    let positive : 0 < length ms = (named_is ms c.args.top.now m (sym c.in-Some.ensures)).some in
    record {
      used = top_use;
      inputs_are = record { top = refl; stands = λ text. refl };
      given_is = given_nothing (value_given c.new-nothing.result) c.new-nothing.ensures;
      openable = subst (λ p. IsOpenable (module_scope m top_use p)) (sym c.top.ensures)
          (top_opens ms c.args.top.now m c.in-Some.ensures positive c.args.draft.now c.requires.ready);
    }

pub write_opened-requires : goal.write_opened-requires
write_opened-requires c =
    let ms = c.args.modules.now in
    let m = c.in-Some.module.now in
    let positive : 0 < length ms = (named_is ms c.args.top.now m (sym c.in-Some.ensures)).some in
    let inputs : AreInputs i.Top top_use = record { top = refl; stands = λ text. refl } in
    let given : IsGiven (value_given c.new-nothing.result) [] =
    given_nothing (value_given c.new-nothing.result) c.new-nothing.ensures in
    let is : IsModuleOpened m top_use [] c.in_ok-opened.opened =
    subst (λ p. IsModuleOpened m top_use p c.in_ok-opened.opened) c.top.ensures
    (c.in_ok-opened.ensures top_use inputs given) in
    record {
      table = c.requires.table;
      numbers = is.numbers;
      declared = opened_declares ms (length ms - 1) m top_use [] [] c.in_ok-opened.opened is;
      ready = subst (λ n. IsReady c.args.draft.now (opened_seen ms n m c.in_ok-opened.opened))
          (sym c.saturating_sub-depth.ensures)
          (top_ready ms c.args.top.now m c.in-Some.ensures positive c.in_ok-opened.opened is c.args.draft.now
          c.requires.ready);
    }

pub returns-in_default : goal.returns-in_default
returns-in_default c =
    writes_nothing c.args.draft.now (design_seen c.args.modules.now c.args.top.now)
    (no_top c.args.modules.now c.args.top.now (sym (ap option_copied c.in_default.is) ∙ c.find.ensures))

pub returns : goal.returns
returns c =
    let ms = c.args.modules.now in
    let m = c.in-Some.module.now in
    let positive : 0 < length ms = (named_is ms c.args.top.now m (sym c.in-Some.ensures)).some in
    let inputs : AreInputs i.Top top_use = record { top = refl; stands = λ text. refl } in
    let given : IsGiven (value_given c.new-nothing.result) [] =
    given_nothing (value_given c.new-nothing.result) c.new-nothing.ensures in
    let is : IsModuleOpened m top_use [] c.in_ok-opened.opened =
    subst (λ p. IsModuleOpened m top_use p c.in_ok-opened.opened) c.top.ensures
    (c.in_ok-opened.ensures top_use inputs given) in
    on_ok_weaker c.write_opened.result (λ h. top_written ms c.args.top.now m c.in-Some.ensures positive
    c.in_ok-opened.opened is c.args.draft.now c.write_opened.new.draft
    (subst (λ n. Writes c.args.draft.now (opened_seen ms n m c.in_ok-opened.opened) c.write_opened.new.draft)
    c.saturating_sub-depth.ensures h)) c.write_opened.ensures
