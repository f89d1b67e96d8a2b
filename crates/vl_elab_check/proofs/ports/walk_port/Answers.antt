use Rattle.std.proofs.Common.{◌∙◌, ◌++◌, ap, refl, sym, subst}
use Rattle.std.specs.Option.{option_copied}
use Rattle.std.specs.Prelude.{None}
use Rattle.std.proofs.lemmas.Result.{IfOk-weaker, on_ok_weaker}
use Rattle.vl_mean.specs.Walk.{optional_name, port_step}
use Rattle.vl_elab_names.specs.Known.{AreNames}
use Rattle.vl_elab_params.specs.Reached.{IsReached}
use Rattle.vl_elab_spec.specs.Walked.{AreWalked}
use Rattle.vl_elab_spec.proofs.Passed.{none_walked}
use Rattle.vl_elab_decls.specs.Clocks.{port_text}
use Rattle.vl_elab_check.specs.Ports.{port_value}
use Rattle.vl_elab_check.proofs.ItemKinds.{no_names, none_reached}
use Rattle.vl_elab_check.proofs.Rest.{full_is, none_of}
use Rattle.vl_elab_check.proofs.ports.walk_port.Goals as goal

pub returns-in-None-clause-walked : goal.returns-in-None-clause-walked
returns-in-None-clause-walked c ms at u t same names known =
    let gone = none_of (option_copied c.args.last) c.args.port.now.kind
    (sym c.next_full.ensures ∙ ap option_copied c.in-None.is) in
    subst (λ q. AreWalked ms t c.args.totals.now (port_step at u c.args.port.now q) None) (sym gone)
    (none_walked ms t c.args.totals.now known)

pub returns-in-None-clause-earlier : goal.returns-in-None-clause-earlier
returns-in-None-clause-earlier c before names =
    let gone = none_of (option_copied c.args.last) c.args.port.now.kind
    (sym c.next_full.ensures ∙ ap option_copied c.in-None.is) in
    subst (λ q. AreNames c.args.earlier.now (before ++ optional_name q)) (sym gone)
    (no_names c.args.earlier.now before names)

pub returns-in-None-clause-reached : goal.returns-in-None-clause-reached
returns-in-None-clause-reached c at before same reached =
    let gone = none_of (option_copied c.args.last) c.args.port.now.kind
    (sym c.next_full.ensures ∙ ap option_copied c.in-None.is) in
    subst (λ q. IsReached c.args.reached.now at (before ++ optional_name q)) (sym gone)
    (none_reached c.args.reached.now at before reached)

pub returns-in-Some-clause-walked : goal.returns-in-Some-clause-walked
returns-in-Some-clause-walked c =
    let kind = c.args.port.now.kind in
    let full = full_is (option_copied c.args.last) kind c.in-Some.full.now (port_text kind) (port_value kind)
    (sym c.next_full.ensures ∙ ap option_copied c.in-Some.is) refl refl in
    IfOk-weaker c.walk_full.result _ _ (λ g h ms at u t same names known.
    subst (λ q. AreWalked ms t c.walk_full.new.totals (port_step at u c.args.port.now q) g) (sym full)
    (h ms at u t same names known)) c.walk_full.ensures.walked

pub returns-in-Some-clause-earlier : goal.returns-in-Some-clause-earlier
returns-in-Some-clause-earlier c =
    let kind = c.args.port.now.kind in
    let full = full_is (option_copied c.args.last) kind c.in-Some.full.now (port_text kind) (port_value kind)
    (sym c.next_full.ensures ∙ ap option_copied c.in-Some.is) refl refl in
    on_ok_weaker c.walk_full.result (λ h before names.
    subst (λ q. AreNames c.walk_full.new.earlier (before ++ optional_name q)) (sym full) (h before names))
    c.walk_full.ensures.earlier

pub returns-in-Some-clause-reached : goal.returns-in-Some-clause-reached
returns-in-Some-clause-reached c =
    let kind = c.args.port.now.kind in
    let full = full_is (option_copied c.args.last) kind c.in-Some.full.now (port_text kind) (port_value kind)
    (sym c.next_full.ensures ∙ ap option_copied c.in-Some.is) refl refl in
    on_ok_weaker c.walk_full.result (λ h at before same reached.
    subst (λ q. IsReached c.walk_full.new.reached at (before ++ optional_name q)) (sym full)
    (h at before same reached)) c.walk_full.ensures.reached
