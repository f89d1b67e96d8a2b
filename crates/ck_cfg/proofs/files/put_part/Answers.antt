use Rattle.std.proofs.Common.{◌∙◌, ap, sym, ◌++◌, None, Some}
use Rattle.std.proofs.lemmas.Bool.Decides.{Decides-eqb}
use Rattle.std.proofs.lemmas.Slice.Eq.{strip_prefix_is}
use Rattle.ck_cfg.proofs.Fills.{base_put, core_put, byte_put}
use Rattle.ck_cfg.proofs.files.put_part.Goals as goal

pub returns-in-Some-clause-same : goal.returns-in-Some-clause-same
returns-in-Some-clause-same c =
    let s = strip_prefix_is Decides-eqb c.args.name.now c.as_slice.result.now
    (Some c.in-Some.rest) c.in-Some.ensures.cases in
    base_put c.args.core.now c.args.basedir.now c.args.name.now c.in-Some.rest.now c.args.out.now.items
    c.extend_from_slice.new.self.items (s ∙ ap
    (λ p. p ++ c.in-Some.rest.now) c.as_slice.ensures) c.in_ok-extend_from_slice.ensures.items

pub returns-in-Some-strip_prefix-clause-same : goal.returns-in-Some-strip_prefix-clause-same
returns-in-Some-strip_prefix-clause-same c =
    let s = strip_prefix_is Decides-eqb c.args.name.now c.as_slice-2.result.now
    (Some c.in-Some-strip_prefix.rest) c.in-Some-strip_prefix.ensures.cases in
    core_put c.args.core.now c.args.basedir.now c.args.name.now c.in-Some-strip_prefix.rest.now c.args.out.now.items
    c.extend_from_slice-in-Some-strip_prefix.new.self.items
    (s ∙ ap (λ p. p ++ c.in-Some-strip_prefix.rest.now) c.as_slice-2.ensures)
    c.in_ok-extend_from_slice-2.ensures.items

pub returns-clause-same : goal.returns-clause-same
returns-clause-same c =
    byte_put c.args.core.now c.args.basedir.now c.args.name.now c.args.out.now.items c.push.new.self.items c.requires
    (λ rest e. strip_prefix_is Decides-eqb c.args.name.now c.as_slice.result.now None c.in_default.ensures.cases rest
    (e ∙ ap (λ p. p ++ rest) (sym c.as_slice.ensures)))
    (λ rest e. strip_prefix_is Decides-eqb c.args.name.now c.as_slice-2.result.now None
    c.in_default-strip_prefix.ensures.cases rest (e ∙ ap (λ p. p ++ rest) (sym c.as_slice-2.ensures)))
    c.in_ok-push.ensures.items
