use Rattle.std.proofs.Common.{sym, ap, ◌∙◌, refl, length, arith}
use Rattle.std.specs.Prelude.{nat_lt}
use Rattle.std.specs.Ordering.{nat_cmp, is_le}
use Rattle.std.proofs.lemmas.Cmp.{same_from_slice_cmp_tested}
use Rattle.std.proofs.lemmas.Bool.Decides.{nat_tests}
use Rattle.ck_cfg.specs.Digits.{significant}
use Rattle.ck_cfg.proofs.Compared.{in_order, by_length, by_order}
use Rattle.ck_cfg.proofs.digits.is_at_most.Goals as goal

pub returns-then-first-second : goal.returns-then-first-second
returns-then-first-second c =
    ap (λ x. nat_lt (length x) (length c.significant-second.result.now)) c.significant-first.ensures
    ∙ ap (λ x. nat_lt (length (significant c.args.first.now)) (length x)) c.significant-second.ensures
    ∙ by_length c.args.first.now c.args.second.now c.requires.first c.requires.second
    (λ e. c.if-first-second.true (ap length c.significant-first.ensures ∙ e
    ∙ ap length (sym c.significant-second.ensures)))

pub returns : goal.returns
returns c =
    let by = same_from_slice_cmp_tested nat_cmp is_le in_order refl (λ _ _. refl) (λ _ _. refl)
    (λ x y xs ys o h. grind (arith, nat_tests)) in
    by c.significant-first.result.now c.significant-second.result.now c.le.result c.le.ensures
    ∙ ap (λ x. in_order x c.significant-second.result.now) c.significant-first.ensures
    ∙ ap (λ x. in_order (significant c.args.first.now) x) c.significant-second.ensures
    ∙ by_order c.args.first.now c.args.second.now c.requires.first c.requires.second
    (sym (ap length c.significant-first.ensures) ∙ c.if-first-second.false ∙ ap length c.significant-second.ensures)
