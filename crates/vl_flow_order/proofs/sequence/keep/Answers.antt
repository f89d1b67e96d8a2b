use Rattle.std.proofs.Common.{length, refl, ap, ◌∙◌}
use Rattle.std.proofs.lemmas.Option.{slice_get_read}
use Rattle.vl_flow_order.proofs.Orders.{is_kept, not_kept}
use Rattle.vl_flow_order.proofs.sequence.keep.Goals as goal

pub returns-then-is_clocked : goal.returns-then-is_clocked
returns-then-is_clocked c =
    let fs = c.args.footprints.now in
    let f = c.index-footprints-number.result in
    not_kept fs c.args.number f
    (slice_get_read fs (length fs) c.args.number f refl c.requires c.index-footprints-number.is) c.args.kept.now
    (ap (λ g. g.is_clocked) c.index-footprints-number.is ∙ c.if-is_clocked.true)

pub returns : goal.returns
returns c =
    let fs = c.args.footprints.now in
    let f = c.index-footprints-number.result in
    is_kept fs c.args.number f
    (slice_get_read fs (length fs) c.args.number f refl c.requires c.index-footprints-number.is) c.args.kept.now
    c.push.new.self
    (ap (λ g. g.is_clocked) c.index-footprints-number.is ∙ c.if-is_clocked.false) c.in_ok-push.ensures.ok
