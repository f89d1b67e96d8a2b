use Rattle.std.proofs.Common.{rules, arith, ap, ◌∙◌, ◌≡◌, ◌++◌, ◌∷◌, [], length}
use Rattle.fv_graph.proofs.Lists.{length_more}
use Rattle.vl_flow_order.proofs.Bucketing.{one_row_more}
use Rattle.vl_flow_order.proofs.buckets.empty_rows.Goals as goal

pub rows-preserved : goal.rows-preserved
rows-preserved c =
    let items : c.push.new.self.items ≡ c.rows.rows.items ++ c.new.result ∷ [] = search rules in
    let more : c.push.new.self.items ≡ c.rows.rows.items ++ [] ∷ [] =
    items ∙ ap (λ r. c.rows.rows.items ++ r ∷ []) c.new.ensures in
    let size = ap length more ∙ length_more c.rows.rows.items [] in
    record {
      none = one_row_more c.rows.rows.items c.push.new.self.items c.rows.invariant.none more;
      few = omega (arith, size, c.rows-test.true, c.len.ensures);
    }
