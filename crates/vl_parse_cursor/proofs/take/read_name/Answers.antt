use Rattle.std.proofs.Common.{◌∙◌, ap, arith}
use Rattle.std.specs.Prelude.{Err}
use Rattle.vl_parse_grammar.specs.Machine.{syntax}
use Rattle.vl_parse_cursor.specs.Next.{behind_name, kinds_in}
use Rattle.vl_parse_cursor.proofs.Tokens.{name_wrong, kinds_length}
use Rattle.vl_parse_cursor.proofs.take.read_name.Goals as goal

pub returns-in_default-kind : goal.returns-in_default-kind
returns-in_default-kind c = record {
  found = tt;
  formed = tt;
  read = tt;
  shorter = tt;
  goes = ap (λ ts. behind_name (kinds_in ts)) c.in-Some.ensures.some
      ∙ name_wrong c.in-Some.first.now.kind (kinds_in c.in-Some.rest.now) c.in_default-kind.not-Name
      ∙ ap (λ l. Err (syntax l)) (grind (arith, kinds_length));
}
